-- The unended accesses to one key as a list, by rising stamp.
use Rattle.std.specs.Prelude.{ℕ, List, [], ◌∷◌, Bool, true, false, not, ◌&&◌, nat_lt, nat_le, Option, Some, None, option_map, if◌then◌else◌}
use Rattle.std.specs.List.{list_any}
use Rattle.deneva_base.specs.declared.numbers.Attempt.{Attempt}
use Rattle.deneva_base.specs.declared.numbers.Number.{Number}
use Rattle.deneva_base.specs.Keys.{attempt_eq, number_lt, number_eq, loaded_version}
use Rattle.deneva_base.specs.Modes.{writes}
use Rattle.deneva_base.specs.declared.keys.Key.{Key}
use Rattle.chain_control.specs.declared.requests.Request.{Request}
use Rattle.chain_control.specs.declared.requests.Waiter.{Waiter}

-- the number of the version below a stamp, once the key was written under a new number, if it was
abbrev pub raised : Option Number → ℕ → Number → Number
raised None stamp version = version
raised (Some number) stamp version = if nat_lt number.n stamp && number_lt version number then number else version

-- it writes, with a stamp above the one and below the other
abbrev pub stands_between : ℕ → ℕ → Request → Bool
stands_between low stamp r = writes r.mode && (nat_lt low r.stamp && nat_lt r.stamp stamp)

abbrev pub is_none : Option Number → Bool
is_none None = true
is_none (Some v) = false

-- it is granted and stands between
abbrev pub stops : ℕ → ℕ → Request → Bool
stops low stamp r = is_none r.waits && stands_between low stamp r

abbrev pub is_stopped : ℕ → ℕ → List Request → Bool
is_stopped low stamp rs = list_any (stops low stamp) rs

-- it waits for a version that is not below the last writer before it, once the key was written under a number, if it was
abbrev pub past_with : ℕ → Option Number → ℕ → Option Number → Bool
past_with writer new stamp None = false
past_with writer new stamp (Some version) = nat_le writer (raised new stamp version).n

abbrev pub goes_past : ℕ → Option Number → Request → Bool
goes_past writer new r = past_with writer new r.stamp r.waits

-- the stamp of the last writer up to this one, other than the attempt that ends
abbrev pub writer_after : Attempt → ℕ → Request → ℕ
writer_after ended writer r = if writes r.mode && not (attempt_eq r.who ended) then r.stamp else writer

-- the number that a waiter reads then
abbrev pub reads_with : Option Number → ℕ → Option Number → Number
reads_with new stamp None = loaded_version
reads_with new stamp (Some version) = raised new stamp version

-- what is woken of it
abbrev pub waiter_for : Key → Option Number → Request → Waiter
waiter_for key new r = record { who = r.who; stamp = r.stamp; key = key; version = reads_with new r.stamp r.waits }

-- it waits for the version of this number
abbrev pub awaits_with : Number → Option Number → Bool
awaits_with number None = false
awaits_with number (Some version) = number_eq version number

abbrev pub awaits : Number → Request → Bool
awaits number r = awaits_with number r.waits

abbrev pub has_request : Attempt → List Request → Bool
has_request who rs = list_any (λ r. attempt_eq r.who who) rs

-- the stamp of the attempt's request, or 0
abbrev pub stamp_among : Attempt → List Request → ℕ
stamp_among who [] = 0
stamp_among who (r ∷ rs) = if attempt_eq r.who who then r.stamp else stamp_among who rs

-- the request after those of the attempt are granted
abbrev pub grants_to : Attempt → Request → Request
grants_to who r = record { who = r.who; stamp = r.stamp; mode = r.mode; waits = (if attempt_eq r.who who then None else r.waits) }

-- the request after the key was written under a number
abbrev pub overtaken : Number → Request → Request
overtaken number r = record { who = r.who; stamp = r.stamp; mode = r.mode; waits = option_map (raised (Some number) r.stamp) r.waits }

-- the requests, by rising stamp, with one more
abbrev pub put_request : Request → List Request → List Request
put_request r [] = r ∷ []
put_request r (x ∷ xs) = if nat_lt x.stamp r.stamp then x ∷ put_request r xs else r ∷ x ∷ xs
