-- The requests for one key as a list.
use Rattle.std.specs.Prelude.{ℕ, List, [], ◌∷◌, Bool, true, not, ◌&&◌, nat_lt, nat_le, filter, map, Option, Some, None, if◌then◌else◌}
use Rattle.std.specs.List.{list_any}
use Rattle.deneva_base.specs.declared.numbers.Attempt.{Attempt}
use Rattle.deneva_base.specs.Keys.{attempt_eq}
use Rattle.deneva_base.specs.Modes.{writes}
use Rattle.stamp_lines.specs.declared.requests.Request.{Request}

-- a granted access that writes, with a stamp above `from` and below this one
abbrev pub stops : ℕ → ℕ → Request → Bool
stops from stamp r = not r.waits && (writes r.mode && (nat_lt from r.stamp && nat_lt r.stamp stamp))

abbrev pub is_stopped : ℕ → ℕ → List Request → Bool
is_stopped from stamp rs = list_any (stops from stamp) rs

-- one that writes, granted or waiting, with a stamp above `from`, other than the ended attempt's
abbrev pub is_writer : ℕ → Attempt → Request → Bool
is_writer from ended r = not (attempt_eq r.who ended) && (writes r.mode && nat_lt from r.stamp)

-- the stamp of the first of these
abbrev pub first_writer : ℕ → Attempt → List Request → Option ℕ
first_writer from ended [] = None
first_writer from ended (r ∷ rs) = if is_writer from ended r then Some r.stamp else first_writer from ended rs

-- a stamp that is not above the first writer's
abbrev pub reaches : Option ℕ → ℕ → Bool
reaches None stamp = true
reaches (Some first) stamp = nat_le stamp first

-- the requests, by rising stamp, with one more
abbrev pub put_request : Request → List Request → List Request
put_request r [] = r ∷ []
put_request r (x ∷ xs) = if nat_lt x.stamp r.stamp then x ∷ put_request r xs else r ∷ x ∷ xs

-- the attempt's request is taken out
abbrev pub without : Attempt → List Request → List Request
without who rs = filter (λ r. not (attempt_eq r.who who)) rs

-- the attempt's request is granted
abbrev pub grants_to : Attempt → Request → Request
grants_to who r = record { who = r.who; stamp = r.stamp; mode = r.mode; waits = not (attempt_eq r.who who) && r.waits }

abbrev pub granted : Attempt → List Request → List Request
granted who rs = map (grants_to who) rs
