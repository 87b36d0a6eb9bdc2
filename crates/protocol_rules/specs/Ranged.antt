-- Windows from what was read and what was accessed.
use Rattle.std.specs.Prelude.{ℕ, suc, ◌+◌, ◌-◌, ◌^◌, max, min, List, [], ◌∷◌, ◌++◌, map, filter, Bool, ◌&&◌, not, nat_lt, nat_le, if◌then◌else◌, ◌==◌}
use Rattle.std.specs.List.{list_any}
use Rattle.deneva_base.specs.declared.keys.Key.{Key}
use Rattle.deneva_base.specs.declared.numbers.Attempt.{Attempt}
use Rattle.deneva_base.specs.declared.keys.Mode.{Mode}
use Rattle.deneva_base.specs.declared.keys.Mode.TheVariants.{Read, Update, Put}
use Rattle.deneva_base.specs.Rows.{Rows}
use Rattle.deneva_base.specs.Keys.{key_eq, key_lt, attempt_eq, attempt_lt, number_lt}
use Rattle.deneva_base.specs.Modes.{reads}
use Rattle.deneva_base.specs.declared.causes.Cause.TheVariants.{EmptyRange}
use Rattle.deneva_base.specs.declared.answers.Answer.{Answer}
use Rattle.deneva_base.specs.declared.answers.Answer.TheVariants.{Granted}
use Rattle.deneva_base.specs.declared.answers.Vote.{Vote}
use Rattle.deneva_base.specs.declared.answers.Vote.TheVariants.{Yes, No}
use Rattle.deneva_base.specs.declared.causes.Bound.{Bound}
use Rattle.deneva_base.specs.declared.rows.Keyed.{Keyed}
use Rattle.protocol_rules.specs.History.{History, Grant, Yea, Decided, grants, yeas, decided}
use Rattle.protocol_rules.specs.Latest.{latest, has_ended, seen}
use Rattle.protocol_rules.specs.Least.{least_of}
use Rattle.deneva_base.specs.Lists.{greatest_by, least_by}

-- a row is listed for the key
abbrev pub lists : List Keyed → Key → Bool
lists ws key = list_any (λ w. key_eq w.key key) ws

-- the attempt accessed the key
abbrev pub accessed : History → Attempt → Key → Bool
accessed h u key = list_any (λ g. attempt_eq g.who u && key_eq g.key key) (grants h)

-- the attempt's vote lists a row for the key
abbrev pub wrote : History → Attempt → Key → Bool
wrote h u key = list_any (λ y. attempt_eq y.who u && lists y.writes key) (yeas h)

-- one past the number of each committed attempt that accessed the key
abbrev pub past_committed : History → Key → Decided → ℕ
past_committed h key d = if accessed h d.who key then suc d.number.n else 0

-- one past the upper end of each prepared one
abbrev pub past_prepared : History → Key → Yea → ℕ
past_prepared h key y = if not (has_ended h y.who) && accessed h y.who key then suc y.hi else 0

-- the greatest of these, and 0 without one
abbrev pub past : History → Key → ℕ
past h key = max (greatest_by (past_committed h key) (decided h)) (greatest_by (past_prepared h key) (yeas h))

-- the bound of an access to the key
abbrev pub bound_of : Rows → History → Key → Mode → ℕ
bound_of loaded h key Read = suc (latest loaded h key).number.n
bound_of loaded h key Update = max (suc (latest loaded h key).number.n) (past h key)
bound_of loaded h key Put = max 1 (past h key)

-- an access is granted with the row of the greatest committed number, a Put with no cells
abbrev pub grant_latest : Rows → History → Key → Mode → Answer
grant_latest loaded h key mode = Granted (seen mode (latest loaded h key)).row (seen mode (latest loaded h key)).number (bound_of loaded h key mode)

-- what an access of the attempt asks of the lower end: one past the version read, and for a key written what passes all that accessed it
abbrev pub low_of : History → Attempt → List Keyed → Grant → ℕ
low_of h who ws g = if attempt_eq g.who who then max (if reads g.mode then suc g.version.n else 0) (if lists ws g.key then past h g.key else 0) else 0

abbrev pub low : History → Attempt → Bound → List Keyed → ℕ
low h who bound ws = max 1 (max bound.n (greatest_by (low_of h who ws) (grants h)))

-- a prepared attempt limits the access of this one: it is to write the key read, with a window that ends above the version
abbrev pub limits_prepared : History → Attempt → Grant → Yea → Bool
limits_prepared h who g y = attempt_eq g.who who && (reads g.mode && (not (attempt_eq y.who who) && (not (has_ended h y.who) && (lists y.writes g.key && nat_lt g.version.n y.hi))))

-- to one below its lower end
abbrev pub under_prepared : History → Attempt → Grant → Yea → ℕ
under_prepared h who g y = if limits_prepared h who g y then y.lo - 1 else 2 ^ 63

-- a committed attempt limits it: it wrote the key read above the version
abbrev pub limits_committed : History → Attempt → Grant → Decided → Bool
limits_committed h who g d = attempt_eq g.who who && (reads g.mode && (wrote h d.who g.key && number_lt g.version d.number))

-- to one below its number
abbrev pub under_committed : History → Attempt → Grant → Decided → ℕ
under_committed h who g d = if limits_committed h who g d then d.number.n - 1 else 2 ^ 63

abbrev pub high : History → Attempt → ℕ
high h who = min (least_by (λ g. least_by (under_prepared h who g) (yeas h)) (grants h)) (least_by (λ g. least_by (under_committed h who g) (decided h)) (grants h))

-- the least of a list, and the first argument where it is empty
abbrev pub least_or : {A : Type 0} → (A → A → Bool) → A → List A → A
least_or below x [] = x
least_or below x (y ∷ ys) = least_of below y ys

-- the bound's key where it gives the lower end, else the least key that gives it by the measure
abbrev pub lo_key : History → Bound → (Grant → ℕ) → ℕ → Key
lo_key h bound f lo = if bound.n == lo then bound.key else least_or key_lt bound.key (map (λ g. g.key) (filter (λ g. f g == lo) (grants h)))

-- those that limit the attempt to this upper end
abbrev pub gives_prepared : History → Attempt → ℕ → Yea → Bool
gives_prepared h who hi y = list_any (λ g. limits_prepared h who g y && (y.lo - 1) == hi) (grants h)

abbrev pub gives_committed : History → Attempt → ℕ → Decided → Bool
gives_committed h who hi d = list_any (λ g. limits_committed h who g d && (d.number.n - 1) == hi) (grants h)

-- the least of them, and the attempt itself where there is none
abbrev pub hi_by : History → Attempt → ℕ → Attempt
hi_by h who hi = least_or attempt_lt who (map (λ y. y.who) (filter (gives_prepared h who hi) (yeas h)) ++ map (λ d. d.who) (filter (gives_committed h who hi) (decided h)))

-- No where the window is empty, else at most span numbers of it
abbrev pub window_vote : ℕ → Key → Attempt → ℕ → ℕ → Vote
window_vote span key by lo hi = if nat_le lo hi then Yes lo (min hi (lo + span - 1)) else No (EmptyRange lo key hi by)
