-- What the two lock rules share.
use Rattle.std.specs.Prelude.{ℕ, ◌+◌, ◌^◌, max, List, [], ◌∷◌, filter, ◌&&◌, ◌||◌, not, Bool, if◌then◌else◌}
use Rattle.std.specs.List.{list_any}
use Rattle.deneva_base.specs.declared.keys.Key.{Key}
use Rattle.deneva_base.specs.declared.numbers.Attempt.{Attempt}
use Rattle.deneva_base.specs.declared.keys.Mode.{Mode}
use Rattle.deneva_base.specs.Keys.{key_eq, attempt_eq, attempt_lt}
use Rattle.deneva_base.specs.Modes.{writes}
use Rattle.deneva_base.specs.declared.answers.Vote.{Vote}
use Rattle.deneva_base.specs.declared.answers.Vote.TheVariants.{Yes}
use Rattle.protocol_rules.specs.History.{History, Asked, Grant, Decided, grants, decided}
use Rattle.protocol_rules.specs.Latest.{has_ended}
use Rattle.protocol_rules.specs.Least.{least_of}

abbrev pub conflicts : Attempt → Key → Mode → Attempt → Key → Mode → Bool
conflicts who key mode by k m = key_eq key k && (not (attempt_eq who by) && (writes mode || writes m))

abbrev pub clash : Grant → Grant → Bool
clash a b = conflicts a.who a.key a.mode b.who b.key b.mode

-- the granted accesses of unended attempts
abbrev pub owners : History → List Grant
owners h = filter (λ g. not (has_ended h g.who)) (grants h)

-- those among them that conflict with an access
abbrev pub blockers : History → Asked → List Grant
blockers h a = filter (λ g. conflicts g.who g.key g.mode a.who a.key a.mode) (owners h)

-- it is of a lesser attempt
abbrev pub of_lesser : Grant → Grant → Bool
of_lesser x g = attempt_lt x.who g.who

-- that of the least attempt
abbrev pub least : Grant → List Grant → Grant
least g gs = least_of of_lesser g gs

-- the committed attempt had an access that conflicted with one of the attempt's
abbrev pub met : History → Attempt → Decided → Bool
met h who d = list_any (λ mine. attempt_eq mine.who who && list_any (λ other. attempt_eq other.who d.who && clash other mine) (grants h)) (grants h)

-- the greatest n of those committed attempts, and 0 without one
abbrev pub greatest_met : History → Attempt → List Decided → ℕ
greatest_met h who [] = 0
greatest_met h who (d ∷ ds) = max (if met h who d then d.number.n else 0) (greatest_met h who ds)

abbrev pub lock_vote : History → Attempt → Vote
lock_vote h who = Yes (1 + greatest_met h who (decided h)) (2 ^ 63)
