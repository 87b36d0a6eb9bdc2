-- The partitions from which something is still to come.
use Rattle.std.specs.Prelude.{ℕ, List, filter, not, ◌==◌}
use Rattle.std.specs.List.{list_any}
use Rattle.server_core.specs.declared.ballots.Ballot.{Ballot}

-- those that have not voted
abbrev pub left_to_vote : List Ballot → List ℕ → List ℕ
left_to_vote bs qs = filter (λ q. not (list_any (λ b. b.part == q) bs)) qs

-- those that have not closed
abbrev pub left_to_close : List ℕ → List ℕ → List ℕ
left_to_close cs qs = filter (λ q. not (list_any (λ c. c == q) cs)) qs
