-- Stories by the homes of their transactions.
use Rattle.std.specs.Prelude.{ℕ, List, length, ◌==◌}
use Rattle.std.specs.List.{filter}
use Rattle.run_outcomes.specs.declared.stories.Story.{Story}

-- how many of them have their home there
abbrev pub at_home : ℕ → List Story → ℕ
at_home q ts = length (filter (λ (t : Story). t.home == q) ts)
