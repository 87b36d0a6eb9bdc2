use Rattle.std.proofs.Common.{◌≡◌, map, take}
use Rattle.server_core.specs.Runs.{heard}
use Rattle.run_outcomes.proofs.stories.messages_at.Given as goal

-- those among the entries so far
abbrev pub invariant-loop-entry : goal.invariant-loop-entry
invariant-loop-entry l = map (λ m. m.now) l.messages.items ≡ heard l.node (map (λ e. e.now) (take l.entry-index l.entries))
