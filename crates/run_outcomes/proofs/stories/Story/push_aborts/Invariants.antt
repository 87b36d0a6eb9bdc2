use Rattle.std.proofs.Common.{◌≡◌, ◌++◌, List}
use Rattle.server_core.specs.Aborts.{turns}
use Rattle.server_core.specs.declared.messages.Entry.{Entry}
use Rattle.server_core.specs.Roles.{setting_of}
use Rattle.run_outcomes.specs.Stories.{Tells}
use Rattle.run_outcomes.proofs.stories.Story.push_aborts.Given as goal

-- the lines of the turns so far stand at the end
abbrev pub invariant-loop-turn : goal.invariant-loop-turn
invariant-loop-turn l = (H : List Entry) → Tells l.role H l.self → l.lines ≡ l.initial.lines ++ turns (setting_of l.role) H l.self.id l.turn
