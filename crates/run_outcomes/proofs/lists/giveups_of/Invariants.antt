use Rattle.std.proofs.Common.{◌≡◌, List, map, take}
use Rattle.std.specs.List.{All, flat_map}
use Rattle.server_core.specs.declared.messages.Entry.{Entry}
use Rattle.run_outcomes.specs.ByTransaction.{giveups_for}
use Rattle.server_core.specs.Roles.{setting_of}
use Rattle.run_outcomes.specs.Stories.{Tells}
use Rattle.run_outcomes.proofs.lists.giveups_of.Given as goal

-- those of the stories so far
abbrev pub invariant-loop-story : goal.invariant-loop-story
invariant-loop-story l = (H : List Entry) → All (Tells l.role H) l.stories → l.list ≡ flat_map (giveups_for (setting_of l.role) H) (map (λ t. t.id) (take l.story-index l.stories))
