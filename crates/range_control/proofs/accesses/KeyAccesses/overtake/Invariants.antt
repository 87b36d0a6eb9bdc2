use Rattle.std.proofs.Common.{◌≡◌, ◌++◌, map, take, drop}
use Rattle.range_control.specs.Accesses.{overtaken}
use Rattle.range_control.proofs.accesses.KeyAccesses.overtake.Given as goal

-- those so far are overtaken
abbrev pub invariant-loop-held : goal.invariant-loop-held
invariant-loop-held l = l.held-items ≡ map (overtaken l.by l.number) (take l.held-index l.initial.held-items) ++ drop l.held-index l.initial.held-items
