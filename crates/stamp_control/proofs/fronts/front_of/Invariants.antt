use Rattle.std.proofs.Common.{◌≡◌, ◌++◌, drop}
use Rattle.stamp_control.specs.Fronts.{front_over}
use Rattle.stamp_control.proofs.fronts.front_of.Given as goal

-- those of the keys so far, and of those that are left
abbrev pub invariant-loop-key : goal.invariant-loop-key
invariant-loop-key l = l.front.items ++ front_over l.ended l.accesses (drop l.key-index l.keys) ≡ front_over l.ended l.accesses l.keys
