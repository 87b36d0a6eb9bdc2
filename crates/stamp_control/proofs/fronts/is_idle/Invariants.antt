use Rattle.std.proofs.Common.{◌≡◌, drop}
use Rattle.protocol_rules.specs.WaitDie.{none}
use Rattle.stamp_control.specs.Fronts.{front_over}
use Rattle.stamp_control.proofs.fronts.is_idle.Given as goal

-- those of the keys that are left lead to the same
abbrev pub invariant-loop-key : goal.invariant-loop-key
invariant-loop-key l = none (front_over l.ended l.accesses (drop l.key-index l.keys)) ≡ none (front_over l.ended l.accesses l.keys)
