use Rattle.std.proofs.Common.{◌≡◌, drop, option_map}
use Rattle.stamp_control.specs.Picks.{pick_from, pick}
use Rattle.stamp_control.proofs.pasts.Past.pick.Given as goal

-- the best so far with those that are left
abbrev pub invariant-loop-version : goal.invariant-loop-version
invariant-loop-version l = pick_from l.stamp (option_map (λ v. v.now) l.best) (drop l.version-index l.self.kept.items) ≡ pick l.stamp l.self.kept.items
