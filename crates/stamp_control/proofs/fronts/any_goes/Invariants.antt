use Rattle.std.proofs.Common.{◌≡◌, drop}
use Rattle.std.specs.List.{list_any}
use Rattle.stamp_control.specs.Fronts.{goes}
use Rattle.stamp_control.proofs.fronts.any_goes.Given as goal

-- none so far goes
abbrev pub invariant-loop-request : goal.invariant-loop-request
invariant-loop-request l = list_any (goes l.first) (drop l.request-index l.requests) ≡ list_any (goes l.first) l.requests
