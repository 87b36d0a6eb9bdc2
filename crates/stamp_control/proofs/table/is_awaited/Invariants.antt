use Rattle.std.proofs.Common.{◌≡◌, drop}
use Rattle.stamp_control.specs.Changes.{any_above}
use Rattle.stamp_control.proofs.table.is_awaited.Given as goal

-- none so far waits above the number
abbrev pub invariant-loop-request : goal.invariant-loop-request
invariant-loop-request l = any_above l.n (drop l.request-index l.requests) ≡ any_above l.n l.requests
