use Rattle.std.proofs.Common.{◌≡◌, drop}
use Rattle.stamp_lines.specs.Requests.{is_stopped}
use Rattle.stamp_lines.proofs.requests.KeyAccesses.is_stopped.Given as goal

-- none so far stops it
abbrev pub invariant-loop-request : goal.invariant-loop-request
invariant-loop-request l = is_stopped l.from l.stamp (drop l.request-index l.self) ≡ is_stopped l.from l.stamp l.self
