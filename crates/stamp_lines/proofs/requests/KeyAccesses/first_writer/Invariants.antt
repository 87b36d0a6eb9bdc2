use Rattle.std.proofs.Common.{◌≡◌, drop}
use Rattle.stamp_lines.specs.Requests.{first_writer}
use Rattle.stamp_lines.proofs.requests.KeyAccesses.first_writer.Given as goal

-- none so far is a writer
abbrev pub invariant-loop-request : goal.invariant-loop-request
invariant-loop-request l = first_writer l.from l.ended (drop l.request-index l.self) ≡ first_writer l.from l.ended l.self
