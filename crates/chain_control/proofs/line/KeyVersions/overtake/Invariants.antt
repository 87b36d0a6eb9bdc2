use Rattle.std.proofs.Common.{◌≡◌, ◌++◌, map, take, drop}
use Rattle.chain_control.specs.Requests.{overtaken}
use Rattle.chain_control.proofs.line.KeyVersions.overtake.Given as goal

-- those so far are changed
abbrev pub invariant-loop-request : goal.invariant-loop-request
invariant-loop-request l = l.request-items ≡ map (overtaken l.number) (take l.request-index l.initial.request-items) ++ drop l.request-index l.initial.request-items
