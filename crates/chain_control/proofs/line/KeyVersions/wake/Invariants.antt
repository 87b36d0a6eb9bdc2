use Rattle.std.proofs.Common.{◌≡◌, ◌++◌, map, take, drop}
use Rattle.chain_control.specs.Requests.{grants_to}
use Rattle.chain_control.proofs.line.KeyVersions.wake.Given as goal

-- those so far are changed
abbrev pub invariant-loop-request : goal.invariant-loop-request
invariant-loop-request l = l.request-items ≡ map (grants_to l.who) (take l.request-index l.initial.request-items) ++ drop l.request-index l.initial.request-items
