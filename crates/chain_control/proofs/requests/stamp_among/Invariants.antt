use Rattle.std.proofs.Common.{◌≡◌, drop}
use Rattle.chain_control.specs.Requests.{stamp_among}
use Rattle.chain_control.proofs.requests.stamp_among.Given as goal

-- none of the requests so far is the attempt's
abbrev pub invariant-loop-request : goal.invariant-loop-request
invariant-loop-request l = stamp_among l.who (drop l.request-index l.requests) ≡ stamp_among l.who l.requests
