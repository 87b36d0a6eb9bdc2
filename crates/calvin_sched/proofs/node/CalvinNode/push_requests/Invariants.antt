use Rattle.std.proofs.Common.{◌≡◌, ◌++◌, take, map}
use Rattle.calvin_sched.specs.Asked.{request_of}
use Rattle.calvin_sched.proofs.node.CalvinNode.push_requests.Given as goal

-- the requests for those so far are at the end
abbrev pub invariant-loop-access : goal.invariant-loop-access
invariant-loop-access l = l.requests.items ≡ l.fn.requests.items ++ map (request_of l.id) (take l.access-index l.access-items)
