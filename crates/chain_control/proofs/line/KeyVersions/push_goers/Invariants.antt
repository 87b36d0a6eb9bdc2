use Rattle.std.proofs.Common.{◌≡◌, ◌++◌, drop}
use Rattle.chain_control.specs.Chains.{chain_of, goers_after, goers}
use Rattle.chain_control.proofs.line.KeyVersions.push_goers.Given as goal

-- those so far, and of those that are left
abbrev pub invariant-loop-request : goal.invariant-loop-request
invariant-loop-request l = l.front.items ++ goers_after l.key l.ended l.new l.writer (drop l.request-index l.self.requests.items) ≡ l.fn.front.items ++ goers l.key l.ended l.new (chain_of l.self)
