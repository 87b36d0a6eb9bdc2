use Rattle.std.proofs.Common.{◌≡◌, drop}
use Rattle.deneva_base.specs.declared.keys.Key.{Key}
use Rattle.chain_control.specs.Chains.{chain_of, goers_after, goers}
use Rattle.chain_control.specs.Tables.{no_one}
use Rattle.chain_control.proofs.line.KeyVersions.is_idle.Given as goal

-- those that are left lead to the same
abbrev pub invariant-loop-request : goal.invariant-loop-request
invariant-loop-request l = (key : Key) → no_one (goers_after key l.ended l.new l.writer (drop l.request-index l.self.requests.items)) ≡ no_one (goers key l.ended l.new (chain_of l.self))
