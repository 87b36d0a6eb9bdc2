use Rattle.std.proofs.Common.{◌≡◌, ◌++◌, map, take, drop}
use Rattle.chain_control.specs.Links.{read_by}
use Rattle.chain_control.proofs.links.read.Given as goal

-- those so far are marked
abbrev pub invariant-loop-link : goal.invariant-loop-link
invariant-loop-link l = l.links ≡ map (read_by l.number l.stamp) (take l.link-index l.fn.links) ++ drop l.link-index l.fn.links
