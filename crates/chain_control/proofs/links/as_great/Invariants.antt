use Rattle.std.proofs.Common.{◌≡◌, ◌≤◌, ◌+◌, drop}
use Rattle.chain_control.specs.Links.{as_great}
use Rattle.chain_control.proofs.links.as_great.Given as goal

-- those so far, and those that are left
abbrev pub invariant-loop-link : goal.invariant-loop-link
invariant-loop-link l =
    record {
      counted : l.count + as_great (drop l.link-index l.links) l.number ≡ as_great l.links l.number;
      few : l.count ≤ l.link-index;
    }
