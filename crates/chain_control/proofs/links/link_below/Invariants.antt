use Rattle.std.proofs.Common.{◌≡◌, drop, None, option_map}
use Rattle.chain_control.specs.Links.{link_below}
use Rattle.chain_control.proofs.links.link_below.Given as goal

-- the best so far with those that are left
abbrev pub invariant-loop-link : goal.invariant-loop-link
invariant-loop-link l = link_below l.stamp (option_map (λ x. x.now) l.best) (drop l.link-index l.links) ≡ link_below l.stamp None l.links
