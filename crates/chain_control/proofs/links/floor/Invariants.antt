use Rattle.std.proofs.Common.{◌≡◌, drop, cond, leb, max}
use Rattle.deneva_base.specs.Lists.{greatest_by}
use Rattle.chain_control.specs.Links.{as_great}
use Rattle.chain_control.proofs.links.floor.Given as goal

-- the greatest so far with those that are left
abbrev pub invariant-loop-link : goal.invariant-loop-link
invariant-loop-link l =
    max l.floor (greatest_by (λ x. cond (leb l.keep (as_great l.links x.number)) x.number.n 0) (drop l.link-index l.links)) ≡ greatest_by (λ x. cond (leb l.keep (as_great l.links x.number)) x.number.n 0) l.links
