use Rattle.std.proofs.Common.{◌≡◌, map, rules, ap, ◌∙◌}
use Rattle.std.specs.List.{filter}
use Rattle.std.specs.List.Sorted.{IsSorted}
use Rattle.std.specs.Ordering.{is_lt, is_eq}
use Rattle.std.proofs.lemmas.List.Sorted.{IsPartitionPoint-from_clause}
use Rattle.tpcc_rules.specs.Names.{last_name_place, name_order, is_customer, namesakes}
use Rattle.tpcc_rules.proofs.NameOrder.{below_partitioned, rest_partitioned, named_front}
use Rattle.tpcc_rules.proofs.names.Namesakes.named.Goals as goal

pub returns : goal.returns
returns c =
    let xs = c.as_slice-sorted.result.now in
    let w = c.args.w in
    let d = c.args.d in
    let last = c.args.last.now in
    let low = c.partition_point-low.result in
    let rest = c.split_at.result.1.now in
    let there : c.as_slice-sorted.result.now ≡ c.self.inside.sorted.items = search rules in
    let inv : IsSorted name_order (map (λ r. r.now) c.as_slice-sorted.result.now) × (filter is_customer (map (λ r. r.now) c.as_slice-sorted.result.now) ≡ map (λ r. r.now) c.as_slice-sorted.result.now) = rw there c.self.invariant in
    let first = IsPartitionPoint-from_clause (λ r. is_lt (last_name_place r.now w d last)) xs low c.partition_point-low.ensures.partitioned (below_partitioned (λ r. r.now) w d last xs inv.0) (λ a r f q. search rules) in
    let count =
    IsPartitionPoint-from_clause (λ r. is_eq (last_name_place r.now w d last)) rest c.partition_point-count.result c.partition_point-count.ensures.partitioned
    (rest_partitioned (λ r. r.now) w d last xs inv.0 low rest c.split_at.ensures.back c.partition_point-low.ensures.bound first.1) (λ a r f q. search rules) in
    named_front (λ r. r.now) w d last xs inv.0 low c.partition_point-count.result rest c.split_at.ensures.back c.partition_point-low.ensures.bound first.0 inv.1 count.0 count.1 c.partition_point-count.ensures.bound
    ∙ ap (λ rows. namesakes rows w d last) (ap (map (λ r. r.now)) there ∙ c.self.view_is)
