use Rattle.std.proofs.Common.{◌≡◌, ◌++◌, drop}
use Rattle.std.specs.Prelude.{map, filter}
use Rattle.deneva_base.specs.Modes.{reads}
use Rattle.deneva_base.specs.Partitions.{partition_of}
use Rattle.deneva_base.specs.Rows.{row_at}
use Rattle.deneva_base.specs.declared.keys.Access.{Access}
use Rattle.deneva_base.specs.declared.rows.Keyed.{Keyed}
use Rattle.tpcc_rules.specs.ReadRows.{as_read}
use Rattle.calvin_sched.specs.Reading.{rows_with}
use Rattle.calvin_sched.proofs.node.CalvinNode.collect.Given as goal

-- those so far and those of what is left are those of all
abbrev pub invariant-loop-access : goal.invariant-loop-access
invariant-loop-access l =
    let row : Access → Keyed = λ a. record { key = a.key; row = row_at (rows_with l.arrived l.part l.rows (partition_of a.key l.self.role.config.parts)) a.key } in
    map as_read l.collected.items ++ map row (filter (λ a. reads a.mode) (drop l.access-index l.access-items)) ≡ map row (filter (λ a. reads a.mode) l.access-items)
