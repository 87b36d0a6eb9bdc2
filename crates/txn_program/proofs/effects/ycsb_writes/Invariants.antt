use Rattle.std.proofs.Common.{◌≡◌, ◌++◌, drop}
use Rattle.std.specs.Prelude.{filter, map}
use Rattle.std.specs.List.{filter_map}
use Rattle.deneva_base.specs.declared.rows.Keyed.{Keyed}
use Rattle.tpcc_rules.specs.ReadRows.{as_read}
use Rattle.txn_program.specs.Transactions.{is_within, written}
use Rattle.txn_program.proofs.effects.ycsb_writes.Given as goal

-- what was written so far, and what of the writes of the steps that are left is made
abbrev pub invariant-loop-step : goal.invariant-loop-step
invariant-loop-step l =
    l.writes ++ filter (λ (r : Keyed). is_within l.made r.key) (filter_map (written (map as_read l.rows)) (drop l.step-index l.steps)) ≡ filter (λ (r : Keyed). is_within l.made r.key) (filter_map (written (map as_read l.rows)) l.steps)
