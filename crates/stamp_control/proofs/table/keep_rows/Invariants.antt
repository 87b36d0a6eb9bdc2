use Rattle.std.proofs.Common.{◌≡◌, ◌≤◌}
use Rattle.protocol_rules.specs.Conditions.{Distinct}
use Rattle.deneva_base.specs.Lists.{IsIn}
use Rattle.deneva_base.specs.declared.keys.Key.{Key}
use Rattle.deneva_base.specs.declared.rows.Keyed.{Keyed}
use Rattle.stamp_lines.specs.Tables.{requests_at}
use Rattle.stamp_control.specs.Pasts.{past_at}
use Rattle.stamp_control.specs.Changes.{kept_by}
use Rattle.stamp_control.proofs.table.keep_rows.Given as goal

-- the rows that are left lead on to the end, and there is room for them
abbrev pub invariant-loop-key : goal.invariant-loop-key
invariant-loop-key l =
    record {
      pasts : (key : Key) → kept_by l.number l.key-iterator.rest.items (requests_at l.accesses key) key (past_at l.pasts key) ≡ kept_by l.number l.fn.rows (requests_at l.accesses key) key (past_at l.fn.pasts key);
      distinct : Distinct l.key-iterator.rest.items;
      spare : (w : Keyed) → IsIn w l.key-iterator.rest.items → 1 ≤ (past_at l.pasts w.key).spare;
    }
