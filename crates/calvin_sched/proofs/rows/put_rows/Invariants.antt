use Rattle.std.proofs.Common.{◌≡◌, ◌≤◌, length}
use Rattle.deneva_base.specs.Rows.{row_of}
use Rattle.deneva_base.specs.declared.keys.Key.{Key}
use Rattle.row_store.specs.Stores.{version_at}
use Rattle.calvin_sched.specs.Versions.{offered}
use Rattle.calvin_sched.proofs.rows.put_rows.Given as goal

-- the rows that are left lead on to the end
abbrev pub invariant-loop-key : goal.invariant-loop-key
invariant-loop-key l =
    record {
      left : (key : Key) → offered (version_at l.store key) l.number (row_of l.key-iterator.rest.items key) ≡ offered (version_at l.fn.store key) l.number (row_of l.fn.left key);
      room : length l.key-iterator.rest.items ≤ l.store.spare;
    }
