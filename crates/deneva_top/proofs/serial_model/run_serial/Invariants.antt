use Rattle.std.proofs.Common.{◌≡◌, ◌++◌, drop}
use Rattle.deneva_base.specs.Rows.{rows_in, in_key_order}
use Rattle.txn_program.specs.Serial.{turns, last_map}
use Rattle.deneva_top.proofs.serial_model.run_serial.Given as goal

-- the turns so far and those that are left, from the map so far
abbrev pub invariant-loop-id : goal.invariant-loop-id
invariant-loop-id l =
    record {
      turns : l.runs ++ turns l.work (rows_in l.rows.entries) (drop l.id-index l.id-items) ≡ turns l.work (in_key_order l.work.load.rows) l.id-items;
      rows : last_map l.work (rows_in l.rows.entries) (drop l.id-index l.id-items) ≡ last_map l.work (in_key_order l.work.load.rows) l.id-items;
      same : l.id-items ≡ l.order;
    }
