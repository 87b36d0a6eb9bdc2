-- The rows of an outcome.
use Rattle.std.proofs.Common.{◌≡◌, true, List, [], refl}
use Rattle.std.specs.List.{flat_map}
use Rattle.deneva_base.specs.Rising.{keys_rise}
use Rattle.deneva_base.specs.Rows.{row_of, row_or_empty, put_all, in_key_order}
use Rattle.deneva_base.specs.declared.config.Config.{Config}
use Rattle.deneva_base.specs.declared.keys.Key.{Key}
use Rattle.deneva_base.specs.declared.rows.Keyed.{Keyed}
use Rattle.deneva_base.proofs.PutRows.{keys_rise-put_all}
use Rattle.txn_program.specs.declared.programs.Workload.{Workload}
use Rattle.server_core.specs.Outcome.{outcome, last_rows, left_by, rows_of}
use Rattle.server_core.specs.Setting.{Setting, setting}
use Rattle.server_core.specs.declared.messages.Entry.{Entry}
use Rattle.server_core.specs.declared.outcomes.Decided.{Decided}
use Rattle.replay.proofs.SameRows.{rises-with, same_rows}

last_rise : (s : Setting) (loaded : List Keyed) (ls : List Decided) → keys_rise (last_rows s loaded ls) ≡ true
last_rise s loaded ls =
    rises-with (λ r. row_or_empty (rows_of s ls r.key)) (put_all (in_key_order loaded) (flat_map (left_by s) ls))
    (keys_rise-put_all (in_key_order loaded) (flat_map (left_by s) ls) (keys_rise-put_all [] loaded refl))

-- an outcome lists its rows in key order
pub outcome_rises : (c : Config) (w : Workload) (H : List Entry) → keys_rise (outcome c w H).rows ≡ true
outcome_rises c w H = last_rise (setting c w) w.load.rows _

-- so rows in key order that agree with it at each key are its rows
pub outcome_rows : (c : Config) (w : Workload) (H : List Entry) (rows : List Keyed) → keys_rise rows ≡ true → ((key : Key) → row_of rows key ≡ row_of (outcome c w H).rows key) → rows ≡ (outcome c w H).rows
outcome_rows c w H rows rise same = same_rows rows (outcome c w H).rows rise (outcome_rises c w H) same
