-- What came of a run.
use Rattle.std.specs.Prelude.{List, [], ◌∷◌, map, Option, None}
use Rattle.std.specs.List.{flat_map}
use Rattle.protocol_rules.specs.Leaving.{later, row_or}
use Rattle.protocol_rules.specs.Latest.{Version, row_for}
use Rattle.deneva_base.specs.Rows.{Rows, row_or_empty, put_all, in_key_order}
use Rattle.deneva_base.specs.declared.config.Config.{Config}
use Rattle.deneva_base.specs.declared.keys.Key.{Key}
use Rattle.deneva_base.specs.declared.rows.Keyed.{Keyed}
use Rattle.txn_program.specs.declared.programs.Workload.{Workload}
use Rattle.server_core.specs.Effects.{leaves}
use Rattle.server_core.specs.Family.{Family, family}
use Rattle.server_core.specs.Setting.{Setting, setting}
use Rattle.server_core.specs.declared.messages.Entry.{Entry}
use Rattle.server_core.specs.declared.outcomes.AbortLine.{AbortLine}
use Rattle.server_core.specs.declared.outcomes.Decided.{Decided}
use Rattle.server_core.specs.declared.outcomes.Giveup.{Giveup}
use Rattle.server_core.specs.declared.outcomes.Outcome.{Outcome}
use Rattle.server_core.specs.declared.outcomes.RunKind.TheVariants.{Under}

-- The last rows.

-- the rows that a decided transaction leaves
abbrev pub left_by : Setting → Decided → List Keyed
left_by s l = leaves (s.effect l.number.id l.reads)

-- the row of the greatest number that one of them leaves for the key
abbrev pub greatest : Setting → Key → List Decided → Option Version
greatest s key [] = None
greatest s key (l ∷ ls) = later (greatest s key ls) l.number (row_for key (left_by s l))

-- for each key that row, and else the loaded one
abbrev pub rows_of : Setting → List Decided → Rows
rows_of s ls key = row_or (s.loaded key) (greatest s key ls)

-- the keys that are loaded and those for which a row is left, in key order, each with its row
abbrev pub last_rows : Setting → List Keyed → List Decided → List Keyed
last_rows s loaded ls = map (λ r. record { key = r.key; row = row_or_empty (rows_of s ls r.key) }) (put_all (in_key_order loaded) (flat_map (left_by s) ls))

abbrev pub outcome_with : Config → Workload → List Decided → List Giveup → List AbortLine → Outcome
outcome_with c w ls giveups aborts = record {
  kind = Under c.protocol;
  parts = c.parts;
  decided = ls;
  giveups = giveups;
  aborts = aborts;
  rows = last_rows (setting c w) w.load.rows ls;
}

-- what came of a run by what a family says of it
abbrev pub outcome_in : Family → Config → Workload → List Entry → Outcome
outcome_in f c w H = let s = setting c w in outcome_with c w (f.decided s H) (f.giveups s H) (f.aborts s H)

-- what came of a run, whose entries are listed with the newest first
abbrev pub outcome : Config → Workload → List Entry → Outcome
outcome c w H = outcome_in (family c.protocol) c w H
