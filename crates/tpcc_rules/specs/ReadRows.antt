-- Rows as transactions read them.
use Rattle.std.specs.Prelude.{option_map}
use Rattle.deneva_base.specs.Rows.{row_or_empty}
use Rattle.deneva_base.specs.declared.rows.Keyed.{Keyed}
use Rattle.tpcc_rules.specs.declared.read_rows.ReadRow.{ReadRow}

-- a row as it is read: one without cells where the key is absent
abbrev pub as_read : ReadRow → Keyed
as_read r = record { key = r.key; row = row_or_empty (option_map (λ c. c.now) r.row) }
