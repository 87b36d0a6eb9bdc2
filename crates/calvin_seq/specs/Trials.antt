-- A small workload.
use Rattle.std.specs.Prelude.{ℕ, [], ◌∷◌, map}
use Rattle.deneva_base.specs.declared.rows.Cell.TheVariants.{Text}
use Rattle.deneva_base.specs.declared.rows.Keyed.{Keyed}
use Rattle.txn_program.specs.Transactions.{ycsb_key}
use Rattle.txn_program.specs.declared.programs.Program.{Program}
use Rattle.txn_program.specs.declared.programs.Program.TheVariants.{Ycsb}
use Rattle.txn_program.specs.declared.programs.WorkKind.TheVariants as kind
use Rattle.txn_program.specs.declared.programs.Workload.{Workload}
use Rattle.txn_program.specs.declared.programs.YcsbAct.TheVariants.{Read}

abbrev pub one_field : ℕ → Keyed
one_field a = record { key = ycsb_key a; row = Text [] ∷ [] }

abbrev pub one_read : ℕ → Program
one_read a = Ycsb (record { key = a; act = Read } ∷ [])

-- ten transactions that read one row each: the third that of key 0, and the others that of key 1
abbrev pub ten_reads : Workload
ten_reads = record {
  load = record { kind = kind.Ycsb; fields = 1; rows = one_field 0 ∷ one_field 1 ∷ []; items = [] };
  programs = map one_read (1 ∷ 1 ∷ 0 ∷ 1 ∷ 1 ∷ 1 ∷ 1 ∷ 1 ∷ 1 ∷ 1 ∷ []);
}
