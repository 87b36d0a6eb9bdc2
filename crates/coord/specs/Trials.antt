-- A small workload, and lists of messages that fit one after another.
use Rattle.std.specs.Prelude.{⊤, ℕ, List, [], ◌∷◌}
use Rattle.deneva_base.specs.declared.rows.Cell.TheVariants.{Text}
use Rattle.deneva_base.specs.declared.rows.Keyed.{Keyed}
use Rattle.txn_program.specs.Transactions.{ycsb_key}
use Rattle.txn_program.specs.declared.programs.Program.{Program}
use Rattle.txn_program.specs.declared.programs.Program.TheVariants.{Ycsb}
use Rattle.txn_program.specs.declared.programs.WorkKind.TheVariants as kind
use Rattle.txn_program.specs.declared.programs.Workload.{Workload}
use Rattle.txn_program.specs.declared.programs.YcsbAct.TheVariants.{Read}
use Rattle.server_core.specs.Roles.{Role, FitsRole}
use Rattle.server_core.specs.declared.messages.Msg.{Msg}

abbrev pub one_field : ℕ → Keyed
one_field a = record { key = ycsb_key a; row = Text [] ∷ [] }

abbrev pub one_read : ℕ → Program
one_read a = Ycsb (record { key = a; act = Read } ∷ [])

-- two transactions that read one row each
abbrev pub two_reads : ℕ → ℕ → Workload
two_reads a b = record { load = record { kind = kind.Ycsb; fields = 1; rows = one_field a ∷ one_field b ∷ []; items = [] }; programs = one_read a ∷ one_read b ∷ [] }

-- each of these fits those before it
unfoldable pub FitInTurn : Role → List Msg → List Msg → Type 0
FitInTurn r ms [] = ⊤
FitInTurn r ms (m ∷ more) = ((from : ℕ) × FitsRole r from m ms) × FitInTurn r (m ∷ ms) more
