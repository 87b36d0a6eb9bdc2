-- An outcome that the serial execution of its decided transactions gives.
use Rattle.std.specs.Prelude.{◌≡◌, ⊤, List, [], ◌∷◌, ◌++◌, map, IsPermutation}
use Rattle.deneva_base.specs.Keys.{NumberLt}
use Rattle.deneva_base.specs.Lists.{IsIn}
use Rattle.deneva_base.specs.declared.numbers.TxnId.{TxnId}
use Rattle.txn_program.specs.Serial.{serial, all_ids}
use Rattle.txn_program.specs.declared.programs.Workload.{Workload}
use Rattle.txn_program.specs.declared.serial.SerialTxn.{SerialTxn}
use Rattle.server_core.specs.declared.outcomes.Decided.{Decided}
use Rattle.server_core.specs.declared.outcomes.Giveup.{Giveup}
use Rattle.server_core.specs.declared.outcomes.Outcome.{Outcome}

-- what a decided transaction read, its verdict and its answer
abbrev pub ran : Decided → SerialTxn
ran l = record { id = l.number.id; reads = l.reads; verdict = l.verdict; answer = l.answer }

-- each number is below all that follow
abbrev pub Rises : List Decided → Type 0
Rises [] = ⊤
Rises (l ∷ ls) = ((k : Decided) → IsIn k ls → NumberLt l.number k.number) × Rises ls

abbrev pub IsDecided : Outcome → TxnId → Type 0
IsDecided o x = (l : Decided) × IsIn l o.decided × (l.number.id ≡ x)

abbrev pub IsGivenUp : Outcome → TxnId → Type 0
IsGivenUp o x = (g : Giveup) × IsIn g o.giveups × (g.id ≡ x)

-- the decided transactions stand in the order of their numbers; executed one at a time on one map in that order, they
-- give each its reads, verdict and answer, and the rows of the outcome; and the decided and the given-up ones are together
-- the transactions of the workload, each once
pub record IsSerial (w : Workload) (o : Outcome) : Type 0 where
  pub rising : Rises o.decided
  pub same : serial w (map (λ l. l.number.id) o.decided) ≡ record { runs = map ran o.decided; rows = o.rows }
  pub whole : IsPermutation (all_ids w) (map (λ l. l.number.id) o.decided ++ map (λ g. g.id) o.giveups)
