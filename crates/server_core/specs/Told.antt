-- What the messages of a run say of a transaction's end at each partition.
use Rattle.std.specs.Prelude.{◌≡◌, ℕ, ◌==◌, List, [], ◌∷◌, ◌++◌, if◌then◌else◌}
use Rattle.std.specs.List.{flat_map, list_any}
use Rattle.deneva_base.specs.Keys.{id_eq}
use Rattle.deneva_base.specs.Lists.{IsIn}
use Rattle.deneva_base.specs.declared.numbers.Number.{Number}
use Rattle.deneva_base.specs.declared.numbers.TxnId.{TxnId}
use Rattle.server_core.specs.CalvinAtomic.{finished_numbers}
use Rattle.server_core.specs.Runs.{heard}
use Rattle.server_core.specs.Setting.{Setting, participants_for}
use Rattle.server_core.specs.declared.messages.Entry.{Entry}
use Rattle.server_core.specs.declared.messages.Msg.{Msg}
use Rattle.server_core.specs.declared.messages.Msg.TheVariants.{Commit}
use Rattle.server_core.specs.declared.outcomes.Decided.{Decided}
use Rattle.server_core.specs.declared.outcomes.Giveup.{Giveup}
use Rattle.server_core.specs.declared.outcomes.Outcome.{Outcome}

-- the number of a Commit of the transaction
abbrev pub commit_number : TxnId → Msg → List Number
commit_number x (Commit who number) = if id_eq who.txn x then number ∷ [] else []
commit_number x m = []

-- the numbers with which the transaction committed at p: those of its Commits that p handled, and under Calvin those that
-- p told its home
abbrev pub numbers_at : Setting → List Entry → TxnId → ℕ → List Number
numbers_at s H x p = flat_map (commit_number x) (heard p H) ++ finished_numbers s H x p

-- each decided transaction committed once at each of its participants, with the number of its line, and nowhere else, and
-- its line has its participants; a given-up one committed nowhere, and was tried as often as it may be
pub record IsTold (s : Setting) (H : List Entry) (o : Outcome) : Type 0 where
  pub decided : (l : Decided) (p : ℕ) → IsIn l o.decided → numbers_at s H l.number.id p ≡ (if list_any (λ q. q == p) l.participants then l.number ∷ [] else [])
  pub participants : (l : Decided) → IsIn l o.decided → l.participants ≡ participants_for s l.number.id
  pub given_up : (g : Giveup) (p : ℕ) → IsIn g o.giveups → numbers_at s H g.id p ≡ []
  pub turns : (g : Giveup) → IsIn g o.giveups → g.turns ≡ s.attempts
