-- Under a voting protocol, a transaction commits at all its participants or at none.
use Rattle.std.specs.Prelude.{◌≡◌, ◌⊎◌, ℕ, ◌≤◌, List, Bool, false, ◌==◌}
use Rattle.deneva_base.specs.declared.numbers.TxnId.{TxnId}
use Rattle.deneva_base.specs.declared.numbers.Attempt.{Attempt}
use Rattle.deneva_base.specs.declared.numbers.Number.{Number}
use Rattle.deneva_base.specs.Lists.{IsIn}
use Rattle.protocol_rules.specs.History.{Yea, yeas}
use Rattle.server_core.specs.declared.messages.Msg.{Msg}
use Rattle.server_core.specs.declared.messages.Msg.TheVariants.{Commit}
use Rattle.server_core.specs.declared.messages.Entry.{Entry}
use Rattle.server_core.specs.Setting.{Setting, partitions_of, participants}
use Rattle.server_core.specs.Participant.{calls}
use Rattle.server_core.specs.Runs.{heard}
use Rattle.server_core.specs.Counts.{count_msgs}

-- all Commits of a transaction are of one attempt and one number, at its participants, in the windows voted there
pub record CommitsAgree (s : Setting) (H : List Entry) : Type 0 where
  pub one : (a b : Attempt) (m n : Number) (p q : ℕ) → a.txn ≡ b.txn → IsIn (Commit a m) (heard p H) → IsIn (Commit b n) (heard q H) → (a ≡ b) × (m ≡ n)
  pub window : (a : Attempt) (n : Number) (p q : ℕ) → IsIn (Commit a n) (heard p H) → IsIn q (participants s a) → (y : Yea) × IsIn y (yeas (calls s q (heard q H))) × (y.who ≡ a) × (y.lo ≤ n.n) × (n.n ≤ y.hi)
  pub place : (a : Attempt) (n : Number) (p : ℕ) → IsIn (Commit a n) (heard p H) → IsIn p (participants s a)

-- where one has a Commit, each participant has it
abbrev pub Everywhere : Setting → List Entry → Type 0
Everywhere s H = (a : Attempt) (n : Number) (p q : ℕ) → IsIn (Commit a n) (heard p H) → IsIn q (participants s a) → IsIn (Commit a n) (heard q H)

abbrev pub commits : TxnId → Msg → Bool
commits x (Commit a n) = a.txn.0 == x.0
commits x m = false

-- one Commit at each participant and none elsewhere, all of one attempt and one number in each window voted
pub record Committed (s : Setting) (H : List Entry) (x : TxnId) : Type 0 where
  pub attempt : Attempt
  pub number : Number
  pub own : attempt.txn ≡ x
  pub once : (q : ℕ) → IsIn q (partitions_of s.parts (s.accesses x)) → count_msgs (commits x) (heard q H) ≡ 1
  pub here : (q : ℕ) → IsIn q (partitions_of s.parts (s.accesses x)) → IsIn (Commit attempt number) (heard q H)
  pub window : (q : ℕ) → IsIn q (partitions_of s.parts (s.accesses x)) → (y : Yea) × IsIn y (yeas (calls s q (heard q H))) × (y.who ≡ attempt) × (y.lo ≤ number.n) × (number.n ≤ y.hi)
  pub nowhere : (q : ℕ) → (IsIn q (partitions_of s.parts (s.accesses x)) → ⊥) → count_msgs (commits x) (heard q H) ≡ 0

-- or none at all
abbrev pub IsWhole : Setting → List Entry → TxnId → Type 0
IsWhole s H x = Committed s H x ⊎ ((q : ℕ) → count_msgs (commits x) (heard q H) ≡ 0)
