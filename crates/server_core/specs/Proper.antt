-- What each mail that a node says looks like, and what is known of the setting.
use Rattle.std.specs.Prelude.{◌≡◌, ⊤, ℕ, ◌+◌, ◌≤◌, List, [], ◌∷◌, length, true, Some, if◌then◌else◌, ◌==◌}
use Rattle.deneva_base.specs.declared.keys.Key.{Key}
use Rattle.deneva_base.specs.declared.numbers.TxnId.{TxnId}
use Rattle.deneva_base.specs.declared.keys.Mode.{Mode}
use Rattle.deneva_base.specs.Lists.{IsIn}
use Rattle.deneva_base.specs.Rows.{Row}
use Rattle.deneva_base.specs.Keys.{key_eq}
use Rattle.deneva_base.specs.Modes.{IsReading, IsWriting}
use Rattle.deneva_base.specs.declared.rows.Keyed.{Keyed}
use Rattle.protocol_rules.specs.Conditions.{Distinct}
use Rattle.server_core.specs.declared.messages.Msg.{Msg}
use Rattle.server_core.specs.declared.messages.Msg.TheVariants.{Start, Ask, Granted, Refused, Prepare, Yes, No, Commit, Abort, Done, Undone, Tick, Batch, Rows, Finished}
use Rattle.server_core.specs.declared.messages.Mail.{Mail}
use Rattle.server_core.specs.Setting.{Setting, home, partitions_of, participants}
use Rattle.deneva_base.specs.declared.keys.Access.{Access}
use Rattle.server_core.specs.Received.{Reply}
use Rattle.deneva_base.specs.Partitions.{partition_of}
use Rattle.server_core.specs.Effects.{written, appended}
use Rattle.server_core.specs.Coordinator.{effect_of}
use Rattle.protocol_rules.specs.Lawful.{Lawful}

abbrev pub ProperMsg : Setting → ℕ → ℕ → Msg → Type 0
ProperMsg s p to (Start who) = (to ≡ p) × (p ≡ home s who.txn) × (1 ≤ who.turn) × IsIn who.txn s.ids
ProperMsg s p to (Ask who stamp key mode) = (p ≡ home s who.txn) × (to ≡ partition_of key s.parts) × IsIn (record { key = key; mode = mode }) (s.accesses who.txn)
ProperMsg s p to (Granted who key row version bound) = (to ≡ home s who.txn) × (partition_of key s.parts ≡ p)
ProperMsg s p to (Refused who key cause) = (to ≡ home s who.txn) × (partition_of key s.parts ≡ p)
ProperMsg s p to (Prepare who bound writes appends) =
    (p ≡ home s who.txn) × IsIn to (participants s who) × ((w : Keyed) → IsIn w writes → (partition_of w.key s.parts ≡ to) × ((mode : Mode) × IsWriting mode × IsIn (record { key = w.key; mode = mode }) (s.accesses who.txn)))
ProperMsg s p to (Yes who part lo hi) = (to ≡ home s who.txn) × (part ≡ p)
ProperMsg s p to (No who part cause) = (to ≡ home s who.txn) × (part ≡ p)
ProperMsg s p to (Commit who number) = p ≡ home s who.txn
ProperMsg s p to (Abort who) = p ≡ home s who.txn
ProperMsg s p to (Done who part) = (to ≡ home s who.txn) × (part ≡ p)
ProperMsg s p to (Undone who part) = (to ≡ home s who.txn) × (part ≡ p)
ProperMsg s p to (Tick epoch) = ⊥
ProperMsg s p to (Batch epoch seq ids) = ⊥
ProperMsg s p to (Rows id part rows) = ⊥
ProperMsg s p to (Finished id part number) = ⊥

abbrev pub Proper : Setting → ℕ → Mail → Type 0
Proper s p x = (x.from ≡ p) × ProperMsg s p x.to x.msg

-- how often the key is among the accesses
abbrev pub keys_in : Key → List Access → ℕ
keys_in key [] = 0
keys_in key (a ∷ as') = (if key_eq a.key key then 1 else 0) + keys_in key as'

abbrev pub ids_in : TxnId → List TxnId → ℕ
ids_in x [] = 0
ids_in x (y ∷ ys) = (if y.0 == x.0 then 1 else 0) + ids_in x ys

-- the replies to accesses that read hold rows well formed for their keys
abbrev pub FineReplies : Setting → List Access → List Reply → Type 0
FineReplies s [] rs = ⊤
FineReplies s (a ∷ as') [] = ⊤
FineReplies s (a ∷ as') (r ∷ rs) = (IsReading a.mode → s.fine a.key r.row ≡ true) × FineReplies s as' rs

-- what a workload and a rule are
pub record Valid (s : Setting) : Type 0 where
  pub parts : 1 ≤ s.parts
  pub attempts : 1 ≤ s.attempts
  pub limit : 1 ≤ s.limit
  pub once : (x : TxnId) → ids_in x s.ids ≤ 1
  pub some : (x : TxnId) → IsIn x s.ids → 1 ≤ length (s.accesses x)
  pub keys : (x : TxnId) (key : Key) → keys_in key (s.accesses x) ≤ 1
  pub loads : (x : TxnId) (a : Access) → IsIn a (s.accesses x) → (row : Row) × (s.loaded a.key ≡ Some row)
  pub tables : (x : TxnId) (a : Access) → IsIn a (s.accesses x) → a.key.table ≤ 4
  pub fine : (key : Key) (row : Row) → s.loaded key ≡ Some row → s.fine key row ≡ true
  pub writes : (x : TxnId) (rows : List Keyed) (w : Keyed) → IsIn w (written (s.effect x rows)) → (mode : Mode) × IsWriting mode × IsIn (record { key = w.key; mode = mode }) (s.accesses x)
  pub distinct : (x : TxnId) (rows : List Keyed) → Distinct (written (s.effect x rows))
  pub appends : (x : TxnId) (rows : List Keyed) (w : Keyed) → IsIn w (appended (s.effect x rows)) → (5 ≤ w.key.table) × (w.key.table ≤ 8) × IsIn (partition_of w.key s.parts) (partitions_of s.parts (s.accesses x))
  pub distinct_appends : (x : TxnId) (rows : List Keyed) → Distinct (appended (s.effect x rows))
  pub effects : (x : TxnId) (rs : List Reply) (w : Keyed) → length rs ≡ length (s.accesses x) → FineReplies s (s.accesses x) rs → IsIn w (written (effect_of s x rs)) → s.fine w.key w.row ≡ true
  pub fine_appends : (x : TxnId) (rs : List Reply) (w : Keyed) → length rs ≡ length (s.accesses x) → FineReplies s (s.accesses x) rs → IsIn w (appended (effect_of s x rs)) → s.fine w.key w.row ≡ true
  pub rule : Lawful s.rule
