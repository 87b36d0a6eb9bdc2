-- What a node of Calvin knows by its messages, the newest first.
use Rattle.std.specs.Prelude.{ℕ, zero, suc, List, [], ◌∷◌, map, filter, Bool, false, ◌&&◌, ◌||◌, not, None, if◌then◌else◌, ◌==◌}
use Rattle.std.specs.List.{list_any, list_all, flat_map}
use Rattle.deneva_base.specs.Keys.{key_eq, id_eq}
use Rattle.deneva_base.specs.Modes.{writes}
use Rattle.deneva_base.specs.Partitions.{partition_of}
use Rattle.deneva_base.specs.Rows.{Rows, row_at, row_or_empty, put_rows}
use Rattle.deneva_base.specs.declared.keys.Access.{Access}
use Rattle.deneva_base.specs.declared.numbers.TxnId.{TxnId}
use Rattle.deneva_base.specs.declared.rows.Keyed.{Keyed}
use Rattle.txn_program.specs.Transactions.{reading}
use Rattle.server_core.specs.Coordinator.{at_part}
use Rattle.server_core.specs.Effects.{leaves}
use Rattle.server_core.specs.GlobalOrder.{Slot, slots, batch, order, before, has_id}
use Rattle.server_core.specs.Setting.{Setting, participants_for}
use Rattle.server_core.specs.declared.messages.Msg.{Msg}
use Rattle.server_core.specs.declared.messages.Msg.TheVariants as msg

-- x takes part at p
abbrev pub participates : Setting → TxnId → ℕ → Bool
participates s x p = list_any (λ a. partition_of a.key s.parts == p) (s.accesses x)

-- two accesses to one key at p, not both Read
abbrev pub collide : ℕ → ℕ → Access → Access → Bool
collide parts p a b = key_eq a.key b.key && (partition_of a.key parts == p && (writes a.mode || writes b.mode))

-- two transactions conflict on a key at p
abbrev pub clash : Setting → ℕ → TxnId → TxnId → Bool
clash s p x y = list_any (λ a. list_any (collide s.parts p a) (s.accesses y)) (s.accesses x)

-- the accesses of x at q that read
abbrev pub reading_at : Setting → ℕ → TxnId → List Access
reading_at s q x = filter (λ a. partition_of a.key s.parts == q) (reading (s.accesses x))

-- the batch came
abbrev pub has_batch : List Msg → Slot → Bool
has_batch [] l = false
has_batch (msg.Batch e q ids ∷ ms) l = (e == l.epoch && q == l.seq) || has_batch ms l
has_batch (m ∷ ms) l = has_batch ms l

-- the Rows of x from q came
abbrev pub has_rows : List Msg → TxnId → ℕ → Bool
has_rows [] x q = false
has_rows (msg.Rows y r rows ∷ ms) x q = (id_eq y x && r == q) || has_rows ms x q
has_rows (m ∷ ms) x q = has_rows ms x q

abbrev pub rows_from : List Msg → TxnId → ℕ → List Keyed
rows_from [] x q = []
rows_from (msg.Rows y r rows ∷ ms) x q = if id_eq y x && r == q then rows else rows_from ms x q
rows_from (m ∷ ms) x q = rows_from ms x q

-- the Finished of x from q came
abbrev pub has_finished : List Msg → TxnId → ℕ → Bool
has_finished [] x q = false
has_finished (msg.Finished y r number ∷ ms) x q = (id_eq y x && r == q) || has_finished ms x q
has_finished (m ∷ ms) x q = has_finished ms x q

abbrev pub ticks : List Msg → ℕ
ticks [] = zero
ticks (msg.Tick e ∷ ms) = suc (ticks ms)
ticks (m ∷ ms) = ticks ms

-- the first of a list, as far as the test holds
abbrev pub as_far : {A : Type 0} → (A → Bool) → List A → List A
as_far f [] = []
as_far f (x ∷ xs) = if f x then x ∷ as_far f xs else []

-- the transactions of the batches that were taken: in their order, with none left out
abbrev pub taken : Setting → List Msg → List TxnId
taken s ms = flat_map (batch s) (as_far (has_batch ms) (slots s))

-- the Rows of all participants are there
abbrev pub is_finished : Setting → List Msg → TxnId → Bool
is_finished s ms x = list_all (has_rows ms x) (participants_for s x)

-- no transaction before it in the order is unfinished and conflicts with it at p
abbrev pub unblocked : Setting → ℕ → List Msg → TxnId → Bool
unblocked s p ms x = list_all (λ y. is_finished s ms y || not (clash s p x y)) (before x (order s))

-- it was taken, takes part at p, and is not blocked
abbrev pub is_ready : Setting → ℕ → List Msg → TxnId → Bool
is_ready s p ms x = has_id x (taken s ms) && (participates s x p && unblocked s p ms x)

-- the rows of its accesses that read, as they came
abbrev pub collected : Setting → List Msg → TxnId → List Keyed
collected s ms x = map (λ a. record { key = a.key; row = row_at (rows_from ms x (partition_of a.key s.parts)) a.key }) (reading (s.accesses x))

-- what it leaves at p
abbrev pub applied : Setting → ℕ → List Msg → TxnId → List Keyed
applied s p ms x = at_part s.parts p (leaves (s.effect x (collected s ms x)))

-- the rows after what these transactions leave, one after another
abbrev pub changed : (TxnId → List Keyed) → Rows → List TxnId → Rows
changed f rows [] = rows
changed f rows (x ∷ xs) = changed f (put_rows rows (f x)) xs

-- the rows at p: what the finished ones left, in the order of their numbers, over the loaded ones
abbrev pub now : Setting → ℕ → List Msg → Rows
now s p ms = changed (applied s p ms) s.loaded (filter (is_finished s ms) (order s))

-- what p reads for x
abbrev pub rows_at : Setting → ℕ → List Msg → TxnId → List Keyed
rows_at s p ms x = map (λ a. record { key = a.key; row = row_or_empty (now s p ms a.key) }) (reading_at s p x)

-- those of the keys of p
abbrev pub ordered_rows : Setting → ℕ → List Msg → Rows
ordered_rows s p ms key = if partition_of key s.parts == p then now s p ms key else None
