-- Calvin's global order: epochs of eight transactions for each sequencer.
use Rattle.std.specs.Prelude.{ℕ, zero, suc, ◌+◌, ◌*◌, ◌/◌, ◌%◌, List, [], ◌∷◌, length, map, Bool, false, ◌||◌, if◌then◌else◌}
use Rattle.std.specs.List.{flat_map}
use Rattle.deneva_base.specs.Keys.{id_eq}
use Rattle.deneva_base.specs.Lists.{greatest_by}
use Rattle.deneva_base.specs.declared.numbers.Number.{Number}
use Rattle.deneva_base.specs.declared.numbers.TxnId.{TxnId}
use Rattle.txn_program.specs.Transactions.{numbers_below}
use Rattle.server_core.specs.Setting.{Setting, home, homes, take_first, drop_first}

-- the e-th eight of a list
abbrev pub eight : {A : Type 0} → ℕ → List A → List A
eight zero xs = take_first 8 xs
eight (suc e) xs = eight e (drop_first 8 xs)

-- how many eights it takes
abbrev pub eights : ℕ → ℕ
eights n = (n + 7) / 8

-- the number of epochs: the greatest over all nodes
abbrev pub epochs : Setting → ℕ
epochs s = greatest_by (λ q. eights (length (homes s q))) (numbers_below s.parts)

-- the batch of a sequencer in an epoch
pub record Slot : Type 0 where
  pub epoch : ℕ
  pub seq : ℕ

abbrev pub batch : Setting → Slot → List TxnId
batch s l = eight l.epoch (homes s l.seq)

-- all batches, by epoch and then by sequencer
abbrev pub slots_of : ℕ → ℕ → List Slot
slots_of parts epochs = flat_map (λ e. map (λ q. record { epoch = e; seq = q }) (numbers_below parts)) (numbers_below epochs)

abbrev pub slots : Setting → List Slot
slots s = slots_of s.parts (epochs s)

abbrev pub order : Setting → List TxnId
order s = flat_map (batch s) (slots s)

-- how many stand before the first x
abbrev pub index_of : TxnId → List TxnId → ℕ
index_of x [] = 0
index_of x (y ∷ ys) = if id_eq y x then 0 else suc (index_of x ys)

-- the number of the transaction at index i of epoch e at sequencer q
abbrev pub numbered : ℕ → ℕ → ℕ → ℕ → ℕ
numbered parts e q i = (e * parts + q) * 8 + i + 1

abbrev pub number_at : Setting → TxnId → ℕ → ℕ → Number
number_at s x q j = record { n = numbered s.parts (j / 8) q (j % 8); id = x }

abbrev pub number : Setting → TxnId → Number
number s x = number_at s x (home s x) (index_of x (homes s (home s x)))

-- those before x
abbrev pub before : TxnId → List TxnId → List TxnId
before x [] = []
before x (y ∷ ys) = if id_eq y x then [] else y ∷ before x ys

abbrev pub has_id : TxnId → List TxnId → Bool
has_id x [] = false
has_id x (y ∷ ys) = id_eq y x || has_id x ys
