-- The transactions that hold or wait for locks at a node.
use Rattle.std.specs.Prelude.{ℕ, List, [], ◌∷◌, filter, Bool, ◌&&◌, not, if◌then◌else◌}
use Rattle.std.specs.List.{list_all, flat_map}
use Rattle.deneva_base.specs.declared.numbers.TxnId.{TxnId}
use Rattle.server_core.specs.declared.messages.Msg.{Msg}
use Rattle.server_core.specs.Setting.{Setting}
use Rattle.server_core.specs.CalvinScheduler.{participates, clash, has_batch, as_far, taken, is_finished, is_ready}
use Rattle.server_core.specs.GlobalOrder.{slots, batch, before}
use Rattle.deneva_base.specs.Keys.{id_eq}

-- taken, here and unfinished, in the order of number
abbrev pub active : Setting → ℕ → List Msg → List TxnId
active s p ms = filter (λ x. participates s x p && not (is_finished s ms x)) (taken s ms)

-- none before it in the list conflicts with it at p
abbrev pub is_first : Setting → ℕ → List TxnId → TxnId → Bool
is_first s p xs x = list_all (λ y. not (clash s p x y)) (before x xs)

abbrev pub became : Setting → ℕ → Msg → List Msg → TxnId → Bool
became s p m ms x = is_ready s p (m ∷ ms) x && not (is_ready s p ms x)

abbrev pub without : TxnId → List TxnId → List TxnId
without x xs = filter (λ y. not (id_eq y x)) xs

-- what comes after the first part for which the test holds
abbrev pub skip_while : {A : Type 0} → (A → Bool) → List A → List A
skip_while f [] = []
skip_while f (x ∷ xs) = if f x then skip_while f xs else x ∷ xs

-- the transactions of the batches that are taken with m
abbrev pub newly_taken : Setting → Msg → List Msg → List TxnId
newly_taken s m ms = flat_map (batch s) (as_far (has_batch (m ∷ ms)) (skip_while (has_batch ms) (slots s)))
