-- What a node of Calvin says, and what is in flight at the start.
use Rattle.std.specs.Prelude.{ℕ, suc, List, [], ◌∷◌, ◌++◌, map, filter, ◌&&◌, not, nat_lt, if◌then◌else◌}
use Rattle.std.specs.List.{flat_map}
use Rattle.deneva_base.specs.declared.numbers.TxnId.{TxnId}
use Rattle.txn_program.specs.Transactions.{numbers_below}
use Rattle.server_core.specs.Coordinator.{to_all}
use Rattle.server_core.specs.GlobalOrder.{epochs, batch, order, number}
use Rattle.server_core.specs.CalvinScheduler.{is_finished, is_ready, rows_at}
use Rattle.server_core.specs.Setting.{Setting, home, participants_for}
use Rattle.server_core.specs.declared.messages.Mail.{Mail}
use Rattle.server_core.specs.declared.messages.Msg.{Msg}
use Rattle.server_core.specs.declared.messages.Msg.TheVariants.{Tick, Batch, Rows, Finished}

-- those that became ready with m, in the order of their numbers
abbrev pub became_ready : Setting → ℕ → Msg → List Msg → List TxnId
became_ready s p m ms = filter (λ x. is_ready s p (m ∷ ms) x && not (is_ready s p ms x)) (order s)

-- a ready transaction's rows at p, to each of its participants
abbrev pub rows_mails : Setting → ℕ → List Msg → TxnId → List Mail
rows_mails s p ms x = to_all p (Rows x p (rows_at s p ms x)) (participants_for s x)

abbrev pub ready_mails : Setting → ℕ → Msg → List Msg → List Mail
ready_mails s p m ms = flat_map (rows_mails s p (m ∷ ms)) (became_ready s p m ms)

abbrev pub finished_mail : Setting → ℕ → TxnId → Mail
finished_mail s p x = record { from = p; to = home s x; msg = Finished x p (number s x) }

-- the transaction whose last Rows came is finished at p
abbrev pub finished_mails : Setting → ℕ → TxnId → Msg → List Msg → List Mail
finished_mails s p x m ms = if is_finished s (m ∷ ms) x && not (is_finished s ms x) then finished_mail s p x ∷ [] else []

abbrev pub tick_mail : ℕ → ℕ → Mail
tick_mail p e = record { from = p; to = p; msg = Tick e }

abbrev pub batch_mails : Setting → ℕ → ℕ → List Mail
batch_mails s p e = to_all p (Batch e p (batch s (record { epoch = e; seq = p }))) (numbers_below s.parts)

-- on the last of its messages, which are listed with the newest first
abbrev pub says : Setting → ℕ → List Msg → List Mail
says s p [] = []
says s p (Tick e ∷ ms) = batch_mails s p e ++ (if nat_lt (suc e) (epochs s) then tick_mail p (suc e) ∷ [] else [])
says s p (Batch e q ids ∷ ms) = ready_mails s p (Batch e q ids) ms
says s p (Rows x q rows ∷ ms) = finished_mails s p x (Rows x q rows) ms ++ ready_mails s p (Rows x q rows) ms
says s p (m ∷ ms) = []

-- Tick 0 at each node, where there is an epoch
abbrev pub opening : Setting → List Mail
opening s = if nat_lt 0 (epochs s) then map (λ p. tick_mail p 0) (numbers_below s.parts) else []
