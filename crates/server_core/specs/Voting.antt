-- What a node of a voting protocol says, and what is in flight at the start.
use Rattle.std.specs.Prelude.{ℕ, List, [], ◌∷◌, ◌++◌, map}
use Rattle.std.specs.List.{flat_map}
use Rattle.deneva_base.specs.declared.numbers.TxnId.{TxnId}
use Rattle.txn_program.specs.Transactions.{numbers_below}
use Rattle.server_core.specs.Coordinator.{coordinator}
use Rattle.server_core.specs.Participant.{participant}
use Rattle.server_core.specs.Setting.{Setting, homes, take_first}
use Rattle.server_core.specs.declared.messages.Mail.{Mail}
use Rattle.server_core.specs.declared.messages.Msg.{Msg}
use Rattle.server_core.specs.declared.messages.Msg.TheVariants.{Start}

-- on the last of its messages, which are listed with the newest first
abbrev pub says : Setting → ℕ → List Msg → List Mail
says s p [] = []
says s p (m ∷ ms) = coordinator s p m ms ++ participant s p m ms

abbrev pub first_starts : ℕ → List TxnId → List Mail
first_starts p xs = map (λ x. record { from = p; to = p; msg = Start (record { txn = x; turn = 1 }) }) xs

-- for each node a Start of turn 1 for each of its first home transactions
abbrev pub opening : Setting → List Mail
opening s = flat_map (λ p. first_starts p (take_first s.limit (homes s p))) (numbers_below s.parts)
