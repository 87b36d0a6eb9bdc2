-- How the attempts of a transaction ended, by what its home handled.
use Rattle.std.specs.Prelude.{ℕ, zero, suc, List, [], ◌∷◌, Bool, ◌&&◌, Option, Some, None, if◌then◌else◌}
use Rattle.deneva_base.specs.declared.numbers.TxnId.{TxnId}
use Rattle.deneva_base.specs.declared.numbers.Attempt.{Attempt}
use Rattle.deneva_base.specs.Keys.{attempt_eq}
use Rattle.server_core.specs.declared.messages.Msg.{Msg}
use Rattle.server_core.specs.declared.messages.Msg.TheVariants.{Done, Undone}
use Rattle.server_core.specs.declared.messages.Entry.{Entry}
use Rattle.server_core.specs.Setting.{Setting, home, participants}
use Rattle.server_core.specs.Received.{started_for, all_closed}
use Rattle.server_core.specs.Coordinator.{told}
use Rattle.server_core.specs.Runs.{heard}

abbrev pub attempt : TxnId → ℕ → Attempt
attempt x turn = record { txn = x; turn = turn }

abbrev pub at_home : Setting → List Entry → Attempt → List Msg
at_home s H who = heard (home s who.txn) H

-- from where Done came, and Undone
abbrev pub dones_for : Attempt → List Msg → List ℕ
dones_for who [] = []
dones_for who (Done x part ∷ ms) = if attempt_eq x who then part ∷ dones_for who ms else dones_for who ms
dones_for who (m ∷ ms) = dones_for who ms

abbrev pub undones_for : Attempt → List Msg → List ℕ
undones_for who [] = []
undones_for who (Undone x part ∷ ms) = if attempt_eq x who then part ∷ undones_for who ms else undones_for who ms
undones_for who (m ∷ ms) = undones_for who ms

-- the home handled a Done from every participant
abbrev pub all_done : Setting → List Entry → Attempt → Bool
all_done s H who = started_for who (at_home s H who) && all_closed (dones_for who (at_home s H who)) (participants s who)

-- the home handled the last Undone
abbrev pub all_undone : Setting → List Entry → Attempt → Bool
all_undone s H who = started_for who (at_home s H who) && all_closed (undones_for who (at_home s H who)) (told s (at_home s H who) who)

-- the attempt of a turn up to n that is decided
abbrev pub done_turn : Setting → List Entry → TxnId → ℕ → Option Attempt
done_turn s H x zero = None
done_turn s H x (suc n) = if all_done s H (attempt x (suc n)) then Some (attempt x (suc n)) else done_turn s H x n
