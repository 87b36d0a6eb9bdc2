-- Under Calvin, each participant of a transaction is finished with it, once, and no other node is; or no node is.
use Rattle.std.specs.Prelude.{◌≡◌, ◌≢◌, ◌⊎◌, ℕ, ◌==◌, ◌&&◌, List, [], ◌∷◌, filter, Bool, false, if◌then◌else◌}
use Rattle.std.specs.List.{flat_map}
use Rattle.deneva_base.specs.Keys.{id_eq}
use Rattle.deneva_base.specs.Lists.{IsIn}
use Rattle.deneva_base.specs.declared.numbers.Number.{Number}
use Rattle.deneva_base.specs.declared.numbers.TxnId.{TxnId}
use Rattle.server_core.specs.Calvin.{says, finished_mail}
use Rattle.server_core.specs.Counts.{all_said}
use Rattle.server_core.specs.GlobalOrder.{number}
use Rattle.server_core.specs.Runs.{heard}
use Rattle.server_core.specs.Setting.{Setting, home, participants_for}
use Rattle.server_core.specs.declared.messages.Entry.{Entry}
use Rattle.server_core.specs.declared.messages.Mail.{Mail}
use Rattle.server_core.specs.declared.messages.Msg.{Msg}
use Rattle.server_core.specs.declared.messages.Msg.TheVariants.{Finished}

abbrev pub is_finished_of : TxnId → Msg → Bool
is_finished_of x (Finished y part number) = id_eq y x
is_finished_of x m = false

-- the mails in which p says that the transaction is finished
abbrev pub finishes : Setting → List Entry → TxnId → ℕ → List Mail
finishes s H x p = filter (λ (m : Mail). is_finished_of x m.msg) (all_said (says s) p (heard p H))

-- the number with which p says that it finished the transaction
abbrev pub finished_number : TxnId → ℕ → Msg → List Number
finished_number x p (Finished id part number) = if id_eq id x && (part == p) then number ∷ [] else []
finished_number x p m = []

-- the numbers with which p told the home of the transaction that it finished it
abbrev pub finished_numbers : Setting → List Entry → TxnId → ℕ → List Number
finished_numbers s H x p = flat_map (finished_number x p) (heard (home s x) H)

-- p said it once, to the home and with the number of the global order, and the home handled it once
pub record IsFinishedAt (s : Setting) (H : List Entry) (x : TxnId) (p : ℕ) : Type 0 where
  pub said : finishes s H x p ≡ finished_mail s p x ∷ []
  pub handled : finished_numbers s H x p ≡ number s x ∷ []

-- each participant finished it and no other node did, and its home alone handled that
pub record FinishedOnce (s : Setting) (H : List Entry) (x : TxnId) : Type 0 where
  pub each : (p : ℕ) → IsIn p (participants_for s x) → IsFinishedAt s H x p
  pub nowhere : (p : ℕ) → (IsIn p (participants_for s x) → ⊥) → (finishes s H x p ≡ []) × (finished_numbers s H x p ≡ [])
  pub home_alone : (q : ℕ) → q ≢ home s x → filter (is_finished_of x) (heard q H) ≡ []

-- or no node did
abbrev pub IsFinished : Setting → List Entry → TxnId → Type 0
IsFinished s H x = FinishedOnce s H x ⊎ ((p : ℕ) → finishes s H x p ≡ [])
