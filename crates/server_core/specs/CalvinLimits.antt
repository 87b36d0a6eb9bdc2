-- Which messages of Calvin close epochs, which are about one transaction, and how long a run is at most.
use Rattle.std.specs.Prelude.{ℕ, ◌+◌, ◌*◌, length, Bool, true, false}
use Rattle.deneva_base.specs.Keys.{id_eq}
use Rattle.deneva_base.specs.declared.numbers.TxnId.{TxnId}
use Rattle.server_core.specs.GlobalOrder.{epochs}
use Rattle.server_core.specs.Limits.{sum_of}
use Rattle.server_core.specs.Setting.{Setting, participants_for}
use Rattle.server_core.specs.declared.messages.Msg.{Msg}
use Rattle.server_core.specs.declared.messages.Msg.TheVariants.{Tick, Batch, Rows, Finished}

abbrev pub is_clock : Msg → Bool
is_clock (Tick e) = true
is_clock (Batch e q ids) = true
is_clock m = false

abbrev pub is_about : TxnId → Msg → Bool
is_about x (Rows y q rows) = id_eq y x
is_about x (Finished y q n) = id_eq y x
is_about x m = false

-- no run has more entries: those of Tick and Batch, and those of Rows and Finished
abbrev pub most_ordered : Setting → ℕ
most_ordered s = epochs s * (s.parts + s.parts * s.parts) + sum_of (λ x. let m = length (participants_for s x) in m * m + m) s.ids
