-- Which message of Calvin fits the messages that a node has handled, by its kind.
use Rattle.std.specs.Prelude.{◌≡◌, ⊤, ℕ, ◌<◌, List, [], ◌∷◌, map, Bool, true, false}
use Rattle.std.specs.List.{list_all}
use Rattle.deneva_base.specs.Lists.{IsIn}
use Rattle.deneva_base.specs.declared.numbers.TxnId.{TxnId}
use Rattle.deneva_base.specs.declared.rows.Keyed.{Keyed}
use Rattle.server_core.specs.Calvin.{says}
use Rattle.server_core.specs.Counts.{all_said}
use Rattle.server_core.specs.GlobalOrder.{epochs, batch, number}
use Rattle.server_core.specs.CalvinScheduler.{reading_at, has_batch, has_rows, has_finished, ticks}
use Rattle.server_core.specs.Setting.{Setting, home, participants_for}
use Rattle.server_core.specs.declared.messages.Msg.{Msg}
use Rattle.server_core.specs.declared.messages.Msg.TheVariants.{Tick, Batch, Rows, Finished}

abbrev pub all_fine : Setting → List Keyed → Bool
all_fine s ws = list_all (λ w. s.fine w.key w.row) ws

-- a row for each access at f that reads, in their order, each well formed
abbrev pub RowsFor : Setting → TxnId → ℕ → List Keyed → Type 0
RowsFor s x f rows = (map (λ w. w.key) rows ≡ map (λ a. a.key) (reading_at s f x)) × (all_fine s rows ≡ true)

abbrev pub Suits : Setting → ℕ → ℕ → Msg → List Msg → Type 0
Suits s p f (Tick e) ms = (f ≡ p) × (e ≡ ticks ms) × (e < epochs s)
Suits s p f (Batch e q ids) ms = (q ≡ f) × (has_batch ms (record { epoch = e; seq = q }) ≡ false) × (ids ≡ batch s (record { epoch = e; seq = q })) × (e < epochs s) × (q < s.parts)
Suits s p f (Rows x part rows) ms =
    (part ≡ f) × IsIn x s.ids × IsIn f (participants_for s x) × IsIn p (participants_for s x) × (has_rows ms x part ≡ false) × RowsFor s x f rows × (f ≡ p → IsIn (record { from = p; to = p; msg = Rows x part rows }) (all_said (says s) p ms))
Suits s p f (Finished x part n) ms =
    (p ≡ home s x) × IsIn x s.ids × (part ≡ f) × IsIn f (participants_for s x) × (has_finished ms x part ≡ false) × (n ≡ number s x)
Suits s p f m ms = ⊥

-- each message fitted the list before it
abbrev pub AllFit : Setting → ℕ → List Msg → Type 0
AllFit s p [] = ⊤
AllFit s p (m ∷ ms) = ((f : ℕ) × Suits s p f m ms) × AllFit s p ms
