-- In a quiet run each transaction finished at just its participants, with its number.
use Rattle.std.proofs.Common.{◌≡◌, ℕ, List, [], ◌∷◌, ◌++◌, Bool, true, false, cond, eqb, refl, sym, ap₂, ◌∙◌, subst, true≢false}
use Rattle.std.specs.List.{flat_map, list_any}
use Rattle.deneva_base.specs.Lists.{IsIn}
use Rattle.deneva_base.specs.declared.numbers.TxnId.{TxnId}
use Rattle.deneva_base.proofs.Membership.{any_at, any_found}
use Rattle.server_core.specs.CalvinAtomic.{finished_numbers, FinishedOnce}
use Rattle.server_core.specs.CalvinFits.{AllFit}
use Rattle.server_core.specs.CalvinProper.{Valid, Forms}
use Rattle.server_core.specs.CalvinRuns.{IsRun}
use Rattle.server_core.specs.GlobalOrder.{number}
use Rattle.server_core.specs.Runs.{heard}
use Rattle.server_core.specs.Setting.{Setting, participants_for}
use Rattle.server_core.specs.Told.{commit_number, numbers_at}
use Rattle.server_core.specs.declared.messages.Entry.{Entry}
use Rattle.server_core.specs.declared.messages.Msg.{Msg}
use Rattle.server_core.specs.declared.messages.Msg.TheVariants.{Commit}
use Rattle.server_core.proofs.lists.ListTests.{same_number}
use Rattle.calvin_laws.proofs.counts.Fits.{nodes_fit}
use Rattle.calvin_laws.proofs.order.Nodes.{number_is}
use Rattle.calvin_laws.proofs.serial.FinishedOnce.{finished_once}

module _ (s : Setting) (x : TxnId) (p : ℕ) where
  -- Calvin has no Commit
  none_committed : (q : ℕ) (ms : List Msg) → AllFit s q ms → flat_map (commit_number x) ms ≡ []
  none_committed q [] fit = refl
  none_committed q (Commit a n ∷ ms) fit = absurd fit.0.1
  none_committed q (m ∷ ms) fit = none_committed q ms fit.1

  module _ (v : Valid s) (f : Forms s) (H : List Entry) (run : IsRun s H []) (known : IsIn x s.ids) where
    pub finished_told : numbers_at s H x p ≡ cond (list_any (λ q. eqb q p) (participants_for s x)) (number s x ∷ []) []
    finished_told =
        ap₂ (λ a b. a ++ b) (none_committed p (heard p H) (nodes_fit s v f H [] run p)) (go (list_any (λ q. eqb q p) (participants_for s x)) refl)
      where
        once : FinishedOnce s H x
        once = finished_once s v H run x known

        go : (b : Bool) → list_any (λ q. eqb q p) (participants_for s x) ≡ b → finished_numbers s H x p ≡ cond b (number s x ∷ []) []
        go true e = let q = any_found (λ q. eqb q p) (participants_for s x) e in (once.each p (subst (λ k. IsIn k (participants_for s x)) (number_is q.0 p q.2) q.1)).handled
        go false e = (once.nowhere p (λ i. true≢false (sym (any_at (λ q. eqb q p) p (participants_for s x) i (same_number p)) ∙ e))).1
