-- All attempts of a transaction before a started one are undone.
use Rattle.std.proofs.Common.{◌≡◌, ℕ, zero, suc, ◌<◌, ◌≤◌, List, [], ◌∷◌, true, sym, ap, ◌∙◌, subst, ⊎_elim, arith, true≢false}
use Rattle.std.proofs.lemmas.Bool.Decides.{eqb_tells}
use Rattle.deneva_base.specs.declared.numbers.TxnId.{TxnId}
use Rattle.deneva_base.specs.declared.numbers.Attempt.{Attempt}
use Rattle.deneva_base.specs.declared.numbers.Number.{Number}
use Rattle.deneva_base.proofs.Membership.{attempt_tells}
use Rattle.server_core.specs.declared.messages.Msg.{Msg}
use Rattle.server_core.specs.declared.messages.Msg.TheVariants.{Start, Ask, Commit}
use Rattle.server_core.specs.Setting.{Setting}
use Rattle.server_core.specs.Received.{started_for}
use Rattle.server_core.specs.VotingFits.{AllFit, IsAborted, Decides, AllUndone, earlier_turn}
use Rattle.server_core.proofs.values.Origins.{aborted_started}
use Rattle.server_core.proofs.counts.Starts.{undone_more}

-- the attempt before a started one is undone
undone_prev : (s : Setting) (p : ℕ) (who : Attempt) (ms : List Msg) → AllFit s p ms → 1 < who.turn → started_for who ms ≡ true → AllUndone s ms (earlier_turn who)
undone_prev s p who [] fit lt e = absurd (true≢false (sym e))
undone_prev s p who (Start x ∷ ms) fit lt e =
    undone_more s p who (earlier_turn who) (Start x) ms fit.0.0 fit.0.1
    (⊎_elim
    (λ t. ⊎_elim
    (λ a. absurd (omega (arith, a.0, lt, ap (λ (y : Attempt). y.turn) t.1)))
    (λ a. subst (λ y. AllUndone s ms (earlier_turn y)) t.1 a.2)
    fit.0.1.3)
    (λ t. undone_prev s p who ms fit.1 lt (rw t.0 at e))
    (attempt_tells x who))
undone_prev s p who (Ask x st k m ∷ ms) fit lt e = undone_more s p who (earlier_turn who) (Ask x st k m) ms fit.0.0 fit.0.1 (undone_prev s p who ms fit.1 lt e)
undone_prev s p who (m ∷ ms) fit lt e = undone_more s p who (earlier_turn who) m ms fit.0.0 fit.0.1 (undone_prev s p who ms fit.1 lt e)

-- all earlier attempts of a started one are undone
pub undone_before : (s : Setting) (p : ℕ) (x : TxnId) (t u : ℕ) (ms : List Msg) → AllFit s p ms → 1 ≤ t → t < u → started_for (record { txn = x; turn = u }) ms ≡ true → AllUndone s ms (record { txn = x; turn = t })
undone_before s p x t zero ms fit low lt e = absurd (omega arith)
undone_before s p x t (suc u) ms fit low lt e =
    let a : AllUndone s ms (record { txn = x; turn = u }) = undone_prev s p (record { txn = x; turn = suc u }) ms fit (omega arith) e in
    ⊎_elim
    (λ k. subst (λ n. AllUndone s ms (record { txn = x; turn = n })) (sym k.1) a)
    (λ k. undone_before s p x t u ms fit low (omega (arith, k.1)) (aborted_started s p (record { txn = x; turn = u }) ms fit a.0))
    (eqb_tells t u)

pub not_both : (s : Setting) (ms : List Msg) (who : Attempt) (n : Number) → IsAborted s ms who → Decides s ms who (Commit who n) → ⊥
not_both s ms who n a d = ⊎_elim (λ r. true≢false (sym r ∙ d.0.0.1)) (λ b. cc (sym b.1 ∙ d.1)) a
