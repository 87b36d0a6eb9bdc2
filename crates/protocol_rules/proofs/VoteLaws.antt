-- What a rule owes for the window law: that it wakes waiting accesses, and the facts of a vote Yes.
use Rattle.std.proofs.Common.{◌≡◌, ℕ, List, [], ◌∷◌, sym, subst, ⊎_elim}
use Rattle.deneva_base.specs.declared.numbers.Attempt.{Attempt}
use Rattle.deneva_base.specs.declared.numbers.Number.{Number}
use Rattle.deneva_base.specs.Rows.{Rows}
use Rattle.deneva_base.specs.declared.answers.Vote.{Vote}
use Rattle.deneva_base.specs.declared.answers.Vote.TheVariants.{Yes, No}
use Rattle.deneva_base.specs.declared.causes.Bound.{Bound}
use Rattle.deneva_base.specs.declared.rows.Keyed.{Keyed}
use Rattle.protocol_rules.specs.History.{Ask, Prepare, Commit, Abort, History}
use Rattle.protocol_rules.specs.Wakes.{WakesWaiters, KeepsWakes}
use Rattle.protocol_rules.specs.Windows.{HasWindow, KeepsWindows}
use Rattle.protocol_rules.specs.Conditions.{MayPrepare, MayCommit, MayAbort}
use Rattle.protocol_rules.specs.Rules.{Rule, Obeys}
use Rattle.protocol_rules.proofs.Windows.{kept_law, ask_kept, commit_kept, abort_kept, no_kept, Fresh, yes_law}
use Rattle.protocol_rules.proofs.Sound.{sound}
use Rattle.protocol_rules.proofs.Known.{known}
use Rattle.protocol_rules.proofs.Traced.{idle}

module _ (loaded : Rows) (rule : Rule) where
  -- a rule that wakes waiting accesses gives histories that do
  pub keeps_wakes : ((h : History) (who : Attempt) (number : Number) → Obeys loaded rule h → MayCommit h who number → WakesWaiters h (rule.commit h who number)) → ((h : History) (who : Attempt) → Obeys loaded rule h → MayAbort h who → WakesWaiters h (rule.abort h who)) → (h : History) → Obeys loaded rule h → KeepsWakes h
  keeps_wakes commits aborts [] o = tt
  keeps_wakes commits aborts (Ask who stamp key mode answer ∷ h) o = (tt, keeps_wakes commits aborts h o.2)
  keeps_wakes commits aborts (Prepare who bound writes appends vote ∷ h) o = (tt, keeps_wakes commits aborts h o.2)
  keeps_wakes commits aborts (Commit who number woken ∷ h) o = (subst (λ w. WakesWaiters h w) (sym o.1) (commits h who number o.2 o.0), keeps_wakes commits aborts h o.2)
  keeps_wakes commits aborts (Abort who woken ∷ h) o = (subst (λ w. WakesWaiters h w) (sym o.1) (aborts h who o.2 o.0), keeps_wakes commits aborts h o.2)

  -- each vote Yes brings its facts
  abbrev pub VotesFresh : Type 0
  VotesFresh = (h : History) (who : Attempt) (bound : Bound) (writes appends : List Keyed) (lo hi : ℕ) → Obeys loaded rule h → KeepsWakes h → MayPrepare h who bound writes appends → KeepsWindows loaded h → Yes lo hi ≡ rule.vote h who bound writes appends → Fresh loaded h who writes lo hi

  voted : VotesFresh → (h : History) (who : Attempt) (bound : Bound) (writes appends : List Keyed) (vote : Vote) → Obeys loaded rule (Prepare who bound writes appends vote ∷ h) → KeepsWakes h → KeepsWindows loaded h → KeepsWindows loaded (Prepare who bound writes appends vote ∷ h)
  voted fresh h who bound writes appends (No cause) o ws law = kept_law loaded h (Prepare who bound writes appends (No cause) ∷ h) (no_kept loaded h who bound writes appends cause) law
  voted fresh h who bound writes appends (Yes lo hi) o ws law =
      let s = sound loaded rule h o.2 in
      yes_law loaded h who bound writes appends lo hi o.0.unended o.0.opened s.ends s.closes (fresh h who bound writes appends lo hi o.2 ws o.0 law o.1) law

  -- so it keeps the window law
  pub windows : VotesFresh → (h : History) → Obeys loaded rule h → KeepsWakes h → KeepsWindows loaded h
  windows fresh [] o ws = record {
    positive = λ r lo hi w. absurd (none r lo hi w);
    source = λ r lo hi g w i e f. absurd i;
    reads = λ r lo hi g u lo_u hi_u row w i e f a x y. absurd i;
    writers = λ r lo hi u lo_u hi_u key x y a w w_u i j. absurd i.2;
  }
    where
      none : (r : Attempt) (lo hi : ℕ) → HasWindow [] r lo hi → ⊥
      none r lo hi w = ⊎_elim (λ c. c.2) (λ c. c.2) w
  windows fresh (Ask who stamp key mode answer ∷ h) o ws =
      let s = sound loaded rule h o.2 in
      kept_law loaded h (Ask who stamp key mode answer ∷ h) (ask_kept loaded h s.ends s.closes who stamp key mode answer o.0.unended o.0.opened) (windows fresh h o.2 ws.1)
  windows fresh (Prepare who bound writes appends vote ∷ h) o ws = voted fresh h who bound writes appends vote o ws.1 (windows fresh h o.2 ws.1)
  windows fresh (Commit who number woken ∷ h) o ws =
      let s = sound loaded rule h o.2 in
      kept_law loaded h (Commit who number woken ∷ h) (commit_kept loaded h s.ends s.closes who number woken o.0 (idle loaded h woken (known loaded rule h o.2) ws.0)) (windows fresh h o.2 ws.1)
  windows fresh (Abort who woken ∷ h) o ws =
      let s = sound loaded rule h o.2 in
      kept_law loaded h (Abort who woken ∷ h) (abort_kept loaded h s.ends s.closes who woken (idle loaded h woken (known loaded rule h o.2) ws.0)) (windows fresh h o.2 ws.1)
