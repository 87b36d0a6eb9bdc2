-- The table tracks the history with one more Commit or Abort that wakes nobody.
use Rattle.std.proofs.Common.{◌≡◌, ◌⊎◌, ℕ, max, ltb, ◌≤◌, [], ◌∷◌, Bool, true, false, cond, refl, sym, ap, ◌∙◌, subst, inl, inr, ⊎_elim, arith, Option, Some, None, true≢false}
use Rattle.std.proofs.lemmas.Bool.Decides.{nat_tests}
use Rattle.deneva_base.specs.declared.keys.Key.{Key}
use Rattle.deneva_base.specs.declared.keys.Mode.{Mode}
use Rattle.deneva_base.specs.declared.numbers.Attempt.{Attempt}
use Rattle.deneva_base.specs.declared.numbers.Number.{Number}
use Rattle.deneva_base.specs.Lists.{IsIn}
use Rattle.deneva_base.specs.Rows.{Rows}
use Rattle.deneva_base.specs.Modes.{writes}
use Rattle.protocol_rules.specs.Conditions.{MayCommit, MayAbort}
use Rattle.protocol_rules.specs.History.{Commit, Abort, History, Grant, Decided, grants, yeas, IsUnended, WaitsNowhere}
use Rattle.protocol_rules.proofs.Sound.{Sound}
use Rattle.protocol_rules.proofs.Known.{Known}
use Rattle.protocol_rules.proofs.Traced.{Traced}
use Rattle.lock_control.specs.declared.requests.Request.{Request}
use Rattle.lock_control.specs.declared.table.Table.{Table}
use Rattle.lock_control.specs.Requests.{mode_in, accessed_by, written_by}
use Rattle.lock_control.specs.Seen.{Locks}
use Rattle.lock_control.specs.Locks.{ended_in}
use Rattle.lock_control.specs.Changes.{EndsOne}
use Rattle.lock_control.specs.Standing.{State, state_of, owner_of, IsOwner, IsWaiter, IsTop, any_mode, Tracks}
use Rattle.shelf.specs.Keeps.{Apart}
use Rattle.lock_control.proofs.Puts.{mode_found}
use Rattle.lock_control.proofs.Asking.{top_stays}
use Rattle.lock_control.proofs.Ending.{closed_locks, closed_tracks}
use Rattle.shelf.proofs.Closing.{commit_closes, abort_closes}
use Rattle.shelf.proofs.Keeps.{committed_rows, aborted_rows}

abbrev pub by_mode : (Mode → Bool) → Option Mode → ℕ → ℕ → ℕ
by_mode passes None n top = top
by_mode passes (Some mode) n top = cond (passes mode) (max top n) top

accessed_is : (m : Option Mode) (n top : ℕ) → accessed_by m n top ≡ by_mode any_mode m n top
accessed_is None n top = refl
accessed_is (Some mode) n top = refl

written_is : (m : Option Mode) (n top : ℕ) → written_by m n top ≡ by_mode writes m n top
written_is None n top = refl
written_is (Some mode) n top = refl

max_one : (a b : ℕ) → (max a b ≡ a) ⊎ (max a b ≡ b)
max_one a b = go (ltb a b) refl
  where
    go : (t : Bool) → ltb a b ≡ t → (max a b ≡ a) ⊎ (max a b ≡ b)
    go true e = inr (grind (arith, nat_tests, e))
    go false e = inl (grind (arith, nat_tests, e))

module _ (loaded : Rows) (h : History) (known : Known loaded h) (sound : Sound loaded h) (traced : Traced h) (apart : Apart (yeas h)) (who : Attempt) where
  -- the greatest numbers, with the one of this Commit
  top_commit : (number : Number) → IsUnended h who → WaitsNowhere h who → (s : State) → Tracks loaded s h → (key : Key) (passes : Mode → Bool) (n m : ℕ) → m ≡ by_mode passes (mode_in who (s.locks key).requests) number.n n → IsTop h key passes n → IsTop (Commit who number [] ∷ h) key passes m
  top_commit number unended nowhere s t key passes n m is top = ⊎_elim
      (λ (f : (x : Request) × IsIn x (s.locks key).requests × (x.who ≡ who) × (mode_in who (s.locks key).requests ≡ Some x.mode)).
      ⊎_elim
      (λ (o : IsOwner h key f.0).
      let same : o.grant.who ≡ who = sym (ap (λ (r : Request). r.who) o.same) ∙ f.2 in
      found o.grant o.there same o.here (passes o.grant.mode) refl (is ∙ ap (λ x. by_mode passes x number.n n) (f.3 ∙ ap (λ (r : Request). Some r.mode) o.same)))
      (λ (q : IsWaiter h key f.0). absurd (nowhere q.asked q.there (sym (ap (λ (r : Request). r.who) q.same) ∙ f.2)))
      (t.real key f.0 f.1))
      (λ none. stays (is ∙ ap (λ x. by_mode passes x number.n n) none.1) (λ g i e k p. none.0 (owner_of g) (subst (λ q. IsIn (owner_of g) (s.locks q).requests) k (t.owned g i (subst (λ w. IsUnended h w) (sym e) unended))) e))
      (mode_found who (s.locks key).requests)
    where
      stays : m ≡ n → ((g : Grant) → IsIn g (grants h) → g.who ≡ who → g.key ≡ key → passes g.mode ≡ true → ⊥) → IsTop (Commit who number [] ∷ h) key passes m
      stays e none = record {
        over = λ g d i j w k p. ⊎_elim (λ (new : d ≡ record { who = who; number = number }). absurd (none g i (w ∙ ap (λ (z : Decided). z.who) new) k p)) (λ old. subst (λ z. d.number.n ≤ z) (sym e) (top.over g d i old w k p)) j;
        from = ⊎_elim (λ z. inl (e ∙ z)) (λ z. inr (z.0, z.1, z.2, inr z.3, z.4, z.5, z.6, e ∙ z.7)) top.from;
      }

      found : (g : Grant) → IsIn g (grants h) → g.who ≡ who → g.key ≡ key → (b : Bool) → passes g.mode ≡ b → m ≡ by_mode passes (Some g.mode) number.n n → IsTop (Commit who number [] ∷ h) key passes m
      found g i w k true p e =
          let to : m ≡ max n number.n = e ∙ ap (λ b. cond b (max n number.n) n) p in
          record {
            over = λ x d j l w' k' p'. ⊎_elim (λ (new : d ≡ record { who = who; number = number }). omega (arith, to, ap (λ (z : Decided). z.number.n) new)) (λ old. omega (arith, to, top.over x d j old w' k' p')) l;
            from = ⊎_elim
                (λ left. ⊎_elim (λ z. inl (to ∙ left ∙ z)) (λ z. inr (z.0, z.1, z.2, inr z.3, z.4, z.5, z.6, to ∙ left ∙ z.7)) top.from)
                (λ right. inr (g, record { who = who; number = number }, i, inl refl, w, k, p, to ∙ right))
                (max_one n number.n);
          }
      found g i w k false p e = stays (e ∙ ap (λ b. cond b (max n number.n) n) p) (λ x j w' k' p'. true≢false (sym p' ∙ ap (λ (z : Grant). passes z.mode) (traced.one x g j i (w' ∙ sym w) (k' ∙ sym k)) ∙ p))

  pub committed : (number : Number) (old new : Table) → MayCommit h who number → Tracks loaded (state_of old) h → EndsOne who (Some number) old new → Tracks loaded (state_of new) (Commit who number [] ∷ h)
  committed number old new may t e =
      let s : State = state_of old in
      let s' : State = state_of new in
      let c = commit_closes known sound may in
      let at : (k : Key) → s'.locks k ≡ ended_in who (Some number) (s.locks k) = closed_locks loaded h (Commit who number [] ∷ h) who (Some number) known traced apart c old new t e in
      closed_tracks loaded h (Commit who number [] ∷ h) who (Some number) known traced apart c old new t e
      (λ k. top_commit number may.unended c.nowhere s t k any_mode (s.locks k).accessed (s'.locks k).accessed (ap (λ (l : Locks). l.accessed) (at k) ∙ accessed_is (mode_in who (s.locks k).requests) number.n (s.locks k).accessed) (t.accessed k))
      (λ k. top_commit number may.unended c.nowhere s t k writes (s.locks k).written (s'.locks k).written (ap (λ (l : Locks). l.written) (at k) ∙ written_is (mode_in who (s.locks k).requests) number.n (s.locks k).written) (t.written k))
      (committed_rows t.kept may.unended e.shelf)

  pub aborted_tracks : (old new : Table) → MayAbort h who → Tracks loaded (state_of old) h → EndsOne who None old new → Tracks loaded (state_of new) (Abort who [] ∷ h)
  aborted_tracks old new may t e =
      let s : State = state_of old in
      let s' : State = state_of new in
      let c = abort_closes may in
      let at : (k : Key) → s'.locks k ≡ ended_in who None (s.locks k) = closed_locks loaded h (Abort who [] ∷ h) who None known traced apart c old new t e in
      closed_tracks loaded h (Abort who [] ∷ h) who None known traced apart c old new t e
      (λ k. top_stays h (Abort who [] ∷ h) k any_mode (s.locks k).accessed (s'.locks k).accessed (ap (λ (l : Locks). l.accessed) (at k)) refl (λ x i. i) (λ x d i j e. i) (t.accessed k))
      (λ k. top_stays h (Abort who [] ∷ h) k writes (s.locks k).written (s'.locks k).written (ap (λ (l : Locks). l.written) (at k)) refl (λ x i. i) (λ x d i j e. i) (t.written k))
      (aborted_rows t.kept e.shelf)
