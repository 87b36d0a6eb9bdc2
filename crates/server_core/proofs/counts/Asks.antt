-- How often a home says an Ask: once for each access up to the one that is awaited.
use Rattle.std.proofs.Common.{◌≡◌, ℕ, zero, suc, ◌+◌, List, [], ◌∷◌, length, slice_get, reverse, Bool, true, false, cond, ◌&&◌, ◌||◌, eqb, refl, sym, ap, ◌∙◌, subst, ⊎_elim, arith, Option, Some, None, true≢false}
use Rattle.std.proofs.lemmas.Bool.Decides.{nat_tests}
use Rattle.deneva_base.specs.declared.keys.Key.{Key}
use Rattle.deneva_base.specs.declared.numbers.Attempt.{Attempt}
use Rattle.deneva_base.specs.declared.numbers.Number.{Number}
use Rattle.deneva_base.specs.Rows.{Row}
use Rattle.deneva_base.specs.Keys.{attempt_eq, key_eq}
use Rattle.deneva_base.proofs.Membership.{attempt_tells}
use Rattle.server_core.specs.declared.messages.Msg.{Msg}
use Rattle.server_core.specs.declared.messages.Msg.TheVariants.{Start, Granted}
use Rattle.server_core.specs.Setting.{Setting, take_first, participants}
use Rattle.deneva_base.specs.declared.keys.Access.{Access}
use Rattle.server_core.specs.Received.{Reply, grants_for, started_for}
use Rattle.deneva_base.specs.Partitions.{partition_of}
use Rattle.server_core.specs.Voting.{says}
use Rattle.server_core.specs.Coordinator.{coordinator, next_ask, prepare_to, effect_of, bound_of}
use Rattle.server_core.specs.Stamps.{stamp_from, stamped}
use Rattle.server_core.specs.VotingFits.{AllFit}
use Rattle.server_core.specs.Counts.{all_said, count}
use Rattle.server_core.proofs.counts.Local.{sent_to}
use Rattle.server_core.proofs.counts.Quiet.{is_ask, count_map, NoEnds, NoStarts, NoReplies, none_late, none_participant, more_said}

abbrev pub fits_key : ℕ → ℕ → Key → Access → Bool
fits_key parts q key a = key_eq a.key key && eqb (partition_of a.key parts) q

abbrev pub one_in : ℕ → ℕ → Key → Option Access → ℕ
one_in parts q key None = 0
one_in parts q key (Some a) = cond (fits_key parts q key a) 1 0

abbrev pub asks_in : ℕ → ℕ → Key → List Access → ℕ
asks_in parts q key [] = 0
asks_in parts q key (a ∷ as') = cond (fits_key parts q key a) 1 0 + asks_in parts q key as'

pub asks_more : (parts q : ℕ) (key : Key) (n : ℕ) (as' : List Access) → asks_in parts q key (take_first (suc n) as') ≡ asks_in parts q key (take_first n as') + one_in parts q key (slice_get as' n)
asks_more parts q key zero [] = refl
asks_more parts q key (suc n) [] = refl
asks_more parts q key zero (a ∷ as') = omega arith
asks_more parts q key (suc n) (a ∷ as') = omega (arith, asks_more parts q key n as')

-- without a Start nothing was granted
pub unstarted : (s : Setting) (p : ℕ) (who : Attempt) (ms : List Msg) → AllFit s p ms → started_for who ms ≡ false → grants_for who ms ≡ []
unstarted s p who [] fit e = refl
unstarted s p who (Granted x key row version bound ∷ ms) fit e =
    ⊎_elim
    (λ t. absurd (true≢false (sym (subst (λ y. started_for y ms ≡ true) t.1 fit.0.1.2.1.0) ∙ e)))
    (λ t. rw t.0 (unstarted s p who ms fit.1 e))
    (attempt_tells x who)
unstarted s p who (Start x ∷ ms) fit e = unstarted s p who ms fit.1 (later (attempt_eq x who) (started_for who ms) e)
  where
    later : (a b : Bool) → (a || b) ≡ false → b ≡ false
    later true b e = absurd (true≢false e)
    later false b e = e
unstarted s p who (m ∷ ms) fit e = unstarted s p who ms fit.1 e

module _ (s : Setting) (p : ℕ) (who : Attempt) (key : Key) (q : ℕ) where
  abbrev test : Msg → Bool
  test = is_ask who key

  ends : NoEnds (is_ask who key)
  ends = record { commit = λ x number. refl; abort = λ x. refl }

  starts : NoStarts (is_ask who key)
  starts = record { start = λ x. refl }

  replies : NoReplies (is_ask who key)
  replies = record { granted = λ x k r v b. refl; refused = λ x k c. refl; yes' = λ x part lo hi. refl; no' = λ x part c. refl; done = λ x part. refl; undone = λ x part. refl }

  abbrev asked : List Msg → ℕ
  asked ms = cond (started_for who ms) (asks_in s.parts q key (take_first (suc (length (grants_for who ms))) (s.accesses who.txn))) 0

  next_asks : (x : Attempt) (stamp : ℕ) (rs : List Reply) (o : Option Access) → count (sent_to q test) (next_ask s p x stamp rs o) ≡ cond (attempt_eq x who) (one_in s.parts q key o) 0
  next_asks x stamp rs None = count_map (sent_to q test) (prepare_to s p x (bound_of rs) (effect_of s x.txn rs)) (participants s x) (λ r. refl) ∙ zero_if (attempt_eq x who)
    where
      zero_if : (b : Bool) → ◌≡◌ {A = ℕ} 0 (cond b 0 0)
      zero_if true = refl
      zero_if false = refl
  next_asks x stamp rs (Some a) = grind (arith, nat_tests)

  at_start : (x : Attempt) (ms : List Msg) → AllFit s p (Start x ∷ ms) → count (sent_to q test) (coordinator s p (Start x) ms) + asked ms ≡ asked (Start x ∷ ms)
  at_start x ms fit =
      let n = next_asks x (stamp_from s p (Start x ∷ ms) (stamped s x)) [] (slice_get (s.accesses x.txn) 0) in
      ⊎_elim
      (λ t. own t.0 t.1 (n ∙ ap (λ b. cond b (one_in s.parts q key (slice_get (s.accesses x.txn) 0)) 0) t.0) (off (started_for who ms) (subst (λ y. started_for y ms ≡ true → ⊥) t.1 fit.0.1.2)))
      (λ t. rw t.0 (omega (arith, n ∙ ap (λ b. cond b (one_in s.parts q key (slice_get (s.accesses x.txn) 0)) 0) t.0)))
      (attempt_tells x who)
    where
      off : (b : Bool) → (b ≡ true → ⊥) → b ≡ false
      off true h = absurd (h refl)
      off false h = refl

      own : attempt_eq x who ≡ true → x ≡ who → count (sent_to q test) (coordinator s p (Start x) ms) ≡ one_in s.parts q key (slice_get (s.accesses x.txn) 0) → started_for who ms ≡ false → count (sent_to q test) (coordinator s p (Start x) ms) + asked ms ≡ asked (Start x ∷ ms)
      own t e n f =
          let g : grants_for who ms ≡ [] = unstarted s p who ms fit.1 f in
          let m = asks_more s.parts q key 0 (s.accesses who.txn) in
          rw (t, f, g) (omega (arith, n, m, ap (λ y. one_in s.parts q key (slice_get (s.accesses y.txn) 0)) e))

  at_grant : (x : Attempt) (k : Key) (row : Row) (version : Number) (bound : ℕ) (ms : List Msg) → AllFit s p (Granted x k row version bound ∷ ms) → count (sent_to q test) (coordinator s p (Granted x k row version bound) ms) + asked ms ≡ asked (Granted x k row version bound ∷ ms)
  at_grant x k row version bound ms fit =
      let rs : List Reply = reverse (record { row = row; bound = bound; key = k } ∷ grants_for x ms) in
      let n = next_asks x (stamp_from s p ms (stamped s x)) rs (slice_get (s.accesses x.txn) (suc (length (grants_for x ms)))) in
      ⊎_elim
      (λ t. let f : started_for who ms ≡ true = subst (λ y. started_for y ms ≡ true) t.1 fit.0.1.2.1.0 in
      let m = asks_more s.parts q key (suc (length (grants_for who ms))) (s.accesses who.txn) in
      rw (t.0, f) (omega (arith, n ∙ ap (λ b. cond b (one_in s.parts q key (slice_get (s.accesses x.txn) (suc (length (grants_for x ms))))) 0) t.0, m, ap (λ y. one_in s.parts q key (slice_get (s.accesses y.txn) (suc (length (grants_for y ms))))) t.1)))
      (λ t. rw t.0 (omega (arith, n ∙ ap (λ b. cond b (one_in s.parts q key (slice_get (s.accesses x.txn) (suc (length (grants_for x ms))))) 0) t.0)))
      (attempt_tells x who)

  pub asks_said : (ms : List Msg) → AllFit s p ms → count (sent_to q (is_ask who key)) (all_said (says s) p ms) ≡ cond (started_for who ms) (asks_in s.parts q key (take_first (suc (length (grants_for who ms))) (s.accesses who.txn))) 0
  asks_said [] fit = refl
  asks_said (Granted x k row version bound ∷ ms) fit = omega (arith, more_said s p q test (Granted x k row version bound) ms, none_participant s p q test replies (Granted x k row version bound) ms, at_grant x k row version bound ms fit, asks_said ms fit.1)
  asks_said (Start x ∷ ms) fit = omega (arith, more_said s p q test (Start x) ms, none_participant s p q test replies (Start x) ms, at_start x ms fit, asks_said ms fit.1)
  asks_said (m ∷ ms) fit = omega (arith, more_said s p q test m ms, none_participant s p q test replies m ms, none_late s p q test ends starts m ms (λ x e. absurd (cc (e))) (λ x k r v b e. absurd (cc (e))), asks_said ms fit.1)
