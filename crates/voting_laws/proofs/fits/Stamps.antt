-- The stamp of an attempt, and that stamps of different attempts differ.
use Rattle.std.proofs.Common.{◌≡◌, ◌≢◌, ℕ, suc, ◌+◌, ◌*◌, ◌<◌, ◌≤◌, List, [], ◌∷◌, length, slice_get, reverse, Bool, true, false, cond, not, ◌&&◌, ◌||◌, eqb, refl, sym, ap, ◌∙◌, subst, ⊎_elim, arith, Option, Some, None, true≢false}
use Rattle.std.proofs.lemmas.Bool.Decides.{nat_tests}
use Rattle.deneva_base.specs.declared.keys.Key.{Key}
use Rattle.deneva_base.specs.declared.numbers.Attempt.{Attempt}
use Rattle.deneva_base.specs.declared.keys.Mode.{Mode}
use Rattle.deneva_base.specs.Lists.{IsIn}
use Rattle.deneva_base.specs.Keys.{attempt_eq, key_eq}
use Rattle.deneva_base.specs.declared.causes.Cause.{Cause}
use Rattle.deneva_base.specs.declared.causes.Cause.TheVariants.{Held, Younger, Written, ReadLater, EmptyRange, Apart, Trimmed}
use Rattle.deneva_base.proofs.Membership.{in_cases, attempt_tells, key_tells}
use Rattle.server_core.specs.declared.messages.Msg.{Msg}
use Rattle.server_core.specs.declared.messages.Msg.TheVariants.{Start, Ask, Granted, Refused}
use Rattle.server_core.specs.declared.messages.Mail.{Mail}
use Rattle.server_core.specs.Setting.{Setting, partitions_of}
use Rattle.deneva_base.specs.declared.keys.Access.{Access}
use Rattle.server_core.specs.Received.{Reply, grants_for, started_for}
use Rattle.server_core.specs.Stamps.{raised, counter, stamped, stamp_from}
use Rattle.server_core.specs.Voting.{says}
use Rattle.server_core.specs.Coordinator.{coordinator, next_ask, prepare_to, bound_of, effect_of}
use Rattle.server_core.specs.Participant.{participant}
use Rattle.server_core.specs.VotingFits.{Suits, AllFit}
use Rattle.server_core.specs.Counts.{all_said, count}
use Rattle.server_core.proofs.counts.Conserved.{count_in}
use Rattle.server_core.proofs.counts.Local.{sent_to}
use Rattle.server_core.proofs.counts.Quiet.{is_ask, none_late, none_participant}
use Rattle.server_core.proofs.values.Origins.{in_map}
use Rattle.server_core.proofs.counts.Starts.{started_first}

-- which starts take a stamp
abbrev pub takes : Setting → Attempt → Bool
takes s who = eqb who.turn 1 || not s.fixed

raised_more : (parts n : ℕ) (c : Cause) → n ≤ raised parts n c
raised_more parts n (Written k st) = omega arith
raised_more parts n (ReadLater k st) = omega arith
raised_more parts n (Trimmed k f) = omega arith
raised_more parts n (Held k by) = omega arith
raised_more parts n (Younger k by age) = omega arith
raised_more parts n (EmptyRange lo k hi by) = omega arith
raised_more parts n (Apart lo lp hi hp) = omega arith

pub counter_more : (s : Setting) (m : Msg) (ms : List Msg) → counter s ms ≤ counter s (m ∷ ms)
counter_more s (Start x) ms = go (takes s x)
  where
    go : (b : Bool) → counter s ms ≤ cond b (suc (counter s ms)) (counter s ms)
    go true = omega arith
    go false = omega arith
counter_more s (Refused x k c) ms = raised_more s.parts (counter s ms) c
counter_more s (Ask x st k m) ms = omega arith
counter_more s m ms = omega arith

itself : (y : Attempt) → attempt_eq y y ≡ true
itself y = ⊎_elim (λ t. t.0) (λ f. absurd (f.1 refl)) (attempt_tells y y)

module _ (s : Setting) (p : ℕ) where
  -- the stamp of a started attempt comes of a counter that has risen since
  pub stamp_is : (who : Attempt) (ms : List Msg) → takes s who ≡ true → started_for who ms ≡ true → (c : ℕ) × (c < counter s ms) × (stamp_from s p ms who ≡ c * s.parts + p + 1)
  stamp_is who [] t e = absurd (true≢false (sym e))
  stamp_is who (Start x ∷ ms) t e =
      ⊎_elim
      (λ (is : (attempt_eq x who ≡ true) × (x ≡ who)). let tx : takes s x ≡ true = subst (λ y. takes s y ≡ true) (sym is.1) t in (counter s ms, rw tx (omega arith), rw is.0))
      (λ f. let n = stamp_is who ms t (rw f.0 at e) in (n.0, omega (arith, n.1, counter_more s (Start x) ms), rw f.0 n.2))
      (attempt_tells x who)
  stamp_is who (Refused x k c ∷ ms) t e = let n = stamp_is who ms t e in (n.0, omega (arith, n.1, counter_more s (Refused x k c) ms), n.2)
  stamp_is who (Ask x st k m ∷ ms) t e = stamp_is who ms t e
  stamp_is who (m ∷ ms) t e = stamp_is who ms t e

  mul_less : (a b k : ℕ) → a < b → a * k ≤ b * k
  mul_less a b k lt = grind (arith, lt)

  -- and those of two attempts differ
  pub stamps_differ : 1 ≤ s.parts → (a b : Attempt) (ms : List Msg) → takes s a ≡ true → takes s b ≡ true → started_for a ms ≡ true → started_for b ms ≡ true → a ≢ b → stamp_from s p ms a ≢ stamp_from s p ms b
  stamps_differ one a b [] ta tb ea eb ne = absurd (true≢false (sym ea))
  stamps_differ one a b (Start x ∷ ms) ta tb ea eb ne =
      ⊎_elim
      (λ (is : (attempt_eq x a ≡ true) × (x ≡ a)).
      ⊎_elim
      (λ (js : (attempt_eq x b ≡ true) × (x ≡ b)). absurd (ne (sym is.1 ∙ js.1)))
      (λ (js : (attempt_eq x b ≡ false) × (x ≢ b)). let n = stamp_is b ms tb (rw js.0 at eb) in rw (is.0, js.0) (λ e. apart n.0 (counter s ms) n.1 (sym n.2 ∙ sym e)))
      (attempt_tells x b))
      (λ (is : (attempt_eq x a ≡ false) × (x ≢ a)).
      ⊎_elim
      (λ (js : (attempt_eq x b ≡ true) × (x ≡ b)). let n = stamp_is a ms ta (rw is.0 at ea) in rw (is.0, js.0) (λ e. apart n.0 (counter s ms) n.1 (sym n.2 ∙ e)))
      (λ (js : (attempt_eq x b ≡ false) × (x ≢ b)). rw (is.0, js.0) (stamps_differ one a b ms ta tb (rw is.0 at ea) (rw js.0 at eb) ne))
      (attempt_tells x b))
      (attempt_tells x a)
    where
      apart : (c d : ℕ) → c < d → c * s.parts + p + 1 ≡ d * s.parts + p + 1 → ⊥
      apart c d lt e = more c d s.parts lt one (omega (arith, e))
        where
          more : (c d k : ℕ) → c < d → 1 ≤ k → c * k ≡ d * k → ⊥
          more c d k lt low e = grind (arith, lt, low, e)
  stamps_differ one a b (Ask x st k m ∷ ms) ta tb ea eb ne = stamps_differ one a b ms ta tb ea eb ne
  stamps_differ one a b (m ∷ ms) ta tb ea eb ne = stamps_differ one a b ms ta tb ea eb ne

  -- one more message leaves the stamp of a started attempt alone
  stamp_stays : (who : Attempt) (m : Msg) (ms : List Msg) (f : ℕ) → Suits s p f m ms → started_for who ms ≡ true → stamp_from s p (m ∷ ms) who ≡ stamp_from s p ms who
  stamp_stays who (Start x) ms f fit e = ⊎_elim (λ (t : (attempt_eq x who ≡ true) × (x ≡ who)). absurd (fit.2 (subst (λ y. started_for y ms ≡ true) (sym t.1) e))) (λ t. rw t.0) (attempt_tells x who)
  stamp_stays who (Ask x st k m) ms f fit e = refl
  stamp_stays who m ms f fit e = refl

  -- the start that gave the stamp
  pub stamped_started : (who : Attempt) (ms : List Msg) → AllFit s p ms → started_for who ms ≡ true → started_for (stamped s who) ms ≡ true
  stamped_started who ms fit e = go s.fixed
    where
      go : (b : Bool) → started_for (cond b (record { txn = who.txn; turn = 1 }) who) ms ≡ true
      go true = started_first s p who.txn who.turn ms fit e
      go false = e

  pub stamped_takes : (who : Attempt) → takes s (stamped s who) ≡ true
  stamped_takes who = go s.fixed refl
    where
      go : (b : Bool) → s.fixed ≡ b → (eqb (cond b (record { txn = who.txn; turn = 1 }) who).turn 1 || not s.fixed) ≡ true
      go true e = refl
      go false e = rw e (or_true (eqb who.turn 1))
        where
          or_true : (a : Bool) → (a || true) ≡ true
          or_true true = refl
          or_true false = refl

  started_more : (who : Attempt) (m : Msg) (ms : List Msg) → started_for who ms ≡ true → started_for who (m ∷ ms) ≡ true
  started_more who (Start x) ms e = or_right (attempt_eq x who) (started_for who ms) e
    where
      or_right : (a b : Bool) → b ≡ true → (a || b) ≡ true
      or_right a b e = grind (arith, e)
  started_more who (Ask x st k m) ms e = e
  started_more who m ms e = e

  -- an Ask that was said is of a started attempt, and has its stamp
  abbrev pub AskedOf : Attempt → ℕ → List Msg → Type 0
  AskedOf who st ms = (started_for who ms ≡ true) × (st ≡ stamp_from s p ms (stamped s who))

  from_next : (y who : Attempt) (stamp st : ℕ) (k : Key) (m : Mode) (rs : List Reply) (o : Option Access) (x : Mail) → x.msg ≡ Ask who st k m → IsIn x (next_ask s p y stamp rs o) → (y ≡ who) × (stamp ≡ st)
  from_next y who stamp st k m rs (Some a) x e i =
      ⊎_elim
      (λ is. let f : Ask y stamp a.key a.mode ≡ Ask who st k m = sym (ap (λ (z : Mail). z.msg) is) ∙ e in let f1 : y ≡ who = cc in let f2 : stamp ≡ st = cc in (f1, f2))
      (λ n. absurd n)
      i
  from_next y who stamp st k m rs None x e i =
      let n = in_map (prepare_to s p y (bound_of rs) (effect_of s y.txn rs)) x (partitions_of s.parts (s.accesses y.txn)) i in
      absurd (not_prepare x.msg n.0 (ap (λ (z : Mail). z.msg) n.2) e)
    where
      not_prepare : (z : Msg) (q : ℕ) → z ≡ (prepare_to s p y (bound_of rs) (effect_of s y.txn rs) q).msg → z ≡ Ask who st k m → ⊥
      not_prepare z q e f = let g = sym e ∙ f in absurd (cc (g))

  not_in : (who : Attempt) (k : Key) (xs : List Mail) (x : Mail) (st : ℕ) (m : Mode) → x.msg ≡ Ask who st k m → IsIn x xs → count (sent_to x.to (is_ask who k)) xs ≡ 0 → ⊥
  not_in who k xs x st m e i none = omega (arith, count_in (sent_to x.to (is_ask who k)) x xs i (subst (λ y. (is_ask who k y && eqb x.to x.to) ≡ true) (sym e) (both who k x.to)), none)
    where
      both : (a : Attempt) (k : Key) (q : ℕ) → ((attempt_eq a a && key_eq k k) && eqb q q) ≡ true
      both a k q = grind (arith, nat_tests, attempt_tells a a, key_tells k k)

  new_ask : (who : Attempt) (st : ℕ) (k : Key) (md : Mode) (m : Msg) (ms : List Msg) (f : ℕ) → AllFit s p ms → Suits s p f m ms → (x : Mail) → x.msg ≡ Ask who st k md → IsIn x (coordinator s p m ms) → AskedOf who st (m ∷ ms)
  new_ask who st k md (Start y) ms f all fit x e i =
      let n = from_next y who (stamp_from s p (Start y ∷ ms) (stamped s y)) st k md [] (slice_get (s.accesses y.txn) 0) x e i in
      (⊎_elim (λ t. rw t.0) (λ t. absurd (t.1 n.0)) (attempt_tells y who), sym n.1 ∙ ap (λ z. stamp_from s p (Start y ∷ ms) (stamped s z)) n.0)
  new_ask who st k md (Granted y q r w b) ms f all fit x e i =
      let n = from_next y who (stamp_from s p ms (stamped s y)) st k md (reverse (record { row = r; bound = b; key = q } ∷ grants_for y ms)) (slice_get (s.accesses y.txn) (suc (length (grants_for y ms)))) x e i in
      (subst (λ z. started_for z ms ≡ true) n.0 fit.2.1.0, sym n.1 ∙ ap (λ z. stamp_from s p ms (stamped s z)) n.0)
  new_ask who st k md m ms f all fit x e i = absurd (not_in who k (coordinator s p m ms) x st md e i (none_late s p x.to (is_ask who k) (record { commit = λ x number. refl; abort = λ x. refl }) (record { start = λ x. refl }) m ms (λ z d. absurd (cc (d))) (λ z k r n bd d. absurd (cc (d)))))

  pub ask_said : (who : Attempt) (st : ℕ) (k : Key) (md : Mode) (ms : List Msg) → AllFit s p ms → (x : Mail) → x.msg ≡ Ask who st k md → IsIn x (all_said (says s) p ms) → AskedOf who st ms
  ask_said who st k md [] fit x e i = absurd i
  ask_said who st k md (m ∷ ms) fit x e i =
      ⊎_elim
      (λ c. ⊎_elim
      (λ a. new_ask who st k md m ms fit.0.0 fit.1 fit.0.1 x e a)
      (λ d. absurd (not_in who k (participant s p m ms) x st md e d (none_participant s p x.to (is_ask who k) (record { granted = λ x k r v b. refl; refused = λ x k c. refl; yes' = λ x part lo hi. refl; no' = λ x part c. refl; done = λ x part. refl; undone = λ x part. refl }) m ms)))
      (in_cases x (coordinator s p m ms) (participant s p m ms) c))
      (λ o.
      let h = ask_said who st k md ms fit.1 x e o in
      (started_more who m ms h.0, h.1 ∙ sym (stamp_stays (stamped s who) m ms fit.0.0 fit.0.1 (stamped_started who ms fit.1 h.0))))
      (in_cases x (says s p (m ∷ ms)) (all_said (says s) p ms) i)
