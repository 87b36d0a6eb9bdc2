-- The decided transactions of a quiet run agree by the window law.
use Rattle.std.proofs.Common.{◌≡◌, ℕ, suc, ◌<◌, ◌≤◌, List, [], ◌∷◌, ◌++◌, length, reverse, slice_get, Bool, true, false, cond, eqb, ◌&&◌, refl, sym, ap, ◌∙◌, subst, inl, inr, ⊎_elim, arith, Option, Some, None, true≢false}
use Rattle.std.specs.List.{list_any}
use Rattle.std.proofs.lemmas.Bool.Decides.{nat_tests}
use Rattle.deneva_base.specs.declared.keys.Key.{Key}
use Rattle.deneva_base.specs.declared.numbers.Attempt.{Attempt}
use Rattle.deneva_base.specs.declared.numbers.Number.{Number}
use Rattle.deneva_base.specs.declared.keys.Mode.{Mode}
use Rattle.deneva_base.specs.Lists.{IsIn}
use Rattle.deneva_base.specs.Rows.{Row}
use Rattle.deneva_base.specs.Keys.{attempt_eq}
use Rattle.deneva_base.specs.declared.causes.Bound.{Bound}
use Rattle.deneva_base.specs.declared.rows.Keyed.{Keyed}
use Rattle.deneva_base.specs.declared.answers.Vote.{Vote}
use Rattle.deneva_base.specs.declared.answers.Vote.TheVariants.{Yes as VotesYes, No as VotesNo}
use Rattle.protocol_rules.specs.History.{Yea, Decided, yeas, yea, decided}
use Rattle.deneva_base.proofs.Membership.{in_cases, filter_in, attempt_tells}
use Rattle.server_core.specs.declared.messages.Msg.{Msg}
use Rattle.server_core.specs.declared.messages.Msg.TheVariants.{Start, Ask, Granted, Prepare, Commit}
use Rattle.server_core.specs.declared.messages.Mail.{Mail}
use Rattle.server_core.specs.Setting.{Setting, rule_at, partitions_of}
use Rattle.deneva_base.specs.declared.keys.Access.{Access}
use Rattle.server_core.specs.Received.{Reply, grants_for}
use Rattle.tpcc_rules.specs.declared.effects.Effect.{Effect}
use Rattle.server_core.specs.Participant.{calls, participant}
use Rattle.txn_program.specs.Transactions.{numbers_below}
use Rattle.deneva_base.specs.Partitions.{partition_of}
use Rattle.server_core.specs.Coordinator.{at_part, effect_of, coordinator, next_ask, prepare_to, bound_of}
use Rattle.server_core.specs.Effects.{written, appended}
use Rattle.server_core.specs.Voting.{says}
use Rattle.server_core.specs.Stamps.{stamp_from, stamped}
use Rattle.server_core.specs.Counts.{all_said, count}
use Rattle.server_core.specs.VotingFits.{IsAsking, Suits, AllFit}
use Rattle.server_core.proofs.counts.Conserved.{count_in}
use Rattle.server_core.proofs.counts.Local.{sent_to}
use Rattle.server_core.proofs.counts.Quiet.{is_prepare, NoReplies, NoEnds, NoStarts, none_late, none_participant}
use Rattle.server_core.proofs.counts.Prepares.{slice_some, slice_none, next_counts}
use Rattle.server_core.proofs.values.Origins.{in_map}
use Rattle.server_core.specs.Proper.{Valid}

-- without accesses there is no participant
pub no_participant : (parts q : ℕ) → IsIn q (partitions_of parts []) → ⊥
no_participant parts q i = true≢false (sym (filter_in (λ p. list_any (λ (a : Access). eqb (partition_of a.key parts) p) []) q (numbers_below parts) i).1)

-- what a partition holds came by its messages
pub decided_heard : (s : Setting) (p : ℕ) (ms : List Msg) (d : Decided) → IsIn d (decided (calls s p ms)) → IsIn (Commit d.who d.number) ms
decided_heard s p [] d i = absurd i
decided_heard s p (Commit x n ∷ ms) d i = ⊎_elim (λ (e : d ≡ record { who = x; number = n }). inl (ap (λ (z : Decided). Commit z.who z.number) e)) (λ r. inr (decided_heard s p ms d r)) i
decided_heard s p (Ask x st k m ∷ ms) d i = inr (decided_heard s p ms d i)
decided_heard s p (m ∷ ms) d i = inr (decided_heard s p ms d i)

pub heard_decided : (s : Setting) (p : ℕ) (ms : List Msg) (who : Attempt) (n : Number) → IsIn (Commit who n) ms → IsIn (record { who = who; number = n }) (decided (calls s p ms))
heard_decided s p [] who n i = absurd i
heard_decided s p (Commit x k ∷ ms) who n i =
    ⊎_elim
    (λ (e : Commit who n ≡ Commit x k). let a : who ≡ x = cc in let b : n ≡ k = cc in inl (λ j. record { who = a j; number = b j }))
    (λ r. inr (heard_decided s p ms who n r))
    i
heard_decided s p (Ask x st k m ∷ ms) who n i = heard_decided s p ms who n (⊎_elim (λ e. absurd (cc (e))) (λ r. r) i)
heard_decided s p (m ∷ ms) who n i = heard_decided s p ms who n (⊎_elim (λ e. absurd (cc (e))) (λ r. r) i)

pub yea_heard : (s : Setting) (p : ℕ) (ms : List Msg) (y : Yea) → IsIn y (yeas (calls s p ms)) → (bound : Bound) × IsIn (Prepare y.who bound y.writes y.appends) ms
yea_heard s p [] y i = absurd i
yea_heard s p (Prepare x b w a ∷ ms) y i = votes ((rule_at s p).vote (calls s p ms) x b w a) i (yea_heard s p ms y)
  where
    votes : (o : Vote) → IsIn y (yea x w a o ++ yeas (calls s p ms)) → (IsIn y (yeas (calls s p ms)) → (bound : Bound) × IsIn (Prepare y.who bound y.writes y.appends) ms) → (bound : Bound) × IsIn (Prepare y.who bound y.writes y.appends) (Prepare x b w a ∷ ms)
    votes (VotesNo c) i next = let n = next i in (n.0, inr n.1)
    votes (VotesYes lo hi) i next =
        ⊎_elim
        (λ (e : y ≡ record { who = x; lo = lo; hi = hi; writes = w; appends = a }). (b, inl (ap (λ (z : Yea). Prepare z.who b z.writes z.appends) e)))
        (λ r. let n = next r in (n.0, inr n.1))
        i
yea_heard s p (Ask x st k m ∷ ms) y i = let n = yea_heard s p ms y i in (n.0, inr n.1)
yea_heard s p (m ∷ ms) y i = let n = yea_heard s p ms y i in (n.0, inr n.1)

module _ (s : Setting) (v : Valid s) (p : ℕ) (who : Attempt) where
  -- the effect of the rows that came, with the partition's part of it
  abbrev pub PreparedOf : ℕ → Bound → List Keyed → List Keyed → List Reply → Type 0
  PreparedOf q b w a rs =
      (length rs ≡ length (s.accesses who.txn)) × (b ≡ bound_of (reverse rs)) × (w ≡ at_part s.parts q (written (effect_of s who.txn (reverse rs)))) × (a ≡ at_part s.parts q (appended (effect_of s who.txn (reverse rs))))

  abbrev pub Prepared : ℕ → Bound → List Keyed → List Keyed → List Msg → Type 0
  Prepared q b w a ms = PreparedOf q b w a (grants_for who ms)

  itself : attempt_eq who who ≡ true
  itself = ⊎_elim (λ t. t.0) (λ f. absurd (f.1 refl)) (attempt_tells who who)

  passes : (x : Mail) (b : Bound) (w a : List Keyed) → x.msg ≡ Prepare who b w a → sent_to x.to (is_prepare who) x ≡ true
  passes x b w a e = subst (λ m. (is_prepare who m && eqb x.to x.to) ≡ true) (sym e) (rw itself (same x.to))
    where
      same : (n : ℕ) → eqb n n ≡ true
      same n = grind (arith, nat_tests)

  not_in : (xs : List Mail) (x : Mail) (b : Bound) (w a : List Keyed) → x.msg ≡ Prepare who b w a → IsIn x xs → count (sent_to x.to (is_prepare who)) xs ≡ 0 → ⊥
  not_in xs x b w a e i none = omega (arith, count_in (sent_to x.to (is_prepare who)) x xs i (passes x b w a e), none)

  by_own_grant : (k : Key) (r : Row) (n : Number) (bd : ℕ) (ms : List Msg) (f : ℕ) → Suits s p f (Granted who k r n bd) ms → (o : Option Access) → slice_get (s.accesses who.txn) (suc (length (grants_for who ms))) ≡ o → (x : Mail) (b : Bound) (w a : List Keyed) → x.msg ≡ Prepare who b w a → IsIn x (next_ask s p who (stamp_from s p ms (stamped s who)) (reverse (record { row = r; bound = bd; key = k } ∷ grants_for who ms)) o) → Prepared x.to b w a (Granted who k r n bd ∷ ms)
  by_own_grant k r n bd ms f fit (Some c) so x b w a e i = ⊎_elim (λ is. let d : Ask who (stamp_from s p ms (stamped s who)) c.key c.mode ≡ Prepare who b w a = sym (ap (λ (z : Mail). z.msg) is) ∙ e in absurd (cc (d))) (λ z. absurd z) i
  by_own_grant k r n bd ms f fit None so x b w a e i =
      let rs : List Reply = reverse (record { row = r; bound = bd; key = k } ∷ grants_for who ms) in
      let eff : Effect = effect_of s who.txn rs in
      let m = in_map (prepare_to s p who (bound_of rs) eff) x (partitions_of s.parts (s.accesses who.txn)) i in
      let d : Prepare who (bound_of rs) (at_part s.parts m.0 (written eff)) (at_part s.parts m.0 (appended eff)) ≡ Prepare who b w a = sym (ap (λ (z : Mail). z.msg) m.2) ∙ e in
      let bs : bound_of rs ≡ b = cc in
      let ws : at_part s.parts m.0 (written eff) ≡ w = cc in
      let as' : at_part s.parts m.0 (appended eff) ≡ a = cc in
      let to : m.0 ≡ x.to = sym (ap (λ (z : Mail). z.to) m.2) in
      let lt : length (grants_for who ms) < length (s.accesses who.txn) = slice_some (s.accesses who.txn) (length (grants_for who ms)) (record { key = k; mode = fit.2.0 }) fit.2.1.2 in
      subst (PreparedOf x.to b w a) (sym (ap (λ c. cond c (record { row = r; bound = bd; key = k } ∷ grants_for who ms) (grants_for who ms)) itself))
      (omega (arith, lt, slice_none (s.accesses who.txn) (suc (length (grants_for who ms))) so), sym bs, sym ws ∙ ap (λ q. at_part s.parts q (written eff)) to, sym as' ∙ ap (λ q. at_part s.parts q (appended eff)) to)

  prepared_more : (m : Msg) (ms : List Msg) (f : ℕ) → Suits s p f m ms → (q : ℕ) (bd : Bound) (w as' : List Keyed) → Prepared q bd w as' ms → Prepared q bd w as' (m ∷ ms)
  prepared_more (Granted x k r n b) ms f fit q bd w as' h =
      ⊎_elim
      (λ t. let c = subst (λ y. (mode : Mode) × IsAsking s ms y k mode) t.1 fit.2 in absurd (omega (arith, slice_some (s.accesses who.txn) (length (grants_for who ms)) (record { key = k; mode = c.0 }) c.1.2, h.0)))
      (λ t. subst (PreparedOf q bd w as') (sym (ap (λ c. cond c (record { row = r; bound = b; key = k } ∷ grants_for who ms) (grants_for who ms)) t.0)) h)
      (attempt_tells x who)
  prepared_more (Ask x st k m) ms f fit q bd w as' h = h
  prepared_more m ms f fit q bd w as' h = h

  pub prepare_said : (ms : List Msg) → AllFit s p ms → (x : Mail) (b : Bound) (w a : List Keyed) → x.msg ≡ Prepare who b w a → IsIn x (all_said (says s) p ms) → Prepared x.to b w a ms
  prepare_said [] fit x b w a e i = absurd i
  prepare_said (m ∷ ms) fit x b w a e i =
      ⊎_elim
      (λ c. ⊎_elim
      (λ k. new m fit.0.0 fit.0.1 k)
      (λ d. absurd (not_in (participant s p m ms) x b w a e d (none_participant s p x.to (is_prepare who) replies m ms)))
      (in_cases x (coordinator s p m ms) (participant s p m ms) c))
      (λ o. prepared_more m ms fit.0.0 fit.0.1 x.to b w a (prepare_said ms fit.1 x b w a e o))
      (in_cases x (says s p (m ∷ ms)) (all_said (says s) p ms) i)
    where
      replies : NoReplies (is_prepare who)
      replies = record { granted = λ x k r v b. refl; refused = λ x k c. refl; yes' = λ x part lo hi. refl; no' = λ x part c. refl; done = λ x part. refl; undone = λ x part. refl }

      ends : NoEnds (is_prepare who)
      ends = record { commit = λ x n. refl; abort = λ x. refl }

      starts : NoStarts (is_prepare who)
      starts = record { start = λ x. refl }

      at_start : (y : Attempt) (st : ℕ) (o : Option Access) → slice_get (s.accesses y.txn) 0 ≡ o → IsIn x (next_ask s p y st [] o) → ⊥
      at_start y st None so k =
          let m = in_map (prepare_to s p y (bound_of []) (effect_of s y.txn [])) x (partitions_of s.parts (s.accesses y.txn)) k in
          none_in (s.accesses y.txn) (slice_none (s.accesses y.txn) 0 so) m.0 m.1
        where
          none_in : (as' : List Access) → length as' ≤ 0 → (q : ℕ) → IsIn q (partitions_of s.parts as') → ⊥
          none_in [] h q i = no_participant s.parts q i
          none_in (c ∷ as') h q i = omega (arith, h)
      at_start y st (Some c) so k = ⊎_elim (λ is. let d : Ask y st c.key c.mode ≡ Prepare who b w a = sym (ap (λ (z : Mail). z.msg) is) ∙ e in absurd (cc (d))) (λ z. z) k

      new : (m : Msg) (f : ℕ) → Suits s p f m ms → IsIn x (coordinator s p m ms) → Prepared x.to b w a (m ∷ ms)
      new (Granted y k r n bd) f fit k' =
          ⊎_elim
          (λ t. subst (λ z. Suits s p f (Granted z k r n bd) ms → IsIn x (coordinator s p (Granted z k r n bd) ms) → Prepared x.to b w a (Granted z k r n bd ∷ ms)) (sym t.1)
          (λ own j. by_own_grant k r n bd ms f own (slice_get (s.accesses who.txn) (suc (length (grants_for who ms)))) refl x b w a e j) fit k')
          (λ t. absurd (not_in (coordinator s p (Granted y k r n bd) ms) x b w a e k' (other_none y t.0 k r n bd)))
          (attempt_tells y who)
        where
          other_none : (y : Attempt) → attempt_eq y who ≡ false → (k : Key) (r : Row) (n : Number) (bd : ℕ) → count (sent_to x.to (is_prepare who)) (coordinator s p (Granted y k r n bd) ms) ≡ 0
          other_none y off k r n bd = next_counts s p who x.to y (stamp_from s p ms (stamped s y)) (reverse (record { row = r; bound = bd; key = k } ∷ grants_for y ms)) (slice_get (s.accesses y.txn) (suc (length (grants_for y ms)))) ∙ off_zero (attempt_eq y who) _ off
            where
              off_zero : (c : Bool) (n : ℕ) → c ≡ false → cond c n 0 ≡ 0
              off_zero true n h = absurd (true≢false h)
              off_zero false n h = refl
      new (Start y) f fit k' = absurd (at_start y (stamp_from s p (Start y ∷ ms) (stamped s y)) (slice_get (s.accesses y.txn) 0) refl k')
      new m f fit k' = absurd (not_in (coordinator s p m ms) x b w a e k' (none_late s p x.to (is_prepare who) ends starts m ms (λ z d. absurd (cc (d))) (λ z k r n bd d. absurd (cc (d)))))
