-- How often a home says Commit or Abort: once to each partition asked after a refusal, or once to each participant when all have voted.
use Rattle.std.proofs.Common.{◌≡◌, ◌≢◌, ℕ, suc, ◌+◌, List, [], ◌∷◌, length, slice_get, reverse, Bool, true, false, cond, ◌&&◌, eqb, leb, refl, sym, ap, ◌∙◌, subst, ⊎_elim, arith, Option, Some, None}
use Rattle.std.specs.List.{list_any}
use Rattle.std.proofs.lemmas.Bool.Decides.{nat_tests}
use Rattle.deneva_base.specs.declared.keys.Key.{Key}
use Rattle.deneva_base.specs.declared.numbers.Attempt.{Attempt}
use Rattle.deneva_base.specs.declared.numbers.Number.{Number}
use Rattle.deneva_base.specs.Lists.{IsIn}
use Rattle.deneva_base.specs.Rows.{Row}
use Rattle.deneva_base.specs.Keys.{attempt_eq}
use Rattle.deneva_base.specs.declared.causes.Cause.{Cause}
use Rattle.deneva_base.specs.declared.answers.Vote.TheVariants.{Yes as VotesYes, No as VotesNo}
use Rattle.deneva_base.proofs.Membership.{attempt_tells}
use Rattle.server_core.specs.declared.messages.Msg.{Msg}
use Rattle.server_core.specs.declared.messages.Msg.TheVariants.{Start, Granted, Refused, Yes, No, Commit, Abort, Done, Undone}
use Rattle.server_core.specs.Setting.{Setting, participants}
use Rattle.server_core.specs.Received.{grants_for, votes_for, refused_for, all_voted}
use Rattle.server_core.specs.declared.ballots.Ballot.{Ballot}
use Rattle.server_core.specs.Voting.{says}
use Rattle.server_core.specs.Coordinator.{coordinator, asked_partitions, decision, first_no, to_all, polled, greatest_lo, least_hi}
use Rattle.server_core.specs.Stamps.{stamp_from, stamped}
use Rattle.server_core.specs.VotingFits.{Suits, AllFit, HasVoted}
use Rattle.server_core.specs.Counts.{all_said, count}
use Rattle.server_core.proofs.counts.Local.{sent_to}
use Rattle.server_core.proofs.counts.Prepares.{occurs}
use Rattle.server_core.proofs.counts.Quiet.{is_end, NoAsks, NoStarts, NoReplies, none_next, none_done, none_undone, none_participant, more_said}

pub not_all : (bs : List Ballot) (qs : List ℕ) (part : ℕ) → IsIn part qs → list_any (λ b. eqb b.part part) bs ≡ false → all_voted bs qs ≡ false
not_all bs [] part i e = absurd i
not_all bs (q ∷ qs) part i e =
    ⊎_elim
    (λ (is : part ≡ q). let f : list_any (λ b. eqb b.part q) bs ≡ false = subst (λ x. list_any (λ b. eqb b.part x) bs ≡ false) is e in rw f)
    (λ r. rw (not_all bs qs part r e) (and_false (list_any (λ b. eqb b.part q) bs)))
    i
  where
    and_false : (b : Bool) → (b && false) ≡ false
    and_false true = refl
    and_false false = refl

pub off_if : (b : Bool) → (b ≡ true → ⊥) → b ≡ false
off_if true h = absurd (h refl)
off_if false h = refl

pub all_none : (q : ℕ) (qs : List ℕ) → cond (all_voted [] qs) (occurs q qs) 0 ≡ 0
all_none q [] = refl
all_none q (x ∷ qs) = refl

pub count_all : (t : Msg → Bool) (p q : ℕ) (m : Msg) (qs : List ℕ) → count (sent_to q t) (to_all p m qs) ≡ cond (t m) (occurs q qs) 0
count_all t p q m [] = grind arith
count_all t p q m (x ∷ qs) = grind (arith, nat_tests, count_all t p q m qs)

module _ (s : Setting) (p : ℕ) (who : Attempt) (q : ℕ) where
  asks : NoAsks (is_end who)
  asks = record { ask = λ x st k m. refl; prepare = λ x b w a. refl }

  starts : NoStarts (is_end who)
  starts = record { start = λ x. refl }

  replies : NoReplies (is_end who)
  replies = record { granted = λ x k r v b. refl; refused = λ x k c. refl; yes' = λ x part lo hi. refl; no' = λ x part c. refl; done = λ x part. refl; undone = λ x part. refl }

  abbrev ended : List Msg → ℕ
  ended ms = cond (refused_for who ms) (occurs q (asked_partitions s ms who)) 0 + cond (all_voted (votes_for who ms) (participants s who)) (occurs q (participants s who)) 0

  is_decision : (x : Attempt) (bs : List Ballot) (o : Option (ℕ × Cause)) → is_end who (decision x bs o) ≡ attempt_eq x who
  is_decision x bs (Some c) = refl
  is_decision x bs None = either (leb (greatest_lo bs) (least_hi bs))
    where
      either : (b : Bool) → is_end who (cond b (Commit x (record { n = greatest_lo bs; id = x.txn })) (Abort x)) ≡ attempt_eq x who
      either true = refl
      either false = refl

  counts_polled : (x : Attempt) (bs : List Ballot) → count (sent_to q (is_end who)) (polled s p x bs) ≡ cond (attempt_eq x who) (cond (all_voted bs (participants s x)) (occurs q (participants s x)) 0) 0
  counts_polled x bs = go (all_voted bs (participants s x))
    where
      go : (b : Bool) → count (sent_to q (is_end who)) (cond b (to_all p (decision x bs (first_no None bs)) (participants s x)) []) ≡ cond (attempt_eq x who) (cond b (occurs q (participants s x)) 0) 0
      go true = count_all (is_end who) p q (decision x bs (first_no None bs)) (participants s x) ∙ ap (λ b. cond b (occurs q (participants s x)) 0) (is_decision x bs (first_no None bs))
      go false = zero_if (attempt_eq x who)
        where
          zero_if : (b : Bool) → ◌≡◌ {A = ℕ} 0 (cond b 0 0)
          zero_if true = refl
          zero_if false = refl

  -- one more vote of the attempt, when this participant's was missing
  own_vote : (b : Ballot) (ms : List Msg) → IsIn b.part (participants s who) → (HasVoted ms who b.part → ⊥) → count (sent_to q (is_end who)) (polled s p who (b ∷ votes_for who ms)) + cond (all_voted (votes_for who ms) (participants s who)) (occurs q (participants s who)) 0 ≡ cond (all_voted (b ∷ votes_for who ms) (participants s who)) (occurs q (participants s who)) 0
  own_vote b ms i open' =
      let e : all_voted (votes_for who ms) (participants s who) ≡ false = not_all (votes_for who ms) (participants s who) b.part i (off_if (list_any (λ (b' : Ballot). eqb b'.part b.part) (votes_for who ms)) open') in
      let same : attempt_eq who who ≡ true = ⊎_elim (λ t. t.0) (λ f. absurd (f.1 refl)) (attempt_tells who who) in
      let c : count (sent_to q (is_end who)) (polled s p who (b ∷ votes_for who ms)) ≡ cond (all_voted (b ∷ votes_for who ms) (participants s who)) (occurs q (participants s who)) 0
      = counts_polled who (b ∷ votes_for who ms) ∙ ap (λ z. cond z (cond (all_voted (b ∷ votes_for who ms) (participants s who)) (occurs q (participants s who)) 0) 0) same in
      rw e (omega (arith, c))

  itself : attempt_eq who who ≡ true
  itself = ⊎_elim (λ t. t.0) (λ f. absurd (f.1 refl)) (attempt_tells who who)

  at_yes : (x : Attempt) (part lo hi : ℕ) (ms : List Msg) (f : ℕ) → Suits s p f (Yes x part lo hi) ms → count (sent_to q (is_end who)) (coordinator s p (Yes x part lo hi) ms) + ended ms ≡ ended (Yes x part lo hi ∷ ms)
  at_yes x part lo hi ms f fit =
      let n = counts_polled x (record { part = part; vote = VotesYes lo hi } ∷ votes_for x ms) in
      ⊎_elim
      (λ t. subst (λ y. Suits s p f (Yes y part lo hi) ms → count (sent_to q (is_end who)) (coordinator s p (Yes y part lo hi) ms) + ended ms ≡ ended (Yes y part lo hi ∷ ms)) (sym t.1)
      (λ own. rw itself (omega (arith, own_vote (record { part = part; vote = VotesYes lo hi }) ms own.2 own.4))) fit)
      (λ t. rw t.0 (omega (arith, n ∙ ap (λ b. cond b (cond (all_voted (record { part = part; vote = VotesYes lo hi } ∷ votes_for x ms) (participants s x)) (occurs q (participants s x)) 0) 0) t.0)))
      (attempt_tells x who)

  at_no : (x : Attempt) (part : ℕ) (c : Cause) (ms : List Msg) (f : ℕ) → Suits s p f (No x part c) ms → count (sent_to q (is_end who)) (coordinator s p (No x part c) ms) + ended ms ≡ ended (No x part c ∷ ms)
  at_no x part c ms f fit =
      let n = counts_polled x (record { part = part; vote = VotesNo c } ∷ votes_for x ms) in
      ⊎_elim
      (λ t. subst (λ y. Suits s p f (No y part c) ms → count (sent_to q (is_end who)) (coordinator s p (No y part c) ms) + ended ms ≡ ended (No y part c ∷ ms)) (sym t.1)
      (λ own. rw itself (omega (arith, own_vote (record { part = part; vote = VotesNo c }) ms own.2 own.4))) fit)
      (λ t. rw t.0 (omega (arith, n ∙ ap (λ b. cond b (cond (all_voted (record { part = part; vote = VotesNo c } ∷ votes_for x ms) (participants s x)) (occurs q (participants s x)) 0) 0) t.0)))
      (attempt_tells x who)

  at_refused : (x : Attempt) (k : Key) (c : Cause) (ms : List Msg) (f : ℕ) → Suits s p f (Refused x k c) ms → count (sent_to q (is_end who)) (coordinator s p (Refused x k c) ms) + ended ms ≡ ended (Refused x k c ∷ ms)
  at_refused x k c ms f fit =
      let n = count_all (is_end who) p q (Abort x) (asked_partitions s ms x) in
      ⊎_elim
      (λ t. let e : refused_for who ms ≡ false = subst (λ y. refused_for y ms ≡ false) t.1 fit.2.1.1 in
      rw (t.0, e) (omega (arith, n ∙ ap (λ b. cond b (occurs q (asked_partitions s ms x)) 0) t.0, ap (λ y. occurs q (asked_partitions s ms y)) t.1)))
      (λ t. rw t.0 (omega (arith, n ∙ ap (λ b. cond b (occurs q (asked_partitions s ms x)) 0) t.0)))
      (attempt_tells x who)

  at_granted : (x : Attempt) (k : Key) (row : Row) (version : Number) (bound : ℕ) (ms : List Msg) (f : ℕ) → Suits s p f (Granted x k row version bound) ms → count (sent_to q (is_end who)) (coordinator s p (Granted x k row version bound) ms) + ended ms ≡ ended (Granted x k row version bound ∷ ms)
  at_granted x k row version bound ms f fit =
      let n = none_next s p q (is_end who) asks x (stamp_from s p ms (stamped s x)) (reverse (record { row = row; bound = bound; key = k } ∷ grants_for x ms)) (slice_get (s.accesses x.txn) (suc (length (grants_for x ms)))) in
      ⊎_elim
      (λ (t : (attempt_eq x who ≡ true) × (x ≡ who)). let e : refused_for who ms ≡ false = subst (λ y. refused_for y ms ≡ false) t.1 fit.2.1.1 in rw e (omega (arith, n)))
      (λ (t : (attempt_eq x who ≡ false) × (x ≢ who)). rw t.0 (omega (arith, n)))
      (attempt_tells x who)

  step : (m : Msg) (ms : List Msg) → count (sent_to q (is_end who)) (coordinator s p m ms) + ended ms ≡ ended (m ∷ ms) → count (sent_to q (is_end who)) (all_said (says s) p ms) ≡ ended ms → count (sent_to q (is_end who)) (all_said (says s) p (m ∷ ms)) ≡ ended (m ∷ ms)
  step m ms e ih = omega (arith, more_said s p q (is_end who) m ms, none_participant s p q (is_end who) replies m ms)

  pub ends_said : (ms : List Msg) → AllFit s p ms → count (sent_to q (is_end who)) (all_said (says s) p ms) ≡ cond (refused_for who ms) (occurs q (asked_partitions s ms who)) 0 + cond (all_voted (votes_for who ms) (participants s who)) (occurs q (participants s who)) 0
  ends_said [] fit = omega (arith, all_none q (participants s who))
  ends_said (Yes x part lo hi ∷ ms) fit = step (Yes x part lo hi) ms (at_yes x part lo hi ms fit.0.0 fit.0.1) (ends_said ms fit.1)
  ends_said (No x part c ∷ ms) fit = step (No x part c) ms (at_no x part c ms fit.0.0 fit.0.1) (ends_said ms fit.1)
  ends_said (Refused x k c ∷ ms) fit = step (Refused x k c) ms (at_refused x k c ms fit.0.0 fit.0.1) (ends_said ms fit.1)
  ends_said (Granted x k row version bound ∷ ms) fit = step (Granted x k row version bound) ms (at_granted x k row version bound ms fit.0.0 fit.0.1) (ends_said ms fit.1)
  ends_said (Start x ∷ ms) fit = step (Start x) ms (omega (arith, none_next s p q (is_end who) asks x (stamp_from s p (Start x ∷ ms) (stamped s x)) [] (slice_get (s.accesses x.txn) 0))) (ends_said ms fit.1)
  ends_said (Done x part ∷ ms) fit = step (Done x part) ms (omega (arith, none_done s p q (is_end who) starts x part ms)) (ends_said ms fit.1)
  ends_said (Undone x part ∷ ms) fit = step (Undone x part) ms (omega (arith, none_undone s p q (is_end who) starts x part ms)) (ends_said ms fit.1)
  ends_said (m ∷ ms) fit = step m ms (omega arith) (ends_said ms fit.1)
