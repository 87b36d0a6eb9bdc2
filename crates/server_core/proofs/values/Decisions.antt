-- What a home decided, and that it stays so.
use Rattle.std.proofs.Common.{◌≡◌, ℕ, suc, ◌≤◌, leb, ltb, List, [], ◌∷◌, length, slice_get, reverse, Bool, true, false, cond, ◌&&◌, ◌||◌, eqb, refl, sym, ap, ◌∙◌, subst, inl, inr, ⊎_elim, arith, Option, Some, None, true≢false}
use Rattle.std.specs.List.{list_any}
use Rattle.std.proofs.lemmas.Bool.Decides.{nat_tests}
use Rattle.deneva_base.specs.declared.keys.Key.{Key}
use Rattle.deneva_base.specs.declared.numbers.Attempt.{Attempt}
use Rattle.deneva_base.specs.declared.numbers.Number.{Number}
use Rattle.deneva_base.specs.declared.keys.Mode.{Mode}
use Rattle.deneva_base.specs.Lists.{IsIn}
use Rattle.deneva_base.specs.Keys.{attempt_eq}
use Rattle.deneva_base.specs.declared.causes.Cause.{Cause}
use Rattle.deneva_base.specs.declared.answers.Vote.{Vote}
use Rattle.deneva_base.specs.declared.answers.Vote.TheVariants.{Yes as VotesYes, No as VotesNo}
use Rattle.deneva_base.proofs.Membership.{attempt_tells, in_cases}
use Rattle.server_core.specs.declared.messages.Msg.{Msg}
use Rattle.server_core.specs.declared.messages.Msg.TheVariants.{Start, Ask, Granted, Refused, Yes, No, Commit, Abort, Done, Undone}
use Rattle.server_core.specs.declared.messages.Mail.{Mail}
use Rattle.server_core.specs.Setting.{Setting, participants}
use Rattle.server_core.specs.Received.{grants_for, votes_for, refused_for, started_for, all_voted}
use Rattle.server_core.specs.declared.ballots.Ballot.{Ballot}
use Rattle.server_core.specs.Coordinator.{decision, first_no, no_in, lo_of, hi_of, greatest_lo, least_hi, to_all, polled, coordinator, asked_partitions}
use Rattle.server_core.specs.Voting.{says}
use Rattle.server_core.specs.Participant.{participant}
use Rattle.server_core.specs.Stamps.{stamp_from, stamped}
use Rattle.server_core.specs.VotingFits.{Suits, AllFit, IsAsking, HasAll, HasVoted, Polled, Decides, IsAborted}
use Rattle.server_core.specs.Counts.{all_said, count}
use Rattle.server_core.proofs.counts.Ends.{not_all, off_if}
use Rattle.server_core.proofs.counts.Prepares.{slice_some}
use Rattle.server_core.proofs.values.Origins.{in_map}
use Rattle.server_core.proofs.counts.Conserved.{count_in}
use Rattle.server_core.proofs.counts.Local.{sent_to}
use Rattle.server_core.proofs.counts.Quiet.{NoAsks, NoStarts, NoReplies, none_next, none_all, none_done, none_undone, none_participant}

-- a Commit means that all said Yes, and its number is in each window
abbrev pub InWindow : ℕ → Ballot → Type 0
InWindow n b = (lo : ℕ) × (hi : ℕ) × (b.vote ≡ VotesYes lo hi) × (lo ≤ n) × (n ≤ hi)

pub all_yes : (best : Option (ℕ × Cause)) (bs : List Ballot) → first_no best bs ≡ None → (best ≡ None) × ((b : Ballot) → IsIn b bs → (lo : ℕ) × (hi : ℕ) × (b.vote ≡ VotesYes lo hi))
all_yes best [] e = (e, λ b i. absurd i)
all_yes best (x ∷ bs) e =
    let ih = all_yes (no_in best x.part x.vote) bs e in
    let h = here best x.part x.vote ih.0 in
    (h.0, λ b i. ⊎_elim (λ is. (h.1, h.2, ap (λ (z : Ballot). z.vote) is ∙ h.3)) (λ r. ih.1 b r) i)
  where
    here : (best : Option (ℕ × Cause)) (part : ℕ) (v : Vote) → no_in best part v ≡ None → (best ≡ None) × (lo : ℕ) × (hi : ℕ) × (v ≡ VotesYes lo hi)
    here best part (VotesYes lo hi) e = (e, lo, hi, refl)
    here None part (VotesNo c) e = absurd (cc (e))
    here (Some y) part (VotesNo c) e = absurd (none (ltb part y.0) e)
      where
        none : (b : Bool) → cond b (Some (part, c)) (Some y) ≡ None → ⊥
        none true e = cc (e)
        none false e = cc (e)

pub lo_under : (bs : List Ballot) (b : Ballot) → IsIn b bs → lo_of b.vote ≤ greatest_lo bs
lo_under [] b i = absurd i
lo_under (x ∷ bs) b i = ⊎_elim (λ is. omega (arith, ap (λ (z : Ballot). lo_of z.vote) is)) (λ r. omega (arith, lo_under bs b r)) i

pub hi_over : (bs : List Ballot) (b : Ballot) → IsIn b bs → least_hi bs ≤ hi_of b.vote
hi_over [] b i = absurd i
hi_over (x ∷ bs) b i = ⊎_elim (λ is. omega (arith, ap (λ (z : Ballot). hi_of z.vote) is)) (λ r. omega (arith, hi_over bs b r)) i

pub commit_means : (x who : Attempt) (number : Number) (bs : List Ballot) (o : Option (ℕ × Cause)) → first_no None bs ≡ o → decision x bs o ≡ Commit who number → (x ≡ who) × (number.id ≡ x.txn) × ((b : Ballot) → IsIn b bs → InWindow number.n b)
commit_means x who number bs (Some c) f e = absurd (cc (e))
commit_means x who number bs None f e = go (leb (greatest_lo bs) (least_hi bs)) refl e
  where
    go : (t : Bool) → leb (greatest_lo bs) (least_hi bs) ≡ t → cond t (Commit x (record { n = greatest_lo bs; id = x.txn })) (Abort x) ≡ Commit who number → (x ≡ who) × (number.id ≡ x.txn) × ((b : Ballot) → IsIn b bs → InWindow number.n b)
    go false t e = absurd (cc (e))
    go true t e =
        let is : x ≡ who = cc in
        let same : record { n = greatest_lo bs; id = x.txn } ≡ number = cc in (
          is,
          sym (ap (λ (z : Number). z.id) same),
          λ b i.
              let y = (all_yes None bs f).1 b i in
              let least : greatest_lo bs ≤ least_hi bs = grind (arith, nat_tests) in
              let n : greatest_lo bs ≡ number.n = ap (λ (z : Number). z.n) same in
              (y.0, y.1, y.2, omega (arith, lo_under bs b i, n, ap lo_of y.2), omega (arith, hi_over bs b i, n, least, ap hi_of y.2)),
        )

module _ (s : Setting) (p : ℕ) (who : Attempt) where
  pub asks_no_more : (ms : List Msg) (key : Key) (mode : Mode) → IsAsking s ms who key mode → HasAll s ms who → ⊥
  asks_no_more ms key mode a h = omega (arith, slice_some (s.accesses who.txn) (length (grants_for who ms)) (record { key = key; mode = mode }) a.2, h.2)

  votes_no_more : (ms : List Msg) (part : ℕ) → Polled s ms who → IsIn part (participants s who) → (HasVoted ms who part → ⊥) → ⊥
  votes_no_more ms part h i open' = true≢false (sym h.1 ∙ not_all (votes_for who ms) (participants s who) part i (off_if (list_any (λ (b : Ballot). eqb b.part part) (votes_for who ms)) open'))

  -- once all have voted, it stays so
  pub decides_more : (d : Msg) (m : Msg) (ms : List Msg) (f : ℕ) → Suits s p f m ms → Decides s ms who d → Decides s (m ∷ ms) who d
  decides_more d (Granted x k r w b) ms f fit h =
      ⊎_elim
      (λ t. let a = subst (λ y. (mode : Mode) × IsAsking s ms y k mode) t.1 fit.2 in absurd (asks_no_more ms k a.0 a.1 h.0.0))
      (λ t. rw t.0 h)
      (attempt_tells x who)
  decides_more d (Refused x k c) ms f fit h =
      ⊎_elim
      (λ t. let a = subst (λ y. (mode : Mode) × IsAsking s ms y k mode) t.1 fit.2 in absurd (asks_no_more ms k a.0 a.1 h.0.0))
      (λ t. rw t.0 h)
      (attempt_tells x who)
  decides_more d (Yes x part lo hi) ms f fit h =
      ⊎_elim
      (λ t. absurd (votes_no_more ms part h.0 (subst (λ y. IsIn part (participants s y)) t.1 fit.2) (subst (λ y. HasVoted ms y part → ⊥) t.1 fit.4)))
      (λ t. rw t.0 h)
      (attempt_tells x who)
  decides_more d (No x part c) ms f fit h =
      ⊎_elim
      (λ t. absurd (votes_no_more ms part h.0 (subst (λ y. IsIn part (participants s y)) t.1 fit.2) (subst (λ y. HasVoted ms y part → ⊥) t.1 fit.4)))
      (λ t. rw t.0 h)
      (attempt_tells x who)
  decides_more d (Start x) ms f fit h = (((or_right (attempt_eq x who) (started_for who ms) h.0.0.0, h.0.0.1, h.0.0.2), h.0.1), h.1)
    where
      or_right : (a b : Bool) → b ≡ true → (a || b) ≡ true
      or_right a b e = grind arith
  decides_more d m ms f fit h = h

abbrev pub is_commit : Attempt → Msg → Bool
is_commit who (Commit x n) = attempt_eq x who
is_commit who m = false

abbrev pub is_abort : Attempt → Msg → Bool
is_abort who (Abort x) = attempt_eq x who
is_abort who m = false

commit_asks : (who : Attempt) → NoAsks (is_commit who)
commit_asks who = record { ask = λ x st k m. refl; prepare = λ x b w a. refl }

commit_starts : (who : Attempt) → NoStarts (is_commit who)
commit_starts who = record { start = λ x. refl }

abort_asks : (who : Attempt) → NoAsks (is_abort who)
abort_asks who = record { ask = λ x st k m. refl; prepare = λ x b w a. refl }

abort_starts : (who : Attempt) → NoStarts (is_abort who)
abort_starts who = record { start = λ x. refl }

abort_means : (x who : Attempt) (bs : List Ballot) (o : Option (ℕ × Cause)) → decision x bs o ≡ Abort who → x ≡ who
abort_means x who bs (Some c) e = cc
abort_means x who bs None e = go (leb (greatest_lo bs) (least_hi bs)) e
  where
    go : (t : Bool) → cond t (Commit x (record { n = greatest_lo bs; id = x.txn })) (Abort x) ≡ Abort who → x ≡ who
    go true e = absurd (cc (e))
    go false e = cc

module _ (s : Setting) (p : ℕ) where
  not_in : (t : Msg → Bool) (xs : List Mail) (x : Mail) → t x.msg ≡ true → IsIn x xs → count (sent_to x.to t) xs ≡ 0 → ⊥
  not_in t xs x h i none = omega (arith, count_in (sent_to x.to t) x xs i (both (t x.msg) x.to h), none)
    where
      both : (b : Bool) (q : ℕ) → b ≡ true → (b && eqb q q) ≡ true
      both b q h = grind (arith, nat_tests)

  polled_said : (y : Attempt) (bs : List Ballot) (x : Mail) → IsIn x (polled s p y bs) → (all_voted bs (participants s y) ≡ true) × (x.msg ≡ decision y bs (first_no None bs)) × IsIn x.to (participants s y)
  polled_said y bs x i = go (all_voted bs (participants s y)) refl i
    where
      go : (b : Bool) → all_voted bs (participants s y) ≡ b → IsIn x (cond b (to_all p (decision y bs (first_no None bs)) (participants s y)) []) → (all_voted bs (participants s y) ≡ true) × (x.msg ≡ decision y bs (first_no None bs)) × IsIn x.to (participants s y)
      go false e i = absurd i
      go true e i = let n = in_map (λ q. record { from = p; to = q; msg = decision y bs (first_no None bs) }) x (participants s y) i in (e, ap (λ (z : Mail). z.msg) n.2, subst (λ q. IsIn q (participants s y)) (sym (ap (λ (z : Mail). z.to) n.2)) n.1)

  itself : (y : Attempt) → attempt_eq y y ≡ true
  itself y = ⊎_elim (λ t. t.0) (λ f. absurd (f.1 refl)) (attempt_tells y y)

  yes_said : (y : Attempt) (part lo hi : ℕ) (ms : List Msg) (f : ℕ) → Suits s p f (Yes y part lo hi) ms → (x : Mail) → IsIn x (coordinator s p (Yes y part lo hi) ms) → Decides s (Yes y part lo hi ∷ ms) y x.msg × IsIn x.to (participants s y)
  yes_said y part lo hi ms f fit x i =
      let n = polled_said y (record { part = part; vote = VotesYes lo hi } ∷ votes_for y ms) x i in
      (rw (itself y) ((fit.3, n.0), sym n.1), n.2)

  no_said : (y : Attempt) (part : ℕ) (c : Cause) (ms : List Msg) (f : ℕ) → Suits s p f (No y part c) ms → (x : Mail) → IsIn x (coordinator s p (No y part c) ms) → Decides s (No y part c ∷ ms) y x.msg × IsIn x.to (participants s y)
  no_said y part c ms f fit x i =
      let n = polled_said y (record { part = part; vote = VotesNo c } ∷ votes_for y ms) x i in
      (rw (itself y) ((fit.3, n.0), sym n.1), n.2)

  -- a Commit that was said is what all votes give
  commit_of : (who : Attempt) (number : Number) (m : Msg) (ms : List Msg) (f : ℕ) → Suits s p f m ms → (x : Mail) → x.msg ≡ Commit who number → IsIn x (coordinator s p m ms) → Decides s (m ∷ ms) who (Commit who number) × IsIn x.to (participants s who)
  commit_of who number (Yes y part lo hi) ms f fit x e i =
      let d = yes_said y part lo hi ms f fit x i in
      let is = (commit_means y who number (votes_for y (Yes y part lo hi ∷ ms)) (first_no None (votes_for y (Yes y part lo hi ∷ ms))) refl (d.0.1 ∙ e)).0 in
      subst (λ z. Decides s (Yes y part lo hi ∷ ms) z (Commit who number) × IsIn x.to (participants s z)) is ((d.0.0, d.0.1 ∙ e), d.1)
  commit_of who number (No y part c) ms f fit x e i =
      let d = no_said y part c ms f fit x i in
      let is = (commit_means y who number (votes_for y (No y part c ∷ ms)) (first_no None (votes_for y (No y part c ∷ ms))) refl (d.0.1 ∙ e)).0 in
      subst (λ z. Decides s (No y part c ∷ ms) z (Commit who number) × IsIn x.to (participants s z)) is ((d.0.0, d.0.1 ∙ e), d.1)
  commit_of who number (Start y) ms f fit x e i = absurd (not_in (is_commit who) (coordinator s p (Start y) ms) x (subst (λ z. is_commit who z ≡ true) (sym e) (itself who)) i (none_next s p x.to (is_commit who) (commit_asks who) y (stamp_from s p (Start y ∷ ms) (stamped s y)) [] (slice_get (s.accesses y.txn) 0)))
  commit_of who number (Granted y k r w b) ms f fit x e i =
      absurd (not_in (is_commit who) (coordinator s p (Granted y k r w b) ms) x (subst (λ z. is_commit who z ≡ true) (sym e) (itself who)) i
      (none_next s p x.to (is_commit who) (commit_asks who) y (stamp_from s p ms (stamped s y)) (reverse (record { row = r; bound = b; key = k } ∷ grants_for y ms)) (slice_get (s.accesses y.txn) (suc (length (grants_for y ms))))))
  commit_of who number (Refused y k c) ms f fit x e i = absurd (not_in (is_commit who) (coordinator s p (Refused y k c) ms) x (subst (λ z. is_commit who z ≡ true) (sym e) (itself who)) i (none_all s p x.to (is_commit who) (Abort y) (asked_partitions s ms y) refl))
  commit_of who number (Done y part) ms f fit x e i = absurd (not_in (is_commit who) (coordinator s p (Done y part) ms) x (subst (λ z. is_commit who z ≡ true) (sym e) (itself who)) i (none_done s p x.to (is_commit who) (commit_starts who) y part ms))
  commit_of who number (Undone y part) ms f fit x e i = absurd (not_in (is_commit who) (coordinator s p (Undone y part) ms) x (subst (λ z. is_commit who z ≡ true) (sym e) (itself who)) i (none_undone s p x.to (is_commit who) (commit_starts who) y part ms))
  commit_of who number m ms f fit x e i = absurd i

  no_reply : (t : Msg → Bool) → NoReplies t → (m : Msg) (ms : List Msg) (x : Mail) → t x.msg ≡ true → IsIn x (participant s p m ms) → ⊥
  no_reply t n m ms x h i = not_in t (participant s p m ms) x h i (none_participant s p x.to t n m ms)

  pub commit_said : (who : Attempt) (number : Number) (ms : List Msg) → AllFit s p ms → (x : Mail) → x.msg ≡ Commit who number → IsIn x (all_said (says s) p ms) → Decides s ms who (Commit who number) × IsIn x.to (participants s who)
  commit_said who number [] fit x e i = absurd i
  commit_said who number (m ∷ ms) fit x e i =
      ⊎_elim
      (λ a. ⊎_elim
      (λ c. commit_of who number m ms fit.0.0 fit.0.1 x e c)
      (λ d. absurd (no_reply (is_commit who) (record { granted = λ x k r v b. refl; refused = λ x k c. refl; yes' = λ x part lo hi. refl; no' = λ x part c. refl; done = λ x part. refl; undone = λ x part. refl }) m ms x (subst (λ z. is_commit who z ≡ true) (sym e) (itself who)) d))
      (in_cases x (coordinator s p m ms) (participant s p m ms) a))
      (λ b. let h = commit_said who number ms fit.1 x e b in (decides_more s p who (Commit who number) m ms fit.0.0 fit.0.1 h.0, h.1))
      (in_cases x (says s p (m ∷ ms)) (all_said (says s) p ms) i)

  pub aborted_more : (who : Attempt) (m : Msg) (ms : List Msg) (f : ℕ) → Suits s p f m ms → IsAborted s ms who → IsAborted s (m ∷ ms) who
  aborted_more who m ms f fit h = ⊎_elim (λ r. inl (refused_more m r)) (λ d. inr (decides_more s p who (Abort who) m ms f fit d)) h
    where
      or_right : (a b : Bool) → b ≡ true → (a || b) ≡ true
      or_right a b e = grind arith

      refused_more : (m : Msg) → refused_for who ms ≡ true → refused_for who (m ∷ ms) ≡ true
      refused_more (Refused x k c) r = or_right (attempt_eq x who) (refused_for who ms) r
      refused_more (Ask x st k mode) r = r
      refused_more m r = r

  abort_of : (who : Attempt) (m : Msg) (ms : List Msg) (f : ℕ) → Suits s p f m ms → (x : Mail) → x.msg ≡ Abort who → IsIn x (coordinator s p m ms) → IsAborted s (m ∷ ms) who
  abort_of who (Yes y part lo hi) ms f fit x e i =
      let d = yes_said y part lo hi ms f fit x i in
      let is = abort_means y who (votes_for y (Yes y part lo hi ∷ ms)) (first_no None (votes_for y (Yes y part lo hi ∷ ms))) (d.0.1 ∙ e) in
      inr (subst (λ z. Decides s (Yes y part lo hi ∷ ms) z (Abort who)) is (d.0.0, d.0.1 ∙ e))
  abort_of who (No y part c) ms f fit x e i =
      let d = no_said y part c ms f fit x i in
      let is = abort_means y who (votes_for y (No y part c ∷ ms)) (first_no None (votes_for y (No y part c ∷ ms))) (d.0.1 ∙ e) in
      inr (subst (λ z. Decides s (No y part c ∷ ms) z (Abort who)) is (d.0.0, d.0.1 ∙ e))
  abort_of who (Refused y k c) ms f fit x e i =
      let n = in_map (λ q. record { from = p; to = q; msg = Abort y }) x (asked_partitions s ms y) i in
      let same : Abort y ≡ Abort who = sym (ap (λ (z : Mail). z.msg) n.2) ∙ e in
      let is : y ≡ who = cc in
      inl (⊎_elim (λ t. rw t.0) (λ g. absurd (g.1 is)) (attempt_tells y who))
  abort_of who (Start y) ms f fit x e i = absurd (not_in (is_abort who) (coordinator s p (Start y) ms) x (subst (λ z. is_abort who z ≡ true) (sym e) (itself who)) i (none_next s p x.to (is_abort who) (abort_asks who) y (stamp_from s p (Start y ∷ ms) (stamped s y)) [] (slice_get (s.accesses y.txn) 0)))
  abort_of who (Granted y k r w b) ms f fit x e i =
      absurd (not_in (is_abort who) (coordinator s p (Granted y k r w b) ms) x (subst (λ z. is_abort who z ≡ true) (sym e) (itself who)) i
      (none_next s p x.to (is_abort who) (abort_asks who) y (stamp_from s p ms (stamped s y)) (reverse (record { row = r; bound = b; key = k } ∷ grants_for y ms)) (slice_get (s.accesses y.txn) (suc (length (grants_for y ms))))))
  abort_of who (Done y part) ms f fit x e i = absurd (not_in (is_abort who) (coordinator s p (Done y part) ms) x (subst (λ z. is_abort who z ≡ true) (sym e) (itself who)) i (none_done s p x.to (is_abort who) (abort_starts who) y part ms))
  abort_of who (Undone y part) ms f fit x e i = absurd (not_in (is_abort who) (coordinator s p (Undone y part) ms) x (subst (λ z. is_abort who z ≡ true) (sym e) (itself who)) i (none_undone s p x.to (is_abort who) (abort_starts who) y part ms))
  abort_of who m ms f fit x e i = absurd i

  pub abort_said : (who : Attempt) (ms : List Msg) → AllFit s p ms → (x : Mail) → x.msg ≡ Abort who → IsIn x (all_said (says s) p ms) → IsAborted s ms who
  abort_said who [] fit x e i = absurd i
  abort_said who (m ∷ ms) fit x e i =
      ⊎_elim
      (λ a. ⊎_elim
      (λ c. abort_of who m ms fit.0.0 fit.0.1 x e c)
      (λ d. absurd (no_reply (is_abort who) (record { granted = λ x k r v b. refl; refused = λ x k c. refl; yes' = λ x part lo hi. refl; no' = λ x part c. refl; done = λ x part. refl; undone = λ x part. refl }) m ms x (subst (λ z. is_abort who z ≡ true) (sym e) (itself who)) d))
      (in_cases x (coordinator s p m ms) (participant s p m ms) a))
      (λ b. aborted_more who m ms fit.0.0 fit.0.1 (abort_said who ms fit.1 x e b))
      (in_cases x (says s p (m ∷ ms)) (all_said (says s) p ms) i)
