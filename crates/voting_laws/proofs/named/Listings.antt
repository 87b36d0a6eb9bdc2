-- Each attempt that its home aborted has an abort line.
use Rattle.std.proofs.Common.{◌≡◌, ◌≢◌, ℕ, zero, suc, ◌≤◌, ltb, leb, List, [], ◌∷◌, Bool, true, false, cond, ◌&&◌, eqb, refl, sym, ap, ◌∙◌, subst, inl, inr, ⊎_elim, arith, Option, Some, None, true≢false}
use Rattle.std.proofs.lemmas.Bool.Decides.{nat_tests, eqb_tells}
use Rattle.deneva_base.specs.declared.numbers.Attempt.{Attempt}
use Rattle.deneva_base.specs.Lists.{IsIn}
use Rattle.deneva_base.specs.Keys.{attempt_eq}
use Rattle.deneva_base.specs.declared.causes.Cause.{Cause}
use Rattle.deneva_base.specs.declared.answers.Vote.TheVariants.{No as VotesNo}
use Rattle.deneva_base.proofs.Membership.{in_left, in_right, any_found, and_true, attempt_tells, key_tells}
use Rattle.server_core.specs.declared.messages.Msg.{Msg}
use Rattle.server_core.specs.declared.messages.Msg.TheVariants.{Ask, Refused, Prepare, Yes, No, Commit, Abort}
use Rattle.server_core.specs.declared.messages.Mail.{Mail}
use Rattle.server_core.specs.declared.messages.Entry.{Entry}
use Rattle.server_core.specs.Setting.{Setting, home, participants}
use Rattle.server_core.specs.Received.{votes_for, refused_for, started_for, all_voted}
use Rattle.server_core.specs.declared.ballots.Ballot.{Ballot}
use Rattle.server_core.specs.Coordinator.{first_no, greatest_lo, least_hi, decision}
use Rattle.server_core.specs.VotingFits.{IsAborted}
use Rattle.server_core.specs.Proper.{Valid}
use Rattle.server_core.specs.Runs.{heard}
use Rattle.server_core.specs.declared.outcomes.AbortLine.{AbortLine}
use Rattle.server_core.specs.Aborts.{Refusal, is_ask_of, is_prepare_of, is_vote_of, newest, line_at, refusal_for, apart_of, vote_abort, abort_lines, turns, aborts_of}
use Rattle.server_core.specs.AttemptEnds.{attempt, at_home}
use Rattle.server_core.proofs.values.Origins.{started_ids, aborted_started}
use Rattle.server_core.proofs.counts.Starts.{started_turn, turn_bound}
use Rattle.server_core.proofs.values.Closed.{flat_in}
use Rattle.voting_laws.proofs.serial.Lines.{listed_part}
use Rattle.voting_laws.proofs.fits.Account.{Good, said_at, voted_in}
use Rattle.voting_laws.proofs.named.Names.{refusal_heard, first_no_is, no_msg, refused_said, no_said}

-- a message that was handled is an entry
entry_of : (p : ℕ) (m : Msg) (H : List Entry) → IsIn m (heard p H) → (e : Entry) × IsIn e H × (e.msg ≡ m) × (e.node ≡ p)
entry_of p m [] i = absurd i
entry_of p m (e ∷ H) i =
    ⊎_elim
    (λ t. ⊎_elim (λ is. (e, inl refl, sym is, t.1)) (λ r. let n = entry_of p m H r in (n.0, inr n.1, n.2, n.3)) (subst (λ b. IsIn m (cond b (e.msg ∷ heard p H) (heard p H))) t.0 i))
    (λ t. let n = entry_of p m H (subst (λ b. IsIn m (cond b (e.msg ∷ heard p H) (heard p H))) t.0 i) in (n.0, inr n.1, n.2, n.3))
    (eqb_tells e.node p)

newest_some : (t : Entry → Bool) (H : List Entry) (e : Entry) → IsIn e H → t e ≡ true → (n : Entry) × (newest t H ≡ Some n)
newest_some t [] e i h = absurd i
newest_some t (y ∷ H) e i h = go (t y) refl (λ r. newest_some t H e r h)
  where
    go : (b : Bool) → t y ≡ b → (IsIn e H → (n : Entry) × (newest t H ≡ Some n)) → (n : Entry) × (cond b (Some y) (newest t H) ≡ Some n)
    go true f next = (y, refl)
    go false f next = ⊎_elim (λ (is : e ≡ y). absurd (true≢false (sym h ∙ ap t is ∙ f))) (λ r. next r) i

refusal_some : (who : Attempt) (ms : List Msg) → refused_for who ms ≡ true → (r : Refusal) × (refusal_for who ms ≡ Some r)
refusal_some who [] e = absurd (true≢false (sym e))
refusal_some who (Refused x k c ∷ ms) e = ⊎_elim (λ t. (record { key = k; cause = c }, rw t.0)) (λ t. let n = refusal_some who ms (rw t.0 at e) in (n.0, rw t.0 n.1)) (attempt_tells x who)
refusal_some who (Ask x st k m ∷ ms) e = refusal_some who ms e
refusal_some who (m ∷ ms) e = refusal_some who ms e

refusal_none : (who : Attempt) (ms : List Msg) → refused_for who ms ≡ false → refusal_for who ms ≡ None
refusal_none who [] e = refl
refusal_none who (Refused x k c ∷ ms) e = ⊎_elim (λ t. absurd (true≢false (rw t.0 at e))) (λ t. rw t.0 (refusal_none who ms (rw t.0 at e))) (attempt_tells x who)
refusal_none who (Ask x st k m ∷ ms) e = refusal_none who ms e
refusal_none who (m ∷ ms) e = refusal_none who ms e

vote_msg : (who : Attempt) (ms : List Msg) (b : Ballot) → IsIn b (votes_for who ms) → (m : Msg) × IsIn m ms × (is_vote_of who m ≡ true)
vote_msg who [] b i = absurd i
vote_msg who (Yes x part lo hi ∷ ms) b i = ⊎_elim (λ t. (Yes x part lo hi, inl refl, t.0)) (λ t. let n = vote_msg who ms b (rw t.0 at i) in (n.0, inr n.1, n.2)) (attempt_tells x who)
vote_msg who (No x part c ∷ ms) b i = ⊎_elim (λ t. (No x part c, inl refl, t.0)) (λ t. let n = vote_msg who ms b (rw t.0 at i) in (n.0, inr n.1, n.2)) (attempt_tells x who)
vote_msg who (m ∷ ms) b i = let n = vote_msg who ms b i in (n.0, inr n.1, n.2)

module _ (s : Setting) (v : Valid s) (H : List Entry) (flight : List Mail) (g : Good s H flight) (who : Attempt) where
  abbrev ms : List Msg
  ms = at_home s H who

  abbrev Line' : List AbortLine → Type 0
  Line' ls = (l : AbortLine) × IsIn l ls × (l.who ≡ who)

  a_line : (c : Cause) (t : Entry → Bool) (e : Entry) → IsIn e H → t e ≡ true → Line' (line_at who c (newest t H))
  a_line c t e i h =
      let n = newest_some t H e i h in
      let l : AbortLine = record { who = who; place = n.0.place; node = n.0.node; cause = c } in
      (l, subst (λ o. IsIn l (line_at who c o)) (sym n.1) (inl refl), refl)

  if_refused : (r : Refusal) → refusal_for who ms ≡ Some r → Line' (abort_lines s H who (Some r))
  if_refused r e =
      let f = said_at s v H flight g who (home s who.txn) (Refused who r.key r.cause) (refusal_heard who ms r e) (λ y d. absurd (cc (d))) in
      let a = refused_said s v f.1 who r.key r.cause (heard f.1 H) f.0 f.2 f.4 in
      let m : IsIn (Ask who a.stamp r.key a.mode) (heard f.1 H) = subst (λ l. IsIn (Ask who a.stamp r.key a.mode) l) (sym a.is) (in_right (Ask who a.stamp r.key a.mode) a.late (Ask who a.stamp r.key a.mode ∷ a.early) (inl refl)) in
      let n = entry_of f.1 (Ask who a.stamp r.key a.mode) H m in
      a_line r.cause (λ e. is_ask_of who r.key e.msg) n.0 n.1 (subst (λ z. is_ask_of who r.key z ≡ true) (sym n.2) (grind (arith, attempt_tells who who, key_tells r.key r.key)))

  by_vote : (av : all_voted (votes_for who ms) (participants s who) ≡ true) → IsIn who.txn s.ids → (c : Option (ℕ × Cause)) → first_no None (votes_for who ms) ≡ c → decision who (votes_for who ms) c ≡ Abort who → Line' (vote_abort s H who (votes_for who ms) c)
  by_vote av ids (Some c) ec d =
      let fn = first_no_is None (votes_for who ms) c ec in
      let bl : (b : Ballot) × IsIn b (votes_for who ms) × (b.part ≡ c.0) × (b.vote ≡ VotesNo c.1) = ⊎_elim (λ e. absurd (cc (e))) (λ x. x) fn.0 in
      let m : IsIn (No who c.0 c.1) ms = subst (λ q. IsIn (No who q c.1) ms) bl.2 (no_msg who ms bl.0 c.1 bl.1 bl.3) in
      let f = said_at s v H flight g who (home s who.txn) (No who c.0 c.1) m (λ y d. absurd (cc (d))) in
      let a = no_said s v f.1 who c.0 c.1 (heard f.1 H) f.0 f.2 f.4 in
      let k : IsIn (Prepare who a.bound a.writes a.appends) (heard f.1 H) = subst (λ l. IsIn (Prepare who a.bound a.writes a.appends) l) (sym a.is) (in_right (Prepare who a.bound a.writes a.appends) a.late (Prepare who a.bound a.writes a.appends ∷ a.early) (inl refl)) in
      let n = entry_of f.1 (Prepare who a.bound a.writes a.appends) H k in
      a_line c.1 (λ e. eqb e.node c.0 && is_prepare_of who e.msg) n.0 n.1 (and_true (eqb n.0.node c.0) (is_prepare_of who n.0.msg) (same n.0.node c.0 (n.3 ∙ sym f.5.1)) (subst (λ z. is_prepare_of who z ≡ true) (sym n.2) self))
    where
      same : (a b : ℕ) → a ≡ b → eqb a b ≡ true
      same a b e = grind (arith, nat_tests, e)

      self : attempt_eq who who ≡ true
      self = ⊎_elim (λ t. t.0) (λ f. absurd (f.1 refl)) (attempt_tells who who)
  by_vote av ids None ec d =
      let q = listed_part s v H flight g who.txn ids in
      let b = any_found (λ (b : Ballot). eqb b.part q.0) (votes_for who ms) (voted_in (votes_for who ms) (participants s who) q.0 av q.1) in
      let m = vote_msg who ms b.0 b.1 in
      let n = entry_of (home s who.txn) m.0 H m.1 in
      let line = a_line (apart_of (votes_for who ms)) (λ e. eqb e.node (home s who.txn) && is_vote_of who e.msg) n.0 n.1 (and_true (eqb n.0.node (home s who.txn)) (is_vote_of who n.0.msg) (same n.0.node (home s who.txn) n.3) (subst (λ z. is_vote_of who z ≡ true) (sym n.2) m.2)) in
      let over : ltb (least_hi (votes_for who ms)) (greatest_lo (votes_for who ms)) ≡ true = apart (leb (greatest_lo (votes_for who ms)) (least_hi (votes_for who ms))) refl d in
      subst (λ t. Line' (cond t (line_at who (apart_of (votes_for who ms)) (newest (λ e. eqb e.node (home s who.txn) && is_vote_of who e.msg) H)) [])) (sym over) line
    where
      same : (a b : ℕ) → a ≡ b → eqb a b ≡ true
      same a b e = grind (arith, nat_tests, e)

      flip : (a b : ℕ) → leb a b ≡ false → ltb b a ≡ true
      flip a b e = grind (arith, nat_tests, e)

      apart : (t : Bool) → leb (greatest_lo (votes_for who ms)) (least_hi (votes_for who ms)) ≡ t → cond t (Commit who (record { n = greatest_lo (votes_for who ms); id = who.txn })) (Abort who) ≡ Abort who → ltb (least_hi (votes_for who ms)) (greatest_lo (votes_for who ms)) ≡ true
      apart true e d = absurd (cc (d))
      apart false e d = flip (greatest_lo (votes_for who ms)) (least_hi (votes_for who ms)) e

  lines_of : IsAborted s ms who → Line' (abort_lines s H who (refusal_for who ms))
  lines_of a = go (refused_for who ms) refl
    where
      st : started_for who ms ≡ true
      st = aborted_started s (home s who.txn) who ms (g.fit (home s who.txn)) a

      go : (b : Bool) → refused_for who ms ≡ b → Line' (abort_lines s H who (refusal_for who ms))
      go true e = let r = refusal_some who ms e in subst (λ o. Line' (abort_lines s H who o)) (sym r.1) (if_refused r.0 r.1)
      go false e =
          ⊎_elim
          (λ r. absurd (true≢false (sym r ∙ e)))
          (λ d. subst (λ o. Line' (abort_lines s H who o)) (sym (refusal_none who ms e))
          (subst (λ t. Line' (cond t (vote_abort s H who (votes_for who ms) (first_no None (votes_for who ms))) [])) (sym (and_true (started_for who ms) (all_voted (votes_for who ms) (participants s who)) st d.0.1))
          (by_vote d.0.1 (started_ids s (home s who.txn) who ms (g.fit (home s who.txn)) st) (first_no None (votes_for who ms)) refl d.1)))
          a

  -- so it is listed
  pub abort_listed : IsAborted s ms who → (l : AbortLine) × IsIn l (aborts_of s H) × (l.who ≡ who)
  abort_listed a =
      let l = lines_of a in
      let st = aborted_started s (home s who.txn) who ms (g.fit (home s who.txn)) a in
      let low = started_turn s (home s who.txn) who ms (g.fit (home s who.txn)) st in
      let high = turn_bound s (home s who.txn) who ms v.attempts (g.fit (home s who.txn)) st in
      (l.0, flat_in (λ x. turns s H x s.attempts) s.ids who.txn l.0 (started_ids s (home s who.txn) who ms (g.fit (home s who.txn)) st) (at_turn s.attempts low high l.0 l.1), l.2)
    where
      at_turn : (n : ℕ) → 1 ≤ who.turn → who.turn ≤ n → (l : AbortLine) → IsIn l (abort_lines s H who (refusal_for who ms)) → IsIn l (turns s H who.txn n)
      at_turn zero low high l i = absurd (omega (arith, low, high))
      at_turn (suc n) low high l i =
          ⊎_elim
          (λ (t : (eqb who.turn (suc n) ≡ true) × (who.turn ≡ suc n)). in_right l (turns s H who.txn n) (abort_lines s H (attempt who.txn (suc n)) (refusal_for (attempt who.txn (suc n)) (at_home s H (attempt who.txn (suc n))))) (subst (λ k. IsIn l (abort_lines s H (attempt who.txn k) (refusal_for (attempt who.txn k) (at_home s H (attempt who.txn k))))) t.1 i))
          (λ (t : (eqb who.turn (suc n) ≡ false) × (who.turn ≢ suc n)). in_left l (turns s H who.txn n) (abort_lines s H (attempt who.txn (suc n)) (refusal_for (attempt who.txn (suc n)) (at_home s H (attempt who.txn (suc n))))) (at_turn n low (omega (arith, t.1, high)) l i))
          (eqb_tells who.turn (suc n))
