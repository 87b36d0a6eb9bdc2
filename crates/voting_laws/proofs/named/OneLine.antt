-- Each attempt of which an Abort was said has exactly one abort line, and no other has any.
use Rattle.std.proofs.Common.{◌≡◌, ◌≢◌, ℕ, zero, suc, ◌+◌, ◌<◌, ◌≤◌, ltb, leb, List, [], ◌∷◌, ◌++◌, length, Bool, true, false, cond, ◌&&◌, eqb, refl, sym, ap, ◌∙◌, subst, inl, inr, ⊎_elim, arith, Option, Some, None, true≢false}
use Rattle.std.specs.List.{flat_map}
use Rattle.std.proofs.lemmas.Bool.Decides.{nat_tests}
use Rattle.deneva_base.specs.declared.numbers.TxnId.{TxnId}
use Rattle.deneva_base.specs.declared.numbers.Attempt.{Attempt}
use Rattle.deneva_base.specs.declared.causes.Cause.{Cause}
use Rattle.deneva_base.specs.Lists.{IsIn}
use Rattle.deneva_base.specs.Keys.{attempt_eq}
use Rattle.deneva_base.proofs.Membership.{in_cases, in_filter, filter_in, any_at, any_found, attempt_tells, attempt_decides}
use Rattle.server_core.specs.declared.messages.Msg.{Msg}
use Rattle.server_core.specs.declared.messages.Msg.TheVariants.{Start, Commit, Abort}
use Rattle.server_core.specs.declared.messages.Mail.{Mail}
use Rattle.server_core.specs.declared.messages.Entry.{Entry}
use Rattle.server_core.specs.Setting.{Setting, home, participants}
use Rattle.server_core.specs.Received.{votes_for, refused_for, started_for, all_voted}
use Rattle.server_core.specs.Coordinator.{asked_partitions, first_no, greatest_lo, least_hi, decision}
use Rattle.server_core.specs.VotingFits.{IsAborted, Polled}
use Rattle.server_core.specs.Proper.{Valid, ids_in}
use Rattle.server_core.specs.RunAccount.{ends_of, all_mails, was_said}
use Rattle.server_core.specs.AbortsListed.{aborts, lines_of, ListsAborts}
use Rattle.server_core.specs.declared.outcomes.AbortLine.{AbortLine}
use Rattle.server_core.specs.Aborts.{Refusal, is_ask_of, is_prepare_of, is_vote_of, newest, apart_of, line_at, refusal_for, vote_abort, abort_lines, turns, aborts_of}
use Rattle.server_core.specs.AttemptEnds.{attempt, at_home}
use Rattle.server_core.proofs.counts.Prepares.{occurs}
use Rattle.server_core.proofs.values.Closed.{in_flat}
use Rattle.server_core.proofs.values.EarlierTurns.{not_both}
use Rattle.server_core.proofs.values.Origins.{started_ids, aborted_started}
use Rattle.server_core.proofs.values.Values.{refused_in}
use Rattle.voting_laws.proofs.account.Counting.{one_if, zero_if, occurs_there}
use Rattle.voting_laws.proofs.account.Said.{landed, ends_to, end_mail}
use Rattle.voting_laws.proofs.fits.Account.{Good, phase, voted_in, commit_flies, abort_flies}
use Rattle.voting_laws.proofs.named.Listings.{abort_listed}
use Rattle.voting_laws.proofs.named.Names.{refusal_heard}
use Rattle.voting_laws.proofs.serial.Lines.{listed_part}
use Rattle.voting_laws.proofs.serial.SerialOutcomes.{told_some}

-- how many lines of the attempt
abbrev about : Attempt → List AbortLine → ℕ
about who ls = length (lines_of who ls)

about-append : (who : Attempt) (xs ys : List AbortLine) → about who (xs ++ ys) ≡ about who xs + about who ys
about-append who [] ys = omega arith
about-append who (x ∷ xs) ys = go (attempt_eq x.who who) (about-append who xs ys)
  where
    go : (b : Bool) → about who (xs ++ ys) ≡ about who xs + about who ys → length (cond b (x ∷ lines_of who (xs ++ ys)) (lines_of who (xs ++ ys))) ≡ length (cond b (x ∷ lines_of who xs) (lines_of who xs)) + about who ys
    go true e = omega (arith, e)
    go false e = e

-- an attempt's part of the list has at most one line, and that is its own
at_most : (who a : Attempt) (c : Cause) (o : Option Entry) → about who (line_at a c o) ≤ one_if (attempt_eq a who)
at_most who a c None = omega arith
at_most who a c (Some e) = go (attempt_eq a who) (record { who = a; place = e.place; node = e.node; cause = c })
  where
    go : (b : Bool) (l : AbortLine) → length (cond b (l ∷ []) []) ≤ one_if b
    go true l = omega arith
    go false l = omega arith

if_any : (b : Bool) (who : Attempt) (ls : List AbortLine) (n : ℕ) → about who ls ≤ n → about who (cond b ls []) ≤ n
if_any true who ls n h = h
if_any false who ls n h = omega arith

by_attempt : (s : Setting) (H : List Entry) (who a : Attempt) (o : Option Refusal) → about who (abort_lines s H a o) ≤ one_if (attempt_eq a who)
by_attempt s H who a (Some r) = at_most who a r.cause (newest (λ e. is_ask_of a r.key e.msg) H)
by_attempt s H who a None =
    if_any (started_for a (at_home s H a) && all_voted (votes_for a (at_home s H a)) (participants s a)) who (vote_abort s H a (votes_for a (at_home s H a)) (first_no None (votes_for a (at_home s H a)))) (one_if (attempt_eq a who)) (voted (first_no None (votes_for a (at_home s H a))))
  where
    voted : (c : Option (ℕ × Cause)) → about who (vote_abort s H a (votes_for a (at_home s H a)) c) ≤ one_if (attempt_eq a who)
    voted (Some c) = at_most who a c.1 (newest (λ e. eqb e.node c.0 && is_prepare_of a e.msg) H)
    voted None =
        if_any (ltb (least_hi (votes_for a (at_home s H a))) (greatest_lo (votes_for a (at_home s H a)))) who
        (line_at a (apart_of (votes_for a (at_home s H a))) (newest (λ e. eqb e.node (home s a.txn) && is_vote_of a e.msg) H))
        (one_if (attempt_eq a who))
        (at_most who a (apart_of (votes_for a (at_home s H a))) (newest (λ e. eqb e.node (home s a.txn) && is_vote_of a e.msg) H))

-- of one transaction: one line, and none for a later turn
by_turns : (s : Setting) (H : List Entry) (who : Attempt) (x : TxnId) (n : ℕ) → (about who (turns s H x n) ≤ one_if (eqb x.0 who.txn.0)) × (n < who.turn → about who (turns s H x n) ≡ 0)
by_turns s H who x zero = (omega arith, λ h. refl)
by_turns s H who x (suc n) =
    let ih = by_turns s H who x n in
    let a : Attempt = attempt x (suc n) in
    let new = by_attempt s H who a (refusal_for a (at_home s H a)) in
    let sum = about-append who (turns s H x n) (abort_lines s H a (refusal_for a (at_home s H a))) in
    ⊎_elim
    (λ (t : (attempt_eq a who ≡ true) × (a ≡ who)).
    let turn : who.turn ≡ suc n = sym (ap (λ (y : Attempt). y.turn) t.1) in
    let own : eqb x.0 who.txn.0 ≡ true = subst (λ (y : Attempt). eqb x.0 y.txn.0 ≡ true) t.1 (same x.0) in
    (omega (arith, sum, ap one_if own, ap one_if t.0, new, ih.1 (omega (arith, turn))), λ h. absurd (omega (arith, h, turn))))
    (λ (t : (attempt_eq a who ≡ false) × (a ≢ who)). let none : about who (abort_lines s H a (refusal_for a (at_home s H a))) ≡ 0 = omega (arith, new, ap one_if t.0) in (omega (arith, sum, none, ih.0), λ h. omega (arith, sum, none, ih.1 (omega (arith, h)))))
    (attempt_tells a who)
  where
    same : (a : ℕ) → eqb a a ≡ true
    same a = grind (arith, nat_tests)

by_ids : (s : Setting) (H : List Entry) (who : Attempt) (xs : List TxnId) → about who (flat_map (λ x. turns s H x s.attempts) xs) ≤ ids_in who.txn xs
by_ids s H who [] = omega arith
by_ids s H who (x ∷ xs) = omega (arith, about-append who (turns s H x s.attempts) (flat_map (λ y. turns s H y s.attempts) xs), (by_turns s H who x s.attempts).0, by_ids s H who xs)

module _ (s : Setting) (v : Valid s) (H : List Entry) (flight : List Mail) (g : Good s H flight) where
  -- a line is of an attempt that was aborted
  aborted_line : (l : AbortLine) → IsIn l (aborts_of s H) → IsAborted s (at_home s H l.who) l.who
  aborted_line l i = let x = in_flat (λ x. turns s H x s.attempts) s.ids l i in by_turn x.0 s.attempts x.2
    where
      own : (who : Attempt) (c : Cause) (o : Option Entry) → IsIn l (line_at who c o) → who ≡ l.who
      own who c None i = absurd i
      own who c (Some e) i = ⊎_elim (λ is. sym (ap (λ (y : AbortLine). y.who) is)) (λ n. absurd n) i

      to : (who : Attempt) → IsAborted s (at_home s H who) who → who ≡ l.who → IsAborted s (at_home s H l.who) l.who
      to who a is = subst (λ y. IsAborted s (at_home s H y) y) is a

      polled : (who : Attempt) → started_for who (at_home s H who) ≡ true → all_voted (votes_for who (at_home s H who)) (participants s who) ≡ true → Polled s (at_home s H who) who
      polled who st av =
          let q = listed_part s v H flight g who.txn (started_ids s (home s who.txn) who (at_home s H who) (g.fit (home s who.txn)) st) in
          (((phase s v H flight g who).voted q.0 (voted_in (votes_for who (at_home s H who)) (participants s who) q.0 av q.1)).0, av)

      voted : (who : Attempt) → Polled s (at_home s H who) who → (c : Option (ℕ × Cause)) → first_no None (votes_for who (at_home s H who)) ≡ c → IsIn l (vote_abort s H who (votes_for who (at_home s H who)) c) → IsAborted s (at_home s H l.who) l.who
      voted who p (Some c) ec i = to who (inr (p, ap (decision who (votes_for who (at_home s H who))) ec)) (own who c.1 (newest (λ e. eqb e.node c.0 && is_prepare_of who e.msg) H) i)
      voted who p None ec i = apart (ltb (least_hi (votes_for who (at_home s H who))) (greatest_lo (votes_for who (at_home s H who)))) refl i
        where
          flip : (a b : ℕ) → ltb b a ≡ true → leb a b ≡ false
          flip a b e = grind (arith, nat_tests, e)

          apart : (t : Bool) → ltb (least_hi (votes_for who (at_home s H who))) (greatest_lo (votes_for who (at_home s H who))) ≡ t → IsIn l (cond t (line_at who (apart_of (votes_for who (at_home s H who))) (newest (λ e. eqb e.node (home s who.txn) && is_vote_of who e.msg) H)) []) → IsAborted s (at_home s H l.who) l.who
          apart true et i =
              to who
              (inr (p, ap (decision who (votes_for who (at_home s H who))) ec ∙ ap (λ b. cond b (Commit who (record { n = greatest_lo (votes_for who (at_home s H who)); id = who.txn })) (Abort who)) (flip (greatest_lo (votes_for who (at_home s H who))) (least_hi (votes_for who (at_home s H who))) et)))
              (own who (apart_of (votes_for who (at_home s H who))) (newest (λ e. eqb e.node (home s who.txn) && is_vote_of who e.msg) H) i)
          apart false et i = absurd i

      by_end : (who : Attempt) (o : Option Refusal) → refusal_for who (at_home s H who) ≡ o → IsIn l (abort_lines s H who o) → IsAborted s (at_home s H l.who) l.who
      by_end who (Some r) e i = to who (inl (refused_in who r.key r.cause (at_home s H who) (refusal_heard who (at_home s H who) r e))) (own who r.cause (newest (λ e. is_ask_of who r.key e.msg) H) i)
      by_end who None e i = go (started_for who (at_home s H who)) refl (all_voted (votes_for who (at_home s H who)) (participants s who)) refl i
        where
          go : (a : Bool) → started_for who (at_home s H who) ≡ a → (w : Bool) → all_voted (votes_for who (at_home s H who)) (participants s who) ≡ w → IsIn l (cond (a && w) (vote_abort s H who (votes_for who (at_home s H who)) (first_no None (votes_for who (at_home s H who)))) []) → IsAborted s (at_home s H l.who) l.who
          go true ea true ew i = voted who (polled who ea ew) (first_no None (votes_for who (at_home s H who))) refl i
          go true ea false ew i = absurd i
          go false ea w ew i = absurd i

      by_turn : (x : TxnId) (n : ℕ) → IsIn l (turns s H x n) → IsAborted s (at_home s H l.who) l.who
      by_turn x zero i = absurd i
      by_turn x (suc n) i =
          ⊎_elim
          (λ a. by_turn x n a)
          (λ c. by_end (attempt x (suc n)) (refusal_for (attempt x (suc n)) (at_home s H (attempt x (suc n)))) refl c)
          (in_cases l (turns s H x n) (abort_lines s H (attempt x (suc n)) (refusal_for (attempt x (suc n)) (at_home s H (attempt x (suc n))))) i)

  module _ (who : Attempt) where
    abbrev ms : List Msg
    ms = at_home s H who

    said_aborted : was_said s H (aborts who) ≡ true → IsAborted s ms who
    said_aborted e = let m = any_found (λ (x : Mail). aborts who x.msg) (all_mails s H) e in abort_flies s v H flight g who m.0 (landed s v H flight g m.0 m.1) (is_it m.0.msg m.2)
      where
        is_it : (m : Msg) → aborts who m ≡ true → m ≡ Abort who
        is_it (Abort x) e = ap Abort ((attempt_decides x who).0 e)
        is_it (Start x) e = absurd (true≢false (sym e))
        is_it m e = absurd (true≢false (sym e))

    aborted_said : IsAborted s ms who → was_said s H (aborts who) ≡ true
    aborted_said a =
        let q = end_somewhere in
        let m = end_mail s v H flight g who q.0 q.1 in
        any_at (λ (x : Mail). aborts who x.msg) m.0 (all_mails s H) m.1 (kind m.0 m.1 m.0.msg refl m.2)
      where
        end_somewhere : (q : ℕ) × (1 ≤ ends_to s v H flight g who q)
        end_somewhere =
            let t = told_some s v H flight g who ms (started_ids s (home s who.txn) who ms (g.fit (home s who.txn)) (aborted_started s (home s who.txn) who ms (g.fit (home s who.txn)) a)) in (
              t.0,
              ⊎_elim
                  (λ (r : refused_for who ms ≡ true).
                  let i : IsIn t.0 (asked_partitions s ms who) = subst (λ z. IsIn t.0 (cond z (asked_partitions s ms who) (participants s who))) r t.1 in
                  subst (λ z. 1 ≤ cond z (occurs t.0 (asked_partitions s ms who)) 0 + cond (all_voted (votes_for who ms) (participants s who)) (occurs t.0 (participants s who)) 0) (sym r) (omega (arith, occurs_there t.0 (asked_partitions s ms who) i)))
                  (λ d.
                  let i : IsIn t.0 (participants s who) = subst (λ z. IsIn t.0 (cond z (asked_partitions s ms who) (participants s who))) d.0.0.1 t.1 in
                  subst (λ z. 1 ≤ cond (refused_for who ms) (occurs t.0 (asked_partitions s ms who)) 0 + cond z (occurs t.0 (participants s who)) 0) (sym d.0.1) (omega (arith, occurs_there t.0 (participants s who) i)))
                  a,
            )

        kind : (m : Mail) → IsIn m (all_mails s H) → (z : Msg) → m.msg ≡ z → ends_of who z ≡ true → aborts who z ≡ true
        kind m i (Abort x) f e = e
        kind m i (Commit x n) f e =
            let is : x ≡ who = (attempt_decides x who).0 e in
            absurd (not_both s ms who n a (commit_flies s v H flight g who m n (landed s v H flight g m i) (f ∙ ap (λ y. Commit y n) is)).0)
        kind m i (Start x) f e = absurd (true≢false (sym e))
        kind m i z f e = absurd (true≢false (sym e))

    pub one_line : about who (aborts_of s H) ≡ cond (was_said s H (aborts who)) 1 0
    one_line = go (was_said s H (aborts who)) refl
      where
        longer : (l : AbortLine) (ls : List AbortLine) → IsIn l ls → 1 ≤ length ls
        longer l [] i = absurd i
        longer l (x ∷ ls) i = omega arith

        found : (ls : List AbortLine) → 1 ≤ length ls → (l : AbortLine) × IsIn l ls
        found [] h = absurd (omega (arith, h))
        found (x ∷ ls) h = (x, inl refl)

        go : (b : Bool) → was_said s H (aborts who) ≡ b → about who (aborts_of s H) ≡ cond b 1 0
        go true e =
            let l = abort_listed s v H flight g who (said_aborted e) in
            omega (arith, by_ids s H who s.ids, v.once who.txn, longer l.0 (lines_of who (aborts_of s H)) (in_filter (λ (y : AbortLine). attempt_eq y.who who) l.0 (aborts_of s H) l.1 ((attempt_decides l.0.who who).1 l.2)))
        go false e = zero_if (about who (aborts_of s H)) (λ h.
            let l = found (lines_of who (aborts_of s H)) h in
            let f = filter_in (λ (y : AbortLine). attempt_eq y.who who) l.0 (aborts_of s H) l.1 in
            let is : l.0.who ≡ who = (attempt_decides l.0.who who).0 f.1 in
            true≢false (sym (aborted_said (subst (λ y. IsAborted s (at_home s H y) y) is (aborted_line l.0 f.0))) ∙ e))

  pub lists_aborts : ListsAborts s H (aborts_of s H)
  lists_aborts who = one_line who
