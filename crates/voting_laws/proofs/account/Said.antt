-- What was said of an attempt: its Start, its Prepares and its ends, by what its home has handled.
use Rattle.std.proofs.Common.{◌≡◌, ◌≢◌, ◌⊎◌, ℕ, suc, ◌+◌, ◌<◌, ◌≤◌, List, [], ◌∷◌, length, Bool, true, false, cond, ◌&&◌, ◌||◌, eqb, refl, sym, ap, ◌∙◌, subst, subst₂, inl, inr, ⊎_elim, arith, true≢false}
use Rattle.std.specs.List.{list_any, flat_map}
use Rattle.std.proofs.lemmas.Bool.Decides.{nat_tests}
use Rattle.deneva_base.specs.declared.numbers.TxnId.{TxnId}
use Rattle.deneva_base.specs.declared.numbers.Attempt.{Attempt}
use Rattle.deneva_base.specs.Lists.{IsIn}
use Rattle.deneva_base.specs.Keys.{attempt_eq}
use Rattle.deneva_base.proofs.Membership.{in_left, in_right, in_cases, in_filter, filter_in, any_at, any_found, and_parts, and_true, attempt_tells, attempt_decides}
use Rattle.txn_program.specs.Transactions.{numbers_below}
use Rattle.server_core.specs.declared.messages.Msg.{Msg}
use Rattle.server_core.specs.declared.messages.Msg.TheVariants.{Start, Ask, Prepare, Commit, Abort}
use Rattle.server_core.specs.declared.messages.Mail.{Mail}
use Rattle.server_core.specs.declared.messages.Entry.{Entry}
use Rattle.server_core.specs.Setting.{Setting, home, partitions_of, take_first, participants}
use Rattle.server_core.specs.Received.{grants_for, votes_for, refused_for, started_for, all_voted}
use Rattle.server_core.specs.Coordinator.{asked_partitions}
use Rattle.server_core.specs.Voting.{says, opening}
use Rattle.server_core.specs.Proper.{ProperMsg, Valid}
use Rattle.server_core.specs.Runs.{heard}
use Rattle.server_core.specs.Counts.{all_said}
use Rattle.voting_laws.proofs.account.Words.{has_begun}
use Rattle.server_core.specs.RunAccount.{starts_of, prepares_of, ends_of, all_mails, said_to, begun, prepared, ending}
use Rattle.server_core.proofs.counts.Conserved.{count_in, in_counted, handled}
use Rattle.server_core.proofs.counts.Local.{sent_to}
use Rattle.server_core.proofs.counts.Quiet.{is_prepare, is_end}
use Rattle.server_core.proofs.counts.Prepares.{occurs, prepares_said}
use Rattle.server_core.proofs.counts.Ends.{ends_said}
use Rattle.server_core.proofs.lists.Parts.{in_below, part_below, parts_from, home_below}
use Rattle.server_core.proofs.values.Closed.{in_flat, flat_in}
use Rattle.server_core.proofs.values.Origins.{origin, proper_said}
use Rattle.server_core.proofs.values.Values.{heard_mail}
use Rattle.voting_laws.proofs.fits.Account.{Good, in_openings, ends_once, all_granted, occurs_in}
use Rattle.voting_laws.proofs.fits.Lands.{lands, handled_heard}
use Rattle.voting_laws.proofs.numbers.Events.{fit_of}
use Rattle.voting_laws.proofs.account.Begun.{begun_cases, started_begun}
use Rattle.voting_laws.proofs.account.Counting.{bool_same}
use Rattle.voting_laws.proofs.account.Quits.{opens_land, start_heard}

-- an attempt that was started has its Start among the messages
started_in : (who : Attempt) (ms : List Msg) → started_for who ms ≡ true → IsIn (Start who) ms
started_in who [] e = absurd (true≢false (sym e))
started_in who (Start x ∷ ms) e =
    ⊎_elim
    (λ (t : (attempt_eq x who ≡ true) × (x ≡ who)). inl (ap Start (sym t.1)))
    (λ (t : (attempt_eq x who ≡ false) × (x ≢ who)). let e' : (false || started_for who ms) ≡ true = subst (λ b. (b || started_for who ms) ≡ true) t.0 e in inr (started_in who ms e'))
    (attempt_tells x who)
started_in who (Ask x st k m ∷ ms) e = inr (started_in who ms e)
started_in who (m ∷ ms) e = inr (started_in who ms e)

eqb_is : (a b : ℕ) → eqb a b ≡ true → a ≡ b
eqb_is a b e = grind (arith, nat_tests)

eqb_self : (a : ℕ) → eqb a a ≡ true
eqb_self a = grind (arith, nat_tests)

module _ (s : Setting) (v : Valid s) (H : List Entry) (flight : List Mail) (g : Good s H flight) where
  -- what the home of a transaction said is among all mails
  pub of_home : (x : TxnId) (m : Mail) → IsIn m (all_said (says s) (home s x) (heard (home s x) H)) → IsIn m (all_mails s H)
  of_home x m i =
      in_right m (opening s) (flat_map (λ p. all_said (says s) p (heard p H)) (numbers_below s.parts))
      (flat_in (λ p. all_said (says s) p (heard p H)) (numbers_below s.parts) (home s x) m (in_below (home s x) s.parts (home_below s v.parts x)) i)

  -- a mail of the opening, or said by some node
  from : (m : Mail) → IsIn m (all_mails s H) → IsIn m (opening s) ⊎ ((p : ℕ) × IsIn m (all_said (says s) p (heard p H)))
  from m i =
      ⊎_elim
      (λ o. inl o)
      (λ f. let n = in_flat (λ p. all_said (says s) p (heard p H)) (numbers_below s.parts) m f in inr (n.0, n.2))
      (in_cases m (opening s) (flat_map (λ p. all_said (says s) p (heard p H)) (numbers_below s.parts)) i)

  -- it landed
  pub landed : (m : Mail) → IsIn m (all_mails s H) → IsIn m flight ⊎ IsIn m (handled H)
  landed m i =
      ⊎_elim
      (λ o. opens_land (says s) (opening s) H flight g.run m o)
      (λ f. lands (says s) (opening s) H flight g.run f.0 m f.1)
      (from m i)

  is_start : (who : Attempt) (m : Msg) → starts_of who m ≡ true → m ≡ Start who
  is_start who (Start x) e = ap Start ((attempt_decides x who).0 e)
  is_start who (Ask x st q m) e = absurd (true≢false (sym e))
  is_start who m e = absurd (true≢false (sym e))

  self : (who : Attempt) → attempt_eq who who ≡ true
  self who = ⊎_elim (λ t. t.0) (λ f. absurd (f.1 refl)) (attempt_tells who who)

  or_left : (a b : Bool) → a ≡ true → (a || b) ≡ true
  or_left true b e = refl
  or_left false b e = absurd (true≢false (sym e))

  or_right : (a : Bool) {b : Bool} → b ≡ true → (a || b) ≡ true
  or_right true e = refl
  or_right false e = e

  -- a Start among all mails
  pub start_landed : (who : Attempt) (m : Mail) → IsIn m (all_mails s H) → m.msg ≡ Start who → has_begun s H flight who ≡ true
  start_landed who m i e =
      ⊎_elim
      (λ f. or_right (started_for who (heard (home s who.txn) H)) (any_at (λ (x : Mail). starts_of who x.msg) m flight f (subst (λ z. starts_of who z ≡ true) (sym e) (self who))))
      (λ h.
      let j : IsIn (Start who) (heard m.to H) = subst (λ z. IsIn z (heard m.to H)) e (handled_heard H m h) in
      let f = fit_of s m.to (Start who) (heard m.to H) (g.fit m.to) j in
      started_begun s H flight who (subst (λ p. started_for who (heard p H) ≡ true) f.2.1 (start_heard who (heard m.to H) j)))
      (landed m i)

  pub begun_true : (who : Attempt) → has_begun s H flight who ≡ true → (m : Mail) × IsIn m (all_mails s H) × (m.msg ≡ Start who)
  begun_true who b =
      ⊎_elim
      (λ st.
      let h = heard_mail (home s who.txn) H (Start who) (started_in who (heard (home s who.txn) H) st) in
      (h.0, placed h.0 (inr h.1) h.2, h.2))
      (λ (m : (m : Mail) × IsIn m flight × (m.msg ≡ Start who)). (m.0, placed m.0 (inl m.1) m.2, m.2))
      (begun_cases s H flight who b)
    where
      placed : (m : Mail) → IsIn m flight ⊎ IsIn m (handled H) → m.msg ≡ Start who → IsIn m (all_mails s H)
      placed m i e =
          ⊎_elim
          (λ o. in_left m (opening s) (flat_map (λ p. all_said (says s) p (heard p H)) (numbers_below s.parts)) o)
          (λ f.
          let pr = proper_said s v f.0 (heard f.0 H) (g.fit f.0) m f.1 in
          let is : f.0 ≡ home s who.txn = (subst (λ z. ProperMsg s f.0 m.to z) e pr.1).1 in
          of_home who.txn m (subst (λ p. IsIn m (all_said (says s) p (heard p H))) is f.1))
          (origin (says s) (opening s) H flight g.run m i)

  -- its Start is in the opening or was said exactly where it is in flight or was handled
  pub begun_is : (who : Attempt) → begun s H who ≡ has_begun s H flight who
  begun_is who =
      bool_same (begun s H who) (has_begun s H flight who)
      (λ e. let m = any_found (λ (x : Mail). starts_of who x.msg) (all_mails s H) e in start_landed who m.0 m.1 (is_start who m.0.msg m.2))
      (λ e. let m = begun_true who e in any_at (λ (x : Mail). starts_of who x.msg) m.0 (all_mails s H) m.1 (subst (λ z. starts_of who z ≡ true) (sym m.2) (self who)))

  -- an attempt whose Start is in flight is begun
  pub flies_begun : (who : Attempt) (m : Mail) → IsIn m flight → starts_of who m.msg ≡ true → has_begun s H flight who ≡ true
  flies_begun who m i e = or_right (started_for who (heard (home s who.txn) H)) (any_at (λ (x : Mail). starts_of who x.msg) m flight i e)

  module _ (who : Attempt) where
    abbrev ms : List Msg
    ms = heard (home s who.txn) H

    -- a message that only the home says, and that is no Start
    record ByHome (t : Msg → Bool) : Type 0 where
      home_says : (m : Msg) (p to : ℕ) → t m ≡ true → ProperMsg s p to m → p ≡ home s who.txn
      no_start : (y : Attempt) → t (Start y) ≡ true → ⊥

    said_home : (t : Msg → Bool) → ByHome t → (m : Mail) → IsIn m (all_mails s H) → t m.msg ≡ true → IsIn m (all_said (says s) (home s who.txn) ms)
    said_home t b m i e =
        ⊎_elim
        (λ o. let st = in_openings s m (numbers_below s.parts) o in absurd (b.no_start st.0 (subst (λ z. t z ≡ true) st.1 e)))
        (λ f.
        let pr = proper_said s v f.0 (heard f.0 H) (g.fit f.0) m f.1 in
        subst (λ p. IsIn m (all_said (says s) p (heard p H))) (b.home_says m.msg f.0 m.to e pr.1) f.1)
        (from m i)

    by_prepare : ByHome (prepares_of who)
    by_prepare = record { home_says = go; no_start = λ y e. true≢false (sym e) }
      where
        go : (m : Msg) (p to : ℕ) → prepares_of who m ≡ true → ProperMsg s p to m → p ≡ home s who.txn
        go (Prepare x b w a) p to e pr = pr.0 ∙ ap (λ (y : Attempt). home s y.txn) ((attempt_decides x who).0 e)
        go (Start x) p to e pr = absurd (true≢false (sym e))
        go m p to e pr = absurd (true≢false (sym e))

    by_end : ByHome (ends_of who)
    by_end = record { home_says = go; no_start = λ y e. true≢false (sym e) }
      where
        go : (m : Msg) (p to : ℕ) → ends_of who m ≡ true → ProperMsg s p to m → p ≡ home s who.txn
        go (Commit x n) p to e pr = pr ∙ ap (λ (y : Attempt). home s y.txn) ((attempt_decides x who).0 e)
        go (Abort x) p to e pr = pr ∙ ap (λ (y : Attempt). home s y.txn) ((attempt_decides x who).0 e)
        go (Start x) p to e pr = absurd (true≢false (sym e))
        go m p to e pr = absurd (true≢false (sym e))

    abbrev pub prepares_to : ℕ → ℕ
    prepares_to q = cond (eqb (length (grants_for who ms)) (length (s.accesses who.txn))) (occurs q (participants s who)) 0

    abbrev pub ends_to : ℕ → ℕ
    ends_to q = cond (refused_for who ms) (occurs q (asked_partitions s ms who)) 0 + cond (all_voted (votes_for who ms) (participants s who)) (occurs q (participants s who)) 0

    -- a Prepare was said to all participants
    pub prepared_got : prepared s H who ≡ true → (q : ℕ) × (length (grants_for who ms) ≡ length (s.accesses who.txn)) × IsIn q (participants s who)
    prepared_got e =
        let m = any_found (λ (x : Mail). prepares_of who x.msg) (all_mails s H) e in
        let i = said_home (prepares_of who) by_prepare m.0 m.1 m.2 in
        let n : 1 ≤ prepares_to m.0.to = subst (λ k. 1 ≤ k) (prepares_said s (home s who.txn) who m.0.to ms (g.fit (home s who.txn))) (count_in (sent_to m.0.to (is_prepare who)) m.0 (all_said (says s) (home s who.txn) ms) i (and_true (is_prepare who m.0.msg) (eqb m.0.to m.0.to) m.2 (eqb_self m.0.to))) in
        let a = all_granted s v H flight g who m.0.to n in
        (m.0.to, a.0, a.1)

    pub unprepared : prepared s H who ≡ false → (q : ℕ) → 1 ≤ prepares_to q → ⊥
    unprepared e q h =
        let m = in_counted (sent_to q (is_prepare who)) (all_said (says s) (home s who.txn) ms) (subst (λ k. 1 ≤ k) (sym (prepares_said s (home s who.txn) who q ms (g.fit (home s who.txn)))) h) in
        true≢false (sym (any_at (λ (x : Mail). prepares_of who x.msg) m.0 (all_mails s H) (of_home who.txn m.0 m.1) (and_parts (is_prepare who m.0.msg) (eqb m.0.to q) m.2).0) ∙ e)

    end_count : (m : Mail) → IsIn m (all_mails s H) → ends_of who m.msg ≡ true → 1 ≤ ends_to m.to
    end_count m i e =
        subst (λ k. 1 ≤ k) (ends_said s (home s who.txn) who m.to ms (g.fit (home s who.txn)))
        (count_in (sent_to m.to (is_end who)) m (all_said (says s) (home s who.txn) ms) (said_home (ends_of who) by_end m i e) (and_true (is_end who m.msg) (eqb m.to m.to) e (eqb_self m.to)))

    pub ending_to : ending s H who ≡ true → (q : ℕ) × (1 ≤ ends_to q)
    ending_to e = let m = any_found (λ (x : Mail). ends_of who x.msg) (all_mails s H) e in (m.0.to, end_count m.0 m.1 m.2)

    pub end_mail : (q : ℕ) → 1 ≤ ends_to q → (m : Mail) × IsIn m (all_mails s H) × (ends_of who m.msg ≡ true) × (m.to ≡ q)
    end_mail q h =
        let m = in_counted (sent_to q (is_end who)) (all_said (says s) (home s who.txn) ms) (subst (λ k. 1 ≤ k) (sym (ends_said s (home s who.txn) who q ms (g.fit (home s who.txn)))) h) in
        let b = and_parts (is_end who m.0.msg) (eqb m.0.to q) m.2 in
        (m.0, of_home who.txn m.0 m.1, b.0, eqb_is m.0.to q b.1)

    pub to_ending : (q : ℕ) → 1 ≤ ends_to q → ending s H who ≡ true
    to_ending q h = let m = end_mail q h in any_at (λ (x : Mail). ends_of who x.msg) m.0 (all_mails s H) m.1 m.2

    pub told_once : (q : ℕ) → IsIn q (said_to s H (ends_of who)) → ends_to q ≡ 1
    told_once q i =
        let f = filter_in (λ r. list_any (λ (x : Mail). ends_of who x.msg && eqb x.to r) (all_mails s H)) q (numbers_below s.parts) i in
        let m = any_found (λ (x : Mail). ends_of who x.msg && eqb x.to q) (all_mails s H) f.1 in
        let b = and_parts (ends_of who m.0.msg) (eqb m.0.to q) m.2 in
        omega (arith, subst (λ r. 1 ≤ ends_to r) (eqb_is m.0.to q b.1) (end_count m.0 m.1 b.0), ends_once s v H flight g who q)

    pub told_there : (q : ℕ) → 1 ≤ ends_to q → IsIn q (said_to s H (ends_of who))
    told_there q h =
        let m = end_mail q h in
        in_filter (λ r. list_any (λ (x : Mail). ends_of who x.msg && eqb x.to r) (all_mails s H)) q (numbers_below s.parts) (in_below q s.parts below)
        (any_at (λ (x : Mail). ends_of who x.msg && eqb x.to q) m.0 (all_mails s H) m.1 (and_true (ends_of who m.0.msg) (eqb m.0.to q) m.2 (subst (λ r. eqb m.0.to r ≡ true) m.3 (eqb_self m.0.to))))
      where
        of_part : (as' : List Rattle.deneva_base.specs.declared.keys.Access.Access) → 1 ≤ occurs q (partitions_of s.parts as') → q < s.parts
        of_part as' k = let a = parts_from s.parts q as' (occurs_in q (partitions_of s.parts as') k) in subst (λ r. r < s.parts) a.2 (part_below a.0.key s.parts v.parts)

        below : q < s.parts
        below = go (refused_for who ms) refl (all_voted (votes_for who ms) (participants s who)) refl
          where
            go : (a : Bool) → refused_for who ms ≡ a → (b : Bool) → all_voted (votes_for who ms) (participants s who) ≡ b → q < s.parts
            go true ea b eb = ⊎_elim (λ k. of_part (take_first (suc (length (grants_for who ms))) (s.accesses who.txn)) k) (λ k. of_part (s.accesses who.txn) k) (split b (subst₂ (λ x y. 1 ≤ cond x (occurs q (asked_partitions s ms who)) 0 + cond y (occurs q (participants s who)) 0) ea eb h))
              where
                split : (b : Bool) → 1 ≤ occurs q (asked_partitions s ms who) + cond b (occurs q (participants s who)) 0 → (1 ≤ occurs q (asked_partitions s ms who)) ⊎ (1 ≤ occurs q (participants s who))
                split true k = grind (arith, k)
                split false k = inl (omega (arith, k))
            go false ea true eb = let h' : 1 ≤ 0 + occurs q (participants s who) = subst₂ (λ x y. 1 ≤ cond x (occurs q (asked_partitions s ms who)) 0 + cond y (occurs q (participants s who)) 0) ea eb h in of_part (s.accesses who.txn) (omega (arith, h'))
            go false ea false eb = let h' : 1 ≤ 0 + 0 = subst₂ (λ x y. 1 ≤ cond x (occurs q (asked_partitions s ms who)) 0 + cond y (occurs q (participants s who)) 0) ea eb h in absurd (omega (arith, h'))
