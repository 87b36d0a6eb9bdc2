-- A node with a transaction that is not begun has as many open ones as the limit says.
use Rattle.std.proofs.Common.{◌≡◌, ◌⊎◌, ℕ, zero, suc, ◌+◌, ◌<◌, ◌≤◌, List, [], ◌∷◌, length, filter, slice_get, Bool, true, false, cond, not, ◌&&◌, eqb, refl, sym, ap, ◌∙◌, subst, inl, inr, ⊎_elim, arith, Some, true≢false}
use Rattle.std.proofs.lemmas.Bool.Decides.{nat_tests, eqb_tells}
use Rattle.deneva_base.specs.declared.numbers.TxnId.{TxnId}
use Rattle.deneva_base.specs.declared.numbers.Attempt.{Attempt}
use Rattle.deneva_base.specs.Lists.{IsIn}
use Rattle.deneva_base.specs.Keys.{attempt_eq}
use Rattle.deneva_base.proofs.Membership.{in_map, filter_in, in_filter, and_parts, and_true, attempt_tells}
use Rattle.server_core.specs.declared.messages.Msg.{Msg}
use Rattle.server_core.specs.declared.messages.Msg.TheVariants.{Start}
use Rattle.server_core.specs.declared.messages.Mail.{Mail}
use Rattle.server_core.specs.declared.messages.Entry.{Entry}
use Rattle.server_core.specs.Setting.{Setting, home, homes, take_first}
use Rattle.txn_program.specs.Transactions.{numbers_below}
use Rattle.server_core.specs.Received.{started_for}
use Rattle.server_core.specs.Coordinator.{overs}
use Rattle.server_core.specs.Voting.{says, opening, first_starts}
use Rattle.server_core.specs.VotingFits.{AllFit}
use Rattle.server_core.specs.Proper.{Valid, ids_in}
use Rattle.server_core.specs.Runs.{heard}
use Rattle.server_core.specs.Counts.{all_said, count, count_msgs}
use Rattle.server_core.specs.Limits.{sum_of}
use Rattle.server_core.specs.AttemptEnds.{attempt}
use Rattle.server_core.specs.RunAccount.{is_over}
use Rattle.voting_laws.proofs.account.Words.{is_begun, open_at}
use Rattle.server_core.proofs.counts.Conserved.{count_in}
use Rattle.server_core.proofs.counts.Local.{sent_to}
use Rattle.server_core.proofs.counts.Starts.{is_start, started_heard, firsts_said, started_first, ids_take}
use Rattle.server_core.proofs.values.Origins.{started_ids, aborted_started}
use Rattle.voting_laws.proofs.fits.Lands.{lands, handled_heard}
use Rattle.server_core.proofs.lists.Parts.{in_below}
use Rattle.voting_laws.proofs.fits.Account.{Good, start_looks, start_ledger, opening_first, ids_filter, started_home}
use Rattle.server_core.proofs.values.Closed.{flat_in}
use Rattle.voting_laws.proofs.numbers.Events.{pigeon, sum_under, sum_ones}
use Rattle.server_core.proofs.values.Closings.{over_ids, overs_count, next_said}
use Rattle.voting_laws.proofs.account.Quits.{opens_land}
use Rattle.voting_laws.proofs.account.Begun.{started_begun, landed, begun_cases}
use Rattle.voting_laws.proofs.account.Opens.{over_by, over_once, counted}
use Rattle.voting_laws.proofs.account.Rooms.{over_true, true_over}

fewer : (xs ys : List TxnId) → ((y : TxnId) → ids_in y xs ≤ 1) → ((x : TxnId) → IsIn x xs → IsIn x ys) → length xs ≤ length ys
fewer xs ys one into =
    omega (
      arith,
      pigeon (λ t zs. sum_of (λ x. cond (t x) 1 0) zs) (λ t. refl) (λ t x zs. refl) (λ (o x : TxnId). eqb x.0 o.0) ys xs (λ x i. (x, into x i, same x.0)),
      sum_under (λ (o : TxnId). ids_in o xs) (λ o. 1) ys (λ o i. one o),
      sum_ones ys,
    )
  where
    same : (n : ℕ) → eqb n n ≡ true
    same n = grind (arith, nat_tests)

parts_count : (b o : TxnId → Bool) (xs : List TxnId) → length (filter (λ y. b y && not (o y)) xs) + length (filter (λ y. b y && o y) xs) ≡ length (filter b xs)
parts_count b o [] = refl
parts_count b o (x ∷ xs) = go (b x) (o x) (parts_count b o xs)
  where
    go : (p q : Bool) → length (filter (λ y. b y && not (o y)) xs) + length (filter (λ y. b y && o y) xs) ≡ length (filter b xs) → length (cond (p && not q) (x ∷ filter (λ y. b y && not (o y)) xs) (filter (λ y. b y && not (o y)) xs)) + length (cond (p && q) (x ∷ filter (λ y. b y && o y) xs) (filter (λ y. b y && o y) xs)) ≡ length (cond p (x ∷ filter b xs) (filter b xs))
    go true true h = omega (arith, h)
    go true false h = omega (arith, h)
    go false q h = h

take_cases : (n : ℕ) (y : TxnId) (ys : List TxnId) → IsIn y (take_first (suc n) ys) → IsIn y (take_first n ys) ⊎ (slice_get ys n ≡ Some y)
take_cases zero y [] i = absurd i
take_cases zero y (z ∷ ys) i = ⊎_elim (λ e. inr (ap (λ w. Some w) (sym e))) (λ r. absurd r) i
take_cases (suc n) y [] i = absurd i
take_cases (suc n) y (z ∷ ys) i = ⊎_elim (λ e. inl (inl e)) (λ r. ⊎_elim (λ a. inl (inr a)) (λ b. inr b) (take_cases n y ys r)) i

taken_in : (n : ℕ) (y : TxnId) (ys : List TxnId) → IsIn y (take_first n ys) → IsIn y ys
taken_in zero y ys i = absurd i
taken_in (suc n) y [] i = absurd i
taken_in (suc n) y (z ∷ ys) i = ⊎_elim (λ e. inl e) (λ r. inr (taken_in n y ys r)) i

taken_length : (n : ℕ) (ys : List TxnId) → (length ys < n → ⊥) → length (take_first n ys) ≡ n
taken_length zero ys h = refl
taken_length (suc n) [] h = absurd (h (omega arith))
taken_length (suc n) (y ∷ ys) h = omega (arith, taken_length n ys (λ l. h (omega (arith, l))))

taken_whole : (n : ℕ) (ys : List TxnId) → length ys < n → take_first n ys ≡ ys
taken_whole zero ys h = absurd (omega (arith, h))
taken_whole (suc n) [] h = refl
taken_whole (suc n) (y ∷ ys) h = ap (λ l. y ∷ l) (taken_whole n ys (omega (arith, h)))

module _ (s : Setting) (v : Valid s) (H : List Entry) (flight : List Mail) (g : Good s H flight) (p : ℕ) (lt : p < s.parts) where
  abbrev ms : List Msg
  ms = heard p H

  abbrev mine : List TxnId
  mine = homes s p

  abbrev k : ℕ
  k = s.limit + overs s ms

  pub home_is : (y : TxnId) → IsIn y mine → home s y ≡ p
  home_is y i = is (home s y) p (filter_in (λ x. eqb (home s x) p) y s.ids i).1
    where
      is : (a b : ℕ) → eqb a b ≡ true → a ≡ b
      is a b e = grind (arith, nat_tests)

  pub begun_true : (n : ℕ) → n ≤ overs s ms → (y : TxnId) → IsIn y (take_first (s.limit + n) mine) → is_begun s H flight y ≡ true
  begun_true zero le y i =
      let j : IsIn y (take_first s.limit mine) = subst (λ c. IsIn y (take_first c mine)) (plus s.limit) i in
      let m : Mail = record { from = p; to = p; msg = Start (attempt y 1) } in
      let o : IsIn m (opening s) = flat_in (λ q. first_starts q (take_first s.limit (homes s q))) (numbers_below s.parts) p m (in_below p s.parts lt) (in_map (λ (x : TxnId). record { from = p; to = p; msg = Start (attempt x 1) }) y (take_first s.limit mine) j) in
      landed s H flight p (attempt y 1) (home_is y (taken_in s.limit y mine j)) (⊎_elim (λ f. inl f) (λ h. inr (handled_heard H m h)) (opens_land (says s) (opening s) H flight g.run m o))
    where
      plus : (n : ℕ) → n + 0 ≡ n
      plus n = omega arith
  begun_true (suc n) le y i =
      let j : IsIn y (take_first (suc (s.limit + n)) mine) = subst (λ c. IsIn y (take_first c mine)) (plus s.limit n) i in
      let m : Mail = record { from = p; to = p; msg = Start (attempt y 1) } in
      ⊎_elim
      (λ a. begun_true n (omega (arith, le)) y a)
      (λ e. landed s H flight p (attempt y 1) (home_is y (taken_in (suc (s.limit + n)) y mine j)) (⊎_elim (λ f. inl f) (λ h. inr (handled_heard H m h)) (lands (says s) (opening s) H flight g.run p m (next_said s p y n ms (omega (arith, le)) e))))
      (take_cases (s.limit + n) y mine j)
    where
      plus : (a b : ℕ) → a + suc b ≡ suc (a + b)
      plus a b = omega arith

  pub true_begun : (y : TxnId) → home s y ≡ p → is_begun s H flight y ≡ true → IsIn y (take_first k mine)
  true_begun y at e = counted s p y (take_first k mine) (omega (arith, some, ledger, firsts, first, same_limit))
    where
      who : Attempt
      who = attempt y 1

      here : AllFit s p ms
      here = g.fit p

      both : (a : Bool) (m q : ℕ) → a ≡ true → m ≡ q → (a && eqb m q) ≡ true
      both a m q e f = grind (arith, nat_tests, e, f)

      some : 1 ≤ count (sent_to p (is_start (attempt y 1))) flight + count_msgs (is_start (attempt y 1)) ms
      some =
          ⊎_elim
          (λ a. omega (arith, started_heard (attempt y 1) ms (subst (λ q. started_for (attempt y 1) (heard q H) ≡ true) at a)))
          (λ m.
          let l = start_looks s v H flight g (attempt y 1) m.0 m.1 m.2 in
          omega (arith, count_in (sent_to p (is_start (attempt y 1))) m.0 flight m.1 (both (is_start (attempt y 1) m.0.msg) m.0.to p (subst (λ z. is_start (attempt y 1) z ≡ true) (sym m.2) self) (l.0 ∙ l.1 ∙ at))))
          (begun_cases s H flight (attempt y 1) e)
        where
          self : attempt_eq (attempt y 1) (attempt y 1) ≡ true
          self = ⊎_elim (λ t. t.0) (λ f. absurd (f.1 refl)) (attempt_tells (attempt y 1) (attempt y 1))

      ledger : count (sent_to p (is_start (attempt y 1))) flight + count_msgs (is_start (attempt y 1)) ms ≡ count (sent_to p (is_start (attempt y 1))) (opening s) + count (sent_to p (is_start (attempt y 1))) (all_said (says s) p ms)
      ledger = subst (λ q. count (sent_to q (is_start (attempt y 1))) flight + count_msgs (is_start (attempt y 1)) (heard q H) ≡ count (sent_to q (is_start (attempt y 1))) (opening s) + count (sent_to q (is_start (attempt y 1))) (all_said (says s) q (heard q H))) at (start_ledger s v H flight g (attempt y 1))

      firsts : count (sent_to p (is_start (attempt y 1))) (all_said (says s) p ms) + ids_in y (take_first (s.limit + 0) mine) ≡ ids_in y (take_first k mine)
      firsts = firsts_said s p (attempt y 1) refl ms (g.fit p)

      first : count (sent_to p (is_start (attempt y 1))) (opening s) ≤ ids_in y (take_first s.limit mine)
      first = opening_first s p (attempt y 1) refl

      same_limit : ids_in y (take_first (s.limit + 0) mine) ≡ ids_in y (take_first s.limit mine)
      same_limit = ap (λ n. ids_in y (take_first n mine)) (plus s.limit)
        where
          plus : (n : ℕ) → n + 0 ≡ n
          plus n = omega arith

  pub distinct_mine : (y : TxnId) → ids_in y mine ≤ 1
  distinct_mine y = omega (arith, ids_filter y (λ x. eqb (home s x) p) s.ids, v.once y)

  -- a transaction that is over is one of the node's, and was begun
  over_mine : (y : TxnId) → IsIn y (over_ids s ms) → IsIn y mine × (is_begun s H flight y ≡ true)
  over_mine y i =
      let o = over_by s p y ms (g.fit p) i in
      let st : started_for o.who ms ≡ true = ⊎_elim (λ d. d.1.0.0.0) (λ a. aborted_started s p o.who ms (g.fit p) a.0) o.kind in
      let at : p ≡ home s o.who.txn = ⊎_elim (λ t. t.1) (λ t. absurd (true≢false (sym st ∙ started_home s p o.who ms (g.fit p) t.1))) (eqb_tells p (home s o.who.txn)) in
      let at' : home s y ≡ p = sym (at ∙ ap (home s) o.own) in
      let ids : IsIn y s.ids = subst (λ x. IsIn x s.ids) o.own (started_ids s p o.who ms (g.fit p) st) in
      let first : started_for (attempt y 1) ms ≡ true = subst (λ x. started_for (attempt x 1) ms ≡ true) o.own (started_first s p o.who.txn o.who.turn ms (g.fit p) st) in (
        in_filter (λ x. eqb (home s x) p) y s.ids ids (same (home s y) p at'),
        started_begun s H flight (attempt y 1) (subst (λ q. started_for (attempt y 1) (heard q H) ≡ true) (sym at') first),
      )
    where
      same : (a b : ℕ) → a ≡ b → eqb a b ≡ true
      same a b e = grind (arith, nat_tests, e)

  pub open_count : (x : TxnId) → IsIn x mine → is_begun s H flight x ≡ false → length (open_at s H flight p) ≡ s.limit
  open_count x i not_begun =
      omega (
        arith,
        parts_count (is_begun s H flight) (is_over s H) mine,
        fewer (filter (is_begun s H flight) mine) (take_first k mine) (λ y. omega (arith, ids_filter y (is_begun s H flight) mine, distinct_mine y)) (λ y j. let f = filter_in (is_begun s H flight) y mine j in true_begun y (home_is y f.0) f.1),
        fewer (take_first k mine) (filter (is_begun s H flight) mine) (λ y. omega (arith, ids_take y k mine, distinct_mine y)) (λ y j. in_filter (is_begun s H flight) y mine (taken_in k y mine j) (begun_true (overs s ms) (omega arith) y j)),
        taken_length k mine (λ l. true≢false (sym (begun_true (overs s ms) (omega arith) x (subst (λ z. IsIn x z) (sym (taken_whole k mine l)) i)) ∙ not_begun)),
        fewer (filter (λ y. is_begun s H flight y && is_over s H y) mine) (over_ids s ms) (λ y. omega (arith, ids_filter y (λ y. is_begun s H flight y && is_over s H y) mine, distinct_mine y)) (λ y j.
            let f = filter_in (λ y. is_begun s H flight y && is_over s H y) y mine j in
            subst (λ q. IsIn y (over_ids s (heard q H))) (home_is y f.0) (true_over s v H flight g y (and_parts (is_begun s H flight y) (is_over s H y) f.1).1)),
        fewer (over_ids s ms) (filter (λ y. is_begun s H flight y && is_over s H y) mine) (λ y. over_once s p v.attempts y ms (g.fit p)) (λ y j.
            let o = over_mine y j in
            in_filter (λ y. is_begun s H flight y && is_over s H y) y mine o.0 (and_true (is_begun s H flight y) (is_over s H y) o.1 (over_true s v H flight g y (subst (λ q. IsIn y (over_ids s (heard q H))) (sym (home_is y o.0)) j)))),
        overs_count s ms,
      )
