-- What is in flight for one attempt, by what its home and its partitions have heard.
use Rattle.std.proofs.Common.{◌≡◌, ◌≢◌, ◌⊎◌, ℕ, zero, suc, ◌+◌, ◌<◌, ◌≤◌, List, [], ◌∷◌, ◌++◌, length, filter, slice_get, Bool, true, false, cond, ◌&&◌, eqb, refl, sym, ap, ◌∙◌, subst, subst₂, inl, inr, ⊎_elim, arith, Option, Some, None, true≢false}
use Rattle.std.specs.List.{list_any, flat_map}
use Rattle.std.proofs.lemmas.Bool.Decides.{nat_tests, eqb_tells}
use Rattle.deneva_base.specs.declared.keys.Key.{Key}
use Rattle.deneva_base.specs.declared.numbers.TxnId.{TxnId}
use Rattle.deneva_base.specs.declared.numbers.Attempt.{Attempt}
use Rattle.deneva_base.specs.declared.numbers.Number.{Number}
use Rattle.deneva_base.specs.declared.keys.Mode.{Mode}
use Rattle.deneva_base.specs.Lists.{IsIn}
use Rattle.deneva_base.specs.Keys.{attempt_eq, key_eq}
use Rattle.deneva_base.specs.declared.causes.Cause.{Cause}
use Rattle.protocol_rules.specs.History.{IsUnended, closed, Grant, Yea, grants, yeas, waits}
use Rattle.deneva_base.proofs.Membership.{attempt_tells, key_tells, in_cases, any_found, attempt_decides, key_decides}
use Rattle.server_core.specs.declared.messages.Msg.{Msg}
use Rattle.server_core.specs.declared.messages.Msg.TheVariants.{Start, Ask, Granted, Refused, Yes, No, Commit, Abort, Done, Undone}
use Rattle.server_core.specs.declared.messages.Mail.{Mail}
use Rattle.server_core.specs.declared.messages.Entry.{Entry}
use Rattle.server_core.specs.Setting.{Setting, home, homes, partitions_of, take_first, rule_at, participants}
use Rattle.deneva_base.specs.declared.keys.Access.{Access}
use Rattle.server_core.specs.Received.{grants_for, votes_for, refused_for, closes_for, started_for, all_voted}
use Rattle.server_core.specs.declared.ballots.Ballot.{Ballot}
use Rattle.txn_program.specs.Transactions.{numbers_below}
use Rattle.deneva_base.specs.Partitions.{partition_of}
use Rattle.server_core.specs.Voting.{says, opening, first_starts}
use Rattle.server_core.specs.Coordinator.{asked_partitions, overs, told, first_no}
use Rattle.server_core.specs.Participant.{calls}
use Rattle.server_core.specs.VotingFits.{Suits, AllFit, IsAsking, HasAll, HasVoted, AllUndone, IsStarted, earlier_turn, Decides, IsAborted}
use Rattle.server_core.specs.Proper.{ProperMsg, Valid, keys_in, ids_in}
use Rattle.server_core.proofs.counts.Starts.{is_start, again_said, firsts_said, unstarted_unheard, started_first, ids_take}
use Rattle.server_core.specs.Runs.{heard, Reaches}
use Rattle.server_core.specs.Counts.{all_said, count}
use Rattle.server_core.proofs.counts.Conserved.{count-append, count_in, in_counted, handled}
use Rattle.server_core.proofs.counts.Local.{sent_to, count_msgs, ledger}
use Rattle.server_core.proofs.counts.Quiet.{is_ask, is_answer, is_prepare, is_vote, is_end, is_close, count_map, NoStarts}
use Rattle.server_core.proofs.counts.Prepares.{occurs, prepares_said, slice_some}
use Rattle.server_core.proofs.counts.Asks.{asks_in, asks_said, unstarted}
use Rattle.server_core.proofs.counts.Ends.{ends_said, off_if, not_all}
use Rattle.voting_laws.proofs.fits.Replies.{answers_said, votes_said, closes_said}
use Rattle.voting_laws.proofs.fits.Heard.{key_in, keys_more, closed_heard, ended_heard, Phases, phases, answers_heard, votes_heard}
use Rattle.server_core.proofs.values.Origins.{origin, proper_said, in_map, in_filtered, at_its_home}
use Rattle.server_core.proofs.values.Called.{waiting}
use Rattle.voting_laws.proofs.fits.Joins.{no_participant}
use Rattle.server_core.proofs.values.Values.{find_msg, heard_mail, refused_in, key_there, same_mode, take_all, grant_made, yea_made, done_made, is_done, Ended, ballot_msg}
use Rattle.server_core.proofs.values.Decisions.{commit_means, commit_said, abort_said}

pub closed_in : (who : Attempt) (r : ℕ) (ms : List Msg) → IsIn r (closes_for who ms) → 1 ≤ count_msgs (is_close who r) ms
closed_in who r [] i = absurd i
closed_in who r (Done x part ∷ ms) i =
    ⊎_elim
    (λ t. ⊎_elim
    (λ (is : r ≡ part). ⊎_elim (λ u. rw (t.0, u.0) (omega arith)) (λ f. absurd (f.1 (sym is))) (eqb_tells part r))
    (λ k. omega (arith, closed_in who r ms k))
    (rw t.0 at i))
    (λ t. let k : IsIn r (closes_for who ms) = rw t.0 at i in omega (arith, closed_in who r ms k))
    (attempt_tells x who)
closed_in who r (Undone x part ∷ ms) i =
    ⊎_elim
    (λ t. ⊎_elim
    (λ (is : r ≡ part). ⊎_elim (λ u. rw (t.0, u.0) (omega arith)) (λ f. absurd (f.1 (sym is))) (eqb_tells part r))
    (λ k. omega (arith, closed_in who r ms k))
    (rw t.0 at i))
    (λ t. let k : IsIn r (closes_for who ms) = rw t.0 at i in omega (arith, closed_in who r ms k))
    (attempt_tells x who)
closed_in who r (m ∷ ms) i = omega (arith, closed_in who r ms i)

pub occurs-append : (q : ℕ) (xs ys : List ℕ) → occurs q (xs ++ ys) ≡ occurs q xs + occurs q ys
occurs-append q [] ys = omega arith
occurs-append q (x ∷ xs) ys = omega (arith, occurs-append q xs ys)

pub occurs_below : (q n : ℕ) → (occurs q (numbers_below n) ≤ 1) × (n ≤ q → occurs q (numbers_below n) ≡ 0)
occurs_below q zero = (omega arith, λ h. refl)
occurs_below q (suc n) =
    let ih = occurs_below q n in
    let a = occurs-append q (numbers_below n) (n ∷ []) in
    ⊎_elim
    (λ t. let b : occurs q (numbers_below n) ≡ 0 = ih.1 (omega (arith, t.1)) in let c : occurs q (n ∷ []) ≡ 1 = rw t.0 (omega arith) in (omega (arith, a, b, c), λ h. absurd (omega (arith, t.1, h))))
    (λ t. let c : occurs q (n ∷ []) ≡ 0 = rw t.0 (omega arith) in (omega (arith, a, ih.0, c), λ h. omega (arith, a, c, ih.1 (omega (arith, h)))))
    (eqb_tells n q)

-- the opening's starts of one attempt
first_counts : (p r : ℕ) (who : Attempt) (xs : List TxnId) → who.turn ≡ 1 → count (sent_to p (is_start who)) (first_starts r xs) ≡ cond (eqb r p) (ids_in who.txn xs) 0
first_counts p r who [] first = grind arith
first_counts p r who (x ∷ xs) first = grind (arith, nat_tests, first_counts p r who xs first)

later_counts : (p r : ℕ) (who : Attempt) (xs : List TxnId) → 1 < who.turn → count (sent_to p (is_start who)) (first_starts r xs) ≡ 0
later_counts p r who xs later = count_map (sent_to p (is_start who)) (λ (x : TxnId). record { from = r; to = r; msg = Start (record { txn = x; turn = 1 }) }) xs (λ x. rw (off x))
  where
    off : (x : TxnId) → attempt_eq (record { txn = x; turn = 1 }) who ≡ false
    off x = ⊎_elim (λ t. absurd (omega (arith, later, ap (λ (y : Attempt). y.turn) t.1))) (λ t. t.0) (attempt_tells (record { txn = x; turn = 1 }) who)

opening_later : (s : Setting) (p : ℕ) (who : Attempt) → 1 < who.turn → count (sent_to p (is_start who)) (opening s) ≡ 0
opening_later s p who later = go (numbers_below s.parts)
  where
    go : (ps : List ℕ) → count (sent_to p (is_start who)) (flat_map (λ r. first_starts r (take_first s.limit (homes s r))) ps) ≡ 0
    go [] = refl
    go (r ∷ ps) = omega (arith, count-append (sent_to p (is_start who)) (first_starts r (take_first s.limit (homes s r))) (flat_map (λ r. first_starts r (take_first s.limit (homes s r))) ps), later_counts p r who (take_first s.limit (homes s r)) later, go ps)

pub opening_first : (s : Setting) (p : ℕ) (who : Attempt) → who.turn ≡ 1 → count (sent_to p (is_start who)) (opening s) ≤ ids_in who.txn (take_first s.limit (homes s p))
opening_first s p who first = (go (numbers_below s.parts)).1 (occurs_below p s.parts).0
  where
    go : (ps : List ℕ) → (occurs p ps ≡ 0 → count (sent_to p (is_start who)) (flat_map (λ r. first_starts r (take_first s.limit (homes s r))) ps) ≡ 0) × (occurs p ps ≤ 1 → count (sent_to p (is_start who)) (flat_map (λ r. first_starts r (take_first s.limit (homes s r))) ps) ≤ ids_in who.txn (take_first s.limit (homes s p)))
    go [] = ((λ e. refl), (λ e. omega arith))
    go (r ∷ ps) =
        let a = count-append (sent_to p (is_start who)) (first_starts r (take_first s.limit (homes s r))) (flat_map (λ r. first_starts r (take_first s.limit (homes s r))) ps) in
        let b = first_counts p r who (take_first s.limit (homes s r)) first in
        let ih = go ps in
        ⊎_elim
        (λ t.
        let b' : count (sent_to p (is_start who)) (first_starts r (take_first s.limit (homes s r))) ≡ ids_in who.txn (take_first s.limit (homes s p)) = b ∙ ap (λ z. cond z (ids_in who.txn (take_first s.limit (homes s r))) 0) t.0 ∙ ap (λ z. ids_in who.txn (take_first s.limit (homes s z))) t.1 in
        ((λ e. let e' : 1 + occurs p ps ≡ 0 = subst (λ z. cond z 1 0 + occurs p ps ≡ 0) t.0 e in absurd (omega arith)), (λ e. let e' : 1 + occurs p ps ≤ 1 = subst (λ z. cond z 1 0 + occurs p ps ≤ 1) t.0 e in omega (arith, a, b', ih.0 (omega arith)))))
        (λ t.
        let b' : count (sent_to p (is_start who)) (first_starts r (take_first s.limit (homes s r))) ≡ 0 = b ∙ ap (λ z. cond z (ids_in who.txn (take_first s.limit (homes s r))) 0) t.0 in
        ((λ e. let e' : 0 + occurs p ps ≡ 0 = subst (λ z. cond z 1 0 + occurs p ps ≡ 0) t.0 e in omega (arith, a, b', ih.0 (omega arith))), (λ e. let e' : 0 + occurs p ps ≤ 1 = subst (λ z. cond z 1 0 + occurs p ps ≤ 1) t.0 e in omega (arith, a, b', ih.1 (omega arith)))))
        (eqb_tells r p)

pub record Good (s : Setting) (H : List Entry) (flight : List Mail) : Type 0 where
  pub run : Reaches (says s) (opening s) H flight
  pub fit : (p : ℕ) → AllFit s p (heard p H)

-- the opening has starts alone
opening_none : (s : Setting) (q : ℕ) (t : Msg → Bool) → NoStarts t → count (sent_to q t) (opening s) ≡ 0
opening_none s q t n = go (numbers_below s.parts)
  where
    go : (ps : List ℕ) → count (sent_to q t) (flat_map (λ p. first_starts p (take_first s.limit (homes s p))) ps) ≡ 0
    go [] = refl
    go (p ∷ ps) =
        omega (
          arith,
          count-append (sent_to q t) (first_starts p (take_first s.limit (homes s p))) (flat_map (λ p. first_starts p (take_first s.limit (homes s p))) ps),
          count_map (sent_to q t) (λ (x : TxnId). record { from = p; to = p; msg = Start (record { txn = x; turn = 1 }) }) (take_first s.limit (homes s p)) (λ x. rw (n.start (record { txn = x; turn = 1 }))),
          go ps,
        )

pub in_openings : (s : Setting) (x : Mail) (ps : List ℕ) → IsIn x (flat_map (λ p. first_starts p (take_first s.limit (homes s p))) ps) → (y : Attempt) × (x.msg ≡ Start y)
in_openings s x [] i = absurd i
in_openings s x (p ∷ ps) i =
    ⊎_elim
    (λ a. let n = in_map (λ (z : TxnId). record { from = p; to = p; msg = Start (record { txn = z; turn = 1 }) }) x (take_first s.limit (homes s p)) a in (record { txn = n.0; turn = 1 }, ap (λ (z : Mail). z.msg) n.2))
    (λ b. in_openings s x ps b)
    (in_cases x (first_starts p (take_first s.limit (homes s p))) (flat_map (λ p. first_starts p (take_first s.limit (homes s p))) ps) i)

pub started_home : (s : Setting) (r : ℕ) (who : Attempt) (ms : List Msg) → AllFit s r ms → r ≢ home s who.txn → started_for who ms ≡ false
started_home s r who [] fit ne = refl
started_home s r who (Start x ∷ ms) fit ne =
    ⊎_elim
    (λ t. absurd (ne (fit.0.1.1 ∙ ap (λ y. home s y.txn) t.1)))
    (λ t. rw t.0 (started_home s r who ms fit.1 ne))
    (attempt_tells x who)
started_home s r who (Ask x st k m ∷ ms) fit ne = started_home s r who ms fit.1 ne
started_home s r who (m ∷ ms) fit ne = started_home s r who ms fit.1 ne

pub refused_started : (s : Setting) (r : ℕ) (who : Attempt) (ms : List Msg) → AllFit s r ms → refused_for who ms ≡ true → started_for who ms ≡ true
refused_started s r who [] fit e = absurd (true≢false (sym e))
refused_started s r who (Refused x k c ∷ ms) fit e =
    ⊎_elim
    (λ t. subst (λ y. started_for y ms ≡ true) t.1 fit.0.1.2.1.0)
    (λ t. refused_started s r who ms fit.1 (rw t.0 at e))
    (attempt_tells x who)
refused_started s r who (Start x ∷ ms) fit e = let h : started_for who ms ≡ true = refused_started s r who ms fit.1 e in grind (arith, h)
refused_started s r who (m ∷ ms) fit e = refused_started s r who ms fit.1 e

asks_home : (s : Setting) (r : ℕ) (who : Attempt) (key : Key) (ms : List Msg) → AllFit s r ms → r ≢ partition_of key s.parts → count_msgs (is_ask who key) ms ≡ 0
asks_home s r who key [] fit ne = refl
asks_home s r who key (Ask x st k m ∷ ms) fit ne =
    ⊎_elim
    (λ t. absurd (ne (sym fit.0.1.1 ∙ ap (λ y. partition_of y s.parts) t.1)))
    (λ t. let ih = asks_home s r who key ms fit.1 ne in grind (arith, ih, t.0))
    (key_tells k key)
asks_home s r who key (m ∷ ms) fit ne = omega (arith, asks_home s r who key ms fit.1 ne)

-- the asks for a key, at its partition
pub asks_keys : (parts : ℕ) (key : Key) (as' : List Access) → asks_in parts (partition_of key parts) key as' ≡ keys_in key as'
asks_keys parts key [] = refl
asks_keys parts key (a ∷ as') =
    let ih = asks_keys parts key as' in
    ⊎_elim
    (λ t. let e : eqb (partition_of a.key parts) (partition_of key parts) ≡ true = subst (λ (k : Key). eqb (partition_of a.key parts) (partition_of k parts) ≡ true) t.1 (same (partition_of a.key parts)) in rw (t.0, e) (omega (arith, ih)))
    (λ t. rw t.0 (omega (arith, ih)))
    (key_tells a.key key)
  where
    same : (n : ℕ) → eqb n n ≡ true
    same n = grind (arith, nat_tests)

pub keys_take : (key : Key) (n : ℕ) (as' : List Access) → keys_in key (take_first n as') ≤ keys_in key as'
keys_take key zero as' = omega arith
keys_take key (suc n) [] = omega arith
keys_take key (suc n) (a ∷ as') = omega (arith, keys_take key n as')

pub occurs_filter : (q : ℕ) (p : ℕ → Bool) (xs : List ℕ) → occurs q (filter p xs) ≤ occurs q xs
occurs_filter q p [] = omega arith
occurs_filter q p (x ∷ xs) = grind (arith, occurs_filter q p xs)

pub once : (q parts : ℕ) (as' : List Access) → occurs q (partitions_of parts as') ≤ 1
once q parts as' = omega (arith, occurs_filter q (λ p. list_any (λ (a : Access). eqb (partition_of a.key parts) p) as') (numbers_below parts), (occurs_below q parts).0)

pub ids_filter : (x : TxnId) (p : TxnId → Bool) (ys : List TxnId) → ids_in x (filter p ys) ≤ ids_in x ys
ids_filter x p [] = omega arith
ids_filter x p (y ∷ ys) = grind (arith, ids_filter x p ys)

pub occurs_in : (q : ℕ) (xs : List ℕ) → 1 ≤ occurs q xs → IsIn q xs
occurs_in q [] h = absurd (omega arith)
occurs_in q (x ∷ xs) h = ⊎_elim (λ t. inl (sym t.1)) (λ t. let h' : 1 ≤ 0 + occurs q xs = rw t.0 at h in inr (occurs_in q xs (omega arith))) (eqb_tells x q)

pub voted_in : (bs : List Ballot) (qs : List ℕ) (q : ℕ) → all_voted bs qs ≡ true → IsIn q qs → list_any (λ (b : Ballot). eqb b.part q) bs ≡ true
voted_in bs qs q e i = go (list_any (λ (b : Ballot). eqb b.part q) bs) refl
  where
    go : (b : Bool) → list_any (λ (b' : Ballot). eqb b'.part q) bs ≡ b → b ≡ true
    go true f = refl
    go false f = absurd (true≢false (sym e ∙ not_all bs qs q i f))

pub none_voted : (bs : List Ballot) (q : ℕ) (qs : List ℕ) → ((r : ℕ) → list_any (λ (b : Ballot). eqb b.part r) bs ≡ true → ⊥) → cond (all_voted bs qs) (occurs q qs) 0 ≡ 0
none_voted bs q [] no' = grind arith
none_voted bs q (x ∷ qs) no' = let e : list_any (λ (b : Ballot). eqb b.part x) bs ≡ false = off_if (list_any (λ (b : Ballot). eqb b.part x) bs) (no' x) in rw e

module _ (s : Setting) (v : Valid s) (H : List Entry) (flight : List Mail) (g : Good s H flight) (who : Attempt) where
  abbrev pub at_home : List Msg
  at_home = heard (home s who.txn) H

  abbrev pub got : ℕ
  got = length (grants_for who at_home)

  abbrev pub all : List Access
  all = s.accesses who.txn

  pub fit_home : AllFit s (home s who.txn) at_home
  fit_home = g.fit (home s who.txn)

  -- elsewhere nothing was granted
  pub elsewhere : (r : ℕ) → r ≢ home s who.txn → (started_for who (heard r H) ≡ false) × (grants_for who (heard r H) ≡ [])
  elsewhere r ne = let e = started_home s r who (heard r H) (g.fit r) ne in (e, unstarted s r who (heard r H) (g.fit r) e)

  pub ask_ledger : (key : Key) → count (sent_to (partition_of key s.parts) (is_ask who key)) flight + count_msgs (is_ask who key) (heard (partition_of key s.parts) H) ≡ cond (started_for who at_home) (keys_in key (take_first (suc got) all)) 0
  ask_ledger key =
      let q = partition_of key s.parts in
      let l = ledger (says s) (opening s) (is_ask who key) (home s who.txn) q H flight g.run
      (λ r ne. asks_said s r who key q (heard r H) (g.fit r) ∙ ap (λ b. cond b (asks_in s.parts q key (take_first (suc (length (grants_for who (heard r H)))) all)) 0) (elsewhere r ne).0) in
      omega (arith, l, opening_none s q (is_ask who key) (record { start = λ x. refl }), asks_said s (home s who.txn) who key q at_home fit_home ∙ ap (λ n. cond (started_for who at_home) n 0) (asks_keys s.parts key (take_first (suc got) all)))

  pub prepare_ledger : (q : ℕ) → count (sent_to q (is_prepare who)) flight + count_msgs (is_prepare who) (heard q H) ≡ cond (eqb got (length all)) (occurs q (participants s who)) 0
  prepare_ledger q =
      let l = ledger (says s) (opening s) (is_prepare who) (home s who.txn) q H flight g.run
      (λ r ne. prepares_said s r who q (heard r H) (g.fit r) ∙ ap (λ n. cond (eqb (length n) (length all)) (occurs q (participants s who)) 0) (elsewhere r ne).1 ∙ none_of all) in
      omega (arith, l, opening_none s q (is_prepare who) (record { start = λ x. refl }), prepares_said s (home s who.txn) who q at_home fit_home)
    where
      none_of : (as' : List Access) → cond (eqb 0 (length as')) (occurs q (partitions_of s.parts as')) 0 ≡ 0
      none_of [] = none_in (occurs q (partitions_of s.parts [])) (λ h. no_participant s.parts q (occurs_in q (partitions_of s.parts []) h))
        where
          none_in : (n : ℕ) → (1 ≤ n → ⊥) → n ≡ 0
          none_in n h = grind (arith, h)
      none_of (a ∷ as') = grind (arith, nat_tests)

  pub end_ledger : (q : ℕ) → count (sent_to q (is_end who)) flight + count_msgs (is_end who) (heard q H) ≡ cond (refused_for who at_home) (occurs q (asked_partitions s at_home who)) 0 + cond (all_voted (votes_for who at_home) (participants s who)) (occurs q (participants s who)) 0
  end_ledger q =
      let l = ledger (says s) (opening s) (is_end who) (home s who.txn) q H flight g.run
      (λ r ne.
      let e = (elsewhere r ne).0 in
      let a : refused_for who (heard r H) ≡ false = off_if (refused_for who (heard r H)) (λ x. true≢false (sym (refused_started s r who (heard r H) (g.fit r) x) ∙ e)) in
      let b = none_voted (votes_for who (heard r H)) q (participants s who) (λ x y. true≢false (sym ((phases s r who (heard r H) (g.fit r)).voted x y).0.0 ∙ e)) in
      omega (arith, ends_said s r who q (heard r H) (g.fit r), b, ap (λ x. cond x (occurs q (asked_partitions s (heard r H) who)) 0) a)) in
      omega (arith, l, opening_none s q (is_end who) (record { start = λ x. refl }), ends_said s (home s who.txn) who q at_home fit_home)

  abbrev pub waiting_at : Key → ℕ
  waiting_at key = waiting who key (waits (calls s (partition_of key s.parts) (heard (partition_of key s.parts) H)))

  pub answer_ledger : (key : Key) → count (sent_to (home s who.txn) (is_answer who key)) flight + count_msgs (is_answer who key) at_home + waiting_at key ≡ count_msgs (is_ask who key) (heard (partition_of key s.parts) H)
  answer_ledger key =
      let l = ledger (says s) (opening s) (is_answer who key) (partition_of key s.parts) (home s who.txn) H flight g.run
      (λ r ne. omega (arith, answers_said s v r who key (heard r H) (g.fit r), asks_home s r who key (heard r H) (g.fit r) ne)) in
      omega (arith, l, opening_none s (home s who.txn) (is_answer who key) (record { start = λ x. refl }), answers_said s v (partition_of key s.parts) who key (heard (partition_of key s.parts) H) (g.fit (partition_of key s.parts)))

  pub vote_ledger : (r : ℕ) → count (sent_to (home s who.txn) (is_vote who r)) flight + count_msgs (is_vote who r) at_home ≡ count_msgs (is_prepare who) (heard r H)
  vote_ledger r =
      let l = ledger (says s) (opening s) (is_vote who r) r (home s who.txn) H flight g.run (λ x ne. votes_said s v x who r (heard x H) ∙ other x ne) in
      omega (arith, l, opening_none s (home s who.txn) (is_vote who r) (record { start = λ x. refl }), votes_said s v r who r (heard r H) ∙ own r)
    where
      other : (x : ℕ) → x ≢ r → cond (eqb x r) (count_msgs (is_prepare who) (heard x H)) 0 ≡ 0
      other x ne = grind (arith, nat_tests)

      own : (x : ℕ) → cond (eqb x x) (count_msgs (is_prepare who) (heard x H)) 0 ≡ count_msgs (is_prepare who) (heard x H)
      own x = grind (arith, nat_tests)

  pub close_ledger : (r : ℕ) → count (sent_to (home s who.txn) (is_close who r)) flight + count_msgs (is_close who r) at_home ≡ count_msgs (is_end who) (heard r H)
  close_ledger r =
      let l = ledger (says s) (opening s) (is_close who r) r (home s who.txn) H flight g.run (λ x ne. closes_said s v x who r (heard x H) ∙ other x ne) in
      omega (arith, l, opening_none s (home s who.txn) (is_close who r) (record { start = λ x. refl }), closes_said s v r who r (heard r H) ∙ own r)
    where
      other : (x : ℕ) → x ≢ r → cond (eqb x r) (count_msgs (is_end who) (heard x H)) 0 ≡ 0
      other x ne = grind (arith, nat_tests)

      own : (x : ℕ) → cond (eqb x x) (count_msgs (is_end who) (heard x H)) 0 ≡ count_msgs (is_end who) (heard x H)
      own x = grind (arith, nat_tests)

  pub phase : Phases s (home s who.txn) who at_home
  phase = phases s (home s who.txn) who at_home fit_home

  -- the three that exclude each other
  pub asking_is_early : (key : Key) → 1 ≤ key_in key (slice_get all got) → got < length all
  asking_is_early key h = go (slice_get all got) refl h
    where
      go : (o : Option Access) → slice_get all got ≡ o → 1 ≤ key_in key o → got < length all
      go None e k = absurd (omega arith)
      go (Some a) e k = slice_some all got a e

  pub no_vote_yet : got < length all → (q : ℕ) → cond (all_voted (votes_for who at_home) (participants s who)) (occurs q (participants s who)) 0 ≡ 0
  no_vote_yet lt q = none_voted (votes_for who at_home) q (participants s who) (λ r h. omega (arith, (phase.voted r h).0.2))

  pub no_prepare_yet : got < length all → (q : ℕ) → cond (eqb got (length all)) (occurs q (participants s who)) 0 ≡ 0
  no_prepare_yet lt q = grind (arith, nat_tests)

  -- an answer that is awaited
  pub record Awaited (key : Key) : Type 0 where
    pub started : started_for who at_home ≡ true
    pub unrefused : refused_for who at_home ≡ false
    pub here : 1 ≤ key_in key (slice_get all got)
    pub early : got < length all

  pub awaited : (key : Key) → 1 ≤ cond (started_for who at_home) (keys_in key (take_first (suc got) all)) 0 → count_msgs (is_answer who key) at_home ≡ 0 → Awaited key
  awaited key said none = go (started_for who at_home) refl said
    where
      ans : 0 ≡ keys_in key (take_first got all) + cond (refused_for who at_home) (key_in key (slice_get all got)) 0
      ans = sym none ∙ answers_heard s (home s who.txn) who key at_home fit_home

      more : keys_in key (take_first (suc got) all) ≡ keys_in key (take_first got all) + key_in key (slice_get all got)
      more = keys_more key got all

      off : (b : Bool) → refused_for who at_home ≡ b → 1 ≤ keys_in key (take_first (suc got) all) → b ≡ false
      off false e h = refl
      off true e h = let ans' : 0 ≡ keys_in key (take_first got all) + key_in key (slice_get all got) = ans ∙ ap (λ x. keys_in key (take_first got all) + cond x (key_in key (slice_get all got)) 0) e in absurd (omega (arith, ans', more))

      go : (b : Bool) → started_for who at_home ≡ b → 1 ≤ cond b (keys_in key (take_first (suc got) all)) 0 → Awaited key
      go false e h = absurd (omega arith)
      go true e h =
          let k : 1 ≤ key_in key (slice_get all got) = omega (arith, ans, more) in
          record { started = e; unrefused = off (refused_for who at_home) refl h; here = k; early = asking_is_early key k }

  pub itself : attempt_eq who who ≡ true
  itself = ⊎_elim (λ t. t.0) (λ f. absurd (f.1 refl)) (attempt_tells who who)

  pub key_itself : (key : Key) → key_eq key key ≡ true
  key_itself key = ⊎_elim (λ t. t.0) (λ f. absurd (f.1 refl)) (key_tells key key)

  pub flies : (t : Msg → Bool) (q : ℕ) (x : Mail) (m : Msg) → IsIn x flight → x.msg ≡ m → x.to ≡ q → t m ≡ true → 1 ≤ count (sent_to q t) flight
  flies t q x m i e f h = count_in (sent_to q t) x flight i (subst₂ (λ y z. (t y && eqb z q) ≡ true) (sym e) (sym f) (true_and (t m) (same q) h))
    where
      same : (n : ℕ) → eqb n n ≡ true
      same n = grind (arith, nat_tests)

      true_and : (a : Bool) {b : Bool} → b ≡ true → a ≡ true → (a && b) ≡ true
      true_and a e f = grind (arith, e, f)

  -- what a mail in flight looks like
  pub looks : (x : Mail) (m : Msg) → IsIn x flight → x.msg ≡ m → ((y : Attempt) → m ≡ Start y → ⊥) → (x.from ≡ x.from) × ProperMsg s x.from x.to m
  looks x m i e not_start =
      ⊎_elim
      (λ o. let st = starts_only x o in absurd (not_start st.0 (sym e ∙ st.1)))
      (λ f. let pr = proper_said s v f.0 (heard f.0 H) (g.fit f.0) x f.1 in (refl, subst₂ (λ p y. ProperMsg s p x.to y) (sym pr.0) e pr.1))
      (origin (says s) (opening s) H flight g.run x (inl i))
    where
      starts_only : (x : Mail) → IsIn x (opening s) → (y : Attempt) × (x.msg ≡ Start y)
      starts_only x i = in_openings s x (numbers_below s.parts) i

  pub may_call : (q : ℕ) → count_msgs (is_end who) (heard q H) ≡ 0 → IsUnended (calls s q (heard q H)) who
  may_call q none i = omega (arith, ended_heard (rule_at s q) who (heard q H) i)

  pub may_open : (q : ℕ) → count_msgs (is_prepare who) (heard q H) ≡ 0 → IsIn who (closed (calls s q (heard q H))) → ⊥
  may_open q none i = omega (arith, closed_heard (rule_at s q) who (heard q H) i)

  pub no_end_yet : (q : ℕ) → refused_for who at_home ≡ false → got < length all → count_msgs (is_end who) (heard q H) ≡ 0
  no_end_yet q r lt = omega (arith, end_ledger q, ap (λ b. cond b (occurs q (asked_partitions s at_home who)) 0) r, no_vote_yet lt q)

  pub at_most_one : (key : Key) → cond (started_for who at_home) (keys_in key (take_first (suc got) all)) 0 ≤ 1
  at_most_one key = bound (started_for who at_home)
    where
      bound : (b : Bool) → cond b (keys_in key (take_first (suc got) all)) 0 ≤ 1
      bound true = omega (arith, keys_take key (suc got) all, v.keys who.txn key)
      bound false = omega arith

  pub asking : (key : Key) → Awaited key → (mode : Mode) × IsAsking s at_home who key mode
  asking key a = go (slice_get all got) refl a.here
    where
      go : (o : Option Access) → slice_get all got ≡ o → 1 ≤ key_in key o → (mode : Mode) × IsAsking s at_home who key mode
      go None f h = absurd (omega arith)
      go (Some b) f h =
          ⊎_elim
          (λ t. (b.mode, (a.started, a.unrefused, f ∙ ap (λ (k : Key). Some (record { key = k; mode = b.mode })) t.1)))
          (λ t. let h' : 1 ≤ 0 = rw t.0 at h in absurd (omega arith))
          (key_tells b.key key)

  pub answer_awaited : (key : Key) → 1 ≤ count (sent_to (home s who.txn) (is_answer who key)) flight → Awaited key
  answer_awaited key one = awaited key (omega (arith, one, answer_ledger key, ask_ledger key)) (omega (arith, one, answer_ledger key, ask_ledger key, at_most_one key))

  pub refused_fits : (x : Mail) (key : Key) (cause : Cause) → IsIn x flight → x.msg ≡ Refused who key cause → Suits s x.to x.from (Refused who key cause) (heard x.to H)
  refused_fits x key cause i e =
      let pr = (looks x (Refused who key cause) i e (λ y f. absurd (cc (f)))).1 in
      let one : 1 ≤ count (sent_to (home s who.txn) (is_answer who key)) flight = flies (is_answer who key) (home s who.txn) x (Refused who key cause) i e pr.0 (rw (itself, key_itself key)) in
      subst (λ z. Suits s z x.from (Refused who key cause) (heard z H)) (sym pr.0) (refl, sym pr.1, asking key (answer_awaited key one))

  pub started_with : 1 ≤ got → started_for who at_home ≡ true
  started_with h = go (started_for who at_home) refl
    where
      go : (b : Bool) → started_for who at_home ≡ b → b ≡ true
      go true e = refl
      go false e = absurd (omega (arith, ap length (unstarted s (home s who.txn) who at_home fit_home e), h))

  pub unrefused_with : got ≡ length all → refused_for who at_home ≡ false
  unrefused_with h = off_if (refused_for who at_home) (λ e. let a = phase.refused e in omega (arith, slice_some all got a.0 a.1, h))

  -- a Prepare was said
  pub all_granted : (q : ℕ) → 1 ≤ cond (eqb got (length all)) (occurs q (participants s who)) 0 → (got ≡ length all) × IsIn q (participants s who)
  all_granted q h =
      ⊎_elim
      (λ t. (t.1, occurs_in q (participants s who) (rw t.0 at h)))
      (λ t. let h' : 1 ≤ 0 = rw t.0 at h in absurd (omega arith))
      (eqb_tells got (length all))

  pub prepares_once : (q : ℕ) → cond (eqb got (length all)) (occurs q (participants s who)) 0 ≤ 1
  prepares_once q = go (eqb got (length all))
    where
      go : (b : Bool) → cond b (occurs q (participants s who)) 0 ≤ 1
      go true = once q s.parts all
      go false = omega arith

  some_of : (q : ℕ) → IsIn q (participants s who) → 1 ≤ length all
  some_of q i = go all refl i
    where
      go : (as' : List Access) → all ≡ as' → IsIn q (partitions_of s.parts as') → 1 ≤ length as'
      go [] e j = absurd (no_participant s.parts q j)
      go (a ∷ as') e j = omega arith

  pub has_all : (q : ℕ) → IsIn q (participants s who) → got ≡ length all → HasAll s at_home who
  has_all q i h = (started_with (omega (arith, h, some_of q i)), unrefused_with h, h)

  unvoted : (r : ℕ) → count_msgs (is_vote who r) at_home ≡ 0 → HasVoted at_home who r → ⊥
  unvoted r none h = omega (arith, none, votes_heard s (home s who.txn) who r at_home fit_home ∙ ap (λ b. cond b 1 0) h)

  vote_in : (part : ℕ) → 1 ≤ count (sent_to (home s who.txn) (is_vote who part)) flight → IsIn part (participants s who) × HasAll s at_home who × (HasVoted at_home who part → ⊥)
  vote_in part one =
      let a = all_granted part (omega (arith, one, vote_ledger part, prepare_ledger part)) in
      (a.1, has_all part a.1 a.0, unvoted part (omega (arith, one, vote_ledger part, prepare_ledger part, prepares_once part)))

  pub yes_fits : (x : Mail) (part lo hi : ℕ) → IsIn x flight → x.msg ≡ Yes who part lo hi → Suits s x.to x.from (Yes who part lo hi) (heard x.to H)
  yes_fits x part lo hi i e =
      let pr = (looks x (Yes who part lo hi) i e (λ y f. absurd (cc (f)))).1 in
      let f = vote_in part (flies (is_vote who part) (home s who.txn) x (Yes who part lo hi) i e pr.0 (rw itself (part_itself part))) in
      subst (λ z. Suits s z x.from (Yes who part lo hi) (heard z H)) (sym pr.0) (refl, sym pr.1, f.0, f.1, f.2)
    where
      part_itself : (n : ℕ) → eqb n n ≡ true
      part_itself n = grind (arith, nat_tests)

  pub no_fits : (x : Mail) (part : ℕ) (c : Cause) → IsIn x flight → x.msg ≡ No who part c → Suits s x.to x.from (No who part c) (heard x.to H)
  no_fits x part c i e =
      let pr = (looks x (No who part c) i e (λ y f. absurd (cc (f)))).1 in
      let f = vote_in part (flies (is_vote who part) (home s who.txn) x (No who part c) i e pr.0 (rw itself (part_itself part))) in
      subst (λ z. Suits s z x.from (No who part c) (heard z H)) (sym pr.0) (refl, sym pr.1, f.0, f.1, f.2)
    where
      part_itself : (n : ℕ) → eqb n n ≡ true
      part_itself n = grind (arith, nat_tests)

  -- the end of an attempt is said once
  pub ends_once : (q : ℕ) → cond (refused_for who at_home) (occurs q (asked_partitions s at_home who)) 0 + cond (all_voted (votes_for who at_home) (participants s who)) (occurs q (participants s who)) 0 ≤ 1
  ends_once q = go (refused_for who at_home) refl
    where
      second : (b : Bool) → cond b (occurs q (participants s who)) 0 ≤ 1
      second true = once q s.parts all
      second false = omega arith

      go : (b : Bool) → refused_for who at_home ≡ b → cond b (occurs q (asked_partitions s at_home who)) 0 + cond (all_voted (votes_for who at_home) (participants s who)) (occurs q (participants s who)) 0 ≤ 1
      go false e = omega (arith, second (all_voted (votes_for who at_home) (participants s who)))
      go true e =
          let a = phase.refused e in
          omega (arith, once q s.parts (take_first (suc got) all), no_vote_yet (slice_some all got a.0 a.1) q)

  pub ended_now : (q : ℕ) → 1 ≤ count (sent_to q (is_end who)) flight → IsUnended (calls s q (heard q H)) who
  ended_now q one = may_call q (omega (arith, one, end_ledger q, ends_once q))

  -- a participant that is to prepare has neither prepared nor ended
  pub prepare_now : (q : ℕ) → 1 ≤ count (sent_to q (is_prepare who)) flight → IsUnended (calls s q (heard q H)) who × (IsIn who (closed (calls s q (heard q H))) → ⊥) × (got ≡ length all) × (refused_for who at_home ≡ false)
  prepare_now q one =
      let a = all_granted q (omega (arith, one, prepare_ledger q)) in
      let none : count_msgs (is_prepare who) (heard q H) ≡ 0 = omega (arith, one, prepare_ledger q, prepares_once q) in
      let un = unrefused_with a.0 in
      let off : all_voted (votes_for who at_home) (participants s who) ≡ false
      = off_if (all_voted (votes_for who at_home) (participants s who)) (λ e. unvoted q (omega (arith, none, vote_ledger q)) (voted_in (votes_for who at_home) (participants s who) q e a.1)) in
      (may_call q (omega (arith, end_ledger q, ap (λ b. cond b (occurs q (asked_partitions s at_home who)) 0) un, ap (λ b. cond b (occurs q (participants s who)) 0) off)), may_open q none, a.0, un)

  -- a message that was handled was said by the node that its kind names
  pub said_at : (q : ℕ) (m : Msg) → IsIn m (heard q H) → ((y : Attempt) → m ≡ Start y → ⊥) → (x : Mail) × (p : ℕ) × (x.msg ≡ m) × (x.to ≡ q) × IsIn x (all_said (says s) p (heard p H)) × ProperMsg s p q m
  said_at q m i not_start =
      let h = heard_mail q H m i in
      ⊎_elim
      (λ o. let st = in_openings s h.0 (numbers_below s.parts) o in absurd (not_start st.0 (sym h.2 ∙ st.1)))
      (λ f. let pr = proper_said s v f.0 (heard f.0 H) (g.fit f.0) h.0 f.1 in (h.0, f.0, h.2, h.3, f.1, subst₂ (λ a b. ProperMsg s f.0 a b) h.3 h.2 pr.1))
      (origin (says s) (opening s) H flight g.run h.0 (inr h.1))

  -- each access that the home was granted is granted where its key lives
  pub granted_there : (key : Key) (mode : Mode) → IsIn (record { key = key; mode = mode }) all → got ≡ length all → refused_for who at_home ≡ false → (gr : Grant) × IsIn gr (grants (calls s (partition_of key s.parts) (heard (partition_of key s.parts) H))) × (gr.who ≡ who) × (gr.key ≡ key) × (gr.mode ≡ mode)
  granted_there key mode i full un =
      let whole : keys_in key (take_first got all) ≡ keys_in key all = ap (λ n. keys_in key (take_first n all)) full ∙ ap (keys_in key) (take_all all) in
      let some : 1 ≤ count_msgs (is_answer who key) at_home = omega (arith, answers_heard s (home s who.txn) who key at_home fit_home, whole, key_there key mode all i) in
      let m = find_msg (is_answer who key) at_home some in
      from m.0 m.1 m.2
    where
      both : (a b : Bool) → (a && b) ≡ true → (a ≡ true) × (b ≡ true)
      both true b e = (refl, e)
      both false b e = absurd (true≢false (sym e))

      from : (m : Msg) → IsIn m at_home → is_answer who key m ≡ true → (gr : Grant) × IsIn gr (grants (calls s (partition_of key s.parts) (heard (partition_of key s.parts) H))) × (gr.who ≡ who) × (gr.key ≡ key) × (gr.mode ≡ mode)
      from (Granted x k row version bound) j e =
          let b = both (attempt_eq x who) (key_eq k key) e in
          let is_who : x ≡ who = (attempt_decides x who).0 b.0 in
          let is_key : k ≡ key = (key_decides k key).0 b.1 in
          let same : Granted x k row version bound ≡ Granted who key row version bound = cc in
          let f = said_at (home s who.txn) (Granted x k row version bound) j (λ y d. absurd (cc (d))) in
          let there : f.1 ≡ partition_of key s.parts = sym f.5.1 ∙ ap (λ z. partition_of z s.parts) is_key in
          let h = grant_made s v f.1 who key (heard f.1 H) (g.fit f.1) f.0 row version bound (f.2 ∙ same) f.4 in
          (h.0, subst (λ q. IsIn h.0 (grants (calls s q (heard q H)))) there h.1, h.2, h.3, same_mode key h.0.mode mode all (v.keys who.txn key) h.4 i)
      from (Refused x k c) j e =
          let b = both (attempt_eq x who) (key_eq k key) e in
          let is_who : x ≡ who = (attempt_decides x who).0 b.0 in
          absurd (true≢false (sym (refused_in who k c at_home (subst (λ y. IsIn (Refused y k c) at_home) is_who j)) ∙ un))
      from (Start x) j e = absurd (true≢false (sym e))
      from m j e = absurd (true≢false (sym e))

  -- a Yes that the home counts is held where it was given
  pub yea_there : (q lo hi : ℕ) → IsIn (Yes who q lo hi) at_home → (y : Yea) × IsIn y (yeas (calls s q (heard q H))) × (y.who ≡ who) × (y.lo ≡ lo) × (y.hi ≡ hi)
  yea_there q lo hi j =
      let f = said_at (home s who.txn) (Yes who q lo hi) j (λ y d. absurd (cc (d))) in
      let h = yea_made s v f.1 who (heard f.1 H) f.0 q lo hi f.2 f.4 in
      (h.0, subst (λ z. IsIn h.0 (yeas (calls s z (heard z H)))) (sym f.5.1) h.1, h.2, h.3, h.4)

  -- a Commit that was said has its number in the window of each participant
  pub window_there : (number : Number) → Decides s at_home who (Commit who number) → (q : ℕ) → IsIn q (participants s who) → (number.id ≡ who.txn) × ((y : Yea) × IsIn y (yeas (calls s q (heard q H))) × (y.who ≡ who) × (y.lo ≤ number.n) × (number.n ≤ y.hi))
  window_there number d q i =
      let c = commit_means who who number (votes_for who at_home) (first_no None (votes_for who at_home)) refl d.1 in
      let b = any_found (λ (b : Ballot). eqb b.part q) (votes_for who at_home) (voted_in (votes_for who at_home) (participants s who) q d.0.1 i) in
      let w = c.2 b.0 b.1 in
      let y = yea_there q w.0 w.1 (subst (λ z. IsIn (Yes who z w.0 w.1) at_home) (eqb_is b.0.part q b.2) (ballot_msg who at_home b.0 w.0 w.1 b.1 w.2)) in
      (c.1, (y.0, y.1, y.2, omega (arith, y.3, w.3), omega (arith, y.4, w.4)))
    where
      eqb_is : (a b : ℕ) → eqb a b ≡ true → a ≡ b
      eqb_is a b e = grind (arith, nat_tests)

  pub commit_flies : (x : Mail) (number : Number) → IsIn x flight ⊎ IsIn x (handled H) → x.msg ≡ Commit who number → Decides s at_home who (Commit who number) × IsIn x.to (participants s who)
  commit_flies x number i e =
      ⊎_elim
      (λ o. let st = in_openings s x (numbers_below s.parts) o in absurd (cc (sym e ∙ st.1)))
      (λ f.
      let pr = proper_said s v f.0 (heard f.0 H) (g.fit f.0) x f.1 in
      let is : f.0 ≡ home s who.txn = subst (λ m. ProperMsg s f.0 x.to m) e pr.1 in
      subst (λ p. Decides s (heard p H) who (Commit who number) × IsIn x.to (participants s who)) is (commit_said s f.0 who number (heard f.0 H) (g.fit f.0) x e f.1))
      (origin (says s) (opening s) H flight g.run x i)

  pub abort_flies : (x : Mail) → IsIn x flight ⊎ IsIn x (handled H) → x.msg ≡ Abort who → IsAborted s at_home who
  abort_flies x i e =
      ⊎_elim
      (λ o. let st = in_openings s x (numbers_below s.parts) o in absurd (cc (sym e ∙ st.1)))
      (λ f.
      let pr = proper_said s v f.0 (heard f.0 H) (g.fit f.0) x f.1 in
      let is : f.0 ≡ home s who.txn = subst (λ m. ProperMsg s f.0 x.to m) e pr.1 in
      subst (λ p. IsAborted s (heard p H) who) is (abort_said s f.0 who (heard f.0 H) (g.fit f.0) x e f.1))
      (origin (says s) (opening s) H flight g.run x i)

  -- a reply to the end of an attempt
  pub close_now : (r : ℕ) → 1 ≤ count (sent_to (home s who.txn) (is_close who r)) flight → (IsIn r (closes_for who at_home) → ⊥) × IsIn r (told s at_home who)
  close_now r one =
      let none : count_msgs (is_close who r) at_home ≡ 0 = omega (arith, one, close_ledger r, end_ledger r, ends_once r) in
      ((λ i. omega (arith, none, closed_in who r at_home i)), told_of (refused_for who at_home) refl)
    where
      told_of : (b : Bool) → refused_for who at_home ≡ b → IsIn r (cond b (asked_partitions s at_home who) (participants s who))
      told_of true e =
          let a = phase.refused e in
          occurs_in r (asked_partitions s at_home who) (omega (arith, one, close_ledger r, end_ledger r, no_vote_yet (slice_some all got a.0 a.1) r, ap (λ b. cond b (occurs r (asked_partitions s at_home who)) 0) e))
      told_of false e =
          occurs_in r (participants s who) (omega (arith, one, close_ledger r, end_ledger r, at_most (all_voted (votes_for who at_home) (participants s who)), ap (λ b. cond b (occurs r (asked_partitions s at_home who)) 0) e))
        where
          at_most : (b : Bool) → cond b (occurs r (participants s who)) 0 ≤ occurs r (participants s who)
          at_most true = omega arith
          at_most false = omega arith

  part_itself : (n : ℕ) → eqb n n ≡ true
  part_itself n = grind (arith, nat_tests)

  pub replied : (x : Mail) (m : Msg) → IsIn x flight → x.msg ≡ m → ((y : Attempt) → m ≡ Start y → ⊥) → is_done s v x.from who m ≡ true → Ended s v x.from who m (heard x.from H)
  replied x m i e not_start d =
      ⊎_elim
      (λ o. let st = in_openings s x (numbers_below s.parts) o in absurd (not_start st.0 (sym e ∙ st.1)))
      (λ f.
      let pr = proper_said s v f.0 (heard f.0 H) (g.fit f.0) x f.1 in
      let r = done_made s v x.from who (heard x.from H) x (subst (λ z. is_done s v x.from who z ≡ true) (sym e) d) (subst (λ p. IsIn x (all_said (says s) p (heard p H))) (sym pr.0) f.1) in
      subst (λ z. Ended s v x.from who z (heard x.from H)) e r)
      (origin (says s) (opening s) H flight g.run x (inl i))

  pub done_fits : (x : Mail) (part : ℕ) → IsIn x flight → x.msg ≡ Done who part → Suits s x.to x.from (Done who part) (heard x.to H)
  done_fits x part i e =
      let pr = (looks x (Done who part) i e (λ y f. absurd (cc (f)))).1 in
      let c = close_now part (flies (is_close who part) (home s who.txn) x (Done who part) i e pr.0 (rw itself (part_itself part))) in
      ⊎_elim
      (λ (r : (number : Number) × (q : ℕ) × (Done who part ≡ Done who q) × IsIn (Commit who number) (heard x.from H)).
      let f = said_at x.from (Commit who r.0) r.3 (λ y d. absurd (cc (d))) in
      let d = subst (λ p. Decides s (heard p H) who (Commit who r.0) × IsIn f.0.to (participants s who)) f.5 (commit_said s f.1 who r.0 (heard f.1 H) (g.fit f.1) f.0 f.2 f.4) in
      subst (λ z. Suits s z x.from (Done who part) (heard z H)) (sym pr.0)
      (refl, sym pr.1, subst (λ z. IsIn z (participants s who)) (f.3 ∙ sym pr.1) d.1, c.0, (r.0, d.0)))
      (λ (r : (q : ℕ) × (Done who part ≡ Undone who q) × IsIn (Abort who) (heard x.from H)). absurd (cc (r.1)))
      (replied x (Done who part) i e (λ y f. absurd (cc (f))) itself)

  pub undone_fits : (x : Mail) (part : ℕ) → IsIn x flight → x.msg ≡ Undone who part → Suits s x.to x.from (Undone who part) (heard x.to H)
  undone_fits x part i e =
      let pr = (looks x (Undone who part) i e (λ y f. absurd (cc (f)))).1 in
      let c = close_now part (flies (is_close who part) (home s who.txn) x (Undone who part) i e pr.0 (rw itself (part_itself part))) in
      ⊎_elim
      (λ (r : (number : Number) × (q : ℕ) × (Undone who part ≡ Done who q) × IsIn (Commit who number) (heard x.from H)). absurd (cc (r.2)))
      (λ (r : (q : ℕ) × (Undone who part ≡ Undone who q) × IsIn (Abort who) (heard x.from H)).
      let f = said_at x.from (Abort who) r.2 (λ y d. absurd (cc (d))) in
      let d = subst (λ p. IsAborted s (heard p H) who) f.5 (abort_said s f.1 who (heard f.1 H) (g.fit f.1) f.0 f.2 f.4) in
      subst (λ z. Suits s z x.from (Undone who part) (heard z H)) (sym pr.0) (refl, sym pr.1, c.1, c.0, d))
      (replied x (Undone who part) i e (λ y f. absurd (cc (f))) itself)

  -- the starts are said at the home alone
  pub start_ledger : count (sent_to (home s who.txn) (is_start who)) flight + count_msgs (is_start who) at_home ≡ count (sent_to (home s who.txn) (is_start who)) (opening s) + count (sent_to (home s who.txn) (is_start who)) (all_said (says s) (home s who.txn) at_home)
  start_ledger = ledger (says s) (opening s) (is_start who) (home s who.txn) (home s who.txn) H flight g.run (λ r ne. go r ne (count (sent_to (home s who.txn) (is_start who)) (all_said (says s) r (heard r H))) refl)
    where
      both : (a b : Bool) → (a && b) ≡ true → a ≡ true
      both true b e = refl
      both false b e = e

      at : (r : ℕ) (to : ℕ) (m : Msg) → ProperMsg s r to m → is_start who m ≡ true → r ≡ home s who.txn
      at r to (Start y) pr e = pr.1 ∙ ap (λ z. home s z.txn) ((attempt_decides y who).0 e)
      at r to (Ask y st k m) pr e = absurd (true≢false (sym e))
      at r to m pr e = absurd (true≢false (sym e))

      go : (r : ℕ) → r ≢ home s who.txn → (n : ℕ) → count (sent_to (home s who.txn) (is_start who)) (all_said (says s) r (heard r H)) ≡ n → n ≡ 0
      go r ne zero e = refl
      go r ne (suc n) e =
          let x = in_counted (sent_to (home s who.txn) (is_start who)) (all_said (says s) r (heard r H)) (omega (arith, e)) in
          let pr = proper_said s v r (heard r H) (g.fit r) x.0 x.1 in
          absurd (ne (at r x.0.to x.0.msg pr.1 (both (is_start who x.0.msg) (eqb x.0.to (home s who.txn)) x.2)))

  pub start_looks : (x : Mail) → IsIn x flight → x.msg ≡ Start who → (x.to ≡ x.from) × (x.from ≡ home s who.txn) × (1 ≤ who.turn) × IsIn who.txn s.ids
  start_looks x i e =
      ⊎_elim
      (λ o. from_opening (numbers_below s.parts) o)
      (λ f. let pr = proper_said s v f.0 (heard f.0 H) (g.fit f.0) x f.1 in let r : ProperMsg s f.0 x.to (Start who) = subst (ProperMsg s f.0 x.to) e pr.1 in (r.0 ∙ sym pr.0, pr.0 ∙ r.1, r.2, r.3))
      (origin (says s) (opening s) H flight g.run x (inl i))
    where
      taken_in : (n : ℕ) (y : TxnId) (ys : List TxnId) → IsIn y (take_first n ys) → IsIn y ys
      taken_in zero y ys i = absurd i
      taken_in (suc n) y [] i = absurd i
      taken_in (suc n) y (z ∷ ys) i = ⊎_elim (λ e. inl e) (λ r. inr (taken_in n y ys r)) i

      from_opening : (ps : List ℕ) → IsIn x (flat_map (λ p. first_starts p (take_first s.limit (homes s p))) ps) → (x.to ≡ x.from) × (x.from ≡ home s who.txn) × (1 ≤ who.turn) × IsIn who.txn s.ids
      from_opening [] i = absurd i
      from_opening (p ∷ ps) i =
          ⊎_elim
          (λ a.
          let n = in_map (λ (z : TxnId). record { from = p; to = p; msg = Start (record { txn = z; turn = 1 }) }) x (take_first s.limit (homes s p)) a in
          let f : Start (record { txn = n.0; turn = 1 }) ≡ Start who = sym (ap (λ (z : Mail). z.msg) n.2) ∙ e in
          let is : record { txn = n.0; turn = 1 } ≡ who = cc in
          let h = at_its_home s v p n.0 (taken_in s.limit n.0 (homes s p) n.1) in
          (ap (λ (z : Mail). z.to) n.2 ∙ sym (ap (λ (z : Mail). z.from) n.2), ap (λ (z : Mail). z.from) n.2 ∙ h ∙ ap (λ (y : Attempt). home s y.txn) is, omega (arith, ap (λ (y : Attempt). y.turn) is), subst (λ (y : Attempt). IsIn y.txn s.ids) is (in_filtered (λ z. eqb (home s z) p) n.0 s.ids (taken_in s.limit n.0 (homes s p) n.1)).0))
          (λ b. from_opening ps b)
          (in_cases x (first_starts p (take_first s.limit (homes s p))) (flat_map (λ p. first_starts p (take_first s.limit (homes s p))) ps) i)

  first_unheard : who.turn ≡ 1 → 1 ≤ count (sent_to (home s who.txn) (is_start who)) flight → count_msgs (is_start who) at_home ≡ 0
  first_unheard first one =
      let a = opening_first s (home s who.txn) who first in
      let b = firsts_said s (home s who.txn) who first at_home fit_home in
      let c = ids_take who.txn (s.limit + overs s at_home) (homes s (home s who.txn)) in
      let e : ids_in who.txn (take_first (s.limit + 0) (homes s (home s who.txn))) ≡ ids_in who.txn (take_first s.limit (homes s (home s who.txn))) = ap (λ n. ids_in who.txn (take_first n (homes s (home s who.txn)))) (plus s.limit) in
      omega (arith, a, b, c, e, ids_filter who.txn (λ y. eqb (home s y) (home s who.txn)) s.ids, v.once who.txn, start_ledger, one)
    where
      plus : (n : ℕ) → n + 0 ≡ n
      plus n = omega arith

  pub start_fits : (x : Mail) → IsIn x flight → x.msg ≡ Start who → Suits s x.to x.from (Start who) (heard x.to H)
  start_fits x i e =
      let l = start_looks x i e in
      let here : x.to ≡ home s who.txn = l.0 ∙ l.1 in
      let one : 1 ≤ count (sent_to (home s who.txn) (is_start who)) flight = flies (is_start who) (home s who.txn) x (Start who) i e here itself in
      subst (λ z. Suits s z x.from (Start who) (heard z H)) (sym here) (l.1, refl, unstarted_unheard who at_home (unheard one), turns one l.2, l.3)
    where
      later : 1 < who.turn → 1 ≤ count (sent_to (home s who.txn) (is_start who)) flight → (count_msgs (is_start who) at_home ≡ 0) × AllUndone s at_home (earlier_turn who) × (who.turn ≤ s.attempts)
      later lt one =
          let z = opening_later s (home s who.txn) who lt in
          ⊎_elim
          (λ o. absurd (omega (arith, start_ledger, z, o, one)))
          (λ o. (omega (arith, start_ledger, z, o.0, one), o.1, o.2))
          (again_said s (home s who.txn) who lt at_home fit_home)

      unheard : 1 ≤ count (sent_to (home s who.txn) (is_start who)) flight → count_msgs (is_start who) at_home ≡ 0
      unheard one = ⊎_elim (λ t. first_unheard t.1 one) (λ t. (later (more t.1) one).0) (eqb_tells who.turn 1)
        where
          more : who.turn ≢ 1 → 1 < who.turn
          more ne = omega (arith, (start_looks x i e).2)

      turns : 1 ≤ count (sent_to (home s who.txn) (is_start who)) flight → 1 ≤ who.turn → ((who.turn ≡ 1) × ((turn : ℕ) → IsStarted at_home (record { txn = who.txn; turn = turn }) → ⊥)) ⊎ ((1 < who.turn) × (who.turn ≤ s.attempts) × AllUndone s at_home (earlier_turn who))
      turns one low =
          ⊎_elim
          (λ t. inl (t.1, λ turn st. unstarted_unheard who at_home (first_unheard t.1 one) (subst (λ n. started_for (record { txn = who.txn; turn = n }) at_home ≡ true) (sym t.1) (started_first s (home s who.txn) who.txn turn at_home fit_home st))))
          (λ t. let lt : 1 < who.turn = omega (arith, t.1, low) in let o = later lt one in inr (lt, o.2, o.1))
          (eqb_tells who.turn 1)

  -- a Start is in flight or was handled once
  pub start_most : count (sent_to (home s who.txn) (is_start who)) flight + count_msgs (is_start who) at_home ≤ 1
  start_most =
      ⊎_elim
      (λ (t : (eqb who.turn 1 ≡ true) × (who.turn ≡ 1)).
      let a = opening_first s (home s who.txn) who t.1 in
      let b = firsts_said s (home s who.txn) who t.1 at_home fit_home in
      let c = ids_take who.txn (s.limit + overs s at_home) (homes s (home s who.txn)) in
      let e : ids_in who.txn (take_first (s.limit + 0) (homes s (home s who.txn))) ≡ ids_in who.txn (take_first s.limit (homes s (home s who.txn))) = ap (λ n. ids_in who.txn (take_first n (homes s (home s who.txn)))) (plus s.limit) in
      omega (arith, a, b, c, e, ids_filter who.txn (λ y. eqb (home s y) (home s who.txn)) s.ids, v.once who.txn, start_ledger))
      (λ (t : (eqb who.turn 1 ≡ false) × (who.turn ≢ 1)). later (more who.turn t.1))
      (eqb_tells who.turn 1)
    where
      plus : (n : ℕ) → n + 0 ≡ n
      plus n = omega arith

      more : (n : ℕ) → n ≢ 1 → (n ≡ 0) ⊎ (1 < n)
      more n ne = grind (arith, ne)

      later : (who.turn ≡ 0) ⊎ (1 < who.turn) → count (sent_to (home s who.txn) (is_start who)) flight + count_msgs (is_start who) at_home ≤ 1
      later h =
          ⊎_elim
          (λ z. never z)
          (λ lt. let z = opening_later s (home s who.txn) who lt in ⊎_elim (λ o. omega (arith, start_ledger, z, o)) (λ o. omega (arith, start_ledger, z, o.0)) (again_said s (home s who.txn) who lt at_home fit_home))
          h
        where
          none_flies : who.turn ≡ 0 → count (sent_to (home s who.txn) (is_start who)) flight ≡ 0
          none_flies z = off (count (sent_to (home s who.txn) (is_start who)) flight) (λ one.
              let x = in_counted (sent_to (home s who.txn) (is_start who)) flight one in
              omega (arith, z, (start_looks x.0 x.1 (is_it x.0.msg (both_parts (is_start who x.0.msg) (eqb x.0.to (home s who.txn)) x.2))).2))
            where
              off : (n : ℕ) → (1 ≤ n → ⊥) → n ≡ 0
              off n h = grind (arith, h)

              both_parts : (a b : Bool) → (a && b) ≡ true → a ≡ true
              both_parts true b e = refl
              both_parts false b e = e

              is_it : (m : Msg) → is_start who m ≡ true → m ≡ Start who
              is_it (Start y) e = ap Start ((attempt_decides y who).0 e)
              is_it (Ask x st k m) e = absurd (true≢false (sym e))
              is_it m e = absurd (true≢false (sym e))

          never : who.turn ≡ 0 → count (sent_to (home s who.txn) (is_start who)) flight + count_msgs (is_start who) at_home ≤ 1
          never z = omega (arith, none_flies z, unheard_zero at_home fit_home z)
            where
              unheard_zero : (ms : List Msg) → AllFit s (home s who.txn) ms → who.turn ≡ 0 → count_msgs (is_start who) ms ≡ 0
              unheard_zero [] fit z = refl
              unheard_zero (Start x ∷ ms) fit z =
                  ⊎_elim
                  (λ t. absurd (⊎_elim (λ a. omega (arith, a.0, z, ap (λ (y : Attempt). y.turn) t.1)) (λ a. omega (arith, a.0, z, ap (λ (y : Attempt). y.turn) t.1)) fit.0.1.3))
                  (λ t. rw t.0 (omega (arith, unheard_zero ms fit.1 z)))
                  (attempt_tells x who)
              unheard_zero (Ask x st k m ∷ ms) fit z = omega (arith, unheard_zero ms fit.1 z)
              unheard_zero (m ∷ ms) fit z = omega (arith, unheard_zero ms fit.1 z)
