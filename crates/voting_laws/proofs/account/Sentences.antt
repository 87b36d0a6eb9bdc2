-- What is in flight for one attempt, by what was said of it.
use Rattle.std.proofs.Common.{◌≡◌, ◌≢◌, ℕ, zero, suc, ◌+◌, ◌<◌, ◌≤◌, List, [], ◌∷◌, length, slice_get, Bool, true, false, cond, not, ◌&&◌, eqb, refl, sym, ap, ◌∙◌, subst, inl, inr, ⊎_elim, arith, Option, Some, None, true≢false}
use Rattle.std.specs.List.{list_any, list_all}
use Rattle.std.proofs.lemmas.Bool.Decides.{nat_tests}
use Rattle.deneva_base.specs.declared.keys.Key.{Key}
use Rattle.deneva_base.specs.declared.keys.Access.{Access}
use Rattle.deneva_base.specs.declared.numbers.Attempt.{Attempt}
use Rattle.deneva_base.specs.Lists.{IsIn}
use Rattle.deneva_base.specs.Keys.{attempt_eq, key_eq}
use Rattle.deneva_base.specs.Partitions.{partition_of}
use Rattle.deneva_base.proofs.Membership.{and_parts, and_true, attempt_tells, attempt_decides, key_tells}
use Rattle.protocol_rules.specs.History.{Asked, waits}
use Rattle.txn_program.specs.Transactions.{numbers_below}
use Rattle.server_core.specs.declared.messages.Msg.{Msg}
use Rattle.server_core.specs.declared.messages.Msg.TheVariants.{Start, Ask, Granted, Refused, Prepare, Yes, No, Commit, Abort, Done, Undone, Tick, Batch, Rows, Finished}
use Rattle.server_core.specs.declared.messages.Mail.{Mail}
use Rattle.server_core.specs.declared.messages.Entry.{Entry}
use Rattle.server_core.specs.Setting.{Setting, home, partitions_of, participants}
use Rattle.server_core.specs.Received.{grants_for, votes_for, refused_for, started_for, all_voted}
use Rattle.server_core.specs.declared.ballots.Ballot.{Ballot}
use Rattle.server_core.specs.Coordinator.{asked_partitions}
use Rattle.server_core.specs.Participant.{calls}
use Rattle.server_core.specs.Proper.{Valid}
use Rattle.server_core.specs.Runs.{heard}
use Rattle.server_core.specs.Counts.{count_msgs}
use Rattle.server_core.specs.Limits.{is_of, sum_of}
use Rattle.voting_laws.proofs.account.Words.{Accounts, asks_of, answers_of, waiting_for, is_for, many}
use Rattle.server_core.specs.RunAccount.{starts_of, prepares_of, votes_of, ends_of, closes_of, flying, Idle, Asks, Votes, Closes, asking_of, answering_of, in_flight, waiting_of, waiting, said_to, begun, prepared, ending, has_replied, ended_everywhere}
use Rattle.server_core.proofs.counts.Asks.{unstarted}
use Rattle.server_core.proofs.counts.Conserved.{count_in}
use Rattle.server_core.proofs.counts.Local.{sent_to}
use Rattle.server_core.proofs.counts.Prepares.{occurs, slice_some}
use Rattle.server_core.proofs.counts.Ends.{off_if}
use Rattle.server_core.proofs.counts.Starts.{started_heard}
use Rattle.server_core.proofs.lists.Parts.{in_below, part_below}
use Rattle.server_core.proofs.values.Called.{access_of, knows, waiting_in}
use Rattle.server_core.proofs.values.Origins.{started_ids}
use Rattle.voting_laws.proofs.fits.Account.{Good, looks, start_looks, phase, none_voted, started_with, voted_in, prepares_once, occurs_below, occurs_filter, occurs_in, once, refused_started}
use Rattle.voting_laws.proofs.fits.Heard.{votes_heard}
use Rattle.voting_laws.proofs.fits.Joins.{no_participant}
use Rattle.voting_laws.proofs.serial.SerialOutcomes.{told_some}
use Rattle.voting_laws.proofs.account.Begun.{started_begun, begun_cases}
use Rattle.voting_laws.proofs.account.Counting.{one_if, zero_if, sum_zero, sum_plus, sum_at, count_none, count_same, counted_any, spread, to_one, of_one, occurs_there, bool_same}
use Rattle.voting_laws.proofs.account.Ledgers.{account}
use Rattle.voting_laws.proofs.account.Quits.{got_bound}
use Rattle.voting_laws.proofs.account.Said.{begun_is, flies_begun, prepares_to, ends_to, prepared_got, unprepared, ending_to, to_ending, told_once, told_there}

-- the votes of an attempt, and the replies to its end, from whatever partition
abbrev pub voting_of : Attempt → Msg → Bool
voting_of who (Yes x part lo hi) = attempt_eq x who
voting_of who (No x part cause) = attempt_eq x who
voting_of who m = false

abbrev pub closing_of : Attempt → Msg → Bool
closing_of who (Done x part) = attempt_eq x who
closing_of who (Undone x part) = attempt_eq x who
closing_of who m = false

-- each message of an attempt is of one kind
kinds : (who : Attempt) (m : Msg) → one_if (is_of who m) ≡ one_if (starts_of who m) + one_if (asking_of who m) + one_if (answering_of who m) + one_if (prepares_of who m) + one_if (voting_of who m) + one_if (ends_of who m) + one_if (closing_of who m)
kinds who (Start x) = omega arith
kinds who (Ask x st k m) = omega arith
kinds who (Granted x k r n b) = omega arith
kinds who (Refused x k c) = omega arith
kinds who (Prepare x b w a) = omega arith
kinds who (Yes x part lo hi) = omega arith
kinds who (No x part c) = omega arith
kinds who (Commit x n) = omega arith
kinds who (Abort x) = omega arith
kinds who (Done x part) = omega arith
kinds who (Undone x part) = omega arith
kinds who (Tick e) = omega arith
kinds who (Batch e q i) = omega arith
kinds who (Rows i p r) = omega arith
kinds who (Finished i p n) = omega arith

total : (who : Attempt) (xs : List Mail) → in_flight xs (is_of who) ≡ in_flight xs (starts_of who) + in_flight xs (asking_of who) + in_flight xs (answering_of who) + in_flight xs (prepares_of who) + in_flight xs (voting_of who) + in_flight xs (ends_of who) + in_flight xs (closing_of who)
total who [] = omega arith
total who (x ∷ xs) = omega (arith, kinds who x.msg, total who xs)

same_part : (a : ℕ) → eqb a a ≡ true
same_part a = grind (arith, nat_tests)

many_occurs : (q : ℕ) (xs : List ℕ) → many q xs ≡ occurs q xs
many_occurs q [] = refl
many_occurs q (x ∷ xs) = omega (arith, many_occurs q xs)

-- an access of the attempt among those that wait
waiting_found : (who : Attempt) (ws : List Asked) → 1 ≤ waiting_of who ws → (a : Asked) × IsIn a ws × (a.who ≡ who)
waiting_found who [] h = absurd (omega (arith, h))
waiting_found who (a ∷ ws) h =
    ⊎_elim
    (λ t. (a, inl refl, t.1))
    (λ t. let h' : 1 ≤ 0 + waiting_of who ws = subst (λ b. 1 ≤ cond b 1 0 + waiting_of who ws) t.0 h in let n = waiting_found who ws (omega (arith, h')) in (n.0, inr n.1, n.2))
    (attempt_tells a.who who)

waiting_key : (who : Attempt) (key : Key) (ws : List Asked) → ((a : Asked) → IsIn a ws → a.who ≡ who → a.key ≡ key) → waiting_of who ws ≡ waiting_for who key ws
waiting_key who key [] h = refl
waiting_key who key (a ∷ ws) h =
    ⊎_elim
    (λ t.
    ⊎_elim
    (λ k. rw (t.0, k.0) (omega (arith, waiting_key who key ws (λ b i. h b (inr i)))))
    (λ k. absurd (k.1 (h a (inl refl) t.1)))
    (key_tells a.key key))
    (λ t. rw t.0 (omega (arith, waiting_key who key ws (λ b i. h b (inr i)))))
    (attempt_tells a.who who)

module _ (s : Setting) (v : Valid s) (H : List Entry) (flight : List Mail) (g : Good s H flight) (who : Attempt) where
  abbrev p : ℕ
  p = home s who.txn

  abbrev ms : List Msg
  ms = heard p H

  abbrev all : List Access
  all = s.accesses who.txn

  abbrev got : ℕ
  got = length (grants_for who ms)

  abbrev hist : ℕ → Rattle.protocol_rules.specs.History.History
  hist q = calls s q (heard q H)

  acc : Accounts s H flight who ms
  acc = account s v H flight g who

  self : attempt_eq who who ≡ true
  self = ⊎_elim (λ t. t.0) (λ f. absurd (f.1 refl)) (attempt_tells who who)

  key_self : (key : Key) → key_eq key key ≡ true
  key_self key = ⊎_elim (λ t. t.0) (λ f. absurd (f.1 refl)) (key_tells key key)

  flies : (t : Msg → Bool) (q : ℕ) (x : Mail) → IsIn x flight → t x.msg ≡ true → x.to ≡ q → 1 ≤ flying flight q t
  flies t q x i e f = count_in (sent_to q t) x flight i (and_true (t x.msg) (eqb x.to q) e (subst (λ z. eqb x.to z ≡ true) f (same_part x.to)))

  -- the mails of each kind, by their address
  start_at : (x : Mail) → IsIn x flight → starts_of who x.msg ≡ true → x.to ≡ p
  start_at x i e = go x.msg refl e
    where
      go : (m : Msg) → x.msg ≡ m → starts_of who m ≡ true → x.to ≡ p
      go (Start y) f e = let is = (attempt_decides y who).0 e in let l = start_looks s v H flight g who x i (f ∙ ap Start is) in l.0 ∙ l.1
      go (Ask y st k m) f e = absurd (true≢false (sym e))
      go m f e = absurd (true≢false (sym e))

  ask_at : (x : Mail) → IsIn x flight → asking_of who x.msg ≡ true → (key : Key) × (asks_of who key x.msg ≡ true) × (x.to ≡ partition_of key s.parts)
  ask_at x i e = go x.msg refl e
    where
      go : (m : Msg) → x.msg ≡ m → asking_of who m ≡ true → (key : Key) × (asks_of who key m ≡ true) × (x.to ≡ partition_of key s.parts)
      go (Ask y st k m) f e = (k, and_true (attempt_eq y who) (key_eq k k) e (key_self k), (looks s v H flight g who x (Ask y st k m) i f (λ z d. absurd (cc (d)))).1.1)
      go (Start y) f e = absurd (true≢false (sym e))
      go m f e = absurd (true≢false (sym e))

  answer_at : (x : Mail) → IsIn x flight → answering_of who x.msg ≡ true → (key : Key) × (answers_of who key x.msg ≡ true) × (x.to ≡ p)
  answer_at x i e = go x.msg refl e
    where
      go : (m : Msg) → x.msg ≡ m → answering_of who m ≡ true → (key : Key) × (answers_of who key m ≡ true) × (x.to ≡ p)
      go (Granted y k r n b) f e = (k, and_true (attempt_eq y who) (key_eq k k) e (key_self k), (looks s v H flight g who x (Granted y k r n b) i f (λ z d. absurd (cc (d)))).1.0 ∙ ap (λ (z : Attempt). home s z.txn) ((attempt_decides y who).0 e))
      go (Refused y k c) f e = (k, and_true (attempt_eq y who) (key_eq k k) e (key_self k), (looks s v H flight g who x (Refused y k c) i f (λ z d. absurd (cc (d)))).1.0 ∙ ap (λ (z : Attempt). home s z.txn) ((attempt_decides y who).0 e))
      go (Start y) f e = absurd (true≢false (sym e))
      go m f e = absurd (true≢false (sym e))

  -- the partition of a vote, and of a reply
  part_in : Msg → ℕ
  part_in (Yes x part lo hi) = part
  part_in (No x part c) = part
  part_in (Done x part) = part
  part_in (Undone x part) = part
  part_in m = 0

  vote_at : (x : Mail) → IsIn x flight → voting_of who x.msg ≡ true → (votes_of who (part_in x.msg) x.msg ≡ true) × (x.to ≡ p)
  unfolding part_in
  vote_at x i e = go x.msg refl e
    where
      go : (m : Msg) → x.msg ≡ m → voting_of who m ≡ true → (votes_of who (part_in m) m ≡ true) × (x.to ≡ p)
      go (Yes y part lo hi) f e = (and_true (attempt_eq y who) (eqb part part) e (same_part part), (looks s v H flight g who x (Yes y part lo hi) i f (λ z d. absurd (cc (d)))).1.0 ∙ ap (λ (z : Attempt). home s z.txn) ((attempt_decides y who).0 e))
      go (No y part c) f e = (and_true (attempt_eq y who) (eqb part part) e (same_part part), (looks s v H flight g who x (No y part c) i f (λ z d. absurd (cc (d)))).1.0 ∙ ap (λ (z : Attempt). home s z.txn) ((attempt_decides y who).0 e))
      go (Start y) f e = absurd (true≢false (sym e))
      go m f e = absurd (true≢false (sym e))

  close_at : (x : Mail) → IsIn x flight → closing_of who x.msg ≡ true → (closes_of who (part_in x.msg) x.msg ≡ true) × (x.to ≡ p)
  unfolding part_in
  close_at x i e = go x.msg refl e
    where
      go : (m : Msg) → x.msg ≡ m → closing_of who m ≡ true → (closes_of who (part_in m) m ≡ true) × (x.to ≡ p)
      go (Done y part) f e = (and_true (attempt_eq y who) (eqb part part) e (same_part part), (looks s v H flight g who x (Done y part) i f (λ z d. absurd (cc (d)))).1.0 ∙ ap (λ (z : Attempt). home s z.txn) ((attempt_decides y who).0 e))
      go (Undone y part) f e = (and_true (attempt_eq y who) (eqb part part) e (same_part part), (looks s v H flight g who x (Undone y part) i f (λ z d. absurd (cc (d)))).1.0 ∙ ap (λ (z : Attempt). home s z.txn) ((attempt_decides y who).0 e))
      go (Start y) f e = absurd (true≢false (sym e))
      go m f e = absurd (true≢false (sym e))

  votes_split : (q : ℕ) (m : Msg) → votes_of who q m ≡ (voting_of who m && eqb (part_in m) q)
  unfolding part_in
  votes_split q (Yes x part lo hi) = refl
  votes_split q (No x part c) = refl
  votes_split q (Start x) = refl
  votes_split q m = refl

  closes_split : (q : ℕ) (m : Msg) → closes_of who q m ≡ (closing_of who m && eqb (part_in m) q)
  unfolding part_in
  closes_split q (Done x part) = refl
  closes_split q (Undone x part) = refl
  closes_split q (Start x) = refl
  closes_split q m = refl

  -- where the ledger has none
  abbrev awaited : Key → ℕ
  awaited key = cond (started_for who ms && not (refused_for who ms)) (is_for key (slice_get all got)) 0

  abbrev wait_at : Key → ℕ
  wait_at key = waiting_for who key (waits (hist (partition_of key s.parts)))

  waits_here : (q : ℕ) (a : Asked) → IsIn a (waits (hist q)) → a.who ≡ who → (partition_of a.key s.parts ≡ q) × (1 ≤ wait_at a.key)
  waits_here q a i e =
      let h = access_of s q (heard q H) a (g.fit q) ((knows s q (heard q H) (g.fit q)).asked a i) in
      (h.0, subst (λ r. 1 ≤ waiting_for who a.key (waits (hist r))) (sym h.0) (waiting_in who a.key (waits (hist q)) a i e refl))

  record NoAsks : Type 0 where
    asks : in_flight flight (asking_of who) ≡ 0
    answers : in_flight flight (answering_of who) ≡ 0
    waits : waiting s H who ≡ 0

  no_asks : ((key : Key) → awaited key ≡ 0) → NoAsks
  no_asks none = record {
    asks = count_none (λ x. asking_of who x.msg) flight (λ x i e. let a = ask_at x i e in omega (arith, flies (asks_of who a.0) (partition_of a.0 s.parts) x i a.1 a.2, acc.accesses a.0, none a.0));
    answers = count_none (λ x. answering_of who x.msg) flight (λ x i e. let a = answer_at x i e in omega (arith, flies (answers_of who a.0) p x i a.1 a.2, acc.accesses a.0, none a.0));
    waits = sum_zero (λ q. waiting_of who (waits (hist q))) (numbers_below s.parts) (λ q j. zero_if (waiting_of who (waits (hist q))) (λ one.
        let a = waiting_found who (waits (hist q)) one in
        omega (arith, (waits_here q a.0 a.1 a.2).1, acc.accesses a.0.key, none a.0.key)));
  }

  no_starts : started_for who ms ≡ true → in_flight flight (starts_of who) ≡ 0
  no_starts st = count_none (λ x. starts_of who x.msg) flight (λ x i e. omega (arith, flies (starts_of who) p x i e (start_at x i e), acc.starts, started_heard who ms st))

  record NoVotes : Type 0 where
    prepares : in_flight flight (prepares_of who) ≡ 0
    votes : in_flight flight (voting_of who) ≡ 0

  no_votes : ((q : ℕ) → flying flight q (prepares_of who) + flying flight p (votes_of who q) ≡ 0) → NoVotes
  no_votes none = record {
    prepares = count_none (λ x. prepares_of who x.msg) flight (λ x i e. omega (arith, flies (prepares_of who) x.to x i e refl, none x.to));
    votes = count_none (λ x. voting_of who x.msg) flight (λ x i e. let a = vote_at x i e in omega (arith, flies (votes_of who (part_in x.msg)) p x i a.0 a.1, none (part_in x.msg)));
  }

  record NoEnds : Type 0 where
    ends : in_flight flight (ends_of who) ≡ 0
    closes : in_flight flight (closing_of who) ≡ 0

  no_ends : ((q : ℕ) → flying flight q (ends_of who) + flying flight p (closes_of who q) ≡ 0) → NoEnds
  no_ends none = record {
    ends = count_none (λ x. ends_of who x.msg) flight (λ x i e. omega (arith, flies (ends_of who) x.to x i e refl, none x.to));
    closes = count_none (λ x. closing_of who x.msg) flight (λ x i e. let a = close_at x i e in omega (arith, flies (closes_of who (part_in x.msg)) p x i a.0 a.1, none (part_in x.msg)));
  }

  -- the ledger's right sides, in the words of what was said
  ledger_votes : (q : ℕ) → flying flight q (prepares_of who) + flying flight p (votes_of who q) + count_msgs (votes_of who q) ms ≡ prepares_to s v H flight g who q
  ledger_votes q = acc.votes q ∙ ap (λ n. cond (eqb got (length all)) n 0) (many_occurs q (participants s who))

  pub ledger_ends : (q : ℕ) → flying flight q (ends_of who) + flying flight p (closes_of who q) + count_msgs (closes_of who q) ms ≡ ends_to s v H flight g who q
  ledger_ends q = acc.ends q ∙ two (refused_for who ms) (all_voted (votes_for who ms) (participants s who)) (many_occurs q (asked_partitions s ms who)) (many_occurs q (participants s who))
    where
      two : (a b : Bool) {x y z w : ℕ} → x ≡ y → z ≡ w → cond a x 0 + cond b z 0 ≡ cond a y 0 + cond b w 0
      two a b e f = rw (e, f)

  unending : ending s H who ≡ false → (q : ℕ) → ends_to s v H flight g who q ≡ 0
  unending e q = zero_if (ends_to s v H flight g who q) (λ h. true≢false (sym (to_ending s v H flight g who q h) ∙ e))

  -- an attempt that has all grants awaits none
  past_end : (xs : List Access) (n : ℕ) (key : Key) → n ≡ length xs → is_for key (slice_get xs n) ≡ 0
  past_end xs n key e = go (slice_get xs n) refl
    where
      go : (o : Option Access) → slice_get xs n ≡ o → is_for key o ≡ 0
      go None f = refl
      go (Some a) f = absurd (omega (arith, e, slice_some xs n a f))

  none_awaited : got ≡ length all → (key : Key) → awaited key ≡ 0
  none_awaited full key = go (started_for who ms && not (refused_for who ms)) (past_end all got key full)
    where
      go : (b : Bool) {n : ℕ} → n ≡ 0 → cond b n 0 ≡ 0
      go true e = e
      go false e = refl

  refused_awaits : refused_for who ms ≡ true → (key : Key) → awaited key ≡ 0
  refused_awaits r key = rw r (go (started_for who ms))
    where
      go : (b : Bool) → cond (b && false) (is_for key (slice_get all got)) 0 ≡ 0
      go true = refl
      go false = refl

  each_one : (q : ℕ) (as' : List Access) → IsIn q (partitions_of s.parts as') → occurs q (partitions_of s.parts as') ≡ 1
  each_one q as' i = omega (arith, once q s.parts as', occurs_there q (partitions_of s.parts as') i)

  -- 3. a Prepare was said, and no Commit or Abort
  pub votes : prepared s H who ≡ true → ending s H who ≡ false → Votes s H flight who
  votes pr en =
      let a = prepared_got s v H flight g who pr in
      let full : got ≡ length all = a.1 in
      let st : started_for who ms ≡ true = started_with s v H flight g who (some_got a.0 a.2 full) in
      let na = no_asks (none_awaited full) in
      let ne = no_ends (λ q. omega (arith, ledger_ends q, unending en q)) in
      record {
        one = one_each full;
        some = unvoted (participants s who) (off_if (all_voted (votes_for who ms) (participants s who)) (λ e. voted_none e a.0 a.2)) (λ q i. i);
        mails =
            total who flight
            ∙ omega (arith, no_starts st, na.asks, na.answers, ne.ends, ne.closes, prepare_sum full, vote_sum full, sum_plus (λ q. flying flight q (prepares_of who)) (λ q. flying flight p (votes_of who q)) (participants s who));
        waits = na.waits;
      }
    where
      some_got : (q : ℕ) → IsIn q (participants s who) → got ≡ length all → 1 ≤ got
      some_got q i full = go all refl i
        where
          go : (as' : List Access) → all ≡ as' → IsIn q (partitions_of s.parts as') → 1 ≤ got
          go [] e j = absurd (no_participant s.parts q j)
          go (b ∷ as') e j = omega (arith, full, ap length e)

      to_all : got ≡ length all → (q : ℕ) → prepares_to s v H flight g who q ≡ occurs q (participants s who)
      to_all full q = ap (λ b. cond b (occurs q (participants s who)) 0) (subst (λ n. eqb got n ≡ true) full (same_part got))

      one_each : got ≡ length all → (q : ℕ) → IsIn q (participants s who) → flying flight q (prepares_of who) + flying flight p (votes_of who q) + count_msgs (votes_of who q) ms ≡ 1
      one_each full q i = omega (arith, ledger_votes q, to_all full q, each_one q all i)

      voted_none : all_voted (votes_for who ms) (participants s who) ≡ true → (q : ℕ) → IsIn q (participants s who) → ⊥
      voted_none e q i =
          let n : ends_to s v H flight g who q ≡ 0 = unending en q in
          let m : cond (refused_for who ms) (occurs q (asked_partitions s ms who)) 0 + occurs q (participants s who) ≡ 0 = subst (λ b. cond (refused_for who ms) (occurs q (asked_partitions s ms who)) 0 + cond b (occurs q (participants s who)) 0 ≡ 0) e n in
          omega (arith, m, occurs_there q (participants s who) i)

      unvoted : (qs : List ℕ) → all_voted (votes_for who ms) qs ≡ false → ((q : ℕ) → IsIn q qs → IsIn q (participants s who)) → (q : ℕ) × IsIn q (participants s who) × (count_msgs (votes_of who q) ms ≡ 0)
      unvoted [] e into = absurd (true≢false e)
      unvoted (q ∷ qs) e into = go (list_any (λ (b : Ballot). eqb b.part q) (votes_for who ms)) refl (λ f. unvoted qs (subst (λ z. (z && all_voted (votes_for who ms) qs) ≡ false) f e) (λ r i. into r (inr i)))
        where
          go : (b : Bool) → list_any (λ (b' : Ballot). eqb b'.part q) (votes_for who ms) ≡ b → (list_any (λ (b' : Ballot). eqb b'.part q) (votes_for who ms) ≡ true → (r : ℕ) × IsIn r (participants s who) × (count_msgs (votes_of who r) ms ≡ 0)) → (r : ℕ) × IsIn r (participants s who) × (count_msgs (votes_of who r) ms ≡ 0)
          go false f next = (q, into q (inl refl), votes_heard s p who q ms (g.fit p) ∙ ap (λ z. cond z 1 0) f)
          go true f next = next f

      inside : got ≡ length all → (q : ℕ) → 1 ≤ flying flight q (prepares_of who) + flying flight p (votes_of who q) → occurs q (participants s who) ≡ 1
      inside full q h = each_one q all (occurs_in q (participants s who) (omega (arith, h, ledger_votes q, to_all full q)))

      prepare_sum : got ≡ length all → in_flight flight (prepares_of who) ≡ sum_of (λ q. flying flight q (prepares_of who)) (participants s who)
      prepare_sum full = spread (λ x. prepares_of who x.msg) (λ q x. prepares_of who x.msg && eqb x.to q) (participants s who) flight (λ x i. to_one (prepares_of who x.msg) x.to (participants s who) (λ e. inside full x.to (omega (arith, flies (prepares_of who) x.to x i e refl))))

      vote_sum : got ≡ length all → in_flight flight (voting_of who) ≡ sum_of (λ q. flying flight p (votes_of who q)) (participants s who)
      vote_sum full =
          spread (λ x. voting_of who x.msg) (λ q x. votes_of who q x.msg && eqb x.to p) (participants s who) flight
          (λ x i.
          of_one (voting_of who x.msg) (part_in x.msg) x.to p (participants s who) (λ e. let a = vote_at x i e in (a.1, inside full (part_in x.msg) (omega (arith, flies (votes_of who (part_in x.msg)) p x i a.0 a.1))))
          ∙ sums x (participants s who))
        where
          sums : (x : Mail) (qs : List ℕ) → sum_of (λ q. one_if ((voting_of who x.msg && eqb (part_in x.msg) q) && eqb x.to p)) qs ≡ sum_of (λ q. one_if (votes_of who q x.msg && eqb x.to p)) qs
          sums x [] = refl
          sums x (q ∷ qs) = omega (arith, ap (λ b. one_if (b && eqb x.to p)) (votes_split q x.msg), sums x qs)

  -- no vote is under way where an end was said
  pub settled : ending s H who ≡ true → (started_for who ms ≡ true) × ((key : Key) → awaited key ≡ 0) × ((q : ℕ) → flying flight q (prepares_of who) + flying flight p (votes_of who q) ≡ 0)
  settled en =
      let q = ending_to s v H flight g who en in
      go q.0 q.1 (refused_for who ms) refl (all_voted (votes_for who ms) (participants s who)) refl
    where
      go : (q : ℕ) → 1 ≤ ends_to s v H flight g who q → (a : Bool) → refused_for who ms ≡ a → (b : Bool) → all_voted (votes_for who ms) (participants s who) ≡ b → (started_for who ms ≡ true) × ((key : Key) → awaited key ≡ 0) × ((q : ℕ) → flying flight q (prepares_of who) + flying flight p (votes_of who q) ≡ 0)
      go q h true ea b eb =
          let x = (phase s v H flight g who).refused ea in
          let lt : got < length all = slice_some all got x.0 x.1 in
          (refused_started s p who ms (g.fit p) ea, refused_awaits ea, λ r. omega (arith, ledger_votes r, no_prepares lt r))
        where
          no_prepares : got < length all → (r : ℕ) → prepares_to s v H flight g who r ≡ 0
          no_prepares lt r = grind (arith, nat_tests)
      go q h false ea true eb =
          let h' : 1 ≤ 0 + occurs q (participants s who) = subst (λ z. 1 ≤ cond z (occurs q (asked_partitions s ms who)) 0 + occurs q (participants s who)) ea (subst (λ z. 1 ≤ cond (refused_for who ms) (occurs q (asked_partitions s ms who)) 0 + cond z (occurs q (participants s who)) 0) eb h) in
          let i = occurs_in q (participants s who) (omega (arith, h')) in
          let w = ((phase s v H flight g who).voted q (voted_in (votes_for who ms) (participants s who) q eb i)).0 in
          (w.0, none_awaited w.2, λ r. zero_if (flying flight r (prepares_of who) + flying flight p (votes_of who r)) (λ one. came r one))
        where
          came : (r : ℕ) → 1 ≤ flying flight r (prepares_of who) + flying flight p (votes_of who r) → ⊥
          came r one =
              let j = occurs_in r (participants s who) (positive (eqb got (length all)) (omega (arith, one, ledger_votes r))) in
              let k : count_msgs (votes_of who r) ms ≡ 1 = votes_heard s p who r ms (g.fit p) ∙ ap (λ z. cond z 1 0) (voted_in (votes_for who ms) (participants s who) r eb j) in
              omega (arith, one, k, ledger_votes r, prepares_once s v H flight g who r)
            where
              positive : (b : Bool) → 1 ≤ cond b (occurs r (participants s who)) 0 → 1 ≤ occurs r (participants s who)
              positive true h = h
              positive false h = absurd (omega (arith, h))
      go q h false ea false eb =
          let h' : 1 ≤ 0 + 0 = subst (λ z. 1 ≤ cond z (occurs q (asked_partitions s ms who)) 0 + 0) ea (subst (λ z. 1 ≤ cond (refused_for who ms) (occurs q (asked_partitions s ms who)) 0 + cond z (occurs q (participants s who)) 0) eb h) in
          absurd (omega (arith, h'))

  abbrev tolds : List ℕ
  tolds = said_to s H (ends_of who)

  told_one : (q : ℕ) → IsIn q tolds → occurs q tolds ≡ 1
  told_one q i = omega (arith, occurs_there q tolds i, occurs_filter q (λ r. list_any (λ (x : Mail). ends_of who x.msg && eqb x.to r) (Rattle.server_core.specs.RunAccount.all_mails s H)) (numbers_below s.parts), (occurs_below q s.parts).0)

  -- 4. a Commit or an Abort was said
  pub closes : ending s H who ≡ true → Closes s H flight who
  closes en =
      let t = settled en in
      let na = no_asks t.1 in
      let nv = no_votes t.2 in
      record {
        one = λ q i. ledger_ends q ∙ told_once s v H flight g who q i;
        mails =
            total who flight
            ∙ omega (arith, no_starts t.0, na.asks, na.answers, nv.prepares, nv.votes, end_sum, close_sum, sum_plus (λ q. flying flight q (ends_of who)) (λ q. flying flight p (closes_of who q)) tolds);
        waits = na.waits;
      }
    where
      inside : (q : ℕ) → 1 ≤ flying flight q (ends_of who) + flying flight p (closes_of who q) → occurs q tolds ≡ 1
      inside q h = told_one q (told_there s v H flight g who q (omega (arith, h, ledger_ends q)))

      end_sum : in_flight flight (ends_of who) ≡ sum_of (λ q. flying flight q (ends_of who)) tolds
      end_sum = spread (λ x. ends_of who x.msg) (λ q x. ends_of who x.msg && eqb x.to q) tolds flight (λ x i. to_one (ends_of who x.msg) x.to tolds (λ e. inside x.to (omega (arith, flies (ends_of who) x.to x i e refl))))

      close_sum : in_flight flight (closing_of who) ≡ sum_of (λ q. flying flight p (closes_of who q)) tolds
      close_sum =
          spread (λ x. closing_of who x.msg) (λ q x. closes_of who q x.msg && eqb x.to p) tolds flight
          (λ x i.
          of_one (closing_of who x.msg) (part_in x.msg) x.to p tolds (λ e. let a = close_at x i e in (a.1, inside (part_in x.msg) (omega (arith, flies (closes_of who (part_in x.msg)) p x i a.0 a.1))))
          ∙ sums x tolds)
        where
          sums : (x : Mail) (qs : List ℕ) → sum_of (λ q. one_if ((closing_of who x.msg && eqb (part_in x.msg) q) && eqb x.to p)) qs ≡ sum_of (λ q. one_if (closes_of who q x.msg && eqb x.to p)) qs
          sums x [] = refl
          sums x (q ∷ qs) = omega (arith, ap (λ b. one_if (b && eqb x.to p)) (closes_split q x.msg), sums x qs)

  start_sum : in_flight flight (starts_of who) ≡ flying flight p (starts_of who)
  start_sum = count_same (λ x. starts_of who x.msg) (sent_to p (starts_of who)) flight (λ x i. bool_same (starts_of who x.msg) (starts_of who x.msg && eqb x.to p) (λ e. and_true (starts_of who x.msg) (eqb x.to p) e (subst (λ z. eqb x.to z ≡ true) (start_at x i e) (same_part x.to))) (λ e. (and_parts (starts_of who x.msg) (eqb x.to p) e).0))

  abbrev only_part : Key → ℕ
  only_part key = partition_of key s.parts

  -- where one key is awaited
  one_awaited : (key : Key) → awaited key ≡ 1 → ((other : Key) → other ≢ key → awaited other ≡ 0) → in_flight flight (asking_of who) + in_flight flight (answering_of who) + waiting s H who ≡ 1
  one_awaited key one none = omega (arith, ask_sum, answer_sum, wait_sum, acc.accesses key, one)
    where
      -- what is not 0 is of the key
      is_key : (other : Key) → 1 ≤ awaited other → other ≡ key
      is_key other h = ⊎_elim (λ t. t.1) (λ t. absurd (omega (arith, h, none other t.1))) (key_tells other key)

      ask_key : (m : Msg) → asks_of who key m ≡ true → asking_of who m ≡ true
      ask_key (Ask y st k m) e = (and_parts (attempt_eq y who) (key_eq k key) e).0
      ask_key (Start y) e = absurd (true≢false (sym e))
      ask_key m e = absurd (true≢false (sym e))

      answer_key : (m : Msg) → answers_of who key m ≡ true → answering_of who m ≡ true
      answer_key (Granted y k r n b) e = (and_parts (attempt_eq y who) (key_eq k key) e).0
      answer_key (Refused y k c) e = (and_parts (attempt_eq y who) (key_eq k key) e).0
      answer_key (Start y) e = absurd (true≢false (sym e))
      answer_key m e = absurd (true≢false (sym e))

      ask_here : (x : Mail) → IsIn x flight → asking_of who x.msg ≡ true → (asks_of who key x.msg ≡ true) × (x.to ≡ only_part key)
      ask_here x i e =
          let a = ask_at x i e in
          let is = is_key a.0 (omega (arith, flies (asks_of who a.0) (only_part a.0) x i a.1 a.2, acc.accesses a.0)) in
          (subst (λ k. asks_of who k x.msg ≡ true) is a.1, a.2 ∙ ap only_part is)

      answer_here : (x : Mail) → IsIn x flight → answering_of who x.msg ≡ true → (answers_of who key x.msg ≡ true) × (x.to ≡ p)
      answer_here x i e =
          let a = answer_at x i e in
          let is = is_key a.0 (omega (arith, flies (answers_of who a.0) p x i a.1 a.2, acc.accesses a.0)) in
          (subst (λ k. answers_of who k x.msg ≡ true) is a.1, a.2)

      ask_sum : in_flight flight (asking_of who) ≡ flying flight (only_part key) (asks_of who key)
      ask_sum = count_same (λ x. asking_of who x.msg) (sent_to (only_part key) (asks_of who key)) flight (λ x i. bool_same (asking_of who x.msg) (asks_of who key x.msg && eqb x.to (only_part key)) (λ e. let a = ask_here x i e in and_true (asks_of who key x.msg) (eqb x.to (only_part key)) a.0 (subst (λ z. eqb x.to z ≡ true) a.1 (same_part x.to))) (λ e. ask_key x.msg (and_parts (asks_of who key x.msg) (eqb x.to (only_part key)) e).0))

      answer_sum : in_flight flight (answering_of who) ≡ flying flight p (answers_of who key)
      answer_sum = count_same (λ x. answering_of who x.msg) (sent_to p (answers_of who key)) flight (λ x i. bool_same (answering_of who x.msg) (answers_of who key x.msg && eqb x.to p) (λ e. let a = answer_here x i e in and_true (answers_of who key x.msg) (eqb x.to p) a.0 (subst (λ z. eqb x.to z ≡ true) a.1 (same_part x.to))) (λ e. answer_key x.msg (and_parts (answers_of who key x.msg) (eqb x.to p) e).0))

      wait_sum : waiting s H who ≡ wait_at key
      wait_sum =
          sum_at (λ q. waiting_of who (waits (hist q))) (only_part key) (numbers_below s.parts)
          (λ q ne. zero_if (waiting_of who (waits (hist q))) (λ h.
          let a = waiting_found who (waits (hist q)) h in
          let w = waits_here q a.0 a.1 a.2 in
          ne (sym w.0 ∙ ap only_part (is_key a.0.key (omega (arith, w.1, acc.accesses a.0.key))))))
          (omega (arith, (occurs_below (only_part key) s.parts).0, occurs_there (only_part key) (numbers_below s.parts) (in_below (only_part key) s.parts (part_below key s.parts v.parts))))
          ∙ waiting_key who key (waits (hist (only_part key))) (λ a i e. let w = waits_here (only_part key) a i e in is_key a.key (omega (arith, w.1, acc.accesses a.key)))

  -- 2. begun, and no Prepare, Commit or Abort was said
  pub asks : begun s H who ≡ true → prepared s H who ≡ false → ending s H who ≡ false → Asks s H flight who
  asks be pr en = record {
    one = go (started_for who ms) refl;
    mails = total who flight ∙ omega (arith, nv.prepares, nv.votes, ne.ends, ne.closes);
  }
    where
      nv : NoVotes
      nv = no_votes (λ q. omega (arith, ledger_votes q, zero_if (prepares_to s v H flight g who q) (λ h. unprepared s v H flight g who pr q h)))

      ne : NoEnds
      ne = no_ends (λ q. omega (arith, ledger_ends q, unending en q))

      by_start : started_for who ms ≡ false → 1 ≤ flying flight p (starts_of who)
      by_start off =
          ⊎_elim
          (λ st. absurd (true≢false (sym st ∙ off)))
          (λ m. let e : starts_of who m.0.msg ≡ true = subst (λ z. starts_of who z ≡ true) (sym m.2) self in flies (starts_of who) p m.0 m.1 e (start_at m.0 m.1 e))
          (begun_cases s H flight who (sym (begun_is s v H flight g who) ∙ be))

      go : (b : Bool) → started_for who ms ≡ b → in_flight flight (starts_of who) + in_flight flight (asking_of who) + in_flight flight (answering_of who) + waiting s H who ≡ 1
      go false off =
          let na = no_asks (λ key. ap (λ z. cond (z && not (refused_for who ms)) (is_for key (slice_get all got)) 0) off) in
          omega (arith, start_sum, by_start off, acc.starts, na.asks, na.answers, na.waits)
      go true st = next (slice_get all got) refl
        where
          ids : IsIn who.txn s.ids
          ids = started_ids s p who ms (g.fit p) st

          unrefused : refused_for who ms ≡ false
          unrefused = off_if (refused_for who ms) (λ r.
              let t = told_some s v H flight g who ms ids in
              let i : IsIn t.0 (asked_partitions s ms who) = subst (λ b. IsIn t.0 (cond b (asked_partitions s ms who) (participants s who))) r t.1 in
              let n : occurs t.0 (asked_partitions s ms who) + cond (all_voted (votes_for who ms) (participants s who)) (occurs t.0 (participants s who)) 0 ≡ 0
              = subst (λ b. cond b (occurs t.0 (asked_partitions s ms who)) 0 + cond (all_voted (votes_for who ms) (participants s who)) (occurs t.0 (participants s who)) 0 ≡ 0) r (unending en t.0) in
              omega (arith, n, occurs_there t.0 (asked_partitions s ms who) i))

          not_full : got ≡ length all → ⊥
          not_full full =
              let t = told_some s v H flight g who ms ids in
              let i : IsIn t.0 (participants s who) = subst (λ b. IsIn t.0 (cond b (asked_partitions s ms who) (participants s who))) unrefused t.1 in
              unprepared s v H flight g who pr t.0 (subst (λ b. 1 ≤ cond b (occurs t.0 (participants s who)) 0) (sym (subst (λ n. eqb got n ≡ true) full (same_part got))) (occurs_there t.0 (participants s who) i))

          get_some : (xs : List Access) (n : ℕ) → n < length xs → slice_get xs n ≡ None → ⊥
          get_some [] n h e = omega (arith, h)
          get_some (x ∷ xs) zero h e = cc
          get_some (x ∷ xs) (suc n) h e = get_some xs n (omega (arith, h)) e

          asked_for : (key : Key) (o : Option Access) → slice_get all got ≡ o → awaited key ≡ is_for key o
          asked_for key o e = rw (st, unrefused, e)

          next : (o : Option Access) → slice_get all got ≡ o → in_flight flight (starts_of who) + in_flight flight (asking_of who) + in_flight flight (answering_of who) + waiting s H who ≡ 1
          next None e = absurd (get_some all got (less (got_bound s p who ms (g.fit p)) not_full) e)
            where
              less : {a b : ℕ} → a ≤ b → (a ≡ b → ⊥) → a < b
              less h ne = grind (arith, h, ne)
          next (Some a) e =
              let w = one_awaited a.key (asked_for a.key (Some a) e ∙ ap (λ b. cond b 1 0) (key_self a.key)) (λ other no'. asked_for other (Some a) e ∙ ⊎_elim (λ t. absurd (no' (sym t.1))) (λ t. ap (λ b. cond b 1 0) t.0) (key_tells a.key other)) in
              omega (arith, no_starts st, w)

  -- each partition that was told has replied
  pub replied : (q : ℕ) (qs : List ℕ) → list_all (has_replied s H who) qs ≡ true → IsIn q qs → 1 ≤ count_msgs (closes_of who q) ms
  replied q [] f j = absurd j
  replied q (r ∷ qs) f j =
      let b = and_parts (has_replied s H who r) (list_all (has_replied s H who) qs) f in
      ⊎_elim
      (λ (is : q ≡ r). counted_any (closes_of who q) ms (subst (λ z. has_replied s H who z ≡ true) (sym is) b.0))
      (λ k. replied q qs b.1 k)
      j

  -- 1. not begun, or ended everywhere
  pub idle : (begun s H who && not (ended_everywhere s H who)) ≡ false → Idle s H flight who
  idle e = go (begun s H who) refl e
    where
      unbegun : begun s H who ≡ false → Idle s H flight who
      unbegun off = record { mails = total who flight ∙ omega (arith, none_start, na.asks, na.answers, nv.prepares, nv.votes, ne.ends, ne.closes); waits = na.waits }
        where
          unstart : started_for who ms ≡ true → ⊥
          unstart st = true≢false (sym (begun_is s v H flight g who ∙ started_begun s H flight who st) ∙ off)

          st : started_for who ms ≡ false
          st = off_if (started_for who ms) unstart

          none_start : in_flight flight (starts_of who) ≡ 0
          none_start = count_none (λ x. starts_of who x.msg) flight (λ x i e. true≢false (sym (begun_is s v H flight g who ∙ flies_begun s v H flight g who x i e) ∙ off))

          na : NoAsks
          na = no_asks (λ key. ap (λ z. cond (z && not (refused_for who ms)) (is_for key (slice_get all got)) 0) st)

          nothing : got ≡ 0
          nothing = ap length (unstarted s p who ms (g.fit p) st)

          none_prepared : (q : ℕ) (as' : List Access) → cond (eqb 0 (length as')) (occurs q (partitions_of s.parts as')) 0 ≡ 0
          none_prepared q [] = zero_if (occurs q (partitions_of s.parts [])) (λ h. no_participant s.parts q (occurs_in q (partitions_of s.parts []) h))
          none_prepared q (a ∷ as') = grind (arith, nat_tests)

          nv : NoVotes
          nv = no_votes (λ q. omega (arith, ledger_votes q, ap (λ n. cond (eqb n (length all)) (occurs q (participants s who)) 0) nothing, none_prepared q all))

          ended_none : (q : ℕ) → ends_to s v H flight g who q ≡ 0
          ended_none q =
              let r : refused_for who ms ≡ false = off_if (refused_for who ms) (λ x. unstart (refused_started s p who ms (g.fit p) x)) in
              omega (arith, ap (λ b. cond b (occurs q (asked_partitions s ms who)) 0) r, none_voted (votes_for who ms) q (participants s who) (λ x y. unstart ((phase s v H flight g who).voted x y).0.0))

          ne : NoEnds
          ne = no_ends (λ q. omega (arith, ledger_ends q, ended_none q))

      ended : ended_everywhere s H who ≡ true → Idle s H flight who
      ended e =
          let b = and_parts (ending s H who) (list_all (has_replied s H who) tolds) e in
          let c = closes b.0 in
          record {
            mails = c.mails ∙ sum_zero (λ q. flying flight q (ends_of who) + flying flight p (closes_of who q)) tolds (λ q i. omega (arith, c.one q i, replied q tolds b.1 i));
            waits = c.waits;
          }

      go : (b : Bool) → begun s H who ≡ b → (b && not (ended_everywhere s H who)) ≡ false → Idle s H flight who
      go false off e = unbegun off
      go true on e = ended (flip (ended_everywhere s H who) e)
        where
          flip : (b : Bool) → not b ≡ false → b ≡ true
          flip true e = refl
          flip false e = absurd (true≢false e)
