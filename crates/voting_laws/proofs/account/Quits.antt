-- In a quiet run a started attempt waits, or all its Done or all its Undone came.
use Rattle.std.proofs.Common.{◌≡◌, ◌≢◌, ◌⊎◌, ℕ, zero, suc, ◌+◌, ◌<◌, ◌≤◌, leb, List, [], ◌∷◌, ◌++◌, length, slice_get, Bool, true, false, cond, ◌||◌, eqb, refl, sym, ap, ◌∙◌, subst, inl, inr, ⊎_elim, arith, Option, Some, None, true≢false}
use Rattle.std.specs.List.{list_any}
use Rattle.std.proofs.lemmas.Bool.Decides.{nat_tests, eqb_tells}
use Rattle.deneva_base.specs.declared.keys.Key.{Key}
use Rattle.deneva_base.specs.declared.numbers.TxnId.{TxnId}
use Rattle.deneva_base.specs.declared.numbers.Attempt.{Attempt}
use Rattle.deneva_base.specs.declared.numbers.Number.{Number}
use Rattle.deneva_base.specs.Lists.{IsIn}
use Rattle.deneva_base.specs.Keys.{attempt_eq}
use Rattle.deneva_base.specs.declared.causes.Cause.{Cause}
use Rattle.protocol_rules.specs.History.{History, Asked, Grant, asks, grants, waits, ended, aborted, IsUnended, Conflict}
use Rattle.deneva_base.proofs.Membership.{in_left, in_right, in_cases, in_map, filter_in, in_filter, and_parts, and_true, attempt_tells, attempt_decides, key_tells}
use Rattle.protocol_rules.proofs.Sound.{sound}
use Rattle.server_core.specs.declared.messages.Msg.{Msg}
use Rattle.server_core.specs.declared.messages.Msg.TheVariants.{Start, Ask, Granted, Commit, Abort, Done, Undone}
use Rattle.server_core.specs.declared.messages.Mail.{Mail}
use Rattle.server_core.specs.declared.messages.Entry.{Entry}
use Rattle.server_core.specs.Setting.{Setting, home, homes, home_in, partitions_of, take_first, loaded_at, rule_at, participants}
use Rattle.deneva_base.specs.declared.keys.Access.{Access}
use Rattle.server_core.specs.Received.{grants_for, votes_for, refused_for, closes_for, started_for, all_voted, all_closed}
use Rattle.server_core.specs.declared.ballots.Ballot.{Ballot}
use Rattle.txn_program.specs.Transactions.{numbers_below}
use Rattle.deneva_base.specs.Partitions.{partition_of}
use Rattle.server_core.specs.Coordinator.{told, asked_partitions, first_no, decision, greatest_lo, least_hi, overs}
use Rattle.server_core.specs.Stamps.{stamp_from, stamped}
use Rattle.server_core.specs.Participant.{calls, mail_home}
use Rattle.server_core.specs.Voting.{says, opening, first_starts}
use Rattle.server_core.specs.VotingFits.{Suits, AllFit, HasAll, IsAborted, Decides}
use Rattle.server_core.specs.Proper.{Valid, keys_in, ids_in}
use Rattle.server_core.specs.Runs.{Saying, heard, Reaches}
use Rattle.server_core.specs.Counts.{all_said, count_msgs}
use Rattle.server_core.specs.Limits.{sum_of}
use Rattle.server_core.specs.declared.outcomes.Giveup.{Giveup}
use Rattle.server_core.specs.AttemptEnds.{attempt, dones_for, undones_for, all_done, all_undone, done_turn}
use Rattle.server_core.specs.Lines.{sort_lines, giveups_of, line_of, line_if, lines}
use Rattle.server_core.proofs.serial.SerialWords.{IsDecidedIn, IsGivenUpIn}
use Rattle.protocol_rules.specs.Waits.{WaitsLaw, Nothing, ForYounger, ForWriter}
use Rattle.server_core.proofs.counts.Conserved.{handled}
use Rattle.server_core.proofs.counts.Quiet.{is_ask, is_answer, is_end}
use Rattle.server_core.proofs.counts.Prepares.{occurs, slice_some}
use Rattle.server_core.proofs.values.Origins.{started_ids}
use Rattle.server_core.proofs.counts.Starts.{ids_take, started_turn, turn_bound}
use Rattle.voting_laws.proofs.fits.Heard.{key_in, keys_more, answers_heard, votes_heard}
use Rattle.server_core.proofs.values.Called.{obeys, knows, traces, access_of, grant_access, ask_heard, in_waiting}
use Rattle.server_core.proofs.values.Values.{find_msg, done_made, is_done, heard_mail, key_there}
use Rattle.voting_laws.proofs.fits.Joins.{heard_decided}
use Rattle.voting_laws.proofs.fits.Lands.{lands, handled_heard, msg_counted}
use Rattle.server_core.proofs.values.EarlierTurns.{not_both}
use Rattle.server_core.proofs.lists.Parts.{parts_in, in_below, part_below}
use Rattle.voting_laws.proofs.fits.Conditions.{asker, aborted_call}
use Rattle.voting_laws.proofs.fits.Account.{Good, said_at, ask_ledger, prepare_ledger, end_ledger, answer_ledger, vote_ledger, abort_flies, keys_take, ids_filter}
use Rattle.voting_laws.proofs.fits.Every.{decided, everywhere}
use Rattle.server_core.proofs.values.Closed.{flat_in, closed_there}
use Rattle.voting_laws.proofs.serial.Lines.{all_there, heard_done, done_turn_some, done_turn_is, done_said, done_commit}
use Rattle.voting_laws.proofs.serial.SerialOutcomes.{all_undone_aborted, undone_heard}
use Rattle.server_core.proofs.serial.SortedLines.{in_sorted}
use Rattle.voting_laws.proofs.numbers.Events.{pigeon, sum_under, sum_ones}
use Rattle.server_core.proofs.values.Closings.{over_ids, overs_count, Ends, closed_ends, undone_said, next_said}

pub heard_undone : (who : Attempt) (q : ℕ) (ms : List Msg) → IsIn (Undone who q) ms → IsIn q (undones_for who ms)
heard_undone who q [] i = absurd i
heard_undone who q (Undone x part ∷ ms) i =
    ⊎_elim
    (λ (e : Undone who q ≡ Undone x part). let is_who : who ≡ x = cc in let is_part : q ≡ part = cc in ⊎_elim (λ t. rw t.0 (inl is_part)) (λ t. absurd (t.1 (sym is_who))) (attempt_tells x who))
    (λ r. let h = heard_undone who q ms r in ⊎_elim (λ t. rw t.0 (inr h)) (λ t. rw t.0 h) (attempt_tells x who))
    i
heard_undone who q (Ask x st k m ∷ ms) i = heard_undone who q ms (⊎_elim (λ e. absurd (cc (e))) (λ r. r) i)
heard_undone who q (m ∷ ms) i = heard_undone who q ms (⊎_elim (λ e. absurd (cc (e))) (λ r. r) i)

-- Done and Undone are closes
pub dones_close : (who : Attempt) (q : ℕ) (ms : List Msg) → IsIn q (dones_for who ms) → IsIn q (closes_for who ms)
dones_close who q [] i = i
dones_close who q (Done x part ∷ ms) i = go (attempt_eq x who) i (dones_close who q ms)
  where
    go : (b : Bool) → IsIn q (cond b (part ∷ dones_for who ms) (dones_for who ms)) → (IsIn q (dones_for who ms) → IsIn q (closes_for who ms)) → IsIn q (cond b (part ∷ closes_for who ms) (closes_for who ms))
    go true i next = ⊎_elim (λ e. inl e) (λ r. inr (next r)) i
    go false i next = next i
dones_close who q (Undone x part ∷ ms) i = go (attempt_eq x who) (dones_close who q ms i)
  where
    go : (b : Bool) → IsIn q (closes_for who ms) → IsIn q (cond b (part ∷ closes_for who ms) (closes_for who ms))
    go true i = inr i
    go false i = i
dones_close who q (Start x ∷ ms) i = dones_close who q ms i
dones_close who q (m ∷ ms) i = dones_close who q ms i

pub undones_close : (who : Attempt) (q : ℕ) (ms : List Msg) → IsIn q (undones_for who ms) → IsIn q (closes_for who ms)
undones_close who q [] i = i
undones_close who q (Undone x part ∷ ms) i = go (attempt_eq x who) i (undones_close who q ms)
  where
    go : (b : Bool) → IsIn q (cond b (part ∷ undones_for who ms) (undones_for who ms)) → (IsIn q (undones_for who ms) → IsIn q (closes_for who ms)) → IsIn q (cond b (part ∷ closes_for who ms) (closes_for who ms))
    go true i next = ⊎_elim (λ e. inl e) (λ r. inr (next r)) i
    go false i next = next i
undones_close who q (Done x part ∷ ms) i = go (attempt_eq x who) (undones_close who q ms i)
  where
    go : (b : Bool) → IsIn q (closes_for who ms) → IsIn q (cond b (part ∷ closes_for who ms) (closes_for who ms))
    go true i = inr i
    go false i = i
undones_close who q (Start x ∷ ms) i = undones_close who q ms i
undones_close who q (m ∷ ms) i = undones_close who q ms i

pub got_bound : (s : Setting) (p : ℕ) (who : Attempt) (ms : List Msg) → AllFit s p ms → length (grants_for who ms) ≤ length (s.accesses who.txn)
got_bound s p who [] fit = omega arith
got_bound s p who (Granted x k r n b ∷ ms) fit =
    ⊎_elim
    (λ (t : (attempt_eq x who ≡ true) × (x ≡ who)).
    let own : Suits s p fit.0.0 (Granted who k r n b) ms = subst (λ y. Suits s p fit.0.0 (Granted y k r n b) ms) t.1 fit.0.1 in
    rw t.0 (slice_some (s.accesses who.txn) (length (grants_for who ms)) (record { key = k; mode = own.2.0 }) own.2.1.2))
    (λ t. rw t.0 (got_bound s p who ms fit.1))
    (attempt_tells x who)
got_bound s p who (Start x ∷ ms) fit = got_bound s p who ms fit.1
got_bound s p who (m ∷ ms) fit = got_bound s p who ms fit.1

in_occurs : (q : ℕ) (xs : List ℕ) → IsIn q xs → 1 ≤ occurs q xs
in_occurs q [] i = absurd i
in_occurs q (x ∷ xs) i = ⊎_elim (λ (is : q ≡ x). ⊎_elim (λ t. rw t.0 (omega arith)) (λ t. absurd (t.1 (sym is))) (eqb_tells x q)) (λ r. omega (arith, in_occurs q xs r)) i

voted_by : (bs : List Ballot) (qs : List ℕ) → ((q : ℕ) → IsIn q qs → list_any (λ (b : Ballot). eqb b.part q) bs ≡ true) → all_voted bs qs ≡ true
voted_by bs [] h = refl
voted_by bs (q ∷ qs) h = and_true (list_any (λ (b : Ballot). eqb b.part q) bs) (all_voted bs qs) (h q (inl refl)) (voted_by bs qs (λ r i. h r (inr i)))

-- each opening mail is in flight or was handled
pub opens_land : (says : Saying) (opening : List Mail) (H : List Entry) (flight : List Mail) → Reaches says opening H flight → (x : Mail) → IsIn x opening → IsIn x flight ⊎ IsIn x (handled H)
opens_land says opening [] flight run x i = inl (subst (λ l. IsIn x l) (sym run) i)
opens_land says opening (e ∷ H) flight run x i = go (opens_land says opening H run.0 run.4 x i)
  where
    go : IsIn x run.0 ⊎ IsIn x (handled H) → IsIn x flight ⊎ IsIn x (handled (e ∷ H))
    go h =
        ⊎_elim
        (λ f. ⊎_elim
        (λ a. inl (subst (λ l. IsIn x l) (sym run.3.left) (in_left x (run.3.front ++ run.3.back) (says run.1.to (run.1.msg ∷ heard run.1.to H)) (in_left x run.3.front run.3.back a))))
        (λ r. ⊎_elim
        (λ (is : x ≡ run.1). inr (inl (is ∙ ap (λ (y : Entry). record { from = y.from; to = y.node; msg = y.msg }) (sym run.2))))
        (λ b. inl (subst (λ l. IsIn x l) (sym run.3.left) (in_left x (run.3.front ++ run.3.back) (says run.1.to (run.1.msg ∷ heard run.1.to H)) (in_right x run.3.front run.3.back b))))
        r)
        (in_cases x run.3.front (run.1 ∷ run.3.back) (subst (λ l. IsIn x l) run.3.stood f)))
        (λ r. inr (inr r))
        h

pub start_heard : (who : Attempt) (ms : List Msg) → IsIn (Start who) ms → started_for who ms ≡ true
start_heard who [] i = absurd i
start_heard who (Start x ∷ ms) i =
    ⊎_elim
    (λ (e : Start who ≡ Start x). let is : who ≡ x = cc in ⊎_elim (λ t. rw t.0) (λ t. absurd (t.1 (sym is))) (attempt_tells x who))
    (λ r. or_right (attempt_eq x who) (start_heard who ms r))
    i
  where
    or_right : (a : Bool) {b : Bool} → b ≡ true → (a || b) ≡ true
    or_right true e = refl
    or_right false e = e
start_heard who (Ask x st k m ∷ ms) i = start_heard who ms (⊎_elim (λ e. absurd (cc (e))) (λ r. r) i)
start_heard who (m ∷ ms) i = start_heard who ms (⊎_elim (λ e. absurd (cc (e))) (λ r. r) i)

module _ (s : Setting) (v : Valid s) (H : List Entry) (g : Good s H []) where
  abbrev hist : ℕ → History
  hist q = calls s q (heard q H)

  -- in a quiet run what was said was handled
  handled_said : (p : ℕ) (x : Mail) → IsIn x (all_said (says s) p (heard p H)) → IsIn x.msg (heard x.to H)
  handled_said p x i = ⊎_elim (λ f. absurd f) (λ h. handled_heard H x h) (lands (says s) (opening s) H [] g.run p x i)

  module _ (who : Attempt) (st : started_for who (heard (home s who.txn) H) ≡ true) where
    abbrev ms : List Msg
    ms = heard (home s who.txn) H

    abbrev acc : List Access
    acc = s.accesses who.txn

    abbrev n : ℕ
    n = length (grants_for who ms)

    -- each end that was said was handled, of one kind
    end_at : (q : ℕ) → 1 ≤ cond (refused_for who ms) (occurs q (asked_partitions s ms who)) 0 + cond (all_voted (votes_for who ms) (participants s who)) (occurs q (participants s who)) 0 → ((k : Number) × IsIn (Commit who k) (heard q H)) ⊎ IsIn (Abort who) (heard q H)
    end_at q h =
        let m = find_msg (is_end who) (heard q H) (omega (arith, h, end_ledger s v H [] g who q)) in
        kind m.0 m.1 m.2
      where
        kind : (m : Msg) → IsIn m (heard q H) → is_end who m ≡ true → ((k : Number) × IsIn (Commit who k) (heard q H)) ⊎ IsIn (Abort who) (heard q H)
        kind (Commit y k) i e = inl (k, subst (λ z. IsIn (Commit z k) (heard q H)) ((attempt_decides y who).0 e) i)
        kind (Abort y) i e = inr (subst (λ z. IsIn (Abort z) (heard q H)) ((attempt_decides y who).0 e) i)
        kind (Start y) i e = absurd (true≢false (sym e))
        kind m i e = absurd (true≢false (sym e))

    no_commit : (q : ℕ) → IsAborted s ms who → ((k : Number) × IsIn (Commit who k) (heard q H)) → ⊥
    no_commit q a c = not_both s ms who c.0 a (decided s v H [] g who c.0 q c.1).0

    undone_at : (q : ℕ) → IsIn (Abort who) (heard q H) → IsIn q (undones_for who ms)
    undone_at q i = heard_undone who q ms (handled_said q (mail_home s q who (Undone who q)) (undone_said s (home s who.txn) who q (heard q H) i))

    all_undone_by : ((q : ℕ) → IsIn q (told s ms who) → IsIn (Abort who) (heard q H)) → all_undone s H who ≡ true
    all_undone_by h = and_true (started_for who ms) (all_closed (undones_for who ms) (told s ms who)) st (all_there (undones_for who ms) (told s ms who) (λ q i. undone_at q (h q i)))

    if_refused : refused_for who ms ≡ true → all_undone s H who ≡ true
    if_refused r = all_undone_by (λ q i. ⊎_elim (λ c. absurd (no_commit q (inl r) c)) (λ a. a) (end_at q (told_counts q (subst (λ b. IsIn q (cond b (asked_partitions s ms who) (participants s who))) r i))))
      where
        told_counts : (q : ℕ) → IsIn q (asked_partitions s ms who) → 1 ≤ cond (refused_for who ms) (occurs q (asked_partitions s ms who)) 0 + cond (all_voted (votes_for who ms) (participants s who)) (occurs q (participants s who)) 0
        told_counts q i = rw r (omega (arith, in_occurs q (asked_partitions s ms who) i))

    if_asking : refused_for who ms ≡ false → n < length acc → (q : ℕ) × (a : Asked) × IsIn a (waits (hist q)) × (a.who ≡ who)
    if_asking r lt = go (slice_get acc n) refl
      where
        some_at : (xs : List Access) (i : ℕ) → i < length xs → slice_get xs i ≡ None → ⊥
        some_at [] i l e = omega (arith, l)
        some_at (x ∷ xs) zero l e = cc (e)
        some_at (x ∷ xs) (suc i) l e = some_at xs i (omega (arith, l)) e

        go : (o : Option Access) → slice_get acc n ≡ o → (q : ℕ) × (a : Asked) × IsIn a (waits (hist q)) × (a.who ≡ who)
        go None e = absurd (some_at acc n lt e)
        go (Some a) e =
            let more : keys_in a.key (take_first (suc n) acc) ≡ keys_in a.key (take_first n acc) + 1 = keys_more a.key n acc ∙ ap (λ k. keys_in a.key (take_first n acc) + k) (ap (key_in a.key) e ∙ own) in
            let most : keys_in a.key (take_first (suc n) acc) ≤ 1 = omega (arith, keys_take a.key (suc n) acc, v.keys who.txn a.key) in
            let asked : count_msgs (is_ask who a.key) (heard (partition_of a.key s.parts) H) ≡ keys_in a.key (take_first (suc n) acc) = omega (arith, ask_ledger s v H [] g who a.key ∙ ap (λ b. cond b (keys_in a.key (take_first (suc n) acc)) 0) st) in
            let came : count_msgs (is_answer who a.key) ms ≡ keys_in a.key (take_first n acc) + 0 = answers_heard s (home s who.txn) who a.key ms (g.fit (home s who.txn)) ∙ ap (λ b. keys_in a.key (take_first n acc) + cond b (key_in a.key (slice_get acc n)) 0) r in
            let w = in_waiting who a.key (waits (hist (partition_of a.key s.parts))) (omega (arith, answer_ledger s v H [] g who a.key, asked, came, more, most)) in
            (partition_of a.key s.parts, w.0, w.1, w.2)
          where
            own : key_in a.key (Some a) ≡ 1
            own = ⊎_elim (λ t. rw t.0) (λ t. absurd (t.1 refl)) (key_tells a.key a.key)

    -- all votes came
    votes_came : n ≡ length acc → all_voted (votes_for who ms) (participants s who) ≡ true
    votes_came full = voted_by (votes_for who ms) (participants s who) (λ q i. one (list_any (λ (b : Ballot). eqb b.part q) (votes_for who ms)) (omega (
      arith,
      votes_heard s (home s who.txn) who q ms (g.fit (home s who.txn)),
      vote_ledger s v H [] g who q,
      prepare_ledger s v H [] g who q ∙ ap (λ b. cond b (occurs q (participants s who)) 0) (same n (length acc) full),
      in_occurs q (participants s who) i,
    )))
      where
        one : (b : Bool) → 1 ≤ cond b 1 0 → b ≡ true
        one true h = refl
        one false h = absurd (omega (arith, h))

        same : (a b : ℕ) → a ≡ b → eqb a b ≡ true
        same a b e = grind (arith, nat_tests, e)

    decisions : (bs : List Ballot) (o : Option (ℕ × Cause)) → ((k : Number) × (decision who bs o ≡ Commit who k)) ⊎ (decision who bs o ≡ Abort who)
    decisions bs (Some c) = inr refl
    decisions bs None = either (leb (greatest_lo bs) (least_hi bs))
      where
        either : (b : Bool) → ((k : Number) × (cond b (Commit who (record { n = greatest_lo bs; id = who.txn })) (Abort who) ≡ Commit who k)) ⊎ (cond b (Commit who (record { n = greatest_lo bs; id = who.txn })) (Abort who) ≡ Abort who)
        either true = inl (record { n = greatest_lo bs; id = who.txn }, refl)
        either false = inr refl

    if_full : refused_for who ms ≡ false → n ≡ length acc → (all_done s H who ≡ true) ⊎ (all_undone s H who ≡ true)
    if_full r full =
        let av = votes_came full in
        let polled : HasAll s ms who × (all_voted (votes_for who ms) (participants s who) ≡ true) = ((st, r, full), av) in
        ⊎_elim
        (λ d. inl (and_true (started_for who ms) (all_closed (dones_for who ms) (participants s who)) st (all_there (dones_for who ms) (participants s who) (λ q i. done_at q (⊎_elim (λ c. c) (λ a. absurd (no_abort q d.0 (polled, d.1) a)) (end_at q (counts q av i)))))))
        (λ d. inr (all_undone_by (λ q i. ⊎_elim (λ c. absurd (no_commit q (inr (polled, d)) c)) (λ a. a) (end_at q (counts q av (subst (λ b. IsIn q (cond b (asked_partitions s ms who) (participants s who))) r i))))))
        (decisions (votes_for who ms) (first_no None (votes_for who ms)))
      where
        counts : (q : ℕ) → all_voted (votes_for who ms) (participants s who) ≡ true → IsIn q (participants s who) → 1 ≤ cond (refused_for who ms) (occurs q (asked_partitions s ms who)) 0 + cond (all_voted (votes_for who ms) (participants s who)) (occurs q (participants s who)) 0
        counts q av i = rw av (omega (arith, in_occurs q (participants s who) i))

        done_at : (q : ℕ) → ((k : Number) × IsIn (Commit who k) (heard q H)) → IsIn q (dones_for who ms)
        done_at q c = heard_done who q ms (handled_said q (mail_home s q who (Done who q)) (done_said s q who c.0 (heard q H) c.1))

        no_abort : (q : ℕ) (k : Number) → Decides s ms who (Commit who k) → IsIn (Abort who) (heard q H) → ⊥
        no_abort q k d i = let h = heard_mail q H (Abort who) i in not_both s ms who k (abort_flies s v H [] g who h.0 (inr h.1) h.2) d

    -- a started attempt waits, or is done, or is undone
    pub three : ((q : ℕ) × (a : Asked) × IsIn a (waits (hist q)) × (a.who ≡ who)) ⊎ ((all_done s H who ≡ true) ⊎ (all_undone s H who ≡ true))
    three = go (refused_for who ms) refl
      where
        low : n ≢ length acc → n < length acc
        low ne = omega (arith, ne, got_bound s (home s who.txn) who ms (g.fit (home s who.txn)))

        go : (b : Bool) → refused_for who ms ≡ b → ((q : ℕ) × (a : Asked) × IsIn a (waits (hist q)) × (a.who ≡ who)) ⊎ ((all_done s H who ≡ true) ⊎ (all_undone s H who ≡ true))
        go true r = inr (inr (if_refused r))
        go false r =
            ⊎_elim
            (λ (t : (eqb n (length acc) ≡ true) × (n ≡ length acc)). inr (if_full r t.1))
            (λ (t : (eqb n (length acc) ≡ false) × (n ≢ length acc)). inl (if_asking r (low t.1)))
            (eqb_tells n (length acc))

    -- where it asked it was told of its end
    told_of : (key : Key) → 1 ≤ count_msgs (is_ask who key) (heard (partition_of key s.parts) H) → IsIn (partition_of key s.parts) (told s ms who)
    told_of key one = go (refused_for who ms)
      where
        asked : 1 ≤ keys_in key (take_first (suc n) acc)
        asked = under (started_for who ms) (omega (arith, one, ask_ledger s v H [] g who key))
          where
            under : (b : Bool) {m : ℕ} → 1 ≤ cond b m 0 → 1 ≤ m
            under true h = h
            under false h = absurd (omega (arith, h))

        go : (b : Bool) → IsIn (partition_of key s.parts) (cond b (asked_partitions s ms who) (participants s who))
        go true = parts_in s.parts key (take_first (suc n) acc) v.parts asked
        go false = parts_in s.parts key acc v.parts (omega (arith, asked, keys_take key (suc n) acc))

    -- what is done or undone has ended where it was granted
    pub ended_there : (q : ℕ) (gr : Grant) → IsIn gr (grants (hist q)) → gr.who ≡ who → (all_done s H who ≡ true) ⊎ (all_undone s H who ≡ true) → IsIn who (ended (hist q))
    ended_there q gr i e h =
        let at = grant_access s v q (heard q H) gr (g.fit q) i in
        ⊎_elim
        (λ d.
        let c = done_commit s v H [] g who d in
        let here : IsIn q (participants s who) = subst (λ z. IsIn z (participants s who)) at.0 (parts_in s.parts gr.key acc v.parts (key_there gr.key gr.mode acc (subst (λ (y : Attempt). IsIn (record { key = gr.key; mode = gr.mode }) (s.accesses y.txn)) e at.1))) in
        let k = heard_decided s q (heard q H) who c.1.1 (everywhere s v H [] g refl who c.1.1 c.1.0 q c.1.2 here) in
        (sound (loaded_at s q) (rule_at s q) (hist q) (obeys s q (heard q H) (g.fit q))).ends (record { who = who; number = c.1.1 }) k)
        (λ d.
        let b = and_parts (started_for who ms) (all_closed (undones_for who ms) (told s ms who)) d in
        let a = (traces s v q (heard q H) (g.fit q)).asked gr i in
        let own : a.0.who ≡ who = a.2 ∙ e in
        let there = (access_of s q (heard q H) a.0 (g.fit q) a.1).0 in
        let one : 1 ≤ count_msgs (is_ask who a.0.key) (heard (partition_of a.0.key s.parts) H)
        = msg_counted (is_ask who a.0.key) (heard (partition_of a.0.key s.parts) H) (Ask a.0.who a.0.stamp a.0.key a.0.mode) (subst (λ z. IsIn (Ask a.0.who a.0.stamp a.0.key a.0.mode) (heard z H)) (sym there) (ask_heard s q (heard q H) a.0 a.1)) (grind (arith, attempt_tells a.0.who who, key_tells a.0.key a.0.key, own)) in
        let t : IsIn q (undones_for who ms) = closed_there (undones_for who ms) (told s ms who) q b.1 (subst (λ z. IsIn z (told s ms who)) there (told_of a.0.key one)) in
        let f = said_at s v H [] g who (home s who.txn) (Undone who q) (undone_heard who q ms t) (λ y x. absurd (cc (x))) in
        let r = done_made s v f.1 who (heard f.1 H) f.0 (subst (λ z. is_done s v f.1 who z ≡ true) (sym f.2) self) f.4 in
        ⊎_elim
        (λ (c : (number : Number) × (part : ℕ) × (f.0.msg ≡ Done who part) × IsIn (Commit who number) (heard f.1 H)). absurd (let k : Undone who q ≡ Done who c.1 = sym f.2 ∙ c.2 in cc (k)))
        (λ (c : (part : ℕ) × (f.0.msg ≡ Undone who part) × IsIn (Abort who) (heard f.1 H)). (knows s q (heard q H) (g.fit q)).stops who (subst (λ z. IsIn who (aborted (hist z))) (sym f.5.1) (aborted_call s f.1 who (heard f.1 H) c.2)))
        r)
        h
      where
        self : attempt_eq who who ≡ true
        self = ⊎_elim (λ t. t.0) (λ f. absurd (f.1 refl)) (attempt_tells who who)

  -- the stamp of a waiting access, and of a grant, is the attempt's
  stamp_known : (q r : ℕ) (a b : Asked) → IsIn a (asks (hist q)) → IsIn b (asks (hist r)) → a.who ≡ b.who → a.stamp ≡ b.stamp
  stamp_known q r a b i j e =
      let x = asker s v H [] g q a i in
      let y = asker s v H [] g r b j in
      x.1 ∙ ap (λ z. stamp_from s (home s z.txn) (heard (home s z.txn) H) (stamped s z)) e ∙ sym y.1

  waiting_asked : (q : ℕ) (a : Asked) → IsIn a (waits (hist q)) → IsIn a (asks (hist q))
  waiting_asked q a i = (knows s q (heard q H) (g.fit q)).asked a i

  -- an unended owner waits, with the same stamp
  owner_waits : (q : ℕ) (gr : Grant) → IsIn gr (grants (hist q)) → IsUnended (hist q) gr.who → (r : ℕ) × (b : Asked) × IsIn b (waits (hist r)) × (b.stamp ≡ gr.stamp)
  owner_waits q gr i u =
      let a = (traces s v q (heard q H) (g.fit q)).asked gr i in
      let k = asker s v H [] g q a.0 a.1 in
      let st : started_for gr.who (heard (home s gr.who.txn) H) ≡ true = subst (λ (y : Attempt). started_for y (heard (home s y.txn) H) ≡ true) a.2 k.0 in
      ⊎_elim
      (λ w. (w.0, w.1, w.2, stamp_known w.0 q w.1 a.0 (waiting_asked w.0 w.1 w.2) a.1 (w.3 ∙ sym a.2) ∙ a.5))
      (λ d. absurd (u (ended_there gr.who st q gr i refl d)))
      (three gr.who st)

  -- nobody waits
  pub none_waits : WaitsLaw s.rule → (top : ℕ) → ((q : ℕ) (a : Asked) → IsIn a (asks (hist q)) → a.stamp ≤ top) → (q : ℕ) (a : Asked) → IsIn a (waits (hist q)) → ⊥
  none_waits (Nothing law) top under q a i = law (loaded_at s q) (hist q) (obeys s q (heard q H) (g.fit q)) a i
  none_waits (ForYounger law) top under q a i = up (suc top) q a i (omega arith)
    where
      up : (fuel q : ℕ) (a : Asked) → IsIn a (waits (hist q)) → top < a.stamp + fuel → ⊥
      up zero q a i h = omega (arith, h, under q a (waiting_asked q a i))
      up (suc fuel) q a i h =
          ⊎_elim
          (λ (o : (gr : Grant) × IsIn gr (grants (hist q)) × IsUnended (hist q) gr.who × Conflict gr.who gr.key gr.mode a.who a.key a.mode × (a.stamp < gr.stamp)).
          let w = owner_waits q o.0 o.1 o.2 in up fuel w.0 w.1 w.2 (omega (arith, h, w.3, o.4)))
          (λ (b : (b : Asked) × IsIn b (waits (hist q)) × (b.key ≡ a.key) × (a.stamp < b.stamp)). up fuel q b.0 b.1 (omega (arith, h, b.3)))
          (law (loaded_at s q) (hist q) (obeys s q (heard q H) (g.fit q)) a i)
  none_waits (ForWriter law) top under q a i = down (suc a.stamp) q a i (omega arith)
    where
      down : (fuel q : ℕ) (a : Asked) → IsIn a (waits (hist q)) → a.stamp < fuel → ⊥
      down zero q a i h = omega (arith, h)
      down (suc fuel) q a i h =
          let o = (law (loaded_at s q) (hist q) (obeys s q (heard q H) (g.fit q)) a i).1 in
          let w = owner_waits q o.0 o.1 o.2 in
          down fuel w.0 w.1 w.2 (omega (arith, h, w.3, o.5))

  -- so each started transaction is over, and decided or given up
  module _ (none : (q : ℕ) (a : Asked) → IsIn a (waits (hist q)) → ⊥) where
    told_here : (who : Attempt) → IsIn who.txn s.ids → (q : ℕ) × IsIn q (told s (heard (home s who.txn) H) who)
    told_here who i = go (refused_for who (heard (home s who.txn) H)) (s.accesses who.txn) (v.some who.txn i)
      where
        go : (b : Bool) (as' : List Access) → 1 ≤ length as' → (q : ℕ) × IsIn q (cond b (partitions_of s.parts (take_first (suc (length (grants_for who (heard (home s who.txn) H)))) as')) (partitions_of s.parts as'))
        go b [] h = absurd (omega (arith, h))
        go true (a ∷ as') h = (partition_of a.key s.parts, parts_in s.parts a.key (a ∷ take_first (length (grants_for who (heard (home s who.txn) H))) as') v.parts (key_there a.key a.mode (a ∷ take_first (length (grants_for who (heard (home s who.txn) H))) as') (inl refl)))
        go false (a ∷ as') h = (partition_of a.key s.parts, parts_in s.parts a.key (a ∷ as') v.parts (key_there a.key a.mode (a ∷ as') (inl refl)))

    abbrev Over : TxnId → Type 0
    Over x = IsIn x (over_ids s (heard (home s x) H)) × (IsDecidedIn (sort_lines (lines s H)) x ⊎ IsGivenUpIn (giveups_of s H) x)

    -- one attempt is over, or the next turn was started
    one_turn : (who : Attempt) → started_for who (heard (home s who.txn) H) ≡ true → Over who.txn ⊎ ((who.turn < s.attempts) × (started_for (record { txn = who.txn; turn = suc who.turn }) (heard (home s who.txn) H) ≡ true))
    one_turn who st =
        ⊎_elim
        (λ w. absurd (none w.0 w.1 w.2))
        (λ d. ⊎_elim (λ a. inl (done a)) (λ a. undone a) d)
        (three who st)
      where
        ids : IsIn who.txn s.ids
        ids = started_ids s (home s who.txn) who (heard (home s who.txn) H) (g.fit (home s who.txn)) st

        low : 1 ≤ who.turn
        low = started_turn s (home s who.txn) who (heard (home s who.txn) H) (g.fit (home s who.txn)) st

        high : who.turn ≤ s.attempts
        high = turn_bound s (home s who.txn) who (heard (home s who.txn) H) v.attempts (g.fit (home s who.txn)) st

        ends : all_closed (closes_for who (heard (home s who.txn) H)) (told s (heard (home s who.txn) H) who) ≡ true → Ends s (home s who.txn) who (heard (home s who.txn) H)
        ends e = let t = told_here who ids in closed_ends s (home s who.txn) who (heard (home s who.txn) H) (g.fit (home s who.txn)) (record { all = e; some = t.0; here = t.1 })

        done : all_done s H who ≡ true → Over who.txn
        done d =
            let b = and_parts (started_for who (heard (home s who.txn) H)) (all_closed (dones_for who (heard (home s who.txn) H)) (participants s who)) d in
            let c = done_commit s v H [] g who d in
            let dec = (decided s v H [] g who c.1.1 c.1.0 c.1.2).0 in
            let is : told s (heard (home s who.txn) H) who ≡ participants s who = ap (λ r. cond r (asked_partitions s (heard (home s who.txn) H) who) (participants s who)) dec.0.0.1 in
            let e : all_closed (closes_for who (heard (home s who.txn) H)) (told s (heard (home s who.txn) H) who) ≡ true
            = subst (λ l. all_closed (closes_for who (heard (home s who.txn) H)) l ≡ true) (sym is) (all_there (closes_for who (heard (home s who.txn) H)) (participants s who) (λ q i. dones_close who q (heard (home s who.txn) H) (closed_there (dones_for who (heard (home s who.txn) H)) (participants s who) q b.1 i))) in
            (⊎_elim (λ o. o.0) (λ x. absurd (not_both s (heard (home s who.txn) H) who c.1.1 x.0 dec)) (ends e), inl decided_line)
          where
            decided_line : IsDecidedIn (sort_lines (lines s H)) who.txn
            decided_line =
                let w = done_turn_some s H who.txn s.attempts who.turn low high d in
                let is = done_turn_is s H who.txn s.attempts w.0 w.1 in
                (line_of s H w.0, in_sorted (line_of s H w.0) (lines s H) (flat_in (λ x. line_if s H (done_turn s H x s.attempts)) s.ids who.txn (line_of s H w.0) ids (subst (λ o. IsIn (line_of s H w.0) (line_if s H o)) (sym w.1) (inl refl))), is.0)

        undone_closed : all_undone s H who ≡ true → all_closed (closes_for who (heard (home s who.txn) H)) (told s (heard (home s who.txn) H) who) ≡ true
        undone_closed d =
            let b = and_parts (started_for who (heard (home s who.txn) H)) (all_closed (undones_for who (heard (home s who.txn) H)) (told s (heard (home s who.txn) H) who)) d in
            all_there (closes_for who (heard (home s who.txn) H)) (told s (heard (home s who.txn) H) who) (λ q i. undones_close who q (heard (home s who.txn) H) (closed_there (undones_for who (heard (home s who.txn) H)) (told s (heard (home s who.txn) H) who) q b.1 i))

        given : all_undone s H who ≡ true → who.turn ≡ s.attempts → IsGivenUpIn (giveups_of s H) who.txn
        given d e =
            let last : all_undone s H (attempt who.txn s.attempts) ≡ true = subst (λ n. all_undone s H (attempt who.txn n) ≡ true) e d in
            (record { id = who.txn; turns = s.attempts }, flat_in (λ x. cond (all_undone s H (attempt x s.attempts)) (record { id = x; turns = s.attempts } ∷ []) []) s.ids who.txn (record { id = who.txn; turns = s.attempts }) ids (subst (λ b. IsIn {A = Giveup} (record { id = who.txn; turns = s.attempts }) (cond b (record { id = who.txn; turns = s.attempts } ∷ []) [])) (sym last) (inl refl)), refl)

        undone : all_undone s H who ≡ true → Over who.txn ⊎ ((who.turn < s.attempts) × (started_for (record { txn = who.txn; turn = suc who.turn }) (heard (home s who.txn) H) ≡ true))
        undone d =
            ⊎_elim
            (λ o. inl (
              o.0,
              ⊎_elim
                  (λ c. absurd (not_both s (heard (home s who.txn) H) who c.0 (all_undone_aborted s v H [] g who d) c.1))
                  (λ l. inr (given d (omega (arith, l, high))))
                  o.1,
            ))
            (λ x. inr (x.1, start_heard (record { txn = who.txn; turn = suc who.turn }) (heard (home s who.txn) H) (handled_said (home s who.txn) (record { from = home s who.txn; to = home s who.txn; msg = Start (record { txn = who.txn; turn = suc who.turn }) }) x.2)))
            (ends (undone_closed d))

    over : (fuel : ℕ) (who : Attempt) → started_for who (heard (home s who.txn) H) ≡ true → s.attempts < who.turn + fuel → Over who.txn
    over zero who st le = absurd (omega (arith, le, turn_bound s (home s who.txn) who (heard (home s who.txn) H) v.attempts (g.fit (home s who.txn)) st))
    over (suc fuel) who st le = ⊎_elim (λ o. o) (λ x. over fuel (record { txn = who.txn; turn = suc who.turn }) x.1 (omega (arith, le))) (one_turn who st)

    pub started_over : (x : TxnId) → started_for (attempt x 1) (heard (home s x) H) ≡ true → Over x
    started_over x st = over s.attempts (attempt x 1) st (omega arith)

    -- and each transaction is started
    take_cases : {A : Type 0} (n : ℕ) (y : A) (ys : List A) → IsIn y (take_first (suc n) ys) → IsIn y (take_first n ys) ⊎ (slice_get ys n ≡ Some y)
    take_cases zero y [] i = absurd i
    take_cases zero y (z ∷ ys) i = ⊎_elim (λ e. inr (ap (λ w. Some w) (sym e))) (λ r. absurd r) i
    take_cases (suc n) y [] i = absurd i
    take_cases (suc n) y (z ∷ ys) i = ⊎_elim (λ e. inl (inl e)) (λ r. ⊎_elim (λ a. inl (inr a)) (λ b. inr b) (take_cases n y ys r)) i

    module _ (p : ℕ) (lt : p < s.parts) where
      abbrev here : List Msg
      here = heard p H

      abbrev mine : List TxnId
      mine = homes s p

      first_started : (y : TxnId) → IsIn y (take_first s.limit mine) → started_for (attempt y 1) here ≡ true
      first_started y i =
          let m : Mail = record { from = p; to = p; msg = Start (attempt y 1) } in
          let o : IsIn m (opening s) = flat_in (λ q. first_starts q (take_first s.limit (homes s q))) (numbers_below s.parts) p m (in_below p s.parts lt) (in_map (λ (x : TxnId). record { from = p; to = p; msg = Start (attempt x 1) }) y (take_first s.limit mine) i) in
          start_heard (attempt y 1) here (⊎_elim (λ f. absurd f) (λ h. handled_heard H m h) (opens_land (says s) (opening s) H [] g.run m o))

      early_started : (n : ℕ) → n ≤ overs s here → (y : TxnId) → IsIn y (take_first (s.limit + n) mine) → started_for (attempt y 1) here ≡ true
      early_started zero le y i = first_started y (subst (λ k. IsIn y (take_first k mine)) (plus s.limit) i)
        where
          plus : (n : ℕ) → n + 0 ≡ n
          plus n = omega arith
      early_started (suc n) le y i =
          ⊎_elim
          (λ a. early_started n (omega (arith, le)) y a)
          (λ e. start_heard (attempt y 1) here (handled_said p (record { from = p; to = p; msg = Start (attempt y 1) }) (next_said s p y n here (omega (arith, le)) e)))
          (take_cases (s.limit + n) y mine (subst (λ k. IsIn y (take_first k mine)) (plus s.limit n) i))
        where
          plus : (a b : ℕ) → a + suc b ≡ suc (a + b)
          plus a b = omega arith

      at_home' : (y : TxnId) → IsIn y mine → home s y ≡ p
      at_home' y i = is (home s y) p (filter_in (λ x. eqb (home s x) p) y s.ids i).1
        where
          is : (a b : ℕ) → eqb a b ≡ true → a ≡ b
          is a b e = grind (arith, nat_tests)

      taken_in : (n : ℕ) (y : TxnId) (ys : List TxnId) → IsIn y (take_first n ys) → IsIn y ys
      taken_in zero y ys i = absurd i
      taken_in (suc n) y [] i = absurd i
      taken_in (suc n) y (z ∷ ys) i = ⊎_elim (λ e. inl e) (λ r. inr (taken_in n y ys r)) i

      taken_length : {A : Type 0} (n : ℕ) (ys : List A) → (length ys < n → ⊥) → length (take_first n ys) ≡ n
      taken_length zero ys h = refl
      taken_length (suc n) [] h = absurd (h (omega arith))
      taken_length (suc n) (y ∷ ys) h = omega (arith, taken_length n ys (λ l. h (omega (arith, l))))

      taken_whole : {A : Type 0} (n : ℕ) (ys : List A) → length ys < n → take_first n ys ≡ ys
      taken_whole zero ys h = absurd (omega (arith, h))
      taken_whole (suc n) [] h = refl
      taken_whole (suc n) (y ∷ ys) h = ap (λ l. y ∷ l) (taken_whole n ys (omega (arith, h)))

      -- as many are over as were started
      over_length : length (take_first (s.limit + overs s here) mine) ≤ overs s here
      over_length =
          let ys : List TxnId = take_first (s.limit + overs s here) mine in
          let a : length ys ≤ sum_of (λ (o : TxnId). ids_in o ys) (over_ids s here)
          = pigeon (λ t xs. sum_of (λ x. cond (t x) 1 0) xs) (λ t. refl) (λ t x xs. refl) (λ (o x : TxnId). eqb x.0 o.0) (over_ids s here) ys (λ y i.
          let o = started_over y (subst (λ q. started_for (attempt y 1) (heard q H) ≡ true) (sym (at_home' y (taken_in (s.limit + overs s here) y mine i))) (early_started (overs s here) (omega arith) y i)) in
          (y, subst (λ q. IsIn y (over_ids s (heard q H))) (at_home' y (taken_in (s.limit + overs s here) y mine i)) o.0, same y.0)) in
          let b : sum_of (λ (o : TxnId). ids_in o ys) (over_ids s here) ≤ sum_of (λ (o : TxnId). 1) (over_ids s here)
          = sum_under (λ (o : TxnId). ids_in o ys) (λ o. 1) (over_ids s here) (λ o i. omega (arith, ids_take o (s.limit + overs s here) mine, ids_filter o (λ x. eqb (home s x) p) s.ids, v.once o)) in
          omega (arith, a, b, sum_ones (over_ids s here), overs_count s here)
        where
          same : (n : ℕ) → eqb n n ≡ true
          same n = grind (arith, nat_tests)

      all_started : (x : TxnId) → IsIn x mine → started_for (attempt x 1) here ≡ true
      all_started x i =
          ⊎_elim
          (λ (h : length mine < s.limit + overs s here). early_started (overs s here) (omega arith) x (subst (λ l. IsIn x l) (sym (taken_whole (s.limit + overs s here) mine h)) i))
          (λ h. absurd (omega (arith, taken_length (s.limit + overs s here) mine h, over_length, v.limit)))
          (either (length mine) (s.limit + overs s here))
        where
          either : (a b : ℕ) → (a < b) ⊎ (a < b → ⊥)
          either a b = grind arith

    pub all_over : (x : TxnId) → IsIn x s.ids → IsDecidedIn (sort_lines (lines s H)) x ⊎ IsGivenUpIn (giveups_of s H) x
    all_over x i = (started_over x (all_started (home s x) (home_below x) x (in_filter (λ y. eqb (home s y) (home s x)) x s.ids i (same (home s x))))).1
      where
        same : (n : ℕ) → eqb n n ≡ true
        same n = grind (arith, nat_tests)

        home_below : (y : TxnId) → home s y < s.parts
        home_below y = go (s.accesses y)
          where
            go : (as' : List Access) → home_in s.parts as' < s.parts
            go [] = v.parts
            go (c ∷ as') = part_below c.key s.parts v.parts
