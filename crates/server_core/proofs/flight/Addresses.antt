-- Each mail in flight is from a node that there is, and to one.
use Rattle.std.proofs.Common.{ℕ, suc, ltb, ◌<◌, ◌≤◌, List, [], ◌∷◌, ◌++◌, length, map, reverse, slice_get, Bool, true, false, cond, ◌&&◌, not, refl, sym, subst, inl, inr, ⊎_elim, Option, Some, None, ◌≡◌, ◌+◌}
use Rattle.deneva_base.specs.Lists.{IsIn}
use Rattle.deneva_base.specs.declared.answers.Answer.{Answer}
use Rattle.deneva_base.specs.declared.answers.Answer.TheVariants.{Granted as Gives, Waits, Refused as Refuses}
use Rattle.deneva_base.specs.declared.answers.Vote.{Vote}
use Rattle.deneva_base.specs.declared.answers.Vote.TheVariants.{Yes as VotesYes, No as VotesNo}
use Rattle.deneva_base.specs.declared.answers.Wake.{Wake}
use Rattle.deneva_base.specs.declared.keys.Access.{Access}
use Rattle.deneva_base.specs.declared.numbers.Attempt.{Attempt}
use Rattle.deneva_base.specs.declared.numbers.TxnId.{TxnId}
use Rattle.deneva_base.proofs.Membership.{in_left, in_right, in_cases, in_map_from}
use Rattle.txn_program.specs.Transactions.{numbers_below}
use Rattle.server_core.specs.declared.messages.Msg.{Msg}
use Rattle.server_core.specs.declared.messages.Msg.TheVariants.{Start, Ask, Granted, Refused, Prepare, Yes, No, Commit, Abort, Done, Undone, Tick, Batch, Rows}
use Rattle.server_core.specs.declared.messages.Mail.{Mail}
use Rattle.server_core.specs.declared.messages.Entry.{Entry}
use Rattle.server_core.specs.Calvin as ordered
use Rattle.server_core.specs.Coordinator.{told, first_no, decision, coordinator, next_ask, ask_of, next_start, mail_start, prepare_to, effect_of, to_all, bound_of, asked_partitions, overs, polled}
use Rattle.server_core.specs.GlobalOrder.{batch, epochs}
use Rattle.server_core.specs.CalvinScheduler.{is_finished}
use Rattle.server_core.specs.Participant.{calls, participant, answer_mails, vote_mail, mail_home, wake_mails}
use Rattle.server_core.specs.Received.{Reply, grants_for, votes_for, closes_for, all_voted, all_closed}
use Rattle.server_core.specs.declared.ballots.Ballot.{Ballot}
use Rattle.server_core.specs.Runs.{Saying, heard, Reaches}
use Rattle.server_core.specs.Setting.{Setting, homes, partitions_of, participants_for, rule_at, take_first}
use Rattle.server_core.specs.Stamps.{stamp_from, stamped}
use Rattle.server_core.specs.Voting.{says, opening, first_starts}
use Rattle.server_core.proofs.lists.Parts.{home_below, part_below, parts_from}
use Rattle.server_core.proofs.lists.ListTests.{below_in, flat_in}

-- what holds of the opening, and of each mail said on a mail of which it holds, holds of what is in flight
pub flying : (P : Mail → Type 0) (says : Saying) (opening : List Mail) → ((x : Mail) → IsIn x opening → P x) → ((m : Mail) (ms : List Msg) → P m → (x : Mail) → IsIn x (says m.to (m.msg ∷ ms)) → P x) → (H : List Entry) (flight : List Mail) → Reaches says opening H flight → (x : Mail) → IsIn x flight → P x
flying P says opening start more [] flight run x i = start x (subst (λ l. IsIn x l) run i)
flying P says opening start more (e ∷ H) flight run x i =
    let m = run.1 in
    let st = run.3 in
    let before : (y : Mail) → IsIn y run.0 → P y = flying P says opening start more H run.0 run.4 in
    ⊎_elim
    (λ old. before x (subst (λ l. IsIn x l) (sym st.stood) (⊎_elim (λ f. in_left x st.front (m ∷ st.back) f) (λ b. in_right x st.front (m ∷ st.back) (inr b)) (in_cases x st.front st.back old))))
    (λ new. more m (heard m.to H) (before m (subst (λ l. IsIn m l) (sym st.stood) (in_right m st.front (m ∷ st.back) (inl refl)))) x new)
    (in_cases x (st.front ++ st.back) (says m.to (m.msg ∷ heard m.to H)) (subst (λ l. IsIn x l) st.left i))

-- from one of so many nodes to one
abbrev pub Between : ℕ → Mail → Type 0
Between parts x = (x.from < parts) × (x.to < parts)

module _ (s : Setting) (one : 1 ≤ s.parts) where
  access_below : (as' : List Access) (q : ℕ) → IsIn q (partitions_of s.parts as') → q < s.parts
  access_below as' q i = let a = parts_from s.parts q as' i in subst (λ n. n < s.parts) a.2 (part_below a.0.key s.parts one)

  each : {A : Type 0} (f : A → Mail) (as' : List A) → ((a : A) → IsIn a as' → Between s.parts (f a)) → (x : Mail) → IsIn x (map f as') → Between s.parts x
  each f as' h x i = let n = in_map_from f x as' i in subst (λ z. Between s.parts z) (sym n.2) (h n.0 n.1)

  single : (y : Mail) → Between s.parts y → (x : Mail) → IsIn x (y ∷ []) → Between s.parts x
  single y h x i = ⊎_elim (λ (is : x ≡ y). subst (λ z. Between s.parts z) (sym is) h) (λ n. absurd n) i

  module _ (p : ℕ) (here : p < s.parts) where
    all_below : (m : Msg) (qs : List ℕ) → ((q : ℕ) → IsIn q qs → q < s.parts) → (x : Mail) → IsIn x (to_all p m qs) → Between s.parts x
    all_below m qs h x i = each (λ q. record { from = p; to = q; msg = m }) qs (λ q j. (here, h q j)) x i

    home_mail : (who : Attempt) (m : Msg) (x : Mail) → x ≡ mail_home s p who m → Between s.parts x
    home_mail who m x is = subst (λ z. Between s.parts z) (sym is) (here, home_below s one who.txn)

    ask_below : (who : Attempt) (stamp : ℕ) (rs : List Reply) (o : Option Access) (x : Mail) → IsIn x (next_ask s p who stamp rs o) → Between s.parts x
    ask_below who stamp rs (Some a) x i = single (ask_of s p who stamp a) (here, part_below a.key s.parts one) x i
    ask_below who stamp rs None x i =
        each (prepare_to s p who (bound_of rs) (effect_of s who.txn rs)) (partitions_of s.parts (s.accesses who.txn)) (λ q j. (here, access_below (s.accesses who.txn) q j)) x i

    start_below : (o : Option TxnId) (x : Mail) → IsIn x (mail_start p o) → Between s.parts x
    start_below None x i = absurd i
    start_below (Some y) x i = single (record { from = p; to = p; msg = Start (record { txn = y; turn = 1 }) }) (here, here) x i

    polled_below : (who : Attempt) (bs : List Ballot) (x : Mail) → IsIn x (polled s p who bs) → Between s.parts x
    polled_below who bs x i = go (all_voted bs (partitions_of s.parts (s.accesses who.txn))) i
      where
        go : (b : Bool) → IsIn x (cond b (to_all p (decision who bs (first_no None bs)) (partitions_of s.parts (s.accesses who.txn))) []) → Between s.parts x
        go true j = all_below (decision who bs (first_no None bs)) (partitions_of s.parts (s.accesses who.txn)) (λ q k. access_below (s.accesses who.txn) q k) x j
        go false j = absurd j

    coordinator_below : (m : Msg) (ms : List Msg) (x : Mail) → IsIn x (coordinator s p m ms) → Between s.parts x
    coordinator_below (Start who) ms x i = ask_below who (stamp_from s p (Start who ∷ ms) (stamped s who)) [] (slice_get (s.accesses who.txn) 0) x i
    coordinator_below (Granted who key row version bound) ms x i =
        ask_below who (stamp_from s p ms (stamped s who)) (reverse (record { row = row; bound = bound; key = key } ∷ grants_for who ms)) (slice_get (s.accesses who.txn) (suc (length (grants_for who ms)))) x i
    coordinator_below (Refused who key cause) ms x i =
        all_below (Abort who) (asked_partitions s ms who) (λ q j. access_below (take_first (suc (length (grants_for who ms))) (s.accesses who.txn)) q j) x i
    coordinator_below (Yes who part lo hi) ms x i = polled_below who (record { part = part; vote = VotesYes lo hi } ∷ votes_for who ms) x i
    coordinator_below (No who part cause) ms x i = polled_below who (record { part = part; vote = VotesNo cause } ∷ votes_for who ms) x i
    coordinator_below (Done who part) ms x i = go (all_closed (part ∷ closes_for who ms) (told s ms who)) i
      where
        go : (b : Bool) → IsIn x (cond b (next_start s p (overs s ms)) []) → Between s.parts x
        go true j = start_below (slice_get (homes s p) (s.limit + overs s ms)) x j
        go false j = absurd j
    coordinator_below (Undone who part) ms x i = go (all_closed (part ∷ closes_for who ms) (told s ms who)) (ltb who.turn s.attempts) i
      where
        again : Mail
        again = record { from = p; to = p; msg = Start (record { txn = who.txn; turn = suc who.turn }) }

        go : (b c : Bool) → IsIn x (cond b (cond c (again ∷ []) (next_start s p (overs s ms))) []) → Between s.parts x
        go true true j = single again (here, here) x j
        go true false j = start_below (slice_get (homes s p) (s.limit + overs s ms)) x j
        go false c j = absurd j
    coordinator_below m ms x i = absurd i

    wakes_below : (ws : List Wake) (x : Mail) → IsIn x (wake_mails s p ws) → Between s.parts x
    wakes_below ws x i = each (λ (w : Wake). mail_home s p w.who (Granted w.who w.key w.row w.version w.bound)) ws (λ w j. (here, home_below s one w.who.txn)) x i

    participant_below : (m : Msg) (ms : List Msg) (x : Mail) → IsIn x (participant s p m ms) → Between s.parts x
    participant_below (Ask who stamp key mode) ms x i = go ((rule_at s p).ask (calls s p ms) who stamp key mode) i
      where
        go : (a : Answer) → IsIn x (answer_mails s p who key a) → Between s.parts x
        go (Gives row version bound) j = single (mail_home s p who (Granted who key row version bound)) (here, home_below s one who.txn) x j
        go Waits j = absurd j
        go (Refuses cause) j = single (mail_home s p who (Refused who key cause)) (here, home_below s one who.txn) x j
    participant_below (Prepare who bound writes appends) ms x i = go ((rule_at s p).vote (calls s p ms) who bound writes appends) i
      where
        go : (v : Vote) → IsIn x (vote_mail s p who v ∷ []) → Between s.parts x
        go (VotesYes lo hi) j = single (mail_home s p who (Yes who p lo hi)) (here, home_below s one who.txn) x j
        go (VotesNo cause) j = single (mail_home s p who (No who p cause)) (here, home_below s one who.txn) x j
    participant_below (Commit who number) ms x i =
        ⊎_elim (λ is. home_mail who (Done who p) x is) (λ w. wakes_below ((rule_at s p).commit (calls s p ms) who number) x w) i
    participant_below (Abort who) ms x i =
        ⊎_elim (λ is. home_mail who (Undone who p) x is) (λ w. wakes_below ((rule_at s p).abort (calls s p ms) who) x w) i
    participant_below m ms x i = absurd i

    voting_below : (ms : List Msg) (x : Mail) → IsIn x (says s p ms) → Between s.parts x
    voting_below [] x i = absurd i
    voting_below (m ∷ ms) x i =
        ⊎_elim (λ a. coordinator_below m ms x a) (λ b. participant_below m ms x b) (in_cases x (coordinator s p m ms) (participant s p m ms) i)

    -- under Calvin
    ready_below : (m : Msg) (ms : List Msg) (x : Mail) → IsIn x (ordered.ready_mails s p m ms) → Between s.parts x
    ready_below m ms x i =
        let n = flat_in (ordered.rows_mails s p (m ∷ ms)) x (ordered.became_ready s p m ms) i in
        all_below _ (participants_for s n.0) (λ q j. access_below (s.accesses n.0) q j) x n.2

    perhaps : (b : Bool) (y : Mail) → Between s.parts y → (x : Mail) → IsIn x (cond b (y ∷ []) []) → Between s.parts x
    perhaps true y h x i = single y h x i
    perhaps false y h x i = absurd i

    ordered_below : (ms : List Msg) (x : Mail) → IsIn x (ordered.says s p ms) → Between s.parts x
    ordered_below [] x i = absurd i
    ordered_below (Tick e ∷ ms) x i =
        ⊎_elim
        (λ a. all_below (Batch e p (batch s (record { epoch = e; seq = p }))) (numbers_below s.parts) (λ q j. below_in q s.parts j) x a)
        (λ b. perhaps (ltb (suc e) (epochs s)) (ordered.tick_mail p (suc e)) (here, here) x b)
        (in_cases x (ordered.batch_mails s p e) (cond (ltb (suc e) (epochs s)) (ordered.tick_mail p (suc e) ∷ []) []) i)
    ordered_below (Batch e q ids ∷ ms) x i = ready_below (Batch e q ids) ms x i
    ordered_below (Rows y q rows ∷ ms) x i =
        ⊎_elim
        (λ a. perhaps (is_finished s (Rows y q rows ∷ ms) y && not (is_finished s ms y)) (ordered.finished_mail s p y) (here, home_below s one y) x a)
        (λ b. ready_below (Rows y q rows) ms x b)
        (in_cases x (ordered.finished_mails s p y (Rows y q rows) ms) (ordered.ready_mails s p (Rows y q rows) ms) i)
    ordered_below (m ∷ ms) x i = absurd i

  opening_below : (x : Mail) → IsIn x (opening s) → Between s.parts x
  opening_below x i =
      let n = flat_in (λ p. first_starts p (take_first s.limit (homes s p))) x (numbers_below s.parts) i in
      let here = below_in n.0 s.parts n.1 in
      each (λ (y : TxnId). record { from = n.0; to = n.0; msg = Start (record { txn = y; turn = 1 }) }) (take_first s.limit (homes s n.0)) (λ y j. (here, here)) x n.2

  ordered_opening_below : (x : Mail) → IsIn x (ordered.opening s) → Between s.parts x
  ordered_opening_below x i = go (ltb 0 (epochs s)) i
    where
      go : (b : Bool) → IsIn x (cond b (map (λ p. ordered.tick_mail p 0) (numbers_below s.parts)) []) → Between s.parts x
      go true j = each (λ p. ordered.tick_mail p 0) (numbers_below s.parts) (λ p k. let here = below_in p s.parts k in (here, here)) x j
      go false j = absurd j

  -- under a voting protocol, and under Calvin
  pub voting_between : (H : List Entry) (flight : List Mail) → Reaches (says s) (opening s) H flight → (x : Mail) → IsIn x flight → Between s.parts x
  voting_between H flight run = flying (Between s.parts) (says s) (opening s) opening_below (λ m ms h x i. voting_below m.to h.1 (m.msg ∷ ms) x i) H flight run

  pub ordered_between : (H : List Entry) (flight : List Mail) → Reaches (ordered.says s) (ordered.opening s) H flight → (x : Mail) → IsIn x flight → Between s.parts x
  ordered_between H flight run = flying (Between s.parts) (ordered.says s) (ordered.opening s) ordered_opening_below (λ m ms h x i. ordered_below m.to h.1 (m.msg ∷ ms) x i) H flight run
