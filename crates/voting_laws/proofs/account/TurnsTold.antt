-- The begun attempts of a transaction, and the open transactions of a node, by what was said.
use Rattle.std.proofs.Common.{◌≡◌, ◌≢◌, ℕ, suc, ◌+◌, ◌<◌, ◌≤◌, List, [], ◌∷◌, length, filter, Bool, true, false, cond, not, ◌&&◌, eqb, refl, sym, ap, ◌∙◌, subst, inl, inr, ⊎_elim, arith, true≢false}
use Rattle.std.specs.List.{list_all}
use Rattle.std.proofs.lemmas.Bool.Decides.{eqb_tells}
use Rattle.deneva_base.specs.declared.numbers.TxnId.{TxnId}
use Rattle.deneva_base.specs.declared.numbers.Attempt.{Attempt}
use Rattle.deneva_base.specs.Lists.{IsIn}
use Rattle.deneva_base.specs.Keys.{attempt_eq}
use Rattle.deneva_base.proofs.Membership.{any_at, any_found, and_parts, and_true, attempt_decides}
use Rattle.server_core.specs.declared.messages.Msg.{Msg}
use Rattle.server_core.specs.declared.messages.Msg.TheVariants.{Start, Ask, Done, Undone}
use Rattle.server_core.specs.declared.messages.Mail.{Mail}
use Rattle.server_core.specs.declared.messages.Entry.{Entry}
use Rattle.server_core.specs.Setting.{Setting, home, homes, participants}
use Rattle.server_core.specs.Received.{grants_for, votes_for, refused_for, closes_for, all_voted, all_closed}
use Rattle.server_core.specs.Coordinator.{asked_partitions, told}
use Rattle.server_core.specs.Proper.{Valid}
use Rattle.server_core.specs.Runs.{heard}
use Rattle.server_core.specs.Counts.{count_msgs}
use Rattle.server_core.specs.AttemptEnds.{attempt}
use Rattle.voting_laws.proofs.account.Words.{has_begun, is_begun}
use Rattle.server_core.specs.RunAccount.{ends_of, closes_of, is_over, Turns, starts_txn, all_mails, was_said, said_to, begun, ending, has_replied, ended_everywhere, is_open}
use Rattle.server_core.proofs.counts.Prepares.{occurs, slice_some}
use Rattle.server_core.proofs.counts.Starts.{started_turn}
use Rattle.server_core.proofs.lists.ListTests.{id_tells, id_self}
use Rattle.server_core.proofs.lists.Parts.{home_below}
use Rattle.server_core.proofs.values.Closed.{closed_there}
use Rattle.server_core.proofs.values.Closings.{closed_ends}
use Rattle.server_core.proofs.values.Origins.{started_ids, aborted_started, at_its_home}
use Rattle.server_core.proofs.values.Values.{find_msg}
use Rattle.voting_laws.proofs.fits.Account.{Good, start_looks, phase, no_vote_yet, occurs_in, closed_in}
use Rattle.voting_laws.proofs.serial.Lines.{all_there, heard_done}
use Rattle.voting_laws.proofs.serial.SerialOutcomes.{told_some}
use Rattle.voting_laws.proofs.account.Begun.{started_begun, begun_cases, undone_begun}
use Rattle.voting_laws.proofs.account.Counting.{bool_same, any_counted, occurs_there}
use Rattle.voting_laws.proofs.account.LastTurns.{unsaid, over_closed}
use Rattle.voting_laws.proofs.account.Limited.{open_count}
use Rattle.voting_laws.proofs.account.Quits.{dones_close, undones_close, heard_undone}
use Rattle.voting_laws.proofs.account.Rooms.{over_true}
use Rattle.voting_laws.proofs.account.Said.{begun_is, begun_true, start_landed, ends_to, ending_to, to_ending, told_once, told_there}
use Rattle.voting_laws.proofs.account.Sentences.{ledger_ends, replied}

close_counted : (who : Attempt) (q : ℕ) (ms : List Msg) → 1 ≤ count_msgs (closes_of who q) ms → IsIn q (closes_for who ms)
close_counted who q ms h = let m = find_msg (closes_of who q) ms h in go m.0 m.1 m.2
  where
    eqb_is : (a b : ℕ) → eqb a b ≡ true → a ≡ b
    eqb_is a b e = ⊎_elim (λ t. t.1) (λ t. absurd (true≢false (sym e ∙ t.0))) (eqb_tells a b)

    go : (m : Msg) → IsIn m ms → closes_of who q m ≡ true → IsIn q (closes_for who ms)
    go (Done x part) i e =
        let b = and_parts (attempt_eq x who) (eqb part q) e in
        let is : Done x part ≡ Done who q = λ j. Done ((attempt_decides x who).0 b.0 j) (eqb_is part q b.1 j) in
        dones_close who q ms (heard_done who q ms (subst (λ z. IsIn z ms) is i))
    go (Undone x part) i e =
        let b = and_parts (attempt_eq x who) (eqb part q) e in
        let is : Undone x part ≡ Undone who q = λ j. Undone ((attempt_decides x who).0 b.0 j) (eqb_is part q b.1 j) in
        undones_close who q ms (heard_undone who q ms (subst (λ z. IsIn z ms) is i))
    go (Start x) i e = absurd (true≢false (sym e))
    go m i e = absurd (true≢false (sym e))

all_of : (t : ℕ → Bool) (qs : List ℕ) → ((q : ℕ) → IsIn q qs → t q ≡ true) → list_all t qs ≡ true
all_of t [] h = refl
all_of t (q ∷ qs) h = and_true (t q) (list_all t qs) (h q (inl refl)) (all_of t qs (λ r i. h r (inr i)))

filtered : (t u : TxnId → Bool) (xs : List TxnId) → ((x : TxnId) → t x ≡ u x) → length (filter t xs) ≡ length (filter u xs)
filtered t u [] h = refl
filtered t u (x ∷ xs) h = go (t x) (u x) (h x) (filtered t u xs h)
  where
    go : (a b : Bool) → a ≡ b → length (filter t xs) ≡ length (filter u xs) → length (cond a (x ∷ filter t xs) (filter t xs)) ≡ length (cond b (x ∷ filter u xs) (filter u xs))
    go true true e f = omega (arith, f)
    go false false e f = f
    go true false e f = absurd (true≢false e)
    go false true e f = absurd (true≢false (sym e))

module _ (s : Setting) (v : Valid s) (H : List Entry) (flight : List Mail) (g : Good s H flight) where
  module _ (who : Attempt) where
    abbrev ms : List Msg
    ms = heard (home s who.txn) H

    -- a partition to which the end was said is one of those told
    end_told : (q : ℕ) → 1 ≤ ends_to s v H flight g who q → IsIn q (told s ms who)
    end_told q h = go (refused_for who ms) refl
      where
        go : (b : Bool) → refused_for who ms ≡ b → IsIn q (cond b (asked_partitions s ms who) (participants s who))
        go true e =
            let x = (phase s v H flight g who).refused e in
            let n : 1 ≤ occurs q (asked_partitions s ms who) + cond (all_voted (votes_for who ms) (participants s who)) (occurs q (participants s who)) 0
            = subst (λ b. 1 ≤ cond b (occurs q (asked_partitions s ms who)) 0 + cond (all_voted (votes_for who ms) (participants s who)) (occurs q (participants s who)) 0) e h in
            occurs_in q (asked_partitions s ms who) (omega (arith, n, no_vote_yet s v H flight g who (slice_some (s.accesses who.txn) (length (grants_for who ms)) x.0 x.1) q))
        go false e =
            let n : 1 ≤ 0 + cond (all_voted (votes_for who ms) (participants s who)) (occurs q (participants s who)) 0
            = subst (λ b. 1 ≤ cond b (occurs q (asked_partitions s ms who)) 0 + cond (all_voted (votes_for who ms) (participants s who)) (occurs q (participants s who)) 0) e h in
            occurs_in q (participants s who) (least (all_voted (votes_for who ms) (participants s who)) (omega (arith, n)))
          where
            least : (b : Bool) → 1 ≤ cond b (occurs q (participants s who)) 0 → 1 ≤ occurs q (participants s who)
            least true h = h
            least false h = absurd (omega (arith, h))

    -- and the other way
    told_end : ending s H who ≡ true → (q : ℕ) → IsIn q (told s ms who) → 1 ≤ ends_to s v H flight g who q
    told_end en q i = let r = ending_to s v H flight g who en in go r.0 r.1 (refused_for who ms) refl (all_voted (votes_for who ms) (participants s who)) refl i
      where
        go : (r : ℕ) → 1 ≤ ends_to s v H flight g who r → (a : Bool) → refused_for who ms ≡ a → (b : Bool) → all_voted (votes_for who ms) (participants s who) ≡ b → IsIn q (cond (refused_for who ms) (asked_partitions s ms who) (participants s who)) → 1 ≤ ends_to s v H flight g who q
        go r h true ea b eb i =
            let j : IsIn q (asked_partitions s ms who) = subst (λ z. IsIn q (cond z (asked_partitions s ms who) (participants s who))) ea i in
            subst (λ z. 1 ≤ cond z (occurs q (asked_partitions s ms who)) 0 + cond (all_voted (votes_for who ms) (participants s who)) (occurs q (participants s who)) 0) (sym ea) (omega (arith, occurs_there q (asked_partitions s ms who) j))
        go r h false ea true eb i =
            let j : IsIn q (participants s who) = subst (λ z. IsIn q (cond z (asked_partitions s ms who) (participants s who))) ea i in
            subst (λ z. 1 ≤ cond (refused_for who ms) (occurs q (asked_partitions s ms who)) 0 + cond z (occurs q (participants s who)) 0) (sym eb) (omega (arith, occurs_there q (participants s who) j))
        go r h false ea false eb i =
            let h' : 1 ≤ 0 + 0 = subst (λ z. 1 ≤ cond z (occurs r (asked_partitions s ms who)) 0 + 0) ea (subst (λ z. 1 ≤ cond (refused_for who ms) (occurs r (asked_partitions s ms who)) 0 + cond z (occurs r (participants s who)) 0) eb h) in
            absurd (omega (arith, h'))

    -- ended everywhere: each partition that was told has closed
    ended_closed : ended_everywhere s H who ≡ true → all_closed (closes_for who ms) (told s ms who) ≡ true
    ended_closed e =
        let b = and_parts (ending s H who) (list_all (has_replied s H who) (said_to s H (ends_of who))) e in
        all_there (closes_for who ms) (told s ms who) (λ q i. close_counted who q ms (replied s v H flight g who q (said_to s H (ends_of who)) b.1 (told_there s v H flight g who q (told_end b.0 q i))))

    closed_ended : IsIn who.txn s.ids → all_closed (closes_for who ms) (told s ms who) ≡ true → ended_everywhere s H who ≡ true
    closed_ended ids c =
        let t = told_some s v H flight g who ms ids in
        let one = closed_in who t.0 ms (closed_there (closes_for who ms) (told s ms who) t.0 c t.1) in
        and_true (ending s H who) (list_all (has_replied s H who) (said_to s H (ends_of who)))
        (to_ending s v H flight g who t.0 (omega (arith, one, ledger_ends s v H flight g who t.0)))
        (all_of (has_replied s H who) (said_to s H (ends_of who)) (λ q i. any_counted (closes_of who q) ms (closed_in who q ms (closed_there (closes_for who ms) (told s ms who) q c (end_told q (omega (arith, told_once s v H flight g who q i)))))))

    begun_ids : has_begun s H flight who ≡ true → IsIn who.txn s.ids × (1 ≤ who.turn)
    begun_ids b =
        ⊎_elim
        (λ st. (started_ids s (home s who.txn) who ms (g.fit (home s who.txn)) st, started_turn s (home s who.txn) who ms (g.fit (home s who.txn)) st))
        (λ (m : (m : Mail) × IsIn m flight × (m.msg ≡ Start who)). let l = start_looks s v H flight g who m.0 m.1 m.2 in (l.3, l.2))
        (begun_cases s H flight who b)

  -- with any attempt the first is begun
  first_begun : (who : Attempt) → has_begun s H flight who ≡ true → is_begun s H flight who.txn ≡ true
  first_begun who b =
      ⊎_elim
      (λ (t : (eqb who.turn 1 ≡ true) × (who.turn ≡ 1)). subst (λ n. has_begun s H flight (attempt who.txn n) ≡ true) t.1 b)
      (λ (t : (eqb who.turn 1 ≡ false) × (who.turn ≢ 1)).
      let x = who.txn in
      let u = undone_begun s v H flight g x 1 who.turn (omega arith) (more (begun_ids who b).1 t.1) b in
      started_begun s H flight (attempt x 1) (aborted_started s (home s x) (attempt x 1) (heard (home s x) H) (g.fit (home s x)) u.0))
      (eqb_tells who.turn 1)
    where
      more : {n : ℕ} → 1 ≤ n → n ≢ 1 → 1 < n
      more h ne = grind (arith, h, ne)

  pub said_first : (y : TxnId) → was_said s H (starts_txn y) ≡ is_begun s H flight y
  said_first y =
      bool_same (was_said s H (starts_txn y)) (is_begun s H flight y)
      (λ e. let m = any_found (λ (x : Mail). starts_txn y x.msg) (all_mails s H) e in go m.0 m.1 m.0.msg refl m.2)
      (λ e. let m = begun_true s v H flight g (attempt y 1) e in any_at (λ (x : Mail). starts_txn y x.msg) m.0 (all_mails s H) m.1 (subst (λ z. starts_txn y z ≡ true) (sym m.2) (id_self y)))
    where
      go : (m : Mail) → IsIn m (all_mails s H) → (z : Msg) → m.msg ≡ z → starts_txn y z ≡ true → is_begun s H flight y ≡ true
      go m i (Start who) f e =
          let is : who.txn ≡ y = ⊎_elim (λ t. t.1) (λ t. absurd (true≢false (sym e ∙ t.0))) (id_tells who.txn y) in
          subst (λ x. is_begun s H flight x ≡ true) is (first_begun who (start_landed s v H flight g who m i f))
      go m i (Ask x st k md) f e = absurd (true≢false (sym e))
      go m i z f e = absurd (true≢false (sym e))

  module _ (x : TxnId) where
    abbrev old : (turn : ℕ) → begun s H (attempt x turn) ≡ true → has_begun s H flight (attempt x turn) ≡ true
    old turn b = sym (begun_is s v H flight g (attempt x turn)) ∙ b

    over_same : (turn : ℕ) → begun s H (attempt x turn) ≡ true → has_begun s H flight (attempt x (suc turn)) ≡ false → ended_everywhere s H (attempt x turn) ≡ is_over s H x
    over_same turn b last =
        let who : Attempt = attempt x turn in
        let ids : IsIn x s.ids = (begun_ids who (old turn b)).0 in
        let t = told_some s v H flight g who (heard (home s x) H) ids in
        bool_same (ended_everywhere s H who) (is_over s H x)
        (λ e. ⊎_elim
        (λ o. over_true s v H flight g x o.0)
        (λ a. absurd (unsaid s v H flight g x turn (old turn b) last a.2))
        (closed_ends s (home s x) who (heard (home s x) H) (g.fit (home s x)) (record { all = ended_closed who e; some = t.0; here = t.1 })))
        (λ e. closed_ended who ids (over_closed s v H flight g x turn (old turn b) last e).all)

    pub turns : Turns s H x
    turns = record {
      from_one = λ turn b. (begun_ids (attempt x turn) (old turn b)).1;
      none_left_out = λ turn earlier b low lt.
          let u = undone_begun s v H flight g x earlier turn low lt (old turn b) in
          begun_is s v H flight g (attempt x earlier) ∙ started_begun s H flight (attempt x earlier) (aborted_started s (home s x) (attempt x earlier) (heard (home s x) H) (g.fit (home s x)) u.0);
      earlier = λ turn later b c lt.
          let i = begun_ids (attempt x turn) (old turn b) in
          closed_ended (attempt x turn) i.0 (undone_begun s v H flight g x turn later i.1 lt (old later c)).1;
      greatest = λ turn b none.
          let said : was_said s H (starts_txn x) ≡ true = said_first x ∙ first_begun (attempt x turn) (old turn b) in
          ap not (over_same turn b (sym (begun_is s v H flight g (attempt x (suc turn))) ∙ none (suc turn) (omega arith)))
          ∙ ap (λ z. z && not (is_over s H x)) (sym said);
    }

  pub room : (p : ℕ) (x : TxnId) → IsIn x (homes s p) → was_said s H (starts_txn x) ≡ false → length (filter (is_open s H) (homes s p)) ≡ s.limit
  room p x i e =
      let at : p ≡ home s x = at_its_home s v p x i in
      filtered (is_open s H) (λ y. is_begun s H flight y && not (is_over s H y)) (homes s p) (λ y. ap (λ z. z && not (is_over s H y)) (said_first y))
      ∙ open_count s v H flight g p (subst (λ q. q < s.parts) (sym at) (home_below s v.parts x)) x i (sym (said_first x) ∙ e)
