-- How often a home says a Start.
use Rattle.std.proofs.Common.{◌≡◌, ◌⊎◌, ℕ, zero, suc, ◌+◌, ◌<◌, ◌≤◌, ltb, List, [], ◌∷◌, length, slice_get, reverse, Bool, true, false, cond, not, ◌&&◌, ◌||◌, eqb, refl, sym, ap, ◌∙◌, subst, inl, inr, ⊎_elim, arith, Option, Some, None, true≢false}
use Rattle.std.specs.List.{list_any}
use Rattle.std.proofs.lemmas.Bool.Decides.{nat_tests, eqb_tells}
use Rattle.deneva_base.specs.declared.keys.Key.{Key}
use Rattle.deneva_base.specs.declared.numbers.TxnId.{TxnId}
use Rattle.deneva_base.specs.declared.numbers.Attempt.{Attempt}
use Rattle.deneva_base.specs.declared.keys.Mode.{Mode}
use Rattle.deneva_base.specs.Lists.{IsIn}
use Rattle.deneva_base.specs.Keys.{attempt_eq}
use Rattle.deneva_base.specs.declared.answers.Vote.TheVariants.{Yes as VotesYes, No as VotesNo}
use Rattle.deneva_base.proofs.Membership.{attempt_tells}
use Rattle.server_core.specs.declared.messages.Msg.{Msg}
use Rattle.server_core.specs.declared.messages.Msg.TheVariants.{Start, Ask, Granted, Refused, Yes, No, Commit, Abort, Done, Undone}
use Rattle.server_core.specs.declared.messages.Mail.{Mail}
use Rattle.server_core.specs.Setting.{Setting, homes, take_first}
use Rattle.server_core.specs.Received.{grants_for, votes_for, closes_for, started_for, all_closed}
use Rattle.server_core.specs.Coordinator.{told, coordinator, next_start, mail_start, overs, asked_partitions}
use Rattle.server_core.specs.Voting.{says}
use Rattle.server_core.specs.Stamps.{stamp_from, stamped}
use Rattle.server_core.specs.VotingFits.{Suits, AllFit, IsAsking, IsAborted, Decides, AllUndone, earlier_turn}
use Rattle.server_core.specs.Proper.{ids_in}
use Rattle.server_core.specs.Counts.{all_said, count}
use Rattle.server_core.proofs.counts.Local.{sent_to, count_msgs}
use Rattle.server_core.proofs.counts.Quiet.{NoAsks, NoEnds, NoReplies, if_none, none_next, none_all, none_polled, none_participant, more_said}
use Rattle.server_core.proofs.values.Origins.{aborted_started}
use Rattle.server_core.proofs.values.Decisions.{asks_no_more, aborted_more}

abbrev pub is_start : Attempt → Msg → Bool
is_start who (Start x) = attempt_eq x who
is_start who m = false

not_closed : (cs qs : List ℕ) (part : ℕ) → IsIn part qs → (IsIn part cs → ⊥) → all_closed cs qs ≡ false
not_closed cs [] part i open' = absurd i
not_closed cs (q ∷ qs) part i open' =
    ⊎_elim
    (λ (is : part ≡ q). let f : list_any (λ c. eqb c q) cs ≡ false = subst (λ x. list_any (λ c. eqb c x) cs ≡ false) is (none cs open') in rw f)
    (λ r. rw (not_closed cs qs part r open') (and_false (list_any (λ c. eqb c q) cs)))
    i
  where
    none : (cs : List ℕ) → (IsIn part cs → ⊥) → list_any (λ c. eqb c part) cs ≡ false
    none [] h = refl
    none (c ∷ cs) h = ⊎_elim (λ t. absurd (h (inl (sym t.1)))) (λ t. rw t.0 (none cs (λ j. h (inr j)))) (eqb_tells c part)

    and_false : (b : Bool) → (b && false) ≡ false
    and_false true = refl
    and_false false = refl

-- what is started was once begun at turn 1, and a turn is at least 1
pub started_turn : (s : Setting) (p : ℕ) (who : Attempt) (ms : List Msg) → AllFit s p ms → started_for who ms ≡ true → 1 ≤ who.turn
started_turn s p who [] fit e = absurd (true≢false (sym e))
started_turn s p who (Start x ∷ ms) fit e =
    ⊎_elim
    (λ t. ⊎_elim (λ a. omega (arith, a.0, ap (λ (y : Attempt). y.turn) t.1)) (λ a. omega (arith, a.0, ap (λ (y : Attempt). y.turn) t.1)) fit.0.1.3)
    (λ t. started_turn s p who ms fit.1 (rw t.0 at e))
    (attempt_tells x who)
started_turn s p who (Ask x st k m ∷ ms) fit e = started_turn s p who ms fit.1 e
started_turn s p who (m ∷ ms) fit e = started_turn s p who ms fit.1 e

module _ (s : Setting) (p : ℕ) (who : Attempt) where
  abbrev gone : Attempt
  gone = earlier_turn who

  asks : NoAsks (is_start who)
  asks = record { ask = λ x st k m. refl; prepare = λ x b w a. refl }

  ends : NoEnds (is_start who)
  ends = record { commit = λ x n. refl; abort = λ x. refl }

  replies : NoReplies (is_start who)
  replies = record { granted = λ x k r v b. refl; refused = λ x k c. refl; yes' = λ x part lo hi. refl; no' = λ x part c. refl; done = λ x part. refl; undone = λ x part. refl }

  -- no more of an attempt that was aborted is heard
  asks_end : (y : Attempt) (ms : List Msg) (key : Key) (mode : Mode) → IsAsking s ms y key mode → IsAborted s ms y → ⊥
  asks_end y ms key mode a h = ⊎_elim (λ r. true≢false (sym r ∙ a.1)) (λ d. asks_no_more s p y ms key mode a d.0.0) h

  pub undone_more : (y : Attempt) (m : Msg) (ms : List Msg) (f : ℕ) → Suits s p f m ms → AllUndone s ms y → AllUndone s (m ∷ ms) y
  undone_more y (Granted x k r w b) ms f fit h =
      ⊎_elim
      (λ t. let a = subst (λ z. (mode : Mode) × IsAsking s ms z k mode) t.1 fit.2 in absurd (asks_end y ms k a.0 a.1 h.0))
      (λ t. rw t.0 h)
      (attempt_tells x y)
  undone_more y (Refused x k c) ms f fit h =
      ⊎_elim
      (λ t. let a = subst (λ z. (mode : Mode) × IsAsking s ms z k mode) t.1 fit.2 in absurd (asks_end y ms k a.0 a.1 h.0))
      (λ t. rw t.0 h)
      (attempt_tells x y)
  undone_more y (Yes x part lo hi) ms f fit h = (aborted_more s p y (Yes x part lo hi) ms f fit h.0, h.1)
  undone_more y (No x part c) ms f fit h = (aborted_more s p y (No x part c) ms f fit h.0, h.1)
  undone_more y (Start x) ms f fit h = (aborted_more s p y (Start x) ms f fit h.0, h.1)
  undone_more y (Done x part) ms f fit h =
      ⊎_elim
      (λ t. absurd (⊎_elim
      (λ r. true≢false (sym r ∙ (subst (λ z. Decides s ms z (Commit z fit.4.0)) t.1 fit.4.1).0.0.1))
      (λ d. cc (sym d.1 ∙ (subst (λ z. Decides s ms z (Commit z fit.4.0)) t.1 fit.4.1).1))
      h.0))
      (λ t. rw t.0 h)
      (attempt_tells x y)
  undone_more y (Undone x part) ms f fit h =
      ⊎_elim
      (λ t. absurd (true≢false (sym h.1 ∙ not_closed (closes_for y ms) (told s ms y) part (subst (λ z. IsIn part (told s ms z)) t.1 fit.2) (subst (λ z. IsIn part (closes_for z ms) → ⊥) t.1 fit.3))))
      (λ t. rw t.0 h)
      (attempt_tells x y)
  undone_more y (Ask x st k m) ms f fit h = h
  undone_more y m ms f fit h = h

  module _ (later : 1 < who.turn) where
    not_first : (x : TxnId) → attempt_eq (record { txn = x; turn = 1 }) who ≡ false
    not_first x = ⊎_elim (λ t. absurd (omega (arith, later, ap (λ (y : Attempt). y.turn) t.1))) (λ t. t.0) (attempt_tells (record { txn = x; turn = 1 }) who)

    none_first : (o : Option TxnId) → count (sent_to p (is_start who)) (mail_start p o) ≡ 0
    none_first None = refl
    none_first (Some x) = rw (not_first x) (omega arith)

    abbrev again : Attempt → Mail
    again x = record { from = p; to = p; msg = Start (record { txn = x.txn; turn = suc x.turn }) }

    next_is : (x : Attempt) → attempt_eq (record { txn = x.txn; turn = suc x.turn }) who ≡ true → gone ≡ x
    next_is x e =
        let is : record { txn = x.txn; turn = suc x.turn } ≡ who = ⊎_elim (λ t. t.1) (λ f. absurd (true≢false (sym e ∙ f.0))) (attempt_tells (record { txn = x.txn; turn = suc x.turn }) who) in
        ap earlier_turn (sym is)

    abbrev Once : List Msg → Type 0
    Once ms = (count (sent_to p (is_start who)) (all_said (says s) p ms) ≡ 0) ⊎ ((count (sent_to p (is_start who)) (all_said (says s) p ms) ≡ 1) × AllUndone s ms gone × (who.turn ≤ s.attempts))

    kept : (m : Msg) (ms : List Msg) (f : ℕ) → Suits s p f m ms → count (sent_to p (is_start who)) (coordinator s p m ms) ≡ 0 → Once ms → Once (m ∷ ms)
    kept m ms f fit none o =
        let more = more_said s p p (is_start who) m ms in
        let quiet = none_participant s p p (is_start who) replies m ms in
        ⊎_elim
        (λ z. inl (omega (arith, more, quiet, none, z)))
        (λ z. inr (omega (arith, more, quiet, none, z.0), undone_more gone m ms f fit z.1, z.2))
        o

    at_undone : (x : Attempt) (part : ℕ) (ms : List Msg) (f : ℕ) → Suits s p f (Undone x part) ms → Once ms → Once (Undone x part ∷ ms)
    at_undone x part ms f fit o = go (all_closed (part ∷ closes_for x ms) (told s ms x)) refl (ltb x.turn s.attempts) refl (attempt_eq (record { txn = x.txn; turn = suc x.turn }) who) refl
      where
        it : ℕ
        it = count (sent_to p (is_start who)) (coordinator s p (Undone x part) ms)

        quietly : it ≡ 0 → Once (Undone x part ∷ ms)
        quietly none = kept (Undone x part) ms f fit none o

        go : (a : Bool) → all_closed (part ∷ closes_for x ms) (told s ms x) ≡ a → (b : Bool) → ltb x.turn s.attempts ≡ b → (c : Bool) → attempt_eq (record { txn = x.txn; turn = suc x.turn }) who ≡ c → Once (Undone x part ∷ ms)
        go false ea b eb c ec = quietly (rw ea)
        go true ea false eb c ec = quietly (rw (ea, eb) (none_first (slice_get (homes s p) (s.limit + overs s ms))))
        go true ea true eb false ec = quietly (rw (ea, eb, ec) (omega arith))
        go true ea true eb true ec =
            let is : gone ≡ x = next_is x ec in
            let one : it ≡ 1 = rw (ea, eb, ec) (same p) in
            let more = more_said s p p (is_start who) (Undone x part) ms in
            let quiet = none_participant s p p (is_start who) replies (Undone x part) ms in
            ⊎_elim
            (λ z. inr (
              omega (arith, more, quiet, one, z),
              subst (λ y. AllUndone s (Undone x part ∷ ms) y) (sym is) (aborted_more s p x (Undone x part) ms f fit fit.4, rw (itself x) ea),
              bound ec eb,
            ))
            (λ z. absurd (true≢false (sym (subst (λ y. AllUndone s ms y) is z.1).1 ∙ not_closed (closes_for x ms) (told s ms x) part fit.2 fit.3)))
            o
          where
            same : (n : ℕ) → cond (true && eqb n n) 1 0 + 0 ≡ 1
            same n = grind (arith, nat_tests)

            itself : (y : Attempt) → attempt_eq y y ≡ true
            itself y = ⊎_elim (λ t. t.0) (λ f. absurd (f.1 refl)) (attempt_tells y y)

            bound : attempt_eq (record { txn = x.txn; turn = suc x.turn }) who ≡ true → ltb x.turn s.attempts ≡ true → who.turn ≤ s.attempts
            bound e l =
                let is : suc x.turn ≡ who.turn = ⊎_elim (λ t. ap (λ (y : Attempt). y.turn) t.1) (λ f. absurd (true≢false (sym e ∙ f.0))) (attempt_tells (record { txn = x.txn; turn = suc x.turn }) who) in
                grind (arith, nat_tests, is, l)

    pub again_said : (ms : List Msg) → AllFit s p ms → Once ms
    again_said [] fit = inl refl
    again_said (Undone x part ∷ ms) fit = at_undone x part ms fit.0.0 fit.0.1 (again_said ms fit.1)
    again_said (Start x ∷ ms) fit = kept (Start x) ms fit.0.0 fit.0.1 (none_next s p p (is_start who) asks x (stamp_from s p (Start x ∷ ms) (stamped s x)) [] (slice_get (s.accesses x.txn) 0)) (again_said ms fit.1)
    again_said (Granted x k r w b ∷ ms) fit =
        kept (Granted x k r w b) ms fit.0.0 fit.0.1 (none_next s p p (is_start who) asks x (stamp_from s p ms (stamped s x)) (reverse (record { row = r; bound = b; key = k } ∷ grants_for x ms)) (slice_get (s.accesses x.txn) (suc (length (grants_for x ms))))) (again_said ms fit.1)
    again_said (Refused x k c ∷ ms) fit = kept (Refused x k c) ms fit.0.0 fit.0.1 (none_all s p p (is_start who) (Abort x) (asked_partitions s ms x) refl) (again_said ms fit.1)
    again_said (Yes x part lo hi ∷ ms) fit = kept (Yes x part lo hi) ms fit.0.0 fit.0.1 (none_polled s p p (is_start who) ends x (record { part = part; vote = VotesYes lo hi } ∷ votes_for x ms)) (again_said ms fit.1)
    again_said (No x part c ∷ ms) fit = kept (No x part c) ms fit.0.0 fit.0.1 (none_polled s p p (is_start who) ends x (record { part = part; vote = VotesNo c } ∷ votes_for x ms)) (again_said ms fit.1)
    again_said (Done x part ∷ ms) fit =
        kept (Done x part) ms fit.0.0 fit.0.1 (if_none (sent_to p (is_start who)) (all_closed (part ∷ closes_for x ms) (told s ms x)) (next_start s p (overs s ms)) (none_first (slice_get (homes s p) (s.limit + overs s ms)))) (again_said ms fit.1)
    again_said (m ∷ ms) fit = kept m ms fit.0.0 fit.0.1 refl (again_said ms fit.1)

pub started_heard : (who : Attempt) (ms : List Msg) → started_for who ms ≡ true → 1 ≤ count_msgs (is_start who) ms
started_heard who [] e = absurd (true≢false (sym e))
started_heard who (Start x ∷ ms) e = ⊎_elim (λ t. rw t.0 (omega arith)) (λ t. omega (arith, started_heard who ms (rw t.0 at e))) (attempt_tells x who)
started_heard who (Ask x st k m ∷ ms) e = omega (arith, started_heard who ms e)
started_heard who (m ∷ ms) e = omega (arith, started_heard who ms e)

pub unstarted_unheard : (who : Attempt) (ms : List Msg) → count_msgs (is_start who) ms ≡ 0 → started_for who ms ≡ true → ⊥
unstarted_unheard who ms none e = omega (arith, none, started_heard who ms e)

-- a later turn is started after the one before it
-- a started attempt has a turn left
pub turn_bound : (s : Setting) (p : ℕ) (who : Attempt) (ms : List Msg) → 1 ≤ s.attempts → AllFit s p ms → started_for who ms ≡ true → who.turn ≤ s.attempts
turn_bound s p who [] one fit e = absurd (true≢false (sym e))
turn_bound s p who (Start x ∷ ms) one fit e =
    ⊎_elim
    (λ t. ⊎_elim (λ a. omega (arith, a.0, one, ap (λ (y : Attempt). y.turn) t.1)) (λ a. omega (arith, a.1, ap (λ (y : Attempt). y.turn) t.1)) fit.0.1.3)
    (λ t. turn_bound s p who ms one fit.1 (rw t.0 at e))
    (attempt_tells x who)
turn_bound s p who (Ask x st k m ∷ ms) one fit e = turn_bound s p who ms one fit.1 e
turn_bound s p who (m ∷ ms) one fit e = turn_bound s p who ms one fit.1 e

started_prev : (s : Setting) (p : ℕ) (who : Attempt) (ms : List Msg) → AllFit s p ms → 1 < who.turn → started_for who ms ≡ true → started_for (earlier_turn who) ms ≡ true
started_prev s p who [] fit lt e = absurd (true≢false (sym e))
started_prev s p who (Start x ∷ ms) fit lt e =
    let or_right : (a b : Bool) → b ≡ true → (a || b) ≡ true = λ (a b : Bool) (h : b ≡ true). or_true a b h in
    ⊎_elim
    (λ t. ⊎_elim
    (λ a. absurd (omega (arith, a.0, lt, ap (λ (y : Attempt). y.turn) t.1)))
    (λ a. or_true (attempt_eq x (earlier_turn who)) (started_for (earlier_turn who) ms) (subst (λ y. started_for (earlier_turn y) ms ≡ true) t.1 (aborted_started s p (earlier_turn x) ms fit.1 a.2.0)))
    fit.0.1.3)
    (λ t. or_true (attempt_eq x (earlier_turn who)) (started_for (earlier_turn who) ms) (started_prev s p who ms fit.1 lt (rw t.0 at e)))
    (attempt_tells x who)
  where
    or_true : (a b : Bool) → b ≡ true → (a || b) ≡ true
    or_true a b h = grind (arith, h)
started_prev s p who (Ask x st k m ∷ ms) fit lt e = started_prev s p who ms fit.1 lt e
started_prev s p who (m ∷ ms) fit lt e = started_prev s p who ms fit.1 lt e

pub started_first : (s : Setting) (p : ℕ) (x : TxnId) (turn : ℕ) (ms : List Msg) → AllFit s p ms → started_for (record { txn = x; turn = turn }) ms ≡ true → started_for (record { txn = x; turn = 1 }) ms ≡ true
started_first s p x zero ms fit e = absurd (omega (arith, started_turn s p (record { txn = x; turn = zero }) ms fit e))
started_first s p x (suc zero) ms fit e = e
started_first s p x (suc (suc n)) ms fit e = started_first s p x (suc n) ms fit (started_prev s p (record { txn = x; turn = suc (suc n) }) ms fit (omega arith) e)

-- the first turns: each transaction of the home in its place
abbrev pub id_in : TxnId → Option TxnId → ℕ
id_in x None = 0
id_in x (Some y) = cond (eqb y.0 x.0) 1 0

pub ids_more : (x : TxnId) (n : ℕ) (ys : List TxnId) → ids_in x (take_first (suc n) ys) ≡ ids_in x (take_first n ys) + id_in x (slice_get ys n)
ids_more x zero [] = refl
ids_more x (suc n) [] = refl
ids_more x zero (y ∷ ys) = omega arith
ids_more x (suc n) (y ∷ ys) = omega (arith, ids_more x n ys)

pub ids_take : (x : TxnId) (n : ℕ) (ys : List TxnId) → ids_in x (take_first n ys) ≤ ids_in x ys
ids_take x zero ys = omega arith
ids_take x (suc n) [] = omega arith
ids_take x (suc n) (y ∷ ys) = omega (arith, ids_take x n ys)

module _ (s : Setting) (p : ℕ) (who : Attempt) (first : who.turn ≡ 1) where
  firsts : (o : Option TxnId) → count (sent_to p (is_start who)) (mail_start p o) ≡ id_in who.txn o
  firsts None = refl
  firsts (Some y) = grind (arith, nat_tests)

  abbrev upto : ℕ → ℕ
  upto n = ids_in who.txn (take_first (s.limit + n) (homes s p))

  upto_more : (n : ℕ) → upto (suc n) ≡ upto n + id_in who.txn (slice_get (homes s p) (s.limit + n))
  upto_more n = ap (λ k. ids_in who.txn (take_first k (homes s p))) (plus s.limit n) ∙ ids_more who.txn (s.limit + n) (homes s p)
    where
      plus : (a b : ℕ) → a + suc b ≡ suc (a + b)
      plus a b = omega arith

  step : (m : Msg) (ms : List Msg) → count (sent_to p (is_start who)) (coordinator s p m ms) + upto (overs s ms) ≡ upto (overs s (m ∷ ms)) → count (sent_to p (is_start who)) (all_said (says s) p ms) + upto 0 ≡ upto (overs s ms) → count (sent_to p (is_start who)) (all_said (says s) p (m ∷ ms)) + upto 0 ≡ upto (overs s (m ∷ ms))
  step m ms e ih = omega (arith, more_said s p p (is_start who) m ms, none_participant s p p (is_start who) (replies s p who) m ms)

  at_done : (x : Attempt) (part : ℕ) (ms : List Msg) → count (sent_to p (is_start who)) (coordinator s p (Done x part) ms) + upto (overs s ms) ≡ upto (overs s (Done x part ∷ ms))
  at_done x part ms = go (all_closed (part ∷ closes_for x ms) (told s ms x))
    where
      go : (b : Bool) → count (sent_to p (is_start who)) (cond b (next_start s p (overs s ms)) []) + upto (overs s ms) ≡ upto (cond b (suc (overs s ms)) (overs s ms))
      go false = omega arith
      go true = omega (arith, firsts (slice_get (homes s p) (s.limit + overs s ms)), upto_more (overs s ms))

  at_undone1 : (x : Attempt) (part : ℕ) (ms : List Msg) → 1 ≤ x.turn → count (sent_to p (is_start who)) (coordinator s p (Undone x part) ms) + upto (overs s ms) ≡ upto (overs s (Undone x part ∷ ms))
  at_undone1 x part ms turn = go (all_closed (part ∷ closes_for x ms) (told s ms x)) (ltb x.turn s.attempts)
    where
      again : Mail
      again = record { from = p; to = p; msg = Start (record { txn = x.txn; turn = suc x.turn }) }

      other : attempt_eq (record { txn = x.txn; turn = suc x.turn }) who ≡ false
      other = ⊎_elim (λ t. absurd (omega (arith, turn, first, ap (λ (y : Attempt). y.turn) t.1))) (λ t. t.0) (attempt_tells (record { txn = x.txn; turn = suc x.turn }) who)

      go : (a b : Bool) → count (sent_to p (is_start who)) (cond a (cond b (again ∷ []) (next_start s p (overs s ms))) []) + upto (overs s ms) ≡ upto (cond (a && not b) (suc (overs s ms)) (overs s ms))
      go false b = omega arith
      go true false = omega (arith, firsts (slice_get (homes s p) (s.limit + overs s ms)), upto_more (overs s ms))
      go true true = rw other (omega arith)

  pub firsts_said : (ms : List Msg) → AllFit s p ms → count (sent_to p (is_start who)) (all_said (says s) p ms) + ids_in who.txn (take_first (s.limit + 0) (homes s p)) ≡ ids_in who.txn (take_first (s.limit + overs s ms) (homes s p))
  firsts_said [] fit = omega arith
  firsts_said (Done x part ∷ ms) fit = step (Done x part) ms (at_done x part ms) (firsts_said ms fit.1)
  firsts_said (Undone x part ∷ ms) fit = step (Undone x part) ms (at_undone1 x part ms (started_turn s p x ms fit.1 (aborted_started s p x ms fit.1 fit.0.1.4))) (firsts_said ms fit.1)
  firsts_said (Start x ∷ ms) fit = step (Start x) ms (omega (arith, none_next s p p (is_start who) (asks s p who) x (stamp_from s p (Start x ∷ ms) (stamped s x)) [] (slice_get (s.accesses x.txn) 0))) (firsts_said ms fit.1)
  firsts_said (Granted x k r w b ∷ ms) fit =
      step (Granted x k r w b) ms (omega (arith, none_next s p p (is_start who) (asks s p who) x (stamp_from s p ms (stamped s x)) (reverse (record { row = r; bound = b; key = k } ∷ grants_for x ms)) (slice_get (s.accesses x.txn) (suc (length (grants_for x ms)))))) (firsts_said ms fit.1)
  firsts_said (Refused x k c ∷ ms) fit = step (Refused x k c) ms (omega (arith, none_all s p p (is_start who) (Abort x) (asked_partitions s ms x) refl)) (firsts_said ms fit.1)
  firsts_said (Yes x part lo hi ∷ ms) fit = step (Yes x part lo hi) ms (omega (arith, none_polled s p p (is_start who) (ends s p who) x (record { part = part; vote = VotesYes lo hi } ∷ votes_for x ms))) (firsts_said ms fit.1)
  firsts_said (No x part c ∷ ms) fit = step (No x part c) ms (omega (arith, none_polled s p p (is_start who) (ends s p who) x (record { part = part; vote = VotesNo c } ∷ votes_for x ms))) (firsts_said ms fit.1)
  firsts_said (m ∷ ms) fit = step m ms (omega arith) (firsts_said ms fit.1)
