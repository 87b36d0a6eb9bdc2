-- A Done and an Undone: the state after it, what is said, and how many transactions are over.
use Rattle.std.proofs.Common.{◌≡◌, ◌⊎◌, ℕ, suc, ◌+◌, ◌<◌, ◌≤◌, List, [], ◌∷◌, Bool, true, false, cond, not, ltb, refl, sym, ap, ◌∙◌, subst, inl, inr, ⊎_elim, arith, Option, Some, None}
use Rattle.std.proofs.lemmas.Bool.Decides.{nat_tests, eqb_tells}
use Rattle.deneva_base.specs.declared.numbers.Attempt.{Attempt}
use Rattle.deneva_base.specs.declared.numbers.Number.{Number}
use Rattle.deneva_base.specs.declared.numbers.TxnId.{TxnId}
use Rattle.deneva_base.specs.Lists.{IsIn}
use Rattle.server_core.specs.declared.messages.Mail.{Mail}
use Rattle.server_core.specs.declared.messages.Msg.{Msg}
use Rattle.server_core.specs.declared.messages.Msg.TheVariants.{Start, Commit, Done, Undone}
use Rattle.server_core.specs.Coordinator.{coordinator, next_start, overs}
use Rattle.server_core.specs.Setting.{Setting}
use Rattle.server_core.specs.VotingFits.{Suits, AllFit}
use Rattle.server_core.proofs.values.EarlierTurns.{undone_before}
use Rattle.server_core.proofs.values.Origins.{aborted_started}
use Rattle.server_core.proofs.counts.Starts.{started_turn}
use Rattle.coord.specs.Left.{left_to_close}
use Rattle.coord.specs.States.{State, done, done_as, undone, undone_as, if_none_left, undone_mails, risen, with_left, without}
use Rattle.coord.specs.Following.{Heard, heard_of, turns_of, told_to, IsPolled, HasDecided, IsAborted, HasEnded, Closes, IsInPhase, IsCurrent, IsShut, Follows}
use Rattle.coord.proofs.Asking.{Moves, goes_on}
use Rattle.coord.proofs.Lists.{some_to_close}
use Rattle.coord.proofs.OneMore.{closed_more, left_none_to_close}
use Rattle.coord.proofs.Phases.{closes_met}
use Rattle.coord.proofs.Turns.{itself, earlier_ended}

module _ (s : Setting) (p : ℕ) (x : TxnId) (ms : List Msg) (fit : AllFit s p ms) where
  abbrev hs : ℕ → Heard
  hs = turns_of s p ms x

  -- each turn before one that is started was followed by the next
  next_started : (n turn : ℕ) → 1 ≤ n → n < turn → (hs turn).started ≡ true → (hs (suc n)).started ≡ true
  next_started n turn low less e =
      ⊎_elim
      (λ same. subst (λ k. (hs k).started ≡ true) (sym same.1) e)
      (λ other. let u = undone_before s p x (suc n) turn ms fit (omega arith) (omega (arith, less, other.1)) e in aborted_started s p (record { txn = x; turn = suc n }) ms fit u.0)
      (eqb_tells (suc n) turn)

  -- the last attempt has ended, and there is no other
  shut_at : (turn : ℕ) → (turns_of s p ms x turn).started ≡ true → ((n : ℕ) → (turns_of s p ms x n).started ≡ true → n ≤ turn) → HasEnded s x (turns_of s p ms x turn) → ((n : Number) × HasDecided s (record { txn = x; turn = turn }) (turns_of s p ms x turn) (Commit (record { txn = x; turn = turn }) n)) ⊎ (s.attempts ≤ turn) → IsShut s x (turns_of s p ms x)
  shut_at turn e latest ended last = record {
    ended = λ n st.
        ⊎_elim
        (λ same. subst (λ k. HasEnded s x (hs k)) (sym same.1) ended)
        (λ other. earlier_ended s p x ms fit n turn (started_turn s p (record { txn = x; turn = n }) ms fit st) (less n st other.1) e)
        (eqb_tells n turn);
    last = λ n st.
        ⊎_elim
        (λ same. subst (λ k. ((v : Number) × HasDecided s (record { txn = x; turn = k }) (hs k) (Commit (record { txn = x; turn = k }) v)) ⊎ ((s.attempts ≤ k) ⊎ ((hs (suc k)).started ≡ true))) (sym same.1) (⊎_elim (λ c. inl c) (λ l. inr (inl l)) last))
        (λ other. inr (inr (next_started n turn (started_turn s p (record { txn = x; turn = n }) ms fit st) (less n st other.1) e)))
        (eqb_tells n turn);
  }
    where
      less : (n : ℕ) → (hs n).started ≡ true → (n ≡ turn → ⊥) → n < turn
      less n st ne = let l = latest n st in omega (arith, l, ne)

abbrev with_close : ℕ → Heard → Heard
with_close part h = record { started = h.started; stamp = h.stamp; grants = h.grants; refused = h.refused; votes = h.votes; closes = part ∷ h.closes }

-- a move after which so many transactions are over
pub record MovesOn (s : Setting) (p : ℕ) (x : TxnId) (m : Msg) (ms : List Msg) (o : Option State) (next : State → Option State) (mails : State → List Mail) (after : State → ℕ) : Type 0 where
  pub move : Moves s p x m ms o next mails
  pub over : overs s (m ∷ ms) ≡ after move.state

module _ (s : Setting) (p : ℕ) (ms : List Msg) (fit : AllFit s p ms) (who : Attempt) (o : Option State) (follows : Follows s who.txn (turns_of s p ms who.txn) o) (part f : ℕ) where
  abbrev x : TxnId
  x = who.txn

  abbrev h : Heard
  h = heard_of s p ms who

  -- what is left then
  module _ (t : State) (closes : Closes s x h t) where
    left_is : without part t.left ≡ left_to_close (part ∷ h.closes) (told_to s x h)
    left_is = ap (without part) closes.left ∙ sym (closed_more part h.closes (told_to s x h))

    more_phase : (y : ℕ) (l : List ℕ) → left_to_close (part ∷ h.closes) (told_to s x h) ≡ y ∷ l → IsInPhase s x (with_close part h) (with_left (y ∷ l) t)
    more_phase y l e = inr (inr (inl (record { ends = closes.ends; left = sym e; more = some_to_close (part ∷ h.closes) (told_to s x h) y l e })))

    ended_with : left_to_close (part ∷ h.closes) (told_to s x h) ≡ [] → HasEnded s x (with_close part h)
    ended_with e = (closes.ends, (left_none_to_close (part ∷ h.closes) (told_to s x h)).1 e)

  module _ (suits : Suits s p f (Done who part) ms) where
    abbrev m : Msg
    m = Done who part

    abbrev fit' : AllFit s p (Done who part ∷ ms)
    fit' = ((f, suits), fit)

    done_heard : heard_of s p (m ∷ ms) who ≡ with_close part h
    done_heard = rw (itself who) refl

    done_there : IsIn part (told_to s x h)
    done_there = subst (λ b. IsIn part (told_to s x (record { started = h.started; stamp = h.stamp; grants = h.grants; refused = b; votes = h.votes; closes = h.closes }))) (sym suits.4.1.0.0.1) suits.2

    module _ (t : State) (now : IsCurrent s x (turns_of s p ms x) t) (turn : t.turn ≡ who.turn) (closes : Closes s x h t) where
      done_follows : (l : List ℕ) → left_to_close (part ∷ h.closes) (told_to s x h) ≡ l → Follows s x (turns_of s p (m ∷ ms) x) (done_as t l)
      done_follows [] e =
          shut_at s p x (m ∷ ms) fit' who.turn (subst (λ n. (turns_of s p ms x n).started ≡ true) turn now.started) (λ n st. subst (λ k. n ≤ k) turn (now.latest n st))
          (subst (HasEnded s x) (sym done_heard) (ended_with t closes e)) (inl (suits.4.0, suits.4.1))
      done_follows (y ∷ l) e =
          goes_on s x (turns_of s p ms x) (turns_of s p (m ∷ ms) x) t (with_left (y ∷ l) t) now refl refl refl (λ n. refl) (λ n. refl)
          (subst (λ n. IsInPhase s x (turns_of s p (m ∷ ms) x n) (with_left (y ∷ l) t)) (sym turn) (subst (λ k. IsInPhase s x k (with_left (y ∷ l) t)) (sym done_heard) (more_phase t closes y l e)))

      done_says : (l : List ℕ) → left_to_close (part ∷ h.closes) (told_to s x h) ≡ l → coordinator s p m ms ≡ if_none_left (next_start s p (overs s ms)) l
      done_says [] e = rw ((left_none_to_close (part ∷ h.closes) (told_to s x h)).1 e) refl
      done_says (y ∷ l) e = rw (some_to_close (part ∷ h.closes) (told_to s x h) y l e) refl

      done_over : (l : List ℕ) → left_to_close (part ∷ h.closes) (told_to s x h) ≡ l → overs s (m ∷ ms) ≡ risen true (overs s ms) l
      done_over [] e = rw ((left_none_to_close (part ∷ h.closes) (told_to s x h)).1 e) (omega arith)
      done_over (y ∷ l) e = rw (some_to_close (part ∷ h.closes) (told_to s x h) y l e) refl

    pub done_moves : MovesOn s p who.txn (Done who part) ms o (done part) (λ t. if_none_left (next_start s p (overs s ms)) (without part t.left)) (λ t. risen true (overs s ms) (without part t.left))
    done_moves =
        let met = closes_met s p ms fit who o follows part suits.4.1.0.0.0 done_there suits.3 (inr suits.4.1.0) in
        let t = met.state in
        let left = left_is t met.phase in
        record {
          move = record {
            state = t;
            is = met.is;
            now = met.now;
            follows = subst (λ l. Follows s x (turns_of s p (m ∷ ms) x) (done_as t l)) (sym left) (done_follows t met.now met.turn met.phase (left_to_close (part ∷ h.closes) (told_to s x h)) refl);
            says = done_says t met.now met.turn met.phase (without part t.left) (sym left);
          };
          over = done_over t met.now met.turn met.phase (without part t.left) (sym left);
        }

  module _ (suits : Suits s p f (Undone who part) ms) where
    abbrev n : Msg
    n = Undone who part

    abbrev fit2 : AllFit s p (Undone who part ∷ ms)
    fit2 = ((f, suits), fit)

    undone_heard : heard_of s p (n ∷ ms) who ≡ with_close part h
    undone_heard = rw (itself who) refl

    ends : (h.refused ≡ true) ⊎ IsPolled s x h
    ends = ⊎_elim (λ r. inl r) (λ d. inr d.0) suits.4

    module _ (t : State) (now : IsCurrent s x (turns_of s p ms x) t) (turn : t.turn ≡ who.turn) (closes : Closes s x h t) where
      last_follows : left_to_close (part ∷ h.closes) (told_to s x h) ≡ [] → (b : Bool) → ltb who.turn s.attempts ≡ b → Follows s x (turns_of s p (n ∷ ms) x) (cond b (Some (with_left [] t)) None)
      last_follows e true less =
          goes_on s x (turns_of s p ms x) (turns_of s p (n ∷ ms) x) t (with_left [] t) now refl refl refl (λ k. refl) (λ k. refl)
          (subst (λ k. IsInPhase s x (turns_of s p (n ∷ ms) x k) (with_left [] t)) (sym turn)
          (subst (λ k. IsInPhase s x k (with_left [] t)) (sym undone_heard)
          (inr (inr (inr (record { aborted = subst (λ k. IsAborted s (record { txn = x; turn = k }) (with_close part h)) (sym turn) suits.4; closed = (ended_with t closes e).1; turns = turns_left }))))))
        where
          turns_left : t.turn < s.attempts
          turns_left = grind (arith, nat_tests, less, turn)
      last_follows e false less =
          shut_at s p x (n ∷ ms) fit2 who.turn (subst (λ k. (turns_of s p ms x k).started ≡ true) turn now.started) (λ k st. subst (λ j. k ≤ j) turn (now.latest k st))
          (subst (HasEnded s x) (sym undone_heard) (ended_with t closes e)) (inr none_left)
        where
          none_left : s.attempts ≤ who.turn
          none_left = grind (arith, nat_tests, less)

      undone_follows : (l : List ℕ) → left_to_close (part ∷ h.closes) (told_to s x h) ≡ l → Follows s x (turns_of s p (n ∷ ms) x) (undone_as s who t l)
      undone_follows [] e = last_follows e (ltb who.turn s.attempts) refl
      undone_follows (y ∷ l) e =
          goes_on s x (turns_of s p ms x) (turns_of s p (n ∷ ms) x) t (with_left (y ∷ l) t) now refl refl refl (λ k. refl) (λ k. refl)
          (subst (λ k. IsInPhase s x (turns_of s p (n ∷ ms) x k) (with_left (y ∷ l) t)) (sym turn) (subst (λ k. IsInPhase s x k (with_left (y ∷ l) t)) (sym undone_heard) (more_phase t closes y l e)))

      undone_says : (l : List ℕ) → left_to_close (part ∷ h.closes) (told_to s x h) ≡ l → coordinator s p n ms ≡ if_none_left (undone_mails s p who (next_start s p (overs s ms))) l
      undone_says [] e = rw ((left_none_to_close (part ∷ h.closes) (told_to s x h)).1 e) (ap (λ k. cond (ltb who.turn s.attempts) (record { from = p; to = p; msg = Start (record { txn = who.txn; turn = k }) } ∷ []) (next_start s p (overs s ms))) (one who.turn))
        where
          one : (k : ℕ) → suc k ≡ k + 1
          one k = omega arith
      undone_says (y ∷ l) e = rw (some_to_close (part ∷ h.closes) (told_to s x h) y l e) refl

      undone_over : (l : List ℕ) → left_to_close (part ∷ h.closes) (told_to s x h) ≡ l → overs s (n ∷ ms) ≡ risen (not (ltb who.turn s.attempts)) (overs s ms) l
      undone_over [] e = rw ((left_none_to_close (part ∷ h.closes) (told_to s x h)).1 e) (ap (λ k. cond (not (ltb who.turn s.attempts)) k (overs s ms)) (one (overs s ms)))
        where
          one : (k : ℕ) → suc k ≡ k + 1
          one k = omega arith
      undone_over (y ∷ l) e = rw (some_to_close (part ∷ h.closes) (told_to s x h) y l e) refl

    pub undone_moves : MovesOn s p who.txn (Undone who part) ms o (undone s who part) (λ t. if_none_left (undone_mails s p who (next_start s p (overs s ms))) (without part t.left)) (λ t. risen (not (ltb who.turn s.attempts)) (overs s ms) (without part t.left))
    undone_moves =
        let met = closes_met s p ms fit who o follows part (aborted_started s p who ms fit suits.4) suits.2 suits.3 ends in
        let t = met.state in
        let left = left_is t met.phase in
        record {
          move = record {
            state = t;
            is = met.is;
            now = met.now;
            follows = subst (λ l. Follows s x (turns_of s p (n ∷ ms) x) (undone_as s who t l)) (sym left) (undone_follows t met.now met.turn met.phase (left_to_close (part ∷ h.closes) (told_to s x h)) refl);
            says = undone_says t met.now met.turn met.phase (without part t.left) (sym left);
          };
          over = undone_over t met.now met.turn met.phase (without part t.left) (sym left);
        }
