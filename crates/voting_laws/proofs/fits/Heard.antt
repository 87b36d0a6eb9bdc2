-- What a node has heard of one attempt, by what it keeps of it.
use Rattle.std.proofs.Common.{◌≡◌, ℕ, zero, suc, ◌+◌, ◌≤◌, List, [], ◌∷◌, length, slice_get, Bool, true, false, cond, ◌||◌, eqb, refl, sym, ap, ◌∙◌, subst, ⊎_elim, arith, Option, Some, None, true≢false}
use Rattle.std.specs.List.{list_any}
use Rattle.std.proofs.lemmas.Bool.Decides.{eqb_tells}
use Rattle.deneva_base.specs.declared.keys.Key.{Key}
use Rattle.deneva_base.specs.declared.numbers.Attempt.{Attempt}
use Rattle.deneva_base.specs.declared.keys.Mode.{Mode}
use Rattle.deneva_base.specs.Lists.{IsIn}
use Rattle.deneva_base.specs.Keys.{attempt_eq, key_eq}
use Rattle.deneva_base.specs.declared.answers.Vote.{Vote}
use Rattle.deneva_base.specs.declared.answers.Vote.TheVariants.{Yes as VotesYes, No as VotesNo}
use Rattle.protocol_rules.specs.Rules.{Rule}
use Rattle.protocol_rules.specs.History.{ended, closed}
use Rattle.deneva_base.proofs.Membership.{attempt_tells}
use Rattle.server_core.specs.declared.messages.Msg.{Msg}
use Rattle.server_core.specs.declared.messages.Msg.TheVariants.{Start, Ask, Granted, Refused, Prepare, Yes, No, Commit, Abort}
use Rattle.server_core.specs.Setting.{Setting, take_first, participants}
use Rattle.deneva_base.specs.declared.keys.Access.{Access}
use Rattle.server_core.specs.Received.{grants_for, votes_for, refused_for, started_for}
use Rattle.server_core.specs.declared.ballots.Ballot.{Ballot}
use Rattle.server_core.specs.Participant.{calls_of}
use Rattle.server_core.specs.VotingFits.{Suits, AllFit, HasAll, HasVoted}
use Rattle.server_core.specs.Proper.{keys_in}
use Rattle.server_core.proofs.counts.Local.{count_msgs}
use Rattle.server_core.proofs.counts.Prepares.{slice_some}
use Rattle.server_core.proofs.counts.Ends.{off_if}
use Rattle.server_core.proofs.counts.Quiet.{is_answer, is_prepare, is_vote, is_end}

abbrev pub key_in : Key → Option Access → ℕ
key_in key None = 0
key_in key (Some a) = cond (key_eq a.key key) 1 0

pub keys_more : (key : Key) (n : ℕ) (as' : List Access) → keys_in key (take_first (suc n) as') ≡ keys_in key (take_first n as') + key_in key (slice_get as' n)
keys_more key zero [] = refl
keys_more key (suc n) [] = refl
keys_more key zero (a ∷ as') = omega arith
keys_more key (suc n) (a ∷ as') = omega (arith, keys_more key n as')

-- the calls of a participant, by what it heard
pub closed_heard : (r : Rule) (who : Attempt) (ms : List Msg) → IsIn who (closed (calls_of r ms)) → 1 ≤ count_msgs (is_prepare who) ms
closed_heard r who [] i = absurd i
closed_heard r who (Prepare x bound writes appends ∷ ms) i =
    ⊎_elim
    (λ (e : who ≡ x). ⊎_elim (λ t. rw t.0 (omega arith)) (λ f. absurd (f.1 (sym e))) (attempt_tells x who))
    (λ t. omega (arith, closed_heard r who ms t))
    i
closed_heard r who (Ask x stamp key mode ∷ ms) i = omega (arith, closed_heard r who ms i)
closed_heard r who (m ∷ ms) i = omega (arith, closed_heard r who ms i)

pub ended_heard : (r : Rule) (who : Attempt) (ms : List Msg) → IsIn who (ended (calls_of r ms)) → 1 ≤ count_msgs (is_end who) ms
ended_heard r who [] i = absurd i
ended_heard r who (Commit x number ∷ ms) i =
    ⊎_elim
    (λ (e : who ≡ x). ⊎_elim (λ t. rw t.0 (omega arith)) (λ f. absurd (f.1 (sym e))) (attempt_tells x who))
    (λ t. omega (arith, ended_heard r who ms t))
    i
ended_heard r who (Abort x ∷ ms) i =
    ⊎_elim
    (λ (e : who ≡ x). ⊎_elim (λ t. rw t.0 (omega arith)) (λ f. absurd (f.1 (sym e))) (attempt_tells x who))
    (λ t. omega (arith, ended_heard r who ms t))
    i
ended_heard r who (m ∷ ms) i = omega (arith, ended_heard r who ms i)

module _ (s : Setting) (p : ℕ) (who : Attempt) where
  -- a refusal stands before the last grant, and each vote after it
  pub record Phases (ms : List Msg) : Type 0 where
    pub refused : refused_for who ms ≡ true → (a : Access) × (slice_get (s.accesses who.txn) (length (grants_for who ms)) ≡ Some a)
    pub voted : (r : ℕ) → HasVoted ms who r → HasAll s ms who × IsIn r (participants s who)

  both : (ms : List Msg) (g : ℕ) (a : Access) → slice_get (s.accesses who.txn) (length (grants_for who ms)) ≡ Some a → HasAll s ms who → ⊥
  both ms g a e all = omega (arith, slice_some (s.accesses who.txn) (length (grants_for who ms)) a e, all.2)

  itself : attempt_eq who who ≡ true
  itself = ⊎_elim (λ t. t.0) (λ f. absurd (f.1 refl)) (attempt_tells who who)

  or_right : (a b : Bool) → b ≡ true → (a || b) ≡ true
  or_right a b e = grind arith

  or_later : (a b : Bool) → a ≡ false → (a || b) ≡ true → b ≡ true
  or_later a b e f = grind arith

  one_vote : (part : ℕ) (v : Vote) (ms : List Msg) → Phases ms → IsIn part (participants s who) → HasAll s ms who → (r : ℕ) → list_any (λ (b : Ballot). eqb b.part r) (cond (attempt_eq who who) (record { part = part; vote = v } ∷ votes_for who ms) (votes_for who ms)) ≡ true → IsIn r (participants s who)
  one_vote part v ms h i all r e =
      let e' : (eqb part r || list_any (λ (b : Ballot). eqb b.part r) (votes_for who ms)) ≡ true = subst (λ z. list_any (λ (b : Ballot). eqb b.part r) (cond z (record { part = part; vote = v } ∷ votes_for who ms) (votes_for who ms)) ≡ true) itself e in
      ⊎_elim
      (λ t. subst (λ z. IsIn z (participants s who)) t.1 i)
      (λ f. (h.voted r (or_later (eqb part r) (list_any (λ (b : Ballot). eqb b.part r) (votes_for who ms)) f.0 e')).1)
      (eqb_tells part r)

  pub phases : (ms : List Msg) → AllFit s p ms → Phases ms
  phases [] fit = record { refused = λ e. absurd (true≢false (sym e)); voted = λ r v. absurd (true≢false (sym v)) }
  phases (Granted x k row version bound ∷ ms) fit =
      let h = phases ms fit.1 in
      ⊎_elim
      (λ t. subst (λ y. Suits s p fit.0.0 (Granted y k row version bound) ms → Phases (Granted y k row version bound ∷ ms)) (sym t.1)
      (λ own. record {
        refused = λ e. absurd (true≢false (sym e ∙ own.2.1.1));
        voted = λ r v. absurd (both ms 0 (record { key = k; mode = own.2.0 }) own.2.1.2 (h.voted r v).0);
      })
      fit.0.1)
      (λ t. record { refused = λ e. rw t.0 (h.refused e); voted = λ r v. rw t.0 (h.voted r v) })
      (attempt_tells x who)
  phases (Refused x k c ∷ ms) fit =
      let h = phases ms fit.1 in
      ⊎_elim
      (λ t. subst (λ y. Suits s p fit.0.0 (Refused y k c) ms → Phases (Refused y k c ∷ ms)) (sym t.1)
      (λ own. record {
        refused = λ e. (record { key = k; mode = own.2.0 }, own.2.1.2);
        voted = λ r v. absurd (both ms 0 (record { key = k; mode = own.2.0 }) own.2.1.2 (h.voted r v).0);
      })
      fit.0.1)
      (λ t. record { refused = λ e. h.refused (or_later (attempt_eq x who) (refused_for who ms) t.0 e); voted = λ r v. rw t.0 (h.voted r v) })
      (attempt_tells x who)
  phases (Yes x part lo hi ∷ ms) fit =
      let h = phases ms fit.1 in
      ⊎_elim
      (λ t. subst (λ y. Suits s p fit.0.0 (Yes y part lo hi) ms → Phases (Yes y part lo hi ∷ ms)) (sym t.1)
      (λ own. record {
        refused = λ e. absurd (true≢false (sym e ∙ own.3.1));
        voted = λ r v. (own.3, one_vote part (VotesYes lo hi) ms h own.2 own.3 r v);
      })
      fit.0.1)
      (λ t. record { refused = h.refused; voted = λ r v. h.voted r (rw t.0 at v) })
      (attempt_tells x who)
  phases (No x part c ∷ ms) fit =
      let h = phases ms fit.1 in
      ⊎_elim
      (λ t. subst (λ y. Suits s p fit.0.0 (No y part c) ms → Phases (No y part c ∷ ms)) (sym t.1)
      (λ own. record {
        refused = λ e. absurd (true≢false (sym e ∙ own.3.1));
        voted = λ r v. (own.3, one_vote part (VotesNo c) ms h own.2 own.3 r v);
      })
      fit.0.1)
      (λ t. record { refused = h.refused; voted = λ r v. h.voted r (rw t.0 at v) })
      (attempt_tells x who)
  phases (Start x ∷ ms) fit =
      let h = phases ms fit.1 in
      record { refused = h.refused; voted = λ r v. let f = h.voted r v in ((or_right (attempt_eq x who) (started_for who ms) f.0.0, f.0.1, f.0.2), f.1) }
  phases (m ∷ ms) fit = let h = phases ms fit.1 in record { refused = h.refused; voted = h.voted }

  -- how often the answers for a key came
  pub answers_heard : (key : Key) (ms : List Msg) → AllFit s p ms → count_msgs (is_answer who key) ms ≡ keys_in key (take_first (length (grants_for who ms)) (s.accesses who.txn)) + cond (refused_for who ms) (key_in key (slice_get (s.accesses who.txn) (length (grants_for who ms)))) 0
  answers_heard key [] fit = refl
  answers_heard key (Granted x k row version bound ∷ ms) fit =
      let ih = answers_heard key ms fit.1 in
      ⊎_elim
      (λ t. subst (λ y. Suits s p fit.0.0 (Granted y k row version bound) ms → count_msgs (is_answer who key) (Granted y k row version bound ∷ ms) ≡ keys_in key (take_first (length (grants_for who (Granted y k row version bound ∷ ms))) (s.accesses who.txn)) + cond (refused_for who ms) (key_in key (slice_get (s.accesses who.txn) (length (grants_for who (Granted y k row version bound ∷ ms))))) 0) (sym t.1)
      (λ own. own_grant own.2.0 own.2.1.1 own.2.1.2 ih)
      fit.0.1)
      (λ t. rw t.0 (omega (arith, ih)))
      (attempt_tells x who)
    where
      own_grant : (mode : Mode) → refused_for who ms ≡ false → slice_get (s.accesses who.txn) (length (grants_for who ms)) ≡ Some (record { key = k; mode = mode }) → count_msgs (is_answer who key) ms ≡ keys_in key (take_first (length (grants_for who ms)) (s.accesses who.txn)) + cond (refused_for who ms) (key_in key (slice_get (s.accesses who.txn) (length (grants_for who ms)))) 0 → count_msgs (is_answer who key) (Granted who k row version bound ∷ ms) ≡ keys_in key (take_first (length (grants_for who (Granted who k row version bound ∷ ms))) (s.accesses who.txn)) + cond (refused_for who ms) (key_in key (slice_get (s.accesses who.txn) (length (grants_for who (Granted who k row version bound ∷ ms))))) 0
      own_grant mode e f ih =
          let m : keys_in key (take_first (suc (length (grants_for who ms))) (s.accesses who.txn)) ≡ keys_in key (take_first (length (grants_for who ms)) (s.accesses who.txn)) + cond (key_eq k key) 1 0
          = keys_more key (length (grants_for who ms)) (s.accesses who.txn) ∙ ap (λ o. keys_in key (take_first (length (grants_for who ms)) (s.accesses who.txn)) + key_in key o) f in
          let ih' : count_msgs (is_answer who key) ms ≡ keys_in key (take_first (length (grants_for who ms)) (s.accesses who.txn)) + 0 = rw e at ih in
          rw (itself, e) (omega (arith, m, ih'))
  answers_heard key (Refused x k c ∷ ms) fit =
      let ih = answers_heard key ms fit.1 in
      ⊎_elim
      (λ t. subst (λ y. Suits s p fit.0.0 (Refused y k c) ms → count_msgs (is_answer who key) (Refused y k c ∷ ms) ≡ keys_in key (take_first (length (grants_for who ms)) (s.accesses who.txn)) + cond (refused_for who (Refused y k c ∷ ms)) (key_in key (slice_get (s.accesses who.txn) (length (grants_for who ms)))) 0) (sym t.1)
      (λ own.
      let ih' : count_msgs (is_answer who key) ms ≡ keys_in key (take_first (length (grants_for who ms)) (s.accesses who.txn)) + 0 = rw own.2.1.1 at ih in
      rw itself (omega (arith, ih', ap (key_in key) own.2.1.2)))
      fit.0.1)
      (λ t. rw t.0 (omega (arith, ih)))
      (attempt_tells x who)
  answers_heard key (m ∷ ms) fit = omega (arith, answers_heard key ms fit.1)

  -- each participant's vote came at most once
  pub votes_heard : (r : ℕ) (ms : List Msg) → AllFit s p ms → count_msgs (is_vote who r) ms ≡ cond (list_any (λ (b : Ballot). eqb b.part r) (votes_for who ms)) 1 0
  votes_heard r [] fit = refl
  votes_heard r (Yes x part lo hi ∷ ms) fit =
      let ih = votes_heard r ms fit.1 in
      ⊎_elim
      (λ t. let off = off_if (list_any (λ (b : Ballot). eqb b.part part) (votes_for x ms)) fit.0.1.4 in
      let off' : list_any (λ (b : Ballot). eqb b.part part) (votes_for who ms) ≡ false = subst (λ y. list_any (λ (b : Ballot). eqb b.part part) (votes_for y ms) ≡ false) t.1 off in
      rw t.0 (own part off' ih))
      (λ t. rw t.0 (omega (arith, ih)))
      (attempt_tells x who)
    where
      own : (part : ℕ) → list_any (λ (b : Ballot). eqb b.part part) (votes_for who ms) ≡ false → count_msgs (is_vote who r) ms ≡ cond (list_any (λ (b : Ballot). eqb b.part r) (votes_for who ms)) 1 0 → cond (eqb part r) 1 0 + count_msgs (is_vote who r) ms ≡ cond (eqb part r || list_any (λ (b : Ballot). eqb b.part r) (votes_for who ms)) 1 0
      own part off ih =
          ⊎_elim
          (λ t. let off' : list_any (λ (b : Ballot). eqb b.part r) (votes_for who ms) ≡ false = subst (λ z. list_any (λ (b : Ballot). eqb b.part z) (votes_for who ms) ≡ false) t.1 off in
          let ih' : count_msgs (is_vote who r) ms ≡ 0 = rw off' at ih in
          rw t.0 (omega (arith, ih')))
          (λ t. rw t.0 (omega (arith, ih)))
          (eqb_tells part r)
  votes_heard r (No x part c ∷ ms) fit =
      let ih = votes_heard r ms fit.1 in
      ⊎_elim
      (λ t. let off = off_if (list_any (λ (b : Ballot). eqb b.part part) (votes_for x ms)) fit.0.1.4 in
      let off' : list_any (λ (b : Ballot). eqb b.part part) (votes_for who ms) ≡ false = subst (λ y. list_any (λ (b : Ballot). eqb b.part part) (votes_for y ms) ≡ false) t.1 off in
      rw t.0 (own part off' ih))
      (λ t. rw t.0 (omega (arith, ih)))
      (attempt_tells x who)
    where
      own : (part : ℕ) → list_any (λ (b : Ballot). eqb b.part part) (votes_for who ms) ≡ false → count_msgs (is_vote who r) ms ≡ cond (list_any (λ (b : Ballot). eqb b.part r) (votes_for who ms)) 1 0 → cond (eqb part r) 1 0 + count_msgs (is_vote who r) ms ≡ cond (eqb part r || list_any (λ (b : Ballot). eqb b.part r) (votes_for who ms)) 1 0
      own part off ih =
          ⊎_elim
          (λ t. let off' : list_any (λ (b : Ballot). eqb b.part r) (votes_for who ms) ≡ false = subst (λ z. list_any (λ (b : Ballot). eqb b.part z) (votes_for who ms) ≡ false) t.1 off in
          let ih' : count_msgs (is_vote who r) ms ≡ 0 = rw off' at ih in
          rw t.0 (omega (arith, ih')))
          (λ t. rw t.0 (omega (arith, ih)))
          (eqb_tells part r)
  votes_heard r (m ∷ ms) fit = omega (arith, votes_heard r ms fit.1)
