-- The message that closed an attempt at its home, and what was said at it.
use Rattle.std.proofs.Common.{◌≡◌, ◌≢◌, ◌⊎◌, ℕ, suc, ◌+◌, ◌<◌, ◌≤◌, ltb, List, [], ◌∷◌, length, slice_get, Bool, true, false, cond, not, ◌&&◌, eqb, refl, sym, ap, ◌∙◌, subst, inl, inr, ⊎_elim, arith, Some, true≢false}
use Rattle.std.proofs.lemmas.Bool.Decides.{nat_tests, eqb_tells}
use Rattle.deneva_base.specs.declared.keys.Key.{Key}
use Rattle.deneva_base.specs.declared.numbers.TxnId.{TxnId}
use Rattle.deneva_base.specs.declared.numbers.Attempt.{Attempt}
use Rattle.deneva_base.specs.declared.numbers.Number.{Number}
use Rattle.deneva_base.specs.declared.keys.Mode.{Mode}
use Rattle.deneva_base.specs.Lists.{IsIn}
use Rattle.deneva_base.specs.Keys.{attempt_eq}
use Rattle.deneva_base.proofs.Membership.{in_left, in_right, attempt_tells}
use Rattle.server_core.specs.declared.messages.Msg.{Msg}
use Rattle.server_core.specs.declared.messages.Msg.TheVariants.{Start, Ask, Granted, Refused, Commit, Abort, Done, Undone}
use Rattle.server_core.specs.declared.messages.Mail.{Mail}
use Rattle.server_core.specs.Setting.{Setting, homes}
use Rattle.server_core.specs.Received.{closes_for, all_closed}
use Rattle.server_core.specs.Coordinator.{told, overs, mail_start, coordinator}
use Rattle.server_core.specs.Participant.{mail_home, participant}
use Rattle.server_core.specs.Voting.{says}
use Rattle.server_core.specs.VotingFits.{Suits, AllFit, IsAsking, IsAborted, Decides}
use Rattle.server_core.specs.Counts.{all_said}
use Rattle.server_core.proofs.values.Decisions.{asks_no_more, aborted_more, decides_more}
use Rattle.server_core.proofs.values.Closed.{closed_there}

-- the transactions that were over, each at the message that made it so
abbrev pub over_ids : Setting → List Msg → List TxnId
over_ids s [] = []
over_ids s (Done who part ∷ ms) = cond (all_closed (part ∷ closes_for who ms) (told s ms who)) (who.txn ∷ over_ids s ms) (over_ids s ms)
over_ids s (Undone who part ∷ ms) = cond (all_closed (part ∷ closes_for who ms) (told s ms who) && not (ltb who.turn s.attempts)) (who.txn ∷ over_ids s ms) (over_ids s ms)
over_ids s (m ∷ ms) = over_ids s ms

pub overs_count : (s : Setting) (ms : List Msg) → length (over_ids s ms) ≡ overs s ms
overs_count s [] = refl
overs_count s (Done who part ∷ ms) = go (all_closed (part ∷ closes_for who ms) (told s ms who)) (overs_count s ms)
  where
    go : (b : Bool) → length (over_ids s ms) ≡ overs s ms → length (cond b (who.txn ∷ over_ids s ms) (over_ids s ms)) ≡ cond b (suc (overs s ms)) (overs s ms)
    go true e = omega (arith, e)
    go false e = e
overs_count s (Undone who part ∷ ms) = go (all_closed (part ∷ closes_for who ms) (told s ms who) && not (ltb who.turn s.attempts)) (overs_count s ms)
  where
    go : (b : Bool) → length (over_ids s ms) ≡ overs s ms → length (cond b (who.txn ∷ over_ids s ms) (over_ids s ms)) ≡ cond b (suc (overs s ms)) (overs s ms)
    go true e = omega (arith, e)
    go false e = e
overs_count s (Start x ∷ ms) = overs_count s ms
overs_count s (m ∷ ms) = overs_count s ms

over_kept : (s : Setting) (m : Msg) (ms : List Msg) (x : TxnId) → IsIn x (over_ids s ms) → IsIn x (over_ids s (m ∷ ms))
over_kept s (Done who part) ms x i = go (all_closed (part ∷ closes_for who ms) (told s ms who))
  where
    go : (b : Bool) → IsIn x (cond b (who.txn ∷ over_ids s ms) (over_ids s ms))
    go true = inr i
    go false = i
over_kept s (Undone who part) ms x i = go (all_closed (part ∷ closes_for who ms) (told s ms who) && not (ltb who.turn s.attempts))
  where
    go : (b : Bool) → IsIn x (cond b (who.txn ∷ over_ids s ms) (over_ids s ms))
    go true = inr i
    go false = i
over_kept s (Start y) ms x i = i
over_kept s m ms x i = i

itself : (y : Attempt) → attempt_eq y y ≡ true
itself y = ⊎_elim (λ t. t.0) (λ f. absurd (f.1 refl)) (attempt_tells y y)

module _ (s : Setting) (p : ℕ) (who : Attempt) where
  abbrev pub Fate : List Msg → Type 0
  Fate ms = IsAborted s ms who ⊎ ((n : Number) × Decides s ms who (Commit who n))

  fate_more : (m : Msg) (ms : List Msg) (f : ℕ) → Suits s p f m ms → Fate ms → Fate (m ∷ ms)
  fate_more m ms f fit h = ⊎_elim (λ a. inl (aborted_more s p who m ms f fit a)) (λ d. inr (d.0, decides_more s p who (Commit who d.0) m ms f fit d.1)) h

  -- who was closed somewhere was aborted or committed
  pub fate : (ms : List Msg) → AllFit s p ms → (q : ℕ) → IsIn q (closes_for who ms) → Fate ms
  fate [] fit q i = absurd i
  fate (Done x part ∷ ms) fit q i =
      fate_more (Done x part) ms fit.0.0 fit.0.1
      (⊎_elim
      (λ t. inr (fit.0.1.4.0, subst (λ y. Decides s ms y (Commit y fit.0.1.4.0)) t.1 fit.0.1.4.1))
      (λ t. fate ms fit.1 q (rw t.0 at i))
      (attempt_tells x who))
  fate (Undone x part ∷ ms) fit q i =
      fate_more (Undone x part) ms fit.0.0 fit.0.1
      (⊎_elim
      (λ t. inl (subst (λ y. IsAborted s ms y) t.1 fit.0.1.4))
      (λ t. fate ms fit.1 q (rw t.0 at i))
      (attempt_tells x who))
  fate (Ask x st k m ∷ ms) fit q i = fate_more (Ask x st k m) ms fit.0.0 fit.0.1 (fate ms fit.1 q i)
  fate (m ∷ ms) fit q i = fate_more m ms fit.0.0 fit.0.1 (fate ms fit.1 q i)

  pub no_asking : (ms : List Msg) (key : Key) (mode : Mode) → Fate ms → IsAsking s ms who key mode → ⊥
  no_asking ms key mode h a =
      ⊎_elim
      (λ b. ⊎_elim (λ r. true≢false (sym r ∙ a.1)) (λ d. asks_no_more s p who ms key mode a d.0.0) b)
      (λ d. asks_no_more s p who ms key mode a d.1.0.0)
      h

  -- all its closes came
  pub record Closed (ms : List Msg) : Type 0 where
    pub all : all_closed (closes_for who ms) (told s ms who) ≡ true
    pub some : ℕ
    pub here : IsIn some (told s ms who)

  abbrev again : Mail
  again = record { from = p; to = p; msg = Start (record { txn = who.txn; turn = suc who.turn }) }

  abbrev pub Ends : List Msg → Type 0
  Ends ms = (IsIn who.txn (over_ids s ms) × (((n : Number) × Decides s ms who (Commit who n)) ⊎ (s.attempts ≤ who.turn))) ⊎ (IsAborted s ms who × (who.turn < s.attempts) × IsIn (record { from = p; to = p; msg = Start (record { txn = who.txn; turn = suc who.turn }) }) (all_said (says s) p ms))

  ends_more : (m : Msg) (ms : List Msg) (f : ℕ) → Suits s p f m ms → Ends ms → Ends (m ∷ ms)
  ends_more m ms f fit h = ⊎_elim (λ a. inl (over_kept s m ms who.txn a.0, ⊎_elim (λ d. inl (d.0, decides_more s p who (Commit who d.0) m ms f fit d.1)) (λ l. inr l) a.1)) (λ d. inr (aborted_more s p who m ms f fit d.0, d.1, in_right again (says s p (m ∷ ms)) (all_said (says s) p ms) d.2)) h

  -- so it is over, or its next turn was said
  pub closed_ends : (ms : List Msg) → AllFit s p ms → Closed ms → Ends ms
  closed_ends [] fit c = absurd (closed_there [] (told s [] who) c.some c.all c.here)
  closed_ends (Done x part ∷ ms) fit c =
      ⊎_elim
      (λ t. own t.1 (subst (λ l. all_closed l (told s ms who) ≡ true) (ap (λ b. cond b (part ∷ closes_for who ms) (closes_for who ms)) t.0) c.all))
      (λ t. ends_more (Done x part) ms fit.0.0 fit.0.1 (closed_ends ms fit.1 (record { all = subst (λ l. all_closed l (told s ms who) ≡ true) (ap (λ b. cond b (part ∷ closes_for who ms) (closes_for who ms)) t.0) c.all; some = c.some; here = c.here })))
      (attempt_tells x who)
    where
      own : x ≡ who → all_closed (part ∷ closes_for who ms) (told s ms who) ≡ true → Ends (Done x part ∷ ms)
      own is e =
          inl (
            subst (λ b. IsIn who.txn (cond b (x.txn ∷ over_ids s ms) (over_ids s ms))) (sym (subst (λ y. all_closed (part ∷ closes_for y ms) (told s ms y) ≡ true) (sym is) e)) (inl (ap (λ (y : Attempt). y.txn) (sym is))),
            inl (fit.0.1.4.0, decides_more s p who (Commit who fit.0.1.4.0) (Done x part) ms fit.0.0 fit.0.1 (subst (λ y. Decides s ms y (Commit y fit.0.1.4.0)) is fit.0.1.4.1)),
          )
  closed_ends (Undone x part ∷ ms) fit c =
      ⊎_elim
      (λ t. own t.1 (ltb x.turn s.attempts) refl (subst (λ l. all_closed l (told s ms who) ≡ true) (ap (λ b. cond b (part ∷ closes_for who ms) (closes_for who ms)) t.0) c.all))
      (λ t. ends_more (Undone x part) ms fit.0.0 fit.0.1 (closed_ends ms fit.1 (record { all = subst (λ l. all_closed l (told s ms who) ≡ true) (ap (λ b. cond b (part ∷ closes_for who ms) (closes_for who ms)) t.0) c.all; some = c.some; here = c.here })))
      (attempt_tells x who)
    where
      less : (a b : ℕ) → ltb a b ≡ true → a < b
      less a b e = grind (arith, nat_tests, e)

      more : (a b : ℕ) → ltb a b ≡ false → b ≤ a
      more a b e = grind (arith, nat_tests, e)

      own : x ≡ who → (w : Bool) → ltb x.turn s.attempts ≡ w → all_closed (part ∷ closes_for who ms) (told s ms who) ≡ true → Ends (Undone x part ∷ ms)
      own is true ew e =
          let e' : all_closed (part ∷ closes_for x ms) (told s ms x) ≡ true = subst (λ y. all_closed (part ∷ closes_for y ms) (told s ms y) ≡ true) (sym is) e in
          let said : IsIn again (coordinator s p (Undone x part) ms) = rw (e', ew) (inl (ap (λ (y : Attempt). record { from = p; to = p; msg = Start (record { txn = y.txn; turn = suc y.turn }) }) (sym is))) in
          inr (
            aborted_more s p who (Undone x part) ms fit.0.0 fit.0.1 (subst (IsAborted s ms) is fit.0.1.4),
            subst (λ (y : Attempt). y.turn < s.attempts) is (less x.turn s.attempts ew),
            in_left again (says s p (Undone x part ∷ ms)) (all_said (says s) p ms) (in_left again (coordinator s p (Undone x part) ms) (participant s p (Undone x part) ms) said),
          )
      own is false ew e =
          let e' : all_closed (part ∷ closes_for x ms) (told s ms x) ≡ true = subst (λ y. all_closed (part ∷ closes_for y ms) (told s ms y) ≡ true) (sym is) e in
          inl (rw (e', ew) (inl (ap (λ (y : Attempt). y.txn) (sym is))), inr (subst (λ (y : Attempt). s.attempts ≤ y.turn) is (more x.turn s.attempts ew)))
  closed_ends (Granted x k r n b ∷ ms) fit c =
      let h = fate ms fit.1 c.some (closed_there (closes_for who ms) (told s (Granted x k r n b ∷ ms) who) c.some c.all c.here) in
      ends_more (Granted x k r n b) ms fit.0.0 fit.0.1
      (⊎_elim
      (λ (t : (attempt_eq x who ≡ true) × (x ≡ who)). let a = subst (λ y. (mode : Mode) × IsAsking s ms y k mode) t.1 fit.0.1.2 in absurd (no_asking ms k a.0 h a.1))
      (λ (t : (attempt_eq x who ≡ false) × (x ≢ who)). closed_ends ms fit.1 (record { all = rw t.0 at c.all; some = c.some; here = rw t.0 at c.here }))
      (attempt_tells x who))
  closed_ends (Refused x k d ∷ ms) fit c =
      let h = fate ms fit.1 c.some (closed_there (closes_for who ms) (told s (Refused x k d ∷ ms) who) c.some c.all c.here) in
      ends_more (Refused x k d) ms fit.0.0 fit.0.1
      (⊎_elim
      (λ (t : (attempt_eq x who ≡ true) × (x ≡ who)). let a = subst (λ y. (mode : Mode) × IsAsking s ms y k mode) t.1 fit.0.1.2 in absurd (no_asking ms k a.0 h a.1))
      (λ (t : (attempt_eq x who ≡ false) × (x ≢ who)). closed_ends ms fit.1 (record { all = rw t.0 at c.all; some = c.some; here = rw t.0 at c.here }))
      (attempt_tells x who))
  closed_ends (Ask x st k m ∷ ms) fit c = ends_more (Ask x st k m) ms fit.0.0 fit.0.1 (closed_ends ms fit.1 (record { all = c.all; some = c.some; here = c.here }))
  closed_ends (m ∷ ms) fit c = ends_more m ms fit.0.0 fit.0.1 (closed_ends ms fit.1 (record { all = c.all; some = c.some; here = c.here }))

  -- who handled an Abort says Undone
  pub undone_said : (n : ℕ) (ms : List Msg) → IsIn (Abort who) ms → IsIn (mail_home s n who (Undone who n)) (all_said (says s) n ms)
  undone_said n [] i = absurd i
  undone_said n (Abort x ∷ ms) i =
      ⊎_elim
      (λ (e : Abort who ≡ Abort x). let is : who ≡ x = cc in inl (ap (λ z. mail_home s n z (Undone z n)) is))
      (λ r. in_right (mail_home s n who (Undone who n)) (says s n (Abort x ∷ ms)) (all_said (says s) n ms) (undone_said n ms r))
      i
  undone_said n (Ask x st k m ∷ ms) i = in_right (mail_home s n who (Undone who n)) (says s n (Ask x st k m ∷ ms)) (all_said (says s) n ms) (undone_said n ms (⊎_elim (λ e. absurd (cc (e))) (λ r. r) i))
  undone_said n (m ∷ ms) i = in_right (mail_home s n who (Undone who n)) (says s n (m ∷ ms)) (all_said (says s) n ms) (undone_said n ms (⊎_elim (λ e. absurd (cc (e))) (λ r. r) i))

-- each transaction that was over brought the next Start
module _ (s : Setting) (p : ℕ) (x : TxnId) where
  abbrev first : Mail
  first = record { from = p; to = p; msg = Start (record { txn = x; turn = 1 }) }

  pub next_said : (n : ℕ) (ms : List Msg) → n < overs s ms → slice_get (homes s p) (s.limit + n) ≡ Some x → IsIn (record { from = p; to = p; msg = Start (record { txn = x; turn = 1 }) }) (all_said (says s) p ms)
  next_said n [] h e = absurd (omega (arith, h))
  next_said n (Done who part ∷ ms) h e = go (all_closed (part ∷ closes_for who ms) (told s ms who)) refl h (λ l. next_said n ms l e)
    where
      go : (b : Bool) → all_closed (part ∷ closes_for who ms) (told s ms who) ≡ b → n < cond b (suc (overs s ms)) (overs s ms) → (n < overs s ms → IsIn first (all_said (says s) p ms)) → IsIn first (all_said (says s) p (Done who part ∷ ms))
      go false eb l next = in_right first (says s p (Done who part ∷ ms)) (all_said (says s) p ms) (next l)
      go true eb l next =
          ⊎_elim
          (λ (t : (eqb n (overs s ms) ≡ true) × (n ≡ overs s ms)).
          let said : IsIn first (coordinator s p (Done who part) ms) = rw eb (subst (λ o. IsIn first (mail_start p o)) (sym (ap (λ k. slice_get (homes s p) (s.limit + k)) (sym t.1) ∙ e)) (inl refl)) in
          in_left first (says s p (Done who part ∷ ms)) (all_said (says s) p ms) (in_left first (coordinator s p (Done who part) ms) (participant s p (Done who part) ms) said))
          (λ (t : (eqb n (overs s ms) ≡ false) × (n ≢ overs s ms)). in_right first (says s p (Done who part ∷ ms)) (all_said (says s) p ms) (next (omega (arith, l, t.1))))
          (eqb_tells n (overs s ms))
  next_said n (Undone who part ∷ ms) h e = go (all_closed (part ∷ closes_for who ms) (told s ms who)) refl (ltb who.turn s.attempts) refl h (λ l. next_said n ms l e)
    where
      go : (b : Bool) → all_closed (part ∷ closes_for who ms) (told s ms who) ≡ b → (w : Bool) → ltb who.turn s.attempts ≡ w → n < cond (b && not w) (suc (overs s ms)) (overs s ms) → (n < overs s ms → IsIn first (all_said (says s) p ms)) → IsIn first (all_said (says s) p (Undone who part ∷ ms))
      go false eb w ew l next = in_right first (says s p (Undone who part ∷ ms)) (all_said (says s) p ms) (next l)
      go true eb true ew l next = in_right first (says s p (Undone who part ∷ ms)) (all_said (says s) p ms) (next l)
      go true eb false ew l next =
          ⊎_elim
          (λ (t : (eqb n (overs s ms) ≡ true) × (n ≡ overs s ms)).
          let said : IsIn first (coordinator s p (Undone who part) ms) = rw (eb, ew) (subst (λ o. IsIn first (mail_start p o)) (sym (ap (λ k. slice_get (homes s p) (s.limit + k)) (sym t.1) ∙ e)) (inl refl)) in
          in_left first (says s p (Undone who part ∷ ms)) (all_said (says s) p ms) (in_left first (coordinator s p (Undone who part) ms) (participant s p (Undone who part) ms) said))
          (λ (t : (eqb n (overs s ms) ≡ false) × (n ≢ overs s ms)). in_right first (says s p (Undone who part ∷ ms)) (all_said (says s) p ms) (next (omega (arith, l, t.1))))
          (eqb_tells n (overs s ms))
  next_said n (Start y ∷ ms) h e = in_right first (says s p (Start y ∷ ms)) (all_said (says s) p ms) (next_said n ms h e)
  next_said n (m ∷ ms) h e = in_right first (says s p (m ∷ ms)) (all_said (says s) p ms) (next_said n ms h e)
