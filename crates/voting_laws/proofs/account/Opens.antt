-- A node that has a transaction left has as many open ones as the limit says.
use Rattle.std.proofs.Common.{◌≡◌, ◌≢◌, ◌⊎◌, ℕ, ◌+◌, ◌<◌, ◌≤◌, ltb, List, [], ◌∷◌, Bool, true, false, cond, not, ◌&&◌, refl, sym, ap, subst, inl, inr, ⊎_elim, arith}
use Rattle.std.proofs.lemmas.Bool.Decides.{nat_tests, eqb_tells}
use Rattle.deneva_base.specs.declared.numbers.TxnId.{TxnId}
use Rattle.deneva_base.specs.declared.numbers.Attempt.{Attempt}
use Rattle.deneva_base.specs.declared.numbers.Number.{Number}
use Rattle.deneva_base.specs.declared.keys.Mode.{Mode}
use Rattle.deneva_base.specs.Lists.{IsIn}
use Rattle.deneva_base.specs.Keys.{attempt_eq}
use Rattle.deneva_base.proofs.Membership.{attempt_tells}
use Rattle.server_core.specs.declared.messages.Msg.{Msg}
use Rattle.server_core.specs.declared.messages.Msg.TheVariants.{Start, Ask, Granted, Refused, Commit, Done, Undone}
use Rattle.server_core.specs.Setting.{Setting, participants}
use Rattle.server_core.specs.Received.{closes_for, started_for, all_closed}
use Rattle.server_core.specs.Coordinator.{told, asked_partitions}
use Rattle.server_core.specs.VotingFits.{Suits, AllFit, IsAsking, IsAborted, Decides}
use Rattle.server_core.specs.Proper.{ids_in}
use Rattle.server_core.proofs.values.Origins.{aborted_started}
use Rattle.server_core.proofs.counts.Starts.{turn_bound, started_turn}
use Rattle.server_core.proofs.values.Decisions.{aborted_more, decides_more}
use Rattle.server_core.proofs.values.EarlierTurns.{not_both, undone_before}
use Rattle.voting_laws.proofs.fits.Every.{aborted_before}
use Rattle.server_core.proofs.values.Closed.{closed_there}
use Rattle.voting_laws.proofs.serial.Lines.{all_there}
use Rattle.server_core.proofs.values.Closings.{over_ids, Closed, fate, no_asking}

module _ (s : Setting) (p : ℕ) where
  -- an attempt that is closed stays closed
  closed_more : (who : Attempt) (m : Msg) (ms : List Msg) (f : ℕ) → AllFit s p ms → Suits s p f m ms → Closed s p who ms → Closed s p who (m ∷ ms)
  closed_more who (Granted x k r n b) ms f all fit c =
      ⊎_elim
      (λ (t : (attempt_eq x who ≡ true) × (x ≡ who)).
      let a = subst (λ y. (mode : Mode) × IsAsking s ms y k mode) t.1 fit.2 in
      absurd (no_asking s p who ms k a.0 (fate s p who ms all c.some (closed_there (closes_for who ms) (told s ms who) c.some c.all c.here)) a.1))
      (λ (t : (attempt_eq x who ≡ false) × (x ≢ who)). record { all = rw t.0 c.all; some = c.some; here = rw t.0 c.here })
      (attempt_tells x who)
  closed_more who (Refused x k d) ms f all fit c =
      ⊎_elim
      (λ (t : (attempt_eq x who ≡ true) × (x ≡ who)).
      let a = subst (λ y. (mode : Mode) × IsAsking s ms y k mode) t.1 fit.2 in
      absurd (no_asking s p who ms k a.0 (fate s p who ms all c.some (closed_there (closes_for who ms) (told s ms who) c.some c.all c.here)) a.1))
      (λ (t : (attempt_eq x who ≡ false) × (x ≢ who)). record { all = rw t.0 c.all; some = c.some; here = rw t.0 c.here })
      (attempt_tells x who)
  closed_more who (Done x part) ms f all fit c = record { all = go (attempt_eq x who); some = c.some; here = c.here }
    where
      go : (b : Bool) → all_closed (cond b (part ∷ closes_for who ms) (closes_for who ms)) (told s ms who) ≡ true
      go true = all_there (part ∷ closes_for who ms) (told s ms who) (λ q i. inr (closed_there (closes_for who ms) (told s ms who) q c.all i))
      go false = c.all
  closed_more who (Undone x part) ms f all fit c = record { all = go (attempt_eq x who); some = c.some; here = c.here }
    where
      go : (b : Bool) → all_closed (cond b (part ∷ closes_for who ms) (closes_for who ms)) (told s ms who) ≡ true
      go true = all_there (part ∷ closes_for who ms) (told s ms who) (λ q i. inr (closed_there (closes_for who ms) (told s ms who) q c.all i))
      go false = c.all
  closed_more who (Ask x st k m) ms f all fit c = record { all = c.all; some = c.some; here = c.here }
  closed_more who m ms f all fit c = record { all = c.all; some = c.some; here = c.here }

  -- who is over has an attempt that closed and was committed or the last
  pub record OverBy (x : TxnId) (ms : List Msg) : Type 0 where
    pub who : Attempt
    pub own : who.txn ≡ x
    pub closed : Closed s p who ms
    pub kind : ((n : Number) × Decides s ms who (Commit who n)) ⊎ (IsAborted s ms who × (s.attempts ≤ who.turn))

  over_more : (x : TxnId) (m : Msg) (ms : List Msg) (f : ℕ) → AllFit s p ms → Suits s p f m ms → OverBy x ms → OverBy x (m ∷ ms)
  over_more x m ms f all fit o = record {
    who = o.who;
    own = o.own;
    closed = closed_more o.who m ms f all fit o.closed;
    kind = ⊎_elim (λ d. inl (d.0, decides_more s p o.who (Commit o.who d.0) m ms f fit d.1)) (λ a. inr (aborted_more s p o.who m ms f fit a.0, a.1)) o.kind;
  }

  itself : (y : Attempt) → attempt_eq y y ≡ true
  itself y = ⊎_elim (λ t. t.0) (λ f. absurd (f.1 refl)) (attempt_tells y y)

  pub over_by : (x : TxnId) (ms : List Msg) → AllFit s p ms → IsIn x (over_ids s ms) → OverBy x ms
  over_by x [] fit i = absurd i
  over_by x (Done who part ∷ ms) fit i = go (all_closed (part ∷ closes_for who ms) (told s ms who)) refl i (λ j. over_more x (Done who part) ms fit.0.0 fit.1 fit.0.1 (over_by x ms fit.1 j))
    where
      now : all_closed (part ∷ closes_for who ms) (told s ms who) ≡ true → OverBy who.txn (Done who part ∷ ms)
      now e =
          let d = fit.0.1.4 in
          let is : told s ms who ≡ participants s who = ap (λ r. cond r (asked_partitions s ms who) (participants s who)) d.1.0.0.1 in
          record {
            who = who;
            own = refl;
            closed = record { all = subst (λ b. all_closed (cond b (part ∷ closes_for who ms) (closes_for who ms)) (told s ms who) ≡ true) (sym (itself who)) e; some = part; here = subst (IsIn part) (sym is) fit.0.1.2 };
            kind = inl (d.0, decides_more s p who (Commit who d.0) (Done who part) ms fit.0.0 fit.0.1 d.1);
          }

      go : (b : Bool) → all_closed (part ∷ closes_for who ms) (told s ms who) ≡ b → IsIn x (cond b (who.txn ∷ over_ids s ms) (over_ids s ms)) → (IsIn x (over_ids s ms) → OverBy x (Done who part ∷ ms)) → OverBy x (Done who part ∷ ms)
      go true e i next = ⊎_elim (λ is. subst (λ y. OverBy y (Done who part ∷ ms)) (sym is) (now e)) (λ r. next r) i
      go false e i next = next i
  over_by x (Undone who part ∷ ms) fit i = go (all_closed (part ∷ closes_for who ms) (told s ms who)) refl (ltb who.turn s.attempts) refl i (λ j. over_more x (Undone who part) ms fit.0.0 fit.1 fit.0.1 (over_by x ms fit.1 j))
    where
      more : (a b : ℕ) → ltb a b ≡ false → b ≤ a
      more a b e = grind (arith, nat_tests, e)

      now : all_closed (part ∷ closes_for who ms) (told s ms who) ≡ true → ltb who.turn s.attempts ≡ false → OverBy who.txn (Undone who part ∷ ms)
      now e w = record {
        who = who;
        own = refl;
        closed = record { all = subst (λ b. all_closed (cond b (part ∷ closes_for who ms) (closes_for who ms)) (told s ms who) ≡ true) (sym (itself who)) e; some = part; here = fit.0.1.2 };
        kind = inr (aborted_more s p who (Undone who part) ms fit.0.0 fit.0.1 fit.0.1.4, more who.turn s.attempts w);
      }

      go : (b : Bool) → all_closed (part ∷ closes_for who ms) (told s ms who) ≡ b → (w : Bool) → ltb who.turn s.attempts ≡ w → IsIn x (cond (b && not w) (who.txn ∷ over_ids s ms) (over_ids s ms)) → (IsIn x (over_ids s ms) → OverBy x (Undone who part ∷ ms)) → OverBy x (Undone who part ∷ ms)
      go true e false w i next = ⊎_elim (λ is. subst (λ y. OverBy y (Undone who part ∷ ms)) (sym is) (now e w)) (λ r. next r) i
      go true e true w i next = next i
      go false e w ew i next = next i
  over_by x (Start y ∷ ms) fit i = over_more x (Start y) ms fit.0.0 fit.1 fit.0.1 (over_by x ms fit.1 i)
  over_by x (m ∷ ms) fit i = over_more x m ms fit.0.0 fit.1 fit.0.1 (over_by x ms fit.1 i)

  -- a close of an attempt of a transaction that is over cannot come
  no_close : 1 ≤ s.attempts → (who : Attempt) (part : ℕ) (ms : List Msg) → AllFit s p ms → started_for who ms ≡ true → IsIn part (told s ms who) → (IsIn part (closes_for who ms) → ⊥) → OverBy who.txn ms → ⊥
  no_close one who part ms fit st here open' o =
      ⊎_elim
      (λ lt. ⊎_elim
      (λ d. not_both s ms (record { txn = who.txn; turn = o.who.turn }) d.0 (aborted_before s p who.txn o.who.turn who.turn ms fit low_o lt st) (subst (λ y. Decides s ms y (Commit y d.0)) (sym as_o) d.1))
      (λ a. omega (arith, a.1, lt, turn_bound s p who ms one fit st))
      o.kind)
      (λ r. ⊎_elim
      (λ gt. open' (closed_there (closes_for who ms) (told s ms who) part (undone_before s p who.txn who.turn o.who.turn ms fit low gt (subst (λ y. started_for y ms ≡ true) (sym as_o) st_o)).1 here))
      (λ is. let same : o.who ≡ who = λ j. record { txn = o.own j; turn = is j } in let c = subst (λ y. Closed s p y ms) same o.closed in open' (closed_there (closes_for who ms) (told s ms who) part c.all here))
      r)
      (three o.who.turn who.turn)
    where
      three : (c d : ℕ) → (c < d) ⊎ ((d < c) ⊎ (c ≡ d))
      three c d = grind arith

      as_o : record { txn = who.txn; turn = o.who.turn } ≡ o.who
      as_o = λ j. record { txn = sym o.own j; turn = o.who.turn }

      st_o : started_for o.who ms ≡ true
      st_o = ⊎_elim (λ d. d.1.0.0.0) (λ a. aborted_started s p o.who ms fit a.0) o.kind

      low_o : 1 ≤ o.who.turn
      low_o = started_turn s p o.who ms fit st_o

      low : 1 ≤ who.turn
      low = started_turn s p who ms fit st

  pub counted : (x : TxnId) (ys : List TxnId) → 1 ≤ ids_in x ys → IsIn x ys
  counted x [] h = absurd (omega (arith, h))
  counted x (y ∷ ys) h = ⊎_elim (λ t. inl (λ j. record { 0 = sym t.1 j })) (λ t. let h' : 1 ≤ 0 + ids_in x ys = subst (λ b. 1 ≤ cond b 1 0 + ids_in x ys) t.0 h in inr (counted x ys (omega (arith, h')))) (eqb_tells y.0 x.0)

  -- each transaction is over once
  pub over_once : 1 ≤ s.attempts → (x : TxnId) (ms : List Msg) → AllFit s p ms → ids_in x (over_ids s ms) ≤ 1
  over_once one x [] fit = omega arith
  over_once one x (Done who part ∷ ms) fit = go (all_closed (part ∷ closes_for who ms) (told s ms who)) (over_once one x ms fit.1)
    where
      d : Decides s ms who (Commit who fit.0.1.4.0)
      d = fit.0.1.4.1

      fresh : who.txn ≡ x → IsIn x (over_ids s ms) → ⊥
      fresh e i = no_close one who part ms fit.1 d.0.0.0 (subst (IsIn part) (sym (ap (λ r. cond r (asked_partitions s ms who) (participants s who)) d.0.0.1)) fit.0.1.2) fit.0.1.3 (subst (λ y. OverBy y ms) (sym e) (over_by x ms fit.1 i))

      go : (b : Bool) → ids_in x (over_ids s ms) ≤ 1 → ids_in x (cond b (who.txn ∷ over_ids s ms) (over_ids s ms)) ≤ 1
      go false h = h
      go true h =
          ⊎_elim
          (λ t. rw t.0 (omega (arith, zero_of (ids_in x (over_ids s ms)) (λ k. fresh (λ j. record { 0 = t.1 j }) (counted x (over_ids s ms) k)))))
          (λ t. rw t.0 (omega (arith, h)))
          (eqb_tells who.txn.0 x.0)
        where
          zero_of : (n : ℕ) → (1 ≤ n → ⊥) → n ≡ 0
          zero_of n h = grind (arith, h)
  over_once one x (Undone who part ∷ ms) fit = go (all_closed (part ∷ closes_for who ms) (told s ms who) && not (ltb who.turn s.attempts)) (over_once one x ms fit.1)
    where
      fresh : who.txn ≡ x → IsIn x (over_ids s ms) → ⊥
      fresh e i = no_close one who part ms fit.1 (aborted_started s p who ms fit.1 fit.0.1.4) fit.0.1.2 fit.0.1.3 (subst (λ y. OverBy y ms) (sym e) (over_by x ms fit.1 i))

      go : (b : Bool) → ids_in x (over_ids s ms) ≤ 1 → ids_in x (cond b (who.txn ∷ over_ids s ms) (over_ids s ms)) ≤ 1
      go false h = h
      go true h =
          ⊎_elim
          (λ t. rw t.0 (omega (arith, zero_of (ids_in x (over_ids s ms)) (λ k. fresh (λ j. record { 0 = t.1 j }) (counted x (over_ids s ms) k)))))
          (λ t. rw t.0 (omega (arith, h)))
          (eqb_tells who.txn.0 x.0)
        where
          zero_of : (n : ℕ) → (1 ≤ n → ⊥) → n ≡ 0
          zero_of n h = grind (arith, h)
  over_once one x (Start y ∷ ms) fit = over_once one x ms fit.1
  over_once one x (m ∷ ms) fit = over_once one x ms fit.1
