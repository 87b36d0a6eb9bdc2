-- Each mail was in the opening or was said, and looks as its kind does.
use Rattle.std.proofs.Common.{◌≡◌, ◌⊎◌, ℕ, zero, suc, ◌+◌, ltb, leb, List, [], ◌∷◌, ◌++◌, length, map, filter, slice_get, reverse, Bool, true, false, cond, eqb, refl, sym, ap, ◌∙◌, subst, inl, inr, ⊎_elim, arith, Option, Some, None, true≢false}
use Rattle.std.proofs.lemmas.Bool.Decides.{nat_tests}
use Rattle.deneva_base.specs.declared.keys.Key.{Key}
use Rattle.deneva_base.specs.declared.numbers.TxnId.{TxnId}
use Rattle.deneva_base.specs.declared.numbers.Attempt.{Attempt}
use Rattle.deneva_base.specs.Lists.{IsIn}
use Rattle.deneva_base.specs.declared.causes.Cause.{Cause}
use Rattle.deneva_base.specs.declared.rows.Keyed.{Keyed}
use Rattle.deneva_base.specs.declared.answers.Answer.{Answer}
use Rattle.deneva_base.specs.declared.answers.Answer.TheVariants.{Granted as Gives, Waits, Refused as Refuses}
use Rattle.deneva_base.specs.declared.answers.Vote.{Vote}
use Rattle.deneva_base.specs.declared.answers.Vote.TheVariants.{Yes as VotesYes, No as VotesNo}
use Rattle.deneva_base.specs.declared.answers.Wake.{Wake}
use Rattle.protocol_rules.specs.Wakes.{WakesWaiters}
use Rattle.deneva_base.proofs.Membership.{in_left, in_right, in_cases, attempt_tells}
use Rattle.server_core.specs.declared.messages.Msg.{Msg}
use Rattle.server_core.specs.declared.messages.Msg.TheVariants.{Start, Ask, Granted, Refused, Prepare, Yes, No, Commit, Abort, Done, Undone}
use Rattle.server_core.specs.declared.messages.Mail.{Mail}
use Rattle.server_core.specs.declared.messages.Entry.{Entry}
use Rattle.server_core.specs.Setting.{Setting, home, rule_at, homes, participants}
use Rattle.deneva_base.specs.declared.keys.Access.{Access}
use Rattle.server_core.specs.Received.{Reply, grants_for, votes_for, refused_for, started_for, closes_for, all_voted, all_closed}
use Rattle.server_core.specs.declared.ballots.Ballot.{Ballot}
use Rattle.deneva_base.specs.Partitions.{partition_of}
use Rattle.server_core.specs.Coordinator.{told, first_no, decision, coordinator, next_ask, next_start, mail_start, prepare_to, effect_of, to_all, bound_of, asked_partitions, overs, polled, greatest_lo, least_hi, reads_of}
use Rattle.server_core.specs.Participant.{calls, participant, answer_mails, vote_mail, mail_home, wake_mails}
use Rattle.server_core.specs.Voting.{says}
use Rattle.server_core.specs.Stamps.{stamp_from, stamped}
use Rattle.server_core.specs.Effects.{written}
use Rattle.server_core.specs.VotingFits.{Suits, AllFit, IsAborted}
use Rattle.server_core.specs.Proper.{ProperMsg, Proper, Valid}
use Rattle.server_core.specs.Runs.{Saying, heard, Reaches}
use Rattle.server_core.specs.Counts.{all_said}
use Rattle.server_core.proofs.counts.Conserved.{handled}
use Rattle.server_core.proofs.values.Called.{knows, wakers, access_of}

pub in_map : {A B : Type 0} (f : A → B) (x : B) (ys : List A) → IsIn x (map f ys) → (y : A) × IsIn y ys × (x ≡ f y)
in_map f x [] i = absurd i
in_map f x (y ∷ ys) i = ⊎_elim (λ e. (y, inl refl, e)) (λ r. let n = in_map f x ys r in (n.0, inr n.1, n.2)) i

pub in_filtered : {A : Type 0} (p : A → Bool) (x : A) (xs : List A) → IsIn x (filter p xs) → IsIn x xs × (p x ≡ true)
in_filtered p x [] i = absurd i
in_filtered {A} p x (y ∷ xs) i = go (p y) refl i (in_filtered p x xs)
  where
    go : (b : Bool) → p y ≡ b → IsIn x (cond b (y ∷ filter p xs) (filter p xs)) → (IsIn x (filter p xs) → IsIn x xs × (p x ≡ true)) → IsIn x (y ∷ xs) × (p x ≡ true)
    go true e i next = ⊎_elim (λ s. (inl s, subst (λ z. p z ≡ true) (sym s) e)) (λ r. let n = next r in (inr n.0, n.1)) i
    go false e i next = let n = next i in (inr n.0, n.1)

said_new : (says : Saying) (x : Mail) (e : Entry) (H : List Entry) → IsIn x (says e.node (e.msg ∷ heard e.node H)) → IsIn x (all_said says e.node (heard e.node (e ∷ H)))
said_new says x e H i = subst (λ b. IsIn x (all_said says e.node (cond b (e.msg ∷ heard e.node H) (heard e.node H)))) (sym (same e.node)) (in_left x (says e.node (e.msg ∷ heard e.node H)) (all_said says e.node (heard e.node H)) i)
  where
    same : (n : ℕ) → eqb n n ≡ true
    same n = grind (arith, nat_tests)

said_old : (says : Saying) (p : ℕ) (x : Mail) (e : Entry) (H : List Entry) → IsIn x (all_said says p (heard p H)) → IsIn x (all_said says p (heard p (e ∷ H)))
said_old says p x e H i = go (eqb e.node p)
  where
    go : (b : Bool) → IsIn x (all_said says p (cond b (e.msg ∷ heard p H) (heard p H)))
    go true = in_right x (says p (e.msg ∷ heard p H)) (all_said says p (heard p H)) i
    go false = i

pub origin : (says : Saying) (opening : List Mail) (H : List Entry) (flight : List Mail) → Reaches says opening H flight → (x : Mail) → IsIn x flight ⊎ IsIn x (handled H) → IsIn x opening ⊎ ((p : ℕ) × IsIn x (all_said says p (heard p H)))
origin says opening [] flight run x i = ⊎_elim (λ f. inl (subst (λ l. IsIn x l) run f)) (λ n. absurd n) i
origin says opening (e ∷ H) flight run x i =
    let before = run.0 in
    let m = run.1 in
    let st = run.3 in
    let old : IsIn x before → IsIn x opening ⊎ ((p : ℕ) × IsIn x (all_said says p (heard p (e ∷ H))))
    = λ b. ⊎_elim (λ o. inl o) (λ f. inr (f.0, said_old says f.0 x e H f.1)) (origin says opening H before run.4 x (inl b)) in
    let at : (y : Mail) → y ≡ m → IsIn y before = λ y is. subst (λ l. IsIn y l) (sym st.stood) (in_right y st.front (m ∷ st.back) (inl is)) in
    ⊎_elim
    (λ f. ⊎_elim
    (λ l. old (subst (λ l. IsIn x l) (sym st.stood) (⊎_elim (λ a. in_left x st.front (m ∷ st.back) a) (λ b. in_right x st.front (m ∷ st.back) (inr b)) (in_cases x st.front st.back l))))
    (λ n. inr (e.node, said_new says x e H (subst (λ (y : Entry). IsIn x (says y.node (y.msg ∷ heard y.node H))) (sym run.2) n)))
    (in_cases x (st.front ++ st.back) (says m.to (m.msg ∷ heard m.to H)) (subst (λ l. IsIn x l) st.left f)))
    (λ h. ⊎_elim
    (λ is. old (at x (is ∙ ap (λ (y : Entry). record { from = y.from; to = y.node; msg = y.msg }) run.2)))
    (λ r. ⊎_elim (λ o. inl o) (λ f. inr (f.0, said_old says f.0 x e H f.1)) (origin says opening H before run.4 x (inr r)))
    h)
    i

-- what is started is of the file
pub started_ids : (s : Setting) (p : ℕ) (who : Attempt) (ms : List Msg) → AllFit s p ms → started_for who ms ≡ true → IsIn who.txn s.ids
started_ids s p who [] fit e = absurd (true≢false (sym e))
started_ids s p who (Start x ∷ ms) fit e =
    ⊎_elim
    (λ t. subst (λ (y : Attempt). IsIn y.txn s.ids) t.1 fit.0.1.4)
    (λ t. started_ids s p who ms fit.1 (rw t.0 at e))
    (attempt_tells x who)
started_ids s p who (Ask x st k m ∷ ms) fit e = started_ids s p who ms fit.1 e
started_ids s p who (m ∷ ms) fit e = started_ids s p who ms fit.1 e

pub refused_starts : (s : Setting) (p : ℕ) (who : Attempt) (ms : List Msg) → AllFit s p ms → refused_for who ms ≡ true → started_for who ms ≡ true
refused_starts s p who [] fit e = absurd (true≢false (sym e))
refused_starts s p who (Refused x k c ∷ ms) fit e =
    ⊎_elim
    (λ t. subst (λ y. started_for y ms ≡ true) t.1 fit.0.1.2.1.0)
    (λ t. refused_starts s p who ms fit.1 (rw t.0 at e))
    (attempt_tells x who)
refused_starts s p who (Start x ∷ ms) fit e = let h : started_for who ms ≡ true = refused_starts s p who ms fit.1 e in grind (arith, h)
refused_starts s p who (m ∷ ms) fit e = refused_starts s p who ms fit.1 e

pub aborted_started : (s : Setting) (p : ℕ) (who : Attempt) (ms : List Msg) → AllFit s p ms → IsAborted s ms who → started_for who ms ≡ true
aborted_started s p who ms fit h = ⊎_elim (λ r. refused_starts s p who ms fit r) (λ d. d.0.0.0) h

module _ (s : Setting) (v : Valid s) (p : ℕ) where
  -- a mail that is one of a known kind
  proper_at : (x m : Mail) → x ≡ m → Proper s p m → Proper s p x
  proper_at x m e h = subst (Proper s p) (sym e) h

  proper_if : (b : Bool) (xs : List Mail) (x : Mail) → (IsIn x xs → Proper s p x) → IsIn x (cond b xs []) → Proper s p x
  proper_if true xs x f i = f i
  proper_if false xs x f i = absurd i

  slice_in : {A : Type 0} (xs : List A) (i : ℕ) (a : A) → slice_get xs i ≡ Some a → IsIn a xs
  slice_in [] i a e = absurd (cc)
  slice_in (x ∷ xs) zero a e = inl (sym (cc))
  slice_in (x ∷ xs) (suc i) a e = inr (slice_in xs i a e)

  pub at_its_home : (y : TxnId) → IsIn y (homes s p) → p ≡ home s y
  at_its_home y i = sym (eqb_eq (home s y) p (in_filtered (λ x. eqb (home s x) p) y s.ids i).1)
    where
      eqb_eq : (a b : ℕ) → eqb a b ≡ true → a ≡ b
      eqb_eq a b e = grind (arith, nat_tests)

  proper_start : (i : ℕ) (o : Option TxnId) → slice_get (homes s p) i ≡ o → (x : Mail) → IsIn x (mail_start p o) → Proper s p x
  proper_start i None e x j = absurd j
  proper_start i (Some y) e x j = ⊎_elim (λ is. proper_at x (record { from = p; to = p; msg = Start (record { txn = y; turn = 1 }) }) is (refl, (refl, at_its_home y (slice_in (homes s p) i y e), omega arith, (in_filtered (λ x. eqb (home s x) p) y s.ids (slice_in (homes s p) i y e)).0))) (λ n. absurd n) j

  proper_next : (who : Attempt) (stamp : ℕ) (rs : List Reply) (i : ℕ) (o : Option Access) → p ≡ home s who.txn → slice_get (s.accesses who.txn) i ≡ o → (x : Mail) → IsIn x (next_ask s p who stamp rs o) → Proper s p x
  proper_next who stamp rs i None h e x f =
      let bound = bound_of rs in
      let eff = effect_of s who.txn rs in
      let n = in_map (prepare_to s p who bound eff) x (participants s who) f in
      proper_at x (prepare_to s p who bound eff n.0) n.2
      (refl, (h, n.1, λ w j. let g = in_filtered (λ (k : Keyed). eqb (partition_of k.key s.parts) n.0) w (written eff) j in ((eqb_is (partition_of w.key s.parts) n.0 g.1), v.writes who.txn (reads_of (s.accesses who.txn) rs) w g.0)))
    where
      eqb_is : (a b : ℕ) → eqb a b ≡ true → a ≡ b
      eqb_is a b e = grind (arith, nat_tests)
  proper_next who stamp rs i (Some a) h e x f =
      ⊎_elim
      (λ is. proper_at x (record { from = p; to = partition_of a.key s.parts; msg = Ask who stamp a.key a.mode }) is (refl, (h, refl, slice_in (s.accesses who.txn) i a e)))
      (λ n. absurd n)
      f

  proper_all : (m : Msg) (qs : List ℕ) → ((q : ℕ) → ProperMsg s p q m) → (x : Mail) → IsIn x (to_all p m qs) → Proper s p x
  proper_all m qs h x i = let n = in_map (λ q. record { from = p; to = q; msg = m }) x qs i in proper_at x (record { from = p; to = n.0; msg = m }) n.2 (refl, h n.0)

  proper_decision : (who : Attempt) (bs : List Ballot) (o : Option (ℕ × Cause)) → p ≡ home s who.txn → (q : ℕ) → ProperMsg s p q (decision who bs o)
  proper_decision who bs (Some c) h q = h
  proper_decision who bs None h q = either (leb (greatest_lo bs) (least_hi bs))
    where
      either : (b : Bool) → ProperMsg s p q (cond b (Commit who (record { n = greatest_lo bs; id = who.txn })) (Abort who))
      either true = h
      either false = h

  proper_polled : (who : Attempt) (bs : List Ballot) → p ≡ home s who.txn → (x : Mail) → IsIn x (polled s p who bs) → Proper s p x
  proper_polled who bs h x i = proper_if (all_voted bs (participants s who)) (to_all p (decision who bs (first_no None bs)) (participants s who)) x (proper_all (decision who bs (first_no None bs)) (participants s who) (proper_decision who bs (first_no None bs) h) x) i

  proper_coordinator : (m : Msg) (ms : List Msg) (f : ℕ) → AllFit s p ms → Suits s p f m ms → (x : Mail) → IsIn x (coordinator s p m ms) → Proper s p x
  proper_coordinator (Start who) ms f before fit x i = proper_next who (stamp_from s p (Start who ∷ ms) (stamped s who)) [] 0 (slice_get (s.accesses who.txn) 0) fit.1 refl x i
  proper_coordinator (Granted who key row version bound) ms f before fit x i =
      proper_next who (stamp_from s p ms (stamped s who)) (reverse (record { row = row; bound = bound; key = key } ∷ grants_for who ms)) (suc (length (grants_for who ms))) (slice_get (s.accesses who.txn) (suc (length (grants_for who ms)))) fit.0 refl x i
  proper_coordinator (Refused who key cause) ms f before fit x i = proper_all (Abort who) (asked_partitions s ms who) (λ q. fit.0) x i
  proper_coordinator (Yes who part lo hi) ms f before fit x i = proper_polled who (record { part = part; vote = VotesYes lo hi } ∷ votes_for who ms) fit.0 x i
  proper_coordinator (No who part cause) ms f before fit x i = proper_polled who (record { part = part; vote = VotesNo cause } ∷ votes_for who ms) fit.0 x i
  proper_coordinator (Done who part) ms f before fit x i = proper_if (all_closed (part ∷ closes_for who ms) (told s ms who)) (next_start s p (overs s ms)) x (proper_start (s.limit + overs s ms) (slice_get (homes s p) (s.limit + overs s ms)) refl x) i
  proper_coordinator (Undone who part) ms f before fit x i =
      proper_if (all_closed (part ∷ closes_for who ms) (told s ms who)) (cond (ltb who.turn s.attempts) (again ∷ []) (next_start s p (overs s ms))) x (λ j. either (ltb who.turn s.attempts) j) i
    where
      again : Mail
      again = record { from = p; to = p; msg = Start (record { txn = who.txn; turn = suc who.turn }) }

      ids : IsIn who.txn s.ids
      ids = started_ids s p who ms before (aborted_started s p who ms before fit.4)

      either : (b : Bool) → IsIn x (cond b (again ∷ []) (next_start s p (overs s ms))) → Proper s p x
      either true j = ⊎_elim (λ e. proper_at x again e (refl, (refl, fit.0, omega arith, ids))) (λ n. absurd n) j
      either false j = proper_start (s.limit + overs s ms) (slice_get (homes s p) (s.limit + overs s ms)) refl x j
  proper_coordinator (Ask who stamp key mode) ms f before fit x i = absurd i
  proper_coordinator m ms f before fit x i = absurd i

  proper_answers : (who : Attempt) (key : Key) (a : Answer) → partition_of key s.parts ≡ p → (x : Mail) → IsIn x (answer_mails s p who key a) → Proper s p x
  proper_answers who key (Gives row version bound) h x i = ⊎_elim (λ e. proper_at x (mail_home s p who (Granted who key row version bound)) e (refl, (refl, h))) (λ n. absurd n) i
  proper_answers who key Waits h x i = absurd i
  proper_answers who key (Refuses cause) h x i = ⊎_elim (λ e. proper_at x (mail_home s p who (Refused who key cause)) e (refl, (refl, h))) (λ n. absurd n) i

  proper_vote : (who : Attempt) (w : Vote) (x : Mail) → IsIn x (vote_mail s p who w ∷ []) → Proper s p x
  proper_vote who (VotesYes lo hi) x i = ⊎_elim (λ e. proper_at x (mail_home s p who (Yes who p lo hi)) e (refl, (refl, refl))) (λ n. absurd n) i
  proper_vote who (VotesNo cause) x i = ⊎_elim (λ e. proper_at x (mail_home s p who (No who p cause)) e (refl, (refl, refl))) (λ n. absurd n) i

  -- what is woken waited here
  proper_wakes : (ms : List Msg) → AllFit s p ms → (ws : List Wake) → WakesWaiters (calls s p ms) ws → (x : Mail) → IsIn x (wake_mails s p ws) → Proper s p x
  proper_wakes ms all ws wk x i =
      let n = in_map (λ w. mail_home s p w.who (Granted w.who w.key w.row w.version w.bound)) x ws i in
      let a = wk.waited n.0 n.1 in
      let here = (access_of s p ms a.0 all ((knows s p ms all).asked a.0 a.1)).0 in
      proper_at x (mail_home s p n.0.who (Granted n.0.who n.0.key n.0.row n.0.version n.0.bound)) n.2 (refl, (refl, ap (λ k. partition_of k s.parts) (sym a.3) ∙ here))

  proper_participant : (m : Msg) (ms : List Msg) → AllFit s p (m ∷ ms) → (x : Mail) → IsIn x (participant s p m ms) → Proper s p x
  proper_participant (Ask who stamp key mode) ms fit x i = proper_answers who key ((rule_at s p).ask (calls s p ms) who stamp key mode) fit.0.1.1 x i
  proper_participant (Prepare who bound writes appends) ms fit x i = proper_vote who ((rule_at s p).vote (calls s p ms) who bound writes appends) x i
  proper_participant (Commit who number) ms fit x i =
      ⊎_elim
      (λ e. proper_at x (mail_home s p who (Done who p)) e (refl, (refl, refl)))
      (λ w. proper_wakes ms fit.1 ((rule_at s p).commit (calls s p ms) who number) (wakers s v p (Commit who number ∷ ms) fit).0 x w)
      i
  proper_participant (Abort who) ms fit x i =
      ⊎_elim
      (λ e. proper_at x (mail_home s p who (Undone who p)) e (refl, (refl, refl)))
      (λ w. proper_wakes ms fit.1 ((rule_at s p).abort (calls s p ms) who) (wakers s v p (Abort who ∷ ms) fit).0 x w)
      i
  proper_participant (Start who) ms fit x i = absurd i
  proper_participant m ms fit x i = absurd i

  pub proper_said : (ms : List Msg) → AllFit s p ms → (x : Mail) → IsIn x (all_said (says s) p ms) → Proper s p x
  proper_said [] fit x i = absurd i
  proper_said (m ∷ ms) fit x i =
      ⊎_elim
      (λ a. ⊎_elim
      (λ c. proper_coordinator m ms fit.0.0 fit.1 fit.0.1 x c)
      (λ d. proper_participant m ms fit x d)
      (in_cases x (coordinator s p m ms) (participant s p m ms) a))
      (λ b. proper_said ms fit.1 x b)
      (in_cases x (says s p (m ∷ ms)) (all_said (says s) p ms) i)
