-- In every run each mail fits, and commits are atomic.
use Rattle.std.proofs.Common.{◌≡◌, ◌≢◌, ◌⊎◌, ℕ, zero, suc, ◌<◌, ◌≤◌, ◌^◌, List, [], ◌∷◌, ◌++◌, length, true, cond, eqb, refl, sym, ap, ◌∙◌, subst, inl, inr, ⊎_elim, arith, true≢false}
use Rattle.std.proofs.lemmas.Bool.Decides.{eqb_tells}
use Rattle.deneva_base.specs.declared.numbers.TxnId.{TxnId}
use Rattle.deneva_base.specs.declared.numbers.Attempt.{Attempt}
use Rattle.deneva_base.specs.declared.numbers.Number.{Number}
use Rattle.deneva_base.specs.Lists.{IsIn}
use Rattle.deneva_base.proofs.Membership.{attempt_tells, in_left, in_right, in_cases, attempt_decides}
use Rattle.server_core.specs.declared.messages.Msg.{Msg}
use Rattle.server_core.specs.declared.messages.Msg.TheVariants.{Start, Ask, Granted, Refused, Prepare, Yes, No, Commit, Abort, Done, Undone, Tick, Batch, Rows, Finished}
use Rattle.server_core.specs.declared.messages.Mail.{Mail}
use Rattle.server_core.specs.declared.messages.Entry.{Entry}
use Rattle.server_core.specs.Setting.{Setting, home, partitions_of, participants}
use Rattle.server_core.specs.Voting.{says}
use Rattle.server_core.specs.Received.{started_for}
use Rattle.server_core.specs.VotingFits.{Suits, AllFit, Decides, IsAborted, earlier_turn}
use Rattle.server_core.specs.Small.{SmallMsg}
use Rattle.server_core.specs.Proper.{ProperMsg, Valid}
use Rattle.server_core.specs.Runs.{heard}
use Rattle.server_core.specs.Counts.{count}
use Rattle.server_core.specs.VotingRuns.{IsRun, AllFitting, Small}
use Rattle.server_core.specs.VotingAtomic.{Everywhere, CommitsAgree}
use Rattle.server_core.proofs.counts.Local.{count_msgs, sent_to}
use Rattle.server_core.proofs.counts.Quiet.{is_end}
use Rattle.server_core.proofs.values.Values.{heard_mail, find_msg}
use Rattle.server_core.proofs.counts.Prepares.{occurs}
use Rattle.server_core.proofs.values.Origins.{aborted_started}
use Rattle.server_core.proofs.counts.Starts.{started_turn}
use Rattle.server_core.proofs.values.Decisions.{aborted_more}
use Rattle.server_core.proofs.values.EarlierTurns.{not_both}
use Rattle.voting_laws.proofs.fits.Conditions.{ask_fits, granted_fits, prepare_fits, commit_fits, abort_fits}
use Rattle.voting_laws.proofs.fits.Lands.{heard_short}
use Rattle.voting_laws.proofs.fits.Account.{Good, refused_fits, yes_fits, no_fits, done_fits, undone_fits, start_fits, looks, commit_flies, abort_flies, window_there, end_ledger}

pub each_suits : (s : Setting) (v : Valid s) (H : List Entry) (flight : List Mail) → Good s H flight → Small H flight → (x : Mail) → IsIn x flight → Suits s x.to x.from x.msg (heard x.to H)
each_suits s v H flight g sm x i = go x.msg refl
  where
    none : (m : Msg) → x.msg ≡ m → ((y : Attempt) → m ≡ Start y → ⊥) → ProperMsg s x.from x.to m
    none m e d = (looks s v H flight g (record { txn = record { 0 = 0 }; turn = 0 }) x m i e d).1

    go : (m : Msg) → x.msg ≡ m → Suits s x.to x.from m (heard x.to H)
    go (Start y) e = start_fits s v H flight g y x i e
    go (Ask y st k m) e = ask_fits s v H flight g sm y x st k m i e
    go (Granted y k r w b) e = granted_fits s v H flight g sm y x k r w b i e
    go (Refused y k c) e = refused_fits s v H flight g y x k c i e
    go (Prepare y b w a) e = prepare_fits s v H flight g sm y x b w a i e
    go (Yes y part lo hi) e = yes_fits s v H flight g y x part lo hi i e
    go (No y part c) e = no_fits s v H flight g y x part c i e
    go (Commit y n) e = commit_fits s v H flight g sm y x n i e
    go (Abort y) e = abort_fits s v H flight g sm y x i e
    go (Done y part) e = done_fits s v H flight g y x part i e
    go (Undone y part) e = undone_fits s v H flight g y x part i e
    go (Tick epoch) e = none (Tick epoch) e (λ y f. absurd (cc (f)))
    go (Batch epoch seq ids) e = none (Batch epoch seq ids) e (λ y f. absurd (cc (f)))
    go (Rows id part rows) e = none (Rows id part rows) e (λ y f. absurd (cc (f)))
    go (Finished id part number) e = none (Finished id part number) e (λ y f. absurd (cc (f)))

pub each_fits : (s : Setting) (v : Valid s) (H : List Entry) (flight : List Mail) → Good s H flight → Small H flight → AllFitting s H flight
each_fits s v H flight g sm x i = record { short = less (length (heard x.to H)) (length H) (2 ^ 32) (heard_short x.to H) sm.short; small = sm.flying x i; suits = each_suits s v H flight g sm x i }
  where
    less : (a b c : ℕ) → a ≤ b → b < c → a < c
    less a b c h l = omega (arith, h, l)

-- one more entry of a good run
pub good_more : (s : Setting) (v : Valid s) (e : Entry) (H : List Entry) (flight : List Mail) → (run : IsRun s (e ∷ H) flight) → Good s H run.0 → Small H run.0 → Good s (e ∷ H) flight
good_more s v e H flight run before sm =
    let m = run.1 in
    let fits : Suits s m.to m.from m.msg (heard m.to H) = each_suits s v H run.0 before sm m (subst (λ l. IsIn m l) (sym run.3.stood) (in_right m run.3.front (m ∷ run.3.back) (inl refl))) in
    let fits' : Suits s e.node e.from e.msg (heard e.node H) = subst (λ (y : Entry). Suits s y.node y.from y.msg (heard y.node H)) (sym run.2) fits in
    record {
      run = run;
      fit = λ p. ⊎_elim
          (λ (t : (eqb e.node p ≡ true) × (e.node ≡ p)). subst (λ b. AllFit s p (cond b (e.msg ∷ heard p H) (heard p H))) (sym t.0) ((e.from, subst (λ q. Suits s q e.from e.msg (heard q H)) t.1 fits'), before.fit p))
          (λ t. subst (λ b. AllFit s p (cond b (e.msg ∷ heard p H) (heard p H))) (sym t.0) (before.fit p))
          (eqb_tells e.node p);
    }

pub good_start : (s : Setting) (flight : List Mail) → IsRun s [] flight → Good s [] flight
good_start s flight run = record { run = run; fit = λ p. tt }

-- what is small stays small where the run is shorter
small_less : (s : Setting) (e : Entry) (H : List Entry) (flight : List Mail) → (run : IsRun s (e ∷ H) flight) → Small (e ∷ H) flight → Small H run.0
small_less s e H flight run sm = record {
  short = less (length H) (length (e ∷ H)) (2 ^ 32) (omega arith) sm.short;
  flying = λ x i.
      ⊎_elim
      (λ f. sm.flying x (left x (in_left x run.3.front run.3.back f)))
      (λ r. ⊎_elim
      (λ (is : x ≡ run.1). subst SmallMsg (ap (λ (y : Entry). y.msg) run.2 ∙ ap (λ (y : Mail). y.msg) (sym is)) (sm.handled e (inl refl)))
      (λ b. sm.flying x (left x (in_right x run.3.front run.3.back b)))
      r)
      (in_cases x run.3.front (run.1 ∷ run.3.back) (subst (λ l. IsIn x l) run.3.stood i));
  handled = λ y i. sm.handled y (inr i);
}
  where
    less : (a b c : ℕ) → a ≤ b → b < c → a < c
    less a b c h l = omega (arith, h, l)

    left : (x : Mail) → IsIn x (run.3.front ++ run.3.back) → IsIn x flight
    left x i = subst (λ l. IsIn x l) (sym run.3.left) (in_left x (run.3.front ++ run.3.back) (says s run.1.to (run.1.msg ∷ heard run.1.to H)) i)

pub good : (s : Setting) (v : Valid s) (H : List Entry) (flight : List Mail) → IsRun s H flight → Small H flight → Good s H flight
good s v [] flight run sm = good_start s flight run
good s v (e ∷ H) flight run sm = let less = small_less s e H flight run sm in good_more s v e H flight run (good s v H run.0 run.4 less) less

-- a later attempt is started only after the earlier ones were aborted
aborted_prev : (s : Setting) (p : ℕ) (who : Attempt) (ms : List Msg) → AllFit s p ms → 1 < who.turn → started_for who ms ≡ true → IsAborted s ms (earlier_turn who)
aborted_prev s p who [] fit lt e = absurd (true≢false (sym e))
aborted_prev s p who (Start x ∷ ms) fit lt e =
    aborted_more s p (earlier_turn who) (Start x) ms fit.0.0 fit.0.1
    (⊎_elim
    (λ t. ⊎_elim
    (λ a. absurd (omega (arith, a.0, lt, ap (λ (y : Attempt). y.turn) t.1)))
    (λ a. subst (λ y. IsAborted s ms (earlier_turn y)) t.1 a.2.0)
    fit.0.1.3)
    (λ t. aborted_prev s p who ms fit.1 lt (rw t.0 at e))
    (attempt_tells x who))
aborted_prev s p who (Ask x st k m ∷ ms) fit lt e = aborted_more s p (earlier_turn who) (Ask x st k m) ms fit.0.0 fit.0.1 (aborted_prev s p who ms fit.1 lt e)
aborted_prev s p who (m ∷ ms) fit lt e = aborted_more s p (earlier_turn who) m ms fit.0.0 fit.0.1 (aborted_prev s p who ms fit.1 lt e)

pub aborted_before : (s : Setting) (p : ℕ) (x : TxnId) (t u : ℕ) (ms : List Msg) → AllFit s p ms → 1 ≤ t → t < u → started_for (record { txn = x; turn = u }) ms ≡ true → IsAborted s ms (record { txn = x; turn = t })
aborted_before s p x t zero ms fit low lt e = absurd (omega arith)
aborted_before s p x t (suc u) ms fit low lt e =
    let a : IsAborted s ms (record { txn = x; turn = u }) = aborted_prev s p (record { txn = x; turn = suc u }) ms fit (omega arith) e in
    ⊎_elim
    (λ k. subst (λ n. IsAborted s ms (record { txn = x; turn = n })) (sym k.1) a)
    (λ k. aborted_before s p x t u ms fit low (omega (arith, k.1)) (aborted_started s p (record { txn = x; turn = u }) ms fit a))
    (eqb_tells t u)

module _ (s : Setting) (v : Valid s) (H : List Entry) (flight : List Mail) (g : Good s H flight) where
  pub decided : (a : Attempt) (n : Number) (p : ℕ) → IsIn (Commit a n) (heard p H) → Decides s (heard (home s a.txn) H) a (Commit a n) × IsIn p (participants s a)
  decided a n p i =
      let h = heard_mail p H (Commit a n) i in
      let d = commit_flies s v H flight g a h.0 n (inr h.1) h.2 in
      (d.0, subst (λ q. IsIn q (participants s a)) h.3 d.1)

  same_turn : (x : TxnId) (t u : ℕ) (m n : Number) → 1 ≤ t → Decides s (heard (home s x) H) (record { txn = x; turn = t }) (Commit (record { txn = x; turn = t }) m) → Decides s (heard (home s x) H) (record { txn = x; turn = u }) (Commit (record { txn = x; turn = u }) n) → t < u → ⊥
  same_turn x t u m n low d f lt = not_both s (heard (home s x) H) (record { txn = x; turn = t }) m (aborted_before s (home s x) x t u (heard (home s x) H) (g.fit (home s x)) low lt f.0.0.0) d

  both_decided : (a b : Attempt) (m n : Number) → a.txn ≡ b.txn → Decides s (heard (home s a.txn) H) a (Commit a m) → Decides s (heard (home s a.txn) H) b (Commit b n) → (a ≡ b) × (m ≡ n)
  both_decided a b m n e d f =
      let p : ℕ = home s a.txn in
      let ms : List Msg = heard p H in
      let as_a : record { txn = a.txn; turn = b.turn } ≡ b = λ i. record { txn = e i; turn = b.turn } in
      let f' : Decides s ms (record { txn = a.txn; turn = b.turn }) (Commit (record { txn = a.txn; turn = b.turn }) n) = subst (λ y. Decides s ms y (Commit y n)) (sym as_a) f in
      let low_a : 1 ≤ a.turn = started_turn s p a ms (g.fit p) d.0.0.0 in
      let low_b : 1 ≤ b.turn = started_turn s p b ms (g.fit p) f.0.0.0 in
      let turns : a.turn ≡ b.turn = ⊎_elim (λ t. t.1) (λ t. absurd (⊎_elim (λ lt. same_turn a.txn a.turn b.turn m n low_a d f' lt) (λ lt. same_turn a.txn b.turn a.turn n m low_b f' d lt) (either a.turn b.turn t.1))) (eqb_tells a.turn b.turn) in
      let is : a ≡ b = λ i. record { txn = e i; turn = turns i } in
      (is, numbers is (subst (λ y. Decides s ms y (Commit y n)) (sym is) f))
    where
      either : (x y : ℕ) → x ≢ y → (x < y) ⊎ (y < x)
      either x y ne = grind (arith, ne)

      numbers : a ≡ b → Decides s (heard (home s a.txn) H) a (Commit a n) → m ≡ n
      numbers is h = let same : Commit a m ≡ Commit a n = sym d.1 ∙ h.1 in cc

  pub atomic : CommitsAgree s H
  atomic = record {
    one = λ a b m n p q e i j. both_decided a b m n e (decided a m p i).0 (subst (λ x. Decides s (heard (home s x) H) b (Commit b n)) (sym e) (decided b n q j).0);
    window = λ a n p q i j. (window_there s v H flight g a n (decided a n p i).0 q j).1;
    place = λ a n p i. (decided a n p i).1;
  }

  -- nothing in flight: each participant has its Commit
  pub everywhere : flight ≡ [] → Everywhere s H
  everywhere quiet a n p q i j =
      let d = decided a n p i in
      let l = end_ledger s v H flight g a q in
      let k : 1 ≤ count_msgs (is_end a) (heard q H)
      = omega (
        arith,
        l,
        ap (count (sent_to q (is_end a))) quiet,
        ap (λ b. cond b (occurs q (partitions_of s.parts (s.accesses a.txn))) 0) d.0.0.1,
        in_occurs q (participants s a) j,
      ) in
      let m = find_msg (is_end a) (heard q H) k in
      from m.0 m.1 m.2
    where
      in_occurs : (q : ℕ) (xs : List ℕ) → IsIn q xs → 1 ≤ occurs q xs
      in_occurs q [] i = absurd i
      in_occurs q (x ∷ xs) i = ⊎_elim (λ (is : q ≡ x). ⊎_elim (λ t. rw t.0 (omega arith)) (λ t. absurd (t.1 (sym is))) (eqb_tells x q)) (λ r. omega (arith, in_occurs q xs r)) i

      from : (m : Msg) → IsIn m (heard q H) → is_end a m ≡ true → IsIn (Commit a n) (heard q H)
      from (Commit y k) i' e =
          let is : y ≡ a = (attempt_decides y a).0 e in
          let here : IsIn (Commit a k) (heard q H) = subst (λ z. IsIn (Commit z k) (heard q H)) is i' in
          subst (λ z. IsIn (Commit a z) (heard q H)) (sym (atomic.one a a n k p q refl i here).1) here
      from (Abort y) i' e =
          let is : y ≡ a = (attempt_decides y a).0 e in
          let h = heard_mail q H (Abort a) (subst (λ z. IsIn (Abort z) (heard q H)) is i') in
          absurd (not_both s (heard (home s a.txn) H) a n (abort_flies s v H flight g a h.0 (inr h.1) h.2) (decided a n p i).0)
      from (Start y) i' e = absurd (true≢false (sym e))
      from m i' e = absurd (true≢false (sym e))
