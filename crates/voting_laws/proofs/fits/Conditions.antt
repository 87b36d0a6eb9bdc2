-- The conditions of the calls that the mails in flight make.
use Rattle.std.proofs.Common.{◌≡◌, ◌≢◌, ◌⊎◌, ℕ, zero, suc, ◌+◌, ◌*◌, ◌<◌, ◌≤◌, ◌^◌, List, [], ◌∷◌, ◌++◌, length, filter, slice_get, reverse, Bool, true, false, cond, ◌&&◌, eqb, refl, sym, ap, ◌∙◌, subst, subst₂, inl, inr, ⊎_elim, arith, Option, Some, None, true≢false}
use Rattle.std.proofs.lemmas.List.{reverse-append, length-reverse}
use Rattle.std.specs.List.{list_any}
use Rattle.std.proofs.lemmas.Bool.Decides.{nat_tests, eqb_tells}
use Rattle.deneva_base.specs.declared.keys.Key.{Key}
use Rattle.deneva_base.specs.declared.numbers.TxnId.{TxnId}
use Rattle.deneva_base.specs.declared.numbers.Attempt.{Attempt}
use Rattle.deneva_base.specs.declared.numbers.Number.{Number}
use Rattle.deneva_base.specs.declared.keys.Mode.{Mode}
use Rattle.deneva_base.specs.declared.keys.Mode.TheVariants.{Put}
use Rattle.deneva_base.specs.Lists.{IsIn}
use Rattle.deneva_base.specs.Rows.{Row}
use Rattle.deneva_base.specs.Keys.{attempt_eq, key_eq}
use Rattle.deneva_base.specs.Modes.{IsReading, IsWriting}
use Rattle.deneva_base.specs.declared.causes.Cause.{Cause}
use Rattle.deneva_base.specs.declared.causes.Bound.{Bound}
use Rattle.deneva_base.specs.declared.rows.Keyed.{Keyed}
use Rattle.deneva_base.specs.declared.answers.Answer.{Answer}
use Rattle.deneva_base.specs.declared.answers.Answer.TheVariants.{Granted as Gives, Waits, Refused as Refuses}
use Rattle.protocol_rules.specs.History.{Asked, Grant, asks, grants, waits, refused, refusal, aborted}
use Rattle.protocol_rules.specs.Conditions.{Distinct, MayAsk}
use Rattle.deneva_base.proofs.Membership.{in_right, filter_in, any_found, attempt_decides, key_decides, attempt_tells, key_tells}
use Rattle.server_core.specs.declared.messages.Msg.{Msg}
use Rattle.server_core.specs.declared.messages.Msg.TheVariants.{Start, Ask, Granted, Refused, Prepare, Commit, Abort, Done, Undone}
use Rattle.server_core.specs.declared.messages.Mail.{Mail}
use Rattle.server_core.specs.declared.messages.Entry.{Entry}
use Rattle.server_core.specs.Setting.{Setting, home, home_in, take_first, loaded_at, rule_at, participants}
use Rattle.deneva_base.specs.declared.keys.Access.{Access}
use Rattle.server_core.specs.Received.{Reply, grants_for, votes_for, all_voted, refused_for, closes_for, started_for, all_closed}
use Rattle.txn_program.specs.Transactions.{numbers_below}
use Rattle.deneva_base.specs.Partitions.{partition_of}
use Rattle.server_core.specs.Coordinator.{at_part, reads_of, asked_partitions, told, effect_of}
use Rattle.server_core.specs.Voting.{says, opening}
use Rattle.server_core.specs.Participant.{calls}
use Rattle.server_core.specs.Stamps.{stamp_from, stamped}
use Rattle.server_core.specs.Effects.{written, appended}
use Rattle.server_core.specs.VotingFits.{Suits, AllFit, IsAborted, AllUndone, FineRow}
use Rattle.server_core.specs.Small.{SmallMsg}
use Rattle.server_core.specs.Proper.{ProperMsg, Valid, FineReplies, keys_in}
use Rattle.server_core.specs.Runs.{heard}
use Rattle.server_core.specs.Counts.{all_said, count}
use Rattle.server_core.specs.VotingRuns.{Small}
use Rattle.server_core.proofs.counts.Local.{sent_to, count_msgs}
use Rattle.server_core.proofs.counts.Quiet.{is_ask, is_answer, is_prepare, is_end}
use Rattle.server_core.proofs.counts.Prepares.{occurs, slice_some}
use Rattle.voting_laws.proofs.fits.Heard.{key_in, keys_more, answers_heard}
use Rattle.server_core.proofs.values.Called.{obeys, waiting_in, access_of, ask_heard, knows}
use Rattle.server_core.proofs.values.Values.{key_there, same_mode, take_all, heard_mail, refused_in, grant_made, done_made, is_done}
use Rattle.server_core.proofs.values.Origins.{started_ids, origin, proper_said}
use Rattle.server_core.proofs.counts.Starts.{started_turn}
use Rattle.voting_laws.proofs.fits.Joins.{prepare_said, yea_heard}
use Rattle.voting_laws.proofs.fits.Lands.{lands, msg_counted, handled_heard, heard_short}
use Rattle.voting_laws.proofs.fits.Stamps.{ask_said, stamp_is, stamps_differ, stamped_started, stamped_takes}
use Rattle.voting_laws.proofs.fits.Account.{Good, in_openings, Awaited, ask_ledger, prepare_ledger, end_ledger, answer_ledger, waiting_at, phase, awaited, asking, answer_awaited, at_most_one, no_vote_yet, occurs_in, voted_in, itself, key_itself, flies, looks, may_call, may_open, no_end_yet, no_prepare_yet, ended_now, prepare_now, granted_there, said_at, commit_flies, abort_flies, window_there, keys_take}
use Rattle.server_core.proofs.lists.Parts.{part_below, parts_in, parts_from}
use Rattle.server_core.proofs.values.EarlierTurns.{undone_before, not_both}

-- a node's calls are no more than its messages
pub calls_short : (s : Setting) (p : ℕ) (ms : List Msg) → length (calls s p ms) ≤ length ms
calls_short s p [] = omega arith
calls_short s p (Ask x st k m ∷ ms) = omega (arith, calls_short s p ms)
calls_short s p (Prepare x b w a ∷ ms) = omega (arith, calls_short s p ms)
calls_short s p (Commit x n ∷ ms) = omega (arith, calls_short s p ms)
calls_short s p (Abort x ∷ ms) = omega (arith, calls_short s p ms)
calls_short s p (Start x ∷ ms) = omega (arith, calls_short s p ms)
calls_short s p (m ∷ ms) = omega (arith, calls_short s p ms)

pub loaded_here : (s : Setting) (key : Key) (row : Row) → s.loaded key ≡ Some row → loaded_at s (partition_of key s.parts) key ≡ Some row
loaded_here s key row e = rw (same (partition_of key s.parts)) e
  where
    same : (n : ℕ) → eqb n n ≡ true
    same n = grind (arith, nat_tests)

pub loaded_there : (s : Setting) (p : ℕ) (key : Key) (row : Row) → loaded_at s p key ≡ Some row → s.loaded key ≡ Some row
loaded_there s p key row e = go (eqb (partition_of key s.parts) p) e
  where
    go : (b : Bool) → cond b (s.loaded key) None ≡ Some row → s.loaded key ≡ Some row
    go true f = f
    go false f = absurd (cc (f))

-- who was refused was sent a Refused
pub refused_mail : (s : Setting) (p : ℕ) (who : Attempt) (ms : List Msg) → IsIn who (refused (calls s p ms)) → (k : Key) × (c : Cause) × IsIn (record { from = p; to = home s who.txn; msg = Refused who k c }) (all_said (says s) p ms)
refused_mail s p who [] i = absurd i
refused_mail s p who (Ask x st k m ∷ ms) i = by ((rule_at s p).ask (calls s p ms) x st k m) refl i (refused_mail s p who ms)
  where
    by : (a : Answer) → (rule_at s p).ask (calls s p ms) x st k m ≡ a → IsIn who (refusal x a ++ refused (calls s p ms)) → (IsIn who (refused (calls s p ms)) → (k : Key) × (c : Cause) × IsIn (record { from = p; to = home s who.txn; msg = Refused who k c }) (all_said (says s) p ms)) → (q : Key) × (c : Cause) × IsIn (record { from = p; to = home s who.txn; msg = Refused who q c }) (all_said (says s) p (Ask x st k m ∷ ms))
    by (Gives r w b) e i next = let n = next i in (n.0, n.1, in_right (record { from = p; to = home s who.txn; msg = Refused who n.0 n.1 }) (says s p (Ask x st k m ∷ ms)) (all_said (says s) p ms) n.2)
    by Waits e i next = let n = next i in (n.0, n.1, in_right (record { from = p; to = home s who.txn; msg = Refused who n.0 n.1 }) (says s p (Ask x st k m ∷ ms)) (all_said (says s) p ms) n.2)
    by (Refuses c) e i next =
        ⊎_elim
        (λ (is : who ≡ x). (k, c, subst (λ y. IsIn (record { from = p; to = home s y.txn; msg = Refused y k c }) (all_said (says s) p (Ask x st k m ∷ ms))) (sym is) (rw e (inl refl))))
        (λ r. let n = next r in (n.0, n.1, in_right (record { from = p; to = home s who.txn; msg = Refused who n.0 n.1 }) (says s p (Ask x st k m ∷ ms)) (all_said (says s) p ms) n.2))
        i
refused_mail s p who (Start x ∷ ms) i = let n = refused_mail s p who ms i in (n.0, n.1, in_right (record { from = p; to = home s who.txn; msg = Refused who n.0 n.1 }) (says s p (Start x ∷ ms)) (all_said (says s) p ms) n.2)
refused_mail s p who (m ∷ ms) i = let n = refused_mail s p who ms i in (n.0, n.1, in_right (record { from = p; to = home s who.txn; msg = Refused who n.0 n.1 }) (says s p (m ∷ ms)) (all_said (says s) p ms) n.2)

-- whose Abort was called is aborted
pub aborted_call : (s : Setting) (p : ℕ) (who : Attempt) (ms : List Msg) → IsIn (Abort who) ms → IsIn who (aborted (calls s p ms))
aborted_call s p who [] i = absurd i
aborted_call s p who (Abort x ∷ ms) i = ⊎_elim (λ (e : Abort who ≡ Abort x). let f : who ≡ x = cc in inl f) (λ r. inr (aborted_call s p who ms r)) i
aborted_call s p who (Ask x st k m ∷ ms) i = aborted_call s p who ms (⊎_elim (λ e. absurd (cc (e))) (λ r. r) i)
aborted_call s p who (m ∷ ms) i = aborted_call s p who ms (⊎_elim (λ e. absurd (cc (e))) (λ r. r) i)

-- and who called ask is among the asks
pub heard_ask : (s : Setting) (p : ℕ) (who : Attempt) (key : Key) (ms : List Msg) → 1 ≤ count_msgs (is_ask who key) ms → (a : Asked) × IsIn a (asks (calls s p ms)) × (a.who ≡ who) × (a.key ≡ key)
heard_ask s p who key [] h = absurd (omega arith)
heard_ask s p who key (Ask x st k m ∷ ms) h = go (attempt_eq x who && key_eq k key) refl h (heard_ask s p who key ms)
  where
    both : (a b : Bool) → (a && b) ≡ true → (a ≡ true) × (b ≡ true)
    both true b e = (refl, e)
    both false b e = absurd (true≢false (sym e))

    go : (b : Bool) → (attempt_eq x who && key_eq k key) ≡ b → 1 ≤ cond b 1 0 + count_msgs (is_ask who key) ms → (1 ≤ count_msgs (is_ask who key) ms → (a : Asked) × IsIn a (asks (calls s p ms)) × (a.who ≡ who) × (a.key ≡ key)) → (a : Asked) × IsIn a (asks (calls s p (Ask x st k m ∷ ms))) × (a.who ≡ who) × (a.key ≡ key)
    go true e h next = let b = both (attempt_eq x who) (key_eq k key) e in (record { who = x; stamp = st; key = k; mode = m }, inl refl, (attempt_decides x who).0 b.0, (key_decides k key).0 b.1)
    go false e h next = let n = next (omega (arith, h)) in (n.0, inr n.1, n.2, n.3)
heard_ask s p who key (Start x ∷ ms) h = heard_ask s p who key ms (omega (arith, h))
heard_ask s p who key (m ∷ ms) h = heard_ask s p who key ms (omega (arith, h))

closed_at : (who : Attempt) (q : ℕ) (ms : List Msg) → IsIn q (closes_for who ms) → IsIn (Done who q) ms ⊎ IsIn (Undone who q) ms
closed_at who q [] i = absurd i
closed_at who q (Done x part ∷ ms) i =
    ⊎_elim
    (λ t. ⊎_elim (λ (is : q ≡ part). inl (inl (subst₂ (λ y z. Done y z ≡ Done x part) t.1 (sym is) refl))) (λ r. ⊎_elim (λ a. inl (inr a)) (λ b. inr (inr b)) (closed_at who q ms r)) (rw t.0 at i))
    (λ t. ⊎_elim (λ a. inl (inr a)) (λ b. inr (inr b)) (closed_at who q ms (rw t.0 at i)))
    (attempt_tells x who)
closed_at who q (Undone x part ∷ ms) i =
    ⊎_elim
    (λ t. ⊎_elim (λ (is : q ≡ part). inr (inl (subst₂ (λ y z. Undone y z ≡ Undone x part) t.1 (sym is) refl))) (λ r. ⊎_elim (λ a. inl (inr a)) (λ b. inr (inr b)) (closed_at who q ms r)) (rw t.0 at i))
    (λ t. ⊎_elim (λ a. inl (inr a)) (λ b. inr (inr b)) (closed_at who q ms (rw t.0 at i)))
    (attempt_tells x who)
closed_at who q (m ∷ ms) i = ⊎_elim (λ a. inl (inr a)) (λ b. inr (inr b)) (closed_at who q ms i)

closed_there : (cs qs : List ℕ) (q : ℕ) → all_closed cs qs ≡ true → IsIn q qs → IsIn q cs
closed_there cs [] q e i = absurd i
closed_there cs (x ∷ qs) q e i =
    let b = parts_and (list_any (λ c. eqb c x) cs) (all_closed cs qs) e in
    ⊎_elim
    (λ (is : q ≡ x). let f = any_found (λ c. eqb c x) cs b.0 in subst (λ z. IsIn z cs) (eqb_is f.0 x f.2 ∙ sym is) f.1)
    (λ r. closed_there cs qs q b.1 r)
    i
  where
    eqb_is : (a b : ℕ) → eqb a b ≡ true → a ≡ b
    eqb_is a b e = grind (arith, nat_tests)

    parts_and : (a b : Bool) → (a && b) ≡ true → (a ≡ true) × (b ≡ true)
    parts_and true b e = (refl, e)
    parts_and false b e = absurd (true≢false (sym e))

-- an Ask that was handled or is in flight is of a started attempt, with its stamp
module _ (s : Setting) (v : Valid s) (H : List Entry) (flight : List Mail) (g : Good s H flight) where
  abbrev pub IsAsker : Attempt → ℕ → Type 0
  IsAsker y st = (started_for y (heard (home s y.txn) H) ≡ true) × (st ≡ stamp_from s (home s y.txn) (heard (home s y.txn) H) (stamped s y))

  pub asker : (q : ℕ) (a : Asked) → IsIn a (asks (calls s q (heard q H))) → IsAsker a.who a.stamp
  asker q a i =
      let f = said_at s v H flight g a.who q (Ask a.who a.stamp a.key a.mode) (ask_heard s q (heard q H) a i) (λ y d. absurd (cc (d))) in
      subst (λ p. (started_for a.who (heard p H) ≡ true) × (a.stamp ≡ stamp_from s p (heard p H) (stamped s a.who))) f.5.0 (ask_said s f.1 a.who a.stamp a.key a.mode (heard f.1 H) (g.fit f.1) f.0 f.2 f.4)

  txn_of : (x y : TxnId) → x.0 ≡ y.0 → x ≡ y
  txn_of x y e = λ j. record { 0 = e j }

  stamped_txn : (y : Attempt) → (stamped s y).txn ≡ y.txn
  stamped_txn y = go s.fixed
    where
      go : (b : Bool) → (cond b (record { txn = y.txn; turn = 1 }) y).txn ≡ y.txn
      go true = refl
      go false = refl

  -- different transactions have different stamps
  pub apart : (x y : Attempt) (m n : ℕ) → IsAsker x m → IsAsker y n → x.txn ≢ y.txn → m ≢ n
  apart x y m n a b ne e =
      ⊎_elim
      (λ (t : (eqb (home s x.txn) (home s y.txn) ≡ true) × (home s x.txn ≡ home s y.txn)).
      let b' : (started_for y (heard (home s x.txn) H) ≡ true) × (n ≡ stamp_from s (home s x.txn) (heard (home s x.txn) H) (stamped s y)) = subst (λ p. (started_for y (heard p H) ≡ true) × (n ≡ stamp_from s p (heard p H) (stamped s y))) (sym t.1) b in
      stamps_differ s (home s x.txn) v.parts (stamped s x) (stamped s y) (heard (home s x.txn) H) (stamped_takes s (home s x.txn) x) (stamped_takes s (home s x.txn) y)
      (stamped_started s (home s x.txn) x (heard (home s x.txn) H) (g.fit (home s x.txn)) a.0) (stamped_started s (home s x.txn) y (heard (home s x.txn) H) (g.fit (home s x.txn)) b'.0)
      (λ same. ne (sym (stamped_txn x) ∙ ap (λ (z : Attempt). z.txn) same ∙ stamped_txn y))
      (sym a.1 ∙ e ∙ b'.1))
      (λ (t : (eqb (home s x.txn) (home s y.txn) ≡ false) × (home s x.txn ≢ home s y.txn)).
      let c = stamp_is s (home s x.txn) (stamped s x) (heard (home s x.txn) H) (stamped_takes s (home s x.txn) x) (stamped_started s (home s x.txn) x (heard (home s x.txn) H) (g.fit (home s x.txn)) a.0) in
      let d = stamp_is s (home s y.txn) (stamped s y) (heard (home s y.txn) H) (stamped_takes s (home s y.txn) y) (stamped_started s (home s y.txn) y (heard (home s y.txn) H) (g.fit (home s y.txn)) b.0) in
      t.1 (digits c.0 d.0 s.parts (home s x.txn) (home s y.txn) (home_below x) (home_below y) (sym c.2 ∙ sym a.1 ∙ e ∙ b.1 ∙ d.2)))
      (eqb_tells (home s x.txn) (home s y.txn))
    where
      home_below : (z : Attempt) → home s z.txn < s.parts
      home_below z = go (s.accesses z.txn)
        where
          go : (as' : List Access) → home_in s.parts as' < s.parts
          go [] = v.parts
          go (c ∷ as') = part_below c.key s.parts v.parts

      digits : (c d k p q : ℕ) → p < k → q < k → c * k + p + 1 ≡ d * k + q + 1 → p ≡ q
      digits c d k p q lp lq e = ⊎_elim (λ lt. absurd (over c d p q lt lp (omega (arith, e)))) (λ ge. ⊎_elim (λ gt. absurd (over d c q p gt lq (omega (arith, e)))) (λ is. same is) ge) (three c d)
        where
          three : (c d : ℕ) → (c < d) ⊎ ((d < c) ⊎ (c ≡ d))
          three c d = grind arith

          same : c ≡ d → p ≡ q
          same is = let f : c * k ≡ d * k = ap (λ z. z * k) is in omega (arith, e, f)

          over : (c d p q : ℕ) → c < d → p < k → c * k + p ≡ d * k + q → ⊥
          over c d p q lt lp e = let f : c * k + k ≤ d * k = step c d k lt in omega (arith, e, f, lp)
            where
              step : (c d k : ℕ) → c < d → c * k + k ≤ d * k
              step c d k lt = let f : (suc c) * k ≤ d * k = mono (suc c) d k lt in omega (arith, f)
                where
                  mono : (a b k : ℕ) → a ≤ b → a * k ≤ b * k
                  mono a b k h = grind (arith, h)

-- replies and accesses in step
fine_push : (s : Setting) (as' : List Access) (rs : List Reply) (a : Access) (r : Reply) → FineReplies s as' rs → slice_get as' (length rs) ≡ Some a → (IsReading a.mode → s.fine a.key r.row ≡ true) → FineReplies s as' (rs ++ r ∷ [])
fine_push s [] rs a r f e h = tt
fine_push s (b ∷ as') [] a r f e h = let is : b ≡ a = cc in (subst (λ z. IsReading z.mode → s.fine z.key r.row ≡ true) (sym is) h, none as')
  where
    none : (xs : List Access) → FineReplies s xs []
    none [] = tt
    none (x ∷ xs) = tt
fine_push s (b ∷ as') (q ∷ rs) a r f e h = (f.0, fine_push s as' rs a r f.1 e h)

pub fine_home : (s : Setting) (p : ℕ) (who : Attempt) (ms : List Msg) → AllFit s p ms → FineReplies s (s.accesses who.txn) (reverse (grants_for who ms))
fine_home s p who [] fit = none (s.accesses who.txn)
  where
    none : (xs : List Access) → FineReplies s xs []
    none [] = tt
    none (x ∷ xs) = tt
fine_home s p who (Granted x k row n b ∷ ms) fit =
    let ih = fine_home s p who ms fit.1 in
    ⊎_elim
    (λ (t : (attempt_eq x who ≡ true) × (x ≡ who)).
    let own : Suits s p fit.0.0 (Granted who k row n b) ms = subst (λ y. Suits s p fit.0.0 (Granted y k row n b) ms) t.1 fit.0.1 in
    let r : Reply = record { row = row; bound = b; key = k } in
    rw t.0
    (subst (FineReplies s (s.accesses who.txn)) (sym (reverse-append (r ∷ []) (grants_for who ms)))
    (fine_push s (s.accesses who.txn) (reverse (grants_for who ms)) (record { key = k; mode = own.2.0 }) r ih
    (ap (slice_get (s.accesses who.txn)) (length-reverse (grants_for who ms)) ∙ own.2.1.2)
    (own.3 own.2.0 (slice_in (s.accesses who.txn) (length (grants_for who ms)) (record { key = k; mode = own.2.0 }) own.2.1.2)).0)))
    (λ t. rw t.0 ih)
    (attempt_tells x who)
  where
    slice_in : (xs : List Access) (i : ℕ) (a : Access) → slice_get xs i ≡ Some a → IsIn a xs
    slice_in [] i a e = absurd (cc)
    slice_in (x ∷ xs) zero a e = inl (sym (cc))
    slice_in (x ∷ xs) (suc i) a e = inr (slice_in xs i a e)
fine_home s p who (Ask x st k m ∷ ms) fit = fine_home s p who ms fit.1
fine_home s p who (m ∷ ms) fit = fine_home s p who ms fit.1

prepared_fine : (s : Setting) (p : ℕ) (who : Attempt) (b : Bound) (w a : List Keyed) (ms : List Msg) → AllFit s p ms → IsIn (Prepare who b w a) ms → (k : Keyed) → IsIn k w → s.fine k.key k.row ≡ true
prepared_fine s p who b w a [] fit i k j = absurd i
prepared_fine s p who b w a (Prepare x c u d ∷ ms) fit i k j =
    ⊎_elim
    (λ (e : Prepare who b w a ≡ Prepare x c u d). let f : w ≡ u = cc in fit.0.1.2 k (subst (IsIn k) f j))
    (λ r. prepared_fine s p who b w a ms fit.1 r k j)
    i
prepared_fine s p who b w a (Ask x st q m ∷ ms) fit i k j = prepared_fine s p who b w a ms fit.1 (⊎_elim (λ e. absurd (cc (e))) (λ r. r) i) k j
prepared_fine s p who b w a (m ∷ ms) fit i k j = prepared_fine s p who b w a ms fit.1 (⊎_elim (λ e. absurd (cc (e))) (λ r. r) i) k j

distinct_filter : (p : Keyed → Bool) (ws : List Keyed) → Distinct ws → Distinct (filter p ws)
distinct_filter p [] d = tt
distinct_filter p (w ∷ ws) d = go (p w) (distinct_filter p ws d.1)
  where
    go : (b : Bool) → Distinct (filter p ws) → Distinct (cond b (w ∷ filter p ws) (filter p ws))
    go true ih = ((λ x i. d.0 x (filter_in p x ws i).0), ih)
    go false ih = ih

module _ (s : Setting) (v : Valid s) (H : List Entry) (flight : List Mail) (g : Good s H flight) (sm : Small H flight) (who : Attempt) where
  abbrev home' : List Msg
  home' = heard (home s who.txn) H

  abbrev n : ℕ
  n = length (grants_for who home')

  abbrev as' : List Access
  as' = s.accesses who.txn

  short_at : (q : ℕ) → length (calls s q (heard q H)) < 2 ^ 32
  short_at q = less (length (calls s q (heard q H))) (length H) (2 ^ 32) (omega (arith, calls_short s q (heard q H), heard_short q H)) sm.short
    where
      less : (a b c : ℕ) → a ≤ b → b < c → a < c
      less a b c h l = omega (arith, h, l)

  -- two keys that are awaited are one
  same_key : (k q : Key) → 1 ≤ key_in k (slice_get as' n) → 1 ≤ key_in q (slice_get as' n) → k ≡ q
  same_key k q a b = go (slice_get as' n) a b
    where
      go : (o : Option Access) → 1 ≤ key_in k o → 1 ≤ key_in q o → k ≡ q
      go None a b = absurd (omega arith)
      go (Some x) a b =
          ⊎_elim
          (λ t. ⊎_elim (λ u. sym t.1 ∙ u.1) (λ u. let b' : 1 ≤ 0 = rw u.0 at b in absurd (omega arith)) (key_tells x.key q))
          (λ t. let a' : 1 ≤ 0 = rw t.0 at a in absurd (omega arith))
          (key_tells x.key k)

  -- what is answered, waits or is on the way was asked, and once
  asked_once : (key : Key) → count_msgs (is_ask who key) (heard (partition_of key s.parts) H) ≤ 1
  asked_once key = omega (arith, ask_ledger s v H flight g who key, at_most_one s v H flight g who key)

  -- a key that was asked for and has no answer at home is the one awaited
  open_ask : (key : Key) → 1 ≤ count_msgs (is_ask who key) (heard (partition_of key s.parts) H) → count_msgs (is_answer who key) home' ≡ 0 → Awaited s v H flight g who key
  open_ask key one none = awaited s v H flight g who key (omega (arith, one, ask_ledger s v H flight g who key)) none

  waits_here : (q : ℕ) (a : Asked) → IsIn a (waits (calls s q (heard q H))) → a.who ≡ who → (1 ≤ waiting_at s v H flight g who a.key) × (partition_of a.key s.parts ≡ q)
  waits_here q a i e =
      let h = (access_of s q (heard q H) a (g.fit q) ((knows s q (heard q H) (g.fit q)).asked a i)).0 in
      (waiting_in who a.key (waits (calls s (partition_of a.key s.parts) (heard (partition_of a.key s.parts) H))) a (subst (λ p. IsIn a (waits (calls s p (heard p H)))) (sym h) i) e refl, h)

  waits_awaited : (q : ℕ) (a : Asked) → IsIn a (waits (calls s q (heard q H))) → a.who ≡ who → Awaited s v H flight g who a.key × (1 ≤ count_msgs (is_ask who a.key) (heard (partition_of a.key s.parts) H))
  waits_awaited q a i e =
      let w = waits_here q a i e in
      let l = answer_ledger s v H flight g who a.key in
      (open_ask a.key (omega (arith, w.0, l)) (omega (arith, w.0, l, asked_once a.key)), omega (arith, w.0, l))

  -- a refusal is at home, or on the way for the key awaited
  refusal_at : (q : ℕ) → IsIn who (refused (calls s q (heard q H))) → (refused_for who home' ≡ true) ⊎ ((k : Key) × Awaited s v H flight g who k × (1 ≤ count (sent_to (home s who.txn) (is_answer who k)) flight))
  refusal_at q i =
      let m = refused_mail s q who (heard q H) i in
      let x : Mail = record { from = q; to = home s who.txn; msg = Refused who m.0 m.1 } in
      ⊎_elim
      (λ f. let one = flies s v H flight g who (is_answer who m.0) (home s who.txn) x (Refused who m.0 m.1) f refl refl (rw (itself s v H flight g who, key_itself s v H flight g who m.0)) in inr (m.0, answer_awaited s v H flight g who m.0 one, one))
      (λ h. inl (refused_in who m.0 m.1 home' (handled_heard H x h)))
      (lands (says s) (opening s) H flight g.run q x m.2)

  aborted_late : IsAborted s home' who → refused_for who home' ≡ false → n < length as' → ⊥
  aborted_late a u lt = ⊎_elim (λ r. true≢false (sym r ∙ u)) (λ d. omega (arith, d.0.0.2, lt)) a

  -- an earlier attempt that asked here was aborted here
  earlier_aborted : (q : ℕ) (y : Attempt) → 1 ≤ y.turn → y.turn < who.turn → y.txn ≡ who.txn → started_for who home' ≡ true → (key : Key) → partition_of key s.parts ≡ q → 1 ≤ count_msgs (is_ask y key) (heard (partition_of key s.parts) H) → IsIn y (aborted (calls s q (heard q H)))
  earlier_aborted q y low lt e st key at one =
      let is : record { txn = who.txn; turn = y.turn } ≡ y = λ j. record { txn = sym e j; turn = y.turn } in
      let u : AllUndone s (heard (home s y.txn) H) y
      = subst (λ (z : Attempt). AllUndone s (heard (home s z.txn) H) z) is (undone_before s (home s who.txn) who.txn y.turn who.turn home' (g.fit (home s who.txn)) low lt st) in
      let there : IsIn q (told s (heard (home s y.txn) H) y) = subst (λ z. IsIn z (told s (heard (home s y.txn) H) y)) at (told_of y key one) in
      let c = closed_at y q (heard (home s y.txn) H) (closed_there (closes_for y (heard (home s y.txn) H)) (told s (heard (home s y.txn) H) y) q u.1 there) in
      ⊎_elim
      (λ d. from_close q y (Done y q) d (λ z f. absurd (cc (f))) u.0 (itself s v H flight g y) (λ p f. f.1))
      (λ d. from_close q y (Undone y q) d (λ z f. absurd (cc (f))) u.0 (itself s v H flight g y) (λ p f. f.1))
      c
    where
      told_of : (y : Attempt) (key : Key) → 1 ≤ count_msgs (is_ask y key) (heard (partition_of key s.parts) H) → IsIn (partition_of key s.parts) (told s (heard (home s y.txn) H) y)
      told_of y key one = go (refused_for y (heard (home s y.txn) H))
        where
          asked : 1 ≤ keys_in key (take_first (suc (length (grants_for y (heard (home s y.txn) H)))) (s.accesses y.txn))
          asked = under (started_for y (heard (home s y.txn) H)) (omega (arith, one, ask_ledger s v H flight g y key))
            where
              under : (b : Bool) {m : ℕ} → 1 ≤ cond b m 0 → 1 ≤ m
              under true h = h
              under false h = absurd (omega (arith, h))

          go : (b : Bool) → IsIn (partition_of key s.parts) (cond b (asked_partitions s (heard (home s y.txn) H) y) (participants s y))
          go true = parts_in s.parts key (take_first (suc (length (grants_for y (heard (home s y.txn) H)))) (s.accesses y.txn)) v.parts asked
          go false = parts_in s.parts key (s.accesses y.txn) v.parts (omega (arith, asked, keys_take key (suc (length (grants_for y (heard (home s y.txn) H)))) (s.accesses y.txn)))

      from_close : (q : ℕ) (y : Attempt) (m : Msg) → IsIn m (heard (home s y.txn) H) → ((z : Attempt) → m ≡ Start z → ⊥) → IsAborted s (heard (home s y.txn) H) y → is_done s v q y m ≡ true → ((p : ℕ) → ProperMsg s p (home s y.txn) m → q ≡ p) → IsIn y (aborted (calls s q (heard q H)))
      from_close q y m i ns ab d pr =
          let f = said_at s v H flight g y (home s y.txn) m i ns in
          let at : q ≡ f.1 = pr f.1 f.5 in
          let r = done_made s v q y (heard q H) f.0 (subst (λ z. is_done s v q y z ≡ true) (sym f.2) d) (subst (λ p. IsIn f.0 (all_said (says s) p (heard p H))) (sym at) f.4) in
          ⊎_elim
          (λ (c : (number : Number) × (part : ℕ) × (f.0.msg ≡ Done y part) × IsIn (Commit y number) (heard q H)).
          let h = heard_mail q H (Commit y c.0) c.3 in
          absurd (not_both s (heard (home s y.txn) H) y c.0 ab (commit_flies s v H flight g y h.0 c.0 (inr h.1) h.2).0))
          (λ (c : (part : ℕ) × (f.0.msg ≡ Undone y part) × IsIn (Abort y) (heard q H)). aborted_call s q y (heard q H) c.2)
          r

  itself_key : (key : Key) → (attempt_eq who who && key_eq key key) ≡ true
  itself_key key = grind (arith, attempt_tells who who, key_tells key key)

  -- each mail of these kinds that is in flight fits its node
  pub ask_fits : (x : Mail) (stamp : ℕ) (key : Key) (mode : Mode) → IsIn x flight → x.msg ≡ Ask who stamp key mode → Suits s x.to x.from (Ask who stamp key mode) (heard x.to H)
  ask_fits x stamp key mode i e =
      let pr = (looks s v H flight g who x (Ask who stamp key mode) i e (λ y f. absurd (cc (f)))).1 in
      let one : 1 ≤ count (sent_to (partition_of key s.parts) (is_ask who key)) flight = flies s v H flight g who (is_ask who key) (partition_of key s.parts) x (Ask who stamp key mode) i e pr.1 (itself_key key) in
      subst (λ z. Suits s z x.from (Ask who stamp key mode) (heard z H)) (sym pr.1) (pr.0, refl, pr.2, may one (asker_flying pr.0) pr.2, started_ids s (home s who.txn) who (heard (home s who.txn) H) (g.fit (home s who.txn)) (asker_flying pr.0).0)
    where
      q : ℕ
      q = partition_of key s.parts

      asker_flying : x.from ≡ home s who.txn → IsAsker s v H flight g who stamp
      asker_flying fr =
          ⊎_elim
          (λ o. let st = in_openings s x (numbers_below s.parts) o in absurd (cc (sym e ∙ st.1)))
          (λ f.
          let p = proper_said s v f.0 (heard f.0 H) (g.fit f.0) x f.1 in
          subst (λ p. (started_for who (heard p H) ≡ true) × (stamp ≡ stamp_from s p (heard p H) (stamped s who))) (sym p.0 ∙ fr) (ask_said s f.0 who stamp key mode (heard f.0 H) (g.fit f.0) x e f.1))
          (origin (says s) (opening s) H flight g.run x (inl i))

      may : 1 ≤ count (sent_to (partition_of key s.parts) (is_ask who key)) flight → IsAsker s v H flight g who stamp → IsIn (record { key = key; mode = mode }) as' → MayAsk (loaded_at s (partition_of key s.parts)) (calls s (partition_of key s.parts) (heard (partition_of key s.parts) H)) who stamp key
      may one ak acc =
          let none : count_msgs (is_answer who key) home' ≡ 0 = omega (arith, one, ask_ledger s v H flight g who key, at_most_one s v H flight g who key, answer_ledger s v H flight g who key) in
          let a : Awaited s v H flight g who key = awaited s v H flight g who key (omega (arith, one, ask_ledger s v H flight g who key)) none in
          let unasked : count_msgs (is_ask who key) (heard q H) ≡ 0 = omega (arith, one, ask_ledger s v H flight g who key, at_most_one s v H flight g who key) in
          let same : (k : Key) → Awaited s v H flight g who k → 1 ≤ count_msgs (is_ask who k) (heard (partition_of k s.parts) H) → ⊥
          = λ (k : Key) (b : Awaited s v H flight g who k) (h : 1 ≤ count_msgs (is_ask who k) (heard (partition_of k s.parts) H)).
          let is : k ≡ key = same_key k key b.here a.here in
          let h' : 1 ≤ count_msgs (is_ask who key) (heard (partition_of key s.parts) H) = subst (λ z. 1 ≤ count_msgs (is_ask who z) (heard (partition_of z s.parts) H)) is h in
          omega (arith, h', unasked) in
          let row = v.loads who.txn (record { key = key; mode = mode }) acc in
          record {
            short = short_at q;
            here = (row.0, loaded_here s key row.0 row.1);
            unended = may_call s v H flight g who q (no_end_yet s v H flight g who q a.unrefused a.early);
            opened = may_open s v H flight g who q (omega (arith, prepare_ledger s v H flight g who q, no_prepare_yet s v H flight g who a.early q));
            unrefused = λ r.
                ⊎_elim
                (λ f. true≢false (sym f ∙ a.unrefused))
                (λ f. same f.0 f.1 (omega (arith, f.2, answer_ledger s v H flight g who f.0)))
                (refusal_at q r);
            nowhere = λ b j f. let w = waits_awaited q b j f in same b.key w.0 w.1;
            once = λ b j f k.
                let h = ask_heard s q (heard q H) b j in
                omega (
                  arith,
                  unasked,
                  msg_counted (is_ask who key) (heard q H) (Ask b.who b.stamp b.key b.mode) h (pair b.who b.key f k),
                );
            others = λ b j f ne. others b j f ne ak.0 a;
            same_stamp = λ b j f. let c = asker s v H flight g q b j in subst (λ z. IsAsker s v H flight g z b.stamp → b.stamp ≡ stamp) (sym f) (λ d. d.1 ∙ sym ak.1) c;
            own_stamp = λ b j ne. apart s v H flight g b.who who b.stamp stamp (asker s v H flight g q b j) ak ne;
            positive = let c = stamp_is s (home s who.txn) (stamped s who) home' (stamped_takes s (home s who.txn) who) (stamped_started s (home s who.txn) who home' (g.fit (home s who.txn)) ak.0) in omega (arith, ak.1, c.2);
            small = subst SmallMsg e (sm.flying x i);
          }
        where
          pair : (y : Attempt) (k : Key) → y ≡ who → k ≡ key → (attempt_eq y who && key_eq k key) ≡ true
          pair y k e f = grind (arith, attempt_tells y who, key_tells k key, e, f)

          three : (c d : ℕ) → (c < d) ⊎ ((d < c) ⊎ (c ≡ d))
          three c d = grind arith

          others : (b : Asked) → IsIn b (asks (calls s q (heard q H))) → b.who.txn ≡ who.txn → b.who ≢ who → started_for who home' ≡ true → Awaited s v H flight g who key → IsIn b.who (aborted (calls s q (heard q H)))
          others b j f ne st a =
              let c = asker s v H flight g q b j in
              let here = (access_of s q (heard q H) b (g.fit q) j).0 in
              let same_home : home s b.who.txn ≡ home s who.txn = ap (home s) f in
              let stb : started_for b.who home' ≡ true = subst (λ p. started_for b.who (heard p H) ≡ true) same_home c.0 in
              let as_b : record { txn = who.txn; turn = b.who.turn } ≡ b.who = λ j. record { txn = sym f j; turn = b.who.turn } in
              let low : 1 ≤ who.turn = started_turn s (home s who.txn) who home' (g.fit (home s who.txn)) st in
              let low_b : 1 ≤ b.who.turn = started_turn s (home s who.txn) b.who home' (g.fit (home s who.txn)) stb in
              let there : 1 ≤ count_msgs (is_ask b.who b.key) (heard (partition_of b.key s.parts) H)
              = msg_counted (is_ask b.who b.key) (heard (partition_of b.key s.parts) H) (Ask b.who b.stamp b.key b.mode) (subst (λ p. IsIn (Ask b.who b.stamp b.key b.mode) (heard p H)) (sym here) (ask_heard s q (heard q H) b j)) (grind (arith, attempt_tells b.who b.who, key_tells b.key b.key)) in
              ⊎_elim
              (λ lt. earlier_aborted q b.who low_b lt f st b.key here there)
              (λ r. ⊎_elim
              (λ gt. absurd (aborted_late (undone_before s (home s who.txn) who.txn who.turn b.who.turn home' (g.fit (home s who.txn)) low gt (subst (λ y. started_for y home' ≡ true) (sym as_b) stb)).0 a.unrefused a.early))
              (λ is. absurd (ne (λ j. record { txn = f j; turn = is j })))
              r)
              (three b.who.turn who.turn)

  fine_of : (q : ℕ) (gr : Grant) → IsIn gr (grants (calls s q (heard q H))) → (IsReading gr.mode → s.fine gr.key gr.row ≡ true) × (gr.mode ≡ Put → gr.row ≡ [])
  fine_of q gr i =
      let r = v.rule.rows (loaded_at s q) (calls s q (heard q H)) gr (obeys s q (heard q H) (g.fit q)) i in (
        (λ rd. ⊎_elim
            (λ l. v.fine gr.key gr.row (loaded_there s q gr.key gr.row l))
            (λ y. let m = yea_heard s q (heard q H) y.0 y.1 in prepared_fine s q y.0.who m.0 y.0.writes y.0.appends (heard q H) (g.fit q) m.1 (record { key = gr.key; row = gr.row }) y.2)
            (r.reads rd)),
        r.put,
      )

  fine_row : (q : ℕ) (key : Key) (row : Row) (gr : Grant) → IsIn gr (grants (calls s q (heard q H))) → gr.key ≡ key → gr.row ≡ row → IsIn (record { key = key; mode = gr.mode }) as' → FineRow s who key row
  fine_row q key row gr i ek er acc mode j =
      let m : gr.mode ≡ mode = same_mode key gr.mode mode as' (v.keys who.txn key) acc j in
      let f = fine_of q gr i in
      subst (λ (z : Key × Row × Mode). (IsReading z.2 → s.fine z.0 z.1 ≡ true) × (z.2 ≡ Put → z.1 ≡ [])) (λ k. (ek k, er k, m k)) f

  pub granted_fits : (x : Mail) (key : Key) (row : Row) (version : Number) (bound : ℕ) → IsIn x flight → x.msg ≡ Granted who key row version bound → Suits s x.to x.from (Granted who key row version bound) (heard x.to H)
  granted_fits x key row version bound i e =
      let pr = (looks s v H flight g who x (Granted who key row version bound) i e (λ y f. absurd (cc (f)))).1 in
      let one : 1 ≤ count (sent_to (home s who.txn) (is_answer who key)) flight = flies s v H flight g who (is_answer who key) (home s who.txn) x (Granted who key row version bound) i e pr.0 (itself_key key) in
      subst (λ z. Suits s z x.from (Granted who key row version bound) (heard z H)) (sym pr.0) (refl, sym pr.1, asking s v H flight g who key (answer_awaited s v H flight g who key one), fine)
    where
      fine : FineRow s who key row
      fine =
          ⊎_elim
          (λ o. let st = in_openings s x (numbers_below s.parts) o in absurd (cc (sym e ∙ st.1)))
          (λ f. let h = grant_made s v f.0 who key (heard f.0 H) (g.fit f.0) x row version bound e f.1 in fine_row f.0 key row h.0 h.1 h.3 h.5 h.4)
          (origin (says s) (opening s) H flight g.run x (inl i))

  pub prepare_fits : (x : Mail) (bound : Bound) (writes appends : List Keyed) → IsIn x flight → x.msg ≡ Prepare who bound writes appends → Suits s x.to x.from (Prepare who bound writes appends) (heard x.to H)
  prepare_fits x bound writes appends i e =
      let pr = (looks s v H flight g who x (Prepare who bound writes appends) i e (λ y f. absurd (cc (f)))).1 in
      let n' = prepare_now s v H flight g who x.to (flies s v H flight g who (is_prepare who) x.to x (Prepare who bound writes appends) i e refl (itself s v H flight g who)) in
      let ws : x.to ≡ x.to × (writes ≡ at_part s.parts x.to (written eff)) × (appends ≡ at_part s.parts x.to (appended eff)) = prepared pr.0 in (
        pr.0,
        record {
          short = short_at x.to;
          something = let a = parts_from s.parts x.to as' pr.1 in let h = granted_there s v H flight g who a.0.key a.0.mode a.1 n'.2 n'.3 in (h.0, subst (λ q. IsIn h.0 (grants (calls s q (heard q H)))) a.2 h.1, h.2);
          nowhere = λ b j f. nowhere n'.2 b j f;
          unrefused = λ r. ⊎_elim (λ f. true≢false (sym f ∙ n'.3)) (λ f. omega (arith, f.1.early, n'.2)) (refusal_at x.to r);
          opened = n'.1;
          unended = n'.0;
          small = subst SmallMsg e (sm.flying x i);
          held = λ w j.
              let a = pr.2 w j in
              let h = granted_there s v H flight g who w.key a.1.0 a.1.2 n'.2 n'.3 in
              (h.0, subst (λ q. IsIn h.0 (grants (calls s q (heard q H)))) a.0 h.1, h.2, h.3, subst IsWriting (sym h.4) a.1.1);
          distinct = subst Distinct (sym ws.1) (distinct_filter (λ k. eqb (partition_of k.key s.parts) x.to) (written eff) (v.distinct who.txn (reads_of as' replies)));
          distinct_appends = subst Distinct (sym ws.2) (distinct_filter (λ k. eqb (partition_of k.key s.parts) x.to) (appended eff) (v.distinct_appends who.txn (reads_of as' replies)));
          tables = λ w j. let k = filter_in (λ (k : Keyed). eqb (partition_of k.key s.parts) x.to) w (appended eff) (subst (IsIn w) ws.2 j) in let a = v.appends who.txn (reads_of as' replies) w k.0 in (a.0, a.1);
        },
        λ w j. let k = filter_in (λ (k : Keyed). eqb (partition_of k.key s.parts) x.to) w (written eff) (subst (IsIn w) ws.1 j) in v.effects who.txn replies w (all_came n'.2) fine k.0,
        λ w j. let k = filter_in (λ (k : Keyed). eqb (partition_of k.key s.parts) x.to) w (appended eff) (subst (IsIn w) ws.2 j) in (eqb_is (partition_of w.key s.parts) x.to k.1, v.fine_appends who.txn replies w (all_came n'.2) fine k.0),
      )
    where
      replies : List Reply
      replies = reverse (grants_for who (heard (home s who.txn) H))

      eff : Rattle.tpcc_rules.specs.declared.effects.Effect.Effect
      eff = effect_of s who.txn replies

      eqb_is : (a b : ℕ) → eqb a b ≡ true → a ≡ b
      eqb_is a b e = grind (arith, nat_tests)

      fine : FineReplies s as' replies
      fine = fine_home s (home s who.txn) who home' (g.fit (home s who.txn))

      all_came : n ≡ length as' → length replies ≡ length as'
      all_came h = length-reverse (grants_for who home') ∙ h

      nowhere : n ≡ length as' → (b : Asked) → IsIn b (waits (calls s x.to (heard x.to H))) → b.who ≢ who
      nowhere full b j f =
          let w = waits_here x.to b j f in
          let h = answers_heard s (home s who.txn) who b.key home' (g.fit (home s who.txn)) in
          let whole : keys_in b.key (take_first n as') ≡ keys_in b.key as' = ap (λ n. keys_in b.key (take_first n as')) full ∙ ap (keys_in b.key) (take_all as') in
          omega (arith, w.0, h, whole, answer_ledger s v H flight g who b.key, ask_ledger s v H flight g who b.key, keys_take b.key (suc n) as', at_most (started_for who home') (keys_in b.key (take_first (suc n) as')))
        where
          at_most : (b : Bool) (n : ℕ) → cond b n 0 ≤ n
          at_most true n = omega arith
          at_most false n = omega arith

      prepared : x.from ≡ home s who.txn → x.to ≡ x.to × (writes ≡ at_part s.parts x.to (written eff)) × (appends ≡ at_part s.parts x.to (appended eff))
      prepared fr =
          ⊎_elim
          (λ o. let st = in_openings s x (numbers_below s.parts) o in absurd (cc (sym e ∙ st.1)))
          (λ f.
          let p = proper_said s v f.0 (heard f.0 H) (g.fit f.0) x f.1 in
          let at : f.0 ≡ home s who.txn = sym p.0 ∙ fr in
          let d = prepare_said s v f.0 who (heard f.0 H) (g.fit f.0) x bound writes appends e f.1 in
          (refl, d.2 ∙ ap (λ p. at_part s.parts x.to (written (effect_of s who.txn (reverse (grants_for who (heard p H)))))) at, d.3 ∙ ap (λ p. at_part s.parts x.to (appended (effect_of s who.txn (reverse (grants_for who (heard p H)))))) at))
          (origin (says s) (opening s) H flight g.run x (inl i))

  pub commit_fits : (x : Mail) (number : Number) → IsIn x flight → x.msg ≡ Commit who number → Suits s x.to x.from (Commit who number) (heard x.to H)
  commit_fits x number i e =
      let pr = (looks s v H flight g who x (Commit who number) i e (λ y f. absurd (cc (f)))).1 in
      let c = commit_flies s v H flight g who x number (inl i) e in
      let w = window_there s v H flight g who number c.0 x.to c.1 in (
        pr,
        record {
          short = short_at x.to;
          unended = ended_now s v H flight g who x.to (flies s v H flight g who (is_end who) x.to x (Commit who number) i e refl (itself s v H flight g who));
          own = w.0;
          inside = w.1;
          small = subst SmallMsg e (sm.flying x i);
        },
      )

  -- the end of an attempt is said where it asked
  asked_there : (q : ℕ) → 1 ≤ cond (refused_for who home') (occurs q (asked_partitions s home' who)) 0 + cond (all_voted (votes_for who home') (participants s who)) (occurs q (participants s who)) 0 → (a : Asked) × IsIn a (asks (calls s q (heard q H))) × (a.who ≡ who)
  asked_there q h = go (refused_for who home') refl (all_voted (votes_for who home') (participants s who)) refl h
    where
      from : (k : Key) → partition_of k s.parts ≡ q → 1 ≤ count_msgs (is_answer who k) home' → (a : Asked) × IsIn a (asks (calls s q (heard q H))) × (a.who ≡ who)
      from k at one =
          let a = heard_ask s (partition_of k s.parts) who k (heard (partition_of k s.parts) H) (omega (arith, one, answer_ledger s v H flight g who k)) in
          (a.0, subst (λ p. IsIn a.0 (asks (calls s p (heard p H)))) at a.1, a.2)

      go : (b : Bool) → refused_for who home' ≡ b → (c : Bool) → all_voted (votes_for who home') (participants s who) ≡ c → 1 ≤ cond b (occurs q (asked_partitions s home' who)) 0 + cond c (occurs q (participants s who)) 0 → (a : Asked) × IsIn a (asks (calls s q (heard q H))) × (a.who ≡ who)
      go true eb c ec h =
          let ph = (phase s v H flight g who).refused eb in
          let lt : n < length as' = slice_some as' n ph.0 ph.1 in
          let later : cond c (occurs q (participants s who)) 0 ≡ 0 = subst (λ z. cond z (occurs q (participants s who)) 0 ≡ 0) ec (no_vote_yet s v H flight g who lt q) in
          let a = parts_from s.parts q (take_first (suc n) as') (occurs_in q (asked_partitions s home' who) (omega (arith, h, later))) in
          let more = keys_more a.0.key n as' in
          let w : count_msgs (is_answer who a.0.key) home' ≡ keys_in a.0.key (take_first n as') + key_in a.0.key (slice_get as' n)
          = answers_heard s (home s who.txn) who a.0.key home' (g.fit (home s who.txn)) ∙ ap (λ z. keys_in a.0.key (take_first n as') + cond z (key_in a.0.key (slice_get as' n)) 0) eb in
          from a.0.key a.2 (omega (arith, w, more, key_there a.0.key a.0.mode (take_first (suc n) as') a.1))
      go false eb true ec h =
          let i = occurs_in q (participants s who) (omega (arith, h)) in
          let a = parts_from s.parts q as' i in
          let full : n ≡ length as' = voted_full ec q i in
          let w = answers_heard s (home s who.txn) who a.0.key home' (g.fit (home s who.txn)) in
          let whole : keys_in a.0.key (take_first n as') ≡ keys_in a.0.key as' = ap (λ n. keys_in a.0.key (take_first n as')) full ∙ ap (keys_in a.0.key) (take_all as') in
          from a.0.key a.2 (omega (arith, w, whole, key_there a.0.key a.0.mode as' a.1))
        where
          voted_full : all_voted (votes_for who home') (participants s who) ≡ true → (q : ℕ) → IsIn q (participants s who) → n ≡ length as'
          voted_full e q i = ((phase s v H flight g who).voted q (voted_in (votes_for who home') (participants s who) q e i)).0.2
      go false eb false ec h = absurd (omega (arith, h))

  pub abort_fits : (x : Mail) → IsIn x flight → x.msg ≡ Abort who → Suits s x.to x.from (Abort who) (heard x.to H)
  abort_fits x i e =
      let pr = (looks s v H flight g who x (Abort who) i e (λ y f. absurd (cc (f)))).1 in
      let one = flies s v H flight g who (is_end who) x.to x (Abort who) i e refl (itself s v H flight g who) in
      let ab = abort_flies s v H flight g who x (inl i) e in (
        pr,
        record {
          short = short_at x.to;
          asked = asked_there x.to (omega (arith, one, end_ledger s v H flight g who x.to));
          nowhere = λ b j f. let w = waits_awaited x.to b j f in aborted_late ab w.0.unrefused w.0.early;
          unended = ended_now s v H flight g who x.to one;
        },
      )

-- the stamps of asks that were handled
module _ (s : Setting) (v : Valid s) (H : List Entry) (flight : List Mail) (g : Good s H flight) where
  asks' : (p : ℕ) (ms : List Msg) (who : Attempt) (st : ℕ) (k : Key) (a : Mode) → IsIn (Ask who st k a) ms → IsIn (record { who = who; stamp = st; key = k; mode = a }) (asks (calls s p ms))
  asks' p [] who st k a i = absurd i
  asks' p (Ask x t q m ∷ ms) who st k a i =
      ⊎_elim
      (λ (e : Ask who st k a ≡ Ask x t q m). let a1 : who ≡ x = cc in let a2 : st ≡ t = cc in let a3 : k ≡ q = cc in let a4 : a ≡ m = cc in inl (λ j. record { who = a1 j; stamp = a2 j; key = a3 j; mode = a4 j }))
      (λ r. inr (asks' p ms who st k a r))
      i
  asks' p (Start x ∷ ms) who st k a i = asks' p ms who st k a (⊎_elim (λ e. absurd (cc (e))) (λ r. r) i)
  asks' p (m ∷ ms) who st k a i = asks' p ms who st k a (⊎_elim (λ e. absurd (cc (e))) (λ r. r) i)

  heard_asker : (p : ℕ) (who : Attempt) (st : ℕ) (k : Key) (a : Mode) → IsIn (Ask who st k a) (heard p H) → IsAsker s v H flight g who st
  heard_asker p who st k a i = asker s v H flight g p (record { who = who; stamp = st; key = k; mode = a }) (asks' p (heard p H) who st k a i)

  pub one_stamp : (who : Attempt) (p q m n : ℕ) (k l : Key) (a b : Mode) → IsIn (Ask who m k a) (heard p H) → IsIn (Ask who n l b) (heard q H) → m ≡ n
  one_stamp who p q m n k l a b i j = (heard_asker p who m k a i).1 ∙ sym (heard_asker q who n l b j).1

  pub stamp_positive : (who : Attempt) (p m : ℕ) (k : Key) (a : Mode) → IsIn (Ask who m k a) (heard p H) → 1 ≤ m
  stamp_positive who p m k a i =
      let ak = heard_asker p who m k a i in
      let c = stamp_is s (home s who.txn) (stamped s who) (heard (home s who.txn) H) (stamped_takes s (home s who.txn) who) (stamped_started s (home s who.txn) who (heard (home s who.txn) H) (g.fit (home s who.txn)) ak.0) in
      omega (arith, ak.1, c.2)

  pub stamps_apart : (x y : Attempt) (p q m n : ℕ) (k l : Key) (a b : Mode) → IsIn (Ask x m k a) (heard p H) → IsIn (Ask y n l b) (heard q H) → x.txn ≢ y.txn → m ≢ n
  stamps_apart x y p q m n k l a b i j ne = apart s v H flight g x y m n (heard_asker p x m k a i) (heard_asker q y n l b j) ne
