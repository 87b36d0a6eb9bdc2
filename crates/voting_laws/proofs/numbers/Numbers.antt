-- Each entry raises the numbers of a run by at most the span and twice the partitions.
use Rattle.std.proofs.Common.{◌≡◌, ◌≢◌, ◌⊎◌, ℕ, suc, ◌+◌, ◌*◌, ◌/◌, ◌<◌, ◌≤◌, ◌^◌, max, ltb, leb, List, [], ◌∷◌, ◌++◌, length, reverse, slice_get, Bool, true, false, cond, not, ◌||◌, eqb, refl, sym, ap, subst, inl, inr, ⊎_elim, arith, Option, Some, None, true≢false}
use Rattle.std.proofs.lemmas.List.{reverse-append}
use Rattle.std.proofs.lemmas.Bool.Decides.{nat_tests, eqb_tells}
use Rattle.deneva_base.specs.declared.numbers.TxnId.{TxnId}
use Rattle.deneva_base.specs.declared.numbers.Attempt.{Attempt}
use Rattle.deneva_base.specs.Lists.{IsIn}
use Rattle.deneva_base.specs.Keys.{attempt_eq}
use Rattle.deneva_base.specs.declared.causes.Cause.{Cause}
use Rattle.deneva_base.specs.declared.causes.Cause.TheVariants.{Held, Younger, Written, ReadLater, EmptyRange, Apart, Trimmed}
use Rattle.deneva_base.specs.declared.answers.Answer.{Answer}
use Rattle.deneva_base.specs.declared.answers.Answer.TheVariants.{Granted as Gives, Waits, Refused as Refuses}
use Rattle.deneva_base.specs.declared.answers.Vote.{Vote}
use Rattle.deneva_base.specs.declared.answers.Vote.TheVariants.{Yes as VotesYes, No as VotesNo}
use Rattle.deneva_base.specs.declared.answers.Wake.{Wake}
use Rattle.deneva_base.specs.declared.causes.Bound.{Bound}
use Rattle.protocol_rules.specs.History.{Ask as Asked, Prepare as Prepared, Commit as Committed, Abort as Aborted, History}
use Rattle.deneva_base.proofs.Membership.{in_left, in_right, in_cases, attempt_tells}
use Rattle.server_core.specs.declared.messages.Msg.{Msg}
use Rattle.server_core.specs.declared.messages.Msg.TheVariants.{Start, Ask, Granted, Refused, Prepare, Yes, No, Commit, Abort, Done, Undone, Finished}
use Rattle.server_core.specs.declared.messages.Mail.{Mail}
use Rattle.server_core.specs.declared.messages.Entry.{Entry}
use Rattle.server_core.specs.Setting.{Setting, homes, loaded_at, rule_at, participants}
use Rattle.deneva_base.specs.declared.keys.Access.{Access}
use Rattle.server_core.specs.Received.{Reply, grants_for, votes_for, started_for, all_voted, all_closed, closes_for}
use Rattle.server_core.specs.declared.ballots.Ballot.{Ballot}
use Rattle.txn_program.specs.Transactions.{numbers_below}
use Rattle.deneva_base.specs.Partitions.{partition_of}
use Rattle.server_core.specs.Stamps.{raised, counter, stamped, stamp_from}
use Rattle.server_core.specs.Coordinator.{first_no, greatest_lo, least_hi, decision, to_all, polled, told, asked_partitions, overs, next_start, mail_start, next_ask, prepare_to, bound_of, greatest_bound, effect_of, coordinator}
use Rattle.server_core.specs.Participant.{calls, participant, answer_mails, vote_mail, mail_home, wake_mails}
use Rattle.server_core.specs.Voting.{says}
use Rattle.server_core.specs.VotingFits.{Suits, AllFit}
use Rattle.server_core.specs.Small.{SmallMsg, SmallCause}
use Rattle.server_core.specs.Proper.{Valid}
use Rattle.protocol_rules.specs.Growth.{CauseUnder, AnswerUnder, VoteUnder, WakesUnder, HistoryUnder, Grows}
use Rattle.server_core.specs.Limits.{MsgUnder, Limits, most_events}
use Rattle.server_core.specs.Runs.{heard}
use Rattle.server_core.specs.VotingRuns.{IsRun, Small}
use Rattle.server_core.proofs.values.Origins.{in_map}
use Rattle.server_core.proofs.values.Called.{obeys}
use Rattle.server_core.proofs.lists.Parts.{home_below}
use Rattle.voting_laws.proofs.fits.Stamps.{takes, stamp_is, stamped_started, stamped_takes}
use Rattle.voting_laws.proofs.fits.Account.{Good, in_openings}
use Rattle.voting_laws.proofs.fits.Every.{good_start, good_more}
use Rattle.voting_laws.proofs.numbers.Events.{run_short}

cause_more : (b c : ℕ) (d : Cause) → b ≤ c → CauseUnder b d → CauseUnder c d
cause_more b c (Held k by) h u = tt
cause_more b c (Younger k by age) h u = omega (arith, h, u)
cause_more b c (Written k st) h u = omega (arith, h, u)
cause_more b c (ReadLater k st) h u = omega (arith, h, u)
cause_more b c (EmptyRange lo k hi by) h u = (omega (arith, h, u.0), omega (arith, h, u.1))
cause_more b c (Apart lo lp hi hp) h u = (omega (arith, h, u.0), omega (arith, h, u.1))
cause_more b c (Trimmed k f) h u = omega (arith, h, u)

msg_more : (b c : ℕ) (m : Msg) → b ≤ c → MsgUnder b m → MsgUnder c m
msg_more b c (Ask x st k m) h u = omega (arith, h, u)
msg_more b c (Granted x k r n bd) h u = (omega (arith, h, u.0), omega (arith, h, u.1))
msg_more b c (Refused x k d) h u = cause_more b c d h u
msg_more b c (Prepare x bd w a) h u = omega (arith, h, u)
msg_more b c (Yes x part lo hi) h u = omega (arith, h, u)
msg_more b c (No x part d) h u = cause_more b c d h u
msg_more b c (Commit x n) h u = omega (arith, h, u)
msg_more b c (Finished x q n) h u = omega (arith, h, u)
msg_more b c (Start x) h u = tt
msg_more b c m h u = tt

vote_more : (b c : ℕ) (v : Vote) → b ≤ c → VoteUnder b v → VoteUnder c v
vote_more b c (VotesYes lo hi) h u = omega (arith, h, u)
vote_more b c (VotesNo d) h u = cause_more b c d h u

history_more : (b c : ℕ) (h : History) → b ≤ c → HistoryUnder b h → HistoryUnder c h
history_more b c [] l u = tt
history_more b c (Asked x st k m a ∷ h) l u = (omega (arith, l, u.0), history_more b c h l u.1)
history_more b c (Prepared x bd w a v ∷ h) l u = (omega (arith, l, u.0), vote_more b c v l u.1, history_more b c h l u.2)
history_more b c (Committed x n w ∷ h) l u = (omega (arith, l, u.0), history_more b c h l u.1)
history_more b c (Aborted x w ∷ h) l u = history_more b c h l u

-- the bounds of the replies, and the lower ends of the votes
bounds_under : (b : ℕ) (who : Attempt) (ms : List Msg) → ((m : Msg) → IsIn m ms → MsgUnder b m) → (r : Reply) → IsIn r (grants_for who ms) → r.bound ≤ b
bounds_under b who [] u r i = absurd i
bounds_under b who (Granted x k row n bd ∷ ms) u r i =
    ⊎_elim
    (λ t. ⊎_elim (λ (e : r ≡ record { row = row; bound = bd; key = k }). omega (arith, (u (Granted x k row n bd) (inl refl)).1, ap (λ (z : Reply). z.bound) e)) (λ j. bounds_under b who ms (λ m k. u m (inr k)) r j) (rw t.0 at i))
    (λ t. bounds_under b who ms (λ m k. u m (inr k)) r (rw t.0 at i))
    (attempt_tells x who)
bounds_under b who (m ∷ ms) u r i = bounds_under b who ms (λ m k. u m (inr k)) r i

pub votes_under : (b : ℕ) (who : Attempt) (ms : List Msg) → ((m : Msg) → IsIn m ms → MsgUnder b m) → greatest_lo (votes_for who ms) ≤ b
votes_under b who [] u = omega arith
votes_under b who (Yes x part lo hi ∷ ms) u = let ih = votes_under b who ms (λ m k. u m (inr k)) in ⊎_elim (λ t. rw t.0 (omega (arith, ih, u (Yes x part lo hi) (inl refl)))) (λ t. rw t.0 ih) (attempt_tells x who)
votes_under b who (No x part c ∷ ms) u = let ih = votes_under b who ms (λ m k. u m (inr k)) in ⊎_elim (λ t. rw t.0 (omega (arith, ih))) (λ t. rw t.0 ih) (attempt_tells x who)
votes_under b who (m ∷ ms) u = votes_under b who ms (λ m k. u m (inr k))

in_reverse : {A : Type 0} (x : A) (xs : List A) → IsIn x (reverse xs) → IsIn x xs
in_reverse x [] i = i
in_reverse x (y ∷ ys) i = ⊎_elim (λ a. inr (in_reverse x ys a)) (λ c. ⊎_elim (λ e. inl e) (λ n. absurd n) c) (in_cases x (reverse ys) (y ∷ []) (subst (λ l. IsIn x l) (reverse-append (y ∷ []) ys) i))

greatest_under : (b : ℕ) (bd : Bound) (rs : List Reply) → bd.n ≤ b → ((r : Reply) → IsIn r rs → r.bound ≤ b) → (greatest_bound bd rs).n ≤ b
greatest_under b bd [] h u = h
greatest_under b bd (r ∷ rs) h u = greatest_under b (cond (ltb bd.n r.bound) (record { n = r.bound; key = r.key }) bd) rs (go (ltb bd.n r.bound)) (λ q i. u q (inr i))
  where
    go : (t : Bool) → (cond t (record { n = r.bound; key = r.key }) bd).n ≤ b
    go true = u r (inl refl)
    go false = h

bound_under : (b : ℕ) (rs : List Reply) → ((r : Reply) → IsIn r rs → r.bound ≤ b) → (bound_of rs).n ≤ b
bound_under b [] u = omega arith
bound_under b (r ∷ rs) u = greatest_under b (record { n = r.bound; key = r.key }) rs (u r (inl refl)) (λ q i. u q (inr i))

-- the stamp of a started attempt is under the counter
stamp_under : (s : Setting) (p : ℕ) (who : Attempt) (ms : List Msg) → p < s.parts → takes s who ≡ true → started_for who ms ≡ true → stamp_from s p ms who ≤ counter s ms * s.parts
stamp_under s p who ms lt t e =
    let n = stamp_is s p who ms t e in
    less n.0 (counter s ms) s.parts p (stamp_from s p ms who) n.1 lt n.2
  where
    less : (c d k p st : ℕ) → c < d → p < k → st ≡ c * k + p + 1 → st ≤ d * k
    less c d k p st h lp e = let f : suc c * k ≤ d * k = mono (suc c) d k h in omega (arith, f, e, lp, times c k)
      where
        mono : (a b k : ℕ) → a ≤ b → a * k ≤ b * k
        mono a b k h = grind (arith, h)

        times : (c k : ℕ) → suc c * k ≡ c * k + k
        times c k = grind arith

-- the counter after one more message
counter_under : (s : Setting) (b : ℕ) (m : Msg) (ms : List Msg) → 1 ≤ s.parts → MsgUnder b m → counter s ms * s.parts ≤ b → counter s (m ∷ ms) * s.parts ≤ b + s.parts
counter_under s b (Start x) ms one u h = go (eqb x.turn 1 || not s.fixed)
  where
    times : (c k : ℕ) → suc c * k ≡ c * k + k
    times c k = grind arith

    go : (t : Bool) → cond t (suc (counter s ms)) (counter s ms) * s.parts ≤ b + s.parts
    go true = omega (arith, h, times (counter s ms) s.parts)
    go false = omega (arith, h)
counter_under s b (Refused x k c) ms one u h = raise c u
  where
    over : (n st k : ℕ) → 1 ≤ k → n * k ≤ b → st ≤ b → max n (st / k + 1) * k ≤ b + k
    over n st k one h l = ⊎_elim (λ e. subst (λ z. z * k ≤ b + k) (sym e) (omega (arith, h))) (λ e. subst (λ z. z * k ≤ b + k) (sym e) (div st k one l)) (either n (st / k + 1))
      where
        either : (a c : ℕ) → (max a c ≡ a) ⊎ (max a c ≡ c)
        either a c = grind arith

        div : (st k : ℕ) → 1 ≤ k → st ≤ b → (st / k + 1) * k ≤ b + k
        div st k one l = omega (arith, l, under st k one, times (st / k) k)
          where
            times : (c k : ℕ) → (c + 1) * k ≡ c * k + k
            times c k = grind arith

            under : (st k : ℕ) → 1 ≤ k → (st / k) * k ≤ st
            under st k one = grind (arith, one)

    raise : (c : Cause) → CauseUnder b c → raised s.parts (counter s ms) c * s.parts ≤ b + s.parts
    raise (Written k st) u = over (counter s ms) st s.parts one h u
    raise (ReadLater k st) u = over (counter s ms) st s.parts one h u
    raise (Trimmed k st) u = over (counter s ms) st s.parts one h u
    raise (Held k by) u = omega (arith, h)
    raise (Younger k by age) u = omega (arith, h)
    raise (EmptyRange lo k hi by) u = omega (arith, h)
    raise (Apart lo lp hi hp) u = omega (arith, h)
counter_under s b (Ask x st k m) ms one u h = omega (arith, h)
counter_under s b m ms one u h = omega (arith, h)

module _ (s : Setting) (v : Valid s) (span : ℕ) (gr : Grows s.rule span) (p : ℕ) (b : ℕ) where
  abbrev top : ℕ
  top = b + (span + 2 * s.parts)

  under_at : (x m : Mail) → x ≡ m → MsgUnder top m.msg → MsgUnder top x.msg
  under_at x m e h = subst (λ (z : Mail). MsgUnder top z.msg) (sym e) h

  next_under : (who : Attempt) (stamp : ℕ) (rs : List Reply) (o : Option Access) → stamp ≤ top → ((r : Reply) → IsIn r rs → r.bound ≤ b) → (x : Mail) → IsIn x (next_ask s p who stamp rs o) → MsgUnder top x.msg
  next_under who stamp rs (Some a) h u x i = ⊎_elim (λ e. under_at x (record { from = p; to = partition_of a.key s.parts; msg = Ask who stamp a.key a.mode }) e h) (λ n. absurd n) i
  next_under who stamp rs None h u x i =
      let n = in_map (prepare_to s p who (bound_of rs) (effect_of s who.txn rs)) x (participants s who) i in
      under_at x (prepare_to s p who (bound_of rs) (effect_of s who.txn rs) n.0) n.2 (omega (arith, bound_under b rs u))

  start_under : (o : Option TxnId) (x : Mail) → IsIn x (mail_start p o) → MsgUnder top x.msg
  start_under None x i = absurd i
  start_under (Some y) x i = ⊎_elim (λ e. under_at x (record { from = p; to = p; msg = Start (record { txn = y; turn = 1 }) }) e tt) (λ n. absurd n) i

  all_under : (m : Msg) (qs : List ℕ) → MsgUnder top m → (x : Mail) → IsIn x (to_all p m qs) → MsgUnder top x.msg
  all_under m qs h x i = let n = in_map (λ q. record { from = p; to = q; msg = m }) x qs i in under_at x (record { from = p; to = n.0; msg = m }) n.2 h

  polled_under : (who : Attempt) (bs : List Ballot) → greatest_lo bs ≤ b → (x : Mail) → IsIn x (polled s p who bs) → MsgUnder top x.msg
  polled_under who bs h x i = go (all_voted bs (participants s who)) i
    where
      decided : (o : Option (ℕ × Cause)) → MsgUnder top (decision who bs o)
      decided (Some c) = tt
      decided None = either (leb (greatest_lo bs) (least_hi bs))
        where
          either : (t : Bool) → MsgUnder top (cond t (Commit who (record { n = greatest_lo bs; id = who.txn })) (Abort who))
          either true = omega (arith, h)
          either false = tt

      go : (t : Bool) → IsIn x (cond t (to_all p (decision who bs (first_no None bs)) (participants s who)) []) → MsgUnder top x.msg
      go true i = all_under (decision who bs (first_no None bs)) (participants s who) (decided (first_no None bs)) x i
      go false i = absurd i

  coordinator_under : (m : Msg) (ms : List Msg) (f : ℕ) → AllFit s p ms → Suits s p f m ms → ((y : Msg) → IsIn y (m ∷ ms) → MsgUnder b y) → counter s ms * s.parts ≤ b → (x : Mail) → IsIn x (coordinator s p m ms) → MsgUnder top x.msg
  coordinator_under (Start who) ms f all fit u c x i =
      let lt : p < s.parts = subst (λ q. q < s.parts) (sym fit.1) (home_below s v.parts who.txn) in
      let st : stamp_from s p (Start who ∷ ms) (stamped s who) ≤ counter s (Start who ∷ ms) * s.parts = stamp_under s p (stamped s who) (Start who ∷ ms) lt (stamped_takes s p who) (stamped_started s p who (Start who ∷ ms) ((f, fit), all) (now (attempt_eq who who) (started_for who ms) (self who))) in
      next_under who (stamp_from s p (Start who ∷ ms) (stamped s who)) [] (slice_get (s.accesses who.txn) 0) (omega (arith, st, counter_under s b (Start who) ms v.parts tt c)) (λ r j. absurd j) x i
    where
      self : (x : Attempt) → attempt_eq x x ≡ true
      self x = ⊎_elim (λ t. t.0) (λ f. absurd (f.1 refl)) (attempt_tells x x)

      now : (a b : Bool) → a ≡ true → (a || b) ≡ true
      now true b e = refl
      now false b e = absurd (true≢false (sym e))
  coordinator_under (Granted who k row n bd) ms f all fit u c x i =
      let lt : p < s.parts = subst (λ q. q < s.parts) (sym fit.0) (home_below s v.parts who.txn) in
      let st = stamp_under s p (stamped s who) ms lt (stamped_takes s p who) (stamped_started s p who ms all fit.2.1.0) in
      next_under who (stamp_from s p ms (stamped s who)) (reverse (record { row = row; bound = bd; key = k } ∷ grants_for who ms)) (slice_get (s.accesses who.txn) (suc (length (grants_for who ms)))) (omega (arith, st, c))
      (λ r j. ⊎_elim (λ (e : r ≡ record { row = row; bound = bd; key = k }). omega (arith, (u (Granted who k row n bd) (inl refl)).1, ap (λ (z : Reply). z.bound) e)) (λ j'. bounds_under b who ms (λ y j. u y (inr j)) r j') (in_reverse r (record { row = row; bound = bd; key = k } ∷ grants_for who ms) j))
      x i
  coordinator_under (Refused who k d) ms f all fit u c x i = all_under (Abort who) (asked_partitions s ms who) tt x i
  coordinator_under (Yes who part lo hi) ms f all fit u c x i = polled_under who (record { part = part; vote = VotesYes lo hi } ∷ votes_for who ms) (omega (arith, u (Yes who part lo hi) (inl refl), votes_under b who ms (λ y j. u y (inr j)))) x i
  coordinator_under (No who part d) ms f all fit u c x i = polled_under who (record { part = part; vote = VotesNo d } ∷ votes_for who ms) (omega (arith, votes_under b who ms (λ y j. u y (inr j)))) x i
  coordinator_under (Done who part) ms f all fit u c x i = go (all_closed (part ∷ closes_for who ms) (told s ms who)) i
    where
      go : (t : Bool) → IsIn x (cond t (next_start s p (overs s ms)) []) → MsgUnder top x.msg
      go true i = start_under (slice_get (homes s p) (s.limit + overs s ms)) x i
      go false i = absurd i
  coordinator_under (Undone who part) ms f all fit u c x i = go (all_closed (part ∷ closes_for who ms) (told s ms who)) (ltb who.turn s.attempts) i
    where
      again : Mail
      again = record { from = p; to = p; msg = Start (record { txn = who.txn; turn = suc who.turn }) }

      go : (t w : Bool) → IsIn x (cond t (cond w (again ∷ []) (next_start s p (overs s ms))) []) → MsgUnder top x.msg
      go true true i = ⊎_elim (λ e. under_at x again e tt) (λ n. absurd n) i
      go true false i = start_under (slice_get (homes s p) (s.limit + overs s ms)) x i
      go false w i = absurd i
  coordinator_under (Ask who st k m) ms f all fit u c x i = absurd i
  coordinator_under m ms f all fit u c x i = absurd i

  wakes_under : (ws : List Wake) → WakesUnder (b + span) ws → (x : Mail) → IsIn x (wake_mails s p ws) → MsgUnder top x.msg
  wakes_under ws h x i =
      let n = in_map (λ w. mail_home s p w.who (Granted w.who w.key w.row w.version w.bound)) x ws i in
      let u = h n.0 n.1 in
      under_at x (mail_home s p n.0.who (Granted n.0.who n.0.key n.0.row n.0.version n.0.bound)) n.2 (omega (arith, u.0), omega (arith, u.1))

  participant_under : (m : Msg) (ms : List Msg) (f : ℕ) → AllFit s p ms → Suits s p f m ms → MsgUnder b m → HistoryUnder b (calls s p ms) → (x : Mail) → IsIn x (participant s p m ms) → MsgUnder top x.msg
  participant_under (Ask who st k m) ms f all fit u h x i = answered ((rule_at s p).ask (calls s p ms) who st k m) (gr.ask (loaded_at s p) (calls s p ms) b who st k m (obeys s p ms all) h fit.3 u) i
    where
      answered : (a : Answer) → AnswerUnder (b + span) a → IsIn x (answer_mails s p who k a) → MsgUnder top x.msg
      answered (Gives r n bd) w i = ⊎_elim (λ e. under_at x (mail_home s p who (Granted who k r n bd)) e (omega (arith, w.0), omega (arith, w.1))) (λ n. absurd n) i
      answered Waits w i = absurd i
      answered (Refuses c) w i = ⊎_elim (λ e. under_at x (mail_home s p who (Refused who k c)) e (cause_more (b + span) top c (omega arith) w)) (λ n. absurd n) i
  participant_under (Prepare who bd w a) ms f all fit u h x i = voted ((rule_at s p).vote (calls s p ms) who bd w a) (gr.vote (loaded_at s p) (calls s p ms) b who bd w a (obeys s p ms all) h fit.1 u) i
    where
      voted : (o : Vote) → VoteUnder (b + span) o → IsIn x (vote_mail s p who o ∷ []) → MsgUnder top x.msg
      voted (VotesYes lo hi) w i = ⊎_elim (λ e. under_at x (mail_home s p who (Yes who p lo hi)) e (omega (arith, w))) (λ n. absurd n) i
      voted (VotesNo c) w i = ⊎_elim (λ e. under_at x (mail_home s p who (No who p c)) e (cause_more (b + span) top c (omega arith) w)) (λ n. absurd n) i
  participant_under (Commit who n) ms f all fit u h x i =
      ⊎_elim
      (λ e. under_at x (mail_home s p who (Done who p)) e tt)
      (λ w. wakes_under ((rule_at s p).commit (calls s p ms) who n) (gr.commit (loaded_at s p) (calls s p ms) b who n (obeys s p ms all) h fit.1 u) x w)
      i
  participant_under (Abort who) ms f all fit u h x i =
      ⊎_elim
      (λ e. under_at x (mail_home s p who (Undone who p)) e tt)
      (λ w. wakes_under ((rule_at s p).abort (calls s p ms) who) (gr.abort (loaded_at s p) (calls s p ms) b who (obeys s p ms all) h fit.1) x w)
      i
  participant_under (Start who) ms f all fit u h x i = absurd i
  participant_under m ms f all fit u h x i = absurd i

  history_under : (m : Msg) (ms : List Msg) (f : ℕ) → AllFit s p ms → Suits s p f m ms → MsgUnder b m → HistoryUnder b (calls s p ms) → HistoryUnder top (calls s p (m ∷ ms))
  history_under (Ask who st k m) ms f all fit u h = (omega (arith, u), history_more b top (calls s p ms) (omega arith) h)
  history_under (Prepare who bd w a) ms f all fit u h = (omega (arith, u), vote_more (b + span) top ((rule_at s p).vote (calls s p ms) who bd w a) (omega arith) (gr.vote (loaded_at s p) (calls s p ms) b who bd w a (obeys s p ms all) h fit.1 u), history_more b top (calls s p ms) (omega arith) h)
  history_under (Commit who n) ms f all fit u h = (omega (arith, u), history_more b top (calls s p ms) (omega arith) h)
  history_under (Abort who) ms f all fit u h = history_more b top (calls s p ms) (omega arith) h
  history_under (Start who) ms f all fit u h = history_more b top (calls s p ms) (omega arith) h
  history_under m ms f all fit u h = history_more b top (calls s p ms) (omega arith) h

-- all numbers of a run up to b
pub record Under (s : Setting) (H : List Entry) (flight : List Mail) (b : ℕ) : Type 0 where
  pub flying : (x : Mail) → IsIn x flight → MsgUnder b x.msg
  pub handled : (p : ℕ) (m : Msg) → IsIn m (heard p H) → MsgUnder b m
  pub counters : (p : ℕ) → counter s (heard p H) * s.parts ≤ b
  pub histories : (p : ℕ) → HistoryUnder b (calls s p (heard p H))

lt : (a b c : ℕ) → a ≤ b → b < c → a < c
lt a b c h l = omega (arith, h, l)

small_cause : (b : ℕ) (d : Cause) → b < 2 ^ 48 → CauseUnder b d → SmallCause d
small_cause b (Held k by) h u = tt
small_cause b (Younger k by age) h u = lt age b (2 ^ 48) u h
small_cause b (Written k st) h u = lt st b (2 ^ 48) u h
small_cause b (ReadLater k st) h u = lt st b (2 ^ 48) u h
small_cause b (EmptyRange lo k hi by) h u = (lt lo b (2 ^ 48) u.0 h, lt hi b (2 ^ 48) u.1 h)
small_cause b (Apart lo lp hi hp) h u = (lt lo b (2 ^ 48) u.0 h, lt hi b (2 ^ 48) u.1 h)
small_cause b (Trimmed k f) h u = lt f b (2 ^ 48) u h

small_msg : (b : ℕ) (m : Msg) → b < 2 ^ 48 → MsgUnder b m → SmallMsg m
small_msg b (Ask x st k m) h u = lt st b (2 ^ 48) u h
small_msg b (Granted x k r n bd) h u = (lt n.n b (2 ^ 48) u.0 h, lt bd b (2 ^ 48) u.1 h)
small_msg b (Refused x k d) h u = small_cause b d h u
small_msg b (Prepare x bd w a) h u = lt bd.n b (2 ^ 48) u h
small_msg b (Yes x part lo hi) h u = lt lo b (2 ^ 48) u h
small_msg b (No x part d) h u = small_cause b d h u
small_msg b (Commit x n) h u = lt n.n b (2 ^ 48) u h
small_msg b (Finished x q n) h u = lt n.n b (2 ^ 48) u h
small_msg b (Start x) h u = tt
small_msg b m h u = tt

entry_in : (H : List Entry) (e : Entry) → IsIn e H → IsIn e.msg (heard e.node H)
entry_in [] e i = absurd i
entry_in (x ∷ H) e i =
    ⊎_elim
    (λ (is : e ≡ x). subst (λ (y : Entry). IsIn y.msg (heard y.node (x ∷ H))) (sym is) (subst (λ b. IsIn x.msg (cond b (x.msg ∷ heard x.node H) (heard x.node H))) (sym (same x.node)) (inl refl)))
    (λ r. go (eqb x.node e.node) (entry_in H e r))
    i
  where
    same : (n : ℕ) → eqb n n ≡ true
    same n = grind (arith, nat_tests)

    go : (b : Bool) → IsIn e.msg (heard e.node H) → IsIn e.msg (cond b (x.msg ∷ heard e.node H) (heard e.node H))
    go true j = inr j
    go false j = j

module _ (s : Setting) (v : Valid s) (span : ℕ) (gr : Grows s.rule span) where
  abbrev step' : ℕ
  step' = span + 2 * s.parts

  under_more : (e : Entry) (H : List Entry) (flight : List Mail) (run : IsRun s (e ∷ H) flight) (b : ℕ) → Good s (e ∷ H) flight → Under s H run.0 b → Under s (e ∷ H) flight (b + step')
  under_more e H flight run b g u = record {
    flying = λ x i.
        ⊎_elim
        (λ l. msg_more b (b + step') x.msg (omega arith) (u.flying x (subst (λ l. IsIn x l) (sym run.3.stood) (⊎_elim (λ a. in_left x run.3.front (m ∷ run.3.back) a) (λ c. in_right x run.3.front (m ∷ run.3.back) (inr c)) (in_cases x run.3.front run.3.back l)))))
        (λ n.
        let n' : IsIn x (says s e.node (e.msg ∷ heard e.node H)) = subst (λ (y : Entry). IsIn x (says s y.node (y.msg ∷ heard y.node H))) (sym run.2) n in
        ⊎_elim
        (λ c. coordinator_under s v span gr e.node b e.msg (heard e.node H) here.0.0 here.1 here.0.1 all (u.counters e.node) x c)
        (λ d. participant_under s v span gr e.node b e.msg (heard e.node H) here.0.0 here.1 here.0.1 new (u.histories e.node) x d)
        (in_cases x (coordinator s e.node e.msg (heard e.node H)) (participant s e.node e.msg (heard e.node H)) n'))
        (in_cases x (run.3.front ++ run.3.back) (says s m.to (m.msg ∷ heard m.to H)) (subst (λ l. IsIn x l) run.3.left i));
    handled = λ p y i. msg_more b (b + step') y (omega arith) (handled p y (eqb e.node p) i);
    counters = λ p. ⊎_elim
        (λ (t : (eqb e.node p ≡ true) × (e.node ≡ p)). subst (λ z. counter s (cond z (e.msg ∷ heard p H) (heard p H)) * s.parts ≤ b + step') (sym t.0) (omega (arith, counter_under s b e.msg (heard p H) v.parts new (u.counters p))))
        (λ (t : (eqb e.node p ≡ false) × (e.node ≢ p)). subst (λ z. counter s (cond z (e.msg ∷ heard p H) (heard p H)) * s.parts ≤ b + step') (sym t.0) (omega (arith, u.counters p)))
        (eqb_tells e.node p);
    histories = λ p. ⊎_elim
        (λ (t : (eqb e.node p ≡ true) × (e.node ≡ p)).
        subst (λ z. HistoryUnder (b + step') (calls s p (cond z (e.msg ∷ heard p H) (heard p H)))) (sym t.0)
        (subst (λ q. HistoryUnder (b + step') (calls s q (e.msg ∷ heard q H))) t.1 (history_under s v span gr e.node b e.msg (heard e.node H) here.0.0 here.1 here.0.1 new (u.histories e.node))))
        (λ (t : (eqb e.node p ≡ false) × (e.node ≢ p)). subst (λ z. HistoryUnder (b + step') (calls s p (cond z (e.msg ∷ heard p H) (heard p H)))) (sym t.0) (history_more b (b + step') (calls s p (heard p H)) (omega arith) (u.histories p)))
        (eqb_tells e.node p);
  }
    where
      m : Mail
      m = run.1

      same : (n : ℕ) → eqb n n ≡ true
      same n = grind (arith, nat_tests)

      here : AllFit s e.node (e.msg ∷ heard e.node H)
      here = subst (λ z. AllFit s e.node (cond z (e.msg ∷ heard e.node H) (heard e.node H))) (same e.node) (g.fit e.node)

      new : MsgUnder b e.msg
      new = subst (MsgUnder b) (sym (ap (λ (y : Entry). y.msg) run.2)) (u.flying m (subst (λ l. IsIn m l) (sym run.3.stood) (in_right m run.3.front (m ∷ run.3.back) (inl refl))))

      all : (y : Msg) → IsIn y (e.msg ∷ heard e.node H) → MsgUnder b y
      all y i = ⊎_elim (λ f. subst (MsgUnder b) (sym f) new) (λ r. u.handled e.node y r) i

      handled : (p : ℕ) (y : Msg) (t : Bool) → IsIn y (cond t (e.msg ∷ heard p H) (heard p H)) → MsgUnder b y
      handled p y true i = ⊎_elim (λ f. subst (MsgUnder b) (sym f) new) (λ r. u.handled p y r) i
      handled p y false i = u.handled p y i

  under_start : (flight : List Mail) → IsRun s [] flight → Under s [] flight 0
  under_start flight run = record {
    flying = λ x i. let st = in_openings s x (numbers_below s.parts) (subst (λ l. IsIn x l) run i) in subst (MsgUnder 0) (sym st.1) tt;
    handled = λ p m i. absurd i;
    counters = λ p. omega arith;
    histories = λ p. tt;
  }

  small_of : (H : List Entry) (flight : List Mail) → most_events s < 2 ^ 32 → most_events s * step' < 2 ^ 48 → Good s H flight → Under s H flight (length H * step') → Small H flight
  small_of H flight short small g u = record {
    short = lt (length H) (most_events s) (2 ^ 32) rs short;
    flying = λ x i. small_msg (length H * step') x.msg b (u.flying x i);
    handled = λ e i. small_msg (length H * step') e.msg b (u.handled e.node e.msg (entry_in H e i));
  }
    where
      rs : length H ≤ most_events s
      rs = run_short s v H flight g

      mono : (a b k : ℕ) → a ≤ b → a * k ≤ b * k
      mono a b k h = grind (arith, h)

      b : length H * step' < 2 ^ 48
      b = lt (length H * step') (most_events s * step') (2 ^ 48) (mono (length H) (most_events s) step' rs) small

  -- with the limits every run is good and small
  good_under : (H : List Entry) (flight : List Mail) → most_events s < 2 ^ 32 → most_events s * step' < 2 ^ 48 → IsRun s H flight → Good s H flight × Under s H flight (length H * step')
  good_under [] flight short small run = (good_start s flight run, subst (Under s [] flight) (zero_times step') (under_start flight run))
    where
      zero_times : (k : ℕ) → 0 ≡ 0 * k
      zero_times k = omega arith
  good_under (e ∷ H) flight short small run =
      let ih = good_under H run.0 short small run.4 in
      let g = good_more s v e H flight run ih.0 (small_of H run.0 short small ih.0 ih.1) in
      (g, subst (Under s (e ∷ H) flight) (times (length H) step') (under_more e H flight run (length H * step') g ih.1))
    where
      times : (n k : ℕ) → n * k + k ≡ suc n * k
      times n k = grind arith

pub run_good : (s : Setting) (v : Valid s) (l : Limits s) (H : List Entry) (flight : List Mail) → IsRun s H flight → Good s H flight
run_good s v l H flight run = (good_under s v l.span l.grows H flight l.short l.small run).0

pub run_small : (s : Setting) (v : Valid s) (l : Limits s) (H : List Entry) (flight : List Mail) → IsRun s H flight → Small H flight
run_small s v l H flight run = let g = good_under s v l.span l.grows H flight l.short l.small run in small_of s v l.span l.grows H flight l.short l.small g.0 g.1

-- the bound of all numbers
pub run_top : (s : Setting) (l : Limits s) (H : List Entry) → ℕ
run_top s l H = length H * (l.span + 2 * s.parts)

pub run_under : (s : Setting) (v : Valid s) (l : Limits s) (H : List Entry) (flight : List Mail) → IsRun s H flight → (run_top s l H < 2 ^ 48) × Under s H flight (run_top s l H)
unfolding run_top
run_under s v l H flight run =
    let g = good_under s v l.span l.grows H flight l.short l.small run in
    (lt (length H * (l.span + 2 * s.parts)) (most_events s * (l.span + 2 * s.parts)) (2 ^ 48) (mono (length H) (most_events s) (l.span + 2 * s.parts) (run_short s v H flight g.0)) l.small, g.1)
  where
    mono : (a b k : ℕ) → a ≤ b → a * k ≤ b * k
    mono a b k h = grind (arith, h)
