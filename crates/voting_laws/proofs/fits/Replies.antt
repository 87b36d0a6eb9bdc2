-- A participant says one reply to each call.
use Rattle.std.proofs.Common.{◌≡◌, ℕ, ◌+◌, List, [], ◌∷◌, ◌++◌, filter, Bool, true, false, cond, not, ◌&&◌, eqb, refl, sym, ◌∙◌, subst, ⊎_elim, arith, true≢false}
use Rattle.std.proofs.lemmas.Bool.Decides.{nat_tests}
use Rattle.deneva_base.specs.declared.keys.Key.{Key}
use Rattle.deneva_base.specs.declared.numbers.Attempt.{Attempt}
use Rattle.deneva_base.specs.declared.numbers.Number.{Number}
use Rattle.deneva_base.specs.declared.keys.Mode.{Mode}
use Rattle.deneva_base.specs.Rows.{Row}
use Rattle.deneva_base.specs.Keys.{attempt_eq, key_eq}
use Rattle.deneva_base.specs.declared.answers.Answer.{Answer}
use Rattle.deneva_base.specs.declared.answers.Answer.TheVariants.{Granted as Gives, Waits, Refused as Refuses}
use Rattle.deneva_base.specs.declared.answers.Vote.{Vote}
use Rattle.deneva_base.specs.declared.answers.Vote.TheVariants.{Yes as VotesYes, No as VotesNo}
use Rattle.deneva_base.specs.declared.answers.Wake.{Wake}
use Rattle.protocol_rules.specs.History.{Asked, waits, left_waiting, is_woken}
use Rattle.protocol_rules.specs.Wakes.{WakesWaiters}
use Rattle.deneva_base.proofs.Membership.{attempt_tells}
use Rattle.server_core.specs.declared.messages.Msg.{Msg}
use Rattle.server_core.specs.declared.messages.Msg.TheVariants.{Start, Ask, Granted, Prepare, Commit, Abort}
use Rattle.server_core.specs.Setting.{Setting, home, loaded_at, rule_at}
use Rattle.server_core.specs.Participant.{calls, participant, answer_mails, vote_mail, mail_home, wake_mails}
use Rattle.server_core.specs.Voting.{says}
use Rattle.server_core.specs.VotingFits.{AllFit}
use Rattle.server_core.specs.Proper.{Valid}
use Rattle.server_core.specs.Counts.{all_said, count}
use Rattle.server_core.proofs.counts.Local.{sent_to, count_msgs}
use Rattle.server_core.proofs.counts.Quiet.{is_ask, is_answer, is_prepare, is_vote, is_end, is_close, count_map, none_coordinator, more_said}
use Rattle.server_core.proofs.values.Called.{obeys, wakers, waiting, wakings, waiting_once, wake_balance}

-- what is said of an attempt is said to its home
at_home : (s : Setting) (x who : Attempt) → attempt_eq x who ≡ true → eqb (home s x.txn) (home s who.txn) ≡ true
at_home s x who e =
    ⊎_elim
    (λ (t : (attempt_eq x who ≡ true) × (x ≡ who)). subst (λ y. eqb (home s x.txn) (home s y.txn) ≡ true) t.1 (same (home s x.txn)))
    (λ f. absurd (true≢false (sym e ∙ f.0)))
    (attempt_tells x who)
  where
    same : (n : ℕ) → eqb n n ≡ true
    same n = grind (arith, nat_tests)

module _ (s : Setting) (v : Valid s) (p : ℕ) (who : Attempt) where
  module _ (key : Key) where
    abbrev left : List Msg → ℕ
    left ms = waiting who key (waits (calls s p ms))

    answer_counts : (x : Attempt) (st : ℕ) (k : Key) (m : Mode) (ws : List Asked) (a : Answer) → count (sent_to (home s who.txn) (is_answer who key)) (answer_mails s p x k a) + waiting who key (left_waiting (record { who = x; stamp = st; key = k; mode = m }) a ++ ws) ≡ cond (attempt_eq x who && key_eq k key) 1 0 + waiting who key ws
    answer_counts x st k m ws (Gives row version bound) = grind (arith, nat_tests, at_home s x who)
    answer_counts x st k m ws Waits = omega arith
    answer_counts x st k m ws (Refuses cause) = grind (arith, nat_tests, at_home s x who)

    wake_counts : (ws : List Wake) → count (sent_to (home s who.txn) (is_answer who key)) (wake_mails s p ws) ≡ wakings who key ws
    wake_counts [] = refl
    wake_counts (w ∷ ws) = grind (arith, nat_tests, at_home s w.who who, wake_counts ws)

    woken : (ms : List Msg) (ws : List Wake) → AllFit s p ms → WakesWaiters (calls s p ms) ws → wakings who key ws + waiting who key (filter (λ a. not (is_woken ws a)) (waits (calls s p ms))) ≡ waiting who key (waits (calls s p ms))
    woken ms ws fit wk = wake_balance who key ws (calls s p ms) wk (waiting_once (loaded_at s p) (rule_at s p) who key (calls s p ms) (obeys s p ms fit))

    by_calls : (m : Msg) (ms : List Msg) → AllFit s p (m ∷ ms) → count (sent_to (home s who.txn) (is_answer who key)) (participant s p m ms) + left (m ∷ ms) ≡ cond (is_ask who key m) 1 0 + left ms
    by_calls (Ask x stamp k mode) ms fit = answer_counts x stamp k mode (waits (calls s p ms)) ((rule_at s p).ask (calls s p ms) x stamp k mode)
    by_calls (Prepare x bound writes appends) ms fit = votes ((rule_at s p).vote (calls s p ms) x bound writes appends)
      where
        votes : (v : Vote) → count (sent_to (home s who.txn) (is_answer who key)) (vote_mail s p x v ∷ []) + left ms ≡ 0 + left ms
        votes (VotesYes lo hi) = omega arith
        votes (VotesNo cause) = omega arith
    by_calls (Commit x number) ms fit = omega (arith, wake_counts ((rule_at s p).commit (calls s p ms) x number), woken ms ((rule_at s p).commit (calls s p ms) x number) fit.1 (wakers s v p (Commit x number ∷ ms) fit).0)
    by_calls (Abort x) ms fit = omega (arith, wake_counts ((rule_at s p).abort (calls s p ms) x), woken ms ((rule_at s p).abort (calls s p ms) x) fit.1 (wakers s v p (Abort x ∷ ms) fit).0)
    by_calls (Start x) ms fit = refl
    by_calls m ms fit = refl

    -- answers said and accesses that wait are the asks heard
    pub answers_said : (ms : List Msg) → AllFit s p ms → count (sent_to (home s who.txn) (is_answer who key)) (all_said (says s) p ms) + waiting who key (waits (calls s p ms)) ≡ count_msgs (is_ask who key) ms
    answers_said [] fit = refl
    answers_said (m ∷ ms) fit =
        omega (
          arith,
          more_said s p (home s who.txn) (is_answer who key) m ms,
          none_coordinator s p (home s who.txn) (is_answer who key) (record { ask = λ x st k m'. refl; prepare = λ x b w a. refl }) (record { commit = λ x n. refl; abort = λ x. refl }) (record { start = λ x. refl }) m ms,
          by_calls m ms fit,
          answers_said ms fit.1,
        )

  no_wakes : (t : Msg → Bool) → ((x : Attempt) (k : Key) (row : Row) (n : Number) (b : ℕ) → t (Granted x k row n b) ≡ false) → (ws : List Wake) → count (sent_to (home s who.txn) t) (wake_mails s p ws) ≡ 0
  no_wakes t h ws = count_map (sent_to (home s who.txn) t) (λ w. mail_home s p w.who (Granted w.who w.key w.row w.version w.bound)) ws (λ w. rw (h w.who w.key w.row w.version w.bound))

  module _ (r : ℕ) where
    vote_counts : (x : Attempt) (v : Vote) → count (sent_to (home s who.txn) (is_vote who r)) (vote_mail s p x v ∷ []) ≡ cond (attempt_eq x who && eqb p r) 1 0
    vote_counts x (VotesYes lo hi) = grind (arith, nat_tests, at_home s x who)
    vote_counts x (VotesNo cause) = grind (arith, nat_tests, at_home s x who)

    by_votes : (m : Msg) (ms : List Msg) → count (sent_to (home s who.txn) (is_vote who r)) (participant s p m ms) ≡ cond (is_prepare who m && eqb p r) 1 0
    by_votes (Prepare x bound writes appends) ms = vote_counts x ((rule_at s p).vote (calls s p ms) x bound writes appends)
    by_votes (Ask x stamp k mode) ms = answers ((rule_at s p).ask (calls s p ms) x stamp k mode)
      where
        answers : (a : Answer) → count (sent_to (home s who.txn) (is_vote who r)) (answer_mails s p x k a) ≡ 0
        answers (Gives row version bound) = omega arith
        answers Waits = refl
        answers (Refuses cause) = omega arith
    by_votes (Commit x number) ms = omega (arith, no_wakes (is_vote who r) (λ a k b n c. refl) ((rule_at s p).commit (calls s p ms) x number))
    by_votes (Abort x) ms = omega (arith, no_wakes (is_vote who r) (λ a k b n c. refl) ((rule_at s p).abort (calls s p ms) x))
    by_votes m ms = refl

    pub votes_said : (ms : List Msg) → count (sent_to (home s who.txn) (is_vote who r)) (all_said (says s) p ms) ≡ cond (eqb p r) (count_msgs (is_prepare who) ms) 0
    votes_said [] = grind arith
    votes_said (m ∷ ms) =
        grind (
          arith,
          more_said s p (home s who.txn) (is_vote who r) m ms,
          none_coordinator s p (home s who.txn) (is_vote who r) (record { ask = λ x st k m'. refl; prepare = λ x b w a. refl }) (record { commit = λ x n. refl; abort = λ x. refl }) (record { start = λ x. refl }) m ms,
          by_votes m ms,
          votes_said ms,
        )

    by_closes : (m : Msg) (ms : List Msg) → count (sent_to (home s who.txn) (is_close who r)) (participant s p m ms) ≡ cond (is_end who m && eqb p r) 1 0
    by_closes (Commit x number) ms = grind (arith, nat_tests, at_home s x who, no_wakes (is_close who r) (λ a k b n c. refl) ((rule_at s p).commit (calls s p ms) x number))
    by_closes (Abort x) ms = grind (arith, nat_tests, at_home s x who, no_wakes (is_close who r) (λ a k b n c. refl) ((rule_at s p).abort (calls s p ms) x))
    by_closes (Ask x stamp k mode) ms = answers ((rule_at s p).ask (calls s p ms) x stamp k mode)
      where
        answers : (a : Answer) → count (sent_to (home s who.txn) (is_close who r)) (answer_mails s p x k a) ≡ 0
        answers (Gives row version bound) = omega arith
        answers Waits = refl
        answers (Refuses cause) = omega arith
    by_closes (Prepare x bound writes appends) ms = votes ((rule_at s p).vote (calls s p ms) x bound writes appends)
      where
        votes : (v : Vote) → count (sent_to (home s who.txn) (is_close who r)) (vote_mail s p x v ∷ []) ≡ 0
        votes (VotesYes lo hi) = omega arith
        votes (VotesNo cause) = omega arith
    by_closes m ms = refl

    pub closes_said : (ms : List Msg) → count (sent_to (home s who.txn) (is_close who r)) (all_said (says s) p ms) ≡ cond (eqb p r) (count_msgs (is_end who) ms) 0
    closes_said [] = grind arith
    closes_said (m ∷ ms) =
        grind (
          arith,
          more_said s p (home s who.txn) (is_close who r) m ms,
          none_coordinator s p (home s who.txn) (is_close who r) (record { ask = λ x st k m'. refl; prepare = λ x b w a. refl }) (record { commit = λ x n. refl; abort = λ x. refl }) (record { start = λ x. refl }) m ms,
          by_closes m ms,
          closes_said ms,
        )
