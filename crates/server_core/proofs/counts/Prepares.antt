-- How often a home says Prepare: once to each participant, when the last access was granted.
use Rattle.std.proofs.Common.{◌≡◌, ℕ, zero, suc, ◌+◌, ◌<◌, ◌≤◌, ltb, List, [], ◌∷◌, ◌++◌, length, map, filter, slice_get, reverse, Bool, true, false, cond, ◌&&◌, eqb, refl, sym, ap, ◌∙◌, subst, inl, inr, ⊎_elim, arith, Option, Some, None}
use Rattle.std.specs.List.{list_any}
use Rattle.std.proofs.lemmas.Bool.Decides.{nat_tests}
use Rattle.deneva_base.specs.declared.keys.Key.{Key}
use Rattle.deneva_base.specs.declared.numbers.TxnId.{TxnId}
use Rattle.deneva_base.specs.declared.numbers.Attempt.{Attempt}
use Rattle.deneva_base.specs.declared.numbers.Number.{Number}
use Rattle.deneva_base.specs.Lists.{IsIn}
use Rattle.deneva_base.specs.Rows.{Row}
use Rattle.deneva_base.specs.Keys.{attempt_eq}
use Rattle.deneva_base.specs.declared.causes.Cause.{Cause}
use Rattle.deneva_base.specs.declared.causes.Bound.{Bound}
use Rattle.deneva_base.specs.declared.answers.Answer.{Answer}
use Rattle.deneva_base.specs.declared.answers.Answer.TheVariants.{Granted as Gives, Waits, Refused as Refuses}
use Rattle.deneva_base.specs.declared.answers.Vote.{Vote}
use Rattle.deneva_base.specs.declared.answers.Vote.TheVariants.{Yes as VotesYes, No as VotesNo}
use Rattle.deneva_base.proofs.Membership.{attempt_tells}
use Rattle.server_core.specs.declared.messages.Msg.{Msg}
use Rattle.server_core.specs.declared.messages.Msg.TheVariants.{Start, Ask, Granted, Refused, Prepare, Yes, No, Commit, Abort, Done, Undone}
use Rattle.server_core.specs.declared.messages.Mail.{Mail}
use Rattle.server_core.specs.Setting.{Setting, partitions_of, rule_at, homes, participants}
use Rattle.deneva_base.specs.declared.keys.Access.{Access}
use Rattle.tpcc_rules.specs.declared.effects.Effect.{Effect}
use Rattle.server_core.specs.Received.{Reply, grants_for, votes_for, closes_for, all_voted, all_closed}
use Rattle.server_core.specs.declared.ballots.Ballot.{Ballot}
use Rattle.txn_program.specs.Transactions.{numbers_below}
use Rattle.deneva_base.specs.Partitions.{partition_of}
use Rattle.server_core.specs.Coordinator.{told, first_no, decision, coordinator, next_ask, next_start, mail_start, prepare_to, effect_of, to_all, bound_of, asked_partitions, overs, polled}
use Rattle.server_core.specs.Participant.{calls, participant, answer_mails, vote_mail, mail_home}
use Rattle.server_core.specs.Voting.{says}
use Rattle.server_core.specs.Stamps.{stamp_from, stamped}
use Rattle.server_core.specs.VotingFits.{Suits, AllFit}
use Rattle.server_core.specs.Counts.{all_said, count}
use Rattle.server_core.proofs.counts.Conserved.{count-append}
use Rattle.server_core.proofs.counts.Quiet.{is_prepare}

abbrev pub prepares : Attempt → ℕ → Mail → Bool
prepares who q x = is_prepare who x.msg && eqb x.to q

none_in : (t : Mail → Bool) (xs : List Mail) → ((x : Mail) → IsIn x xs → t x ≡ false) → count t xs ≡ 0
none_in t [] f = refl
none_in t (x ∷ xs) f = let e : t x ≡ false = f x (inl refl) in rw e (omega (arith, none_in t xs (λ y i. f y (inr i))))

count_map : {A : Type 0} (t : Mail → Bool) (f : A → Mail) (xs : List A) → ((x : A) → t (f x) ≡ false) → count t (map f xs) ≡ 0
count_map t f [] h = refl
count_map t f (x ∷ xs) h = let e : t (f x) ≡ false = h x in rw e (omega (arith, count_map t f xs h))

-- the participant says none
by_participant : (s : Setting) (p : ℕ) (who : Attempt) (q : ℕ) (m : Msg) (ms : List Msg) → count (prepares who q) (participant s p m ms) ≡ 0
by_participant s p who q (Ask x stamp key mode) ms = answers ((rule_at s p).ask (calls s p ms) x stamp key mode)
  where
    answers : (a : Answer) → count (prepares who q) (answer_mails s p x key a) ≡ 0
    answers (Gives row version bound) = omega arith
    answers Waits = refl
    answers (Refuses cause) = omega arith
by_participant s p who q (Prepare x bound writes appends) ms = votes ((rule_at s p).vote (calls s p ms) x bound writes appends)
  where
    votes : (v : Vote) → count (prepares who q) (vote_mail s p x v ∷ []) ≡ 0
    votes (VotesYes lo hi) = omega arith
    votes (VotesNo cause) = omega arith
by_participant s p who q (Commit x number) ms = omega (arith, count_map (prepares who q) (λ w. mail_home s p w.who (Granted w.who w.key w.row w.version w.bound)) ((rule_at s p).commit (calls s p ms) x number) (λ w. refl))
by_participant s p who q (Abort x) ms = omega (arith, count_map (prepares who q) (λ w. mail_home s p w.who (Granted w.who w.key w.row w.version w.bound)) ((rule_at s p).abort (calls s p ms) x) (λ w. refl))
by_participant s p who q (Start x) ms = refl
by_participant s p who q m ms = refl

pub slice_some : {A : Type 0} (xs : List A) (i : ℕ) (a : A) → slice_get xs i ≡ Some a → i < length xs
slice_some [] i a e = absurd (cc)
slice_some (x ∷ xs) zero a e = omega arith
slice_some (x ∷ xs) (suc i) a e = omega (arith, slice_some xs i a e)

pub slice_none : {A : Type 0} (xs : List A) (i : ℕ) → slice_get xs i ≡ None → length xs ≤ i
slice_none [] i e = omega arith
slice_none (x ∷ xs) zero e = absurd (cc)
slice_none (x ∷ xs) (suc i) e = omega (arith, slice_none xs i e)

-- how often q is among them
abbrev pub occurs : ℕ → List ℕ → ℕ
occurs q [] = 0
occurs q (x ∷ xs) = cond (eqb x q) 1 0 + occurs q xs

no_parts : (n : ℕ) → filter (λ p. list_any (λ (a : Access). eqb (partition_of a.key n) p) []) (numbers_below n) ≡ []
no_parts n = go (numbers_below n)
  where
    go : (xs : List ℕ) → filter (λ p. list_any (λ (a : Access). eqb (partition_of a.key n) p) []) xs ≡ []
    go [] = refl
    go (x ∷ xs) = go xs

module _ (s : Setting) (p : ℕ) (who : Attempt) (q : ℕ) where
  to_parts : (x : Attempt) (bound : Bound) (e : Effect) (qs : List ℕ) → count (prepares who q) (map (prepare_to s p x bound e) qs) ≡ cond (attempt_eq x who) (occurs q qs) 0
  to_parts x bound e [] = grind arith
  to_parts x bound e (y ∷ qs) = grind (arith, nat_tests, to_parts x bound e qs)

  -- what a next Ask or the Prepares count
  pub next_counts : (x : Attempt) (stamp : ℕ) (rs : List Reply) (a : Option Access) → count (prepares who q) (next_ask s p x stamp rs a) ≡ cond (attempt_eq x who) (elim a [ None ↦ occurs q (participants s x) | Some b ↦ 0 ]) 0
  next_counts x stamp rs None = to_parts x (bound_of rs) (effect_of s x.txn rs) (participants s x)
  next_counts x stamp rs (Some b) = grind arith

  all_count : (m : Msg) (qs : List ℕ) → is_prepare who m ≡ false → count (prepares who q) (to_all p m qs) ≡ 0
  all_count m qs e = count_map (prepares who q) (λ r. record { from = p; to = r; msg = m }) qs (λ r. rw e)

  abbrev goal_at : List Msg → ℕ
  goal_at ms = cond (eqb (length (grants_for who ms)) (length (s.accesses who.txn))) (occurs q (participants s who)) 0

  if_none : (b : Bool) (xs : List Mail) → count (prepares who q) xs ≡ 0 → count (prepares who q) (cond b xs []) ≡ 0
  if_none true xs e = e
  if_none false xs e = refl

  if_two : (b : Bool) (xs ys : List Mail) → count (prepares who q) xs ≡ 0 → count (prepares who q) ys ≡ 0 → count (prepares who q) (cond b xs ys) ≡ 0
  if_two true xs ys e f = e
  if_two false xs ys e f = f

  decided_other : (x : Attempt) (bs : List Ballot) (o : Option (ℕ × Cause)) → is_prepare who (decision x bs o) ≡ false
  decided_other x bs (Some c) = refl
  decided_other x bs None = grind arith

  starts_none : (x : Option TxnId) → count (prepares who q) (mail_start p x) ≡ 0
  starts_none None = refl
  starts_none (Some x) = omega arith

  polls : (x : Attempt) (bs : List Ballot) → count (prepares who q) (polled s p x bs) ≡ 0
  polls x bs = if_none (all_voted bs (participants s x)) (to_all p (decision x bs (first_no None bs)) (participants s x)) (all_count (decision x bs (first_no None bs)) (participants s x) (decided_other x bs (first_no None bs)))

  -- what is said on a message of the other kinds
  others : (m : Msg) (ms : List Msg) → (grants_for who (m ∷ ms) ≡ grants_for who ms) → ((x : Attempt) → m ≡ Start x → ⊥) → ((x : Attempt) (k : Key) (r : Row) (v : Number) (b : ℕ) → m ≡ Granted x k r v b → ⊥) → count (prepares who q) (coordinator s p m ms) ≡ 0
  others (Start x) ms same start grant = absurd (start x refl)
  others (Granted x k r v b) ms same start grant = absurd (grant x k r v b refl)
  others (Refused x key cause) ms same start grant = all_count (Abort x) (asked_partitions s ms x) refl
  others (Yes x part lo hi) ms same start grant = polls x (record { part = part; vote = VotesYes lo hi } ∷ votes_for x ms)
  others (No x part cause) ms same start grant = polls x (record { part = part; vote = VotesNo cause } ∷ votes_for x ms)
  others (Done x part) ms same start grant = if_none (all_closed (part ∷ closes_for x ms) (told s ms x)) (next_start s p (overs s ms)) (starts_none (slice_get (homes s p) (s.limit + overs s ms)))
  others (Undone x part) ms same start grant =
      if_none (all_closed (part ∷ closes_for x ms) (told s ms x)) (cond (ltb x.turn s.attempts) (record { from = p; to = p; msg = Start (record { txn = x.txn; turn = suc x.turn }) } ∷ []) (next_start s p (overs s ms)))
      (if_two (ltb x.turn s.attempts) (record { from = p; to = p; msg = Start (record { txn = x.txn; turn = suc x.turn }) } ∷ []) (next_start s p (overs s ms)) (omega arith) (starts_none (slice_get (homes s p) (s.limit + overs s ms))))
  others m ms same start grant = refl

  split : (m : Msg) (ms : List Msg) (rest : List Mail) → count (prepares who q) (says s p (m ∷ ms) ++ rest) ≡ count (prepares who q) (coordinator s p m ms) + count (prepares who q) rest
  split m ms rest = omega (arith, count-append (prepares who q) (says s p (m ∷ ms)) rest, count-append (prepares who q) (coordinator s p m ms) (participant s p m ms), by_participant s p who q m ms)

  at_none : (as' : List Access) → 0 ≡ cond (eqb 0 (length as')) (occurs q (partitions_of s.parts as')) 0
  at_none [] = rw (no_parts s.parts)
  at_none (a ∷ as') = grind (arith, nat_tests)

  at_start : (x : Attempt) (stamp : ℕ) (as' : List Access) → s.accesses x.txn ≡ as' → count (prepares who q) (next_ask s p x stamp [] (slice_get as' 0)) ≡ 0
  at_start x stamp [] e = next_counts x stamp [] None ∙ cond_zero (attempt_eq x who) (occurs q (participants s x)) (ap (λ l. occurs q (partitions_of s.parts l)) e ∙ ap (occurs q) (no_parts s.parts))
    where
      cond_zero : (b : Bool) (n : ℕ) → n ≡ 0 → cond b n 0 ≡ 0
      cond_zero true n e = e
      cond_zero false n e = refl
  at_start x stamp (a ∷ as') e = omega arith

  -- the last grant says them all, and each other none
  at_grant : (g stamp : ℕ) (rs : List Reply) (o : Option Access) → slice_get (s.accesses who.txn) (suc g) ≡ o → g < length (s.accesses who.txn) → count (prepares who q) (next_ask s p who stamp rs o) ≡ cond (eqb (suc g) (length (s.accesses who.txn))) (occurs q (participants s who)) 0
  at_grant g stamp rs None e lt = let n : suc g ≡ length (s.accesses who.txn) = omega (arith, slice_none (s.accesses who.txn) (suc g) e) in next_counts who stamp rs None ∙ grind (arith, nat_tests, attempt_tells who who)
  at_grant g stamp rs (Some b) e lt = let n : suc g < length (s.accesses who.txn) = slice_some (s.accesses who.txn) (suc g) b e in grind (arith, nat_tests)

  grant_own : (key : Key) (row : Row) (version : Number) (bound : ℕ) (ms : List Msg) → Suits s p (partition_of key s.parts) (Granted who key row version bound) ms → count (prepares who q) (coordinator s p (Granted who key row version bound) ms) + goal_at ms ≡ goal_at (Granted who key row version bound ∷ ms)
  grant_own key row version bound ms fit =
      let g : ℕ = length (grants_for who ms) in
      let lt : g < length (s.accesses who.txn) = slice_some (s.accesses who.txn) g (record { key = key; mode = fit.2.0 }) fit.2.1.2 in
      let rs : List Reply = reverse (record { row = row; bound = bound; key = key } ∷ grants_for who ms) in
      let e : count (prepares who q) (next_ask s p who (stamp_from s p ms (stamped s who)) rs (slice_get (s.accesses who.txn) (suc g))) ≡ cond (eqb (suc g) (length (s.accesses who.txn))) (occurs q (participants s who)) 0
      = at_grant g (stamp_from s p ms (stamped s who)) rs (slice_get (s.accesses who.txn) (suc g)) refl lt in
      grind (arith, nat_tests, attempt_tells who who, e)

  grant_other : (x : Attempt) (key : Key) (row : Row) (version : Number) (bound : ℕ) (ms : List Msg) → attempt_eq x who ≡ false → count (prepares who q) (coordinator s p (Granted x key row version bound) ms) + goal_at ms ≡ goal_at (Granted x key row version bound ∷ ms)
  grant_other x key row version bound ms f =
      let rs : List Reply = reverse (record { row = row; bound = bound; key = key } ∷ grants_for x ms) in
      let o : Option Access = slice_get (s.accesses x.txn) (suc (length (grants_for x ms))) in
      rw f (omega (arith, rw f at (next_counts x (stamp_from s p ms (stamped s x)) rs o)))

  by_granted : (x : Attempt) (key : Key) (row : Row) (version : Number) (bound : ℕ) (ms : List Msg) (f : ℕ) → Suits s p f (Granted x key row version bound) ms → count (prepares who q) (coordinator s p (Granted x key row version bound) ms) + goal_at ms ≡ goal_at (Granted x key row version bound ∷ ms)
  by_granted x key row version bound ms f fit =
      ⊎_elim
      (λ t. subst (λ y. (Suits s p f (Granted y key row version bound) ms) → count (prepares who q) (coordinator s p (Granted y key row version bound) ms) + goal_at ms ≡ goal_at (Granted y key row version bound ∷ ms)) (sym t.1)
      (λ own. grant_own key row version bound ms (own.0, refl, own.2, own.3)) fit)
      (λ t. grant_other x key row version bound ms t.0)
      (attempt_tells x who)

  pub prepares_said : (ms : List Msg) → AllFit s p ms → count (prepares who q) (all_said (says s) p ms) ≡ cond (eqb (length (grants_for who ms)) (length (s.accesses who.txn))) (occurs q (participants s who)) 0
  prepares_said [] fit = at_none (s.accesses who.txn)
  prepares_said (Granted x key row version bound ∷ ms) fit =
      omega (arith, split (Granted x key row version bound) ms (all_said (says s) p ms), by_granted x key row version bound ms fit.0.0 fit.0.1, prepares_said ms fit.1)
  prepares_said (Start x ∷ ms) fit =
      omega (arith, split (Start x) ms (all_said (says s) p ms), at_start x (stamp_from s p (Start x ∷ ms) (stamped s x)) (s.accesses x.txn) refl, prepares_said ms fit.1)
  prepares_said (m ∷ ms) fit =
      omega (arith, split m ms (all_said (says s) p ms), others m ms refl (λ x e. absurd (cc (e))) (λ x k r v b e. absurd (cc (e))), prepares_said ms fit.1)
