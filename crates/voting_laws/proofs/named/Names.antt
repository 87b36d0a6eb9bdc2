-- In every run each abort line names what was found.
use Rattle.std.proofs.Common.{◌≡◌, ◌≢◌, ◌⊎◌, ℕ, zero, suc, ◌+◌, ◌<◌, ◌≤◌, ◌^◌, max, min, ltb, List, [], ◌∷◌, ◌++◌, Bool, true, false, cond, ◌&&◌, eqb, refl, sym, ap, ◌∙◌, subst, inl, inr, ⊎_elim, arith, Option, Some, None, true≢false}
use Rattle.std.proofs.lemmas.Bool.Decides.{nat_tests, eqb_tells}
use Rattle.deneva_base.specs.declared.keys.Key.{Key}
use Rattle.deneva_base.specs.declared.numbers.TxnId.{TxnId}
use Rattle.deneva_base.specs.declared.numbers.Attempt.{Attempt}
use Rattle.deneva_base.specs.declared.numbers.Number.{Number}
use Rattle.deneva_base.specs.declared.keys.Mode.{Mode}
use Rattle.deneva_base.specs.Lists.{IsIn}
use Rattle.deneva_base.specs.Rows.{Row}
use Rattle.deneva_base.specs.Keys.{attempt_eq, key_eq}
use Rattle.deneva_base.specs.declared.causes.Cause.{Cause}
use Rattle.deneva_base.specs.declared.causes.Cause.TheVariants.{Held, Younger, Written, ReadLater, EmptyRange, Apart, Trimmed}
use Rattle.deneva_base.specs.declared.answers.Answer.{Answer}
use Rattle.deneva_base.specs.declared.answers.Answer.TheVariants.{Granted as Gives, Waits, Refused as Refuses}
use Rattle.deneva_base.specs.declared.answers.Vote.{Vote}
use Rattle.deneva_base.specs.declared.answers.Vote.TheVariants.{Yes as VotesYes, No as VotesNo}
use Rattle.deneva_base.specs.declared.answers.Wake.{Wake}
use Rattle.deneva_base.specs.declared.causes.Bound.{Bound}
use Rattle.deneva_base.specs.declared.rows.Keyed.{Keyed}
use Rattle.deneva_base.proofs.Membership.{in_right, in_cases, and_parts, attempt_tells, key_tells, key_decides}
use Rattle.server_core.specs.declared.messages.Msg.{Msg}
use Rattle.server_core.specs.declared.messages.Msg.TheVariants.{Start, Ask, Granted, Refused, Prepare, Yes, No, Commit, Abort, Done, Undone}
use Rattle.server_core.specs.declared.messages.Mail.{Mail}
use Rattle.server_core.specs.declared.messages.Entry.{Entry}
use Rattle.server_core.specs.Setting.{Setting, home, loaded_at, rule_at, participants}
use Rattle.server_core.specs.Received.{votes_for, started_for, all_voted}
use Rattle.server_core.specs.declared.ballots.Ballot.{Ballot}
use Rattle.deneva_base.specs.Partitions.{partition_of}
use Rattle.server_core.specs.Coordinator.{first_no, no_in, lo_of, hi_of, greatest_lo, least_hi, coordinator}
use Rattle.server_core.specs.Participant.{calls, participant, answer_mails, vote_mail, wake_mails}
use Rattle.server_core.specs.Voting.{says}
use Rattle.server_core.specs.Proper.{Valid}
use Rattle.server_core.specs.Runs.{heard}
use Rattle.server_core.specs.Counts.{all_said, count_msgs}
use Rattle.server_core.specs.declared.outcomes.AbortLine.{AbortLine}
use Rattle.server_core.specs.Aborts.{Refusal, is_ask_of, is_prepare_of, is_vote_of, newest, line_at, refusal_for, lesser, least_part, part_or, apart_of, vote_abort, abort_lines, turns, aborts_of}
use Rattle.server_core.specs.AttemptEnds.{attempt, at_home}
use Rattle.protocol_rules.specs.Naming.{NamesKey, NamesRange, Naming}
use Rattle.server_core.specs.VotingNamed.{ByAsk, ByPrepare, NamedBy, IsNamed}
use Rattle.server_core.proofs.counts.Quiet.{is_ask, is_prepare}
use Rattle.server_core.proofs.values.Closed.{in_flat}
use Rattle.server_core.proofs.values.Values.{not_by_home, not_a_wake}
use Rattle.voting_laws.proofs.numbers.Events.{fit_of}
use Rattle.server_core.proofs.values.Decisions.{all_yes, lo_under, hi_over}
use Rattle.voting_laws.proofs.numbers.Numbers.{Under, votes_under}
use Rattle.voting_laws.proofs.fits.Account.{Good, said_at, ask_ledger, at_most_one, prepare_ledger, prepares_once}

-- the newest entry that passes stands over those before it, and none after it passes
record Newest (t : Entry → Bool) (H : List Entry) (e : Entry) : Type 0 where
  before : List Entry
  after : List Entry
  is : H ≡ after ++ e ∷ before
  passes : t e ≡ true
  none : (y : Entry) → IsIn y after → t y ≡ false

newest_is : (t : Entry → Bool) (H : List Entry) (e : Entry) → newest t H ≡ Some e → Newest t H e
newest_is t [] e h = absurd (cc (h))
newest_is t (y ∷ H) e h = go (t y) refl h (newest_is t H e)
  where
    go : (b : Bool) → t y ≡ b → cond b (Some y) (newest t H) ≡ Some e → (newest t H ≡ Some e → Newest t H e) → Newest t (y ∷ H) e
    go true p h next = let is : y ≡ e = cc in record { before = H; after = []; is = ap (λ z. z ∷ H) is; passes = subst (λ z. t z ≡ true) is p; none = λ z i. absurd i }
    go false p h next = let n = next h in record { before = n.before; after = y ∷ n.after; is = ap (λ l. y ∷ l) n.is; passes = n.passes; none = λ z i. ⊎_elim (λ f. ap t f ∙ p) (λ r. n.none z r) i }

line_is : (who : Attempt) (c : Cause) (o : Option Entry) (l : AbortLine) → IsIn l (line_at who c o) → (e : Entry) × (o ≡ Some e) × (l ≡ record { who = who; place = e.place; node = e.node; cause = c })
line_is who c None l i = absurd i
line_is who c (Some e) l i = ⊎_elim (λ is. (e, refl, is)) (λ n. absurd n) i

-- a split of the entries splits what a node heard
heard_split : (p : ℕ) (after : List Entry) (e : Entry) (before : List Entry) → e.node ≡ p → heard p (after ++ e ∷ before) ≡ heard p after ++ e.msg ∷ heard p before
heard_split p [] e before is = ap (λ b. cond b (e.msg ∷ heard p before) (heard p before)) (same e.node p is)
  where
    same : (a b : ℕ) → a ≡ b → eqb a b ≡ true
    same a b e = grind (arith, nat_tests, e)
heard_split p (y ∷ after) e before is = go (eqb y.node p) (heard_split p after e before is)
  where
    go : (b : Bool) → heard p (after ++ e ∷ before) ≡ heard p after ++ e.msg ∷ heard p before → cond b (y.msg ∷ heard p (after ++ e ∷ before)) (heard p (after ++ e ∷ before)) ≡ cond b (y.msg ∷ heard p after) (heard p after) ++ e.msg ∷ heard p before
    go true h = ap (λ l. y.msg ∷ l) h
    go false h = h

counted : (t : Msg → Bool) (l : List Msg) (m : Msg) (r : List Msg) → t m ≡ true → 1 ≤ count_msgs t (l ++ m ∷ r)
counted t [] m r e = rw e (omega arith)
counted t (y ∷ l) m r e = omega (arith, counted t l m r e)

-- where one message alone passes, two splits at it are one
split_same : (t : Msg → Bool) (l k : List Msg) (m n : Msg) (r q : List Msg) → l ++ m ∷ r ≡ k ++ n ∷ q → t m ≡ true → t n ≡ true → count_msgs t (l ++ m ∷ r) ≤ 1 → (m ≡ n) × (r ≡ q)
split_same t [] [] m n r q e tm tn h = (ap (first m) e, ap rest e)
  where
    first : Msg → List Msg → Msg
    first d [] = d
    first d (x ∷ xs) = x

    rest : List Msg → List Msg
    rest [] = []
    rest (x ∷ xs) = xs
split_same t [] (y ∷ k) m n r q e tm tn h =
    let f : r ≡ k ++ n ∷ q = ap rest e in
    let h' : 1 + count_msgs t r ≤ 1 = subst (λ b. cond b 1 0 + count_msgs t r ≤ 1) tm h in
    absurd (omega (arith, h', ap (count_msgs t) f, counted t k n q tn))
  where
    rest : List Msg → List Msg
    rest [] = []
    rest (x ∷ xs) = xs
split_same t (y ∷ l) [] m n r q e tm tn h =
    let f : l ++ m ∷ r ≡ q = ap rest e in
    let g : y ≡ n = ap (first y) e in
    let ty : t y ≡ true = subst (λ z. t z ≡ true) (sym g) tn in
    let h' : 1 + count_msgs t (l ++ m ∷ r) ≤ 1 = subst (λ b. cond b 1 0 + count_msgs t (l ++ m ∷ r) ≤ 1) ty h in
    absurd (omega (arith, h', counted t l m r tm))
  where
    first : Msg → List Msg → Msg
    first d [] = d
    first d (x ∷ xs) = x

    rest : List Msg → List Msg
    rest [] = []
    rest (x ∷ xs) = xs
split_same t (y ∷ l) (z ∷ k) m n r q e tm tn h = split_same t l k m n r q (ap rest e) tm tn (omega (arith, h))
  where
    rest : List Msg → List Msg
    rest [] = []
    rest (x ∷ xs) = xs

-- who said a Refused answered an Ask so
pub record Asked' (s : Setting) (p : ℕ) (who : Attempt) (key : Key) (c : Cause) (ms : List Msg) : Type 0 where
  pub late : List Msg
  pub stamp : ℕ
  pub mode : Mode
  pub early : List Msg
  pub is : ms ≡ late ++ Ask who stamp key mode ∷ early
  pub answer : (rule_at s p).ask (calls s p early) who stamp key mode ≡ Refuses c

pub record Prepared' (s : Setting) (p : ℕ) (who : Attempt) (c : Cause) (ms : List Msg) : Type 0 where
  pub late : List Msg
  pub bound : Bound
  pub writes : List Keyed
  pub appends : List Keyed
  pub early : List Msg
  pub is : ms ≡ late ++ Prepare who bound writes appends ∷ early
  pub vote : (rule_at s p).vote (calls s p early) who bound writes appends ≡ VotesNo c

module _ (s : Setting) (v : Valid s) (p : ℕ) (who : Attempt) where
  abbrev is_refused : Msg → Bool
  is_refused (Refused x k c) = attempt_eq x who
  is_refused m = false

  abbrev is_no : Msg → Bool
  is_no (No x part c) = attempt_eq x who
  is_no m = false

  itself : attempt_eq who who ≡ true
  itself = ⊎_elim (λ t. t.0) (λ f. absurd (f.1 refl)) (attempt_tells who who)

  not_wake : (t : Msg → Bool) → ((y : Attempt) (k : Key) (r : Row) (n : Number) (b : ℕ) → t (Granted y k r n b) ≡ false) → (ws : List Wake) (x : Mail) → t x.msg ≡ true → IsIn x (wake_mails s p ws) → ⊥
  not_wake t h ws x e i = not_a_wake s v p who t h ws x e i

  refused_by : (key : Key) (c : Cause) (m : Msg) (ms : List Msg) (x : Mail) → x.msg ≡ Refused who key c → IsIn x (participant s p m ms) → Asked' s p who key c (m ∷ ms)
  refused_by key c (Ask y st k md) ms x e i = by ((rule_at s p).ask (calls s p ms) y st k md) refl i
    where
      by : (a : Answer) → (rule_at s p).ask (calls s p ms) y st k md ≡ a → IsIn x (answer_mails s p y k a) → Asked' s p who key c (Ask y st k md ∷ ms)
      by (Gives r n b) h i = ⊎_elim (λ is. let f : Granted y k r n b ≡ Refused who key c = sym (ap (λ (z : Mail). z.msg) is) ∙ e in absurd (cc (f))) (λ z. absurd z) i
      by Waits h i = absurd i
      by (Refuses d) h i =
          ⊎_elim
          (λ is.
          let f : Refused y k d ≡ Refused who key c = sym (ap (λ (z : Mail). z.msg) is) ∙ e in
          let a1 : y ≡ who = cc in
          let a2 : k ≡ key = cc in
          let a3 : d ≡ c = cc in
          record {
            late = [];
            stamp = st;
            mode = md;
            early = ms;
            is = ap (λ (z : Attempt × Key). Ask z.0 st z.1 md ∷ ms) (λ j. (a1 j, a2 j));
            answer = subst (λ (z : Attempt × Key). (rule_at s p).ask (calls s p ms) z.0 st z.1 md ≡ Refuses c) (λ j. (a1 j, a2 j)) (h ∙ ap Refuses a3);
          })
          (λ z. absurd z)
          i
  refused_by key c (Prepare y b w a) ms x e i = absurd (votes ((rule_at s p).vote (calls s p ms) y b w a) i)
    where
      votes : (o : Vote) → IsIn x (vote_mail s p y o ∷ []) → ⊥
      votes (VotesYes lo hi) i = ⊎_elim (λ is. let f : Yes y p lo hi ≡ Refused who key c = sym (ap (λ z. z.msg) is) ∙ e in absurd (cc (f))) (λ n. n) i
      votes (VotesNo d) i = ⊎_elim (λ is. let f : No y p d ≡ Refused who key c = sym (ap (λ z. z.msg) is) ∙ e in absurd (cc (f))) (λ n. n) i
  refused_by key c (Commit y n) ms x e i =
      ⊎_elim
      (λ is. let f : Done y p ≡ Refused who key c = sym (ap (λ z. z.msg) is) ∙ e in absurd (cc (f)))
      (λ w. absurd (not_wake is_refused (λ y k r n b. refl) ((rule_at s p).commit (calls s p ms) y n) x (subst (λ z. is_refused z ≡ true) (sym e) itself) w))
      i
  refused_by key c (Abort y) ms x e i =
      ⊎_elim
      (λ is. let f : Undone y p ≡ Refused who key c = sym (ap (λ z. z.msg) is) ∙ e in absurd (cc (f)))
      (λ w. absurd (not_wake is_refused (λ y k r n b. refl) ((rule_at s p).abort (calls s p ms) y) x (subst (λ z. is_refused z ≡ true) (sym e) itself) w))
      i
  refused_by key c (Start y) ms x e i = absurd i
  refused_by key c m ms x e i = absurd i

  pub refused_said : (key : Key) (c : Cause) (ms : List Msg) (x : Mail) → x.msg ≡ Refused who key c → IsIn x (all_said (says s) p ms) → Asked' s p who key c ms
  refused_said key c [] x e i = absurd i
  refused_said key c (m ∷ ms) x e i =
      ⊎_elim
      (λ a. ⊎_elim
      (λ h. absurd (not_by_home s v p who is_refused (record { ask = λ x st k m'. refl; prepare = λ x b w a. refl }) (record { commit = λ x n. refl; abort = λ x. refl }) (record { start = λ x. refl }) m ms x (subst (λ z. is_refused z ≡ true) (sym e) itself) h))
      (λ d. refused_by key c m ms x e d)
      (in_cases x (coordinator s p m ms) (participant s p m ms) a))
      (λ b. let h = refused_said key c ms x e b in record { late = m ∷ h.late; stamp = h.stamp; mode = h.mode; early = h.early; is = ap (λ l. m ∷ l) h.is; answer = h.answer })
      (in_cases x (says s p (m ∷ ms)) (all_said (says s) p ms) i)

  no_by : (part : ℕ) (c : Cause) (m : Msg) (ms : List Msg) (x : Mail) → x.msg ≡ No who part c → IsIn x (participant s p m ms) → Prepared' s p who c (m ∷ ms)
  no_by part c (Prepare y b w a) ms x e i = votes ((rule_at s p).vote (calls s p ms) y b w a) refl i
    where
      votes : (o : Vote) → (rule_at s p).vote (calls s p ms) y b w a ≡ o → IsIn x (vote_mail s p y o ∷ []) → Prepared' s p who c (Prepare y b w a ∷ ms)
      votes (VotesYes lo hi) h i = ⊎_elim (λ is. let f : Yes y p lo hi ≡ No who part c = sym (ap (λ (z : Mail). z.msg) is) ∙ e in absurd (cc (f))) (λ n. absurd n) i
      votes (VotesNo d) h i =
          ⊎_elim
          (λ is.
          let f : No y p d ≡ No who part c = sym (ap (λ (z : Mail). z.msg) is) ∙ e in
          let a1 : y ≡ who = cc in
          let a2 : d ≡ c = cc in
          record { late = []; bound = b; writes = w; appends = a; early = ms; is = ap (λ z. Prepare z b w a ∷ ms) a1; vote = subst (λ z. (rule_at s p).vote (calls s p ms) z b w a ≡ VotesNo c) a1 (h ∙ ap VotesNo a2) })
          (λ n. absurd n)
          i
  no_by part c (Ask y st k md) ms x e i = absurd (by ((rule_at s p).ask (calls s p ms) y st k md) i)
    where
      by : (a : Answer) → IsIn x (answer_mails s p y k a) → ⊥
      by (Gives r n b) i = ⊎_elim (λ is. let f : Granted y k r n b ≡ No who part c = sym (ap (λ (z : Mail). z.msg) is) ∙ e in absurd (cc (f))) (λ z. z) i
      by Waits i = i
      by (Refuses d) i = ⊎_elim (λ is. let f : Refused y k d ≡ No who part c = sym (ap (λ (z : Mail). z.msg) is) ∙ e in absurd (cc (f))) (λ z. z) i
  no_by part c (Commit y n) ms x e i =
      ⊎_elim
      (λ is. let f : Done y p ≡ No who part c = sym (ap (λ (z : Mail). z.msg) is) ∙ e in absurd (cc (f)))
      (λ w. absurd (not_wake is_no (λ y k r n b. refl) ((rule_at s p).commit (calls s p ms) y n) x (subst (λ z. is_no z ≡ true) (sym e) itself) w))
      i
  no_by part c (Abort y) ms x e i =
      ⊎_elim
      (λ is. let f : Undone y p ≡ No who part c = sym (ap (λ (z : Mail). z.msg) is) ∙ e in absurd (cc (f)))
      (λ w. absurd (not_wake is_no (λ y k r n b. refl) ((rule_at s p).abort (calls s p ms) y) x (subst (λ z. is_no z ≡ true) (sym e) itself) w))
      i
  no_by part c (Start y) ms x e i = absurd i
  no_by part c m ms x e i = absurd i

  pub no_said : (part : ℕ) (c : Cause) (ms : List Msg) (x : Mail) → x.msg ≡ No who part c → IsIn x (all_said (says s) p ms) → Prepared' s p who c ms
  no_said part c [] x e i = absurd i
  no_said part c (m ∷ ms) x e i =
      ⊎_elim
      (λ a. ⊎_elim
      (λ h. absurd (not_by_home s v p who is_no (record { ask = λ x st k m'. refl; prepare = λ x b w a. refl }) (record { commit = λ x n. refl; abort = λ x. refl }) (record { start = λ x. refl }) m ms x (subst (λ z. is_no z ≡ true) (sym e) itself) h))
      (λ d. no_by part c m ms x e d)
      (in_cases x (coordinator s p m ms) (participant s p m ms) a))
      (λ b. let h = no_said part c ms x e b in record { late = m ∷ h.late; bound = h.bound; writes = h.writes; appends = h.appends; early = h.early; is = ap (λ l. m ∷ l) h.is; vote = h.vote })
      (in_cases x (says s p (m ∷ ms)) (all_said (says s) p ms) i)

-- the cause that was taken is that of the least partition that said No
pub first_no_is : (best : Option (ℕ × Cause)) (bs : List Ballot) (c : ℕ × Cause) → first_no best bs ≡ Some c → ((best ≡ Some c) ⊎ ((b : Ballot) × IsIn b bs × (b.part ≡ c.0) × (b.vote ≡ VotesNo c.1))) × ((b : Ballot) (d : Cause) → IsIn b bs → b.vote ≡ VotesNo d → c.0 ≤ b.part) × ((x : ℕ × Cause) → best ≡ Some x → c.0 ≤ x.0)
first_no_is best [] c e = (inl e, (λ b d i f. absurd i), λ x f. let g : x ≡ c = some (sym f ∙ e) in omega (arith, ap (λ (z : ℕ × Cause). z.0) g))
  where
    some : {x y : ℕ × Cause} → Some x ≡ Some y → x ≡ y
    some e = cc
first_no_is best (b ∷ bs) c e =
    let ih = first_no_is (no_in best b.part b.vote) bs c e in
    let h = here best b.part b.vote c ih.2 in (
      ⊎_elim
          (λ f. ⊎_elim (λ g. inl g) (λ g. inr (b, inl refl, g.0, g.1)) (taken best b.part b.vote c f))
          (λ f. inr (f.0, inr f.1, f.2, f.3))
          ih.0,
      (λ k d i f. ⊎_elim (λ (is : k ≡ b). subst (λ (z : Ballot). c.0 ≤ z.part) (sym is) (h.0 d (ap (λ (z : Ballot). z.vote) (sym is) ∙ f))) (λ j. ih.1 k d j f) i),
      h.1,
    )
  where
    taken : (best : Option (ℕ × Cause)) (part : ℕ) (v : Vote) (c : ℕ × Cause) → no_in best part v ≡ Some c → (best ≡ Some c) ⊎ ((part ≡ c.0) × (v ≡ VotesNo c.1))
    taken best part (VotesYes lo hi) c e = inl e
    taken None part (VotesNo d) c e = let f : (part, d) ≡ c = cc in inr (ap (λ (z : ℕ × Cause). z.0) f, ap (λ (z : ℕ × Cause). VotesNo z.1) f)
    taken (Some x) part (VotesNo d) c e = go (ltb part x.0) e
      where
        go : (b : Bool) → cond b (Some (part, d)) (Some x) ≡ Some c → (Some x ≡ Some c) ⊎ ((part ≡ c.0) × (VotesNo d ≡ VotesNo c.1))
        go true e = let f : (part, d) ≡ c = cc in inr (ap (λ (z : ℕ × Cause). z.0) f, ap (λ (z : ℕ × Cause). VotesNo z.1) f)
        go false e = inl e

    here : (best : Option (ℕ × Cause)) (part : ℕ) (v : Vote) (c : ℕ × Cause) → ((x : ℕ × Cause) → no_in best part v ≡ Some x → c.0 ≤ x.0) → ((d : Cause) → v ≡ VotesNo d → c.0 ≤ part) × ((x : ℕ × Cause) → best ≡ Some x → c.0 ≤ x.0)
    here best part (VotesYes lo hi) c h = ((λ d e. absurd (cc (e))), h)
    here None part (VotesNo d) c h = ((λ d' e. h (part, d) refl), (λ x e. absurd (cc (e))))
    here (Some x) part (VotesNo d) c h = go (ltb part x.0) refl h
      where
        go : (b : Bool) → ltb part x.0 ≡ b → ((y : ℕ × Cause) → cond b (Some (part, d)) (Some x) ≡ Some y → c.0 ≤ y.0) → ((d' : Cause) → VotesNo d ≡ VotesNo d' → c.0 ≤ part) × ((y : ℕ × Cause) → Some x ≡ Some y → c.0 ≤ y.0)
        go true e h = let a = h (part, d) refl in let l : part < x.0 = less part x.0 e in ((λ d' f. a), (λ y f. let g : x ≡ y = cc in omega (arith, a, l, ap (λ (z : ℕ × Cause). z.0) g)))
          where
            less : (a b : ℕ) → ltb a b ≡ true → a < b
            less a b e = grind (arith, nat_tests, e)
        go false e h = let a = h x refl in let l : x.0 ≤ part = less part x.0 e in ((λ d' f. omega (arith, a, l)), (λ y f. h y f))
          where
            less : (a b : ℕ) → ltb a b ≡ false → b ≤ a
            less a b e = grind (arith, nat_tests, e)

-- ballots and messages
pub no_msg : (who : Attempt) (ms : List Msg) (b : Ballot) (c : Cause) → IsIn b (votes_for who ms) → b.vote ≡ VotesNo c → IsIn (No who b.part c) ms
no_msg who [] b c i e = absurd i
no_msg who (No x part d ∷ ms) b c i e =
    ⊎_elim
    (λ t. ⊎_elim
    (λ (is : b ≡ record { part = part; vote = VotesNo d }).
    let f : VotesNo d ≡ VotesNo c = sym (ap (λ (z : Ballot). z.vote) is) ∙ e in
    let g : d ≡ c = cc in
    let k : b.part ≡ part = ap (λ (z : Ballot). z.part) is in
    let w : x ≡ who = t.1 in
    inl (cc))
    (λ r. inr (no_msg who ms b c r e))
    (rw t.0 at i))
    (λ t. inr (no_msg who ms b c (rw t.0 at i) e))
    (attempt_tells x who)
no_msg who (Yes x part lo hi ∷ ms) b c i e =
    ⊎_elim
    (λ t. ⊎_elim
    (λ (is : b ≡ record { part = part; vote = VotesYes lo hi }). let f : VotesYes lo hi ≡ VotesNo c = sym (ap (λ (z : Ballot). z.vote) is) ∙ e in absurd (cc (f)))
    (λ r. inr (no_msg who ms b c r e))
    (rw t.0 at i))
    (λ t. inr (no_msg who ms b c (rw t.0 at i) e))
    (attempt_tells x who)
no_msg who (m ∷ ms) b c i e = inr (no_msg who ms b c i e)

msg_no : (who : Attempt) (ms : List Msg) (part : ℕ) (c : Cause) → IsIn (No who part c) ms → IsIn (record { part = part; vote = VotesNo c }) (votes_for who ms)
msg_no who [] part c i = absurd i
msg_no who (No x q d ∷ ms) part c i =
    ⊎_elim
    (λ (e : No who part c ≡ No x q d). let a1 : who ≡ x = cc in let a2 : part ≡ q = cc in let a3 : c ≡ d = cc in ⊎_elim (λ t. rw t.0 (inl (λ j. record { part = a2 j; vote = VotesNo (a3 j) }))) (λ t. absurd (t.1 (sym a1))) (attempt_tells x who))
    (λ r. let h = msg_no who ms part c r in ⊎_elim (λ t. rw t.0 (inr h)) (λ t. rw t.0 h) (attempt_tells x who))
    i
msg_no who (Yes x q lo hi ∷ ms) part c i =
    let h = msg_no who ms part c (⊎_elim (λ e. absurd (cc (e))) (λ r. r) i) in
    ⊎_elim (λ t. rw t.0 (inr h)) (λ t. rw t.0 h) (attempt_tells x who)
msg_no who (Ask x st k m ∷ ms) part c i = msg_no who ms part c (⊎_elim (λ e. absurd (cc (e))) (λ r. r) i)
msg_no who (m ∷ ms) part c i = msg_no who ms part c (⊎_elim (λ e. absurd (cc (e))) (λ r. r) i)

pub refusal_heard : (who : Attempt) (ms : List Msg) (r : Refusal) → refusal_for who ms ≡ Some r → IsIn (Refused who r.key r.cause) ms
refusal_heard who [] r e = absurd (cc (e))
refusal_heard who (Refused x k c ∷ ms) r e =
    ⊎_elim
    (λ t. let f : record { key = k; cause = c } ≡ r = some (rw t.0 at e) in inl (ap (λ (z : Refusal). Refused who z.key z.cause) (sym f) ∙ ap (λ z. Refused z k c) (sym t.1)))
    (λ t. inr (refusal_heard who ms r (rw t.0 at e)))
    (attempt_tells x who)
  where
    some : {x y : Refusal} → Some x ≡ Some y → x ≡ y
    some e = cc
refusal_heard who (Ask x st k m ∷ ms) r e = inr (refusal_heard who ms r e)
refusal_heard who (m ∷ ms) r e = inr (refusal_heard who ms r e)

-- the least partition with an end
record Least (end : Vote → ℕ) (n : ℕ) (bs : List Ballot) (p : ℕ) : Type 0 where
  is : least_part end n bs ≡ Some p
  by : Ballot
  here : IsIn by bs
  part : by.part ≡ p
  ends : end by.vote ≡ n
  least : (b : Ballot) → IsIn b bs → end b.vote ≡ n → p ≤ b.part

leasts : (end : Vote → ℕ) (n : ℕ) (bs : List Ballot) → ((b : Ballot) → IsIn b bs → end b.vote ≢ n) ⊎ ((p : ℕ) × Least end n bs p)
leasts end n [] = inl (λ b i. absurd i)
leasts end n (b ∷ bs) = ⊎_elim (λ t. has t.0 t.1 (leasts end n bs)) (λ t. lacks t.0 t.1 (leasts end n bs)) (eqb_tells (end b.vote) n)
  where
    lacks : eqb (end b.vote) n ≡ false → end b.vote ≢ n → ((b : Ballot) → IsIn b bs → end b.vote ≢ n) ⊎ ((p : ℕ) × Least end n bs p) → ((c : Ballot) → IsIn c (b ∷ bs) → end c.vote ≢ n) ⊎ ((p : ℕ) × Least end n (b ∷ bs) p)
    lacks e ne ih =
        ⊎_elim
        (λ h. inl (λ c i. ⊎_elim (λ (is : c ≡ b). subst (λ (z : Ballot). end z.vote ≢ n) (sym is) ne) (λ j. h c j) i))
        (λ h. inr (h.0, record { is = ap (λ z. lesser z b.part (least_part end n bs)) e ∙ h.1.is; by = h.1.by; here = inr h.1.here; part = h.1.part; ends = h.1.ends; least = λ c i f. ⊎_elim (λ (is : c ≡ b). absurd (ne (ap (λ (z : Ballot). end z.vote) (sym is) ∙ f))) (λ j. h.1.least c j f) i }))
        ih

    has : eqb (end b.vote) n ≡ true → end b.vote ≡ n → ((b : Ballot) → IsIn b bs → end b.vote ≢ n) ⊎ ((p : ℕ) × Least end n bs p) → ((c : Ballot) → IsIn c (b ∷ bs) → end c.vote ≢ n) ⊎ ((p : ℕ) × Least end n (b ∷ bs) p)
    has e is ih =
        ⊎_elim
        (λ h. inr (b.part, record { is = ap (λ z. lesser z b.part (least_part end n bs)) e ∙ ap (lesser true b.part) (none_least bs h); by = b; here = inl refl; part = refl; ends = is; least = λ c i f. ⊎_elim (λ (k : c ≡ b). omega (arith, ap (λ (z : Ballot). z.part) k)) (λ j. absurd (h c j f)) i }))
        (λ h. either (ltb b.part h.0) refl h.0 h.1)
        ih
      where
        none_least : (bs : List Ballot) → ((b : Ballot) → IsIn b bs → end b.vote ≢ n) → least_part end n bs ≡ None
        none_least [] h = refl
        none_least (c ∷ bs) h = ⊎_elim (λ t. absurd (h c (inl refl) t.1)) (λ t. rw t.0 (none_least bs (λ d j. h d (inr j)))) (eqb_tells (end c.vote) n)

        either : (t : Bool) {u : Bool} → u ≡ t → (p : ℕ) → Least end n bs p → ((c : Ballot) → IsIn c (b ∷ bs) → end c.vote ≢ n) ⊎ ((p : ℕ) × Least end n (b ∷ bs) p)
        either t eu p h = go (ltb b.part p) refl
          where
            first : least_part end n (b ∷ bs) ≡ Some (cond (ltb b.part p) b.part p)
            first = ap (λ z. lesser z b.part (least_part end n bs)) e ∙ ap (lesser true b.part) h.is

            go : (w : Bool) → ltb b.part p ≡ w → ((c : Ballot) → IsIn c (b ∷ bs) → end c.vote ≢ n) ⊎ ((p : ℕ) × Least end n (b ∷ bs) p)
            go true ew =
                let l : b.part < p = less b.part p ew in
                inr (b.part, record { is = first ∙ ap (λ z. Some (cond z b.part p)) ew; by = b; here = inl refl; part = refl; ends = is; least = λ c i f. ⊎_elim (λ (k : c ≡ b). omega (arith, ap (λ (z : Ballot). z.part) k)) (λ j. omega (arith, l, h.least c j f)) i })
              where
                less : (a b : ℕ) → ltb a b ≡ true → a < b
                less a b e = grind (arith, nat_tests, e)
            go false ew =
                let l : p ≤ b.part = less b.part p ew in
                inr (p, record { is = first ∙ ap (λ z. Some (cond z b.part p)) ew; by = h.by; here = inr h.here; part = h.part; ends = h.ends; least = λ c i f. ⊎_elim (λ (k : c ≡ b). omega (arith, l, ap (λ (z : Ballot). z.part) k)) (λ j. h.least c j f) i })
              where
                less : (a b : ℕ) → ltb a b ≡ false → b ≤ a
                less a b e = grind (arith, nat_tests, e)

-- the greatest lower end is that of a ballot, and so is the least upper end below the top
lo_taken : (bs : List Ballot) → 1 ≤ greatest_lo bs → (b : Ballot) × IsIn b bs × (lo_of b.vote ≡ greatest_lo bs)
lo_taken [] h = absurd (omega (arith, h))
lo_taken (b ∷ bs) h = ⊎_elim (λ e. (b, inl refl, sym e)) (λ e. let n = lo_taken bs (omega (arith, h, e)) in (n.0, inr n.1, n.2 ∙ sym e)) (either (lo_of b.vote) (greatest_lo bs))
  where
    either : (a c : ℕ) → (max a c ≡ a) ⊎ (max a c ≡ c)
    either a c = grind arith

hi_taken : (bs : List Ballot) → least_hi bs < 9223372036854775808 → (c : Ballot) × IsIn c bs × (hi_of c.vote ≡ least_hi bs)
hi_taken [] h = absurd (omega (arith, h))
hi_taken (c ∷ bs) h = ⊎_elim (λ e. (c, inl refl, sym e)) (λ e. let n = hi_taken bs (omega (arith, h, e)) in (n.0, inr n.1, n.2 ∙ sym e)) (either (hi_of c.vote) (least_hi bs))
  where
    either : (a c : ℕ) → (min a c ≡ a) ⊎ (min a c ≡ c)
    either a c = grind arith

named_key : (s : Setting) (H : List Entry) (l : AbortLine) (e : Entry) (before : List Entry) (key : Key) (c : Cause) → NamesKey key c → ByAsk s l key e before → NamedBy s H l e before c
named_key s H l e before key (Held k by) n b = subst (λ q. ByAsk s l q e before) (sym n) b
named_key s H l e before key (Younger k by age) n b = subst (λ q. ByAsk s l q e before) (sym n) b
named_key s H l e before key (Written k st) n b = subst (λ q. ByAsk s l q e before) (sym n) b
named_key s H l e before key (ReadLater k st) n b = subst (λ q. ByAsk s l q e before) (sym n) b
named_key s H l e before key (Trimmed k f) n b = subst (λ q. ByAsk s l q e before) (sym n) b
named_key s H l e before key (EmptyRange lo k hi by) n b = absurd n
named_key s H l e before key (Apart lo lp hi hp) n b = absurd n

named_range : (s : Setting) (H : List Entry) (l : AbortLine) (e : Entry) (before : List Entry) (c : Cause) → NamesRange c → ByPrepare s H l e before → NamedBy s H l e before c
named_range s H l e before (EmptyRange lo k hi by) n b = b
named_range s H l e before (Held k by) n b = absurd n
named_range s H l e before (Younger k by age) n b = absurd n
named_range s H l e before (Written k st) n b = absurd n
named_range s H l e before (ReadLater k st) n b = absurd n
named_range s H l e before (Trimmed k f) n b = absurd n
named_range s H l e before (Apart lo lp hi hp) n b = absurd n

-- the votes that came with the newest vote are all
votes_kept : (who : Attempt) (p : ℕ) (after : List Entry) (rest : List Entry) → ((y : Entry) → IsIn y after → (eqb y.node p && is_vote_of who y.msg) ≡ false) → votes_for who (heard p (after ++ rest)) ≡ votes_for who (heard p rest)
votes_kept who p [] rest h = refl
votes_kept who p (y ∷ after) rest h = go (eqb y.node p) (h y (inl refl)) (votes_kept who p after rest (λ z i. h z (inr i)))
  where
    skip : (m : Msg) (ms : List Msg) → is_vote_of who m ≡ false → votes_for who (m ∷ ms) ≡ votes_for who ms
    skip (Yes x part lo hi) ms e = rw e
    skip (No x part c) ms e = rw e
    skip (Start x) ms e = refl
    skip m ms e = refl

    go : (b : Bool) → (b && is_vote_of who y.msg) ≡ false → votes_for who (heard p (after ++ rest)) ≡ votes_for who (heard p rest) → votes_for who (cond b (y.msg ∷ heard p (after ++ rest)) (heard p (after ++ rest))) ≡ votes_for who (heard p rest)
    go true e ih = skip y.msg (heard p (after ++ rest)) e ∙ ih
    go false e ih = ih

module _ (s : Setting) (v : Valid s) (nm : Naming s.rule) (H : List Entry) (flight : List Mail) (g : Good s H flight) (b : ℕ) (top : b < 2 ^ 48) (u : Under s H flight b) where
  entry_at : (after : List Entry) (e : Entry) (before : List Entry) → H ≡ after ++ e ∷ before → IsIn e.msg (heard e.node H)
  entry_at after e before is = subst (λ l. IsIn e.msg (heard e.node l)) (sym is) (subst (λ l. IsIn e.msg l) (sym (heard_split e.node after e before refl)) (in_right e.msg (heard e.node after) (e.msg ∷ heard e.node before) (inl refl)))

  by_refusal : (who : Attempt) (r : Refusal) → refusal_for who (at_home s H who) ≡ Some r → (l : AbortLine) → IsIn l (line_at who r.cause (newest (λ e. is_ask_of who r.key e.msg) H)) → IsNamed s H l
  by_refusal who r er l i =
      let ln = line_is who r.cause (newest (λ e. is_ask_of who r.key e.msg) H) l i in
      let e : Entry = ln.0 in
      let n = newest_is (λ e. is_ask_of who r.key e.msg) H e ln.1 in
      let f = said_at s v H flight g who (home s who.txn) (Refused who r.key r.cause) (refusal_heard who (at_home s H who) r er) (λ y d. absurd (cc (d))) in
      let a = refused_said s v f.1 who r.key r.cause (heard f.1 H) f.0 f.2 f.4 in
      let at : e.node ≡ f.1 = asked_at e.msg n.passes (entry_at n.after e n.before n.is) ∙ f.5.1 in
      let two : heard f.1 H ≡ heard f.1 n.after ++ e.msg ∷ heard f.1 n.before = ap (heard f.1) n.is ∙ heard_split f.1 n.after e n.before at in
      let once : count_msgs (is_ask who r.key) (heard f.1 H) ≤ 1 = subst (λ q. count_msgs (is_ask who r.key) (heard q H) ≤ 1) f.5.1 (omega (arith, ask_ledger s v H flight g who r.key, at_most_one s v H flight g who r.key)) in
      let same = split_same (is_ask who r.key) (heard f.1 n.after) a.late e.msg (Ask who a.stamp r.key a.mode) (heard f.1 n.before) a.early (sym two ∙ a.is) (is_same e.msg n.passes) (key_itself r.key) (subst (λ z. count_msgs (is_ask who r.key) z ≤ 1) two once) in
      subst (IsNamed s H) (sym ln.2) (record {
        entry = e;
        before = n.before;
        stands = record { after = n.after; is = n.is };
        place = refl;
        node = refl;
        found = named_key s H (record { who = who; place = e.place; node = e.node; cause = r.cause }) e n.before r.key r.cause (nm.asks (loaded_at s f.1) (calls s f.1 a.early) who a.stamp r.key a.mode r.cause a.answer) (record {
          stamp = a.stamp;
          mode = a.mode;
          msg = same.0;
          answer = subst (λ q. (rule_at s q).ask (calls s q (heard q n.before)) who a.stamp r.key a.mode ≡ Refuses r.cause) (sym at) (subst (λ ms. (rule_at s f.1).ask (calls s f.1 ms) who a.stamp r.key a.mode ≡ Refuses r.cause) (sym same.1) a.answer);
        });
      })
    where
      key_itself : (key : Key) → (attempt_eq who who && key_eq key key) ≡ true
      key_itself key = grind (arith, attempt_tells who who, key_tells key key)

      is_same : (m : Msg) → is_ask_of who r.key m ≡ true → is_ask who r.key m ≡ true
      is_same (Ask x st k md) e = e
      is_same (Start x) e = absurd (true≢false (sym e))
      is_same m e = absurd (true≢false (sym e))

      asked_at : {p : ℕ} (m : Msg) → is_ask_of who r.key m ≡ true → IsIn m (heard p H) → p ≡ partition_of r.key s.parts
      asked_at {p} (Ask x st k md) e j =
          let f = fit_of s p (Ask x st k md) (heard p H) (g.fit p) j in
          sym f.2.1 ∙ ap (λ q. partition_of q s.parts) ((key_decides k r.key).0 (and_parts (attempt_eq x who) (key_eq k r.key) e).1)
      asked_at (Start x) e j = absurd (true≢false (sym e))
      asked_at m e j = absurd (true≢false (sym e))

  by_no : (who : Attempt) (c : ℕ × Cause) → first_no None (votes_for who (at_home s H who)) ≡ Some c → (l : AbortLine) → IsIn l (line_at who c.1 (newest (λ e. eqb e.node c.0 && is_prepare_of who e.msg) H)) → IsNamed s H l
  by_no who c ec l i =
      let ln = line_is who c.1 (newest (λ e. eqb e.node c.0 && is_prepare_of who e.msg) H) l i in
      let e : Entry = ln.0 in
      let n = newest_is (λ e. eqb e.node c.0 && is_prepare_of who e.msg) H e ln.1 in
      let ps = and_parts (eqb e.node c.0) (is_prepare_of who e.msg) n.passes in
      let at : e.node ≡ c.0 = eqb_is e.node c.0 ps.0 in
      let fn = first_no_is None (votes_for who (at_home s H who)) c ec in
      let bl = some_ballot fn.0 in
      let m : IsIn (No who c.0 c.1) (at_home s H who) = subst (λ q. IsIn (No who q c.1) (at_home s H who)) bl.2 (no_msg who (at_home s H who) bl.0 c.1 bl.1 bl.3) in
      let f = said_at s v H flight g who (home s who.txn) (No who c.0 c.1) m (λ y d. absurd (cc (d))) in
      let a = no_said s v f.1 who c.0 c.1 (heard f.1 H) f.0 f.2 f.4 in
      let at' : e.node ≡ f.1 = at ∙ f.5.1 in
      let two : heard f.1 H ≡ heard f.1 n.after ++ e.msg ∷ heard f.1 n.before = ap (heard f.1) n.is ∙ heard_split f.1 n.after e n.before at' in
      let once : count_msgs (is_prepare who) (heard f.1 H) ≤ 1 = omega (arith, prepare_ledger s v H flight g who f.1, prepares_once s v H flight g who f.1) in
      let same = split_same (is_prepare who) (heard f.1 n.after) a.late e.msg (Prepare who a.bound a.writes a.appends) (heard f.1 n.before) a.early (sym two ∙ a.is) (is_same e.msg ps.1) itself (subst (λ z. count_msgs (is_prepare who) z ≤ 1) two once) in
      subst (IsNamed s H) (sym ln.2) (record {
        entry = e;
        before = n.before;
        stands = record { after = n.after; is = n.is };
        place = refl;
        node = refl;
        found = named_range s H (record { who = who; place = e.place; node = e.node; cause = c.1 }) e n.before c.1 (nm.votes (loaded_at s f.1) (calls s f.1 a.early) who a.bound a.writes a.appends c.1 a.vote) (record {
          bound = a.bound;
          writes = a.writes;
          appends = a.appends;
          msg = same.0;
          vote = subst (λ q. (rule_at s q).vote (calls s q (heard q n.before)) who a.bound a.writes a.appends ≡ VotesNo c.1) (sym at') (subst (λ ms. (rule_at s f.1).vote (calls s f.1 ms) who a.bound a.writes a.appends ≡ VotesNo c.1) (sym same.1) a.vote);
          least = λ part d j. subst (λ q. q ≤ part) (sym at) (fn.1 (record { part = part; vote = VotesNo d }) d (msg_no who (at_home s H who) part d j) refl);
        });
      })
    where
      itself : attempt_eq who who ≡ true
      itself = ⊎_elim (λ t. t.0) (λ f. absurd (f.1 refl)) (attempt_tells who who)

      eqb_is : (a b : ℕ) → eqb a b ≡ true → a ≡ b
      eqb_is a b e = grind (arith, nat_tests)

      is_same : (m : Msg) → is_prepare_of who m ≡ true → is_prepare who m ≡ true
      is_same (Prepare x b w a) e = e
      is_same (Start x) e = absurd (true≢false (sym e))
      is_same m e = absurd (true≢false (sym e))

      some_ballot : (None ≡ Some c) ⊎ ((b : Ballot) × IsIn b (votes_for who (at_home s H who)) × (b.part ≡ c.0) × (b.vote ≡ VotesNo c.1)) → (b : Ballot) × IsIn b (votes_for who (at_home s H who)) × (b.part ≡ c.0) × (b.vote ≡ VotesNo c.1)
      some_ballot h = ⊎_elim (λ e. absurd (cc (e))) (λ x. x) h

  by_votes : (who : Attempt) → all_voted (votes_for who (at_home s H who)) (participants s who) ≡ true → first_no None (votes_for who (at_home s H who)) ≡ None → least_hi (votes_for who (at_home s H who)) < greatest_lo (votes_for who (at_home s H who)) → (l : AbortLine) → IsIn l (line_at who (apart_of (votes_for who (at_home s H who))) (newest (λ e. eqb e.node (home s who.txn) && is_vote_of who e.msg) H)) → IsNamed s H l
  by_votes who av fn lt l i =
      let bs : List Ballot = votes_for who (at_home s H who) in
      let ln = line_is who (apart_of bs) (newest (λ e. eqb e.node (home s who.txn) && is_vote_of who e.msg) H) l i in
      let e : Entry = ln.0 in
      let n = newest_is (λ e. eqb e.node (home s who.txn) && is_vote_of who e.msg) H e ln.1 in
      let ps = and_parts (eqb e.node (home s who.txn)) (is_vote_of who e.msg) n.passes in
      let at : e.node ≡ home s who.txn = eqb_is e.node (home s who.txn) ps.0 in
      let kept : votes_for who (heard e.node (e ∷ n.before)) ≡ bs
      = ap (λ q. votes_for who (heard q (e ∷ n.before))) at ∙ sym (votes_kept who (home s who.txn) n.after (e ∷ n.before) n.none) ∙ ap (λ z. votes_for who (heard (home s who.txn) z)) (sym n.is) in
      let under : greatest_lo bs ≤ b = votes_under b who (at_home s H who) (u.handled (home s who.txn)) in
      let small : least_hi bs < 9223372036854775808 = big (least_hi bs) b (omega (arith, lt, under)) top in
      let lo = lo_taken bs (omega (arith, lt)) in
      let hi = hi_taken bs small in
      let lo_l = has lo_of (greatest_lo bs) bs lo.0 lo.1 lo.2 in
      let hi_l = has hi_of (least_hi bs) bs hi.0 hi.1 hi.2 in
      let lo_p : part_or (least_part lo_of (greatest_lo bs) bs) ≡ lo_l.0 = ap part_or lo_l.1.is in
      let hi_p : part_or (least_part hi_of (least_hi bs) bs) ≡ hi_l.0 = ap part_or hi_l.1.is in
      subst (IsNamed s H) (sym ln.2) (record {
        entry = e;
        before = n.before;
        stands = record { after = n.after; is = n.is };
        place = refl;
        node = refl;
        found = record {
          node = at;
          vote = ps.1;
          last = subst (λ z. all_voted z (participants s who) ≡ true) (sym kept) av;
          yes' = λ c j. let k = subst (λ z. IsIn c z) kept j in let y = (all_yes None bs fn).1 c k in (y.0, y.1, y.2, omega (arith, lo_under bs c k, ap lo_of y.2), omega (arith, hi_over bs c k, ap hi_of y.2));
          lo_by = (lo_l.1.by, subst (λ z. IsIn lo_l.1.by z) (sym kept) lo_l.1.here, lo_l.1.part ∙ sym lo_p, lo_l.1.ends);
          lo_least = λ c j f. subst (λ q. q ≤ c.part) (sym lo_p) (lo_l.1.least c (subst (λ z. IsIn c z) kept j) f);
          hi_by = (hi_l.1.by, subst (λ z. IsIn hi_l.1.by z) (sym kept) hi_l.1.here, hi_l.1.part ∙ sym hi_p, hi_l.1.ends);
          hi_least = λ c j f. subst (λ q. q ≤ c.part) (sym hi_p) (hi_l.1.least c (subst (λ z. IsIn c z) kept j) f);
          apart = lt;
        };
      })
    where
      eqb_is : (a b : ℕ) → eqb a b ≡ true → a ≡ b
      eqb_is a b e = grind (arith, nat_tests)

      big : (a b : ℕ) → a ≤ b → b < 2 ^ 48 → a < 9223372036854775808
      big a b h t = omega (arith, h, t)

      has : (end : Vote → ℕ) (n : ℕ) (bs : List Ballot) (c : Ballot) → IsIn c bs → end c.vote ≡ n → (p : ℕ) × Least end n bs p
      has end n bs c j e = ⊎_elim (λ h. absurd (h c j e)) (λ h. h) (leasts end n bs)

  by_end : (who : Attempt) (o : Option Refusal) → refusal_for who (at_home s H who) ≡ o → (l : AbortLine) → IsIn l (abort_lines s H who o) → IsNamed s H l
  by_end who (Some r) e l i = by_refusal who r e l i
  by_end who None e l i = go (started_for who (at_home s H who)) (all_voted (votes_for who (at_home s H who)) (participants s who)) refl i
    where
      voted : all_voted (votes_for who (at_home s H who)) (participants s who) ≡ true → (c : Option (ℕ × Cause)) → first_no None (votes_for who (at_home s H who)) ≡ c → IsIn l (vote_abort s H who (votes_for who (at_home s H who)) c) → IsNamed s H l
      voted av (Some c) ec i = by_no who c ec l i
      voted av None ec i = apart (ltb (least_hi (votes_for who (at_home s H who))) (greatest_lo (votes_for who (at_home s H who)))) refl i
        where
          less : (a b : ℕ) → ltb a b ≡ true → a < b
          less a b e = grind (arith, nat_tests, e)

          apart : (t : Bool) → ltb (least_hi (votes_for who (at_home s H who))) (greatest_lo (votes_for who (at_home s H who))) ≡ t → IsIn l (cond t (line_at who (apart_of (votes_for who (at_home s H who))) (newest (λ e. eqb e.node (home s who.txn) && is_vote_of who e.msg) H)) []) → IsNamed s H l
          apart true et i = by_votes who av ec (less (least_hi (votes_for who (at_home s H who))) (greatest_lo (votes_for who (at_home s H who))) et) l i
          apart false et i = absurd i

      go : (a w : Bool) → all_voted (votes_for who (at_home s H who)) (participants s who) ≡ w → IsIn l (cond (a && w) (vote_abort s H who (votes_for who (at_home s H who)) (first_no None (votes_for who (at_home s H who)))) []) → IsNamed s H l
      go true true ew i = voted ew (first_no None (votes_for who (at_home s H who))) refl i
      go true false ew i = absurd i
      go false w ew i = absurd i

  pub named : (l : AbortLine) → IsIn l (aborts_of s H) → IsNamed s H l
  named l i = let x = in_flat (λ x. turns s H x s.attempts) s.ids l i in by_turn x.0 s.attempts x.2
    where
      by_turn : (x : TxnId) (n : ℕ) → IsIn l (turns s H x n) → IsNamed s H l
      by_turn x zero i = absurd i
      by_turn x (suc n) i =
          ⊎_elim
          (λ a. by_turn x n a)
          (λ c. by_end (attempt x (suc n)) (refusal_for (attempt x (suc n)) (at_home s H (attempt x (suc n)))) refl l c)
          (in_cases l (turns s H x n) (abort_lines s H (attempt x (suc n)) (refusal_for (attempt x (suc n)) (at_home s H (attempt x (suc n))))) i)
