-- Tests on messages, and which of a node's two halves says none that pass.
use Rattle.std.proofs.Common.{◌≡◌, ℕ, suc, ◌+◌, ltb, leb, List, [], ◌∷◌, length, map, slice_get, reverse, Bool, true, false, cond, ◌&&◌, eqb, refl, arith, Option, Some, None}
use Rattle.deneva_base.specs.declared.keys.Key.{Key}
use Rattle.deneva_base.specs.declared.numbers.TxnId.{TxnId}
use Rattle.deneva_base.specs.declared.numbers.Attempt.{Attempt}
use Rattle.deneva_base.specs.declared.numbers.Number.{Number}
use Rattle.deneva_base.specs.declared.keys.Mode.{Mode}
use Rattle.deneva_base.specs.Rows.{Row}
use Rattle.deneva_base.specs.Keys.{attempt_eq, key_eq}
use Rattle.deneva_base.specs.declared.causes.Cause.{Cause}
use Rattle.deneva_base.specs.declared.causes.Bound.{Bound}
use Rattle.deneva_base.specs.declared.rows.Keyed.{Keyed}
use Rattle.deneva_base.specs.declared.answers.Answer.{Answer}
use Rattle.deneva_base.specs.declared.answers.Answer.TheVariants.{Granted as Gives, Waits, Refused as Refuses}
use Rattle.deneva_base.specs.declared.answers.Vote.{Vote}
use Rattle.deneva_base.specs.declared.answers.Vote.TheVariants.{Yes as VotesYes, No as VotesNo}
use Rattle.deneva_base.specs.declared.answers.Wake.{Wake}
use Rattle.server_core.specs.declared.messages.Msg.{Msg}
use Rattle.server_core.specs.declared.messages.Msg.TheVariants.{Start, Ask, Granted, Refused, Prepare, Yes, No, Commit, Abort, Done, Undone}
use Rattle.server_core.specs.declared.messages.Mail.{Mail}
use Rattle.server_core.specs.Setting.{Setting, rule_at, homes, participants}
use Rattle.deneva_base.specs.declared.keys.Access.{Access}
use Rattle.server_core.specs.Received.{Reply, grants_for, votes_for, closes_for, all_voted, all_closed}
use Rattle.server_core.specs.declared.ballots.Ballot.{Ballot}
use Rattle.server_core.specs.Coordinator.{told, first_no, decision, coordinator, next_ask, next_start, mail_start, prepare_to, effect_of, to_all, bound_of, asked_partitions, overs, polled, greatest_lo, least_hi}
use Rattle.server_core.specs.Participant.{calls, participant, answer_mails, vote_mail, mail_home, wake_mails}
use Rattle.server_core.specs.Voting.{says}
use Rattle.server_core.specs.Stamps.{stamp_from, stamped}
use Rattle.server_core.specs.Counts.{all_said, count}
use Rattle.server_core.proofs.counts.Conserved.{count-append}
use Rattle.server_core.proofs.counts.Local.{sent_to}

abbrev pub is_ask : Attempt → Key → Msg → Bool
is_ask who key (Ask x stamp k mode) = attempt_eq x who && key_eq k key
is_ask who key m = false

abbrev pub is_answer : Attempt → Key → Msg → Bool
is_answer who key (Granted x k row version bound) = attempt_eq x who && key_eq k key
is_answer who key (Refused x k cause) = attempt_eq x who && key_eq k key
is_answer who key m = false

abbrev pub is_prepare : Attempt → Msg → Bool
is_prepare who (Prepare x bound writes appends) = attempt_eq x who
is_prepare who m = false

abbrev pub is_vote : Attempt → ℕ → Msg → Bool
is_vote who q (Yes x part lo hi) = attempt_eq x who && eqb part q
is_vote who q (No x part cause) = attempt_eq x who && eqb part q
is_vote who q m = false

abbrev pub is_end : Attempt → Msg → Bool
is_end who (Commit x number) = attempt_eq x who
is_end who (Abort x) = attempt_eq x who
is_end who m = false

abbrev pub is_close : Attempt → ℕ → Msg → Bool
is_close who q (Done x part) = attempt_eq x who && eqb part q
is_close who q (Undone x part) = attempt_eq x who && eqb part q
is_close who q m = false

pub count_map : {A : Type 0} (t : Mail → Bool) (f : A → Mail) (xs : List A) → ((x : A) → t (f x) ≡ false) → count t (map f xs) ≡ 0
count_map t f [] h = refl
count_map t f (x ∷ xs) h = let e : t (f x) ≡ false = h x in rw e (omega (arith, count_map t f xs h))

pub if_none : (t : Mail → Bool) (b : Bool) (xs : List Mail) → count t xs ≡ 0 → count t (cond b xs []) ≡ 0
if_none t true xs e = e
if_none t false xs e = refl

pub if_two : (t : Mail → Bool) (b : Bool) (xs ys : List Mail) → count t xs ≡ 0 → count t ys ≡ 0 → count t (cond b xs ys) ≡ 0
if_two t true xs ys e f = e
if_two t false xs ys e f = f

-- the test passes no message of a coordinator, or of these kinds of one
pub record NoEnds (t : Msg → Bool) : Type 0 where
  pub commit : (x : Attempt) (number : Number) → t (Commit x number) ≡ false
  pub abort : (x : Attempt) → t (Abort x) ≡ false

pub record NoAsks (t : Msg → Bool) : Type 0 where
  pub ask : (x : Attempt) (stamp : ℕ) (key : Key) (mode : Mode) → t (Ask x stamp key mode) ≡ false
  pub prepare : (x : Attempt) (bound : Bound) (writes appends : List Keyed) → t (Prepare x bound writes appends) ≡ false

pub record NoStarts (t : Msg → Bool) : Type 0 where
  pub start : (x : Attempt) → t (Start x) ≡ false

pub record NoReplies (t : Msg → Bool) : Type 0 where
  pub granted : (x : Attempt) (key : Key) (row : Row) (version : Number) (bound : ℕ) → t (Granted x key row version bound) ≡ false
  pub refused : (x : Attempt) (key : Key) (cause : Cause) → t (Refused x key cause) ≡ false
  pub yes' : (x : Attempt) (part lo hi : ℕ) → t (Yes x part lo hi) ≡ false
  pub no' : (x : Attempt) (part : ℕ) (cause : Cause) → t (No x part cause) ≡ false
  pub done : (x : Attempt) (part : ℕ) → t (Done x part) ≡ false
  pub undone : (x : Attempt) (part : ℕ) → t (Undone x part) ≡ false

module _ (s : Setting) (p q : ℕ) (t : Msg → Bool) where
  mail_off : (x : Mail) → t x.msg ≡ false → sent_to q t x ≡ false
  mail_off x e = grind (arith, e)

  none_start : NoStarts t → (o : Option TxnId) → count (sent_to q t) (mail_start p o) ≡ 0
  none_start n None = refl
  none_start n (Some x) = let e : t (Start (record { txn = x; turn = 1 })) ≡ false = n.start (record { txn = x; turn = 1 }) in rw e (omega arith)

  pub none_next : NoAsks t → (x : Attempt) (stamp : ℕ) (rs : List Reply) (o : Option Access) → count (sent_to q t) (next_ask s p x stamp rs o) ≡ 0
  none_next n x stamp rs None = count_map (sent_to q t) (prepare_to s p x (bound_of rs) (effect_of s x.txn rs)) (participants s x) (λ r. rw (n.prepare x (bound_of rs) _ _))
  none_next n x stamp rs (Some a) = let e : t (Ask x stamp a.key a.mode) ≡ false = n.ask x stamp a.key a.mode in rw e (omega arith)

  pub none_all : (m : Msg) (qs : List ℕ) → t m ≡ false → count (sent_to q t) (to_all p m qs) ≡ 0
  none_all m qs e = count_map (sent_to q t) (λ r. record { from = p; to = r; msg = m }) qs (λ r. rw e)

  none_decision : NoEnds t → (x : Attempt) (bs : List Ballot) (o : Option (ℕ × Cause)) → t (decision x bs o) ≡ false
  none_decision n x bs (Some c) = n.abort x
  none_decision n x bs None = either (leb (greatest_lo bs) (least_hi bs))
    where
      either : (b : Bool) → t (cond b (Commit x (record { n = greatest_lo bs; id = x.txn })) (Abort x)) ≡ false
      either true = n.commit x (record { n = greatest_lo bs; id = x.txn })
      either false = n.abort x

  pub none_polled : NoEnds t → (x : Attempt) (bs : List Ballot) → count (sent_to q t) (polled s p x bs) ≡ 0
  none_polled n x bs = if_none (sent_to q t) (all_voted bs (participants s x)) (to_all p (decision x bs (first_no None bs)) (participants s x)) (none_all (decision x bs (first_no None bs)) (participants s x) (none_decision n x bs (first_no None bs)))

  pub none_done : NoStarts t → (x : Attempt) (part : ℕ) (ms : List Msg) → count (sent_to q t) (coordinator s p (Done x part) ms) ≡ 0
  none_done n x part ms = if_none (sent_to q t) (all_closed (part ∷ closes_for x ms) (told s ms x)) (next_start s p (overs s ms)) (none_start n (slice_get (homes s p) (s.limit + overs s ms)))

  pub none_undone : NoStarts t → (x : Attempt) (part : ℕ) (ms : List Msg) → count (sent_to q t) (coordinator s p (Undone x part) ms) ≡ 0
  none_undone n x part ms =
      if_none (sent_to q t) (all_closed (part ∷ closes_for x ms) (told s ms x)) (cond (ltb x.turn s.attempts) (again ∷ []) (next_start s p (overs s ms)))
      (if_two (sent_to q t) (ltb x.turn s.attempts) (again ∷ []) (next_start s p (overs s ms)) (let e : t again.msg ≡ false = n.start (record { txn = x.txn; turn = suc x.turn }) in rw e (omega arith)) (none_start n (slice_get (homes s p) (s.limit + overs s ms))))
    where
      again : Mail
      again = record { from = p; to = p; msg = Start (record { txn = x.txn; turn = suc x.turn }) }

  pub none_coordinator : NoAsks t → NoEnds t → NoStarts t → (m : Msg) (ms : List Msg) → count (sent_to q t) (coordinator s p m ms) ≡ 0
  none_coordinator a e n (Start x) ms = none_next a x (stamp_from s p (Start x ∷ ms) (stamped s x)) [] (slice_get (s.accesses x.txn) 0)
  none_coordinator a e n (Granted x key row version bound) ms = none_next a x (stamp_from s p ms (stamped s x)) (reverse (record { row = row; bound = bound; key = key } ∷ grants_for x ms)) (slice_get (s.accesses x.txn) (suc (length (grants_for x ms))))
  none_coordinator a e n (Refused x key cause) ms = none_all (Abort x) (asked_partitions s ms x) (e.abort x)
  none_coordinator a e n (Yes x part lo hi) ms = none_polled e x (record { part = part; vote = VotesYes lo hi } ∷ votes_for x ms)
  none_coordinator a e n (No x part cause) ms = none_polled e x (record { part = part; vote = VotesNo cause } ∷ votes_for x ms)
  none_coordinator a e n (Done x part) ms = none_done n x part ms
  none_coordinator a e n (Undone x part) ms = none_undone n x part ms
  none_coordinator a e n m ms = refl

  none_answers : NoReplies t → (x : Attempt) (key : Key) (a : Answer) → count (sent_to q t) (answer_mails s p x key a) ≡ 0
  none_answers n x key (Gives row version bound) = let e : t (Granted x key row version bound) ≡ false = n.granted x key row version bound in rw e (omega arith)
  none_answers n x key Waits = refl
  none_answers n x key (Refuses cause) = let e : t (Refused x key cause) ≡ false = n.refused x key cause in rw e (omega arith)

  none_vote : NoReplies t → (x : Attempt) (v : Vote) → count (sent_to q t) (vote_mail s p x v ∷ []) ≡ 0
  none_vote n x (VotesYes lo hi) = let e : t (Yes x p lo hi) ≡ false = n.yes' x p lo hi in rw e (omega arith)
  none_vote n x (VotesNo cause) = let e : t (No x p cause) ≡ false = n.no' x p cause in rw e (omega arith)

  none_wakes : NoReplies t → (ws : List Wake) → count (sent_to q t) (wake_mails s p ws) ≡ 0
  none_wakes n ws = count_map (sent_to q t) (λ w. mail_home s p w.who (Granted w.who w.key w.row w.version w.bound)) ws (λ w. rw (n.granted w.who w.key w.row w.version w.bound))

  pub none_participant : NoReplies t → (m : Msg) (ms : List Msg) → count (sent_to q t) (participant s p m ms) ≡ 0
  none_participant n (Ask x stamp key mode) ms = none_answers n x key ((rule_at s p).ask (calls s p ms) x stamp key mode)
  none_participant n (Prepare x bound writes appends) ms = none_vote n x ((rule_at s p).vote (calls s p ms) x bound writes appends)
  none_participant n (Commit x number) ms = let e : t (Done x p) ≡ false = n.done x p in rw e (omega (arith, none_wakes n ((rule_at s p).commit (calls s p ms) x number)))
  none_participant n (Abort x) ms = let e : t (Undone x p) ≡ false = n.undone x p in rw e (omega (arith, none_wakes n ((rule_at s p).abort (calls s p ms) x)))
  none_participant n m ms = refl

  -- one more message
  pub more_said : (m : Msg) (ms : List Msg) → count (sent_to q t) (all_said (says s) p (m ∷ ms)) ≡ count (sent_to q t) (coordinator s p m ms) + count (sent_to q t) (participant s p m ms) + count (sent_to q t) (all_said (says s) p ms)
  more_said m ms = omega (arith, count-append (sent_to q t) (says s p (m ∷ ms)) (all_said (says s) p ms), count-append (sent_to q t) (coordinator s p m ms) (participant s p m ms))

  -- only a Start and a grant bring asks
  pub none_late : NoEnds t → NoStarts t → (m : Msg) (ms : List Msg) → ((x : Attempt) → m ≡ Start x → ⊥) → ((x : Attempt) (k : Key) (r : Row) (v : Number) (b : ℕ) → m ≡ Granted x k r v b → ⊥) → count (sent_to q t) (coordinator s p m ms) ≡ 0
  none_late e n (Start x) ms start grant = absurd (start x refl)
  none_late e n (Granted x k r v b) ms start grant = absurd (grant x k r v b refl)
  none_late e n (Refused x key cause) ms start grant = none_all (Abort x) (asked_partitions s ms x) (e.abort x)
  none_late e n (Yes x part lo hi) ms start grant = none_polled e x (record { part = part; vote = VotesYes lo hi } ∷ votes_for x ms)
  none_late e n (No x part cause) ms start grant = none_polled e x (record { part = part; vote = VotesNo cause } ∷ votes_for x ms)
  none_late e n (Done x part) ms start grant = none_done n x part ms
  none_late e n (Undone x part) ms start grant = none_undone n x part ms
  none_late e n m ms start grant = refl
