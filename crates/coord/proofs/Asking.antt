-- A grant and a refusal: the state after it, and what is said.
use Rattle.std.proofs.Common.{◌≡◌, ℕ, suc, ◌+◌, ◌≤◌, ◌==◌, List, [], ◌∷◌, ◌++◌, length, map, reverse, slice_get, true, refl, sym, ap, ap₂, ◌∙◌, subst, inl, inr, arith, Option, Some, None}
use Rattle.deneva_base.specs.declared.causes.Bound.{Bound}
use Rattle.deneva_base.specs.declared.causes.Cause.{Cause}
use Rattle.deneva_base.specs.declared.keys.Access.{Access}
use Rattle.deneva_base.specs.declared.keys.Key.{Key}
use Rattle.deneva_base.specs.declared.keys.Mode.{Mode}
use Rattle.deneva_base.specs.declared.numbers.Attempt.{Attempt}
use Rattle.deneva_base.specs.declared.numbers.Number.{Number}
use Rattle.deneva_base.specs.declared.numbers.TxnId.{TxnId}
use Rattle.deneva_base.specs.declared.rows.Keyed.{Keyed}
use Rattle.deneva_base.specs.Rows.{Row}
use Rattle.server_core.specs.declared.messages.Mail.{Mail}
use Rattle.server_core.specs.declared.messages.Msg.{Msg}
use Rattle.server_core.specs.declared.messages.Msg.TheVariants.{Granted, Refused, Abort}
use Rattle.server_core.specs.Coordinator.{coordinator, next_ask, prepare_to, effect_of, reads_of, bound_of, to_all, ask_of}
use Rattle.server_core.specs.Received.{Reply, all_voted, all_closed}
use Rattle.server_core.specs.Setting.{Setting, take_first, partitions_of, participants_for}
use Rattle.server_core.specs.VotingFits.{AllFit, IsAsking}
use Rattle.server_core.proofs.counts.Prepares.{slice_some, slice_none}
use Rattle.coord.specs.Bounds.{bound_with}
use Rattle.coord.specs.Left.{left_to_vote, left_to_close}
use Rattle.coord.specs.States.{State, taken, going_on, next_mails, granted, granted_as, granted_mails, mails_as, refused, refused_mails, participants_of, row_read, asked_of}
use Rattle.coord.specs.Following.{Heard, heard_of, turns_of, Asks, IsInPhase, IsCurrent, Follows}
use Rattle.coord.proofs.Lists.{row_more, some_part, none_voted, none_closed}
use Rattle.coord.proofs.OneMore.{bound_newest, voted_first, closed_first}
use Rattle.coord.proofs.Phases.{asks_met}
use Rattle.coord.proofs.Turns.{itself}

-- what a message makes of the current attempt of its transaction, and what is said
pub record Moves (s : Setting) (p : ℕ) (x : TxnId) (m : Msg) (ms : List Msg) (o : Option State) (next : State → Option State) (mails : State → List Mail) : Type 0 where
  pub state : State
  pub is : o ≡ Some state
  pub now : IsCurrent s x (turns_of s p ms x) state
  pub follows : Follows s x (turns_of s p (m ∷ ms) x) (next state)
  pub says : coordinator s p m ms ≡ mails state

-- an attempt goes on, at the same turn and with the same stamp
pub goes_on : (s : Setting) (x : TxnId) (h k : ℕ → Heard) (t u : State) → IsCurrent s x h t → u.turn ≡ t.turn → u.accesses ≡ t.accesses → u.stamp ≡ t.stamp → ((n : ℕ) → (k n).started ≡ (h n).started) → ((n : ℕ) → (k n).stamp ≡ (h n).stamp) → IsInPhase s x (k t.turn) u → IsCurrent s x k u
goes_on s x h k t u c turn as' stamp started stamps phase = record {
  started = ap (λ n. (k n).started) turn ∙ started t.turn ∙ c.started;
  latest = λ n e. subst (λ m. n ≤ m) (sym turn) (c.latest n (sym (started n) ∙ e));
  accesses = as' ∙ c.accesses;
  stamp = stamp ∙ c.stamp ∙ sym (stamps t.turn) ∙ ap (λ n. (k n).stamp) (sym turn);
  phase = subst (λ n. IsInPhase s x (k n) u) (sym turn) phase;
}

module _ (s : Setting) (p : ℕ) (ms : List Msg) (who : Attempt) where
  abbrev x : TxnId
  x = who.txn

  abbrev h : Heard
  h = heard_of s p ms who

  module _ (key : Key) (row : Row) (version : Number) (bound : ℕ) (mode : Mode) (a : IsAsking s ms who key mode) where
    abbrev m : Msg
    m = Granted who key row version bound

    abbrev r : Reply
    r = record { row = row; bound = bound; key = key }

    abbrev it : Access
    it = record { key = key; mode = mode }

    grants_more : heard_of s p (m ∷ ms) who ≡ record { started = h.started; stamp = h.stamp; grants = r ∷ h.grants; refused = h.refused; votes = h.votes; closes = h.closes }
    grants_more = rw (itself who) refl

    module _ (t : State) (is : t.accesses ≡ s.accesses x) (stamp : t.stamp ≡ h.stamp) (asks : Asks s x h t) where
      rows_more : t.rows ++ row_read it row ≡ reads_of (s.accesses x) (reverse (r ∷ h.grants))
      rows_more = ap (λ (l : List Keyed). l ++ row_read it row) asks.rows ∙ sym (row_more (s.accesses x) h.grants r it a.2)

      bounds_more : (taken it r t).bound ≡ bound_of (reverse (r ∷ h.grants))
      bounds_more =
          ap₂ (λ (n : ℕ) (b : Bound). bound_with b bound key (n == 0)) asks.count asks.bound
          ∙ sym (bound_newest h.grants r)

      next_at : slice_get t.accesses (t.granted + 1) ≡ slice_get (s.accesses x) (suc (length h.grants))
      next_at = ap₂ (λ (l : List Access) (n : ℕ). slice_get l n) is (omega (arith, asks.count))

      here : slice_get t.accesses t.granted ≡ Some it
      here = ap₂ (λ (l : List Access) (n : ℕ). slice_get l n) is asks.count ∙ a.2

      parts_same : participants_of s t ≡ participants_for s x
      parts_same = ap (partitions_of s.parts) is

      phase_with : 1 ≤ s.parts → (o : Option Access) → slice_get (s.accesses x) (suc (length h.grants)) ≡ o → IsInPhase s x (record { started = h.started; stamp = h.stamp; grants = r ∷ h.grants; refused = h.refused; votes = h.votes; closes = h.closes }) (going_on s (taken it r t) o)
      phase_with one (Some b) e = inl (record {
        unrefused = asks.unrefused;
        more = slice_some (s.accesses x) (suc (length h.grants)) b e;
        count = omega (arith, asks.count);
        rows = rows_more;
        bound = bounds_more;
        ballots = asks.ballots;
        votes = asks.votes;
        closes = asks.closes;
      })
      phase_with one None e =
          let q = some_part s.parts (s.accesses x) one (omega (arith, asks.more)) in
          inr (inl (record {
            unrefused = asks.unrefused;
            all = omega (arith, asks.more, slice_none (s.accesses x) (suc (length h.grants)) e);
            ballots = asks.ballots ∙ ap reverse (sym asks.votes);
            left = parts_same ∙ sym (voted_first (participants_for s x)) ∙ ap (λ bs. left_to_vote bs (participants_for s x)) (sym asks.votes);
            more = ap (λ bs. all_voted bs (participants_for s x)) asks.votes ∙ none_voted (participants_for s x) q.0 q.1;
            closes = asks.closes;
          }))

      mails_with : (o : Option Access) → slice_get (s.accesses x) (suc (length h.grants)) ≡ o → next_ask s p who h.stamp (reverse (r ∷ h.grants)) o ≡ next_mails s p who (taken it r t) o
      mails_with (Some b) e = ap (λ n. ask_of s p who n b ∷ []) (sym stamp)
      mails_with None e =
          ap₂ (λ b qs. map (prepare_to s p who b (effect_of s x (reverse (r ∷ h.grants)))) qs) (sym bounds_more) (sym parts_same)
          ∙ ap (λ rs. map (prepare_to s p who (taken it r t).bound (s.effect x rs)) (participants_of s t)) (sym rows_more)

      pub granted_phase : 1 ≤ s.parts → IsInPhase s who.txn (heard_of s p (Granted who key row version bound ∷ ms) who) (granted s (record { row = row; bound = bound; key = key }) t)
      granted_phase one =
          subst (λ k. IsInPhase s x k (granted s r t)) (sym grants_more)
          (subst (λ o. IsInPhase s x (record { started = h.started; stamp = h.stamp; grants = r ∷ h.grants; refused = h.refused; votes = h.votes; closes = h.closes }) (granted_as s r t o)) (sym here)
          (subst (λ o. IsInPhase s x (record { started = h.started; stamp = h.stamp; grants = r ∷ h.grants; refused = h.refused; votes = h.votes; closes = h.closes }) (going_on s (taken it r t) o)) (sym next_at)
          (phase_with one (slice_get (s.accesses x) (suc (length h.grants))) refl)))

      pub granted_says : coordinator s p (Granted who key row version bound) ms ≡ granted_mails s p who (record { row = row; bound = bound; key = key }) t
      granted_says =
          mails_with (slice_get (s.accesses x) (suc (length h.grants))) refl
          ∙ ap (next_mails s p who (taken it r t)) (sym next_at)
          ∙ ap (mails_as s p who r t) (sym here)

    module _ (fit : AllFit s p ms) (one : 1 ≤ s.parts) (o : Option State) (follows : Follows s who.txn (turns_of s p ms who.txn) o) where
      pub granted_moves : Moves s p who.txn (Granted who key row version bound) ms o (λ t. Some (granted s (record { row = row; bound = bound; key = key }) t)) (granted_mails s p who (record { row = row; bound = bound; key = key }))
      granted_moves =
          let met = asks_met s p ms fit who o follows key mode a in
          let t = met.state in
          let stamp : t.stamp ≡ h.stamp = met.now.stamp ∙ ap (λ n. (turns_of s p ms x n).stamp) met.turn in
          record {
            state = t;
            is = met.is;
            now = met.now;
            follows = goes_on s x (turns_of s p ms x) (turns_of s p (m ∷ ms) x) t (granted s r t) met.now (turn_same t (slice_get t.accesses t.granted)) (accesses_same t (slice_get t.accesses t.granted)) (stamp_same t (slice_get t.accesses t.granted)) (λ n. refl) (λ n. refl)
                (subst (λ n. IsInPhase s x (turns_of s p (m ∷ ms) x n) (granted s r t)) (sym met.turn) (granted_phase t met.now.accesses stamp met.phase one));
            says = granted_says t met.now.accesses stamp met.phase;
          }
        where
          turn_on : (t : State) (o : Option Access) → (going_on s t o).turn ≡ t.turn
          turn_on t (Some b) = refl
          turn_on t None = refl

          turn_same : (t : State) (o : Option Access) → (granted_as s r t o).turn ≡ t.turn
          turn_same t None = refl
          turn_same t (Some b) = turn_on (taken b r t) (slice_get t.accesses (t.granted + 1))

          accesses_on : (t : State) (o : Option Access) → (going_on s t o).accesses ≡ t.accesses
          accesses_on t (Some b) = refl
          accesses_on t None = refl

          accesses_same : (t : State) (o : Option Access) → (granted_as s r t o).accesses ≡ t.accesses
          accesses_same t None = refl
          accesses_same t (Some b) = accesses_on (taken b r t) (slice_get t.accesses (t.granted + 1))

          stamp_on : (t : State) (o : Option Access) → (going_on s t o).stamp ≡ t.stamp
          stamp_on t (Some b) = refl
          stamp_on t None = refl

          stamp_same : (t : State) (o : Option Access) → (granted_as s r t o).stamp ≡ t.stamp
          stamp_same t None = refl
          stamp_same t (Some b) = stamp_on (taken b r t) (slice_get t.accesses (t.granted + 1))

  module _ (key : Key) (cause : Cause) (mode : Mode) (a : IsAsking s ms who key mode) where
    refusal : heard_of s p (Refused who key cause ∷ ms) who ≡ record { started = h.started; stamp = h.stamp; grants = h.grants; refused = true; votes = h.votes; closes = h.closes }
    refusal = rw (itself who) refl

    asked_same : (t : State) → t.accesses ≡ s.accesses x → Asks s x h t → asked_of s t ≡ partitions_of s.parts (take_first (suc (length h.grants)) (s.accesses x))
    asked_same t is asks = ap₂ (λ (l : List Access) (n : ℕ). partitions_of s.parts (take_first (suc n) l)) is asks.count

    refused_phase : 1 ≤ s.parts → (t : State) → t.accesses ≡ s.accesses x → Asks s x h t → IsInPhase s x (record { started = h.started; stamp = h.stamp; grants = h.grants; refused = true; votes = h.votes; closes = h.closes }) (refused s t)
    refused_phase one t is asks =
        let told : List ℕ = partitions_of s.parts (take_first (suc (length h.grants)) (s.accesses x)) in
        let q = some_part s.parts (take_first (suc (length h.grants)) (s.accesses x)) one (first_some (length h.grants) (s.accesses x) (omega (arith, asks.more))) in
        inr (inr (inl (record {
          ends = inl refl;
          left = asked_same t is asks ∙ sym (closed_first told) ∙ ap (λ cs. left_to_close cs told) (sym asks.closes);
          more = ap (λ cs. all_closed cs told) asks.closes ∙ none_closed told q.0 q.1;
        })))
      where
        first_some : (n : ℕ) (xs : List Access) → 1 ≤ length xs → 1 ≤ length (take_first (suc n) xs)
        first_some n [] e = absurd (omega (arith, e))
        first_some n (y ∷ xs) e = omega arith

    module _ (fit : AllFit s p ms) (one : 1 ≤ s.parts) (o : Option State) (follows : Follows s who.txn (turns_of s p ms who.txn) o) where
      pub refused_moves : Moves s p who.txn (Refused who key cause) ms o (λ t. Some (refused s t)) (refused_mails s p who)
      refused_moves =
          let met = asks_met s p ms fit who o follows key mode a in
          let t = met.state in
          record {
            state = t;
            is = met.is;
            now = met.now;
            follows = goes_on s x (turns_of s p ms x) (turns_of s p (Refused who key cause ∷ ms) x) t (refused s t) met.now refl refl refl (λ n. refl) (λ n. refl)
                (subst (λ n. IsInPhase s x (turns_of s p (Refused who key cause ∷ ms) x n) (refused s t)) (sym met.turn)
                (subst (λ k. IsInPhase s x k (refused s t)) (sym refusal) (refused_phase one t met.now.accesses met.phase)));
            says = ap (to_all p (Abort who)) (sym (asked_same t met.now.accesses met.phase));
          }
