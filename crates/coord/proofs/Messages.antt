-- What a coordinator says on each message, and that it stands for it, where it does with its transaction what is said.
use Rattle.std.proofs.Common.{◌≡◌, ℕ, suc, ◌+◌, ◌<◌, ◌≤◌, ◌^◌, List, [], ◌∷◌, ◌++◌, length, slice_get, Bool, true, false, cond, not, ltb, refl, sym, ap, ap₂, ◌∙◌, subst, arith, Option, Some}
use Rattle.deneva_base.specs.declared.answers.Vote.TheVariants.{Yes as VotesYes, No as VotesNo}
use Rattle.deneva_base.specs.declared.causes.Cause.{Cause}
use Rattle.deneva_base.specs.declared.keys.Access.{Access}
use Rattle.deneva_base.specs.declared.keys.Key.{Key}
use Rattle.deneva_base.specs.declared.numbers.Attempt.{Attempt}
use Rattle.deneva_base.specs.declared.numbers.Number.{Number}
use Rattle.deneva_base.specs.declared.numbers.TxnId.{TxnId}
use Rattle.deneva_base.specs.Keys.{id_eq}
use Rattle.deneva_base.specs.Lists.{IsIn}
use Rattle.deneva_base.specs.Rows.{Row}
use Rattle.txn_program.specs.Serial.{all_ids}
use Rattle.server_core.specs.Coordinator.{coordinator, mail_start, next_start, overs}
use Rattle.server_core.specs.Received.{Reply}
use Rattle.server_core.specs.declared.ballots.Ballot.{Ballot}
use Rattle.server_core.specs.Roles.{FitsRole, setting_of}
use Rattle.server_core.specs.Setting.{Setting}
use Rattle.server_core.specs.Small.{SmallCause}
use Rattle.server_core.specs.Stamps.{raised, counter}
use Rattle.server_core.specs.VotingFits.{Suits}
use Rattle.server_core.specs.declared.messages.Mail.{Mail}
use Rattle.server_core.specs.declared.messages.Msg.{Msg}
use Rattle.server_core.specs.declared.messages.Msg.TheVariants.{Start, Granted, Refused, Yes, No, Done, Undone}
use Rattle.server_core.proofs.values.Origins.{started_ids}
use Rattle.coord.specs.declared.coord.Coord.{Coord}
use Rattle.coord.specs.Moves.{Moved, stamp_for, started_by, counted_by}
use Rattle.coord.specs.Open.{state_at}
use Rattle.coord.specs.Standing.{role_of, Stands, Coordinates}
use Rattle.coord.specs.States as states
use Rattle.coord.specs.States.{State, first_ask, granted_mails, refused_mails, voted_mails, if_none_left, undone_mails, risen, without}
use Rattle.coord.proofs.Asking.{Moves, granted_moves, refused_moves}
use Rattle.coord.proofs.Closing.{done_moves, undone_moves}
use Rattle.coord.proofs.Phases.{asks_met}
use Rattle.coord.proofs.Steps.{suits, few_stamps, few_over, stands_with, start_says_so, start_stands, of_move, raised_few}
use Rattle.coord.proofs.Turns.{touches}
use Rattle.coord.proofs.Voting.{yes_moves, no_moves}

module _ (c : Coord) (ms : List Msg) (co : Coordinates c ms) where
  abbrev s : Setting
  s = setting_of c.role

  abbrev p : ℕ
  p = c.role.part

  abbrev at : TxnId → Option State
  at x = state_at c.open x

  -- what is known of a message that fits: the move, and what it makes of the counter and of the number that are over
  pub record Knows (x : TxnId) (m : Msg) (next : State → Option State) (mails : State → List Mail) (count : ℕ) (over : State → ℕ) : Type 0 where
    pub move : Moves (setting_of c.role) c.role.part x m ms (state_at c.open x) next mails
    pub other : (y : TxnId) → id_eq x y ≡ false → touches y m ≡ false
    pub counts : counter (setting_of c.role) (m ∷ ms) ≡ count
    pub overs' : overs (setting_of c.role) (m ∷ ms) ≡ over move.state

  module _ (m : Msg) (from : ℕ) (fits : FitsRole (role_of c) from m ms) where
    pub stamps_few : c.counter ≤ 2 ^ 49
    stamps_few = few_stamps c.role c.fixed c.counter c.homes.items c.next (state_at c.open) ms co m from fits

    pub next_few : c.next < 2 ^ 63
    next_few = few_over c.role c.fixed c.counter c.homes.items c.next (state_at c.open) ms co m from fits

    -- it says what its state gives, and stands for what its state gives
    module _ (x : TxnId) (next : State → Option State) (mails : State → List Mail) (count : ℕ) (over : State → ℕ) (k : Knows x m next mails count over) where
      pub says_so : (before after : List Mail) → ((t : State) → state_at c.open x ≡ Some t → after ≡ before ++ mails t) → after ≡ before ++ coordinator (setting_of c.role) c.role.part m ms
      says_so before after e = e k.move.state k.move.is ∙ ap (λ l. before ++ l) (sym k.move.says)

      pub stands_so : (open2 : TxnId → Option State) (counter2 : ℕ) (next2 : State → ℕ) → ((t : State) → state_at c.open x ≡ Some t → (y : TxnId) → open2 y ≡ cond (id_eq x y) (next t) (state_at c.open y)) → counter2 ≡ count → counter2 ≤ 2 ^ 48 + suc (length ms) → ((t : State) → next2 t ≡ (setting_of c.role).limit + over t) → Stands c.role c.fixed counter2 c.homes.items (next2 k.move.state) open2 (m ∷ ms)
      stands_so open2 counter2 next2 sets counts small place =
          stands_with c.role c.fixed c.counter c.homes.items c.next (state_at c.open) ms co m from fits x (next k.move.state) counter2 (next2 k.move.state) open2 k.other (sets k.move.state k.move.is) k.move.follows (counts ∙ sym k.counts) small (place k.move.state ∙ ap (λ n. s.limit + n) (sym k.overs'))

      pub moved_so : (new : Coord) (counter2 : ℕ) (next2 : State → ℕ) → ((t : State) → state_at c.open x ≡ Some t → Moved c x (next t) counter2 (next2 t) new) → counter2 ≡ count → counter2 ≤ 2 ^ 48 + suc (length ms) → ((t : State) → next2 t ≡ (setting_of c.role).limit + over t) → Coordinates new (m ∷ ms)
      moved_so new counter2 next2 moved counts small place =
          of_move c new x (next k.move.state) counter2 (next2 k.move.state) (m ∷ ms) (moved k.move.state k.move.is)
          (stands_so (state_at new.open) counter2 next2 (λ t is. (moved t is).sets) counts small place)

  few_now : c.counter ≤ 2 ^ 48 + suc (length ms)
  few_now = omega (arith, co.small)

  one : 1 ≤ s.parts
  one = c.role.ranges.some_parts

  -- a grant
  module _ (m : Msg) (from : ℕ) (fits : FitsRole (role_of c) from m ms) (who : Attempt) (key : Key) (row : Row) (version : Number) (bound : ℕ) (is : m ≡ Granted who key row version bound) where
    abbrev g : Msg
    g = Granted who key row version bound

    abbrev r : Reply
    r = record { row = row; bound = bound; key = key }

    granted_suits : Suits s p from g ms
    granted_suits = suits c.role c.fixed c.counter c.homes.items c.next (state_at c.open) ms co g from (subst (λ z. FitsRole (role_of c) from z ms) is fits)

    pub granted_id : IsIn who.txn (all_ids c.role.work.now)
    granted_id = started_ids s p who ms co.fit granted_suits.2.1.0

    granted_knows : Knows who.txn m (λ t. Some (states.granted s r t)) (granted_mails s p who r) (counter s ms) (λ t. overs s ms)
    granted_knows = subst (λ z. Knows who.txn z (λ t. Some (states.granted s r t)) (granted_mails s p who r) (counter s ms) (λ t. overs s ms)) (sym is)
        (record { move = granted_moves s p ms who key row version bound granted_suits.2.0 granted_suits.2.1 co.fit one (at who.txn) (co.follows who.txn); other = λ y e. e; counts = refl; overs' = refl })

    pub granted_says : (before after : List Mail) → ((t : State) → state_at c.open who.txn ≡ Some t → after ≡ before ++ granted_mails (setting_of c.role) c.role.part who (record { row = row; bound = bound; key = key }) t) → after ≡ before ++ coordinator (setting_of c.role) c.role.part m ms
    granted_says before after e = says_so m from fits who.txn (λ t. Some (states.granted s r t)) (granted_mails s p who r) (counter s ms) (λ t. overs s ms) granted_knows before after e

    pub granted_stands : (open2 : TxnId → Option State) → ((t : State) → state_at c.open who.txn ≡ Some t → (y : TxnId) → open2 y ≡ cond (id_eq who.txn y) (Some (states.granted (setting_of c.role) (record { row = row; bound = bound; key = key }) t)) (state_at c.open y)) → Stands c.role c.fixed c.counter c.homes.items c.next open2 (m ∷ ms)
    granted_stands open2 sets = stands_so m from fits who.txn (λ t. Some (states.granted s r t)) (granted_mails s p who r) (counter s ms) (λ t. overs s ms) granted_knows open2 c.counter (λ t. c.next) sets co.count few_now (λ t. co.place)

  -- a refusal
  module _ (m : Msg) (from : ℕ) (fits : FitsRole (role_of c) from m ms) (who : Attempt) (key : Key) (cause : Cause) (is : m ≡ Refused who key cause) where
    refusal_fits : FitsRole (role_of c) from (Refused who key cause) ms
    refusal_fits = subst (λ z. FitsRole (role_of c) from z ms) is fits

    refused_suits : Suits s p from (Refused who key cause) ms
    refused_suits = suits c.role c.fixed c.counter c.homes.items c.next (state_at c.open) ms co (Refused who key cause) from refusal_fits

    pub refused_small : SmallCause cause
    refused_small = refusal_fits.small

    pub refused_more : (t : State) → state_at c.open who.txn ≡ Some t → t.granted < length t.accesses
    refused_more t e =
        let met = asks_met s p ms co.fit who (at who.txn) (co.follows who.txn) key refused_suits.2.0 refused_suits.2.1 in
        let same : met.state ≡ t = some_is (sym met.is ∙ e) in
        subst (λ (z : State). z.granted < length z.accesses) same (let more = met.phase.more in let count = met.phase.count in let as' = ap (λ (l : List Access). length l) met.now.accesses in omega (arith, more, count, as'))
      where
        some_is : {a b : State} → Some a ≡ Some b → a ≡ b
        some_is e = cc

    refused_knows : Knows who.txn m (λ t. Some (states.refused s t)) (refused_mails s p who) (raised s.parts (counter s ms) cause) (λ t. overs s ms)
    refused_knows = subst (λ z. Knows who.txn z (λ t. Some (states.refused s t)) (refused_mails s p who) (raised s.parts (counter s ms) cause) (λ t. overs s ms)) (sym is)
        (record { move = refused_moves s p ms who key cause refused_suits.2.0 refused_suits.2.1 co.fit one (at who.txn) (co.follows who.txn); other = λ y e. e; counts = refl; overs' = refl })

    pub refused_says : (before after : List Mail) → ((t : State) → state_at c.open who.txn ≡ Some t → after ≡ before ++ refused_mails (setting_of c.role) c.role.part who t) → after ≡ before ++ coordinator (setting_of c.role) c.role.part m ms
    refused_says before after e = says_so m from fits who.txn (λ t. Some (states.refused s t)) (refused_mails s p who) (raised s.parts (counter s ms) cause) (λ t. overs s ms) refused_knows before after e

    pub refused_stands : (new : Coord) → ((t : State) → state_at c.open who.txn ≡ Some t → Moved c who.txn (Some (states.refused (setting_of c.role) t)) (raised c.role.config.parts c.counter cause) c.next new) → Coordinates new (m ∷ ms)
    refused_stands new moved = moved_so m from fits who.txn (λ t. Some (states.refused s t)) (refused_mails s p who) (raised s.parts (counter s ms) cause) (λ t. overs s ms) refused_knows new (raised c.role.config.parts c.counter cause) (λ t. c.next) moved (ap (λ n. raised s.parts n cause) co.count) (raised_few s.parts c.counter (suc (length ms)) cause one refused_small few_now) (λ t. co.place)

  -- a vote
  module _ (m : Msg) (from : ℕ) (fits : FitsRole (role_of c) from m ms) (who : Attempt) (part : ℕ) where
    abbrev VoteKnows : Ballot → Type 0
    VoteKnows b = Knows who.txn m (λ t. Some (states.voted s b t)) (voted_mails s p who b) (counter s ms) (λ t. overs s ms)

    vote_says : (b : Ballot) → VoteKnows b → (before after : List Mail) → ((t : State) → at who.txn ≡ Some t → after ≡ before ++ voted_mails s p who b t) → after ≡ before ++ coordinator s p m ms
    vote_says b k before after e = says_so m from fits who.txn (λ t. Some (states.voted s b t)) (voted_mails s p who b) (counter s ms) (λ t. overs s ms) k before after e

    vote_stands : (b : Ballot) → VoteKnows b → (open2 : TxnId → Option State) → ((t : State) → at who.txn ≡ Some t → (y : TxnId) → open2 y ≡ cond (id_eq who.txn y) (Some (states.voted s b t)) (at y)) → Stands c.role c.fixed c.counter c.homes.items c.next open2 (m ∷ ms)
    vote_stands b k open2 sets = stands_so m from fits who.txn (λ t. Some (states.voted s b t)) (voted_mails s p who b) (counter s ms) (λ t. overs s ms) k open2 c.counter (λ t. c.next) sets co.count few_now (λ t. co.place)

    module _ (lo hi : ℕ) (is : m ≡ Yes who part lo hi) where
      abbrev y : Ballot
      y = record { part = part; vote = VotesYes lo hi }

      yes_suits : Suits s p from (Yes who part lo hi) ms
      yes_suits = suits c.role c.fixed c.counter c.homes.items c.next (state_at c.open) ms co (Yes who part lo hi) from (subst (λ z. FitsRole (role_of c) from z ms) is fits)

      yes_knows : VoteKnows y
      yes_knows = subst (λ z. Knows who.txn z (λ t. Some (states.voted s y t)) (voted_mails s p who y) (counter s ms) (λ t. overs s ms)) (sym is)
          (record { move = yes_moves s p ms co.fit who (at who.txn) (co.follows who.txn) part yes_suits.2 yes_suits.3 yes_suits.4 lo hi; other = λ z e. e; counts = refl; overs' = refl })

      pub yes_says : (before after : List Mail) → ((t : State) → state_at c.open who.txn ≡ Some t → after ≡ before ++ voted_mails (setting_of c.role) c.role.part who (record { part = part; vote = VotesYes lo hi }) t) → after ≡ before ++ coordinator (setting_of c.role) c.role.part m ms
      yes_says = vote_says y yes_knows

      pub yes_stands : (open2 : TxnId → Option State) → ((t : State) → state_at c.open who.txn ≡ Some t → (z : TxnId) → open2 z ≡ cond (id_eq who.txn z) (Some (states.voted (setting_of c.role) (record { part = part; vote = VotesYes lo hi }) t)) (state_at c.open z)) → Stands c.role c.fixed c.counter c.homes.items c.next open2 (m ∷ ms)
      yes_stands = vote_stands y yes_knows

    module _ (cause : Cause) (is : m ≡ No who part cause) where
      abbrev n : Ballot
      n = record { part = part; vote = VotesNo cause }

      no_suits : Suits s p from (No who part cause) ms
      no_suits = suits c.role c.fixed c.counter c.homes.items c.next (state_at c.open) ms co (No who part cause) from (subst (λ z. FitsRole (role_of c) from z ms) is fits)

      no_knows : VoteKnows n
      no_knows = subst (λ z. Knows who.txn z (λ t. Some (states.voted s n t)) (voted_mails s p who n) (counter s ms) (λ t. overs s ms)) (sym is)
          (record { move = no_moves s p ms co.fit who (at who.txn) (co.follows who.txn) part no_suits.2 no_suits.3 no_suits.4 cause; other = λ z e. e; counts = refl; overs' = refl })

      pub no_says : (before after : List Mail) → ((t : State) → state_at c.open who.txn ≡ Some t → after ≡ before ++ voted_mails (setting_of c.role) c.role.part who (record { part = part; vote = VotesNo cause }) t) → after ≡ before ++ coordinator (setting_of c.role) c.role.part m ms
      no_says = vote_says n no_knows

      pub no_stands : (open2 : TxnId → Option State) → ((t : State) → state_at c.open who.txn ≡ Some t → (z : TxnId) → open2 z ≡ cond (id_eq who.txn z) (Some (states.voted (setting_of c.role) (record { part = part; vote = VotesNo cause }) t)) (state_at c.open z)) → Stands c.role c.fixed c.counter c.homes.items c.next open2 (m ∷ ms)
      no_stands = vote_stands n no_knows

  -- the place of the next transaction, and its Start
  risen_place : (b : Bool) (l : List ℕ) → risen b c.next l ≡ s.limit + risen b (overs s ms) l
  risen_place b (q ∷ l) = co.place
  risen_place true [] = let e = co.place in omega (arith, e)
  risen_place false [] = co.place

  next_mails : next_start s p (overs s ms) ≡ mail_start p (slice_get c.homes.items c.next)
  next_mails = ap₂ (λ (l : List TxnId) (k : ℕ). mail_start p (slice_get l k)) (sym co.order) (sym co.place)

  -- a Done, and an Undone
  module _ (m : Msg) (from : ℕ) (fits : FitsRole (role_of c) from m ms) (who : Attempt) (part : ℕ) where
    module _ (is : m ≡ Done who part) where
      done_suits : Suits s p from (Done who part) ms
      done_suits = suits c.role c.fixed c.counter c.homes.items c.next (state_at c.open) ms co (Done who part) from (subst (λ z. FitsRole (role_of c) from z ms) is fits)

      abbrev done_mails : State → List Mail
      done_mails t = if_none_left (mail_start p (slice_get c.homes.items c.next)) (without part t.left)

      abbrev done_over : State → ℕ
      done_over t = risen true (overs s ms) (without part t.left)

      done_knows : Knows who.txn m (states.done part) done_mails (counter s ms) done_over
      done_knows =
          let mv = done_moves s p ms co.fit who (at who.txn) (co.follows who.txn) part from done_suits in
          let k : Knows who.txn (Done who part) (states.done part) (λ t. if_none_left (next_start s p (overs s ms)) (without part t.left)) (counter s ms) done_over = record { move = mv.move; other = λ z e. e; counts = refl; overs' = mv.over } in
          subst (λ z. Knows who.txn z (states.done part) done_mails (counter s ms) done_over) (sym is) (subst (λ l. Knows who.txn (Done who part) (states.done part) (λ t. if_none_left l (without part t.left)) (counter s ms) done_over) next_mails k)

      pub done_says : (before after : List Mail) → ((t : State) → state_at c.open who.txn ≡ Some t → after ≡ before ++ if_none_left (mail_start c.role.part (slice_get c.homes.items c.next)) (without part t.left)) → after ≡ before ++ coordinator (setting_of c.role) c.role.part m ms
      done_says before after e = says_so m from fits who.txn (states.done part) done_mails (counter s ms) done_over done_knows before after e

      pub done_stands : (new : Coord) → ((t : State) → state_at c.open who.txn ≡ Some t → Moved c who.txn (states.done part t) c.counter (risen true c.next (without part t.left)) new) → Coordinates new (m ∷ ms)
      done_stands new moved = moved_so m from fits who.txn (states.done part) done_mails (counter s ms) done_over done_knows new c.counter (λ t. risen true c.next (without part t.left)) moved co.count few_now (λ t. risen_place true (without part t.left))

    module _ (is : m ≡ Undone who part) where
      undone_suits : Suits s p from (Undone who part) ms
      undone_suits = suits c.role c.fixed c.counter c.homes.items c.next (state_at c.open) ms co (Undone who part) from (subst (λ z. FitsRole (role_of c) from z ms) is fits)

      abbrev undone_said : State → List Mail
      undone_said t = if_none_left (undone_mails s p who (mail_start p (slice_get c.homes.items c.next))) (without part t.left)

      abbrev undone_over : State → ℕ
      undone_over t = risen (not (ltb who.turn s.attempts)) (overs s ms) (without part t.left)

      undone_knows : Knows who.txn m (states.undone s who part) undone_said (counter s ms) undone_over
      undone_knows =
          let mv = undone_moves s p ms co.fit who (at who.txn) (co.follows who.txn) part from undone_suits in
          let k : Knows who.txn (Undone who part) (states.undone s who part) (λ t. if_none_left (undone_mails s p who (next_start s p (overs s ms))) (without part t.left)) (counter s ms) undone_over = record { move = mv.move; other = λ z e. e; counts = refl; overs' = mv.over } in
          subst (λ z. Knows who.txn z (states.undone s who part) undone_said (counter s ms) undone_over) (sym is) (subst (λ l. Knows who.txn (Undone who part) (states.undone s who part) (λ t. if_none_left (undone_mails s p who l) (without part t.left)) (counter s ms) undone_over) next_mails k)

      pub undone_says : (before after : List Mail) → ((t : State) → state_at c.open who.txn ≡ Some t → after ≡ before ++ if_none_left (undone_mails (setting_of c.role) c.role.part who (mail_start c.role.part (slice_get c.homes.items c.next))) (without part t.left)) → after ≡ before ++ coordinator (setting_of c.role) c.role.part m ms
      undone_says before after e = says_so m from fits who.txn (states.undone s who part) undone_said (counter s ms) undone_over undone_knows before after e

      pub undone_stands : (new : Coord) → ((t : State) → state_at c.open who.txn ≡ Some t → Moved c who.txn (states.undone (setting_of c.role) who part t) c.counter (risen (not (ltb who.turn c.role.config.attempts)) c.next (without part t.left)) new) → Coordinates new (m ∷ ms)
      undone_stands new moved = moved_so m from fits who.txn (states.undone s who part) undone_said (counter s ms) undone_over undone_knows new c.counter (λ t. risen (not (ltb who.turn s.attempts)) c.next (without part t.left)) moved co.count few_now (λ t. risen_place (not (ltb who.turn s.attempts)) (without part t.left))

  -- a Start
  module _ (m : Msg) (from : ℕ) (fits : FitsRole (role_of c) from m ms) (who : Attempt) (is : m ≡ Start who) where
    start_fits : FitsRole (role_of c) from (Start who) ms
    start_fits = subst (λ z. FitsRole (role_of c) from z ms) is fits

    pub start_id : IsIn who.txn (all_ids c.role.work.now)
    start_id = (suits c.role c.fixed c.counter c.homes.items c.next (state_at c.open) ms co (Start who) from start_fits).4

    pub start_says : (before after : List Mail) → after ≡ before ++ first_ask (setting_of c.role) c.role.part who (stamp_for c who) → after ≡ before ++ coordinator (setting_of c.role) c.role.part m ms
    start_says before after e = e ∙ ap (λ l. before ++ l) (sym (start_says_so c.role c.fixed c.counter c.homes.items c.next (state_at c.open) ms co who from start_fits)) ∙ ap (λ z. before ++ coordinator s p z ms) (sym is)

    pub start_stands_for : (new : Coord) → Moved c who.txn (Some (started_by c who)) (counted_by c who) c.next new → Coordinates new (m ∷ ms)
    start_stands_for new moved = subst (λ z. Coordinates new (z ∷ ms)) (sym is) (of_move c new who.txn (Some (started_by c who)) (counted_by c who) c.next (Start who ∷ ms) moved (start_stands c.role c.fixed c.counter c.homes.items c.next (state_at c.open) ms co who from start_fits (state_at new.open) moved.sets))
