-- What a coordinator may do for a message that fits, and that it stands on after it.
use Rattle.std.proofs.Common.{◌≡◌, ℕ, suc, ◌+◌, ◌*◌, ◌^◌, ◌<◌, ◌≤◌, List, [], ◌∷◌, length, slice_get, Bool, true, false, cond, not, ◌||◌, ◌&&◌, eqb, ltb, refl, sym, ap, ◌∙◌, subst, ⊎_elim, arith, Option, Some, None}
use Rattle.std.proofs.Math.Nat.{div-le_self}
use Rattle.deneva_base.specs.declared.causes.Cause.{Cause}
use Rattle.deneva_base.specs.declared.causes.Cause.TheVariants.{Held, Younger, Written, ReadLater, EmptyRange, Apart, Trimmed}
use Rattle.deneva_base.specs.declared.keys.Access.{Access}
use Rattle.deneva_base.specs.declared.numbers.Attempt.{Attempt}
use Rattle.deneva_base.specs.declared.numbers.TxnId.{TxnId}
use Rattle.deneva_base.specs.Keys.{id_eq}
use Rattle.server_core.specs.Coordinator.{coordinator, overs, told}
use Rattle.server_core.specs.Family.{Family, family}
use Rattle.server_core.specs.Fits.{FitsBy}
use Rattle.server_core.specs.Proper.{Valid}
use Rattle.server_core.specs.Received.{closes_for, all_closed}
use Rattle.server_core.specs.Setting.{Setting}
use Rattle.server_core.specs.Small.{SmallCause}
use Rattle.server_core.specs.Stamps.{counter, raised, stamp_from, stamped}
use Rattle.server_core.specs.VotingFits.{Suits}
use Rattle.server_core.specs.declared.messages.Msg.{Msg}
use Rattle.server_core.specs.declared.role.Role.{Role}
use Rattle.server_core.specs.declared.messages.Msg.TheVariants.{Start, Done, Undone}
use Rattle.server_core.proofs.counts.Prepares.{slice_none}
use Rattle.server_core.proofs.configured.Families.{family_votes}
use Rattle.server_core.proofs.configured.ValidSettings.{valid}
use Rattle.coord.specs.declared.coord.Coord.{Coord}
use Rattle.server_core.specs.Roles.{setting_of}
use Rattle.coord.specs.Following.{turns_of, IsCurrent, Follows}
use Rattle.coord.specs.Moves.{Moved}
use Rattle.coord.specs.Open.{state_at}
use Rattle.coord.specs.Standing.{Stands, Coordinates}
use Rattle.coord.specs.States.{State, begun, kept_stamp, first_ask, ask_first}
use Rattle.coord.proofs.Opens.{id_tells}
use Rattle.coord.proofs.Starting.{start_follows, start_says, drawn, kept}
use Rattle.coord.proofs.Turns.{touches, follows_other}

-- at most one transaction is over with each message
overs_few : (s : Setting) (ms : List Msg) → overs s ms ≤ length ms
overs_few s [] = omega arith
overs_few s (Done who part ∷ ms) = go (all_closed (part ∷ closes_for who ms) (told s ms who)) (overs_few s ms)
  where
    go : (b : Bool) → overs s ms ≤ length ms → cond b (suc (overs s ms)) (overs s ms) ≤ suc (length ms)
    go true e = omega (arith, e)
    go false e = omega (arith, e)
overs_few s (Undone who part ∷ ms) = go (all_closed (part ∷ closes_for who ms) (told s ms who) && not (ltb who.turn s.attempts)) (overs_few s ms)
  where
    go : (b : Bool) → overs s ms ≤ length ms → cond b (suc (overs s ms)) (overs s ms) ≤ suc (length ms)
    go true e = omega (arith, e)
    go false e = omega (arith, e)
overs_few s (Start who ∷ ms) = omega (arith, overs_few s ms)
overs_few s (m ∷ ms) = omega (arith, overs_few s ms)

pub raised_few : (parts n k : ℕ) (cause : Cause) → 1 ≤ parts → SmallCause cause → n ≤ 2 ^ 48 + k → raised parts n cause ≤ 2 ^ 48 + k
raised_few parts n k (Written key stamp) one small e = omega (arith, small, e, div-le_self stamp parts)
raised_few parts n k (ReadLater key stamp) one small e = omega (arith, small, e, div-le_self stamp parts)
raised_few parts n k (Trimmed key floor) one small e = omega (arith, small, e, div-le_self floor parts)
raised_few parts n k (Held key by) one small e = e
raised_few parts n k (Younger key by age) one small e = e
raised_few parts n k (EmptyRange lo lp hi hp) one small e = e
raised_few parts n k (Apart lo lp hi hp) one small e = e

module _ (h : Role) (fixed : Bool) (counter' : ℕ) (homes' : List TxnId) (next' : ℕ) (open' : TxnId → Option State) (ms : List Msg) (co : Stands h fixed counter' homes' next' open' ms) where
  abbrev s : Setting
  s = setting_of h

  pub is_valid : Valid (setting_of h)
  is_valid = valid h.config h.work.now h.ranges h.valid co.voting

  -- an open transaction has its accesses
  pub is_current : (x : TxnId) (t : State) → open' x ≡ Some t → IsCurrent (setting_of h) x (turns_of (setting_of h) h.part ms x) t
  is_current x t is = subst (λ o. Follows s x (turns_of s h.part ms x) o) is (co.follows x)

  module _ (m : Msg) (from : ℕ) (fits : FitsBy ((family h.config.protocol).suits (setting_of h)) h.part from m ms) where
    pub suits : Suits (setting_of h) h.part from m ms
    suits = subst (λ (f : Family). f.suits s h.part from m ms) (family_votes h.config.protocol co.voting) fits.suits

    pub few_stamps : counter' ≤ 2 ^ 49
    few_stamps = omega (arith, co.small, fits.short)

    pub few_over : next' < 2 ^ 63
    few_over = omega (arith, co.place, overs_few s ms, fits.short, h.ranges.few_open)

    -- what it stands for with the message, where its transaction has this
    pub stands_with : (x : TxnId) (o : Option State) (counter2 next2 : ℕ) (open2 : TxnId → Option State) → ((y : TxnId) → id_eq x y ≡ false → touches y m ≡ false) → ((y : TxnId) → open2 y ≡ cond (id_eq x y) o (open' y)) → Follows (setting_of h) x (turns_of (setting_of h) h.part (m ∷ ms) x) o → counter2 ≡ counter (setting_of h) (m ∷ ms) → counter2 ≤ 2 ^ 48 + length (m ∷ ms) → next2 ≡ (setting_of h).limit + overs (setting_of h) (m ∷ ms) → Stands h fixed counter2 homes' next2 open2 (m ∷ ms)
    stands_with x o counter2 next2 open2 other sets mine counts small place = record {
      voting = co.voting;
      keeps = co.keeps;
      fit = ((from, suits), co.fit);
      count = counts;
      small = small;
      order = co.order;
      place = place;
      follows = λ y.
          ⊎_elim
          (λ t. subst (λ k. Follows s y (turns_of s h.part (m ∷ ms) y) k) (sym (sets y ∙ ap (λ b. cond b o (open' y)) t.0)) (subst (λ z. Follows s z (turns_of s h.part (m ∷ ms) z) o) t.1 mine))
          (λ f. subst (λ k. Follows s y (turns_of s h.part (m ∷ ms) y) k) (sym (sets y ∙ ap (λ b. cond b o (open' y)) f.0)) (follows_other s h.part y (open' y) m ms (other y f.0) (co.follows y)))
          (id_tells x y);
    }

  -- a Start
  module _ (who : Attempt) (from : ℕ) (fits : FitsBy ((family h.config.protocol).suits (setting_of h)) h.part from (Start who) ms) where
    abbrev stamp : ℕ
    stamp = cond (eqb who.turn 1 || not fixed) (counter' * h.config.parts + h.part + 1) (kept_stamp (open' who.txn))

    stamp_is : stamp ≡ stamp_from s h.part (Start who ∷ ms) (stamped s who)
    stamp_is = go (eqb who.turn 1 || not fixed) (ap (λ b. eqb who.turn 1 || not b) co.keeps)
      where
        go : (b : Bool) → (eqb who.turn 1 || not s.fixed) ≡ b → cond b (counter' * h.config.parts + h.part + 1) (kept_stamp (open' who.txn)) ≡ stamp_from s h.part (Start who ∷ ms) (stamped s who)
        go true e = ap (λ n. n * h.config.parts + h.part + 1) co.count ∙ drawn s is_valid h.part ms co.fit who from (suits (Start who) from fits) e
        go false e = kept s is_valid h.part ms co.fit who from (suits (Start who) from fits) (open' who.txn) (co.follows who.txn) e

    pub start_says_so : coordinator (setting_of h) h.part (Start who) ms ≡ first_ask (setting_of h) h.part who (cond (eqb who.turn 1 || not fixed) (counter' * h.config.parts + h.part + 1) (kept_stamp (open' who.txn)))
    start_says_so = go (slice_get (s.accesses who.txn) 0) refl
      where
        some : 1 ≤ length (s.accesses who.txn)
        some = is_valid.some who.txn (suits (Start who) from fits).4

        go : (o : Option Access) → slice_get (s.accesses who.txn) 0 ≡ o → coordinator s h.part (Start who) ms ≡ ask_first s h.part who stamp (slice_get (s.accesses who.txn) 0)
        go None e = absurd (omega (arith, some, slice_none (s.accesses who.txn) 0 e))
        go (Some a) e = start_says s is_valid h.part ms co.fit who from (suits (Start who) from fits) stamp a stamp_is e ∙ ap (ask_first s h.part who stamp) (sym e)

    counts : cond (eqb who.turn 1 || not fixed) (counter' + 1) counter' ≡ counter s (Start who ∷ ms)
    counts = ap (λ b. cond (eqb who.turn 1 || not b) (counter' + 1) counter') (sym co.keeps) ∙ go (eqb who.turn 1 || not s.fixed)
      where
        go : (b : Bool) → cond b (counter' + 1) counter' ≡ cond b (suc (counter s ms)) (counter s ms)
        go true = omega (arith, co.count)
        go false = co.count

    few : cond (eqb who.turn 1 || not fixed) (counter' + 1) counter' ≤ 2 ^ 48 + suc (length ms)
    few = go (eqb who.turn 1 || not fixed)
      where
        go : (b : Bool) → cond b (counter' + 1) counter' ≤ 2 ^ 48 + suc (length ms)
        go true = omega (arith, co.small)
        go false = omega (arith, co.small)

    pub start_stands : (open2 : TxnId → Option State) → ((y : TxnId) → open2 y ≡ cond (id_eq who.txn y) (Some (begun who.turn (cond (eqb who.turn 1 || not fixed) (counter' * h.config.parts + h.part + 1) (kept_stamp (open' who.txn))) ((setting_of h).accesses who.txn))) (open' y)) → Stands h fixed (cond (eqb who.turn 1 || not fixed) (counter' + 1) counter') homes' next' open2 (Start who ∷ ms)
    start_stands open2 sets = stands_with (Start who) from fits who.txn (Some (begun who.turn stamp (s.accesses who.txn))) (cond (eqb who.turn 1 || not fixed) (counter' + 1) counter') next' open2 (λ y e. e) sets (start_follows s is_valid h.part ms co.fit who from (suits (Start who) from fits) stamp stamp_is) counts few co.place

-- a coordinator that moved
pub of_move : (old new : Coord) (x : TxnId) (o : Option State) (counter' next' : ℕ) (ms : List Msg) → Moved old x o counter' next' new → Stands old.role old.fixed counter' old.homes.items next' (state_at new.open) ms → Coordinates new ms
of_move old new x o counter' next' ms mv st =
    subst (λ h. Stands h new.fixed new.counter new.homes.items new.next (state_at new.open) ms) (sym mv.role)
    (subst (λ f. Stands old.role f new.counter new.homes.items new.next (state_at new.open) ms) (sym mv.fixed)
    (subst (λ n. Stands old.role old.fixed n new.homes.items new.next (state_at new.open) ms) (sym mv.count)
    (subst (λ l. Stands old.role old.fixed counter' l new.next (state_at new.open) ms) (sym mv.homes)
    (subst (λ n. Stands old.role old.fixed counter' old.homes.items n (state_at new.open) ms) (sym mv.place) st))))
