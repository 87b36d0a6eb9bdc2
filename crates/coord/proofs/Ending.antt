-- What a Done and an Undone change, by whether it is the last.
use Rattle.std.proofs.Common.{◌≡◌, ℕ, ◌+◌, List, [], ◌∷◌, ◌++◌, true, false, cond, not, eqb, ltb, sym, ap, ◌∙◌, subst, append-nil, Some, None}
use Rattle.std.specs.List.{list_all}
use Rattle.deneva_base.specs.declared.numbers.Attempt.{Attempt}
use Rattle.deneva_base.specs.declared.numbers.TxnId.{TxnId}
use Rattle.server_core.specs.declared.messages.Mail.{Mail}
use Rattle.server_core.specs.Setting.{Setting}
use Rattle.coord.specs.declared.coord.Coord.{Coord}
use Rattle.coord.specs.Moves.{Moved}
use Rattle.coord.specs.States.{State, done, done_as, undone, undone_as, if_none_left, undone_mails, next_turn, risen, with_left, without}
use Rattle.coord.proofs.Votes.{last_left, more_left}

-- what holds where none is left, and where some are
pub at_last : (part : ℕ) (left : List ℕ) (P : List ℕ → Type 0) → list_all (λ q. eqb q part) left ≡ true → P [] → P (without part left)
at_last part left P e h = subst P (sym (last_left part left e)) h

pub before_last : (part : ℕ) (left : List ℕ) (P : List ℕ → Type 0) → list_all (λ q. eqb q part) left ≡ false → ((y : ℕ) (l : List ℕ) → without part left ≡ y ∷ l → P (y ∷ l)) → P (without part left)
before_last part left P e h = let m = more_left part left e in subst P (sym m.2) (h m.0 m.1 m.2)

moved_left : (old new : Coord) (x : TxnId) (t : State) (l k : List ℕ) → l ≡ k → Moved old x (Some (with_left l t)) old.counter old.next new → Moved old x (Some (with_left k t)) old.counter old.next new
moved_left old new x t l k e h = subst (λ m. Moved old x (Some (with_left m t)) old.counter old.next new) e h

module _ (old new : Coord) (x : TxnId) (part : ℕ) (t : State) where
  pub done_now : list_all (λ q. eqb q part) t.left ≡ true → Moved old x None old.counter (old.next + 1) new → Moved old x (done part t) old.counter (risen true old.next (without part t.left)) new
  done_now e h = at_last part t.left (λ l. Moved old x (done_as t l) old.counter (risen true old.next l) new) e h

  pub done_on : list_all (λ q. eqb q part) t.left ≡ false → Moved old x (Some (with_left (without part t.left) t)) old.counter old.next new → Moved old x (done part t) old.counter (risen true old.next (without part t.left)) new
  done_on e h = before_last part t.left (λ l. Moved old x (done_as t l) old.counter (risen true old.next l) new) e (λ y l is. moved_left old new x t (without part t.left) (y ∷ l) is h)

  module _ (s : Setting) (who : Attempt) where
    abbrev after : List ℕ → Type 0
    after l = Moved old x (undone_as s who t l) old.counter (risen (not (ltb who.turn s.attempts)) old.next l) new

    pub undone_now : list_all (λ q. eqb q part) t.left ≡ true → ltb who.turn s.attempts ≡ false → Moved old x None old.counter (old.next + 1) new → Moved old x (undone s who part t) old.counter (risen (not (ltb who.turn s.attempts)) old.next (without part t.left)) new
    undone_now e less h = at_last part t.left after e (rw less h)

    pub undone_again : list_all (λ q. eqb q part) t.left ≡ true → ltb who.turn s.attempts ≡ true → Moved old x (Some (with_left (without part t.left) t)) old.counter old.next new → Moved old x (undone s who part t) old.counter (risen (not (ltb who.turn s.attempts)) old.next (without part t.left)) new
    undone_again e less h = at_last part t.left after e (rw less (moved_left old new x t (without part t.left) [] (last_left part t.left e) h))

    pub undone_on : list_all (λ q. eqb q part) t.left ≡ false → Moved old x (Some (with_left (without part t.left) t)) old.counter old.next new → Moved old x (undone s who part t) old.counter (risen (not (ltb who.turn s.attempts)) old.next (without part t.left)) new
    undone_on e h = before_last part t.left after e (λ y l is. moved_left old new x t (without part t.left) (y ∷ l) is h)

module _ (part : ℕ) (t : State) (before after next : List Mail) where
  pub said_now : list_all (λ q. eqb q part) t.left ≡ true → after ≡ before ++ next → after ≡ before ++ if_none_left next (without part t.left)
  said_now e h = at_last part t.left (λ l. after ≡ before ++ if_none_left next l) e h

  pub said_on : list_all (λ q. eqb q part) t.left ≡ false → after ≡ before → after ≡ before ++ if_none_left next (without part t.left)
  said_on e h = before_last part t.left (λ l. after ≡ before ++ if_none_left next l) e (λ y l is. h ∙ sym (append-nil before))

pub over_says : (s : Setting) (p : ℕ) (who : Attempt) (next : List Mail) → ltb who.turn s.attempts ≡ false → next ≡ undone_mails s p who next
over_says s p who next e = sym (ap (λ b. cond b (next_turn p who) next) e)

pub again_says : (s : Setting) (p : ℕ) (who : Attempt) (next : List Mail) → ltb who.turn s.attempts ≡ true → next_turn p who ≡ undone_mails s p who next
again_says s p who next e = sym (ap (λ b. cond b (next_turn p who) next) e)
