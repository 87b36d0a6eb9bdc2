-- Messages that are not for the coordinator leave it as it is.
use Rattle.std.proofs.Common.{◌≡◌, ℕ, ◌+◌, List, [], ◌∷◌, ◌++◌, Bool, true, false, refl, sym, ap, ◌∙◌, arith, true≢false, append-nil}
use Rattle.deneva_base.specs.declared.causes.Cause.{Cause}
use Rattle.deneva_base.specs.declared.keys.Key.{Key}
use Rattle.deneva_base.specs.declared.numbers.Attempt.{Attempt}
use Rattle.deneva_base.specs.declared.numbers.Number.{Number}
use Rattle.deneva_base.specs.declared.numbers.TxnId.{TxnId}
use Rattle.deneva_base.specs.Rows.{Row}
use Rattle.server_core.specs.Coordinator.{coordinator, overs}
use Rattle.server_core.specs.Roles.{FitsRole, setting_of}
use Rattle.server_core.specs.Setting.{Setting}
use Rattle.server_core.specs.Stamps.{counter}
use Rattle.server_core.specs.declared.messages.Mail.{Mail}
use Rattle.server_core.specs.declared.messages.Msg.{Msg}
use Rattle.server_core.specs.declared.messages.Msg.TheVariants.{Start, Ask, Granted, Refused, Prepare, Yes, No, Commit, Abort, Done, Undone}
use Rattle.coord.specs.declared.coord.Coord.{Coord}
use Rattle.coord.specs.Open.{state_at}
use Rattle.coord.specs.Standing.{role_of, Coordinates, is_call}
use Rattle.coord.proofs.Steps.{suits}
use Rattle.coord.proofs.Turns.{touches, follows_other}

-- the message is one for the coordinator of its transaction
abbrev pub is_for_home : Msg → Bool
is_for_home (Start who) = true
is_for_home (Granted who key row version bound) = true
is_for_home (Refused who key cause) = true
is_for_home (Yes who part lo hi) = true
is_for_home (No who part cause) = true
is_for_home (Done who part) = true
is_for_home (Undone who part) = true
is_for_home m = false

pub other_kind : (m : Msg) → ((who : Attempt) → m ≡ Start who → ⊥) → ((who : Attempt) (key : Key) (row : Row) (version : Number) (bound : ℕ) → m ≡ Granted who key row version bound → ⊥) → ((who : Attempt) (key : Key) (cause : Cause) → m ≡ Refused who key cause → ⊥) → ((who : Attempt) (part lo hi : ℕ) → m ≡ Yes who part lo hi → ⊥) → ((who : Attempt) (part : ℕ) (cause : Cause) → m ≡ No who part cause → ⊥) → ((who : Attempt) (part : ℕ) → m ≡ Done who part → ⊥) → ((who : Attempt) (part : ℕ) → m ≡ Undone who part → ⊥) → is_for_home m ≡ false
other_kind (Start who) a b c d e f g = absurd (a who refl)
other_kind (Granted who key row version bound) a b c d e f g = absurd (b who key row version bound refl)
other_kind (Refused who key cause) a b c d e f g = absurd (c who key cause refl)
other_kind (Yes who part lo hi) a b c d e f g = absurd (d who part lo hi refl)
other_kind (No who part cause) a b c d e f g = absurd (e who part cause refl)
other_kind (Done who part) a b c d e f g = absurd (f who part refl)
other_kind (Undone who part) a b c d e f g = absurd (g who part refl)
other_kind (Ask who stamp key mode) a b c d e f g = refl
other_kind m a b c d e f g = refl

record IsQuiet (s : Setting) (p : ℕ) (m : Msg) (ms : List Msg) : Type 0 where
  pub says : coordinator s p m ms ≡ []
  pub other : (x : TxnId) → touches x m ≡ false
  pub counts : counter s (m ∷ ms) ≡ counter s ms
  pub over : overs s (m ∷ ms) ≡ overs s ms

quiet : (s : Setting) (p : ℕ) (m : Msg) (ms : List Msg) → is_for_home m ≡ false → IsQuiet s p m ms
quiet s p (Start who) ms e = absurd (true≢false e)
quiet s p (Granted who key row version bound) ms e = absurd (true≢false e)
quiet s p (Refused who key cause) ms e = absurd (true≢false e)
quiet s p (Yes who part lo hi) ms e = absurd (true≢false e)
quiet s p (No who part cause) ms e = absurd (true≢false e)
quiet s p (Done who part) ms e = absurd (true≢false e)
quiet s p (Undone who part) ms e = absurd (true≢false e)
quiet s p (Ask who stamp key mode) ms e = record { says = refl; other = λ x. refl; counts = refl; over = refl }
quiet s p m ms e = record { says = refl; other = λ x. refl; counts = refl; over = refl }

module _ (c : Coord) (ms : List Msg) (m : Msg) (e : is_for_home m ≡ false) where
  pub quiet_says : (mails : List Mail) → mails ≡ mails ++ coordinator (setting_of c.role) c.role.part m ms
  quiet_says mails = sym (append-nil mails) ∙ ap (λ l. mails ++ l) (sym (quiet (setting_of c.role) c.role.part m ms e).says)

  pub quiet_stands : (from : ℕ) → Coordinates c ms → FitsRole (role_of c) from m ms → Coordinates c (m ∷ ms)
  quiet_stands from co fits =
      let q = quiet (setting_of c.role) c.role.part m ms e in
      record {
        voting = co.voting;
        keeps = co.keeps;
        fit = ((from, suits c.role c.fixed c.counter c.homes.items c.next (state_at c.open) ms co m from fits), co.fit);
        count = co.count ∙ sym q.counts;
        small = let less = co.small in omega (arith, less);
        order = co.order;
        place = co.place ∙ ap (λ n. (setting_of c.role).limit + n) (sym q.over);
        follows = λ x. follows_other (setting_of c.role) c.role.part x (state_at c.open x) m ms (q.other x) (co.follows x);
      }

call_is_other : (m : Msg) → is_call m ≡ true → is_for_home m ≡ false
call_is_other (Ask who stamp key mode) e = refl
call_is_other (Prepare who bound writes appends) e = refl
call_is_other (Commit who number) e = refl
call_is_other (Abort who) e = refl
call_is_other m e = absurd (true≢false (sym e))

-- the messages of a participant leave a coordinator as it is
pub passes : (c : Coord) (from : ℕ) (ms : List Msg) (m : Msg) → Coordinates c ms → FitsRole (role_of c) from m ms → is_call m ≡ true → Coordinates c (m ∷ ms)
passes c from ms m co fits e = quiet_stands c ms m (call_is_other m e) from co fits
