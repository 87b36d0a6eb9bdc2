-- Runs of nodes that say something on each of their messages. The newest entry stands first.
use Rattle.std.specs.Prelude.{◌≡◌, ℕ, List, [], ◌∷◌, ◌++◌, length, if◌then◌else◌, ◌==◌}
use Rattle.deneva_base.specs.Lists.{IsIn}
use Rattle.server_core.specs.declared.messages.Msg.{Msg}
use Rattle.server_core.specs.declared.messages.Mail.{Mail}
use Rattle.server_core.specs.declared.messages.Entry.{Entry}

-- what each node says on the last of its messages
abbrev pub Saying : Type 0
Saying = ℕ → List Msg → List Mail

abbrev pub entry_of : ℕ → Mail → Entry
entry_of place m = record { place = place; from = m.from; node = m.to; msg = m.msg }

abbrev pub heard : ℕ → List Entry → List Msg
heard p [] = []
heard p (e ∷ H) = if e.node == p then e.msg ∷ heard p H else heard p H

-- one mail is taken out of the middle, the first of its like
pub record Step (before after : List Mail) (m : Mail) (said : List Mail) : Type 0 where
  pub front : List Mail
  pub back : List Mail
  pub stood : before ≡ front ++ m ∷ back
  pub first : IsIn m front → ⊥
  pub left : after ≡ (front ++ back) ++ said

abbrev pub Reaches : Saying → List Mail → List Entry → List Mail → Type 0
Reaches says opening [] flight = flight ≡ opening
Reaches says opening (e ∷ H) flight =
    (before : List Mail) × (m : Mail) × (e ≡ entry_of (length H) m) × Step before flight m (says m.to (m.msg ∷ heard m.to H)) × Reaches says opening H before
