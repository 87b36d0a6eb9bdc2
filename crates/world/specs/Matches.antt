-- Which mail gives which entry.
use Rattle.std.specs.Prelude.{◌≡◌, ℕ, ◌<◌, List, slice_get, Some}
use Rattle.server_core.specs.declared.messages.Entry.{Entry}
use Rattle.server_core.specs.declared.messages.Mail.{Mail}

-- the entry is of this mail, whatever its place
abbrev pub Gives : Mail → Entry → Type 0
Gives m e = (m.from ≡ e.from) × (m.to ≡ e.node) × (m.msg ≡ e.msg)

-- the first of these mails that gives the entry is the one at this index
pub record IsFirst (mails : List Mail) (e : Entry) (index : ℕ) : Type 0 where
  pub mail : Mail
  pub here : slice_get mails index ≡ Some mail
  pub gives : Gives mail e
  pub first : (before : ℕ) (m : Mail) → before < index → slice_get mails before ≡ Some m → Gives m e → ⊥
