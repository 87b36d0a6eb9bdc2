-- What a rule owes: which causes it names.
use Rattle.std.specs.Prelude.{◌≡◌, ⊤, ℕ, List}
use Rattle.deneva_base.specs.declared.keys.Key.{Key}
use Rattle.deneva_base.specs.declared.numbers.Attempt.{Attempt}
use Rattle.deneva_base.specs.declared.keys.Mode.{Mode}
use Rattle.deneva_base.specs.Rows.{Rows}
use Rattle.deneva_base.specs.declared.causes.Cause.{Cause}
use Rattle.deneva_base.specs.declared.causes.Cause.TheVariants.{Held, Younger, Written, ReadLater, EmptyRange, Apart, Trimmed}
use Rattle.deneva_base.specs.declared.answers.Answer.TheVariants.{Refused as Refuses}
use Rattle.deneva_base.specs.declared.answers.Vote.TheVariants.{No as VotesNo}
use Rattle.deneva_base.specs.declared.causes.Bound.{Bound}
use Rattle.deneva_base.specs.declared.rows.Keyed.{Keyed}
use Rattle.protocol_rules.specs.History.{History}
use Rattle.protocol_rules.specs.Rules.{Rule}

-- a refusal names the key, and a No the empty range
abbrev pub NamesKey : Key → Cause → Type 0
NamesKey key (Held k by) = k ≡ key
NamesKey key (Younger k by age) = k ≡ key
NamesKey key (Written k stamp) = k ≡ key
NamesKey key (ReadLater k stamp) = k ≡ key
NamesKey key (Trimmed k floor) = k ≡ key
NamesKey key (EmptyRange lo lo_key hi hi_by) = ⊥
NamesKey key (Apart lo lo_part hi hi_part) = ⊥

abbrev pub NamesRange : Cause → Type 0
NamesRange (EmptyRange lo lo_key hi hi_by) = ⊤
NamesRange (Held k by) = ⊥
NamesRange (Younger k by age) = ⊥
NamesRange (Written k stamp) = ⊥
NamesRange (ReadLater k stamp) = ⊥
NamesRange (Trimmed k floor) = ⊥
NamesRange (Apart lo lo_part hi hi_part) = ⊥

pub record Naming (rule : Rows → Rule) : Type 0 where
  pub asks : (loaded : Rows) (h : History) (who : Attempt) (stamp : ℕ) (key : Key) (mode : Mode) (c : Cause) → (rule loaded).ask h who stamp key mode ≡ Refuses c → NamesKey key c
  pub votes : (loaded : Rows) (h : History) (who : Attempt) (bound : Bound) (writes appends : List Keyed) (c : Cause) → (rule loaded).vote h who bound writes appends ≡ VotesNo c → NamesRange c
