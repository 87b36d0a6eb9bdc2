-- Rules: how a control answers on what was called before.
use Rattle.std.specs.Prelude.{◌≡◌, ℕ, List, [], ◌∷◌, ⊤}
use Rattle.deneva_base.specs.declared.keys.Key.{Key}
use Rattle.deneva_base.specs.declared.numbers.Attempt.{Attempt}
use Rattle.deneva_base.specs.declared.numbers.Number.{Number}
use Rattle.deneva_base.specs.declared.keys.Mode.{Mode}
use Rattle.deneva_base.specs.Rows.{Rows}
use Rattle.deneva_base.specs.declared.causes.Bound.{Bound}
use Rattle.deneva_base.specs.declared.answers.Answer.{Answer}
use Rattle.deneva_base.specs.declared.answers.Vote.{Vote}
use Rattle.deneva_base.specs.declared.answers.Wake.{Wake}
use Rattle.deneva_base.specs.declared.rows.Keyed.{Keyed}
use Rattle.protocol_rules.specs.History.{Call, Ask, Prepare, Commit, Abort, History}
use Rattle.protocol_rules.specs.Conditions.{MayCall}

-- how a control answers on what was called before
pub record Rule : Type 0 where
  pub ask : History → Attempt → ℕ → Key → Mode → Answer
  pub vote : History → Attempt → Bound → List Keyed → List Keyed → Vote
  pub commit : History → Attempt → Number → List Wake
  pub abort : History → Attempt → List Wake

abbrev pub IsAnswered : Rule → History → Call → Type 0
IsAnswered rule h (Ask who stamp key mode answer) = answer ≡ rule.ask h who stamp key mode
IsAnswered rule h (Prepare who bound writes appends vote) = vote ≡ rule.vote h who bound writes appends
IsAnswered rule h (Commit who number woken) = woken ≡ rule.commit h who number
IsAnswered rule h (Abort who woken) = woken ≡ rule.abort h who

-- each call met its conditions and was answered by the rule
abbrev pub Obeys : Rows → Rule → History → Type 0
Obeys loaded rule [] = ⊤
Obeys loaded rule (c ∷ h) = MayCall loaded h c × IsAnswered rule h c × Obeys loaded rule h
