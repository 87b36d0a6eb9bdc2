-- What a rule owes: how far its numbers rise.
use Rattle.std.specs.Prelude.{⊤, ℕ, ◌+◌, ◌≤◌, List, [], ◌∷◌}
use Rattle.deneva_base.specs.declared.keys.Key.{Key}
use Rattle.deneva_base.specs.declared.numbers.Attempt.{Attempt}
use Rattle.deneva_base.specs.declared.numbers.Number.{Number}
use Rattle.deneva_base.specs.declared.keys.Mode.{Mode}
use Rattle.deneva_base.specs.Lists.{IsIn}
use Rattle.deneva_base.specs.Rows.{Rows}
use Rattle.deneva_base.specs.declared.causes.Cause.{Cause}
use Rattle.deneva_base.specs.declared.causes.Cause.TheVariants.{Held, Younger, Written, ReadLater, EmptyRange, Apart, Trimmed}
use Rattle.deneva_base.specs.declared.answers.Answer.{Answer}
use Rattle.deneva_base.specs.declared.answers.Answer.TheVariants.{Granted as Gives, Waits, Refused as Refuses}
use Rattle.deneva_base.specs.declared.answers.Vote.{Vote}
use Rattle.deneva_base.specs.declared.answers.Vote.TheVariants.{Yes as VotesYes, No as VotesNo}
use Rattle.deneva_base.specs.declared.answers.Wake.{Wake}
use Rattle.deneva_base.specs.declared.causes.Bound.{Bound}
use Rattle.deneva_base.specs.declared.rows.Keyed.{Keyed}
use Rattle.protocol_rules.specs.History.{Ask as Asked, Prepare as Prepared, Commit as Committed, Abort as Aborted, History}
use Rattle.protocol_rules.specs.Conditions.{MayAsk, MayPrepare, MayCommit, MayAbort}
use Rattle.protocol_rules.specs.Rules.{Rule, Obeys}

-- numbers up to b
abbrev pub CauseUnder : ℕ → Cause → Type 0
CauseUnder b (Held key by) = ⊤
CauseUnder b (Younger key by age) = age ≤ b
CauseUnder b (Written key stamp) = stamp ≤ b
CauseUnder b (ReadLater key stamp) = stamp ≤ b
CauseUnder b (EmptyRange lo lo_key hi hi_by) = (lo ≤ b) × (hi ≤ b)
CauseUnder b (Apart lo lo_part hi hi_part) = (lo ≤ b) × (hi ≤ b)
CauseUnder b (Trimmed key floor) = floor ≤ b

abbrev pub AnswerUnder : ℕ → Answer → Type 0
AnswerUnder b (Gives row version bound) = (version.n ≤ b) × (bound ≤ b)
AnswerUnder b Waits = ⊤
AnswerUnder b (Refuses cause) = CauseUnder b cause

abbrev pub VoteUnder : ℕ → Vote → Type 0
VoteUnder b (VotesYes lo hi) = lo ≤ b
VoteUnder b (VotesNo cause) = CauseUnder b cause

abbrev pub WakesUnder : ℕ → List Wake → Type 0
WakesUnder b ws = (w : Wake) → IsIn w ws → (w.version.n ≤ b) × (w.bound ≤ b)

-- what was called and voted had no greater number
abbrev pub HistoryUnder : ℕ → History → Type 0
HistoryUnder b [] = ⊤
HistoryUnder b (Asked who stamp key mode answer ∷ h) = (stamp ≤ b) × HistoryUnder b h
HistoryUnder b (Prepared who bound writes appends vote ∷ h) = (bound.n ≤ b) × VoteUnder b vote × HistoryUnder b h
HistoryUnder b (Committed who number woken ∷ h) = (number.n ≤ b) × HistoryUnder b h
HistoryUnder b (Aborted who woken ∷ h) = HistoryUnder b h

-- one call raises the numbers by at most the span
pub record Grows (rule : Rows → Rule) (span : ℕ) : Type 0 where
  pub ask : (loaded : Rows) (h : History) (b : ℕ) (who : Attempt) (stamp : ℕ) (key : Key) (mode : Mode) → Obeys loaded (rule loaded) h → HistoryUnder b h → MayAsk loaded h who stamp key → stamp ≤ b → AnswerUnder (b + span) ((rule loaded).ask h who stamp key mode)
  pub vote : (loaded : Rows) (h : History) (b : ℕ) (who : Attempt) (bound : Bound) (writes appends : List Keyed) → Obeys loaded (rule loaded) h → HistoryUnder b h → MayPrepare h who bound writes appends → bound.n ≤ b → VoteUnder (b + span) ((rule loaded).vote h who bound writes appends)
  pub commit : (loaded : Rows) (h : History) (b : ℕ) (who : Attempt) (number : Number) → Obeys loaded (rule loaded) h → HistoryUnder b h → MayCommit h who number → number.n ≤ b → WakesUnder (b + span) ((rule loaded).commit h who number)
  pub abort : (loaded : Rows) (h : History) (b : ℕ) (who : Attempt) → Obeys loaded (rule loaded) h → HistoryUnder b h → MayAbort h who → WakesUnder (b + span) ((rule loaded).abort h who)
