-- What came for one attempt among the messages that a node has handled, the newest first.
use Rattle.std.specs.Prelude.{ℕ, List, [], ◌∷◌, Bool, false, ◌||◌, if◌then◌else◌, ◌==◌}
use Rattle.std.specs.List.{list_any, list_all}
use Rattle.deneva_base.specs.declared.keys.Key.{Key}
use Rattle.deneva_base.specs.declared.numbers.Attempt.{Attempt}
use Rattle.deneva_base.specs.Rows.{Row}
use Rattle.deneva_base.specs.Keys.{attempt_eq}
use Rattle.deneva_base.specs.declared.answers.Vote.TheVariants.{Yes as VotesYes, No as VotesNo}
use Rattle.server_core.specs.declared.ballots.Ballot.{Ballot}
use Rattle.server_core.specs.declared.messages.Msg.{Msg}
use Rattle.server_core.specs.declared.messages.Msg.TheVariants.{Start, Granted, Refused, Yes, No, Done, Undone}

-- a Granted: the row, the bound and the key
pub record Reply : Type 0 where
  pub row : Row
  pub bound : ℕ
  pub key : Key

-- those that came for one attempt, the newest first
abbrev pub grants_for : Attempt → List Msg → List Reply
grants_for who [] = []
grants_for who (Granted x key row version bound ∷ ms) = if attempt_eq x who then record { row = row; bound = bound; key = key } ∷ grants_for who ms else grants_for who ms
grants_for who (m ∷ ms) = grants_for who ms

-- the votes
abbrev pub votes_for : Attempt → List Msg → List Ballot
votes_for who [] = []
votes_for who (Yes x part lo hi ∷ ms) = if attempt_eq x who then record { part = part; vote = VotesYes lo hi } ∷ votes_for who ms else votes_for who ms
votes_for who (No x part cause ∷ ms) = if attempt_eq x who then record { part = part; vote = VotesNo cause } ∷ votes_for who ms else votes_for who ms
votes_for who (m ∷ ms) = votes_for who ms

abbrev pub refused_for : Attempt → List Msg → Bool
refused_for who [] = false
refused_for who (Refused x key cause ∷ ms) = attempt_eq x who || refused_for who ms
refused_for who (m ∷ ms) = refused_for who ms

-- from where Done or Undone came
abbrev pub closes_for : Attempt → List Msg → List ℕ
closes_for who [] = []
closes_for who (Done x part ∷ ms) = if attempt_eq x who then part ∷ closes_for who ms else closes_for who ms
closes_for who (Undone x part ∷ ms) = if attempt_eq x who then part ∷ closes_for who ms else closes_for who ms
closes_for who (m ∷ ms) = closes_for who ms

abbrev pub started_for : Attempt → List Msg → Bool
started_for who [] = false
started_for who (Start x ∷ ms) = attempt_eq x who || started_for who ms
started_for who (m ∷ ms) = started_for who ms

-- each of these partitions has voted, or has closed
abbrev pub all_voted : List Ballot → List ℕ → Bool
all_voted bs qs = list_all (λ q. list_any (λ b. b.part == q) bs) qs

abbrev pub all_closed : List ℕ → List ℕ → Bool
all_closed cs qs = list_all (λ q. list_any (λ c. c == q) cs) qs
