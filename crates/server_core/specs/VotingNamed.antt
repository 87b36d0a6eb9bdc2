-- Each abort line names what the rule found in the history of that partition at that step.
use Rattle.std.specs.Prelude.{◌≡◌, ℕ, ◌<◌, ◌≤◌, List, ◌∷◌, ◌++◌, true}
use Rattle.deneva_base.specs.declared.keys.Key.{Key}
use Rattle.deneva_base.specs.declared.keys.Mode.{Mode}
use Rattle.deneva_base.specs.Lists.{IsIn}
use Rattle.deneva_base.specs.declared.causes.Cause.{Cause}
use Rattle.deneva_base.specs.declared.causes.Cause.TheVariants.{Held, Younger, Written, ReadLater, EmptyRange, Apart, Trimmed}
use Rattle.deneva_base.specs.declared.answers.Answer.TheVariants.{Refused as Refuses}
use Rattle.deneva_base.specs.declared.answers.Vote.TheVariants.{Yes as VotesYes, No as VotesNo}
use Rattle.deneva_base.specs.declared.causes.Bound.{Bound}
use Rattle.deneva_base.specs.declared.rows.Keyed.{Keyed}
use Rattle.server_core.specs.declared.messages.Msg.TheVariants.{Ask, Prepare, No}
use Rattle.server_core.specs.declared.messages.Entry.{Entry}
use Rattle.server_core.specs.Setting.{Setting, home, rule_at, participants}
use Rattle.server_core.specs.Received.{votes_for, all_voted}
use Rattle.server_core.specs.declared.ballots.Ballot.{Ballot}
use Rattle.server_core.specs.Participant.{calls}
use Rattle.server_core.specs.Coordinator.{lo_of, hi_of}
use Rattle.server_core.specs.Runs.{heard}
use Rattle.server_core.specs.declared.outcomes.AbortLine.{AbortLine}
use Rattle.server_core.specs.AttemptEnds.{at_home}
use Rattle.server_core.specs.Aborts.{is_vote_of}

-- entry e stands in H over those before it
pub record Stands (H : List Entry) (e : Entry) (before : List Entry) : Type 0 where
  pub after : List Entry
  pub is : H ≡ after ++ e ∷ before

-- the entry is the attempt's Ask for the key, and the rule's answer on what was called before is this refusal
pub record ByAsk (s : Setting) (l : AbortLine) (key : Key) (e : Entry) (before : List Entry) : Type 0 where
  pub stamp : ℕ
  pub mode : Mode
  pub msg : e.msg ≡ Ask l.who stamp key mode
  pub answer : (rule_at s l.node).ask (calls s l.node (heard l.node before)) l.who stamp key mode ≡ Refuses l.cause

-- it is the attempt's Prepare, the rule's vote is this No, and no lesser partition voted No
pub record ByPrepare (s : Setting) (H : List Entry) (l : AbortLine) (e : Entry) (before : List Entry) : Type 0 where
  pub bound : Bound
  pub writes : List Keyed
  pub appends : List Keyed
  pub msg : e.msg ≡ Prepare l.who bound writes appends
  pub vote : (rule_at s l.node).vote (calls s l.node (heard l.node before)) l.who bound writes appends ≡ VotesNo l.cause
  pub least : (part : ℕ) (c : Cause) → IsIn (No l.who part c) (at_home s H l.who) → l.node ≤ part

-- it is the last vote, all votes are Yes, and their windows do not meet
pub record ByVotes (s : Setting) (l : AbortLine) (lo lo_part hi hi_part : ℕ) (e : Entry) (before : List Entry) : Type 0 where
  pub node : l.node ≡ home s l.who.txn
  pub vote : is_vote_of l.who e.msg ≡ true
  pub last : all_voted (votes_for l.who (heard l.node (e ∷ before))) (participants s l.who) ≡ true
  pub yes' : (b : Ballot) → IsIn b (votes_for l.who (heard l.node (e ∷ before))) → (lo' : ℕ) × (hi' : ℕ) × (b.vote ≡ VotesYes lo' hi') × (lo' ≤ lo) × (hi ≤ hi')
  pub lo_by : (b : Ballot) × IsIn b (votes_for l.who (heard l.node (e ∷ before))) × (b.part ≡ lo_part) × (lo_of b.vote ≡ lo)
  pub lo_least : (b : Ballot) → IsIn b (votes_for l.who (heard l.node (e ∷ before))) → lo_of b.vote ≡ lo → lo_part ≤ b.part
  pub hi_by : (b : Ballot) × IsIn b (votes_for l.who (heard l.node (e ∷ before))) × (b.part ≡ hi_part) × (hi_of b.vote ≡ hi)
  pub hi_least : (b : Ballot) → IsIn b (votes_for l.who (heard l.node (e ∷ before))) → hi_of b.vote ≡ hi → hi_part ≤ b.part
  pub apart : hi < lo

abbrev pub NamedBy : Setting → List Entry → AbortLine → Entry → List Entry → Cause → Type 0
NamedBy s H l e before (Held key by) = ByAsk s l key e before
NamedBy s H l e before (Younger key by age) = ByAsk s l key e before
NamedBy s H l e before (Written key stamp) = ByAsk s l key e before
NamedBy s H l e before (ReadLater key stamp) = ByAsk s l key e before
NamedBy s H l e before (Trimmed key floor) = ByAsk s l key e before
NamedBy s H l e before (EmptyRange lo lo_key hi hi_by) = ByPrepare s H l e before
NamedBy s H l e before (Apart lo lo_part hi hi_part) = ByVotes s l lo lo_part hi hi_part e before

pub record IsNamed (s : Setting) (H : List Entry) (l : AbortLine) : Type 0 where
  pub entry : Entry
  pub before : List Entry
  pub stands : Stands H entry before
  pub place : entry.place ≡ l.place
  pub node : entry.node ≡ l.node
  pub found : NamedBy s H l entry before l.cause
