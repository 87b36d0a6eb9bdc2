-- The two families of protocols, those that vote and Calvin: each tells what its nodes say, and what holds of their runs.
-- What is said of a configuration is what the family of its protocol says of the setting. Messages and entries are listed
-- with the newest first.
use Rattle.std.specs.Prelude.{ℕ, List, [], Option, Some, None}
use Rattle.deneva_base.specs.Rows.{Rows}
use Rattle.deneva_base.specs.declared.config.Protocol.{Protocol}
use Rattle.deneva_base.specs.declared.numbers.TxnId.{TxnId}
use Rattle.protocol_rules.specs.Protocols.{Chosen, chosen}
use Rattle.server_core.specs.Aborts.{aborts_of}
use Rattle.server_core.specs.Calvin as ordered
use Rattle.server_core.specs.CalvinAtomic.{IsFinished}
use Rattle.server_core.specs.CalvinFits as ordered_fits
use Rattle.server_core.specs.CalvinLimits.{most_ordered}
use Rattle.server_core.specs.CalvinScheduler.{ordered_rows}
use Rattle.server_core.specs.Limits.{most_events}
use Rattle.server_core.specs.Lines.{lines, sort_lines, giveups_of, ordered_lines}
use Rattle.server_core.specs.Participant.{node_rows}
use Rattle.server_core.specs.Setting.{Setting}
use Rattle.server_core.specs.Voting as voted
use Rattle.server_core.specs.VotingAtomic.{IsWhole}
use Rattle.server_core.specs.VotingFits as voted_fits
use Rattle.server_core.specs.VotingNamed.{IsNamed}
use Rattle.server_core.specs.declared.messages.Entry.{Entry}
use Rattle.server_core.specs.declared.messages.Mail.{Mail}
use Rattle.server_core.specs.declared.messages.Msg.{Msg}
use Rattle.server_core.specs.declared.outcomes.AbortLine.{AbortLine}
use Rattle.server_core.specs.declared.outcomes.Decided.{Decided}
use Rattle.server_core.specs.declared.outcomes.Giveup.{Giveup}

pub record Family : Type 1 where
  -- what node p says on the last of its messages, and the mails in flight at the start
  pub says : Setting → ℕ → List Msg → List Mail
  pub opening : Setting → List Mail
  -- a message to p from f suits what p has handled, by its kind
  pub suits : Setting → ℕ → ℕ → Msg → List Msg → Type 0
  -- no run has more entries
  pub most : Setting → ℕ
  -- the rows of node p after its messages
  pub rows : Setting → ℕ → List Msg → Rows
  -- the decided transactions of a run, those that were given up, and the attempts that were aborted
  pub decided : Setting → List Entry → List Decided
  pub giveups : Setting → List Entry → List Giveup
  pub aborts : Setting → List Entry → List AbortLine
  -- a transaction is decided at all its participants or at none
  pub whole : Setting → List Entry → TxnId → Type 0
  -- an abort line names what was found
  pub named : Setting → List Entry → AbortLine → Type 0

abbrev pub voting : Family
voting = record {
  says = voted.says;
  opening = voted.opening;
  suits = voted_fits.Suits;
  most = most_events;
  rows = node_rows;
  decided = λ s H. sort_lines (lines s H);
  giveups = giveups_of;
  aborts = aborts_of;
  whole = IsWhole;
  named = IsNamed;
}

-- no transaction is given up, and no attempt is aborted
abbrev pub calvin : Family
calvin = record {
  says = ordered.says;
  opening = ordered.opening;
  suits = ordered_fits.Suits;
  most = most_ordered;
  rows = ordered_rows;
  decided = ordered_lines;
  giveups = λ s H. [];
  aborts = λ s H. [];
  whole = IsFinished;
  named = λ s H l. ⊥;
}

-- a protocol that chooses a rule votes
abbrev pub family_of : Option Chosen → Family
family_of (Some o) = voting
family_of None = calvin

abbrev pub family : Protocol → Family
family p = family_of (chosen p)
