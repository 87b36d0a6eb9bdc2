-- Which rule answers under which protocol.
use Rattle.std.specs.Prelude.{◌≢◌, ℕ, Bool, true, false, Option, Some, None}
use Rattle.deneva_base.specs.declared.config.Protocol.{Protocol}
use Rattle.deneva_base.specs.declared.config.Protocol.TheVariants.{NoWait, WaitDie, Timestamp, Mvcc, Maat, Calvin}
use Rattle.deneva_base.specs.Rows.{Rows}
use Rattle.protocol_rules.specs.Rules.{Rule}
use Rattle.protocol_rules.specs.NoWait.{no_wait}
use Rattle.protocol_rules.specs.WaitDie.{wait_die}
use Rattle.protocol_rules.specs.Timestamp.{timestamp}
use Rattle.protocol_rules.specs.Mvcc.{mvcc}
use Rattle.protocol_rules.specs.Maat.{maat}

-- what a voting protocol chooses: whether a transaction keeps its first stamp over restarts, and the rule over the
-- rows that were loaded at a partition
pub record Chosen : Type 0 where
  pub fixed : Bool
  pub rule : Rows → Rule

-- MVCC keeps so many versions of a key
abbrev pub kept_versions : ℕ
kept_versions = 4

-- a window of MAAT has at most so many numbers
abbrev pub window_span : ℕ
window_span = 4096

-- Calvin has no votes
abbrev pub chosen : Protocol → Option Chosen
chosen NoWait = Some (record { fixed = true; rule = no_wait })
chosen WaitDie = Some (record { fixed = true; rule = wait_die })
chosen Timestamp = Some (record { fixed = false; rule = timestamp })
chosen Mvcc = Some (record { fixed = false; rule = mvcc kept_versions })
chosen Maat = Some (record { fixed = true; rule = maat window_span })
chosen Calvin = None

-- its participants vote on each transaction, where Calvin fixes an order instead
abbrev pub IsVoting : Protocol → Type 0
IsVoting p = p ≢ Calvin
