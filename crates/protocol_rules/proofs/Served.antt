-- The rule of each voting protocol meets what the laws of runs ask of one: a further protocol adds its line here.
use Rattle.std.specs.Prelude.{⊤}
use Rattle.std.proofs.Common.{◌≡◌, Option, Some, None, subst, arith}
use Rattle.deneva_base.specs.declared.config.Protocol.{Protocol}
use Rattle.deneva_base.specs.declared.config.Protocol.TheVariants.{NoWait, WaitDie, Timestamp, Mvcc, Maat, Calvin}
use Rattle.protocol_rules.specs.Protocols.{Chosen, chosen, kept_versions, window_span}
use Rattle.protocol_rules.specs.Served.{Served}
use Rattle.protocol_rules.proofs.NoWaitServed as no_wait
use Rattle.protocol_rules.proofs.WaitDieServed as wait_die
use Rattle.protocol_rules.proofs.StampsServed as stamps
use Rattle.protocol_rules.proofs.MaatServed as maat

-- the rule that is chosen, if one is
abbrev pub ServedIf : Option Chosen → Type 0
ServedIf None = ⊤
ServedIf (Some o) = Served o.rule

pub served_if : (p : Protocol) → ServedIf (chosen p)
served_if NoWait = no_wait.served
served_if WaitDie = wait_die.served
served_if Timestamp = stamps.timestamp_served
served_if Mvcc = stamps.mvcc_served kept_versions
served_if Maat = maat.served window_span (omega arith)
served_if Calvin = tt

pub served : (p : Protocol) (o : Chosen) → chosen p ≡ Some o → Served o.rule
served p o is = subst ServedIf is (served_if p)
