-- The rule of NO_WAIT.
use Rattle.std.specs.Prelude.{List, [], ◌∷◌}
use Rattle.deneva_base.specs.declared.keys.Key.{Key}
use Rattle.deneva_base.specs.Rows.{Rows}
use Rattle.deneva_base.specs.declared.causes.Cause.TheVariants.{Held}
use Rattle.deneva_base.specs.declared.answers.Answer.{Answer}
use Rattle.deneva_base.specs.declared.answers.Answer.TheVariants.{Granted, Refused}
use Rattle.protocol_rules.specs.History.{Grant}
use Rattle.protocol_rules.specs.Rules.{Rule}
use Rattle.protocol_rules.specs.Latest.{Version, latest, seen}
use Rattle.protocol_rules.specs.Locks.{blockers, least, lock_vote}

abbrev pub held_or_granted : Key → List Grant → Version → Answer
held_or_granted key [] v = Granted v.row v.number 0
held_or_granted key (g ∷ gs) v = Refused (Held key (least g gs).who)

abbrev pub no_wait : Rows → Rule
no_wait loaded = record {
  ask = λ h who stamp key mode. held_or_granted key (blockers h (record { who = who; stamp = stamp; key = key; mode = mode })) (seen mode (latest loaded h key));
  vote = λ h who bound writes appends. lock_vote h who;
  commit = λ h who number. [];
  abort = λ h who. [];
}
