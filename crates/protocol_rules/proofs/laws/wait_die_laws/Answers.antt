-- The laws are lemmas.
use Rattle.protocol_rules.specs.WaitDie.{wait_die}
use Rattle.protocol_rules.proofs.WaitDies.{wait_die_windows, wait_die_waits, wait_die_first, wait_die_behind, wait_die_falls, wait_die_wakes, wait_die_right, wait_die_turns}
use Rattle.protocol_rules.proofs.AllWakes.{wakes_once}
use Rattle.protocol_rules.proofs.Fronts.{wait_die_front}
use Rattle.protocol_rules.proofs.laws.wait_die_laws.Goals as goal

pub returns : goal.returns
returns c = record {
  windows = wait_die_windows;
  waits = wait_die_waits;
  first = wait_die_first;
  behind = wait_die_behind;
  falls = λ loaded h key o. wait_die_falls loaded h key o;
  wakes = λ loaded h o. wakes_once loaded (wait_die loaded) h o (wait_die_wakes loaded h o);
  right = wait_die_right;
  turns = wait_die_turns;
  front = wait_die_front;
}
