-- The laws are lemmas.
use Rattle.std.specs.Prelude.{[], refl}
use Rattle.server_core.specs.Voting.{opening}
use Rattle.voting_laws.proofs.numbers.Numbers.{run_good}
use Rattle.voting_laws.proofs.numbers.Picked.{no_twins}
use Rattle.voting_laws.proofs.numbers.Deliveries.{deliver_run, schedule_run, ends}
use Rattle.server_core.proofs.flight.AnyDeliveries.{position_picks}
use Rattle.voting_laws.proofs.Voted.{picked_quiet}
use Rattle.voting_laws.proofs.laws.deliveries_are_runs.Goals as goal

pub returns : goal.returns
returns c = record {
  apart = λ s H flight x front back v l run is i. no_twins s v H flight (run_good s v l H flight run) x front back is i;
  deliver = λ s k w v l run. deliver_run s v l k w run;
  schedule = λ s pick i n w v l run. schedule_run s v l pick i n w run;
  ends = λ s pick v l picks. ends s v l pick picks (record { entries = []; flight = opening s }) refl refl;
  picks = position_picks;
  picked = λ c w o schedule is v l. picked_quiet c w o is v l schedule;
}
