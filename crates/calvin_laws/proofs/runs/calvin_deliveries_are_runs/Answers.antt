-- The laws are lemmas.
use Rattle.std.proofs.Common.{[], refl}
use Rattle.server_core.specs.Calvin.{opening}
use Rattle.calvin_laws.proofs.counts.Deliveries.{deliver_run, schedule_run, ends}
use Rattle.calvin_laws.proofs.counts.Fits.{no_twin}
use Rattle.calvin_laws.proofs.runs.calvin_deliveries_are_runs.Goals as goal

pub returns : goal.returns
returns c = record {
  apart = λ s H flight x front back v run e i. no_twin s v H flight run front back x e i;
  deliver = λ s k w v r. deliver_run s v k w r;
  schedule = λ s pick i n w v r. schedule_run s v pick i n w r;
  ends = λ s pick v picks. ends s v pick picks (record { entries = []; flight = opening s }) refl refl;
}
