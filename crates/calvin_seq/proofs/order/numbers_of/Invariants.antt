use Rattle.std.proofs.Common.{◌≡◌, ◌<◌, ◌≤◌, ℕ, length, map, take, get_or}
use Rattle.deneva_base.specs.declared.config.Config.{Config}
use Rattle.txn_program.specs.Serial.{all_ids}
use Rattle.server_core.specs.GlobalOrder.{number}
use Rattle.server_core.specs.Setting.{setting}
use Rattle.calvin_seq.proofs.Places.{homes_until}
use Rattle.calvin_seq.proofs.order.numbers_of.Given as goal

-- those so far have their numbers, and those of each node are counted
abbrev pub invariant-loop-at : goal.invariant-loop-at
invariant-loop-at l =
    record {
      numbered : (c : Config) → c.parts ≡ l.parts → l.numbers.items ≡ map (number (setting c l.work)) (take l.at (all_ids l.work));
      counted : (c : Config) → c.parts ≡ l.parts → (q : ℕ) → q < l.parts → get_or l.counts.items q 0 ≡ length (homes_until (setting c l.work) q l.at);
      few : (q : ℕ) → q < l.parts → get_or l.counts.items q 0 ≤ l.at;
      each : length l.counts.items ≡ l.parts;
    }
