use Rattle.std.proofs.Common.{◌≡◌, length, map, take}
use Rattle.deneva_base.specs.declared.config.Config.{Config}
use Rattle.txn_program.specs.Serial.{all_ids}
use Rattle.server_core.specs.Setting.{setting, participants_for}
use Rattle.calvin_seq.proofs.partitions.participant_counts.Given as goal

-- those so far are counted
abbrev pub invariant-loop-at : goal.invariant-loop-at
invariant-loop-at l = (c : Config) → c.parts ≡ l.parts → l.counts.items ≡ map (λ x. length (participants_for (setting c l.work) x)) (take l.at (all_ids l.work))
