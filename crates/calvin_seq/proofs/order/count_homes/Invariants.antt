use Rattle.std.proofs.Common.{◌≡◌, ◌≤◌, length}
use Rattle.deneva_base.specs.declared.config.Config.{Config}
use Rattle.server_core.specs.Setting.{setting}
use Rattle.calvin_seq.proofs.Places.{homes_until}
use Rattle.calvin_seq.proofs.order.count_homes.Given as goal

-- those of the ids so far are counted
abbrev pub invariant-loop-at : goal.invariant-loop-at
invariant-loop-at l =
    record {
      counted : (c : Config) → c.parts ≡ l.parts → l.count ≡ length (homes_until (setting c l.work) l.part l.at);
      few : l.count ≤ l.at;
    }
