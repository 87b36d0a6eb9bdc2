use Rattle.std.proofs.Common.{◌≡◌, ◌+◌, ◌-◌, length, drop, is_some}
use Rattle.server_core.specs.CalvinScheduler.{as_far}
use Rattle.calvin_sched.specs.Batches.{came}
use Rattle.calvin_sched.proofs.batches.Batches.keep.Given as goal

-- those that are taken are there, and those that stand next come to them
abbrev pub invariant-loop-self : goal.invariant-loop-self
invariant-loop-self l =
    record {
      same : came l.self ≡ came l.initial.self;
      counts : length (as_far is_some (came l.self)) ≡ l.self.taken + length (as_far is_some (drop l.self.taken (came l.self)));
    }

abbrev pub decreases-loop-self : goal.decreases-loop-self
decreases-loop-self l = length (came l.self) - l.self.taken
