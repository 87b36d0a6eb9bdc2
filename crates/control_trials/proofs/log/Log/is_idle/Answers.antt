use Rattle.std.proofs.Common.{rules, ◌≡◌, false, not, sym}
use Rattle.std.specs.List.{list_any}
use Rattle.deneva_base.specs.Keys.{attempt_eq}
use Rattle.control_trials.proofs.Logs.{unrefused, opened}
use Rattle.control_trials.proofs.log.Log.is_idle.Goals as goal

pub returns-then-not-has-clause-may : goal.returns-then-not-has-clause-may
returns-then-not-has-clause-may c t h f =
    let log = c.args.self.now in
    let who = c.args.who in
    let r : list_any (λ a. attempt_eq a who) log.refused ≡ false = search rules in
    let s : list_any (λ a. attempt_eq a who) log.closed ≡ false = search rules in
    record {
      running = c.is_running.ensures.may (search rules) h f;
      unrefused = unrefused log h f who r;
      opened = opened log h f who s;
    }
