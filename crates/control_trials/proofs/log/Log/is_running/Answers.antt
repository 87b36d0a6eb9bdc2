use Rattle.std.proofs.Common.{rules, ◌^◌, ◌≡◌, false, sym, arith}
use Rattle.std.proofs.lemmas.Bool.{ltb-true}
use Rattle.std.specs.List.{list_any}
use Rattle.deneva_base.specs.Keys.{attempt_eq}
use Rattle.control_trials.proofs.Logs.{unended, nowhere}
use Rattle.control_trials.proofs.log.Log.is_running.Goals as goal

pub returns-then-not-has-clause-may : goal.returns-then-not-has-clause-may
returns-then-not-has-clause-may c small h f =
    let log = c.args.self.now in
    let who = c.args.who in
    let e : list_any (λ a. attempt_eq a who) log.ended ≡ false = search rules in
    let w : list_any (λ p. attempt_eq p.who who) log.waits.items ≡ false = search rules in
    let l = ltb-true log.calls (2 ^ 20) small in
    record {
      short = omega (arith, l, f.short);
      unended = unended log h f who e;
      nowhere = nowhere log h f who w;
    }
