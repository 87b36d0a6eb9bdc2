use Rattle.std.proofs.Common.{rules, ◌^◌, ◌≡◌, true, ◌&&◌, leb, refl}
use Rattle.std.proofs.lemmas.Bool.{ltb-true}
use Rattle.std.specs.List.{list_any}
use Rattle.deneva_base.specs.Keys.{attempt_eq}
use Rattle.control_trials.proofs.Logs.{inside}
use Rattle.control_trials.proofs.log.Log.may_commit.Goals as goal

pub returns-then-is_inside-clause-may : goal.returns-then-is_inside-clause-may
returns-then-is_inside-clause-may c small h f =
    let log = c.args.self.now in
    let who = c.args.who in
    let n = c.args.n in
    let w : list_any (λ w. attempt_eq w.who who && (leb w.lo n && leb n w.hi)) log.windows ≡ true = search rules in
    let runs = c.is_running.ensures.may (search rules) h f in
    record {
      short = runs.short;
      unended = runs.unended;
      own = refl;
      inside = inside log h f who n w;
      small = ltb-true n (2 ^ 48) small;
    }
