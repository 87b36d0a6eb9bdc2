use Rattle.std.proofs.Common.{rules, List, ◌∷◌, sym, subst}
use Rattle.deneva_base.specs.declared.causes.Bound.{Bound}
use Rattle.deneva_base.specs.declared.rows.Keyed.{Keyed}
use Rattle.protocol_rules.specs.Conditions.{MayPrepare}
use Rattle.protocol_rules.specs.History.{Prepare}
use Rattle.control_trials.specs.Trials.{bound_of, rows_of}
use Rattle.control_trials.proofs.steps.prepare.Goals as goal

pub returns : goal.returns
returns g c =
    let k = c.requires.kept in
    let ws = c.in_ok-written.written in
    let more = c.in_ok-appended.appended in
    let plain = c.may_prepare.ensures.may (search rules) k.calls c.args.effect.appends k.follows in
    let may =
    subst (λ (b : Bound). MayPrepare k.calls c.args.who b ws more) (sym c.bound.ensures)
    (subst (λ (l : List Keyed). MayPrepare k.calls c.args.who (bound_of c.args.n) l more) (sym c.in_ok-written.ensures)
    (subst (λ (l : List Keyed). MayPrepare k.calls c.args.who (bound_of c.args.n) (rows_of 0 c.args.effect.writes) l) (sym c.in_ok-appended.ensures) plain)) in
    record {
      loaded = k.loaded;
      calls = Prepare c.args.who c.bound.result ws more c.in-Ok.vote ∷ k.calls;
      rows = k.rows;
      is = c.in-Ok.ensures.stands k.loaded k.calls k.is may;
      follows = c.in_ok-note_prepare.ensures k.calls c.bound.result ws more k.follows;
    }
