use Rattle.std.proofs.Common.{◌≡◌, rules, List, ◌∷◌, ◌++◌, ap, ◌∙◌, subst}
use Rattle.deneva_base.specs.declared.answers.Wake.{Wake}
use Rattle.protocol_rules.specs.History.{Abort}
use Rattle.control_trials.specs.Logs.{Follows}
use Rattle.control_trials.proofs.steps.abort.Goals as goal

pub returns : goal.returns
returns g c =
    let k = c.requires.kept in
    let may = c.may_abort.ensures.may (search rules) k.calls k.follows in
    let woken : List Wake = (g.C.Control.rule k.loaded).abort k.calls c.args.who in
    let e : c.as_slice.result.now ≡ woken = c.as_slice.ensures ∙ (c.in_ok-abort.ensures.woken k.loaded k.calls k.is may ∙ ap (λ (l : List Wake). l ++ woken) c.new-woken.ensures) in
    record {
      loaded = k.loaded;
      calls = Abort c.args.who woken ∷ k.calls;
      rows = k.rows;
      is = c.in_ok-abort.ensures.stands k.loaded k.calls k.is may;
      follows = subst (λ (l : List Wake). Follows c.note_abort.new.self (Abort c.args.who l ∷ k.calls)) e (c.in_ok-note_abort.ensures k.calls k.follows);
    }
