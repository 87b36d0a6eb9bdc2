use Rattle.std.proofs.Common.{◌≡◌, rules, List, ◌∷◌, ◌++◌, ap, ◌∙◌, subst}
use Rattle.deneva_base.specs.declared.answers.Wake.{Wake}
use Rattle.protocol_rules.specs.History.{Commit}
use Rattle.control_trials.specs.Logs.{Follows}
use Rattle.control_trials.specs.Trials.{number_of}
use Rattle.control_trials.proofs.steps.commit.Goals as goal

pub returns : goal.returns
returns g c =
    let k = c.requires.kept in
    let number = number_of c.args.who c.args.n in
    let may = c.may_commit.ensures.may (search rules) k.calls k.follows in
    let woken : List Wake = (g.C.Control.rule k.loaded).commit k.calls c.args.who number in
    let e : c.as_slice.result.now ≡ woken = c.as_slice.ensures ∙ (c.in_ok-commit.ensures.woken k.loaded k.calls k.is may ∙ ap (λ (l : List Wake). l ++ woken) c.new-woken.ensures) in
    record {
      loaded = k.loaded;
      calls = Commit c.args.who number woken ∷ k.calls;
      rows = k.rows;
      is = c.in_ok-commit.ensures.stands k.loaded k.calls k.is may;
      follows = subst (λ (l : List Wake). Follows c.note_commit.new.self (Commit c.args.who number l ∷ k.calls)) e (c.in_ok-note_commit.ensures k.calls number k.follows);
    }
