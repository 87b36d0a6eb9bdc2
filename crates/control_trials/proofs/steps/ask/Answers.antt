use Rattle.std.proofs.Common.{rules, ◌∷◌, sym, subst}
use Rattle.deneva_base.specs.declared.keys.Key.{Key}
use Rattle.protocol_rules.specs.Conditions.{MayAsk}
use Rattle.protocol_rules.specs.History.{Ask}
use Rattle.control_trials.proofs.steps.ask.Goals as goal

pub ask-requires : goal.ask-requires
ask-requires g c =
    let k = c.requires.kept in
    record { may = (k.loaded, k.calls, k.is, subst (λ (q : Key). MayAsk k.loaded k.calls c.args.who c.args.stamp q) (sym c.key-key.ensures) (c.may_ask.ensures.may (search rules) k.loaded k.calls k.rows k.follows)) }

pub returns : goal.returns
returns g c =
    let k = c.requires.kept in
    let may = subst (λ (q : Key). MayAsk k.loaded k.calls c.args.who c.args.stamp q) (sym c.key-key.ensures) (c.may_ask.ensures.may (search rules) k.loaded k.calls k.rows k.follows) in
    record {
      loaded = k.loaded;
      calls = Ask c.args.who c.args.stamp c.key-key.result c.args.mode c.in_ok-answer.answer ∷ k.calls;
      rows = k.rows;
      is = c.in_ok-answer.ensures.stands k.loaded k.calls k.is may;
      follows = c.in_ok-note_ask.ensures k.calls k.follows;
    }
