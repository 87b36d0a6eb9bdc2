use Rattle.std.proofs.Common.{List, ap, rules, ◌∙◌}
use Rattle.std.proofs.lemmas.Fn.{filter_same}
use Rattle.range_control.specs.declared.accesses.Held.{Held}
use Rattle.range_control.specs.Accesses.{without}
use Rattle.range_control.proofs.accesses.KeyAccesses.leave.Goals as goal

pub returns : goal.returns
returns c =
    ap (λ (held : List Held). record { held = held; past = c.self.inside.past }) (filter_same _ _ _ (λ x b f' k. search rules) _ _ c.retain.ensures.filtered)
    ∙ ap (without c.args.who) c.self.view_is
