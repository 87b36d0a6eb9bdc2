use Rattle.std.proofs.Common.{◌∙◌, ◌≤◌, ◌+◌, sym, subst, length, filter}
use Rattle.deneva_base.specs.Keys.{key_eq}
use Rattle.protocol_rules.specs.History.{Asked, waits}
use Rattle.chain_control.proofs.Calls.{kept_are}
use Rattle.chain_control.proofs.Fews.{few_kept, all_kept}
use Rattle.chain_control.proofs.chains.Chains.kept.Goals as goal

pub returns-clause-kept : goal.returns-clause-kept
returns-clause-kept g c loaded h row stands e = c.kept.ensures ∙ kept_are g.row.KEEP c.args.self.now.table loaded h stands c.args.key row e

pub returns-clause-few : goal.returns-clause-few
returns-clause-few g c loaded h row stands e pos =
    subst (λ n. n ≤ g.row.KEEP + length (filter (λ (a : Asked). key_eq a.key c.args.key) (waits h)))
    (sym (c.kept.ensures ∙ kept_are g.row.KEEP c.args.self.now.table loaded h stands c.args.key row e))
    (few_kept loaded g.row.KEEP h c.args.key stands.obeys pos)

pub returns-clause-all : goal.returns-clause-all
returns-clause-all g c loaded h row stands e zero =
    c.kept.ensures ∙ kept_are g.row.KEEP c.args.self.now.table loaded h stands c.args.key row e ∙ all_kept loaded g.row.KEEP h c.args.key zero
