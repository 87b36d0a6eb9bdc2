use Rattle.std.proofs.Common.{rules, ap, ◌∙◌, Some, option_map}
use Rattle.std.proofs.lemmas.Result.{on_err_weaker}
use Rattle.chain_control.specs.Chains.{chain_of}
use Rattle.chain_control.proofs.Places.{keep_chain}
use Rattle.chain_control.proofs.lines.Lines.add.Goals as goal

pub returns-in-Some-clause-err : goal.returns-in-Some-clause-err
returns-in-Some-clause-err c =
    on_err_weaker c.add.result (λ e. keep_chain c.args.self.now.lines.entries (c.get_mut.follows.lender c.add.new.self).entries c.args.key c.add.new.self
    (ap (λ x. Some x) e ∙ ap (option_map chain_of) c.in-Some.ensures.value)
    ((c.get_mut.follows.holds c.add.new.self).3 (search rules)).0) c.add.ensures.err
