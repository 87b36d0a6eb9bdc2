use Rattle.std.proofs.Common.{rules, ap, ◌∙◌, Some}
use Rattle.std.specs.Prelude.{option_map}
use Rattle.std.proofs.lemmas.Result.{on_err_weaker}
use Rattle.coord.specs.Attempts.{state_of}
use Rattle.coord.specs.States.{State}
use Rattle.coord.proofs.Opens.{keep_state}
use Rattle.coord.proofs.open.OpenTxns.hear_grant.Goals as goal

pub returns-in-Some-clause-err : goal.returns-in-Some-clause-err
returns-in-Some-clause-err c =
    on_err_weaker c.hear_grant.result (λ e. keep_state c.args.self.now.attempts.entries (c.get_mut.follows.lender c.hear_grant.new.self).entries c.args.who.txn c.hear_grant.new.self
    (ap (λ (t : State). Some t) e ∙ ap (option_map state_of) c.in-Some.ensures.value)
    ((c.get_mut.follows.holds c.hear_grant.new.self).3 (search rules)).0) c.hear_grant.ensures.err
