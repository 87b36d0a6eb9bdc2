use Rattle.std.proofs.Common.{rules, refl, ap, ◌∙◌}
use Rattle.std.proofs.lemmas.Result.{on_ok_weaker, on_err_weaker}
use Rattle.shelf.specs.Held.{nothing, with_key}
use Rattle.deneva_base.specs.Keys.{attempt_eq}
use Rattle.deneva_base.proofs.Membership.{attempt_tells}
use Rattle.key_table.proofs.Places.{sets_to, sets_same}
use Rattle.shelf.proofs.shelf.Shelf.note.Goals as goal

pub returns-clause-ok : goal.returns-clause-ok
returns-clause-ok c =
    on_ok_weaker c.note.result (λ e. record {
      store = refl;
      holds = sets_to attempt_eq nothing c.args.self.now.holdings (c.slot.follows.lender c.note.new.self) c.args.who c.note.new.self _
          (e ∙ ap (with_key c.args.stamp c.args.key) c.in_ok-holding.ensures.value) (c.slot.follows.holds c.note.new.self (search rules));
      promised = refl;
    }) c.note.ensures.ok

pub returns-clause-err : goal.returns-clause-err
returns-clause-err c =
    on_err_weaker c.note.result (λ e. record {
      store = refl;
      holds = sets_same attempt_eq attempt_tells nothing c.args.self.now.holdings (c.slot.follows.lender c.note.new.self) c.args.who c.note.new.self
          (e ∙ c.in_ok-holding.ensures.value) (c.slot.follows.holds c.note.new.self (search rules));
      promised = refl;
    }) c.note.ensures.err
