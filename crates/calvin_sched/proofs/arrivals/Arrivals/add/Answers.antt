use Rattle.std.proofs.Common.{rules, ◌≡◌, List, ◌∷◌, [], ◌++◌, sym, ap, ◌∙◌, cond, Some}
use Rattle.std.proofs.lemmas.Result.{err_from_is_err_and}
use Rattle.std.specs.Map.{lookup}
use Rattle.std.specs.HashMap as table
use Rattle.deneva_base.specs.Keys.{id_eq}
use Rattle.deneva_base.specs.declared.numbers.TxnId.{TxnId}
use Rattle.calvin_sched.specs.Arrivals.{arrivals_in}
use Rattle.calvin_sched.specs.declared.arrivals.Arrival.{Arrival}
use Rattle.calvin_sched.specs.declared.arrivals.Arrived.{Arrived}
use Rattle.calvin_sched.proofs.ArrivalSteps.{set_arrived, keep_arrived}
use Rattle.calvin_sched.proofs.arrivals.Arrivals.add.Goals as goal

pub returns-in_err-push-clause-err : goal.returns-in_err-push-clause-err
returns-in_err-push-clause-err c =
    let p = err_from_is_err_and c.from_residual.result c.from_residual.ensures.1 in
    let kept : Arrived = record { list = c.push.new.self } in
    let items : c.push.new.self.items ≡ arrivals_in (lookup (id_eq c.args.id) c.args.self.now.arrived.entries) = search rules in
    rw p.1 (keep_arrived c.args.self.now.arrived.entries (c.get_mut.follows.lender kept).entries c.args.id kept items ((c.get_mut.follows.holds kept).3 (search rules)).0)

pub returns-clause-ok : goal.returns-clause-ok
returns-clause-ok c other =
    let none : lookup (id_eq c.args.id) c.args.self.now.arrived.entries ≡ _ = sym c.in_default.ensures.value in
    let kept : Arrived = record { list = c.push-2.new.self } in
    let items : c.push-2.new.self.items ≡ arrivals_in (lookup (id_eq c.args.id) c.args.self.now.arrived.entries) ++ record { part = c.args.part; rows = c.args.rows } ∷ [] = search (rules, none) in
    set_arrived c.args.self.now.arrived.entries c.insert.new.self.entries c.args.id kept
    (λ q. c.in_ok-insert.ensures.updates.0 q ∙ ap (λ (m : table.HashMap TxnId Arrived _). cond (id_eq c.args.id q) (Some kept) (lookup (id_eq q) m.entries)) c.get_mut.follows.holds-at-none) other
    ∙ ap (λ (l : List Arrival). cond (id_eq c.args.id other) l (arrivals_in (lookup (id_eq other) c.args.self.now.arrived.entries))) items
