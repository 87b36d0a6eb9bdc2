use Rattle.std.proofs.Common.{rules, ◌≡◌, List, ◌∷◌, [], ◌++◌, sym, ap, ◌∙◌, cond, Some}
use Rattle.std.proofs.lemmas.Result.{err_from_is_err_and}
use Rattle.std.specs.Map.{lookup}
use Rattle.std.specs.HashMap as table
use Rattle.deneva_base.specs.declared.keys.Key.{Key}
use Rattle.calvin_sched.specs.Tables.{queue_in, same_key}
use Rattle.calvin_sched.specs.declared.requests.Queue.{Queue}
use Rattle.calvin_sched.specs.declared.requests.Request.{Request}
use Rattle.calvin_sched.proofs.LockSteps.{set_queue, keep_queue}
use Rattle.calvin_sched.proofs.locks.LockTable.ask.Goals as goal

pub returns-in_err-push-clause-err : goal.returns-in_err-push-clause-err
returns-in_err-push-clause-err c =
    let p = err_from_is_err_and c.from_residual.result c.from_residual.ensures.1 in
    let kept : Queue = record { requests = c.push.new.self } in
    let items : c.push.new.self.items ≡ queue_in (lookup (same_key c.args.request.key) c.args.self.now.queues.entries) = search rules in
    rw p.1 (keep_queue c.args.self.now.queues.entries (c.get_mut.follows.lender kept).entries c.args.request.key kept items ((c.get_mut.follows.holds kept).3 (search rules)).0)

pub returns-clause-ok : goal.returns-clause-ok
returns-clause-ok c other =
    let none : lookup (same_key c.args.request.key) c.args.self.now.queues.entries ≡ _ = sym c.in_default.ensures.value in
    let kept : Queue = record { requests = c.push-2.new.self } in
    let items : c.push-2.new.self.items ≡ queue_in (lookup (same_key c.args.request.key) c.args.self.now.queues.entries) ++ c.args.request ∷ [] = search (rules, none) in
    set_queue c.args.self.now.queues.entries c.insert.new.self.entries c.args.request.key kept
    (λ q. c.in_ok-insert.ensures.updates.0 q ∙ ap (λ (m : table.HashMap Key Queue _). cond (same_key c.args.request.key q) (Some kept) (lookup (same_key q) m.entries)) c.get_mut.follows.holds-at-none) other
    ∙ ap (λ (l : List Request). cond (same_key c.args.request.key other) l (queue_in (lookup (same_key other) c.args.self.now.queues.entries))) items
