use Rattle.std.proofs.Common.{sym, ap, ◌∙◌}
use Rattle.lock_control.specs.Seen.{Locks}
use Rattle.lock_control.proofs.Idle.{idle_from}
use Rattle.lock_control.proofs.requests.KeyLocks.is_idle.Goals as goal

pub returns-then-request : goal.returns-then-request
returns-then-request c =
    c.is_barred.ensures
    ∙ sym (idle_from c.args.ended c.args.self.now.requests _ (c.deref-request-items.ensures.value ∙ ap (λ (l : Locks). l.requests) c.self.view_is) c.loop-request.request-index _ c.loop-request-test.true c.if-request.true)
    ∙ c.loop-request.invariant
