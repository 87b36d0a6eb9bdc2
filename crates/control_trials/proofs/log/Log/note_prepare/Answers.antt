use Rattle.std.proofs.Common.{◌+◌, refl, sym, subst}
use Rattle.control_trials.specs.declared.log.Log.{Log}
use Rattle.control_trials.proofs.Logs.{Votes, after_prepare}
use Rattle.control_trials.proofs.log.Log.note_prepare.Goals as goal

pub returns-in_ok-push-in-Yes : goal.returns-in_ok-push-in-Yes
returns-in_ok-push-in-Yes c h bound ws as' f =
    let old : Log = c.args.self.now in
    let new : Log = record { calls = old.calls + 1; asks = old.asks; waits = old.waits; grants = old.grants; refused = old.refused; closed = c.push.new.self; ended = old.ended; aborted = old.aborted; windows = c.push-in-Yes.new.self } in
    after_prepare old new h f c.args.who bound ws as' c.args.vote refl refl refl refl refl c.in_ok-push.ensures.ok refl refl (subst (Votes old new c.args.who) (sym c.in-Yes.is) c.in_ok-push-in-Yes.ensures.ok)

pub returns-in-No : goal.returns-in-No
returns-in-No c h bound ws as' f =
    let old : Log = c.args.self.now in
    let new : Log = record { calls = old.calls + 1; asks = old.asks; waits = old.waits; grants = old.grants; refused = old.refused; closed = c.push.new.self; ended = old.ended; aborted = old.aborted; windows = old.windows } in
    after_prepare old new h f c.args.who bound ws as' c.args.vote refl refl refl refl refl c.in_ok-push.ensures.ok refl refl (subst (Votes old new c.args.who) (sym c.in-No.is) refl)
