use Rattle.std.proofs.Common.{◌+◌, rules, refl}
use Rattle.std.proofs.lemmas.Result.{on_ok_weaker}
use Rattle.control_trials.specs.declared.log.Log.{Log}
use Rattle.control_trials.proofs.Logs.{after_abort}
use Rattle.control_trials.proofs.log.Log.note_abort.Goals as goal

pub returns : goal.returns
returns c =
    let old : Log = c.args.self.now in
    let mid : Log = record { calls = old.calls + 1; asks = old.asks; waits = old.waits; grants = old.grants; refused = old.refused; closed = old.closed; ended = c.push.new.self; aborted = c.push-2.new.self; windows = old.windows } in
    let new : Log = c.note_wakes.new.self in
    on_ok_weaker c.note_wakes.result (λ m h f. after_abort old mid new h f c.args.who c.args.woken.now m refl refl refl refl refl refl c.in_ok-push.ensures.ok c.in_ok-push-2.ensures.ok refl) c.note_wakes.ensures
