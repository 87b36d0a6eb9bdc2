use Rattle.std.proofs.Common.{◌+◌, rules, refl}
use Rattle.std.proofs.lemmas.Result.{on_ok_weaker}
use Rattle.control_trials.specs.declared.log.Log.{Log}
use Rattle.control_trials.proofs.Logs.{after_commit}
use Rattle.control_trials.proofs.log.Log.note_commit.Goals as goal

pub returns : goal.returns
returns c =
    let old : Log = c.args.self.now in
    let mid : Log = record { calls = old.calls + 1; asks = old.asks; waits = old.waits; grants = old.grants; refused = old.refused; closed = old.closed; ended = c.push.new.self; aborted = old.aborted; windows = old.windows } in
    let new : Log = c.note_wakes.new.self in
    on_ok_weaker c.note_wakes.result (λ m h number f. after_commit old mid new h f c.args.who c.args.woken.now m refl number refl refl refl refl refl c.in_ok-push.ensures.ok refl refl) c.note_wakes.ensures
