use Rattle.std.proofs.Common.{◌+◌, refl, sym, subst}
use Rattle.control_trials.specs.declared.log.Log.{Log}
use Rattle.control_trials.specs.declared.log.Wanted.{Wanted}
use Rattle.control_trials.proofs.Logs.{Answers, after_ask}
use Rattle.control_trials.proofs.log.Log.note_ask.Goals as goal

pub returns-in_ok-push-in-Granted : goal.returns-in_ok-push-in-Granted
returns-in_ok-push-in-Granted c h f =
    let old : Log = c.args.self.now in
    let w : Wanted = c.args.wanted in
    let new : Log = record { calls = old.calls + 1; asks = c.push.new.self; waits = old.waits; grants = c.push-in-Granted.new.self; refused = old.refused; closed = old.closed; ended = old.ended; aborted = old.aborted; windows = old.windows } in
    after_ask old new h f w c.args.answer.now refl c.in_ok-push.ensures.ok refl refl refl refl (subst (Answers old new w.who w.key) (sym c.in-Granted.is) (c.in_ok-push-in-Granted.ensures.ok, refl, refl))

pub returns-in_ok-push-in-Waits : goal.returns-in_ok-push-in-Waits
returns-in_ok-push-in-Waits c h f =
    let old : Log = c.args.self.now in
    let w : Wanted = c.args.wanted in
    let new : Log = record { calls = old.calls + 1; asks = c.push.new.self; waits = c.push-in-Waits.new.self; grants = old.grants; refused = old.refused; closed = old.closed; ended = old.ended; aborted = old.aborted; windows = old.windows } in
    after_ask old new h f w c.args.answer.now refl c.in_ok-push.ensures.ok refl refl refl refl (subst (Answers old new w.who w.key) (sym c.in-Waits.is) (refl, c.in_ok-push-in-Waits.ensures.items, refl))

pub returns-in_ok-push-in-Refused : goal.returns-in_ok-push-in-Refused
returns-in_ok-push-in-Refused c h f =
    let old : Log = c.args.self.now in
    let w : Wanted = c.args.wanted in
    let new : Log = record { calls = old.calls + 1; asks = c.push.new.self; waits = old.waits; grants = old.grants; refused = c.push-in-Refused.new.self; closed = old.closed; ended = old.ended; aborted = old.aborted; windows = old.windows } in
    after_ask old new h f w c.args.answer.now refl c.in_ok-push.ensures.ok refl refl refl refl (subst (Answers old new w.who w.key) (sym c.in-Refused.is) (refl, refl, c.in_ok-push-in-Refused.ensures.ok))
