use Rattle.std.proofs.Common.{List, drop}
use Rattle.server_core.specs.declared.messages.Msg.{Msg}
use Rattle.node_trials.specs.Trials.{FitInTurn}
use Rattle.node_trials.proofs.steps.tell.Given as goal

-- the node stands for some messages, after which those that are left fit
abbrev pub invariant-loop-step : goal.invariant-loop-step
invariant-loop-step g l = (ms : List Msg) × g.S.Handles.stands l.node ms × FitInTurn (g.S.Handles.role l.node) ms (drop l.step-index l.steps)
