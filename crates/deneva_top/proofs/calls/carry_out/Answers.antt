use Rattle.std.proofs.Common.{Some, ap, subst, sym, ◌∙◌}
use Rattle.deneva_top.specs.Calls.{Reports}
use Rattle.deneva_top.specs.declared.words.Command.{Command}
use Rattle.deneva_top.proofs.Asked.{command_of-ranges}
use Rattle.deneva_top.proofs.calls.carry_out.Goals as goal

pub replay-requires-clause-config : goal.replay-requires-clause-config
replay-requires-clause-config c = let a = c.requires.asked in command_of-ranges a.0 _ _ (a.1 ∙ ap Some c.in-Replay.is)

pub returns-in_ok-text-in-Replay-clause-reports : goal.returns-in_ok-text-in-Replay-clause-reports
returns-in_ok-text-in-Replay-clause-reports c =
    subst (λ (job : Command). Reports job c.args.work.now (Some c.in_ok-run-in-Replay.run') c.in_ok-text-in-Replay.text) (sym c.in-Replay.is)
    (c.in_ok-run-in-Replay.ensures, c.in_ok-text-in-Replay.ensures)
