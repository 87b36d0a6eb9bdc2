use Rattle.std.proofs.Common.{refl}
use Rattle.std.proofs.lemmas.Result.{on_ok_weaker, on_err_weaker}
use Rattle.node_core.proofs.Handling.{not_call, step_stands, step_says, step_same}
use Rattle.node_core.proofs.node.NodeHandles.handle.Goals as goal

pub returns-in_default : goal.returns-in_default
returns-in_default g c =
    let n = c.args.self.now in
    let other = not_call c.args.msg.now c.in_default.not-Ask c.in_default.not-Prepare c.in_default.not-Commit c.in_default.not-Abort in
    record {
      role = refl;
      says = on_ok_weaker c.step.result (λ said ms stands fits. step_says g.C.Control.stands g.C.Control.rule n c.args.out.now.mails c.step.new.out.mails c.args._from ms c.args.msg.now other stands fits (λ f. said c.args._from ms stands.coord f)) c.step.ensures.says;
      stands = on_ok_weaker c.step.result (λ after ms stands fits. step_stands g.C.Control.stands g.C.Control.rule n c.step.new.self c.args._from ms c.args.msg.now other c.step.ensures.role stands fits (λ f. after c.args._from ms stands.coord f)) c.step.ensures.stands;
      same_mails = c.step.ensures.same_mails;
      same = on_err_weaker c.step.result (λ after ms stands. step_same g.C.Control.stands g.C.Control.rule n c.step.new.self ms c.step.ensures.role stands (after ms)) c.step.ensures.same;
    }
