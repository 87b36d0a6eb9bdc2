use Rattle.std.proofs.Common.{◌≡◌, suc, [], ◌∷◌, ◌++◌, cond, ltb, append-nil, ap, ◌∙◌, arith}
use Rattle.std.proofs.lemmas.Bool.Decides.{nat_tests}
use Rattle.std.proofs.lemmas.Grind.{common_steps}
use Rattle.std.proofs.lemmas.Result.{on_ok_weaker}
use Rattle.server_core.specs.Calvin.{batch_mails, tick_mail}
use Rattle.server_core.specs.GlobalOrder.{epochs}
use Rattle.server_core.specs.Roles.{setting_of}
use Rattle.calvin_seq.proofs.Counts.{few_epochs}
use Rattle.calvin_seq.proofs.sequencer.Sequencer.tick.Goals as goal
use Rattle.calvin_seq.proofs.sequencer.Sequencer.tick.Goals.{then-epoch-self+in_ok-push-2, else-epoch-self}

pub overflow_add-epoch : goal.overflow_add-epoch
overflow_add-epoch c =
    let p = c.args.self.now.role in
    let few = few_epochs p.config p.work.now p.valid in
    omega (arith, few, c.requires.epoch)

pub overflow_add-epoch-then-epoch-self : goal.overflow_add-epoch-then-epoch-self
overflow_add-epoch-then-epoch-self c =
    let p = c.args.self.now.role in
    let few = few_epochs p.config p.work.now p.valid in
    omega (arith, few, c.requires.epoch)

pub returns-clause-ok : goal.returns-clause-ok
returns-clause-ok c =
    let p = c.args.self.now.role in
    let s = setting_of p in
    let mails : c.if-epoch-self.mails ≡ batch_mails s p.part c.args.epoch ++ cond (ltb (suc c.args.epoch) (epochs s)) (tick_mail p.part (suc c.args.epoch) ∷ []) [] =
    elim c.if-epoch-self.branch [ then-epoch-self+in_ok-push-2 w ↦ grind (arith, common_steps, nat_tests, w.in_ok-push-2.ensures, w.push-then-epoch-self.ensures, c.in_ok-mails.ensures, c.in_ok-batch.ensures) | else-epoch-self w ↦ grind (arith, common_steps, nat_tests, append-nil, c.in_ok-mails.ensures, c.in_ok-batch.ensures) ] in
    on_ok_weaker c.say_all.result (λ e ms. e ∙ ap (λ l. c.args.out.now.mails ++ l) mails) c.say_all.ensures.ok
