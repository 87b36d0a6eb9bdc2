use Rattle.std.proofs.Common.{ℕ, length, arith, length-append, ap, ◌∙◌}
use Rattle.std.proofs.lemmas.Bool.Decides.{nat_tests}
use Rattle.std.proofs.lemmas.Grind.{common_steps}
use Rattle.server_core.specs.Setting.{setting}
use Rattle.calvin_seq.proofs.Places.{homes_until, valid_at, more_homes}
use Rattle.calvin_seq.proofs.order.count_homes.Goals as goal

pub home-requires-clause-valid : goal.home-requires-clause-valid
home-requires-clause-valid c = valid_at c.args.work.now c.requires.valid c.loop-at.at (omega (arith, c.loop-at-test.true)) c.get.result.now c.get.ensures

pub loop-at-preserved : goal.loop-at-preserved
loop-at-preserved c =
    record {
      counted = λ k same. grind (arith, common_steps, nat_tests, length-append, c.loop-at.invariant.counted k same, more_homes c.args.work.now c.loop-at.at (omega (arith, c.loop-at-test.true)) c.get.result.now c.get.ensures k c.args.parts same c.requires.parts c.args.part);
      few = grind (arith, common_steps);
    }

pub returns-clause-counted : goal.returns-clause-counted
returns-clause-counted c k same = c.loop-at.invariant.counted k same ∙ ap (λ (n : ℕ). length (homes_until (setting k c.args.work.now) c.args.part n)) (omega arith)
