use Rattle.std.proofs.Common.{arith}
use Rattle.std.proofs.lemmas.Grind.{common_steps}
use Rattle.deneva_io.proofs.Steps.{grew_more}
use Rattle.deneva_top.proofs.calls.write_all.Goals as goal

pub loop-at-preserved : goal.loop-at-preserved
loop-at-preserved g c =
    record {
      grew = grew_more _ _ _ c.loop-at.at c.in-Took.count c.args.text.now c.loop-at.invariant.grew c.in-Took.ensures.took.2;
      count = omega (arith, c.loop-at.invariant.count, c.in-Took.ensures.cause);
      within = grind (arith, common_steps);
    }
