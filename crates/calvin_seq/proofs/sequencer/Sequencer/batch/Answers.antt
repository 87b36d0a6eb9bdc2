use Rattle.std.proofs.Common.{◌≡◌, ◌+◌, ◌-◌, ◌*◌, ap, ◌∙◌, arith}
use Rattle.std.proofs.lemmas.Grind.{common_steps}
use Rattle.server_core.specs.GlobalOrder.{eight}
use Rattle.calvin_seq.proofs.Eights.{eight_taken, taken_more}
use Rattle.calvin_seq.proofs.sequencer.Sequencer.batch.Goals as goal

pub loop-at-preserved : goal.loop-at-preserved
loop-at-preserved c =
    let xs = c.args.self.now.homes.items in
    let first = c.args.epoch * 8 in
    let n = c.loop-at.at - first in
    let there : first + n ≡ c.loop-at.at = omega arith in
    let next : c.loop-at.at + 1 - first ≡ n + 1 = omega arith in
    let more = taken_more first n xs c.index.result.now (omega arith) in
    record {
      taken = grind (arith, common_steps, more, there, next);
      few = omega arith;
    }

pub returns : goal.returns
returns c =
    c.loop-at.invariant.taken
    ∙ eight_taken c.args.epoch (c.loop-at.at - c.args.epoch * 8) c.args.self.now.homes.items (omega arith) (λ h. omega (arith, h))
    ∙ ap (eight c.args.epoch) c.args.self.now.homes_are
