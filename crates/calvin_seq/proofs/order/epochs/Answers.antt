use Rattle.std.proofs.Common.{◌≡◌, ℕ, length, arith, ap, ◌∙◌}
use Rattle.std.proofs.lemmas.Bool.Decides.{nat_tests}
use Rattle.std.proofs.lemmas.Grind.{common_steps}
use Rattle.deneva_base.specs.Lists.{greatest_by}
use Rattle.txn_program.specs.Transactions.{numbers_below}
use Rattle.server_core.specs.GlobalOrder.{eights}
use Rattle.server_core.specs.Setting.{setting, homes}
use Rattle.txn_program.proofs.ValidPrograms.{few_programs}
use Rattle.calvin_seq.proofs.Counts.{greatest_below}
use Rattle.calvin_seq.proofs.Places.{all_homes}
use Rattle.calvin_seq.proofs.order.epochs.Goals as goal

pub loop-part-preserved : goal.loop-part-preserved
loop-part-preserved c =
    let ceil : c.div_ceil.result ≡ eights c.count_homes-homes.result = grind (arith, common_steps, nat_tests, c.div_ceil.ensures) in
    record {
      greatest = λ k same.
          let w = c.args.work.now in
          let f = λ (q : ℕ). eights (length (homes (setting k w) q)) in
          let here : c.div_ceil.result ≡ f c.loop-part.part
          = ceil ∙ ap eights (c.count_homes-homes.ensures.counted k same ∙ ap length (all_homes k w c.loop-part.part c.len.result (omega arith))) in
          grind (arith, nat_tests, here, c.loop-part.invariant.greatest k same, greatest_below f c.loop-part.part);
      few = grind (arith, nat_tests, ceil, few_programs c.args.work.now c.requires.valid);
    }

pub returns : goal.returns
returns c k same =
    let w = c.args.work.now in
    let all : c.loop-part.part ≡ k.parts = omega (arith, same) in
    c.loop-part.invariant.greatest k same
    ∙ ap (λ (n : ℕ). greatest_by (λ q. eights (length (homes (setting k w) q))) (numbers_below n)) all
