use Rattle.std.proofs.Common.{◌≡◌, ◌<◌, ◌/◌, ◌%◌, ℕ, List, ◌++◌, ◌∷◌, [], length, map, take, arith, ap, sym, ◌∙◌, length-append}
use Rattle.std.proofs.lemmas.Bool.Decides.{nat_tests}
use Rattle.std.proofs.lemmas.Grind.{common_steps}
use Rattle.std.proofs.lemmas.List.{map_more, take_all}
use Rattle.deneva_base.specs.declared.numbers.Number.{Number}
use Rattle.deneva_base.specs.declared.numbers.TxnId.{TxnId}
use Rattle.txn_program.specs.Serial.{all_ids}
use Rattle.txn_program.proofs.Ids.{id_for_each}
use Rattle.server_core.specs.GlobalOrder.{number, numbered}
use Rattle.server_core.specs.Setting.{setting}
use Rattle.calvin_seq.proofs.Counts.{number_is}
use Rattle.server_core.proofs.roles.Homes.{id_of, id_at}
use Rattle.calvin_seq.proofs.Places.{homes_until, valid_at, more_homes}
use Rattle.calvin_seq.proofs.order.numbers_of.Goals as goal

pub home-seq-requires-clause-valid : goal.home-seq-requires-clause-valid
home-seq-requires-clause-valid c = valid_at c.args.work.now c.requires.valid c.loop-at.at (omega (arith, c.loop-at-test.true)) c.get.result.now c.get.ensures

pub loop-at-preserved : goal.loop-at-preserved
loop-at-preserved c =
    let w = c.args.work.now in
    let less : c.loop-at.at < length w.programs = omega (arith, c.loop-at-test.true) in
    let below : c.home-seq.result < c.args.parts = c.home-seq.ensures.below in
    record {
      numbered = λ k same.
          let s = setting k w in
          let q = c.home-seq.result in
          let j = c.index-index.result.now in
          let before = map (number s) (take c.loop-at.at (all_ids w)) in
          let place : c.from-in-loop-at.result ≡ q = omega arith in
          let index : j ≡ length (homes_until s q c.loop-at.at) = grind (arith, common_steps, place, c.index-index.ensures, c.loop-at.invariant.counted k same q below) in
          let numbered : c.ordered_number.result ≡ numbered s.parts (j / 8) q (j % 8) = grind (arith, same, c.ordered_number.ensures) in
          let one = number_is w c.loop-at.at less c.get.result.now c.get.ensures k c.args.parts same c.requires.parts q j c.home-seq.ensures.home index in
          c.in_ok-push.ensures.items
          ∙ ap (λ (l : List Number). l ++ record { n = c.ordered_number.result; id = id_of c.loop-at.at } ∷ []) (c.loop-at.invariant.numbered k same)
          ∙ ap (λ (n : ℕ). before ++ record { n = n; id = id_of c.loop-at.at } ∷ []) numbered
          ∙ ap (λ (n : Number). before ++ n ∷ []) one
          ∙ ap (λ (x : TxnId). before ++ number s x ∷ []) (sym (id_at w c.loop-at.at less))
          ∙ sym (map_more (number s) (all_ids w) c.loop-at.at (id_of c.loop-at.at) (omega (arith, less, id_for_each w)));
      counted = λ k same q h.
          let before = c.loop-at.invariant.counted k same q h in
          let one = more_homes w c.loop-at.at less c.get.result.now c.get.ensures k c.args.parts same c.requires.parts q in
          grind (arith, common_steps, nat_tests, length-append, before, one);
      few = λ q h. let before = c.loop-at.invariant.few q h in grind (arith, common_steps, before);
      each = grind (arith, common_steps);
    }

pub returns : goal.returns
returns c k same =
    c.loop-at.invariant.numbered k same
    ∙ ap (map (number (setting k c.args.work.now))) (take_all c.loop-at.at (all_ids c.args.work.now) (omega (arith, id_for_each c.args.work.now)))
