use Rattle.std.proofs.Common.{◌≡◌, ◌<◌, ℕ, List, ◌++◌, ◌∷◌, [], length, map, take, arith, ap, sym, ◌∙◌}
use Rattle.std.proofs.lemmas.List.{map_more, take_all}
use Rattle.deneva_base.specs.declared.keys.Access.{Access}
use Rattle.deneva_base.specs.declared.numbers.TxnId.{TxnId}
use Rattle.txn_program.specs.Serial.{all_ids}
use Rattle.txn_program.specs.Transactions.{partitions_of}
use Rattle.txn_program.proofs.Ids.{id_for_each}
use Rattle.server_core.specs.Setting.{setting, participants_for}
use Rattle.calvin_seq.proofs.Parts.{few_parts, parts_at}
use Rattle.server_core.proofs.roles.Homes.{id_of, id_at}
use Rattle.calvin_seq.proofs.partitions.participant_counts.Goals as goal

pub overflow_cast-len : goal.overflow_cast-len
overflow_cast-len c =
    let few = few_parts c.args.parts c.as_slice.result.now in
    omega (arith, few, c.ranges.parts.fits, c.len-in-loop-at.ensures, ap length c.in_ok-found.ensures)

pub loop-at-preserved : goal.loop-at-preserved
loop-at-preserved c k same =
    let w = c.args.work.now in
    let s = setting k w in
    let less : c.loop-at.at < length w.programs = omega (arith, c.loop-at-test.true) in
    let count : TxnId → ℕ = λ x. length (participants_for s x) in
    let before : List ℕ = map count (take c.loop-at.at (all_ids w)) in
    let size : c.len-in-loop-at.result ≡ length (partitions_of c.args.parts c.as_slice.result.now) = omega (arith, c.len-in-loop-at.ensures, ap length c.in_ok-found.ensures) in
    let one : c.len-in-loop-at.result ≡ count (id_of c.loop-at.at) =
    size
    ∙ ap (λ (l : List Access). length (partitions_of c.args.parts l)) (cc (c.in_ok-accesses.ensures))
    ∙ ap length (sym (parts_at w c.loop-at.at c.get.result.now c.get.ensures k c.args.parts same)) in
    c.in_ok-push.ensures.items
    ∙ ap (λ (l : List ℕ). l ++ c.len-in-loop-at.result ∷ []) (c.loop-at.invariant k same)
    ∙ ap (λ (n : ℕ). before ++ n ∷ []) one
    ∙ ap (λ (x : TxnId). before ++ count x ∷ []) (sym (id_at w c.loop-at.at less))
    ∙ sym (map_more count (all_ids w) c.loop-at.at (id_of c.loop-at.at) (omega (arith, less, id_for_each w)))

pub returns : goal.returns
returns c k same =
    let w = c.args.work.now in
    let count : TxnId → ℕ = λ x. length (participants_for (setting k w) x) in
    c.loop-at.invariant k same
    ∙ ap (map count) (take_all c.loop-at.at (all_ids w) (omega (arith, id_for_each w)))
