use Rattle.std.proofs.Common.{◌≡◌, ◌-◌, ℕ, arith, ap, subst, ◌∙◌}
use Rattle.deneva_base.specs.declared.numbers.TxnId.{TxnId}
use Rattle.txn_program.proofs.Ids.{id_between, id_for_each}
use Rattle.txn_program.proofs.ValidPrograms.{few_programs}
use Rattle.server_core.specs.GlobalOrder.{number, number_at}
use Rattle.server_core.specs.Setting.{setting}
use Rattle.calvin_seq.proofs.Counts.{number_is}
use Rattle.server_core.proofs.roles.Homes.{id_of}
use Rattle.calvin_seq.proofs.Places.{valid_at}
use Rattle.calvin_seq.proofs.order.calvin_number.Goals as goal

pub overflow_sub-at : goal.overflow_sub-at
overflow_sub-at c = (id_between c.args.work.now c.args.id c.requires.id).0

pub get-requires : goal.get-requires
get-requires c = let b = id_between c.args.work.now c.args.id c.requires.id in omega (arith, b.0, b.1, id_for_each c.args.work.now)

pub home-seq-requires-clause-valid : goal.home-seq-requires-clause-valid
home-seq-requires-clause-valid c =
    let b = id_between c.args.work.now c.args.id c.requires.id in
    valid_at c.args.work.now c.requires.valid (c.args.id.0 - 1) (omega (arith, b.0, b.1, id_for_each c.args.work.now)) c.get.result.now c.get.ensures

pub count_homes-index-requires-clause-limit : goal.count_homes-index-requires-clause-limit
count_homes-index-requires-clause-limit c = let b = id_between c.args.work.now c.args.id c.requires.id in omega (arith, b.0, b.1, id_for_each c.args.work.now)

pub ordered_number-requires : goal.ordered_number-requires
ordered_number-requires c =
    let b = id_between c.args.work.now c.args.id c.requires.id in
    omega (arith, b.0, b.1, id_for_each c.args.work.now, few_programs c.args.work.now c.requires.valid)

pub returns : goal.returns
returns c k same =
    let w = c.args.work.now in
    let b = id_between w c.args.id c.requires.id in
    let s = setting k w in
    let q = c.home-seq.result in
    let j = c.count_homes-index.result in
    let is : id_of (c.args.id.0 - 1) ≡ c.args.id = ap (λ (i : ℕ). record { 0 = i }) (omega (arith, b.0)) in
    let one = number_is w (c.args.id.0 - 1) (omega (arith, b.0, b.1, id_for_each w)) c.get.result.now c.get.ensures k c.args.parts same c.requires.parts q j c.home-seq.ensures.home (c.count_homes-index.ensures.counted k same) in
    let there : number_at s c.args.id q j ≡ number s c.args.id = subst (λ (x : TxnId). number_at s x q j ≡ number s x) is one in
    ap (λ (n : ℕ). record { n = n; id = c.args.id }) (grind (arith, c.ordered_number.ensures, same)) ∙ there
