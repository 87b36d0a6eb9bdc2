use Rattle.std.proofs.Common.{ℕ, ◌≡◌, ◌+◌, ◌==◌, arith, length, sym, ap, ap₂, ◌∙◌}
use Rattle.std.proofs.lemmas.List.{length-map}
use Rattle.deneva_base.specs.declared.numbers.TxnId.{TxnId}
use Rattle.txn_program.specs.Serial.{all_ids}
use Rattle.txn_program.proofs.Ids.{id_between}
use Rattle.server_core.specs.Setting.{participants_for}
use Rattle.server_core.specs.Roles.{setting_of}
use Rattle.calvin_sched.proofs.Counting.{complete_counted}
use Rattle.calvin_sched.proofs.FreedSteps.{own_at}
use Rattle.calvin_sched.proofs.node.CalvinNode.is_complete.Goals as goal

pub overflow_sub-id : goal.overflow_sub-id
overflow_sub-id c =
    let f = c.requires.fits in
    (id_between c.args.self.now.role.work.now c.args.id f.4.1).0

pub index-requires : goal.index-requires
index-requires c =
    let n = c.args.self.now in
    let f = c.requires.fits in
    let b = id_between n.role.work.now c.args.id f.4.1 in
    let all = ap length f.3.counts ∙ length-map (all_ids n.role.work.now) (λ x. length (participants_for (setting_of n.role) x)) in
    omega (arith, b.0, b.1, all, n.counts.ok)

pub returns : goal.returns
returns c q rows ms stands suits =
    let n = c.args.self.now in
    let s = setting_of n.role in
    let x = c.args.id in
    let count : TxnId → ℕ = λ y. length (participants_for s y) in
    let counted : c.from.result ≡ count x = c.from.ensures ∙ own_at n.role.work.now count n.counts.items x c.index.result.now stands.counts suits.1 c.index.ensures in
    ap₂ (λ (came all : ℕ). came + 1 == all) (ap length c.of.ensures) counted
    ∙ sym (complete_counted s n.role.part ms stands.fit x q rows suits n.arrivals stands.arrivals)
