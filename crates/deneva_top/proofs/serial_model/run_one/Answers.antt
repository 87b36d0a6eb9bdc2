use Rattle.std.proofs.Common.{◌≡◌, ◌∙◌, ◌-◌, [], ap, sym, rules, to_z, of_z, w64}
use Rattle.std.proofs.lemmas.Option.{get_or_from_slice_get}
use Rattle.deneva_base.specs.Rows.{rows_in}
use Rattle.tpcc_rules.specs.declared.effects.Effect.{Effect}
use Rattle.txn_program.specs.declared.programs.Program.TheVariants.{Ycsb}
use Rattle.txn_program.specs.Serial.{program_of, map_after, settled}
use Rattle.deneva_top.proofs.Turns.{at_turn}
use Rattle.deneva_top.proofs.serial_model.run_one.Goals as goal

pub returns-clause-turn : goal.returns-clause-turn
returns-clause-turn c =
    let e = c.in_ok-verdict.field-0 in
    let known : c.get-program.result.now ≡ program_of c.args.work.now c.args.id =
    sym (get_or_from_slice_get c.args.work.now.programs (c.args.id.0 - 1) c.get-program.result.now (Ycsb []) c.get-program.ensures) in
    let at = at_turn c.args.work.now (rows_in c.args.rows.now.entries) c.args.id c.get-program.result.now c.in_ok-accesses.accesses c.in_ok-reads.reads e
    known c.in_ok-accesses.ensures (search rules) c.in_ok-verdict.ensures in
    let same : to_z w64 (of_z w64 e.answer) ≡ e.answer = search rules in
    rw same (λ i. record { id = c.args.id; reads = at.0 i; verdict = (at.1 i).verdict; answer = (at.1 i).answer })

pub returns-clause-rows : goal.returns-clause-rows
returns-clause-rows c =
    let e = c.in_ok-verdict.field-0 in
    let rows = rows_in c.args.rows.now.entries in
    let known : c.get-program.result.now ≡ program_of c.args.work.now c.args.id =
    sym (get_or_from_slice_get c.args.work.now.programs (c.args.id.0 - 1) c.get-program.result.now (Ycsb []) c.get-program.ensures) in
    let at = at_turn c.args.work.now rows c.args.id c.get-program.result.now c.in_ok-accesses.accesses c.in_ok-reads.reads e
    known c.in_ok-accesses.ensures (search rules) c.in_ok-verdict.ensures in
    let left : rows_in c.settle.new.rows.entries ≡ settled rows e.verdict e.writes e.appends = search rules in
    left ∙ ap (λ (f : Effect). map_after rows f) at.1
