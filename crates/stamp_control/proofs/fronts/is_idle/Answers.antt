use Rattle.std.proofs.Common.{◌∙◌, ◌+◌, sym, ap, ap₂, not, ◌&&◌, drop}
use Rattle.std.specs.List.{list_any}
use Rattle.protocol_rules.specs.WaitDie.{none}
use Rattle.deneva_base.specs.declared.keys.Key.{Key}
use Rattle.stamp_control.specs.Fronts.{goes, front_over}
use Rattle.stamp_control.proofs.Idle.{idle_step}
use Rattle.stamp_control.proofs.fronts.is_idle.Goals as goal

pub returns-then-any_goes : goal.returns-then-any_goes
returns-then-any_goes c =
    let d : Key = record { table = 0; a = 0; b = 0; c = 0 } in
    let some = ap₂ (λ f rs. list_any (goes f) rs) (sym c.first_writer-first.ensures) (sym c.requests.ensures) ∙ sym c.any_goes.ensures ∙ c.if-any_goes.true in
    sym (ap (λ b. not b && none (front_over c.args.ended c.args.accesses.now (drop (c.loop-key.key-index + 1) c.args.keys.now))) some)
    ∙ sym (idle_step c.args.ended c.args.accesses.now c.args.keys.now c.loop-key.key-index d c.loop-key-test.true)
    ∙ c.loop-key.invariant

pub loop-key-preserved : goal.loop-key-preserved
loop-key-preserved c =
    let d : Key = record { table = 0; a = 0; b = 0; c = 0 } in
    let no = ap₂ (λ f rs. list_any (goes f) rs) (sym c.first_writer-first.ensures) (sym c.requests.ensures) ∙ sym c.any_goes.ensures ∙ c.if-any_goes.false in
    sym (ap (λ b. not b && none (front_over c.args.ended c.args.accesses.now (drop (c.loop-key.key-index + 1) c.args.keys.now))) no)
    ∙ sym (idle_step c.args.ended c.args.accesses.now c.args.keys.now c.loop-key.key-index d c.loop-key-test.true)
    ∙ c.loop-key.invariant
