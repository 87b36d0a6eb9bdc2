use Rattle.std.proofs.Common.{◌≡◌, ◌≤◌, true, sym, ap, ◌∙◌, subst, inr}
use Rattle.protocol_rules.specs.Conditions.{Distinct}
use Rattle.deneva_base.specs.Lists.{IsIn}
use Rattle.stamp_lines.specs.Tables.{requests_at}
use Rattle.stamp_control.specs.Pasts.{Kept, past_at}
use Rattle.stamp_control.specs.Changes.{any_above, kept_by}
use Rattle.stamp_control.proofs.Keeping.{keep_step, keep_other}
use Rattle.stamp_control.proofs.table.keep_rows.Goals as goal

pub loop-key-preserved-then-is_awaited : goal.loop-key-preserved-then-is_awaited
loop-key-preserved-then-is_awaited c =
    let inv = c.loop-key.invariant in
    let cons = c.in-Some.ensures.steps.0 in
    let d = subst (λ l. Distinct l) cons inv.distinct in
    let above : any_above c.args.number.n (requests_at c.args.accesses.now c.in-Some.field-0.key) ≡ true = ap (any_above c.args.number.n) (sym c.requests.ensures) ∙ sym c.is_awaited.ensures ∙ c.if-is_awaited.true in
    record {
      pasts = λ key.
          keep_step c.args.number c.in-Some.field-0 c.next.new.self.rest.items (requests_at c.args.accesses.now) (past_at c.loop-key.pasts) (past_at c.keep.new.self) above c.keep.ensures key
          ∙ ap (λ l. kept_by c.args.number l (requests_at c.args.accesses.now key) key (past_at c.loop-key.pasts key)) (sym cons)
          ∙ inv.pasts key;
      distinct = d.1;
      spare = λ x i. subst (λ (p : Kept). 1 ≤ p.spare) (sym (keep_other c.args.number c.in-Some.field-0 x (past_at c.loop-key.pasts) (past_at c.keep.new.self) (d.0 x i) c.keep.ensures)) (inv.spare x (subst (λ l. IsIn x l) (sym cons) (inr i)));
    }
