use Rattle.std.proofs.Common.{◌∙◌, ap, sym, arith}
use Rattle.std.specs.List.{list_any}
use Rattle.deneva_base.specs.Keys.{key_eq}
use Rattle.tpcc_rules.proofs.StockKeys.{unloaded, taken_first, taken_again}
use Rattle.tpcc_rules.proofs.stocks.stock_keys.Goals as goal
use Rattle.tpcc_rules.proofs.stocks.stock_keys.Goals.{then-has+then-not-has_key+in_ok-push, else-has, else-has-via-then-has+else-not-has_key, else-has-via-else-has}

pub loop-line-preserved : goal.loop-line-preserved
loop-line-preserved c =
    let key = c.stock_key_of-key.result in
    elim c.if-has.branch [
      | then-has+then-not-has_key+in_ok-push w ↦
          ap (λ v. v.items) w.keys-is ∙ w.in_ok-push.ensures.items
          ∙ taken_first c.args.items.now c.args.lines.now c.loop-line.line-index _ (omega arith) c.loop-line.keys.items key c.loop-line.invariant c.stock_key_of-key.ensures
          (sym c.has.ensures ∙ w.if-has.true)
          (sym (w.has_key.ensures ∙ ap (λ ks. list_any (λ k. key_eq k key) ks) w.deref.ensures.value) ∙ w.if-not-has_key.true)
      | else-has w ↦
          ap (λ v. v.items) w.keys-is
          ∙ (elim w.else-has.branch [
            | else-has-via-then-has+else-not-has_key v ↦
                taken_again c.args.items.now c.args.lines.now c.loop-line.line-index _ (omega arith) c.loop-line.keys.items key c.loop-line.invariant c.stock_key_of-key.ensures
                (sym c.has.ensures ∙ v.if-has.true)
                (sym (v.has_key.ensures ∙ ap (λ ks. list_any (λ k. key_eq k key) ks) v.deref.ensures.value) ∙ v.if-not-has_key.false)
            | else-has-via-else-has v ↦
                c.loop-line.invariant ∙ unloaded c.args.items.now c.args.lines.now c.loop-line.line-index _ (omega arith) (sym c.has.ensures ∙ v.if-has.false)
          ])
    ]
