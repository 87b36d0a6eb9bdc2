use Rattle.std.proofs.Common.{◌≡◌, map, ◌∷◌, [], ◌++◌, take, eqb, true, false, sym, ap, ◌∙◌, arith}
use Rattle.std.proofs.lemmas.Bool.Decides.{nat_tests}
use Rattle.std.proofs.lemmas.List.{append-nil, map-append, map_more}
use Rattle.server_core.specs.Runs.{heard}
use Rattle.run_outcomes.proofs.Places.{heard_more}
use Rattle.run_outcomes.proofs.stories.messages_at.Goals as goal
use Rattle.run_outcomes.proofs.stories.messages_at.Goals.{then-entry-node+in_ok-push, else-entry-node}

pub loop-entry-preserved : goal.loop-entry-preserved
loop-entry-preserved c =
    let i = c.loop-entry.entry-index in
    let p = c.args.node in
    let es = c.args.entries.now in
    let r = c.entry-item.result in
    let H = map (λ e. e.now) (take i es) in
    let more = map_more (λ e. e.now) es i r c.loop-entry-test.true ∙ ap (λ x. H ++ x.now ∷ []) (sym c.entry-item.is) in
    rw (more, heard_more p H r.now)
    (elim c.if-entry-node.branch [
      | then-entry-node+in_ok-push w ↦
          let here = w.if-entry-node.true in
          let same : eqb r.now.node p ≡ true = grind (arith, nat_tests, here) in
          rw (w.messages-is, same) (ap (map (λ m. m.now)) w.in_ok-push.ensures.items ∙ map-append (λ m. m.now) c.loop-entry.messages.items _ ∙ ap (λ l. l ++ r.now.msg ∷ []) c.loop-entry.invariant)
      | else-entry-node w ↦
          let here = w.if-entry-node.false in
          let same : eqb r.now.node p ≡ false = grind (arith, nat_tests, here) in
          rw (w.messages-is, same) (c.loop-entry.invariant ∙ sym (append-nil (heard p H)))
    ])
