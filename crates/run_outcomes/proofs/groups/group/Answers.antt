use Rattle.std.proofs.Common.{◌≡◌, [], map, ◌+◌, ◌∷◌, ◌++◌, take, sym, ap, ◌∙◌, arith}
use Rattle.std.proofs.lemmas.List.{take_more, map-append}
use Rattle.server_core.specs.declared.messages.Entry.{Entry}
use Rattle.run_outcomes.proofs.Grouped.{group_count, group_pushed, about_none, about_other}
use Rattle.run_outcomes.proofs.groups.group.Goals as goal
use Rattle.run_outcomes.proofs.groups.group.Goals.{in-Some+then-place-ge1+then-place-len+in_ok-push, in-Some+else-place-ge1, else-place-ge1-via-then-place-ge1+else-place-len, else-place-ge1-via-else-place-ge1, in_default}

pub loop-entry-preserved : goal.loop-entry-preserved
loop-entry-preserved c =
    let n = c.args.count in
    let i = c.loop-entry.entry-index in
    let H = take i c.args.history.now in
    let e : Entry = c.entry-item.result in
    let gs = c.loop-entry.groups.items in
    let inv = c.loop-entry.invariant in
    let count = group_count (λ g. map (λ e. e.now) g.items) gs n H inv in
    let one_more : take (i + 1) c.args.history.now ≡ H ++ e ∷ [] = take_more c.args.history.now i e c.loop-entry-test.true ∙ ap (λ (x : Entry). H ++ x ∷ []) (sym c.entry-item.is) in
    rw one_more
    (elim c.match-txn.branch [
      | in-Some+then-place-ge1+then-place-len+in_ok-push w ↦
          let low = w.if-place-ge1.true in
          let high = w.if-place-len.true in
          let len = w.len.ensures in
          rw w.groups-is
          (group_pushed (λ g. map (λ e. e.now) g.items) gs n H inv w.index_mut.result.now w.push.new.self e w.in-Some.id (sym c.txn.ensures ∙ w.in-Some.is) low (omega (arith, high, len)) w.index_mut.ensures.value
          (ap (map (λ e. e.now)) w.in_ok-push.ensures.items ∙ map-append (λ e. e.now) w.index_mut.result.now.items _))
      | in-Some+else-place-ge1 w ↦
          rw w.groups-is
          (inv ∙ about_other H e n w.in-Some.id (sym c.txn.ensures ∙ w.in-Some.is)
          (λ low high. elim w.else-place-ge1.branch [
            | else-place-ge1-via-then-place-ge1+else-place-len o ↦ let over = o.if-place-len.false in let len = o.len.ensures in omega (arith, high, over, len, count)
            | else-place-ge1-via-else-place-ge1 o ↦ let under = o.if-place-ge1.false in omega (arith, low, under)
          ]))
      | in_default w ↦ rw w.groups-is (inv ∙ about_none H e n (sym c.txn.ensures ∙ w.in_default.is))
    ])
