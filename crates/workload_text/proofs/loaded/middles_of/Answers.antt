use Rattle.std.proofs.Common.{◌≡◌, ◌∙◌, ◌+◌, ◌<◌, length, get_or, take, ap, sym, subst, rules}
use Rattle.std.proofs.lemmas.List.{take_all}
use Rattle.tpcc_rules.specs.Columns.{text_at}
use Rattle.tpcc_rules.specs.Names.{by_last_name}
use Rattle.tpcc_rules.specs.Tables.{c_last}
use Rattle.workload_text.proofs.LastNames.{HasNames, names_none, names_more, names_same, names_all}
use Rattle.workload_text.proofs.loaded.middles_of.Goals as goal
use Rattle.workload_text.proofs.loaded.middles_of.Goals.{in-Some+in_ok-name+in_ok-insert, in_default}

pub loop-row-init : goal.loop-row-init
loop-row-init c = names_none c.new-middles.result c.args.rows.now c.new-middles.ensures.empty

pub loop-row-preserved : goal.loop-row-preserved
loop-row-preserved c =
    let rows = c.args.rows.now in
    let i = c.loop-row.row-index in
    let r = c.row-item.result in
    let less : i < length rows = c.loop-row-test.true in
    let at : get_or rows i r ≡ r = sym c.row-item.is in
    let text : c.text_at-last.result.now ≡ text_at r.row c_last = search rules in
    let middle : c.middle-middle.result ≡ by_last_name rows r.key.a r.key.b (text_at r.row c_last) =
    c.middle-middle.ensures ∙ c.in_ok-namesakes.ensures r.key.a r.key.b c.text_at-last.result.now ∙ ap (by_last_name rows r.key.a r.key.b) text in
    elim c.match-middle.branch [
      | in-Some+in_ok-name+in_ok-insert w ↦
          subst (λ m. HasNames m rows (take (i + 1) rows)) (sym w.middles-is)
          (names_more c.loop-row.middles w.insert.new.self rows i r w.in_ok-name.name w.in-Some.number c.loop-row.invariant less at
          w.in_ok-name.ensures.0 w.in_ok-name.ensures.1 (w.in_ok-name.ensures.2 ∙ text) (sym w.in-Some.is ∙ middle) (λ n. w.in_ok-insert.ensures.updates.0 n))
      | in_default w ↦
          subst (λ m. HasNames m rows (take (i + 1) rows)) (sym w.middles-is)
          (names_same c.loop-row.middles rows i r c.loop-row.invariant less at (sym w.in_default.is ∙ middle))
    ]

pub returns : goal.returns
returns c =
    let all : take c.loop-row.row-index c.args.rows.now ≡ c.args.rows.now = take_all c.loop-row.row-index c.args.rows.now (search rules) in
    names_all c.loop-row.middles c.args.rows.now (subst (HasNames c.loop-row.middles c.args.rows.now) all c.loop-row.invariant)
