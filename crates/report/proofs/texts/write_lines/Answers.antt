use Rattle.std.proofs.Common.{◌≡◌, ◌∙◌, ◌∷◌, [], map, refl}
use Rattle.std.specs.Prelude.{codes}
use Rattle.std.specs.List.{flat_map}
use Rattle.std.proofs.lemmas.Result.{IfOk-weaker}
use Rattle.report.specs.ReportText.{abort_record, decided_records, giveup_record, head_record, report_text, row_record}
use Rattle.report.proofs.Lines.{text_of-flat, text_of-parts}
use Rattle.report.proofs.texts.write_lines.Goals as goal

pub returns : goal.returns
returns c =
    let o = c.args.outcome.now in
    let parts = text_of-parts (head_record o) (flat_map decided_records o.decided) (map giveup_record o.giveups) (map abort_record o.aborts) (map (row_record (codes "row")) o.rows) (codes "end" ∷ []) in
    let flat = text_of-flat decided_records o.decided in
    let same : c.in_ok-put.field-0 ≡ report_text o =
    rw (c.in_ok-put.ensures, c.fields-2.ensures, c.in_ok-begin.ensures, c.in_ok-text-5.ensures, c.as_slice-4.ensures, c.in_ok-text-4.ensures, c.as_slice-3.ensures, c.in_ok-text-3.ensures, c.as_slice-2.ensures, c.in_ok-text-2.ensures, c.as_slice.ensures, c.in_ok-text.ensures, c.fields.ensures, c.in_ok-write_head.ensures, c.new.ensures, parts, flat)
    refl in
    IfOk-weaker c.finish.result (λ text. text ≡ c.in_ok-put.field-0) (λ text. text ≡ report_text o) (λ text is. is ∙ same) c.finish.ensures
