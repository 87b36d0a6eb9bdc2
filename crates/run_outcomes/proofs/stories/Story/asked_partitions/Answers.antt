use Rattle.std.proofs.Common.{sym, ap, ap₂, map, reverse, ◌∙◌}
use Rattle.std.proofs.lemmas.List.{length-map}
use Rattle.std.proofs.lemmas.Result.{IfOk-weaker}
use Rattle.server_core.specs.Received.{grants_for}
use Rattle.server_core.specs.Setting.{partitions_of}
use Rattle.run_outcomes.proofs.Telling.{asked_told}
use Rattle.run_outcomes.proofs.stories.Story.asked_partitions.Goals as goal

pub returns : goal.returns
returns c =
    let t = c.args.self.now in
    let rows = map (λ r. r.now) c.in_ok-grants_for.field-0.items in
    IfOk-weaker c.partitions_of.result _ _
    (λ list is H k.
    is ∙ ap (partitions_of c.args.role.config.parts)
    (asked_told c.args.role H t k c.args.turn c.min.result c.len-granted.result c.as_slice-accesses.result.now rows c.min.ensures (c.len-granted.ensures ∙ c.in_ok-grants_for.field-0.ok.0 ∙ sym (length-map c.in_ok-grants_for.field-0.items (λ r. r.now))) c.as_slice-accesses.ensures
    (c.in_ok-grants_for.ensures ∙ ap (λ l. map (λ r. r.row) (reverse l)) (ap₂ grants_for c.attempt.ensures (ap (map (λ m. m.now)) c.deref.ensures.value)))))
    c.partitions_of.ensures
