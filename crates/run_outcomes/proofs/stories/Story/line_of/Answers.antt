use Rattle.std.proofs.Common.{map, reverse, ◌++◌, ap, ap₂, ◌∙◌}
use Rattle.server_core.specs.Coordinator.{reads_of}
use Rattle.server_core.specs.Lines.{committed_n}
use Rattle.server_core.specs.Received.{grants_for}
use Rattle.run_outcomes.specs.GrantedRows.{reply_of}
use Rattle.run_outcomes.proofs.Telling.{line_told}
use Rattle.run_outcomes.proofs.stories.Story.line_of.Goals as goal

pub returns : goal.returns
returns c H k =
    let t = c.args.self.now in
    let rows = map (λ r. r.now) c.in_ok-rows.rows.items in
    c.in_ok-line.ensures H k
    ∙ line_told c.args.role H t k c.args.turn c.committed_n-n.result rows c.push_reads.new.reads
    (c.committed_n-n.ensures ∙ ap₂ committed_n c.attempt-who.ensures (ap (map (λ e. e.now)) c.deref-3.ensures.value))
    (c.in_ok-rows.ensures ∙ ap (λ l. map (λ r. r.row) (reverse l)) (ap₂ grants_for c.attempt-who.ensures (ap (map (λ m. m.now)) c.deref.ensures.value)))
    (c.in_ok-push_reads.ensures ∙ ap₂ (λ a b. a ++ b) c.new-reads.ensures (ap₂ reads_of c.as_slice.ensures (ap (λ l. map reply_of (map (λ r. r.now) l)) c.deref-2.ensures.value)))
