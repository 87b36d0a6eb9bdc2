use Rattle.std.proofs.Common.{map, ap₂, ◌∙◌}
use Rattle.run_outcomes.specs.Finishing.{gathered}
use Rattle.run_outcomes.proofs.Finished.{line_told}
use Rattle.run_outcomes.proofs.stories.Story.finished_line.Goals as goal

pub returns : goal.returns
returns c H k at =
    let t = c.args.self.now in
    c.in_ok-line.ensures H k
    ∙ line_told c.args.role H t k c.args.place c.ordered_number-n.result c.in_ok-reads.reads at c.ordered_number-n.ensures
    (c.in_ok-reads.ensures ∙ ap₂ (λ l a. gathered c.args.role.config.parts (map (λ m. m.now) l) t.id a) c.deref.ensures.value c.as_slice.ensures)
