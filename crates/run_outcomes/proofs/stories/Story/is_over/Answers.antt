use Rattle.std.proofs.Common.{sym, ◌∙◌}
use Rattle.run_outcomes.proofs.Finished.{finished_told}
use Rattle.run_outcomes.proofs.OrderedLines.{finished_there, finished_here}
use Rattle.run_outcomes.proofs.stories.Story.is_over.Goals as goal

pub returns-in-Calvin : goal.returns-in-Calvin
returns-in-Calvin c H k =
    let r = c.args.role in
    let t = c.args.self.now in
    let told = c.is_finished.ensures ∙ finished_told r H t k in
    (λ f. finished_there r.config r.work.now r.ranges r.valid H c.in-Calvin.is t.id k.known (sym told ∙ f), λ over. told ∙ finished_here r.config r.work.now r.ranges r.valid H c.in-Calvin.is t.id over)
