use Rattle.std.proofs.Common.{List, map, reverse, subst, ap, sym, ◌∙◌}
use Rattle.std.specs.List.{All, flat_map, IsDistinct}
use Rattle.deneva_base.specs.Keys.{id_eq}
use Rattle.server_core.specs.Aborts.{turns}
use Rattle.server_core.specs.Lines.{sort_lines}
use Rattle.server_core.specs.Outcome.{outcome_in}
use Rattle.server_core.specs.declared.outcomes.Decided.{Decided}
use Rattle.server_core.specs.declared.outcomes.Outcome.{Outcome}
use Rattle.server_core.specs.declared.outcomes.RunKind.TheVariants.{Under}
use Rattle.server_core.proofs.configured.Families.{family_votes}
use Rattle.run_outcomes.specs.ByTransaction.{lines_for, giveups_for}
use Rattle.run_outcomes.specs.Outcomes.{with_rows}
use Rattle.server_core.specs.Roles.{setting_of}
use Rattle.run_outcomes.specs.Stories.{Tells}
use Rattle.run_outcomes.specs.declared.stories.Story.{Story}
use Rattle.run_outcomes.proofs.VotedOutcomes.{apart}
use Rattle.run_outcomes.proofs.voting.voting_outcome.Goals as goal

pub in_number_order-requires : goal.in_number_order-requires
in_number_order-requires c =
    let r = c.args.role in
    let H = reverse c.args.history.now in
    let s = setting_of r in
    let all = subst (λ (l : List Story). All (Tells r H) l) (sym c.deref.ensures.value) c.in_ok-stories.ensures.stories in
    let are = c.in_ok-lines_of.ensures H all ∙ ap (λ l. flat_map (lines_for s H) (map (λ t. t.id) l)) c.deref.ensures.value ∙ ap (flat_map (lines_for s H)) c.in_ok-stories.ensures.ids in
    subst (λ (l : List Decided). IsDistinct id_eq (map (λ l. l.number.id) l)) (sym are) (apart s H 1 r.work.now.programs)

pub returns : goal.returns
returns c =
    let r = c.args.role in
    let H = reverse c.args.history.now in
    let s = setting_of r in
    let ids = c.in_ok-stories.ensures.ids in
    let all = c.in_ok-stories.ensures.stories in
    let lines = c.in_ok-lines_of.ensures H (subst (λ (l : List Story). All (Tells r H) l) (sym c.deref.ensures.value) all) ∙ ap (λ l. flat_map (lines_for s H) (map (λ t. t.id) l)) c.deref.ensures.value ∙ ap (flat_map (lines_for s H)) ids in
    let decided = c.in_ok-decided.ensures ∙ ap sort_lines lines in
    let giveups = c.in_ok-giveups.ensures H (subst (λ (l : List Story). All (Tells r H) l) (sym c.deref-2.ensures.value) all) ∙ ap (λ l. flat_map (giveups_for s H) (map (λ t. t.id) l)) c.deref-2.ensures.value ∙ ap (flat_map (giveups_for s H)) ids in
    let aborts = c.in_ok-aborts.ensures H (subst (λ (l : List Story). All (Tells r H) l) (sym c.deref-3.ensures.value) all) ∙ ap (λ l. flat_map (λ x. turns s H x s.attempts) (map (λ t. t.id) l)) c.deref-3.ensures.value ∙ ap (flat_map (λ x. turns s H x s.attempts)) ids in
    (λ i. record { kind = Under r.config.protocol; parts = r.config.parts; decided = decided i; giveups = giveups i; aborts = aborts i; rows = c.args.rows })
    ∙ ap (λ (o : Outcome). with_rows o c.args.rows) (sym (ap (λ f. outcome_in f r.config r.work.now H) (family_votes r.config.protocol c.requires)))
