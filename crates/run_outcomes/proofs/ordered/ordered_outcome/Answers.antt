use Rattle.std.proofs.Common.{List, ◌<◌, map, reverse, length, subst, ap, sym, ◌∙◌, arith}
use Rattle.std.specs.List.{All, IsDistinct}
use Rattle.std.proofs.lemmas.List.{length-map}
use Rattle.std.proofs.lemmas.List.Elements.{All-weaker}
use Rattle.deneva_base.specs.Keys.{id_eq}
use Rattle.txn_program.specs.Serial.{all_ids}
use Rattle.txn_program.proofs.Ids.{distinct_ids, few_ids}
use Rattle.server_core.specs.Lines.{sort_lines}
use Rattle.server_core.specs.Outcome.{outcome_in}
use Rattle.server_core.specs.declared.outcomes.Decided.{Decided}
use Rattle.server_core.specs.declared.outcomes.Outcome.{Outcome}
use Rattle.server_core.specs.declared.outcomes.RunKind.TheVariants.{Under}
use Rattle.server_core.proofs.configured.Families.{family_orders}
use Rattle.run_outcomes.specs.Outcomes.{with_rows}
use Rattle.server_core.specs.Roles.{setting_of}
use Rattle.run_outcomes.specs.Stories.{Tells}
use Rattle.run_outcomes.specs.declared.stories.Story.{Story}
use Rattle.run_outcomes.proofs.Gathering.{home_below}
use Rattle.run_outcomes.proofs.OrderedLines.{distinct_lines, sorted_by_order}
use Rattle.run_outcomes.proofs.ordered.ordered_outcome.Goals as goal

pub finished_lines-requires-clause-few : goal.finished_lines-requires-clause-few
finished_lines-requires-clause-few c =
    let count = ap length c.in_ok-stories.ensures.ids in
    let same = length-map c.in_ok-stories.stories.items (λ (t : Story). t.id) in
    let all = ap length c.deref.ensures.value in
    omega (arith, count, same, all, few_ids c.args.role.work.now c.args.role.valid)

pub finished_lines-requires-clause-homes : goal.finished_lines-requires-clause-homes
finished_lines-requires-clause-homes c =
    let r = c.args.role in
    let H = reverse c.args.history.now in
    subst (λ (l : List Story). All (λ t. t.home < r.config.parts) l) (sym c.deref.ensures.value)
    (All-weaker (Tells r H) (λ t. t.home < r.config.parts) (home_below r H) c.in_ok-stories.stories.items c.in_ok-stories.ensures.stories)

pub in_number_order-requires : goal.in_number_order-requires
in_number_order-requires c =
    let r = c.args.role in
    let H = reverse c.args.history.now in
    let all = subst (λ (l : List Story). All (Tells r H) l) (sym c.deref.ensures.value) c.in_ok-stories.ensures.stories in
    let ids = ap (map (λ (t : Story). t.id)) c.deref.ensures.value ∙ c.in_ok-stories.ensures.ids in
    subst (λ (l : List Decided). IsDistinct id_eq (map (λ l. l.number.id) l)) (sym (c.in_ok-finished_lines.ensures H all ids)) (distinct_lines (setting_of r) H (all_ids r.work.now) (distinct_ids r.work.now))

pub returns : goal.returns
returns c =
    let r = c.args.role in
    let w = r.work.now in
    let H = reverse c.args.history.now in
    let all = subst (λ (l : List Story). All (Tells r H) l) (sym c.deref.ensures.value) c.in_ok-stories.ensures.stories in
    let ids = ap (map (λ (t : Story). t.id)) c.deref.ensures.value ∙ c.in_ok-stories.ensures.ids in
    let decided = c.in_ok-decided.ensures ∙ ap sort_lines (c.in_ok-finished_lines.ensures H all ids) ∙ sorted_by_order r.config w r.ranges r.valid H in
    (λ i. record { kind = Under r.config.protocol; parts = r.config.parts; decided = decided i; giveups = c.new-giveups.ensures i; aborts = c.new-aborts.ensures i; rows = c.args.rows })
    ∙ ap (λ (o : Outcome). with_rows o c.args.rows) (sym (ap (λ f. outcome_in f r.config w H) (family_orders r.config.protocol c.requires)))
