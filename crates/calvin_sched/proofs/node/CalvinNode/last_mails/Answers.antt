use Rattle.std.proofs.Common.{◌≡◌, map, rules, List, subst, sym, ◌∙◌, ap, ◌∷◌, length}
use Rattle.std.specs.Map.Iter.{deref}
use Rattle.std.specs.List.{flat_map}
use Rattle.std.proofs.lemmas.List.Folds.{flat_map-map}
use Rattle.std.proofs.lemmas.Map.Iter.{iter_turn, iter_end}
use Rattle.deneva_base.specs.Lists.{IsIn}
use Rattle.deneva_base.specs.declared.numbers.Number.{Number}
use Rattle.row_store.specs.Stores.{row_in}
use Rattle.server_core.specs.Calvin.{finished_mail}
use Rattle.server_core.specs.declared.messages.Mail.{Mail}
use Rattle.server_core.specs.Roles.{setting_of}
use Rattle.calvin_sched.specs.Reading.{row_after, mails_after}
use Rattle.calvin_sched.proofs.FreedSteps.{in_place, freed_known}
use Rattle.calvin_sched.proofs.node.CalvinNode.last_mails.Goals as goal

pub push_reads-requires : goal.push_reads-requires
push_reads-requires c =
    let n = c.args.self.now in
    let freed = c.in_ok-number-items.field-0.keys in
    let start : c.into_iter-number-iterator.result ≡ freed = search rules in
    let turn = iter_turn deref freed c.loop-number.yielded _ _ _ _ start c.loop-number.yielded_by c.in-Some.number c.in-Some.is c.next.ensures.steps in
    record { id = freed_known n.role n.locks c.args.id c.args.here.now c.in-Some.number.now c.requires.known (subst (IsIn c.in-Some.number.now) c.in_ok-number-items.ensures (in_place freed (length c.loop-number.yielded) c.in-Some.number.now turn.1)) }

pub returns : goal.returns
returns c =
    let n = c.args.self.now in
    let mails : Number → List Mail = λ (m : Number). mails_after (setting_of n.role) n.role.part (row_after (row_in n.store) c.args.left.now) m.id in
    let first : Mail = finished_mail (setting_of n.role) n.role.part c.args.id in
    let done : map deref c.loop-number.yielded ≡ c.in_ok-number-items.field-0.keys = search (rules, iter_end) in
    c.loop-number.invariant
    ∙ ap (λ l. first ∷ l) (sym (flat_map-map mails deref c.loop-number.yielded))
    ∙ ap (λ l. first ∷ flat_map mails l) (done ∙ c.in_ok-number-items.ensures)
