use Rattle.std.proofs.Common.{◌≡◌, List, [], ◌∷◌, ◌++◌, slice_get, Some, length, reverse, arith, refl, sym, ap, ap₂, ◌∙◌, subst, rules}
use Rattle.std.specs.Prelude.{slice_set}
use Rattle.std.specs.List.{remove}
use Rattle.std.proofs.lemmas.Option.{slice_get_read, same_Some}
use Rattle.server_core.specs.Picks.{Progress, deliver}
use Rattle.server_core.specs.Runs.{entry_of, heard}
use Rattle.server_core.specs.Says.{says}
use Rattle.server_core.specs.declared.messages.Entry.{Entry}
use Rattle.server_core.specs.declared.messages.Mail.{Mail}
use Rattle.world.specs.Worlds.{Seen, IsRunning, HasNodes, seen, in_line}
use Rattle.world.proofs.Delivering.{line_is, line_after, lands_at, fits_at, nodes_same, said_is, history_is, step_is, after}
use Rattle.world.proofs.world.World.deliver.Given as given
use Rattle.world.proofs.world.World.deliver.Goals as goal

pub index_mut-node-requires : goal.index_mut-node-requires
index_mut-node-requires g c =
    let was = c.self.inside in
    let all = in_line was.flight was.held was.said.mails in
    let w = seen was.config was.work.now was.history.items all in
    let inv = c.self.invariant in
    let laws = g.met.S.Handles in
    let settled = c.in_ok-settle.ensures.ok in
    let line = line_is c.settle.new.flight all c.settle.new.held c.settle.new.said.mails c.settle.ensures.all settled.0 settled.1 in
    let m : Mail = c.get-mail.result.now in
    let at : slice_get all c.args.k ≡ Some m = ap (λ (l : List Mail). slice_get l c.args.k) (sym line) ∙ c.get-mail.ensures in
    let to : m.to ≡ c.from.result = search rules in
    let is_in = lands_at g.S.Handles.role g.S.Handles.stands g.S.Handles.protocol laws.lands was.nodes.items w inv.0 inv.1 c.args.k c.from.result m at to in
    omega (arith, is_in)

pub handle-requires : goal.handle-requires
handle-requires g c =
    let was = c.self.inside in
    let all = in_line was.flight was.held was.said.mails in
    let w = seen was.config was.work.now was.history.items all in
    let inv = c.self.invariant in
    let laws = g.met.S.Handles in
    let settled = c.in_ok-settle.ensures.ok in
    let line = line_is c.settle.new.flight all c.settle.new.held c.settle.new.said.mails c.settle.ensures.all settled.0 settled.1 in
    let m : Mail = c.get-mail.result.now in
    let at : slice_get all c.args.k ≡ Some m = ap (λ (l : List Mail). slice_get l c.args.k) (sym line) ∙ c.get-mail.ensures in
    let to : m.to ≡ c.from.result = search rules in
    let is_in = lands_at g.S.Handles.role g.S.Handles.stands g.S.Handles.protocol laws.lands was.nodes.items w inv.0 inv.1 c.args.k c.from.result m at to in
    let here = slice_get_read was.nodes.items (length was.nodes.items) c.from.result c.index_mut-node.result.now refl is_in c.index_mut-node.ensures.value in
    let fit = fits_at g.S.Handles.role g.S.Handles.stands g.S.Handles.protocol laws.fits was.nodes.items w inv.0 inv.1 c.args.k c.from.result m c.index_mut-node.result.now at to here in
    record { fits = (heard c.from.result w.progress.entries, fit.0, fit.1) }

-- where memory ends in the node nothing has changed
pub invariant_of-self-in_err-handle : goal.invariant_of-self-in_err-handle
invariant_of-self-in_err-handle g c =
    let was = c.self.inside in
    let all = in_line was.flight was.held was.said.mails in
    let w = seen was.config was.work.now was.history.items all in
    let inv = c.self.invariant in
    let laws = g.met.S.Handles in
    let settled = c.in_ok-settle.ensures.ok in
    let line = line_is c.settle.new.flight all c.settle.new.held c.settle.new.said.mails c.settle.ensures.all settled.0 settled.1 in
    let m : Mail = c.get-mail.result.now in
    let at : slice_get all c.args.k ≡ Some m = ap (λ (l : List Mail). slice_get l c.args.k) (sym line) ∙ c.get-mail.ensures in
    let to : m.to ≡ c.from.result = search rules in
    let is_in = lands_at g.S.Handles.role g.S.Handles.stands g.S.Handles.protocol laws.lands was.nodes.items w inv.0 inv.1 c.args.k c.from.result m at to in
    let here = slice_get_read was.nodes.items (length was.nodes.items) c.from.result c.index_mut-node.result.now refl is_in c.index_mut-node.ensures.value in
    let handled = c.in_err-handle.ensures in
    let same : w ≡ seen was.config was.work.now c.try_reserve.new.self.items (in_line c.settle.new.flight c.settle.new.held c.handle.new.out.mails) =
    ap₂ (seen was.config was.work.now) (sym c.try_reserve.ensures.items) (sym c.settle.ensures.all ∙ ap (in_line c.settle.new.flight c.settle.new.held) (sym handled.same_mails)) in
    subst (λ (x : Seen). IsRunning g.S.Handles.protocol x × HasNodes g.S.Handles.role g.S.Handles.stands (slice_set was.nodes.items c.from.result c.handle.new.self) x) same
    (inv.0, nodes_same g.S.Handles.role g.S.Handles.stands was.nodes.items w inv.1 c.from.result c.index_mut-node.result.now c.handle.new.self here handled.role handled.same)

-- the seen world after a delivery
abbrev Delivered : (g : given.Over) (c : goal.After-drop g) → Progress
Delivered g c = record { entries = reverse c.push.new.self.items; flight = in_line c.take-mail.new.self c.settle.new.held c.handle.new.out.mails }

moved : (g : given.Over) (c : goal.After-drop g) →
    (Delivered g c ≡ deliver (says c.self.inside.config c.self.inside.work.now) c.args.k (record { entries = reverse c.self.inside.history.items; flight = in_line c.self.inside.flight c.self.inside.held c.self.inside.said.mails }))
    × (IsRunning g.S.Handles.protocol (seen c.self.inside.config c.self.inside.work.now c.push.new.self.items (in_line c.take-mail.new.self c.settle.new.held c.handle.new.out.mails))
    × HasNodes g.S.Handles.role g.S.Handles.stands (slice_set c.self.inside.nodes.items c.from.result c.handle.new.self) (seen c.self.inside.config c.self.inside.work.now c.push.new.self.items (in_line c.take-mail.new.self c.settle.new.held c.handle.new.out.mails)))
moved g c =
    let was = c.self.inside in
    let all = in_line was.flight was.held was.said.mails in
    let w = seen was.config was.work.now was.history.items all in
    let inv = c.self.invariant in
    let laws = g.met.S.Handles in
    let settled = c.in_ok-settle.ensures.ok in
    let line = line_is c.settle.new.flight all c.settle.new.held c.settle.new.said.mails c.settle.ensures.all settled.0 settled.1 in
    let m : Mail = c.get-mail.result.now in
    let at : slice_get all c.args.k ≡ Some m = ap (λ (l : List Mail). slice_get l c.args.k) (sym line) ∙ c.get-mail.ensures in
    let to : m.to ≡ c.from.result = search rules in
    let is_in = lands_at g.S.Handles.role g.S.Handles.stands g.S.Handles.protocol laws.lands was.nodes.items w inv.0 inv.1 c.args.k c.from.result m at to in
    let here = slice_get_read was.nodes.items (length was.nodes.items) c.from.result c.index_mut-node.result.now refl is_in c.index_mut-node.ensures.value in
    let fit = fits_at g.S.Handles.role g.S.Handles.stands g.S.Handles.protocol laws.fits was.nodes.items w inv.0 inv.1 c.args.k c.from.result m c.index_mut-node.result.now at to here in
    let handled = c.in_ok-handle.ensures in
    let said = said_is w c.from.result m (g.S.Handles.role c.index_mut-node.result.now) c.settle.new.said.mails c.handle.new.out.mails (inv.1.each c.from.result c.index_mut-node.result.now here).0 to settled.1
    (handled.says (heard c.from.result w.progress.entries) fit.0 fit.1) in
    let taken : m ≡ c.take-mail.result = same_Some _ _ (sym c.get-mail.ensures ∙ c.take-mail.ensures.item) in
    let pushed : c.push.new.self.items ≡ c.try_reserve.new.self.items ++ entry_of c.len-place.result c.take-mail.result ∷ [] = search rules in
    let place : c.len-place.result ≡ length was.history.items = search rules in
    let history = history_is was.history.items c.push.new.self.items m c.len-place.result
    (pushed ∙ ap₂ (λ (h : List Entry) (x : Mail). h ++ entry_of c.len-place.result x ∷ []) c.try_reserve.ensures.items (sym taken)) place in
    let more = says was.config was.work.now m.to (m.msg ∷ heard m.to w.progress.entries) in
    let flight : in_line c.take-mail.new.self c.settle.new.held c.handle.new.out.mails ≡ remove all c.args.k ++ more =
    line_after c.take-mail.new.self more c.settle.new.held c.handle.new.out.mails settled.0 said
    ∙ ap (λ (l : List Mail). l ++ more) (c.take-mail.ensures.left ∙ ap (λ (l : List Mail). remove l c.args.k) line) in
    let step = step_is was.config was.work.now c.args.k w.progress m (reverse c.push.new.self.items) (in_line c.take-mail.new.self c.settle.new.held c.handle.new.out.mails) at history flight in (
      step,
      after g.S.Handles.role g.S.Handles.stands g.S.Handles.protocol was.nodes.items w inv.0 inv.1 c.args.k c.from.result m c.index_mut-node.result.now c.handle.new.self (Delivered g c) at to here handled.role
          (handled.stands (heard c.from.result w.progress.entries) fit.0 fit.1) step,
    )

pub invariant_of-self-2 : goal.invariant_of-self-2
invariant_of-self-2 g c = (moved g c).1

pub returns-clause-ok : goal.returns-clause-ok
returns-clause-ok g c = (moved g c).0 ∙ ap (λ (x : Seen). deliver (says x.config x.work) c.args.k x.progress) c.self.view_is
