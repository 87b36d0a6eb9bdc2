use Rattle.std.proofs.Common.{◌≡◌, Bool, false, not, filter, rules, sym, ap, ◌∙◌, subst}
use Rattle.std.specs.List.{list_any}
use Rattle.std.proofs.lemmas.Fn.{filter_same}
use Rattle.deneva_base.specs.Lists.{IsIn}
use Rattle.deneva_base.proofs.Membership.{in_filter}
use Rattle.control_trials.specs.declared.log.Log.{Log}
use Rattle.control_trials.specs.declared.log.Place.{Place}
use Rattle.control_trials.specs.Logs.{wakes_place}
use Rattle.control_trials.proofs.log.Log.note_wakes.Goals as goal

pub returns : goal.returns
returns c =
    let m = c.in_ok-hold.ensures in
    let stays : Place → Bool = λ p. not (list_any (wakes_place p) c.args.woken.now) in
    let kept : c.retain.new.self.items ≡ filter stays c.hold.new.self.waits.items = filter_same _ stays _ (λ x b f' k. search rules) _ _ c.retain.ensures.filtered in
    record {
      calls = m.calls;
      asks = m.asks;
      refused = m.refused;
      closed = m.closed;
      ended = m.ended;
      aborted = m.aborted;
      windows = m.windows;
      waits = λ p i e. subst (IsIn p) (sym kept) (in_filter stays p c.hold.new.self.waits.items (subst (IsIn p) (sym (ap (λ w. w.items) m.waits)) i) (ap not e));
      grants = m.grants;
    }
