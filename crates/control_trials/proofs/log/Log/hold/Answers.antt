use Rattle.std.proofs.Common.{◌≡◌, true, ◌&&◌, List, sym, ◌∙◌, subst}
use Rattle.std.specs.List.{list_any}
use Rattle.deneva_base.specs.declared.answers.Wake.{Wake}
use Rattle.deneva_base.specs.Lists.{IsIn}
use Rattle.deneva_base.specs.Keys.{key_eq, attempt_eq}
use Rattle.control_trials.specs.declared.log.Wanted.{Wanted}
use Rattle.control_trials.specs.Logs.{HoldsMore}
use Rattle.control_trials.proofs.Logs.{in_at, held_more}
use Rattle.control_trials.proofs.log.Log.hold.Goals as goal
use Rattle.control_trials.proofs.log.Log.hold.Goals.{then-has_asked_for+in_ok-push, else-has_asked_for}

pub loop-wake-preserved : goal.loop-wake-preserved
loop-wake-preserved c =
    let old = c.args.self.now in
    let woken : List Wake = c.args.woken.now in
    let wake : Wake = c.wake-item.result in
    let i : IsIn wake woken = subst (λ (z : Wake). IsIn z woken) (sym c.wake-item.is) (in_at woken c.loop-wake.wake-index wake c.loop-wake-test.true) in
    elim c.if-has_asked_for.branch [
      | then-has_asked_for+in_ok-push w ↦
          (let t : list_any (λ a. attempt_eq a.who wake.who && key_eq a.key wake.key) c.loop-wake.self.asks ≡ true = subst (λ (l : List Wanted). list_any (λ a. attempt_eq a.who wake.who && key_eq a.key wake.key) l ≡ true) c.as_slice.ensures (sym c.has_asked_for.ensures ∙ w.if-has_asked_for.true) in
          subst (HoldsMore old woken) (sym w.self-is) (held_more old c.loop-wake.self woken wake w.push.new.self c.loop-wake.invariant i t w.in_ok-push.ensures.ok))
      | else-has_asked_for w ↦ subst (HoldsMore old woken) (sym w.self-is) c.loop-wake.invariant
    ]
