use Rattle.std.proofs.Common.{◌≡◌, ◌++◌, ◌∷◌, [], ◌≤◌, List, length, arith, rules, ap, subst, sym, ◌∙◌, inl, inr, append_assoc}
use Rattle.deneva_base.specs.Lists.{IsIn}
use Rattle.deneva_base.specs.declared.answers.Wake.{Wake}
use Rattle.server_core.specs.Participant.{mail_home, wake_mails}
use Rattle.server_core.specs.declared.messages.Msg.TheVariants.{Granted}
use Rattle.server_core.specs.Roles.{setting_of}
use Rattle.node_core.proofs.telling.tell_woken.Goals as goal

pub loop-wake-init : goal.loop-wake-init
loop-wake-init c =
    let same : c.into_iter-wake-iterator.result.rest.items ≡ c.args.woken = c.into_iter-wake-iterator.ensures.into_iter_gives.0 ∙ c.into_vec-wake-items.ensures in
    record {
      told = ap (λ ws. c.args.out.now.mails ++ wake_mails (setting_of c.args.role.now) c.args.role.now.part ws) same;
      known = λ w i. c.requires.known w (subst (λ ws. IsIn w ws) same i);
      room = rw same c.requires.room;
    }

pub tell-requires-clause-known : goal.tell-requires-clause-known
tell-requires-clause-known c = c.loop-wake.invariant.known c.in-Some.wake (subst (λ ws. IsIn c.in-Some.wake ws) (sym c.in-Some.ensures.steps.0) (inl (search rules)))

pub loop-wake-preserved : goal.loop-wake-preserved
loop-wake-preserved c =
    let next : c.loop-wake.wake-iterator.rest.items ≡ c.in-Some.wake ∷ c.next.new.self.rest.items = c.in-Some.ensures.steps.0 in
    let room : length (c.in-Some.wake ∷ c.next.new.self.rest.items) ≤ c.loop-wake.out.spare = subst (λ (ws : List Wake). length ws ≤ c.loop-wake.out.spare) next c.loop-wake.invariant.room in
    record {
      told =
          let s = setting_of c.args.role.now in
          let p = c.args.role.now.part in
          ap (λ ms. ms ++ wake_mails s p c.next.new.self.rest.items) c.tell.ensures.mails
          ∙ append_assoc c.loop-wake.out.mails (mail_home s p c.in-Some.wake.who (Granted c.in-Some.wake.who c.in-Some.wake.key c.in-Some.wake.row c.in-Some.wake.version c.in-Some.wake.bound) ∷ []) (wake_mails s p c.next.new.self.rest.items)
          ∙ ap (λ ws. c.loop-wake.out.mails ++ wake_mails s p ws) (sym next)
          ∙ c.loop-wake.invariant.told;
      known = λ w i. c.loop-wake.invariant.known w (subst (λ ws. IsIn w ws) (sym next) (inr i));
      room = omega (arith, room, c.tell.ensures.spare);
    }
