use Rattle.std.proofs.Common.{◌≡◌, ◌++◌, ltb, true, false, sym, ap, ◌∙◌, refl, arith}
use Rattle.std.proofs.lemmas.Bool.Decides.{nat_tests}
use Rattle.std.proofs.lemmas.Result.{on_ok_weaker}
use Rattle.server_core.specs.Roles.{setting_of}
use Rattle.coord.proofs.Ending.{undone_now, undone_again, undone_on, said_now, said_on, over_says, again_says}
use Rattle.coord.proofs.coord.Coord.hear_undone.Goals as goal

pub returns-then-not-is_last-clause-ok : goal.returns-then-not-is_last-clause-ok
returns-then-not-is_last-clause-ok c t is = undone_on _ _ _ _ t (setting_of c.args.self.now.role) c.args.who (sym (c.is_last.ensures t is) ∙ c.if-not-is_last.true) (record { role = refl; fixed = refl; homes = refl; count = refl; place = refl; sets = c.close_at.ensures t is })

pub returns-then-not-is_last-clause-said : goal.returns-then-not-is_last-clause-said
returns-then-not-is_last-clause-said c t is = said_on _ t _ _ _ (sym (c.is_last.ensures t is) ∙ c.if-not-is_last.true) refl

pub returns-then-who-self-clause-ok : goal.returns-then-who-self-clause-ok
returns-then-who-self-clause-ok c =
    let less : ltb c.args.who.turn c.args.self.now.role.config.attempts ≡ false = grind (arith, nat_tests) in
    on_ok_weaker c.end.result (λ e t is. undone_now _ _ _ _ t (setting_of c.args.self.now.role) c.args.who (sym (c.is_last.ensures t is) ∙ c.if-not-is_last.false) less e) c.end.ensures.ok

pub returns-then-who-self-clause-said : goal.returns-then-who-self-clause-said
returns-then-who-self-clause-said c =
    let less : ltb c.args.who.turn c.args.self.now.role.config.attempts ≡ false = grind (arith, nat_tests) in
    on_ok_weaker c.end.result (λ e t is. said_now _ t _ _ _ (sym (c.is_last.ensures t is) ∙ c.if-not-is_last.false) (e ∙ ap (λ l. c.args.out.now.mails ++ l) (over_says (setting_of c.args.self.now.role) c.args.self.now.role.part c.args.who _ less))) c.end.ensures.said

pub returns-clause-said : goal.returns-clause-said
returns-clause-said c t is =
    let less : ltb c.args.who.turn c.args.self.now.role.config.attempts ≡ true = grind (arith, nat_tests) in
    said_now _ t _ _ _ (sym (c.is_last.ensures t is) ∙ c.if-not-is_last.false) (c.in_ok-say_start.ensures.ok ∙ ap (λ l. c.args.out.now.mails ++ l) (again_says (setting_of c.args.self.now.role) c.args.self.now.role.part c.args.who _ less))

pub returns-clause-ok : goal.returns-clause-ok
returns-clause-ok c t is =
    let less : ltb c.args.who.turn c.args.self.now.role.config.attempts ≡ true = grind (arith, nat_tests) in
    undone_again _ _ _ _ t (setting_of c.args.self.now.role) c.args.who (sym (c.is_last.ensures t is) ∙ c.if-not-is_last.false) less (record { role = refl; fixed = refl; homes = refl; count = refl; place = refl; sets = c.close_at-2.ensures t is })
