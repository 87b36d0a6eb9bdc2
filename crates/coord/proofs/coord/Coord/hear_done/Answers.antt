use Rattle.std.proofs.Common.{sym, ◌∙◌, refl}
use Rattle.std.proofs.lemmas.Result.{on_ok_weaker}
use Rattle.coord.proofs.Ending.{done_now, done_on, said_now, said_on}
use Rattle.coord.proofs.coord.Coord.hear_done.Goals as goal

pub returns-then-is_last-clause-ok : goal.returns-then-is_last-clause-ok
returns-then-is_last-clause-ok c = on_ok_weaker c.end.result (λ e t is. done_now _ _ _ _ t (sym (c.is_last.ensures t is) ∙ c.if-is_last.true) e) c.end.ensures.ok

pub returns-then-is_last-clause-said : goal.returns-then-is_last-clause-said
returns-then-is_last-clause-said c = on_ok_weaker c.end.result (λ e t is. said_now _ t _ _ _ (sym (c.is_last.ensures t is) ∙ c.if-is_last.true) e) c.end.ensures.said

pub returns-clause-ok : goal.returns-clause-ok
returns-clause-ok c t is = done_on _ _ _ _ t (sym (c.is_last.ensures t is) ∙ c.if-is_last.false) (record { role = refl; fixed = refl; homes = refl; count = refl; place = refl; sets = c.close_at.ensures t is })

pub returns-clause-said : goal.returns-clause-said
returns-clause-said c t is = said_on _ t _ _ _ (sym (c.is_last.ensures t is) ∙ c.if-is_last.false) refl
