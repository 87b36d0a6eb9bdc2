use Rattle.std.proofs.Common.{◌≡◌, ◌≤◌, ◌∷◌, List, length, arith, ap, subst, sym, ◌∙◌}
use Rattle.deneva_base.specs.Rows.{row_of}
use Rattle.deneva_base.specs.declared.rows.Keyed.{Keyed}
use Rattle.row_store.specs.Stores.{version_at}
use Rattle.calvin_sched.specs.Versions.{offered}
use Rattle.calvin_sched.proofs.RowSteps.{put_step}
use Rattle.calvin_sched.proofs.rows.put_rows.Goals as goal

pub loop-key-preserved : goal.loop-key-preserved
loop-key-preserved c =
    let r : Keyed = c.in-Some.field-0 in
    let next : c.loop-key.key-iterator.rest.items ≡ r ∷ c.next.new.self.rest.items = c.in-Some.ensures.steps.0 in
    let room : length (r ∷ c.next.new.self.rest.items) ≤ c.loop-key.store.spare = subst (λ (rs : List Keyed). length rs ≤ c.loop-key.store.spare) next c.loop-key.invariant.room in
    record {
      left = λ key.
          put_step c.loop-key.store c.append.new.self c.args.number r c.next.new.self.rest.items c.append.ensures.written key
          ∙ ap (λ rs. offered (version_at c.loop-key.store key) c.args.number (row_of rs key)) (sym next)
          ∙ c.loop-key.invariant.left key;
      room = omega (arith, room, c.append.ensures.spare);
    }
