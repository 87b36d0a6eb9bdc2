use Rattle.std.proofs.Common.{sym, ap, ◌∙◌, rules, Some}
use Rattle.std.specs.HashMap.{spare}
use Rattle.row_store.specs.Stores.{newest}
use Rattle.row_store.specs.declared.versions.Version.{Version}
use Rattle.row_store.proofs.Tables.{sets_from, present_in}
use Rattle.row_store.proofs.store.Store.put_at.Goals.{in-Some, in_default}
use Rattle.row_store.proofs.store.Store.put_at.Goals as goal

pub returns-clause-written : goal.returns-clause-written
returns-clause-written c =
    let put : Version = record { number = c.args.number; row = c.args.row } in
    elim c.match-get_mut.branch [
      | in-Some w ↦
          let new = c.get_mut.follows.lender w.offer.new.self in
          rw w.self-inside-is (sets_from c.self.inside.versions.entries new.entries _ (spare new) c.args.key (λ v. newest v put) (Some w.offer.new.self) c.args.self.now
          c.self.view_is (ap (λ v. newest v put) (sym w.in-Some.ensures.value) ∙ ap Some (sym w.offer.ensures)) ((c.get_mut.follows.holds w.offer.new.self).3 (search rules)).0)
      | in_default w ↦ absurd (present_in _ _ _ _ c.self.view_is c.requires.present (sym w.in_default.ensures.value))
    ]
