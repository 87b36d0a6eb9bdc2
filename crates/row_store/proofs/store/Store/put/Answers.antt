use Rattle.std.proofs.Common.{sym, ap, rules, option_map, Some}
use Rattle.std.specs.HashMap.{spare}
use Rattle.row_store.specs.Stores.{with_row}
use Rattle.row_store.specs.declared.versions.Version.{Version}
use Rattle.row_store.proofs.Tables.{sets_from, present_in}
use Rattle.row_store.proofs.store.Store.put.Goals.{in-Some, in_default}
use Rattle.row_store.proofs.store.Store.put.Goals as goal

pub returns-clause-written : goal.returns-clause-written
returns-clause-written c =
    elim c.match-get_mut.branch [
      | in-Some w ↦
          let put : Version = record { number = w.in-Some.version.now.number; row = c.args.row } in
          let found = sym w.in-Some.ensures.value in
          rw w.self-inside-is (sets_from c.self.inside.versions.entries (c.get_mut.follows.lender put).entries _ (spare (c.get_mut.follows.lender put)) c.args.key (option_map (with_row c.args.row)) (Some put) c.args.self.now
          c.self.view_is (ap (option_map (with_row c.args.row)) found) ((c.get_mut.follows.holds put).3 (search rules)).0)
      | in_default w ↦ absurd (present_in _ _ _ _ c.self.view_is c.requires.present (sym w.in_default.ensures.value))
    ]
