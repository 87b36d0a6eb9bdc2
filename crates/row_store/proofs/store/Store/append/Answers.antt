use Rattle.std.proofs.Common.{sym, ap, ◌∙◌, rules, Some, cond, ◌<◌}
use Rattle.std.specs.HashMap.{spare}
use Rattle.std.specs.HashMap as table
use Rattle.std.specs.Map.{lookup}
use Rattle.deneva_base.specs.declared.keys.Key.{Key}
use Rattle.row_store.specs.Stores.{newest}
use Rattle.row_store.specs.declared.versions.Version.{Version}
use Rattle.row_store.proofs.Tables.{sets_from, on_ok, same_key}
use Rattle.row_store.proofs.store.Store.append.Goals as goal

pub returns-in-Some-clause-written : goal.returns-in-Some-clause-written
returns-in-Some-clause-written c =
    let put : Version = record { number = c.args.number; row = c.args.row } in
    let new = c.get_mut.follows.lender c.offer.new.self in
    sets_from c.self.inside.versions.entries new.entries _ (spare new) c.args.key (λ v. newest v put) (Some c.offer.new.self) c.args.self.now
    c.self.view_is (ap (λ v. newest v put) (sym c.in-Some.ensures.value) ∙ ap Some (sym c.offer.ensures)) ((c.get_mut.follows.holds c.offer.new.self).3 (search rules)).0

pub returns-in-None-clause-written : goal.returns-in-None-clause-written
returns-in-None-clause-written c =
    let put : Version = record { number = c.args.number; row = c.args.row } in
    let room : 0 < spare c.get_mut.follows.lender-at-none = search (rules, c.get_mut.follows.holds-at-none, c.self.view_is, c.requires.room) in
    let updated = (on_ok _ (c.insert.ensures.succeeds room) c.insert.ensures.updates).0 in
    sets_from c.self.inside.versions.entries c.insert.new.self.entries _ (spare c.insert.new.self) c.args.key (λ v. newest v put) (Some put) c.args.self.now
    c.self.view_is (ap (λ v. newest v put) (sym c.in-None.ensures.value))
    (λ other. updated other ∙ ap (λ (m : table.HashMap Key Version _). cond (same_key c.args.key other) (Some put) (lookup (same_key other) m.entries)) c.get_mut.follows.holds-at-none)
