use Rattle.std.proofs.Common.{◌≡◌, [], rules, Some, cond, ap, subst, ◌∙◌}
use Rattle.std.specs.Map.{lookup}
use Rattle.std.specs.HashMap.{spare}
use Rattle.std.proofs.lemmas.List.{nil_from_length}
use Rattle.row_store.specs.declared.versions.Version.{Version}
use Rattle.row_store.proofs.Loading.{IsLoading, loads_none, loads_more, loads_all}
use Rattle.row_store.proofs.Tables.{same_key}
use Rattle.row_store.proofs.store.Store.begin.Goals as goal

pub loop-key-init : goal.loop-key-init
loop-key-init c =
    rw (c.into_iter-key-iterator.ensures.into_iter_gives.0 ∙ c.into_vec-key-items.ensures)
    (loads_none c.args.rows c.in_ok-versions.versions.entries c.requires.distinct c.in_ok-versions.ensures.empty)

pub loop-key-preserved : goal.loop-key-preserved
loop-key-preserved c =
    let r = c.in-Some.field-0 in
    loads_more c.args.rows c.next.new.self.rest.items r c.loop-key.versions.entries c.insert.new.self.entries
    (subst (λ left. IsLoading c.args.rows left c.loop-key.versions.entries) c.in-Some.ensures.steps.0 c.loop-key.invariant)
    (λ key. c.in_ok-insert.ensures.updates.0 key ∙ ap (λ (v : Version). cond (same_key r.key key) (Some v) (lookup (same_key key) c.loop-key.versions.entries)) c.loaded.ensures)

pub loop-key-preserved-in_ok-insert : goal.loop-key-preserved-in_ok-insert
loop-key-preserved-in_ok-insert c =
    let r = c.in-Some.field-0 in
    loads_more c.args.rows c.next.new.self.rest.items r c.loop-key.versions.entries c.insert.new.self.entries
    (subst (λ left. IsLoading c.args.rows left c.loop-key.versions.entries) c.in-Some.ensures.steps.0 c.loop-key.invariant)
    (λ key. c.in_ok-insert.ensures.updates.0 key ∙ ap (λ (v : Version). cond (same_key r.key key) (Some v) (lookup (same_key key) c.loop-key.versions.entries)) c.loaded.ensures)

pub returns : goal.returns
returns c =
    let none : c.loop-key.key-iterator.rest.items ≡ [] = nil_from_length _ (search rules) in
    record { loaded = loads_all c.args.rows c.loop-key.versions.entries (spare c.loop-key.versions) (subst (λ left. IsLoading c.args.rows left c.loop-key.versions.entries) none c.loop-key.invariant) }
