use Rattle.std.proofs.Common.{◌≡◌, sym, ap, refl, ◌∙◌, rules, option_map, Option, Some, None, Bor, List}
use Rattle.std.specs.Prelude.{is_some, MatchOption, IsSomeAnd}
use Rattle.deneva_base.specs.declared.rows.Cell.{Cell}
use Rattle.row_store.specs.Stores.{version_at}
use Rattle.row_store.specs.declared.versions.Version.{Version}
use Rattle.row_store.proofs.Tables.{get_key}
use Rattle.row_store.proofs.store.Store.get.Goals as goal

-- a closure that gives the row of a version
mapped : (v : Option (Bor Version)) (r : Option (Bor (List Cell))) (gives : Bor Version → Bor (List Cell) → Type 0) → ((x : Bor Version) (y : Bor (List Cell)) → gives x y → y.now ≡ x.now.row)
    → MatchOption v (r ≡ None) (λ x. IsSomeAnd r (gives x)) → option_map (λ y. y.now) r ≡ option_map (λ w. w.row) (option_map (λ x. x.now) v)
mapped None r gives reads h = ap (option_map (λ (y : Bor (List Cell)). y.now)) h
mapped (Some x) None gives reads h = absurd h
mapped (Some x) (Some y) gives reads h = ap Some (reads x y h)

pub returns-clause-row : goal.returns-clause-row
returns-clause-row c =
    mapped c.get.result c.map.result _ (λ x y h. search rules) c.map.ensures.cases
    ∙ ap (option_map (λ v. v.row)) (c.get.ensures.value ∙ sym (get_key c.self.inside.versions.entries c.args.key) ∙ ap (λ s. version_at s c.args.key) c.self.view_is)

some_read : (v : Option (Bor Version)) → is_some v ≡ is_some (option_map (λ (x : Bor Version). x.now) v)
some_read None = refl
some_read (Some x) = refl

pub returns-clause-present : goal.returns-clause-present
returns-clause-present c =
    c.map.ensures.variant ∙ some_read c.get.result
    ∙ ap is_some (c.get.ensures.value ∙ sym (get_key c.self.inside.versions.entries c.args.key) ∙ ap (λ s. version_at s c.args.key) c.self.view_is)
