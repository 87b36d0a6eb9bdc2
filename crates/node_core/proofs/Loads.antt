-- A store of loaded rows.
use Rattle.std.proofs.Common.{◌≡◌, ◌≤◌, List, sym, ap, ◌∙◌, Option, Some, None, option_map, refl}
use Rattle.deneva_base.specs.declared.keys.Key.{Key}
use Rattle.deneva_base.specs.declared.rows.Keyed.{Keyed}
use Rattle.deneva_base.specs.Keys.{loaded_version}
use Rattle.deneva_base.specs.Lists.{IsIn}
use Rattle.deneva_base.specs.Rows.{Row, Rows, row_of}
use Rattle.row_store.specs.Stores.{Seen, version_at, row_in, loaded}
use Rattle.row_store.specs.declared.versions.Version.{Version}
use Rattle.control_core.specs.Leaving.{IsLoadedStore}
use Rattle.server_core.proofs.configured.Workloads.{found}

module _ (rows : List Keyed) (s : Seen) (holds : (key : Key) → version_at s key ≡ option_map loaded (row_of rows key)) where
  pub loaded_store : ((r : Keyed) → IsIn r rows → r.key.table ≤ 4) → IsLoadedStore s
  loaded_store tables key v e = go (row_of rows key) refl
    where
      go : (o : Option Row) → row_of rows key ≡ o → (v.number ≡ loaded_version) × (key.table ≤ 4)
      go None f = absurd (cc (sym e ∙ holds key ∙ ap (λ o. option_map loaded o) f))
      go (Some row) f =
          let same : Some v ≡ Some (loaded row) = sym e ∙ holds key ∙ ap (λ o. option_map loaded o) f in
          (ap (λ (x : Version). x.number) (unwrap same), tables (record { key = key; row = row }) (found key row rows f))
        where
          unwrap : {x y : Version} → Some x ≡ Some y → x ≡ y
          unwrap f = cc

  by_row : (o : Option Row) → option_map (λ (x : Version). x.row) (option_map loaded o) ≡ o
  by_row None = refl
  by_row (Some row) = refl

  pub rows_loaded : (here : Rows) → ((key : Key) → row_of rows key ≡ here key) → row_in s ≡ here
  rows_loaded here same = λ i key. each key i
    where
      each : (key : Key) → row_in s key ≡ here key
      each key = ap (λ o. option_map (λ (x : Version). x.row) o) (holds key) ∙ by_row (row_of rows key) ∙ same key
