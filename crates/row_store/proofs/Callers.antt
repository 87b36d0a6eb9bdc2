-- What a caller of a store cites.
use Rattle.std.proofs.Common.{◌≡◌, false, Option, ap, ◌∙◌}
use Rattle.std.specs.Prelude.{if◌then◌else◌}
use Rattle.deneva_base.specs.Keys.{key_eq}
use Rattle.deneva_base.specs.declared.keys.Key.{Key}
use Rattle.deneva_base.proofs.KeyOrder.{key_eq_equivalence}
use Rattle.row_store.specs.Stores.{Seen, Sets, version_at}
use Rattle.row_store.specs.declared.versions.Version.{Version}
pub use Rattle.deneva_base.proofs.SortedRows.{distinct_from_rising}

-- what was set is there
pub version_at-set : (old new : Seen) (key : Key) (v : Option Version) → Sets old key v new → version_at new key ≡ v
version_at-set old new key v set = set key ∙ ap (λ b. if b then v else version_at old key) (key_eq_equivalence.refl key)

-- what another key has stays
pub version_at-other : (old new : Seen) (key : Key) (v : Option Version) → Sets old key v new → (other : Key) → key_eq key other ≡ false → version_at new other ≡ version_at old other
version_at-other old new key v set other apart = set other ∙ ap (λ b. if b then v else version_at old other) apart
