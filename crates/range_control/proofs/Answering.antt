-- What a table that stands for a history answers.
use Rattle.std.proofs.Common.{◌≡◌, ℕ, suc, max, [], false, ap, ap₂, Option, Some, None, option_map}
use Rattle.deneva_base.specs.declared.keys.Key.{Key}
use Rattle.deneva_base.specs.declared.keys.Mode.{Mode}
use Rattle.deneva_base.specs.declared.keys.Mode.TheVariants.{Read, Update, Put}
use Rattle.deneva_base.specs.Rows.{Rows}
use Rattle.protocol_rules.specs.History.{History}
use Rattle.protocol_rules.specs.Latest.{Version, latest}
use Rattle.protocol_rules.specs.Ranged.{past, bound_of}
use Rattle.row_store.specs.declared.versions.Version.{Version as StoredVersion}
use Rattle.row_store.specs.Stores.{Seen, row_in}
use Rattle.control_core.specs.Leaving.{IsLoadedStore}
use Rattle.shelf.specs.Keeps.{version_of}
use Rattle.shelf.proofs.Keeps.{keeps_fresh}
use Rattle.range_control.specs.declared.table.Table.{Table}
use Rattle.range_control.specs.Seen.{Accesses}
use Rattle.range_control.specs.Changes.{IsNew, past_version, bound_in}
use Rattle.range_control.specs.Standing.{state_of, Tracks}

-- one past the number of a version
pub past_is_of : (v : Option StoredVersion) (l : Version) → option_map version_of v ≡ Some l → past_version v ≡ suc l.number.n
past_is_of None l e = absurd (cc e)
past_is_of (Some v) l e = let is : version_of v ≡ l = cc in ap (λ (x : Version). suc x.number.n) is

-- the bound of an access
pub bound_same : (loaded : Rows) (h : History) (key : Key) (mode : Mode) (v : Option StoredVersion) (p : ℕ) → option_map version_of v ≡ Some (latest loaded h key) → p ≡ past h key → bound_in mode v p ≡ bound_of loaded h key mode
bound_same loaded h key Read v p e f = past_is_of v (latest loaded h key) e
bound_same loaded h key Update v p e f = ap₂ (λ a b. max a b) (past_is_of v (latest loaded h key) e) f
bound_same loaded h key Put v p e f = ap (max 1) f

-- a table on which nothing was called
pub fresh_tracks : (store : Seen) (t : Table) → IsNew store t → IsLoadedStore store → Tracks (row_in store) (state_of t) []
fresh_tracks store t f l = record {
  held = λ k. ap (λ (z : Accesses). z.held) (f.lines k);
  past = λ k. ap (λ (z : Accesses). z.past) (f.lines k);
  kept = keeps_fresh false f.shelf l;
}
