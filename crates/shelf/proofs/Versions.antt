-- The rows of a shelf are those that its history tells.
use Rattle.std.proofs.Common.{◌≡◌, ◌≤◌, List, [], ◌∷◌, Bool, cond, true, false, length, refl, ap, ◌∙◌, subst, arith, Option, Some, None, option_map}
use Rattle.std.specs.Prelude.{is_some}
use Rattle.deneva_base.specs.declared.keys.Key.{Key}
use Rattle.deneva_base.specs.declared.keys.Mode.{Mode}
use Rattle.deneva_base.specs.declared.numbers.Attempt.{Attempt}
use Rattle.deneva_base.specs.declared.numbers.Number.{Number}
use Rattle.deneva_base.specs.declared.rows.Keyed.{Keyed}
use Rattle.deneva_base.specs.Lists.{IsIn}
use Rattle.deneva_base.specs.Keys.{loaded_version}
use Rattle.deneva_base.specs.Modes.{reads}
use Rattle.deneva_base.specs.Rows.{Row, Rows}
use Rattle.protocol_rules.specs.History.{Abort, History, yeas, IsUnended}
use Rattle.protocol_rules.specs.Latest.{Version, latest, seen}
use Rattle.protocol_rules.specs.Leaving.{rows_left}
use Rattle.protocol_rules.specs.Rules.{Rule, Obeys}
use Rattle.protocol_rules.specs.Wakes.{KeepsWakes}
use Rattle.protocol_rules.specs.Windows.{KeepsWindows}
use Rattle.protocol_rules.proofs.Sound.{sound, writes_found}
use Rattle.protocol_rules.proofs.Known.{known}
use Rattle.protocol_rules.proofs.Traced.{traced}
use Rattle.row_store.specs.declared.versions.Version.{Version as StoredVersion}
use Rattle.row_store.specs.Stores.{version_at, has, row_in}
use Rattle.control_core.proofs.Lasts.{last_latest, last_rows}
use Rattle.shelf.specs.declared.shelf.Shelf.{Shelf}
use Rattle.shelf.specs.Shelves.{held, read_in}
use Rattle.shelf.specs.Keeps.{KeepsRows, Apart, version_of}
use Rattle.shelf.proofs.Promised.{votes_apart, promised_less}

-- what an access reads of a version
pub read_is : (mode : Mode) (v : Option StoredVersion) (l : Version) → option_map version_of v ≡ Some l → read_in mode v ≡ ((seen mode l).row, (seen mode l).number)
read_is mode None l e = absurd (cc e)
read_is mode (Some v) l e = go (reads mode) ∙ ap (λ (x : Version). ((seen mode x).row, (seen mode x).number)) (one e)
  where
    one : Some (version_of v) ≡ Some l → version_of v ≡ l
    one s = cc

    go : (b : Bool) → cond {A = Row × Number} b (v.row, v.number) ([], loaded_version) ≡ ((cond b (version_of v) (record { number = loaded_version; row = [] })).row, (cond b (version_of v) (record { number = loaded_version; row = [] })).number)
    go true = refl
    go false = refl

module _ {copied : Bool} {loaded : Rows} {s : Shelf} {h : History} (rule : Rule) (t : KeepsRows copied loaded s h) (obeys : Obeys loaded rule h) where
  -- the version of a loaded key
  pub version_is : (key : Key) (row : Row) → loaded key ≡ Some row → option_map version_of (version_at s.store key) ≡ Some (latest loaded h key)
  version_is key row e = t.versions key ∙ last_latest loaded rule h key row obeys e (t.tables key row e)

  pub reads_latest : (key : Key) (row : Row) → loaded key ≡ Some row → (mode : Mode) → read_in mode (version_at s.store key) ≡ ((seen mode (latest loaded h key)).row, (seen mode (latest loaded h key)).number)
  reads_latest key row e mode = read_is mode (version_at s.store key) (latest loaded h key) (version_is key row e)

  -- the rows that are left
  pub rows_are : ((k : History) → Obeys loaded rule k → KeepsWindows loaded k) → (key : Key) → row_in s.store key ≡ rows_left loaded h key
  rows_are law key = rows (version_at s.store key) ∙ ap (option_map (λ v. v.row)) (t.versions key) ∙ last_rows loaded rule law h key obeys
    where
      rows : (v : Option StoredVersion) → option_map (λ x. x.row) v ≡ option_map (λ x. x.row) (option_map version_of v)
      rows None = refl
      rows (Some v) = refl

  -- no attempt votes twice
  pub apart : Apart (yeas h)
  apart = votes_apart loaded rule h obeys

  -- the appended rows of an attempt that has not ended are promised
  pub promised : (who : Attempt) → IsUnended h who → length (held s who).appends ≤ s.promised
  promised who u =
      let mine = ap (λ (l : List Keyed). length l) (t.rows who u).2 in
      let less = promised_less h (Abort who [] ∷ h) who (yeas h) refl u apart in
      omega (arith, mine, less, t.promised)

  -- the key of a row that it is to write is present
  pub present : KeepsWakes h → (who : Attempt) → IsUnended h who → (w : Keyed) → IsIn w (held s who).writes → has s.store w.key ≡ true
  present wakes who u w i =
      let y = writes_found (yeas h) who w (subst (λ l. IsIn w l) (t.rows who u).0 i) in
      let g = (sound loaded rule h obeys).holds y.0 w y.2 y.3 in
      let a = (traced loaded rule h obeys wakes).asked g.0 g.1 in
      let row = (known loaded rule h obeys).here a.0 a.1 in
      some (version_at s.store w.key) (version_is w.key row.0 (subst (λ k. loaded k ≡ Some row.0) (a.3 ∙ g.3) row.1))
    where
      some : (v : Option StoredVersion) → option_map version_of v ≡ Some (latest loaded h w.key) → is_some v ≡ true
      some None e = absurd (cc e)
      some (Some v) e = refl
