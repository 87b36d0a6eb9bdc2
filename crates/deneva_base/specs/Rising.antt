-- Rows whose keys strictly rise.
use Rattle.std.specs.Prelude.{List, [], ◌∷◌, Bool, true, ◌&&◌}
use Rattle.std.specs.Ordering.{is_lt}
use Rattle.deneva_base.specs.Keys.{key_cmp}
use Rattle.deneva_base.specs.declared.keys.Key.{Key}
use Rattle.deneva_base.specs.declared.rows.Keyed.{Keyed}

-- the key is below that of the first row, and each row's key is below the next one's
abbrev pub rise_after : Key → List Keyed → Bool
rise_after key [] = true
rise_after key (r ∷ rows) = is_lt (key_cmp key r.key) && rise_after r.key rows

-- each row's key is below the next one's
abbrev pub keys_rise : List Keyed → Bool
keys_rise [] = true
keys_rise (r ∷ rows) = rise_after r.key rows
