-- Which versions of a key are kept: the `keep` greatest, or all for 0, and those below the stamps of waiters.
use Rattle.std.specs.Prelude.{ℕ, List, ◌∷◌, filter, reverse, Bool, ◌&&◌, ◌||◌, nat_le}
use Rattle.std.specs.List.{list_any}
use Rattle.deneva_base.specs.declared.keys.Key.{Key}
use Rattle.deneva_base.specs.Keys.{key_eq, number_eq}
use Rattle.deneva_base.specs.Rows.{Rows}
use Rattle.protocol_rules.specs.History.{History, Asked, waits}
use Rattle.protocol_rules.specs.Latest.{Version}
use Rattle.protocol_rules.specs.Versions.{written, start, below}
use Rattle.protocol_rules.specs.Mvcc.{floor}

-- the loaded version of the key and its committed writes, in the order of their commits
abbrev pub in_order : Rows → History → Key → List Version
in_order loaded h key = start loaded key ∷ reverse (written h key)

-- it is the one below the stamp of one that waits for the key
abbrev pub awaited : Rows → History → Key → List Asked → Version → Bool
awaited loaded h key ws v = list_any (λ a. key_eq a.key key && number_eq v.number (below loaded h key a.stamp).number) ws

abbrev pub is_kept : ℕ → Rows → History → Key → Version → Bool
is_kept keep loaded h key v = nat_le (floor keep loaded h key) v.number.n || awaited loaded h key (waits h) v

abbrev pub kept : ℕ → Rows → History → Key → List Version
kept keep loaded h key = filter (is_kept keep loaded h key) (in_order loaded h key)
