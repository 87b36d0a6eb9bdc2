-- An index of customers by their last names.
use Rattle.std.specs.Prelude.{◌≡◌, ℕ, List}
use Rattle.std.specs.Ordering.{nat_cmp, ordering_then}
use Rattle.std.specs.declared.cmp.Ordering.{Ordering}
use Rattle.std.specs.Cmp.Lexicographic.{slice_cmp}
use Rattle.std.specs.BTreeMap.{BTreeMap, get}
use Rattle.deneva_base.specs.declared.rows.Keyed.{Keyed}
use Rattle.tpcc_rules.specs.Names.{by_last_name}
use Rattle.workload_text.specs.declared.loaded.Name.{Name}

-- by warehouse, district and last name, as bytes
abbrev pub name_cmp : Name → Name → Ordering
name_cmp n m =
    ordering_then (nat_cmp n.w m.w)
    (ordering_then (nat_cmp n.d m.d) (slice_cmp nat_cmp n.last.items m.last.items))

-- the map has the number of the middle customer of each last name among the rows
unfoldable pub HasMiddles : BTreeMap Name ℕ → List Keyed → Type 0
HasMiddles m rows = (n : Name) → get name_cmp m n ≡ by_last_name rows n.w n.d n.last.items
