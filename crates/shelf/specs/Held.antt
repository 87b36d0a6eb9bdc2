-- What an attempt has here, and what the calls add to it.
use Rattle.std.specs.Prelude.{ℕ, List, [], ◌∷◌, Bool, if◌then◌else◌}
use Rattle.std.specs.Ordering.{match_ordering}
use Rattle.deneva_base.specs.declared.keys.Key.{Key}
use Rattle.deneva_base.specs.declared.rows.Keyed.{Keyed}
use Rattle.deneva_base.specs.Keys.{key_cmp}
use Rattle.shelf.specs.Seen.{Held}

abbrev pub nothing : Held
nothing = record { stamp = 0; keys = []; writes = []; copies = []; appends = [] }

-- the keys in their order, with one more
abbrev pub put_key : Key → List Key → List Key
put_key key [] = key ∷ []
put_key key (k ∷ ks) = match_ordering (key_cmp k key) (k ∷ put_key key ks) (k ∷ ks) (key ∷ k ∷ ks)

abbrev pub with_key : ℕ → Key → Held → Held
with_key stamp key p = record { stamp = stamp; keys = put_key key p.keys; writes = p.writes; copies = p.copies; appends = p.appends }

abbrev pub with_rows : List Keyed → List Keyed → List Keyed → Held → Held
with_rows writes copies appends p = record { stamp = p.stamp; keys = p.keys; writes = writes; copies = copies; appends = appends }

-- what a control wants back of the rows that an attempt writes: all, or none
abbrev pub copies_of : Bool → List Keyed → List Keyed
copies_of copied rows = if copied then rows else []
