-- The entries of the hash table, as the finite map that is seen of a store.
use Rattle.std.proofs.Common.{◌≡◌, ℕ, List, [], ◌∷◌, Bool, ◌&&◌, ◌==◌, true, false, cond, Option, None, refl, sym, ap, subst, ◌∙◌}
use Rattle.std.specs.FinMap.{find, from_entries, get, get-from_entries, same_map}
use Rattle.std.specs.Map.{lookup}
use Rattle.std.specs.declared.result.Result.{Result}
use Rattle.std.specs.declared.result.Result.TheVariants.{Ok, Err}
use Rattle.std.specs.Prelude.{is_some, IsOk, OnOk}
use Rattle.std.specs.Ordering.{is_eq}
use Rattle.std.specs.declared.cmp.Ordering.{Ordering}
use Rattle.std.specs.declared.cmp.Ordering.TheVariants.{Less, Equal, Greater}
use Rattle.std.proofs.lemmas.Bool.{false≢true}
use Rattle.deneva_base.specs.Keys.{key_eq, key_cmp}
use Rattle.deneva_base.specs.declared.keys.Key.{Key}
use Rattle.deneva_base.proofs.KeyOrder.{key_cmp_total, key_cmp-is_eq}
use Rattle.deneva_base.proofs.Entries.{key_cmp_same}
use Rattle.row_store.specs.Stores.{Seen, Sets, version_at, has}
use Rattle.row_store.specs.declared.versions.Version.{Version}

-- the table's test of keys, which joins the fields from the right
abbrev pub same_key : Key → Key → Bool
same_key k q = (k.table == q.table) && ((k.a == q.a) && ((k.b == q.b) && (k.c == q.c)))

regroup : (a b c d : Bool) → (a && (b && (c && d))) ≡ (a && b && c && d)
regroup false b c d = refl
regroup true false c d = refl
regroup true true false d = refl
regroup true true true d = refl

pub same_key-key_eq : (k q : Key) → same_key k q ≡ key_eq k q
same_key-key_eq k q = regroup (k.table == q.table) (k.a == q.a) (k.b == q.b) (k.c == q.c)

find_key : {X : Type 0} (es : List (Key × X)) (key : Key) → find key_cmp key es ≡ lookup (same_key key) es
find_key [] key = refl
find_key (e ∷ es) key = rw (key_cmp-is_eq key e.0, ← same_key-key_eq key e.0, find_key es key) refl

-- the map has at a key what the table has
pub get_key : {X : Type 0} (es : List (Key × X)) (key : Key) → get (from_entries {R = key_cmp} es) key ≡ lookup (same_key key) es
get_key es key = get-from_entries key_cmp_total es key ∙ find_key es key

-- tables that have the same at each key make one map
pub same_entries : (es fs : List (Key × Version)) → ((key : Key) → lookup (same_key key) fs ≡ lookup (same_key key) es) → from_entries {R = key_cmp} fs ≡ from_entries {R = key_cmp} es
same_entries es fs h = same_map key_cmp_total key_cmp_same _ _ (λ key. get_key fs key ∙ h key ∙ sym (get_key es key))

-- a store of these entries, with this room
abbrev pub seen : List (Key × Version) → ℕ → Seen
seen es room = record { versions = from_entries es; spare = room }

-- a table that changes at one key makes a store that changes there
pub sets_key : (es fs : List (Key × Version)) (m n : ℕ) (key : Key) (v : Option Version)
    → ((other : Key) → lookup (same_key other) fs ≡ cond (same_key key other) v (lookup (same_key other) es)) → Sets (seen es m) key v (seen fs n)
sets_key es fs m n key v h other = get_key fs other ∙ h other ∙ rw (same_key-key_eq key other, get_key es other) refl

-- the same, where v is made of what the store had at the key
pub sets_from : (es fs : List (Key × Version)) (m n : ℕ) (key : Key) (f : Option Version → Option Version) (v : Option Version) (s : Seen)
    → seen es m ≡ s → f (lookup (same_key key) es) ≡ v
    → ((other : Key) → lookup (same_key other) fs ≡ cond (same_key key other) v (lookup (same_key other) es)) → Sets s key (f (version_at s key)) (seen fs n)
sets_from es fs m n key f v s view made h = subst (λ t. Sets t key (f (version_at t key)) (seen fs n)) view (λ other.
    sets_key es fs m n key v h other ∙ ap (λ w. cond (key_eq key other) w (version_at (seen es m) other)) (sym made ∙ ap f (sym (get_key es key))))

-- a key that a store has is in its table
pub present_in : (es : List (Key × Version)) (room : ℕ) (s : Seen) (key : Key) → seen es room ≡ s → has s key ≡ true → lookup (same_key key) es ≡ None → ⊥
present_in es room s key view present none = false≢true (sym (ap is_some (sym (ap (λ t. version_at t key) view) ∙ get_key es key ∙ none)) ∙ present)

-- what holds where a call succeeds holds, where it does
pub on_ok : {T E P : Type 0} (r : Result T E) → IsOk r → OnOk r P → P
on_ok (Ok x) is p = p
on_ok (Err e) is p = absurd (false≢true is)

-- keys that pass the test of equality are one
pub same_as : (k q : Key) → key_eq k q ≡ true → k ≡ q
same_as k q same = key_cmp_same k q (is_equal (key_cmp k q) (key_cmp-is_eq k q ∙ same))
  where
    is_equal : (o : Ordering) → is_eq o ≡ true → o ≡ Equal
    is_equal Less e = absurd (false≢true e)
    is_equal Equal e = refl
    is_equal Greater e = absurd (false≢true e)
