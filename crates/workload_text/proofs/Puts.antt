-- A row put among rows in rising key order.
use Rattle.std.proofs.Common.{◌≡◌, ◌+◌, Bool, true, false, ◌||◌, List, [], ◌∷◌, length, refl, sym, ap, ◌∙◌, subst, arith}
use Rattle.std.specs.List.{list_all}
use Rattle.std.specs.Ordering.{is_lt, ordering_reverse, match_ordering}
use Rattle.std.specs.declared.cmp.Ordering.{Ordering}
use Rattle.std.specs.declared.cmp.Ordering.TheVariants.{Less, Equal, Greater}
use Rattle.std.proofs.lemmas.Bool.{and_parts, and_from, or_parts, true≢false}
use Rattle.deneva_base.specs.Keys.{key_eq, key_cmp}
use Rattle.deneva_base.specs.Rising.{keys_rise, rise_after}
use Rattle.deneva_base.specs.Rows.{has_key, put}
use Rattle.deneva_base.specs.declared.keys.Key.{Key}
use Rattle.deneva_base.specs.declared.rows.Keyed.{Keyed}
use Rattle.deneva_base.proofs.Entries.{key_cmp_same}
use Rattle.deneva_base.proofs.KeyOrder.{key_cmp_total, key_eq-at_Equal, key_eq_equivalence}

-- where neither comparison is the other way round, the key at hand is above
above : (k q : Key) → key_cmp k q ≡ Greater → is_lt (key_cmp q k) ≡ true
above k q e = ap is_lt (key_cmp_total.antisymm q k ∙ ap ordering_reverse e)

-- a test that each row passes, at the new row too
all_at : (P : Keyed → Bool) (o : Ordering) (w r : Keyed) (rows rest : List Keyed) → P w ≡ true → list_all P (r ∷ rows) ≡ true → list_all P rest ≡ true
    → list_all P (match_ordering o (w ∷ r ∷ rows) (w ∷ rows) (r ∷ rest)) ≡ true
all_at P Less w r rows rest new h more = and_from _ _ new h
all_at P Equal w r rows rest new h more = and_from _ _ new (and_parts _ _ h).1
all_at P Greater w r rows rest new h more = and_from _ _ (and_parts _ _ h).0 more

pub list_all-put : (P : Keyed → Bool) (rows : List Keyed) (w : Keyed) → P w ≡ true → list_all P rows ≡ true → list_all P (put rows w) ≡ true
list_all-put P [] w new h = and_from _ _ new refl
list_all-put P (r ∷ rows) w new h = all_at P (key_cmp w.key r.key) w r rows (put rows w) new h (list_all-put P rows w new (and_parts _ _ h).1)

-- rows that rise still do
rise_at : (o : Ordering) (key : Key) (w r : Keyed) (rows rest : List Keyed) → key_cmp w.key r.key ≡ o → is_lt (key_cmp key w.key) ≡ true → rise_after key (r ∷ rows) ≡ true
    → (is_lt (key_cmp r.key w.key) ≡ true → rise_after r.key rest ≡ true)
    → rise_after key (match_ordering o (w ∷ r ∷ rows) (w ∷ rows) (r ∷ rest)) ≡ true
rise_at Less key w r rows rest e below h more = and_from _ _ below (and_from _ _ (ap is_lt e) (and_parts _ _ h).1)
rise_at Equal key w r rows rest e below h more = and_from _ _ below (subst (λ (k : Key). rise_after k rows ≡ true) (sym (key_cmp_same w.key r.key e)) (and_parts _ _ h).1)
rise_at Greater key w r rows rest e below h more = and_from _ _ (and_parts _ _ h).0 (more (above w.key r.key e))

rise_after-put : (key : Key) (rows : List Keyed) (w : Keyed) → is_lt (key_cmp key w.key) ≡ true → rise_after key rows ≡ true → rise_after key (put rows w) ≡ true
rise_after-put key [] w below h = and_from _ _ below refl
rise_after-put key (r ∷ rows) w below h = rise_at (key_cmp w.key r.key) key w r rows (put rows w) refl below h (λ later. rise_after-put r.key rows w later (and_parts _ _ h).1)

first_at : (o : Ordering) (w r : Keyed) (rows rest : List Keyed) → key_cmp w.key r.key ≡ o → rise_after r.key rows ≡ true
    → (is_lt (key_cmp r.key w.key) ≡ true → rise_after r.key rest ≡ true)
    → keys_rise (match_ordering o (w ∷ r ∷ rows) (w ∷ rows) (r ∷ rest)) ≡ true
first_at Less w r rows rest e h more = and_from _ _ (ap is_lt e) h
first_at Equal w r rows rest e h more = subst (λ (k : Key). rise_after k rows ≡ true) (sym (key_cmp_same w.key r.key e)) h
first_at Greater w r rows rest e h more = more (above w.key r.key e)

pub keys_rise-put : (rows : List Keyed) (w : Keyed) → keys_rise rows ≡ true → keys_rise (put rows w) ≡ true
keys_rise-put [] w h = refl
keys_rise-put (r ∷ rows) w h = first_at (key_cmp w.key r.key) w r rows (put rows w) refl h (λ later. rise_after-put r.key rows w later h)

-- the row of a key that no row had is one more
length_at : (o : Ordering) (w r : Keyed) (rows rest : List Keyed) → key_cmp w.key r.key ≡ o → key_eq r.key w.key ≡ false → length rest ≡ length rows + 1
    → length (match_ordering o (w ∷ r ∷ rows) (w ∷ rows) (r ∷ rest)) ≡ length (r ∷ rows) + 1
length_at Less w r rows rest e new h = omega arith
length_at Equal w r rows rest e new h = absurd (true≢false (sym (key_eq-at_Equal w.key r.key e) ∙ key_eq_equivalence.symm w.key r.key ∙ new))
length_at Greater w r rows rest e new h = omega arith

pub length-put : (rows : List Keyed) (w : Keyed) → has_key rows w.key ≡ false → length (put rows w) ≡ length rows + 1
length-put [] w h = refl
length-put (r ∷ rows) w h =
    length_at (key_cmp w.key r.key) w r rows (put rows w) refl (or_parts _ _ h).0 (length-put rows w (or_parts _ _ h).1)

pub or_twice : (a h : Bool) → (a || h) ≡ (a || (a || h))
or_twice true h = refl
or_twice false h = refl

pub or_swap : (a b h : Bool) → (b || (a || h)) ≡ (a || (b || h))
or_swap true true h = refl
or_swap true false h = refl
or_swap false b h = refl

-- the keys are those that were there and the new one
has_at : (o : Ordering) (w r : Keyed) (k : Key) (rows rest : List Keyed) → key_cmp w.key r.key ≡ o → has_key rest k ≡ (key_eq w.key k || has_key rows k)
    → has_key (match_ordering o (w ∷ r ∷ rows) (w ∷ rows) (r ∷ rest)) k ≡ (key_eq w.key k || (key_eq r.key k || has_key rows k))
has_at Less w r k rows rest e h = refl
has_at Equal w r k rows rest e h = or_twice (key_eq w.key k) (has_key rows k) ∙ ap (λ (q : Key). key_eq w.key k || (key_eq q k || has_key rows k)) (key_cmp_same w.key r.key e)
has_at Greater w r k rows rest e h = ap (λ b. key_eq r.key k || b) h ∙ or_swap (key_eq w.key k) (key_eq r.key k) (has_key rows k)

pub has_key-put : (rows : List Keyed) (w : Keyed) (k : Key) → has_key (put rows w) k ≡ (key_eq w.key k || has_key rows k)
has_key-put [] w k = refl
has_key-put (r ∷ rows) w k = has_at (key_cmp w.key r.key) w r k rows (put rows w) refl (has_key-put rows w k)
