-- Rows put among rows in rising key order, and what a look-up finds then.
use Rattle.std.proofs.Common.{◌≡◌, ◌≢◌, Bool, true, false, cond, List, [], ◌∷◌, ◌++◌, Some, None, refl, sym, ap, ◌∙◌, subst, inl, inr, ⊎_elim, true≢false, append_assoc, append-nil}
use Rattle.std.specs.List.{list_all}
use Rattle.std.specs.Ordering.{is_lt, ordering_reverse, match_ordering}
use Rattle.std.specs.declared.cmp.Ordering.{Ordering}
use Rattle.std.specs.declared.cmp.Ordering.TheVariants.{Less, Equal, Greater}
use Rattle.std.proofs.lemmas.Bool.{and_parts, and_from}
use Rattle.deneva_base.specs.Keys.{key_eq, key_cmp}
use Rattle.deneva_base.specs.Lists.{IsIn}
use Rattle.deneva_base.specs.Rising.{keys_rise, rise_after}
use Rattle.deneva_base.specs.Rows.{row_of, row_at, row_or_empty, put, put_all, in_key_order}
use Rattle.deneva_base.specs.declared.keys.Key.{Key}
use Rattle.deneva_base.specs.declared.rows.Keyed.{Keyed}
use Rattle.deneva_base.proofs.Entries.{key_cmp_same}
use Rattle.deneva_base.proofs.KeyOrder.{less, key_cmp_total, key_eq-at_Greater, key_eq-below}
use Rattle.deneva_base.proofs.RowMaps.{below_all, keys_rise-tail}
use Rattle.deneva_base.proofs.Membership.{key_tells}

-- where neither comparison is the other way round, the key at hand is above
above : (k q : Key) → key_cmp k q ≡ Greater → is_lt (key_cmp q k) ≡ true
above k q e = ap is_lt (key_cmp_total.antisymm q k ∙ ap ordering_reverse e)

-- rows that rise still do
rise_at : (o : Ordering) (key : Key) (w r : Keyed) (rows rest : List Keyed) → key_cmp w.key r.key ≡ o → is_lt (key_cmp key w.key) ≡ true → rise_after key (r ∷ rows) ≡ true
    → (is_lt (key_cmp r.key w.key) ≡ true → rise_after r.key rest ≡ true)
    → rise_after key (match_ordering o (w ∷ r ∷ rows) (w ∷ rows) (r ∷ rest)) ≡ true
rise_at Less key w r rows rest e below h more = and_from _ _ below (and_from _ _ (ap is_lt e) (and_parts _ _ h).1)
rise_at Equal key w r rows rest e below h more = and_from _ _ below (subst (λ (k : Key). rise_after k rows ≡ true) (sym (key_cmp_same w.key r.key e)) (and_parts _ _ h).1)
rise_at Greater key w r rows rest e below h more = and_from _ _ (and_parts _ _ h).0 (more (above w.key r.key e))

rise_after-put : (key : Key) (rows : List Keyed) (w : Keyed) → is_lt (key_cmp key w.key) ≡ true → rise_after key rows ≡ true → rise_after key (put rows w) ≡ true
rise_after-put key [] w below h = and_from _ _ below refl
rise_after-put key (r ∷ rows) w below h = rise_at (key_cmp w.key r.key) key w r rows (put rows w) refl below h (λ later. rise_after-put r.key rows w later (and_parts _ _ h).1)

first_at : (o : Ordering) (w r : Keyed) (rows rest : List Keyed) → key_cmp w.key r.key ≡ o → rise_after r.key rows ≡ true
    → (is_lt (key_cmp r.key w.key) ≡ true → rise_after r.key rest ≡ true)
    → keys_rise (match_ordering o (w ∷ r ∷ rows) (w ∷ rows) (r ∷ rest)) ≡ true
first_at Less w r rows rest e h more = and_from _ _ (ap is_lt e) h
first_at Equal w r rows rest e h more = subst (λ (k : Key). rise_after k rows ≡ true) (sym (key_cmp_same w.key r.key e)) h
first_at Greater w r rows rest e h more = more (above w.key r.key e)

pub keys_rise-put : (rows : List Keyed) (w : Keyed) → keys_rise rows ≡ true → keys_rise (put rows w) ≡ true
keys_rise-put [] w h = refl
keys_rise-put (r ∷ rows) w h = first_at (key_cmp w.key r.key) w r rows (put rows w) refl h (λ later. rise_after-put r.key rows w later h)

pub keys_rise-put_all : (rows ws : List Keyed) → keys_rise rows ≡ true → keys_rise (put_all rows ws) ≡ true
keys_rise-put_all rows [] h = h
keys_rise-put_all rows (w ∷ ws) h = keys_rise-put_all (put rows w) ws (keys_rise-put rows w h)

pub put_all-append : (rows ws vs : List Keyed) → put_all rows (ws ++ vs) ≡ put_all (put_all rows ws) vs
put_all-append rows [] vs = refl
put_all-append rows (w ∷ ws) vs = put_all-append (put rows w) ws vs

-- a row whose key is above all stands last
put_last : (rows ws : List Keyed) (w : Keyed) → keys_rise (rows ++ w ∷ ws) ≡ true → put rows w ≡ rows ++ w ∷ []
put_last [] ws w h = refl
put_last (r ∷ rows) ws w h =
    ap (λ o. match_ordering o (w ∷ r ∷ rows) (w ∷ rows) (r ∷ put rows w)) (over rows (below_all r.key (rows ++ w ∷ ws) h))
    ∙ ap (λ l. r ∷ l) (put_last rows ws w (keys_rise-tail r (rows ++ w ∷ ws) h))
  where
    over : (ys : List Keyed) → list_all (λ y. is_lt (key_cmp r.key y.key)) (ys ++ w ∷ ws) ≡ true → key_cmp w.key r.key ≡ Greater
    over [] e = key_cmp_total.antisymm w.key r.key ∙ ap ordering_reverse (less (key_cmp r.key w.key) (and_parts _ _ e).0)
    over (y ∷ ys) e = over ys (and_parts _ _ e).1

put_all-last : (rows ws : List Keyed) → keys_rise (rows ++ ws) ≡ true → put_all rows ws ≡ rows ++ ws
put_all-last rows [] h = sym (append-nil rows)
put_all-last rows (w ∷ ws) h =
    let is : (rows ++ w ∷ []) ++ ws ≡ rows ++ w ∷ ws = append_assoc rows (w ∷ []) ws in
    ap (λ l. put_all l ws) (put_last rows ws w h) ∙ put_all-last (rows ++ w ∷ []) ws (subst (λ l. keys_rise l ≡ true) (sym is) h) ∙ is

-- rows whose keys rise are in key order
pub in_key_order-rising : (rows : List Keyed) → keys_rise rows ≡ true → in_key_order rows ≡ rows
in_key_order-rising rows h = put_all-last [] rows h

-- a row that is put is found at its key, and at any other key what was there
found_at : (o : Ordering) (w r : Keyed) (rows rest : List Keyed) (k : Key) → key_cmp w.key r.key ≡ o → row_of rest k ≡ cond (key_eq w.key k) (Some w.row) (row_of rows k)
    → row_of (match_ordering o (w ∷ r ∷ rows) (w ∷ rows) (r ∷ rest)) k ≡ cond (key_eq w.key k) (Some w.row) (row_of (r ∷ rows) k)
found_at Less w r rows rest k e h = refl
found_at Equal w r rows rest k e h = subst (λ (q : Key). cond (key_eq w.key k) (Some w.row) (row_of rows k) ≡ cond (key_eq w.key k) (Some w.row) (cond (key_eq q k) (Some r.row) (row_of rows k))) (key_cmp_same w.key r.key e) (twice (key_eq w.key k))
  where
    twice : (b : Bool) → cond b (Some w.row) (row_of rows k) ≡ cond b (Some w.row) (cond b (Some r.row) (row_of rows k))
    twice true = refl
    twice false = refl
found_at Greater w r rows rest k e h =
    ap (λ o. cond (key_eq r.key k) (Some r.row) o) h ∙ ⊎_elim (λ t. ⊎_elim (λ u. absurd (both t.1 u.1)) (λ u. rw u.0 refl) (key_tells w.key k)) (λ t. rw t.0 refl) (key_tells r.key k)
  where
    both : r.key ≡ k → w.key ≡ k → ⊥
    both a b = ⊎_elim (λ t. true≢false (sym t.0 ∙ key_eq-at_Greater w.key r.key e)) (λ t. t.1 (b ∙ sym a)) (key_tells w.key r.key)

pub row_of-put : (rows : List Keyed) (w : Keyed) (k : Key) → row_of (put rows w) k ≡ cond (key_eq w.key k) (Some w.row) (row_of rows k)
row_of-put [] w k = refl
row_of-put (r ∷ rows) w k = found_at (key_cmp w.key r.key) w r rows (put rows w) k refl (row_of-put rows w k)

-- each of the rows that rise is found
pub row_of-member : (rows : List Keyed) (r : Keyed) → keys_rise rows ≡ true → IsIn r rows → row_of rows r.key ≡ Some r.row
row_of-member [] r h i = absurd i
row_of-member (q ∷ rows) r h i =
    ⊎_elim
    (λ (is : r ≡ q). subst (λ (z : Keyed). row_of (q ∷ rows) z.key ≡ Some z.row) (sym is) here)
    (λ j. ap (λ b. cond b (Some q.row) (row_of rows r.key)) (key_eq-below q.key r.key (at rows (below_all q.key rows h) j)) ∙ row_of-member rows r (keys_rise-tail q rows h) j)
    i
  where
    here : row_of (q ∷ rows) q.key ≡ Some q.row
    here = ⊎_elim (λ t. ap (λ b. cond b (Some q.row) (row_of rows q.key)) t.0) (λ t. absurd (t.1 refl)) (key_tells q.key q.key)

    at : (ys : List Keyed) → list_all (λ y. is_lt (key_cmp q.key y.key)) ys ≡ true → IsIn r ys → is_lt (key_cmp q.key r.key) ≡ true
    at [] e j = absurd j
    at (y ∷ ys) e j = ⊎_elim (λ (is : r ≡ y). subst (λ (z : Keyed). is_lt (key_cmp q.key z.key) ≡ true) (sym is) (and_parts _ _ e).0) (λ k. at ys (and_parts _ _ e).1 k) j

pub row_of-none : (rows : List Keyed) (k : Key) → ((r : Keyed) → IsIn r rows → r.key ≢ k) → row_of rows k ≡ None
row_of-none [] k h = refl
row_of-none (r ∷ rows) k h = ⊎_elim (λ t. absurd (h r (inl refl) t.1)) (λ t. rw t.0 (row_of-none rows k (λ q i. h q (inr i)))) (key_tells r.key k)

pub row_at-row_of : (rows : List Keyed) (k : Key) → row_at rows k ≡ row_or_empty (row_of rows k)
row_at-row_of [] k = refl
row_at-row_of (r ∷ rows) k = go (key_eq r.key k) (row_at-row_of rows k)
  where
    go : (b : Bool) → row_at rows k ≡ row_or_empty (row_of rows k) → cond b r.row (row_at rows k) ≡ row_or_empty (cond b (Some r.row) (row_of rows k))
    go true h = refl
    go false h = h
