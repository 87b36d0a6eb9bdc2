-- Rows in key order are told by what they have at each key.
use Rattle.std.proofs.Common.{◌≡◌, ◌≢◌, Bool, true, false, cond, List, [], ◌∷◌, map, Option, Some, None, refl, sym, ap, ap₂, ◌∙◌, subst, inl, inr, ⊎_elim, true≢false}
use Rattle.std.specs.Ordering.{is_lt, ordering_reverse}
use Rattle.std.specs.declared.cmp.Ordering.{Ordering}
use Rattle.std.specs.declared.cmp.Ordering.TheVariants.{Less, Equal, Greater}
use Rattle.std.proofs.lemmas.Bool.{and_parts, and_from}
use Rattle.std.proofs.lemmas.Option.{same_Some, none-some}
use Rattle.deneva_base.specs.Keys.{key_eq, key_cmp}
use Rattle.deneva_base.specs.Lists.{IsIn}
use Rattle.deneva_base.specs.Rising.{keys_rise, rise_after}
use Rattle.deneva_base.specs.Rows.{Row, row_of}
use Rattle.deneva_base.specs.declared.keys.Key.{Key}
use Rattle.deneva_base.specs.declared.rows.Keyed.{Keyed}
use Rattle.deneva_base.proofs.Entries.{key_cmp_same}
use Rattle.deneva_base.proofs.KeyOrder.{less, key_cmp_total, key_eq-below}
use Rattle.deneva_base.proofs.PutRows.{row_of-member, row_of-none}
use Rattle.deneva_base.proofs.RowMaps.{below_all, keys_rise-tail}
use Rattle.deneva_base.proofs.KeyOrder.{key_trans}
use Rattle.deneva_base.proofs.Membership.{key_tells}

-- other rows at the same keys are in order too
rises_after-with : (f : Keyed → Row) (key : Key) (rows : List Keyed) → rise_after key rows ≡ true → rise_after key (map (λ r. record { key = r.key; row = f r }) rows) ≡ true
rises_after-with f key [] h = refl
rises_after-with f key (r ∷ rows) h = and_from _ _ (and_parts _ _ h).0 (rises_after-with f r.key rows (and_parts _ _ h).1)

pub rises-with : (f : Keyed → Row) (rows : List Keyed) → keys_rise rows ≡ true → keys_rise (map (λ r. record { key = r.key; row = f r }) rows) ≡ true
rises-with f [] h = refl
rises-with f (r ∷ rows) h = rises_after-with f r.key rows h

-- a key below all has no row
below-more : (k q : Key) (rows : List Keyed) → is_lt (key_cmp k q) ≡ true → rise_after q rows ≡ true → rise_after k rows ≡ true
below-more k q [] below h = refl
below-more k q (r ∷ rows) below h = and_from _ _ (key_trans k q r.key below (and_parts _ _ h).0) (and_parts _ _ h).1

apart : (k q : Key) → is_lt (key_cmp k q) ≡ true → q ≢ k
apart k q below same = ⊎_elim (λ t. true≢false (sym t.0 ∙ key_eq-below k q below)) (λ t. t.1 (sym same)) (key_tells k q)

none_below : (key : Key) (rows : List Keyed) → rise_after key rows ≡ true → row_of rows key ≡ None
none_below key [] h = refl
none_below key (r ∷ rows) h =
    ⊎_elim
    (λ t. absurd (apart key r.key (and_parts _ _ h).0 t.1))
    (λ t. ap (λ b. cond b (Some r.row) (row_of rows key)) t.0 ∙ none_below key rows (below-more key r.key rows (and_parts _ _ h).0 (and_parts _ _ h).1))
    (key_tells r.key key)

found_first : (r : Keyed) (rows : List Keyed) → row_of (r ∷ rows) r.key ≡ Some r.row
found_first r rows = ⊎_elim (λ t. ap (λ b. cond b (Some r.row) (row_of rows r.key)) t.0) (λ t. absurd (t.1 refl)) (key_tells r.key r.key)

-- two lists in key order with the same row at each key are one list
pub same_rows : (rows others : List Keyed) → keys_rise rows ≡ true → keys_rise others ≡ true → ((key : Key) → row_of rows key ≡ row_of others key) → rows ≡ others
same_rows [] [] h i same = refl
same_rows [] (o ∷ others) h i same = absurd (none-some o.row (same o.key ∙ found_first o others))
same_rows (r ∷ rows) [] h i same = absurd (none-some r.row (sym (same r.key) ∙ found_first r rows))
same_rows (r ∷ rows) (o ∷ others) h i same = go (key_cmp r.key o.key) refl (λ more. same_rows rows others (keys_rise-tail r rows h) (keys_rise-tail o others i) more)
  where
    tails : r.key ≡ o.key → (key : Key) → row_of rows key ≡ row_of others key
    tails is key =
        ⊎_elim
        (λ t. subst (λ (k : Key). row_of rows k ≡ row_of others k) t.1 (none_below r.key rows h ∙ sym (none_below r.key others (subst (λ (k : Key). rise_after k others ≡ true) (sym is) i))))
        (λ t.
        ap (λ b. cond b (Some r.row) (row_of rows key)) (sym t.0)
        ∙ same key
        ∙ ap (λ b. cond b (Some o.row) (row_of others key)) (ap (λ (k : Key). key_eq k key) (sym is) ∙ t.0))
        (key_tells r.key key)

    go : (c : Ordering) → key_cmp r.key o.key ≡ c → (((key : Key) → row_of rows key ≡ row_of others key) → rows ≡ others) → r ∷ rows ≡ o ∷ others
    go Less e more = absurd (none-some r.row (sym (none_below r.key (o ∷ others) (and_from _ _ (ap is_lt e) i)) ∙ sym (same r.key) ∙ found_first r rows))
    go Equal e more =
        let is : r.key ≡ o.key = key_cmp_same r.key o.key e in
        let row : r.row ≡ o.row = same_Some _ _ (sym (found_first r rows) ∙ same r.key ∙ subst (λ (k : Key). row_of (o ∷ others) k ≡ Some o.row) (sym is) (found_first o others)) in
        ap₂ (λ (q : Keyed) l. q ∷ l) (λ j. record { key = is j; row = row j }) (more (tails is))
    go Greater e more = absurd (none-some o.row (sym (none_below o.key (r ∷ rows) (and_from _ _ (ap is_lt (key_cmp_total.antisymm o.key r.key ∙ ap ordering_reverse e)) h)) ∙ same o.key ∙ found_first o others))
