-- The lower end that the table gives is the rule's.
use Rattle.std.proofs.Common.{◌≡◌, ◌⊎◌, ℕ, suc, ◌≤◌, ◌<◌, max, List, [], ◌∷◌, map, filter, Bool, true, false, eqb, ltb, cond, refl, sym, ap, ◌∙◌, subst, inl, inr, ⊎_elim, arith, Option, Some, None}
use Rattle.std.proofs.lemmas.Bool.Decides.{nat_tests}
use Rattle.deneva_base.specs.declared.keys.Key.{Key}
use Rattle.deneva_base.specs.declared.numbers.Attempt.{Attempt}
use Rattle.deneva_base.specs.declared.causes.Bound.{Bound}
use Rattle.deneva_base.specs.declared.rows.Keyed.{Keyed}
use Rattle.deneva_base.specs.Lists.{IsIn, greatest_by}
use Rattle.deneva_base.specs.Rows.{Rows}
use Rattle.deneva_base.specs.Modes.{reads}
use Rattle.deneva_base.specs.Keys.{key_lt}
use Rattle.protocol_rules.specs.History.{History, Grant, Yea, grants, yeas, IsUnended}
use Rattle.protocol_rules.specs.Ranged.{lists, past, low_of, low, least_or, lo_key}
use Rattle.deneva_base.proofs.Membership.{in_map, in_map_from, in_filter, filter_in, attempt_decides, attempt_tells}
use Rattle.protocol_rules.proofs.Belows.{greatest_le}
use Rattle.protocol_rules.proofs.Timestamps.{top_by}
use Rattle.range_control.specs.Ends.{lower_before, first_by, lower_end}
use Rattle.range_control.specs.Accesses.{past_over, own_in, low_in}
use Rattle.shelf.specs.Shelves.{held}
use Rattle.range_control.specs.Standing.{State, held_of, Tracks}
use Rattle.range_control.proofs.Firsts.{First, first_some, first_none, some_is, lowers_ordered}
use Rattle.range_control.proofs.Leasts.{first_key_is}
use Rattle.range_control.proofs.Holders.{own, past_is}

-- what a key asks of the lower end
abbrev pub low_key : State → Attempt → List Keyed → Key → ℕ
low_key s who ws key = low_in (lists ws key) (past_over (s.lines key)) (own_in who (s.lines key).held)

abbrev pub best_low : State → Attempt → List Keyed → Option Bound
best_low s who ws = first_by lower_before (λ key. Some (record { n = low_key s who ws key; key = key })) None (held s.shelf who).keys

not_over : (b c : Bound) → lower_before b c ≡ false → b.n ≤ c.n
not_over b c e = grind (arith, nat_tests, e)

not_before : (b c : Bound) → lower_before b c ≡ false → b.n ≡ c.n → key_lt b.key c.key ≡ false
not_before b c e f = grind (arith, nat_tests, e, f)

pub eqb_same : (n m : ℕ) → n ≡ m → eqb n m ≡ true
eqb_same n m e = grind (arith, nat_tests, e)

pub eqb_apart : (n m : ℕ) → n < m → eqb n m ≡ false
eqb_apart n m e = grind (arith, nat_tests, e)

pub same_eqb : (n m : ℕ) → eqb n m ≡ true → n ≡ m
same_eqb n m e = grind (arith, nat_tests, e)

pub none_of : {A : Type 0} (p : A → Bool) (xs : List A) → ((x : A) → IsIn x xs → p x ≡ false) → filter p xs ≡ []
none_of p [] n = refl
none_of p (x ∷ xs) n = rw (n x (inl refl)) (none_of p xs (λ y i. n y (inr i)))

module _ (loaded : Rows) (h : History) (s : State) (t : Tracks loaded s h) (one : (a b : Yea) → IsIn a (yeas h) → IsIn b (yeas h) → a.who ≡ b.who → a ≡ b) (granted_once : (a b : Grant) → IsIn a (grants h) → IsIn b (grants h) → a.who ≡ b.who → a.key ≡ b.key → a ≡ b) (who : Attempt) (unended : IsUnended h who) (ws : List Keyed) where
  -- an access asks for what the rule says
  asks_same : (key : Key) (g : Grant) → g.who ≡ who → g.key ≡ key → own_in who (s.lines key).held ≡ Some (held_of h g) → low_key s who ws key ≡ low_of h who ws g
  asks_same key g w k e =
      ap (low_in (lists ws key) (past_over (s.lines key))) e
      ∙ ap (λ p. max (cond (reads g.mode) (suc g.version.n) 0) (cond (lists ws key) p 0)) (past_is loaded h s t one key)
      ∙ ap (λ q. max (cond (reads g.mode) (suc g.version.n) 0) (cond (lists ws q) (past h q) 0)) (sym k)
      ∙ sym (ap (λ b. cond b (max (cond (reads g.mode) (suc g.version.n) 0) (cond (lists ws g.key) (past h g.key) 0)) 0) ((attempt_decides g.who who).1 w))

  -- each key asks for nothing, or for what an access of the attempt does
  from_grant : (key : Key) → (low_key s who ws key ≡ 0) ⊎ ((g : Grant) × IsIn g (grants h) × (g.key ≡ key) × (low_key s who ws key ≡ low_of h who ws g))
  from_grant key = ⊎_elim
      (λ o. inr (o.0, o.1, o.3, asks_same key o.0 o.2 o.3 o.4))
      (λ n. inl (ap (low_in (lists ws key) (past_over (s.lines key))) n.0))
      (own loaded h s t who unended key)

  pub low_below : (key : Key) → low_key s who ws key ≤ greatest_by (low_of h who ws) (grants h)
  low_below key = ⊎_elim (λ z. omega (arith, z)) (λ g. omega (arith, g.3, top_by (low_of h who ws) g.0 (grants h) g.1)) (from_grant key)

  -- and each access is at a key of the attempt
  from_key : (g : Grant) → IsIn g (grants h) → (low_of h who ws g ≡ 0) ⊎ (IsIn g.key (held s.shelf who).keys × (low_key s who ws g.key ≡ low_of h who ws g))
  from_key g i = ⊎_elim
      (λ w. inr (
        subst (λ a. IsIn g.key (held s.shelf a).keys) w.1 (t.kept.noted g i (subst (λ a. IsUnended h a) (sym w.1) unended)),
        ⊎_elim
            (λ o. asks_same g.key o.0 o.2 o.3 o.4 ∙ ap (low_of h who ws) (granted_once o.0 g o.1 i (o.2 ∙ sym w.1) o.3))
            (λ n. absurd (n.1 g i w.1 refl))
            (own loaded h s t who unended g.key),
      ))
      (λ f. inl (ap (λ b. cond b (max (cond (reads g.mode) (suc g.version.n) 0) (cond (lists ws g.key) (past h g.key) 0)) 0) f.0))
      (attempt_tells g.who who)

  abbrev with_n : ℕ → Key → Bound
  with_n n key = record { n = n; key = key }

  -- the best is the greatest that an access asks for, under the least key
  record Best (b : Bound) : Type 0 where
    n : b.n ≡ greatest_by (low_of h who ws) (grants h)
    key : 1 ≤ b.n → (g : Grant) × IsIn g (grants h) × (g.key ≡ b.key) × (low_of h who ws g ≡ b.n)
    least : (g : Grant) → IsIn g (grants h) → 1 ≤ b.n → low_of h who ws g ≡ b.n → key_lt g.key b.key ≡ false

  best_of : (b : Bound) → First lower_before (λ key. Some (with_n (low_key s who ws key) key)) None (held s.shelf who).keys b → Best b
  best_of b f = record {
    n = omega (arith, at_most, at_least);
    key = λ pos. ⊎_elim
        (λ z. absurd (omega (arith, pos, z, ap (λ (x : Bound). x.n) there.2)))
        (λ g. (g.0, g.1, g.2 ∙ ap (λ (x : Bound). x.key) there.2, sym g.3 ∙ ap (λ (x : Bound). x.n) there.2))
        (from_grant there.0);
    least = λ g i pos e. ⊎_elim
        (λ z. absurd (omega (arith, pos, e, z)))
        (λ k. not_before (with_n (low_key s who ws g.key) g.key) b (f.none_before g.key (with_n (low_key s who ws g.key) g.key) k.0 refl) (k.1 ∙ e))
        (from_key g i);
  }
    where
      there : (k : Key) × IsIn k (held s.shelf who).keys × (with_n (low_key s who ws k) k ≡ b)
      there = ⊎_elim (λ z. absurd (cc (z))) (λ k. (k.0, k.1, some_is (with_n (low_key s who ws k.0) k.0) b k.2)) f.from

      at_most : b.n ≤ greatest_by (low_of h who ws) (grants h)
      at_most = omega (arith, low_below there.0, ap (λ (x : Bound). x.n) there.2)

      at_least : greatest_by (low_of h who ws) (grants h) ≤ b.n
      at_least = greatest_le (low_of h who ws) b.n (grants h) (λ g i. ⊎_elim
          (λ z. omega (arith, z))
          (λ k. omega (arith, k.1, not_over (with_n (low_key s who ws g.key) g.key) b (f.none_before g.key (with_n (low_key s who ws g.key) g.key) k.0 refl)))
          (from_key g i))

  module _ (bound : Bound) (b : Bound) (best : Best b) where
    -- the best is above the bound
    above : bound.n < b.n → b ≡ record { n = low h who bound ws; key = lo_key h bound (low_of h who ws) (low h who bound ws) }
    above less =
        let n : b.n ≡ low h who bound ws = omega (arith, best.n, less) in
        let pos : 1 ≤ b.n = omega (arith, less) in
        let g = best.key pos in
        let listed : IsIn b.key (map (λ (x : Grant). x.key) (filter (λ x. eqb (low_of h who ws x) (low h who bound ws)) (grants h))) =
        subst (λ k. IsIn k (map (λ (x : Grant). x.key) (filter (λ x. eqb (low_of h who ws x) (low h who bound ws)) (grants h)))) g.2
        (in_map (λ (x : Grant). x.key) g.0 (filter (λ x. eqb (low_of h who ws x) (low h who bound ws)) (grants h))
        (in_filter (λ x. eqb (low_of h who ws x) (low h who bound ws)) g.0 (grants h) g.1 (eqb_same (low_of h who ws g.0) (low h who bound ws) (g.3 ∙ n)))) in
        let first = first_key_is bound.key (map (λ (x : Grant). x.key) (filter (λ x. eqb (low_of h who ws x) (low h who bound ws)) (grants h))) b.key listed
        (λ q i.
        let m = in_map_from (λ (x : Grant). x.key) q (filter (λ x. eqb (low_of h who ws x) (low h who bound ws)) (grants h)) i in
        let f = filter_in (λ x. eqb (low_of h who ws x) (low h who bound ws)) m.0 (grants h) m.1 in
        subst (λ k. key_lt k b.key ≡ false) (sym m.2) (best.least m.0 f.0 pos (same_eqb (low_of h who ws m.0) (low h who bound ws) f.1 ∙ sym n))) in
        let key : lo_key h bound (low_of h who ws) (low h who bound ws) ≡ b.key = rw (eqb_apart bound.n (low h who bound ws) (omega (arith, less, n))) first in
        λ i. record { n = n i; key = sym key i }

    -- the bound is at least the best
    below : b.n ≤ bound.n → with_n (max 1 bound.n) bound.key ≡ record { n = low h who bound ws; key = lo_key h bound (low_of h who ws) (low h who bound ws) }
    below less =
        let n : max 1 bound.n ≡ low h who bound ws = omega (arith, best.n, less) in
        let key : lo_key h bound (low_of h who ws) (low h who bound ws) ≡ bound.key = go (eqb bound.n (low h who bound ws)) refl in
        λ i. record { n = n i; key = sym key i }
      where
        go : (t : Bool) → eqb bound.n (low h who bound ws) ≡ t → cond t bound.key (least_or key_lt bound.key (map (λ (g : Grant). g.key) (filter (λ g. eqb (low_of h who ws g) (low h who bound ws)) (grants h)))) ≡ bound.key
        go true e = refl
        go false e =
            let zero : bound.n < low h who bound ws = grind (arith, nat_tests, e) in
            ap (λ gs. least_or key_lt bound.key (map (λ (g : Grant). g.key) gs)) (none_of (λ g. eqb (low_of h who ws g) (low h who bound ws)) (grants h)
            (λ g i. eqb_apart (low_of h who ws g) (low h who bound ws) (omega (arith, zero, less, best.n, top_by (low_of h who ws) g (grants h) i))))

  pub lower_is : (bound : Bound) → ((g : Grant) × IsIn g (grants h) × (g.who ≡ who)) → lower_end bound (best_low s who ws) ≡ record { n = low h who bound ws; key = lo_key h bound (low_of h who ws) (low h who bound ws) }
  lower_is bound something = go (best_low s who ws) refl
    where
      some : (b : Bound) → Best b → (c : Bool) → ltb bound.n b.n ≡ c → cond c b (with_n (max 1 bound.n) bound.key) ≡ record { n = low h who bound ws; key = lo_key h bound (low_of h who ws) (low h who bound ws) }
      some b best true e = above bound b best (grind (arith, nat_tests, e))
      some b best false e = below bound b best (grind (arith, nat_tests, e))

      go : (o : Option Bound) → best_low s who ws ≡ o → lower_end bound o ≡ record { n = low h who bound ws; key = lo_key h bound (low_of h who ws) (low h who bound ws) }
      go None e =
          let g = something in
          let n = first_none lower_before lowers_ordered (λ key. Some (with_n (low_key s who ws key) key)) None (held s.shelf who).keys e in
          absurd (cc (n.1 g.0.key (subst (λ a. IsIn g.0.key (held s.shelf a).keys) g.2 (t.kept.noted g.0 g.1 (subst (λ a. IsUnended h a) (sym g.2) unended)))))
      go (Some b) e = some b (best_of b (first_some lower_before lowers_ordered (λ key. Some (with_n (low_key s who ws key) key)) None (held s.shelf who).keys b e)) (ltb bound.n b.n) refl
