-- The upper end that the table gives is the rule's.
use Rattle.std.proofs.Common.{◌≡◌, ◌⊎◌, ℕ, ◌-◌, ◌^◌, ◌≤◌, ◌<◌, List, [], ◌∷◌, ◌++◌, map, filter, reverse, Bool, true, false, not, ◌&&◌, eqb, ltb, cond, refl, sym, ap, ◌∙◌, subst, inl, inr, ⊎_elim, arith, Option, Some, None, true≢false}
use Rattle.std.proofs.lemmas.Bool.Decides.{nat_tests}
use Rattle.deneva_base.specs.declared.keys.Key.{Key}
use Rattle.deneva_base.specs.declared.numbers.Attempt.{Attempt}
use Rattle.deneva_base.specs.declared.rows.Keyed.{Keyed}
use Rattle.deneva_base.specs.Lists.{IsIn, least_by}
use Rattle.deneva_base.specs.Rows.{Rows}
use Rattle.deneva_base.specs.Modes.{reads}
use Rattle.deneva_base.specs.Keys.{key_eq, attempt_eq, attempt_lt, number_lt}
use Rattle.protocol_rules.specs.History.{History, Grant, Yea, Decided, grants, yeas, decided, IsUnended}
use Rattle.protocol_rules.specs.Latest.{has_ended}
use Rattle.protocol_rules.specs.Ranged.{lists, wrote, limits_prepared, under_prepared, limits_committed, under_committed, high, least_or, gives_prepared, gives_committed, hi_by}
use Rattle.deneva_base.proofs.Membership.{in_left, in_right, in_cases, in_map, in_map_from, in_filter, filter_in, any_at, any_found, and_true, and_parts, key_decides, attempt_decides}
use Rattle.protocol_rules.proofs.Unended.{not_ended, is_unended}
use Rattle.protocol_rules.proofs.Sound.{Sound}
use Rattle.protocol_rules.proofs.Rangeds.{bottom_by}
use Rattle.range_control.specs.declared.ends.Upper.{Upper}
use Rattle.range_control.specs.declared.accesses.Window.{Window}
use Rattle.range_control.specs.Ends.{upper_before, first_by, upper_end}
use Rattle.range_control.specs.Accesses.{own_in, under, left_by, upper_in}
use Rattle.shelf.specs.Shelves.{held}
use Rattle.range_control.specs.Standing.{State, under_decided, window_in, held_of, Tracks}
use Rattle.range_control.proofs.Firsts.{first_some, first_none, first_leaves, first_keeps, some_is, uppers_ordered}
use Rattle.range_control.proofs.Leasts.{first_attempt_is}
use Rattle.range_control.proofs.Histories.{InRange, least_most, least_ge}
use Rattle.range_control.proofs.Holders.{own, listed, real, in_reverse, reverse_in, window_of, window_some, window_found}
use Rattle.range_control.proofs.Lowering.{eqb_same, same_eqb}

-- the upper end of the attempt's access to a key
abbrev pub upper_key : State → Attempt → Key → Option Upper
upper_key s who key = upper_in (s.lines key).held (own_in who (s.lines key).held)

abbrev pub best_upper : State → Attempt → Option Upper
best_upper s who = first_by upper_before (upper_key s who) None (held s.shelf who).keys

-- what limits an access, and to which end
abbrev prepared_end : Yea → Upper
prepared_end y = record { n = y.lo - 1; by = y.who }

abbrev window_end : Window → Attempt → Upper
window_end w by = record { n = w.lo - 1; by = by }

abbrev committed_end : Decided → Upper
committed_end d = record { n = d.number.n - 1; by = d.who }

-- it gives this upper end
abbrev Gives : History → Attempt → Upper → Type 0
Gives h who u =
    ((g : Grant) × (y : Yea) × IsIn g (grants h) × IsIn y (yeas h) × (limits_prepared h who g y ≡ true) × (u ≡ prepared_end y))
    ⊎ ((g : Grant) × (d : Decided) × IsIn g (grants h) × IsIn d (decided h) × (limits_committed h who g d ≡ true) × (u ≡ committed_end d))

not_over : (u v : Upper) → upper_before v u ≡ false → u.n ≤ v.n
not_over u v e = grind (arith, nat_tests, e)

not_before : (u v : Upper) → upper_before v u ≡ false → v.n ≡ u.n → attempt_lt v.by u.by ≡ false
not_before u v e f = grind (arith, nat_tests, e, f)

module _ (loaded : Rows) (h : History) (s : State) (t : Tracks loaded s h) (sound : Sound loaded h) (granted_once : (a b : Grant) → IsIn a (grants h) → IsIn b (grants h) → a.who ≡ b.who → a.key ≡ b.key → a ≡ b) (who : Attempt) (unended : IsUnended h who) where
  -- what an upper end of a key comes from
  from_key : (key : Key) (u : Upper) → upper_key s who key ≡ Some u → Gives h who u
  from_key key u e = ⊎_elim
      (λ o. access o.0 o.1 o.2 o.3 (reads o.0.mode) refl (ap (upper_in (s.lines key).held) (sym o.4) ∙ e))
      (λ n. absurd (cc (ap (upper_in (s.lines key).held) (sym n.0) ∙ e)))
      (own loaded h s t who unended key)
    where
      -- a prepared access
      prepared : (g : Grant) → IsIn g (grants h) → g.who ≡ who → g.key ≡ key → reads g.mode ≡ true → (x : Grant) → IsUnended h x.who → x.key ≡ key → (o : Option Window) → window_in (yeas h) x.who key ≡ o → (b : Bool) → attempt_eq x.who g.who ≡ b → cond b None (under o g.version x.who) ≡ Some u → Gives h who u
      prepared g i w k r x ux kx None f b z eq = absurd (none b eq)
        where
          none : (b : Bool) → cond b None None ≡ Some u → ⊥
          none true q = cc q
          none false q = cc q
      prepared g i w k r x ux kx (Some win) f true z eq = absurd (cc eq)
      prepared g i w k r x ux kx (Some win) f false z eq = go (win.writes && ltb g.version.n win.hi) refl eq
        where
          go : (b : Bool) → (win.writes && ltb g.version.n win.hi) ≡ b → cond b (Some (window_end win x.who)) None ≡ Some u → Gives h who u
          go false q eq' = absurd (cc eq')
          go true q eq' =
              let y = window_found (yeas h) x.who key win f in
              let other : attempt_eq y.0.who who ≡ false = ap (λ a. attempt_eq a who) y.1 ∙ ap (attempt_eq x.who) (sym w) ∙ z in
              let test : (lists y.0.writes g.key && ltb g.version.n y.0.hi) ≡ true =
              ap (λ q'. lists y.0.writes q' && ltb g.version.n y.0.hi) k ∙ ap (λ (v : Window). v.writes && ltb g.version.n v.hi) y.3 ∙ q in
              inl (
                g,
                y.0,
                i,
                y.2,
                and_true (attempt_eq g.who who) (reads g.mode && (not (attempt_eq y.0.who who) && (not (has_ended h y.0.who) && (lists y.0.writes g.key && ltb g.version.n y.0.hi)))) ((attempt_decides g.who who).1 w)
                    (and_true (reads g.mode) (not (attempt_eq y.0.who who) && (not (has_ended h y.0.who) && (lists y.0.writes g.key && ltb g.version.n y.0.hi))) r
                    (and_true (not (attempt_eq y.0.who who)) (not (has_ended h y.0.who) && (lists y.0.writes g.key && ltb g.version.n y.0.hi)) (ap not other)
                    (and_true (not (has_ended h y.0.who)) (lists y.0.writes g.key && ltb g.version.n y.0.hi) (not_ended h y.0.who (subst (λ a. IsUnended h a) (sym y.1) ux)) test))),
                sym (some_is (window_end win x.who) u eq') ∙ (λ j. record { n = ap (λ (v : Window). v.lo - 1) (sym y.3) j; by = sym y.1 j }),
              )

      -- a committed one
      committed : (g : Grant) → IsIn g (grants h) → g.who ≡ who → (d : Decided) → IsIn d (decided h) → (b : Bool) → (reads g.mode && (wrote h d.who g.key && number_lt g.version d.number)) ≡ b → cond b (Some (committed_end d)) None ≡ Some u → Gives h who u
      committed g i w d j false q eq = absurd (cc eq)
      committed g i w d j true q eq = inr (
        g,
        d,
        i,
        j,
        and_true (attempt_eq g.who who) (reads g.mode && (wrote h d.who g.key && number_lt g.version d.number)) ((attempt_decides g.who who).1 w) q,
        sym (some_is (committed_end d) u eq),
      )

      access : (g : Grant) → IsIn g (grants h) → g.who ≡ who → g.key ≡ key → (b : Bool) → reads g.mode ≡ b → cond b (first_by upper_before (left_by g.who g.version) (held_of h g).upper (s.lines key).held) None ≡ Some u → Gives h who u
      access g i w k false r eq = absurd (cc eq)
      access g i w k true r eq =
          let f = first_some upper_before uppers_ordered (left_by g.who g.version) (held_of h g).upper (s.lines key).held u eq in
          ⊎_elim
          (λ c.
          let d = (first_some upper_before uppers_ordered (under_decided h g) None (reverse (decided h)) u c).from in
          ⊎_elim (λ z. absurd (cc z)) (λ z. committed g i w z.0 (reverse_in z.0 (decided h) z.1) (reads g.mode && (wrote h z.0.who g.key && number_lt g.version z.0.number)) refl z.2) d)
          (λ a.
          let x = real loaded h s t key a.0 a.1 in
          prepared g i w k r x.0 x.2 x.3 (window_in (yeas h) x.0.who key) refl (attempt_eq x.0.who g.who) refl
          (ap (λ q. cond (attempt_eq x.0.who g.who) None (under (window_in (yeas h) x.0.who q) g.version x.0.who)) (sym x.3) ∙ ap (left_by g.who g.version) (sym x.4) ∙ a.2))
          f.from

  own_is : (g : Grant) → IsIn g (grants h) → g.who ≡ who → own_in who (s.lines g.key).held ≡ Some (held_of h g)
  own_is g i w = ⊎_elim
      (λ o. o.4 ∙ ap (λ x. Some (held_of h x)) (granted_once o.0 g o.1 i (o.2 ∙ sym w) o.3))
      (λ n. absurd (n.1 g i w refl))
      (own loaded h s t who unended g.key)

  noted : (g : Grant) → IsIn g (grants h) → g.who ≡ who → IsIn g.key (held s.shelf who).keys
  noted g i w = subst (λ a. IsIn g.key (held s.shelf a).keys) w (t.kept.noted g i (subst (λ a. IsUnended h a) (sym w) unended))

  upper_is : (g : Grant) → IsIn g (grants h) → g.who ≡ who → reads g.mode ≡ true → upper_key s who g.key ≡ first_by upper_before (left_by g.who g.version) (held_of h g).upper (s.lines g.key).held
  upper_is g i w r = ap (upper_in (s.lines g.key).held) (own_is g i w) ∙ ap (λ b. cond b (first_by upper_before (left_by g.who g.version) (held_of h g).upper (s.lines g.key).held) None) r

  -- what limits an access of the attempt is no less than what one of its keys gives
  reaches : (v : Upper) → Gives h who v → (x : Upper) × (k : Key) × IsIn k (held s.shelf who).keys × (upper_key s who k ≡ Some x) × (upper_before v x ≡ false)
  reaches v gives = ⊎_elim (λ p. prepared p.0 p.1 p.2 p.3 p.4 p.5) (λ p. committed p.0 p.1 p.2 p.3 p.4 p.5) gives
    where
      prepared : (g : Grant) (y : Yea) → IsIn g (grants h) → IsIn y (yeas h) → limits_prepared h who g y ≡ true → v ≡ prepared_end y → (x : Upper) × (k : Key) × IsIn k (held s.shelf who).keys × (upper_key s who k ≡ Some x) × (upper_before v x ≡ false)
      prepared g y i j test e =
          let p0 = and_parts (attempt_eq g.who who) (reads g.mode && (not (attempt_eq y.who who) && (not (has_ended h y.who) && (lists y.writes g.key && ltb g.version.n y.hi)))) test in
          let p1 = and_parts (reads g.mode) (not (attempt_eq y.who who) && (not (has_ended h y.who) && (lists y.writes g.key && ltb g.version.n y.hi))) p0.1 in
          let p2 = and_parts (not (attempt_eq y.who who)) (not (has_ended h y.who) && (lists y.writes g.key && ltb g.version.n y.hi)) p1.1 in
          let p3 = and_parts (not (has_ended h y.who)) (lists y.writes g.key && ltb g.version.n y.hi) p2.1 in
          let p4 = and_parts (lists y.writes g.key) (ltb g.version.n y.hi) p3.1 in
          let w : g.who ≡ who = (attempt_decides g.who who).0 p0.0 in
          let f = any_found (λ (x : Keyed). key_eq x.key g.key) y.writes p4.0 in
          let o = sound.holds y f.0 j f.1 in
          let at : o.0.key ≡ g.key = o.3 ∙ (key_decides f.0.key g.key).0 f.2 in
          let there : IsIn (held_of h o.0) (s.lines g.key).held = subst (λ k. IsIn (held_of h o.0) (s.lines k).held) at (listed loaded h s t o.0 o.1 (subst (λ a. IsUnended h a) (sym o.2) (is_unended h y.who p3.0))) in
          let window : window_in (yeas h) o.0.who o.0.key ≡ Some (window_of y g.key) = ap (λ a. window_in (yeas h) a o.0.key) o.2 ∙ ap (window_in (yeas h) y.who) at ∙ window_some (yeas h) y g.key sound.one j in
          let other : attempt_eq o.0.who g.who ≡ false = ap (λ a. attempt_eq a g.who) o.2 ∙ ap (attempt_eq y.who) w ∙ flip (attempt_eq y.who who) p2.0 in
          let limits : left_by g.who g.version (held_of h o.0) ≡ under (window_in (yeas h) o.0.who o.0.key) g.version o.0.who = ap (λ b. cond b None (under (window_in (yeas h) o.0.who o.0.key) g.version o.0.who)) other in
          let at_window : under (window_in (yeas h) o.0.who o.0.key) g.version o.0.who ≡ under (Some (window_of y g.key)) g.version o.0.who = ap (λ win. under win g.version o.0.who) window in
          let at_end : under (Some (window_of y g.key)) g.version o.0.who ≡ Some (window_end (window_of y g.key) o.0.who) = ap (λ b. cond b (Some (window_end (window_of y g.key) o.0.who)) None) p3.1 in
          let end_is : Some (window_end (window_of y g.key) o.0.who) ≡ Some v = ap (λ a. Some (window_end (window_of y g.key) a)) o.2 ∙ ap (λ z. Some z) (sym e) in
          let left : left_by g.who g.version (held_of h o.0) ≡ Some v = limits ∙ (at_window ∙ (at_end ∙ end_is)) in
          let r = first_leaves upper_before uppers_ordered (left_by g.who g.version) (held_of h g).upper (s.lines g.key).held (held_of h o.0) v there left in
          (r.0, g.key, noted g i w, upper_is g i w p1.0 ∙ r.1, r.2)
        where
          flip : (b : Bool) → not b ≡ true → b ≡ false
          flip true q = absurd (true≢false (sym q))
          flip false q = refl

      committed : (g : Grant) (d : Decided) → IsIn g (grants h) → IsIn d (decided h) → limits_committed h who g d ≡ true → v ≡ committed_end d → (x : Upper) × (k : Key) × IsIn k (held s.shelf who).keys × (upper_key s who k ≡ Some x) × (upper_before v x ≡ false)
      committed g d i j test e =
          let p0 = and_parts (attempt_eq g.who who) (reads g.mode && (wrote h d.who g.key && number_lt g.version d.number)) test in
          let p1 = and_parts (reads g.mode) (wrote h d.who g.key && number_lt g.version d.number) p0.1 in
          let w : g.who ≡ who = (attempt_decides g.who who).0 p0.0 in
          let left : under_decided h g d ≡ Some v = ap (λ b. cond b (Some (committed_end d)) None) p0.1 ∙ ap (λ z. Some z) (sym e) in
          let q = first_leaves upper_before uppers_ordered (under_decided h g) None (reverse (decided h)) d v (in_reverse d (decided h) j) left in
          let r = first_keeps upper_before uppers_ordered (left_by g.who g.version) (s.lines g.key).held q.0 in (
            r.0,
            g.key,
            noted g i w,
            upper_is g i w p1.0 ∙ ap (λ o. first_by upper_before (left_by g.who g.version) o (s.lines g.key).held) q.1 ∙ r.1,
            uppers_ordered.trans v q.0 r.0 q.2 r.2,
          )

  -- the best is one of them, and none is before it
  best_gives : (u : Upper) → best_upper s who ≡ Some u → Gives h who u
  best_gives u e = ⊎_elim (λ z. absurd (cc z)) (λ k. from_key k.0 u k.2) (first_some upper_before uppers_ordered (upper_key s who) None (held s.shelf who).keys u e).from

  best_first : (u v : Upper) → best_upper s who ≡ Some u → Gives h who v → upper_before v u ≡ false
  best_first u v e gives =
      let r = reaches v gives in
      uppers_ordered.trans v r.0 u r.4 ((first_some upper_before uppers_ordered (upper_key s who) None (held s.shelf who).keys u e).none_before r.1 r.0 r.2 r.3)

  best_none : (v : Upper) → best_upper s who ≡ None → Gives h who v → ⊥
  best_none v e gives =
      let r = reaches v gives in
      cc (sym r.3 ∙ (first_none upper_before uppers_ordered (upper_key s who) None (held s.shelf who).keys e).1 r.1 r.2)

  module _ (ranges : (y : Yea) → IsIn y (yeas h) → InRange y) (numbers : (d : Decided) → IsIn d (decided h) → d.number.n < 2 ^ 48) where
    small : (u : Upper) → Gives h who u → u.n < 2 ^ 63
    small u gives = ⊎_elim
        (λ p. let r = ranges p.1 p.3 in omega (arith, r.positive, r.low, ap (λ (z : Upper). z.n) p.5))
        (λ p. omega (arith, numbers p.1 p.3, ap (λ (z : Upper). z.n) p.5))
        gives

    -- what one pair gives
    prepared_n : (g : Grant) (y : Yea) → IsIn g (grants h) → IsIn y (yeas h) → (Gives h who (prepared_end y) × (under_prepared h who g y ≡ y.lo - 1)) ⊎ (under_prepared h who g y ≡ 2 ^ 63)
    prepared_n g y i j = go (limits_prepared h who g y) refl
      where
        go : (b : Bool) → limits_prepared h who g y ≡ b → (Gives h who (prepared_end y) × (cond b (y.lo - 1) (2 ^ 63) ≡ y.lo - 1)) ⊎ (cond b (y.lo - 1) (2 ^ 63) ≡ 2 ^ 63)
        go true e = inl (inl (g, y, i, j, e, refl), refl)
        go false e = inr refl

    committed_n : (g : Grant) (d : Decided) → IsIn g (grants h) → IsIn d (decided h) → (Gives h who (committed_end d) × (under_committed h who g d ≡ d.number.n - 1)) ⊎ (under_committed h who g d ≡ 2 ^ 63)
    committed_n g d i j = go (limits_committed h who g d) refl
      where
        go : (b : Bool) → limits_committed h who g d ≡ b → (Gives h who (committed_end d) × (cond b (d.number.n - 1) (2 ^ 63) ≡ d.number.n - 1)) ⊎ (cond b (d.number.n - 1) (2 ^ 63) ≡ 2 ^ 63)
        go true e = inl (inr (g, d, i, j, e, refl), refl)
        go false e = inr refl

    -- a number that none is below
    high_ge : (m : ℕ) → m ≤ 2 ^ 63 → ((v : Upper) → Gives h who v → m ≤ v.n) → m ≤ high h who
    high_ge m most all =
        let a = least_ge (λ g. least_by (under_prepared h who g) (yeas h)) m (grants h) most (λ g i. least_ge (under_prepared h who g) m (yeas h) most (λ y j. ⊎_elim (λ p. omega (arith, p.1, all (prepared_end y) p.0)) (λ e. omega (arith, e, most)) (prepared_n g y i j))) in
        let b = least_ge (λ g. least_by (under_committed h who g) (decided h)) m (grants h) most (λ g i. least_ge (under_committed h who g) m (decided h) most (λ d j. ⊎_elim (λ p. omega (arith, p.1, all (committed_end d) p.0)) (λ e. omega (arith, e, most)) (committed_n g d i j))) in
        omega (arith, a, b)

    high_most : high h who ≤ 2 ^ 63
    high_most = omega (arith, least_most (λ (g : Grant). least_by (under_prepared h who g) (yeas h)) (grants h))

    -- is at most what one gives
    high_le : (v : Upper) → Gives h who v → high h who ≤ v.n
    high_le v gives = ⊎_elim
        (λ p. omega (
          arith,
          bottom_by (λ (g : Grant). least_by (under_prepared h who g) (yeas h)) p.0 (grants h) p.2,
          bottom_by (under_prepared h who p.0) p.1 (yeas h) p.3,
          ap (λ b. cond b (p.1.lo - 1) (2 ^ 63)) p.4,
          ap (λ (z : Upper). z.n) p.5,
        ))
        (λ p. omega (
          arith,
          bottom_by (λ (g : Grant). least_by (under_committed h who g) (decided h)) p.0 (grants h) p.2,
          bottom_by (under_committed h who p.0) p.1 (decided h) p.3,
          ap (λ b. cond b (p.1.number.n - 1) (2 ^ 63)) p.4,
          ap (λ (z : Upper). z.n) p.5,
        ))
        gives

    high_some : (u : Upper) → best_upper s who ≡ Some u → high h who ≡ u.n
    high_some u e =
        let gives = best_gives u e in
        let ge = high_ge u.n (omega (arith, small u gives)) (λ v g. not_over u v (best_first u v e g)) in
        omega (arith, ge, high_le u gives)

    high_none : best_upper s who ≡ None → high h who ≡ 2 ^ 63
    high_none e = let ge = high_ge (2 ^ 63) (omega arith) (λ v g. absurd (best_none v e g)) in omega (arith, ge, high_most)

    -- those that give an upper end
    abbrev names : ℕ → List Attempt
    names hi = map (λ (y : Yea). y.who) (filter (gives_prepared h who hi) (yeas h)) ++ map (λ (d : Decided). d.who) (filter (gives_committed h who hi) (decided h))

    prepared_named : (hi : ℕ) (g : Grant) (y : Yea) → IsIn g (grants h) → IsIn y (yeas h) → limits_prepared h who g y ≡ true → y.lo - 1 ≡ hi → IsIn y.who (names hi)
    prepared_named hi g y i j t e =
        in_left y.who (map (λ (z : Yea). z.who) (filter (gives_prepared h who hi) (yeas h))) (map (λ (d : Decided). d.who) (filter (gives_committed h who hi) (decided h)))
        (in_map (λ (z : Yea). z.who) y (filter (gives_prepared h who hi) (yeas h)) (in_filter (gives_prepared h who hi) y (yeas h) j (any_at (λ x. limits_prepared h who x y && eqb (y.lo - 1) hi) g (grants h) i (and_true (limits_prepared h who g y) (eqb (y.lo - 1) hi) t (eqb_same (y.lo - 1) hi e)))))

    committed_named : (hi : ℕ) (g : Grant) (d : Decided) → IsIn g (grants h) → IsIn d (decided h) → limits_committed h who g d ≡ true → d.number.n - 1 ≡ hi → IsIn d.who (names hi)
    committed_named hi g d i j t e =
        in_right d.who (map (λ (z : Yea). z.who) (filter (gives_prepared h who hi) (yeas h))) (map (λ (z : Decided). z.who) (filter (gives_committed h who hi) (decided h)))
        (in_map (λ (z : Decided). z.who) d (filter (gives_committed h who hi) (decided h)) (in_filter (gives_committed h who hi) d (decided h) j (any_at (λ x. limits_committed h who x d && eqb (d.number.n - 1) hi) g (grants h) i (and_true (limits_committed h who g d) (eqb (d.number.n - 1) hi) t (eqb_same (d.number.n - 1) hi e)))))

    -- who is named gives it
    named : (hi : ℕ) (z : Attempt) → IsIn z (names hi) → (v : Upper) × Gives h who v × (v.n ≡ hi) × (z ≡ v.by)
    named hi z i = ⊎_elim
        (λ p.
        let m = in_map_from (λ (y : Yea). y.who) z (filter (gives_prepared h who hi) (yeas h)) p in
        let f = filter_in (gives_prepared h who hi) m.0 (yeas h) m.1 in
        let g = any_found (λ x. limits_prepared h who x m.0 && eqb (m.0.lo - 1) hi) (grants h) f.1 in
        let t = and_parts (limits_prepared h who g.0 m.0) (eqb (m.0.lo - 1) hi) g.2 in
        (prepared_end m.0, inl (g.0, m.0, g.1, f.0, t.0, refl), same_eqb (m.0.lo - 1) hi t.1, m.2))
        (λ p.
        let m = in_map_from (λ (d : Decided). d.who) z (filter (gives_committed h who hi) (decided h)) p in
        let f = filter_in (gives_committed h who hi) m.0 (decided h) m.1 in
        let g = any_found (λ x. limits_committed h who x m.0 && eqb (m.0.number.n - 1) hi) (grants h) f.1 in
        let t = and_parts (limits_committed h who g.0 m.0) (eqb (m.0.number.n - 1) hi) g.2 in
        (committed_end m.0, inr (g.0, m.0, g.1, f.0, t.0, refl), same_eqb (m.0.number.n - 1) hi t.1, m.2))
        (in_cases z (map (λ (y : Yea). y.who) (filter (gives_prepared h who hi) (yeas h))) (map (λ (d : Decided). d.who) (filter (gives_committed h who hi) (decided h))) i)

    by_some : (u : Upper) → best_upper s who ≡ Some u → hi_by h who (high h who) ≡ u.by
    by_some u e =
        let gives = best_gives u e in
        let n = high_some u e in
        first_attempt_is who (names (high h who)) u.by
        (⊎_elim
        (λ p. subst (λ a. IsIn a (names (high h who))) (sym (ap (λ (z : Upper). z.by) p.5)) (prepared_named (high h who) p.0 p.1 p.2 p.3 p.4 (sym (ap (λ (z : Upper). z.n) p.5) ∙ sym n)))
        (λ p. subst (λ a. IsIn a (names (high h who))) (sym (ap (λ (z : Upper). z.by) p.5)) (committed_named (high h who) p.0 p.1 p.2 p.3 p.4 (sym (ap (λ (z : Upper). z.n) p.5) ∙ sym n)))
        gives)
        (λ z i. let v = named (high h who) z i in subst (λ a. attempt_lt a u.by ≡ false) (sym v.3) (not_before u v.0 (best_first u v.0 e v.1) (v.2 ∙ n)))

    -- where nothing limits the attempt, it is named itself
    by_none : best_upper s who ≡ None → hi_by h who (high h who) ≡ who
    by_none e = ap (least_or attempt_lt who) (nil (names (high h who)) (λ z i. let v = named (high h who) z i in best_none v.0 e v.1))
      where
        nil : (xs : List Attempt) → ((x : Attempt) → IsIn x xs → ⊥) → xs ≡ []
        nil [] f = refl
        nil (x ∷ xs) f = absurd (f x (inl refl))

    pub upper_same : upper_end who (best_upper s who) ≡ record { n = high h who; by = hi_by h who (high h who) }
    upper_same = go (best_upper s who) refl
      where
        go : (o : Option Upper) → best_upper s who ≡ o → upper_end who o ≡ record { n = high h who; by = hi_by h who (high h who) }
        go (Some u) e = let n = high_some u e in let by = by_some u e in λ i. record { n = sym n i; by = sym by i }
        go None e = let n = high_none e in let by = by_none e in λ i. record { n = sym n i; by = sym by i }
