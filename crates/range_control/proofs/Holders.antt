-- The accesses that a table keeps of a key are those of the history.
use Rattle.std.proofs.Common.{◌≡◌, ◌≢◌, ◌⊎◌, suc, ◌≤◌, List, [], ◌∷◌, ◌++◌, reverse, Bool, true, false, not, ◌&&◌, cond, refl, sym, ap, ◌∙◌, subst, inl, inr, ⊎_elim, arith, Option, Some, None}
use Rattle.std.proofs.lemmas.List.{reverse-append, reverse-reverse}
use Rattle.deneva_base.specs.declared.keys.Key.{Key}
use Rattle.deneva_base.specs.declared.numbers.Attempt.{Attempt}
use Rattle.deneva_base.specs.Lists.{IsIn, greatest_by}
use Rattle.deneva_base.specs.Rows.{Rows}
use Rattle.deneva_base.specs.Keys.{key_eq, attempt_eq}
use Rattle.protocol_rules.specs.History.{History, Grant, Yea, grants, yeas, IsUnended}
use Rattle.protocol_rules.specs.Latest.{has_ended}
use Rattle.protocol_rules.specs.Ranged.{lists, accessed, past_prepared, past}
use Rattle.deneva_base.proofs.Membership.{in_left, in_right, in_map, in_map_from, in_filter, filter_in, any_found, and_true, and_parts, key_decides, attempt_decides, attempt_tells}
use Rattle.protocol_rules.proofs.Unended.{not_ended, is_unended}
use Rattle.protocol_rules.proofs.Belows.{greatest_le}
use Rattle.protocol_rules.proofs.Timestamps.{top_by}
use Rattle.protocol_rules.proofs.Rangeds.{accessed_at}
use Rattle.range_control.specs.declared.accesses.Window.{Window}
use Rattle.range_control.specs.declared.accesses.Held.{Held}
use Rattle.range_control.specs.Accesses.{past_window, past_over, own_in}
use Rattle.range_control.specs.Standing.{State, is_held, held_here, window_in, held_of, Tracks}

pub reverse-cons : {A : Type 0} (x : A) (xs : List A) → reverse (x ∷ xs) ≡ reverse xs ++ x ∷ []
reverse-cons x xs = reverse-append (x ∷ []) xs

pub in_reverse : {A : Type 0} (x : A) (xs : List A) → IsIn x xs → IsIn x (reverse xs)
in_reverse x [] i = i
in_reverse x (y ∷ ys) i = subst (λ l. IsIn x l) (sym (reverse-cons y ys)) (⊎_elim (λ e. in_right x (reverse ys) (y ∷ []) (inl e)) (λ j. in_left x (reverse ys) (y ∷ []) (in_reverse x ys j)) i)

pub reverse_in : {A : Type 0} (x : A) (xs : List A) → IsIn x (reverse xs) → IsIn x xs
reverse_in x xs i = subst (λ l. IsIn x l) (reverse-reverse xs) (in_reverse x (reverse xs) i)

-- the window of a vote at a key
abbrev pub window_of : Yea → Key → Window
window_of y key = record { lo = y.lo; hi = y.hi; writes = lists y.writes key }

pub window_some : (ys : List Yea) (y : Yea) (key : Key) → ((a b : Yea) → IsIn a ys → IsIn b ys → a.who ≡ b.who → a ≡ b) → IsIn y ys → window_in ys y.who key ≡ Some (window_of y key)
window_some [] y key one i = absurd i
window_some (x ∷ ys) y key one i =
    ⊎_elim
    (λ t. let same : x ≡ y = one x y (inl refl) i t.1 in rw t.0 (ap (λ z. Some (window_of z key)) same))
    (λ f. rw f.0 (window_some ys y key (λ a b j k e. one a b (inr j) (inr k) e) (⊎_elim (λ s. absurd (f.1 (sym (ap (λ (z : Yea). z.who) s)))) (λ j. j) i)))
    (attempt_tells x.who y.who)

pub window_found : (ys : List Yea) (who : Attempt) (key : Key) (w : Window) → window_in ys who key ≡ Some w → (y : Yea) × (y.who ≡ who) × IsIn y ys × (window_of y key ≡ w)
window_found [] who key w e = absurd (cc e)
window_found (y ∷ ys) who key w e =
    ⊎_elim
    (λ t. let same : Some (window_of y key) ≡ Some w = rw t.0 at e in (y, t.1, inl refl, cc))
    (λ f. let n = window_found ys who key w (rw f.0 at e) in (n.0, n.1, inr n.2, n.3))
    (attempt_tells y.who who)

-- an attempt has an access in a list, or none
pub own_cases : (who : Attempt) (as' : List Held) → ((x : Held) × IsIn x as' × (x.who ≡ who) × (own_in who as' ≡ Some x)) ⊎ (((x : Held) → IsIn x as' → x.who ≢ who) × (own_in who as' ≡ None))
own_cases who [] = inr ((λ x i. absurd i), refl)
own_cases who (y ∷ ys) = ⊎_elim
    (λ t. inl (y, inl refl, t.1, rw t.0 refl))
    (λ f. ⊎_elim (λ m. inl (m.0, inr m.1, m.2, rw f.0 m.3)) (λ n. inr ((λ x i. ⊎_elim (λ s. subst (λ (z : Held). z.who ≢ who) (sym s) f.1) (λ j. n.0 x j) i), rw f.0 n.1)) (own_cases who ys))
    (attempt_tells y.who who)

module _ (loaded : Rows) (h : History) (s : State) (t : Tracks loaded s h) where
  -- an unended access is kept
  pub listed : (g : Grant) → IsIn g (grants h) → IsUnended h g.who → IsIn (held_of h g) (s.lines g.key).held
  listed g i u =
      subst (λ l. IsIn (held_of h g) l) (sym (t.held g.key))
      (in_map (held_of h) g (held_here h g.key)
      (in_filter (is_held h g.key) g (reverse (grants h)) (in_reverse g (grants h) i)
      (and_true (key_eq g.key g.key) (not (has_ended h g.who)) ((key_decides g.key g.key).1 refl) (not_ended h g.who u))))

  -- and nothing else
  pub real : (key : Key) (a : Held) → IsIn a (s.lines key).held → (g : Grant) × IsIn g (grants h) × IsUnended h g.who × (g.key ≡ key) × (a ≡ held_of h g)
  real key a i =
      let m = in_map_from (held_of h) a (held_here h key) (subst (λ l. IsIn a l) (t.held key) i) in
      let f = filter_in (is_held h key) m.0 (reverse (grants h)) m.1 in
      let p = and_parts (key_eq m.0.key key) (not (has_ended h m.0.who)) f.1 in
      (m.0, reverse_in m.0 (grants h) f.0, is_unended h m.0.who p.1, (key_decides m.0.key key).0 p.0, m.2)

  -- an attempt's access to a key, or none
  pub own : (who : Attempt) → IsUnended h who → (key : Key) → ((g : Grant) × IsIn g (grants h) × (g.who ≡ who) × (g.key ≡ key) × (own_in who (s.lines key).held ≡ Some (held_of h g))) ⊎ ((own_in who (s.lines key).held ≡ None) × ((g : Grant) → IsIn g (grants h) → g.who ≡ who → g.key ≢ key))
  own who u key = ⊎_elim
      (λ (f : (x : Held) × IsIn x (s.lines key).held × (x.who ≡ who) × (own_in who (s.lines key).held ≡ Some x)).
      let r = real key f.0 f.1 in
      inl (r.0, r.1, sym (ap (λ (z : Held). z.who) r.4) ∙ f.2, r.3, f.3 ∙ ap (λ z. Some z) r.4))
      (λ n. inr (n.1, λ g i e k. n.0 (held_of h g) (subst (λ q. IsIn (held_of h g) (s.lines q).held) k (listed g i (subst (λ w. IsUnended h w) (sym e) u))) e))
      (own_cases who (s.lines key).held)

  module _ (one : (a b : Yea) → IsIn a (yeas h) → IsIn b (yeas h) → a.who ≡ b.who → a ≡ b) where
    -- what passes all accesses to a key
    prepared_below : (key : Key) (a : Held) → IsIn a (s.lines key).held → past_window a.window ≤ greatest_by (past_prepared h key) (yeas h)
    prepared_below key a i =
        let r = real key a i in
        let same : a.window ≡ window_in (yeas h) r.0.who key = ap (λ (z : Held). z.window) r.4 ∙ ap (window_in (yeas h) r.0.who) r.3 in
        subst (λ w. past_window w ≤ greatest_by (past_prepared h key) (yeas h)) (sym same) (go r.0 r.1 r.2 r.3 (window_in (yeas h) r.0.who key) refl)
      where
        go : (g : Grant) → IsIn g (grants h) → IsUnended h g.who → g.key ≡ key → (w : Option Window) → window_in (yeas h) g.who key ≡ w → past_window w ≤ greatest_by (past_prepared h key) (yeas h)
        go g i u k None e = omega arith
        go g i u k (Some w) e =
            let y = window_found (yeas h) g.who key w e in
            let test = and_true (not (has_ended h y.0.who)) (accessed h y.0.who key) (not_ended h y.0.who (subst (λ a. IsUnended h a) (sym y.1) u)) (accessed_at h y.0.who key g i (sym y.1) k) in
            omega (arith, top_by (past_prepared h key) y.0 (yeas h) y.2, ap (λ b. cond b (suc y.0.hi) 0) test, ap (λ (z : Window). z.hi) y.3)

    prepared_above : (key : Key) (y : Yea) → IsIn y (yeas h) → past_prepared h key y ≤ greatest_by (λ (a : Held). past_window a.window) (s.lines key).held
    prepared_above key y i = go (not (has_ended h y.who) && accessed h y.who key) refl
      where
        go : (b : Bool) → (not (has_ended h y.who) && accessed h y.who key) ≡ b → cond b (suc y.hi) 0 ≤ greatest_by (λ (a : Held). past_window a.window) (s.lines key).held
        go false e = omega arith
        go true e =
            let p = and_parts (not (has_ended h y.who)) (accessed h y.who key) e in
            let f = any_found (λ (g : Grant). attempt_eq g.who y.who && key_eq g.key key) (grants h) p.1 in
            let q = and_parts (attempt_eq f.0.who y.who) (key_eq f.0.key key) f.2 in
            let who : f.0.who ≡ y.who = (attempt_decides f.0.who y.who).0 q.0 in
            let at : f.0.key ≡ key = (key_decides f.0.key key).0 q.1 in
            let there : IsIn (held_of h f.0) (s.lines key).held = subst (λ k. IsIn (held_of h f.0) (s.lines k).held) at (listed f.0 f.1 (subst (λ a. IsUnended h a) (sym who) (is_unended h y.who p.0))) in
            let window : window_in (yeas h) f.0.who f.0.key ≡ Some (window_of y f.0.key) = ap (λ a. window_in (yeas h) a f.0.key) who ∙ window_some (yeas h) y f.0.key one i in
            omega (arith, top_by (λ (a : Held). past_window a.window) (held_of h f.0) (s.lines key).held there, ap past_window window)

    pub past_is : (key : Key) → past_over (s.lines key) ≡ past h key
    past_is key =
        let a = greatest_le (λ (a : Held). past_window a.window) (greatest_by (past_prepared h key) (yeas h)) (s.lines key).held (λ a i. prepared_below key a i) in
        let b = greatest_le (past_prepared h key) (greatest_by (λ (a : Held). past_window a.window) (s.lines key).held) (yeas h) (λ y i. prepared_above key y i) in
        omega (arith, t.past key, a, b)
