-- A store of two rows.
use Rattle.std.proofs.Common.{◌≡◌, ◌⊎◌, ℕ, ◌≤◌, ◌==◌, ◌&&◌, ltb, [], ◌∷◌, Bool, true, false, cond, refl, sym, ap, ap₂, ◌∙◌, inl, inr, ⊎_elim, arith, Option, Some, None, option_map}
use Rattle.std.proofs.lemmas.Bool.Decides.{nat_tests}
use Rattle.std.specs.Prelude.{is_some}
use Rattle.std.specs.List.{IsDistinct}
use Rattle.deneva_base.specs.declared.keys.Key.{Key}
use Rattle.deneva_base.specs.declared.numbers.Number.{Number}
use Rattle.deneva_base.specs.declared.rows.Keyed.{Keyed}
use Rattle.deneva_base.specs.Keys.{key_eq, loaded_version}
use Rattle.deneva_base.proofs.Membership.{key_tells, key_same, and_parts}
use Rattle.row_store.specs.declared.versions.Version.{Version}
use Rattle.row_store.specs.Stores.{Seen, version_at, row_in, loaded, HaveDistinctKeys}
use Rattle.deneva_base.specs.Rows.{row_of}
use Rattle.control_core.specs.Leaving.{IsLoadedStore}
use Rattle.control_trials.specs.Trials.{HasTwoRows, is_trial_key, trial_key}

pub two_distinct : (x y : Keyed) → x.key ≡ trial_key 0 → y.key ≡ trial_key 1 → HaveDistinctKeys (x ∷ y ∷ [])
unfolding IsDistinct
two_distinct x y e f = rw (e, f) ((refl, tt), (tt, tt))

is_zero_or_one : (n : ℕ) → ltb n 2 ≡ true → (n ≡ 0) ⊎ (n ≡ 1)
is_zero_or_one n e = grind (arith, nat_tests, e)

zero_test : (n : ℕ) → (n == 0) ≡ true → n ≡ 0
zero_test n e = grind (arith, nat_tests, e)

trial_keys : (k : Key) → is_trial_key k ≡ true → (k ≡ trial_key 0) ⊎ (k ≡ trial_key 1)
trial_keys k e =
    let p = and_parts (k.table == 0) (ltb k.a 2 && ((k.b == 0) && (k.c == 0))) e in
    let q = and_parts (ltb k.a 2) ((k.b == 0) && (k.c == 0)) p.1 in
    let r = and_parts (k.b == 0) (k.c == 0) q.1 in
    ⊎_elim
    (λ z. inl (key_same k (trial_key 0) (zero_test k.table p.0) z (zero_test k.b r.0) (zero_test k.c r.1)))
    (λ z. inr (key_same k (trial_key 1) (zero_test k.table p.0) z (zero_test k.b r.0) (zero_test k.c r.1)))
    (is_zero_or_one k.a q.0)

module _ (s : Seen) (x y : Keyed) (e : x.key ≡ trial_key 0) (f : y.key ≡ trial_key 1) (h : (key : Key) → version_at s key ≡ option_map loaded (row_of (x ∷ y ∷ []) key)) where
  rows_are : (key : Key) (b c : Bool) → key_eq x.key key ≡ b → key_eq y.key key ≡ c → version_at s key ≡ cond b (Some (loaded x.row)) (cond c (Some (loaded y.row)) None)
  rows_are key true c p q = h key ∙ ap (λ t. option_map loaded (cond t (Some x.row) (cond (key_eq y.key key) (Some y.row) None))) p
  rows_are key false true p q = h key ∙ ap₂ (λ t u. option_map loaded (cond t (Some x.row) (cond u (Some y.row) None))) p q
  rows_are key false false p q = h key ∙ ap₂ (λ t u. option_map loaded (cond t (Some x.row) (cond u (Some y.row) None))) p q

  pub two_loaded : IsLoadedStore s
  two_loaded key v is = ⊎_elim
      (λ t. number x 0 (sym is ∙ rows_are key true (key_eq y.key key) t.0 refl) (sym t.1 ∙ e))
      (λ n. ⊎_elim
      (λ t. number y 1 (sym is ∙ rows_are key false true n.0 t.0) (sym t.1 ∙ f))
      (λ m. absurd (cc (sym is ∙ rows_are key false false n.0 m.0)))
      (key_tells y.key key))
      (key_tells x.key key)
    where
      number : (z : Keyed) (a : ℕ) → Some v ≡ Some (loaded z.row) → key ≡ trial_key a → (v.number ≡ loaded_version) × (key.table ≤ 4)
      number z a i k = (ap (λ o. get o) i, let t = ap (λ (q : Key). q.table) k in omega (arith, t))
        where
          get : Option Version → Number
          get None = v.number
          get (Some w) = w.number

  pub two_present : HasTwoRows s
  two_present key i = ⊎_elim
      (λ k. some x (rows_are key true (key_eq y.key key) (test x 0 e k) refl))
      (λ k. ⊎_elim
      (λ t. some x (rows_are key true (key_eq y.key key) t.0 refl))
      (λ n. some y (rows_are key false true n.0 (test y 1 f k)))
      (key_tells x.key key))
      (trial_keys key i)
    where
      test : (z : Keyed) (a : ℕ) → z.key ≡ trial_key a → key ≡ trial_key a → key_eq z.key key ≡ true
      test z a e k = ⊎_elim (λ t. t.0) (λ n. absurd (n.1 (e ∙ sym k))) (key_tells z.key key)

      some : (z : Keyed) → version_at s key ≡ Some (loaded z.row) → is_some (row_in s key) ≡ true
      some z is = ap (λ v. is_some (option_map (λ (w : Version). w.row) v)) is
