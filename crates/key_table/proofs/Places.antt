-- A change at one key of a table, seen from another key.
use Rattle.std.proofs.Common.{◌≡◌, ◌≢◌, ◌⊎◌, ℕ, suc, ◌+◌, ◌<◌, List, [], ◌∷◌, length, get_or, drop, Bool, ◌&&◌, ◌==◌, true, false, cond, refl, sym, ap, ◌∙◌, inl, inr, ⊎_elim, arith}
use Rattle.std.proofs.Math.Seq.{drop-cons}
use Rattle.deneva_base.specs.Lists.{IsIn}
use Rattle.deneva_base.specs.declared.keys.Key.{Key}
use Rattle.deneva_base.specs.Keys.{key_eq}
use Rattle.deneva_base.proofs.Membership.{key_tells}
use Rattle.key_table.specs.declared.table.Table.{Table}
use Rattle.key_table.specs.Keys.{same_key}
use Rattle.key_table.specs.Tables.{Tells, at, Sets, Same, changed}

-- the test of keys
regroup : (a b c d : Bool) → (a && (b && (c && d))) ≡ (a && b && c && d)
regroup false b c d = refl
regroup true false c d = refl
regroup true true false d = refl
regroup true true true d = refl

pub same_is : (k q : Key) → same_key k q ≡ key_eq k q
same_is k q = regroup (k.table == q.table) (k.a == q.a) (k.b == q.b) (k.c == q.c)

pub same_tells : Tells same_key
same_tells a b = rw (same_is a b) (key_tells a b)

-- a key is the same as itself
pub same_self : {K : Type 0} (eq : K → K → Bool) → Tells eq → (k : K) → eq k k ≡ true
same_self eq tells k = ⊎_elim (λ t. t.0) (λ f. absurd (f.1 refl)) (tells k k)

module _ {K X : Type 0} (eq : K → K → Bool) (tells : Tells eq) where
  -- at the key and elsewhere
  pub at_place : (key other : K) (l a b : X) → l ≡ cond (eq key other) a b → ((key ≡ other) × (l ≡ a)) ⊎ ((key ≢ other) × (l ≡ b))
  at_place key other l a b e = ⊎_elim (λ t. inl (t.1, e ∙ ap (λ x. cond x a b) t.0)) (λ f. inr (f.1, e ∙ ap (λ x. cond x a b) f.0)) (tells key other)

  -- the key gets what it had
  pub sets_same : (e : X) (old new : Table K X) (key : K) (x : X) → x ≡ at eq e old key → Sets eq e old key x new → Same eq e old new
  sets_same e old new key x is s other = s other ∙ ⊎_elim (λ t. rw t.0 (is ∙ ap (at eq e old) t.1)) (λ f. rw f.0 refl) (tells key other)

module _ {K X : Type 0} (eq : K → K → Bool) where
  -- the key gets a value that is said in another way
  pub sets_to : (e : X) (old new : Table K X) (key : K) (x y : X) → x ≡ y → Sets eq e old key x new → Sets eq e old key y new
  sets_to e old new key x y is s other = s other ∙ ap (λ z. cond (eq key other) z (at eq e old other)) is

-- changes at several keys
module _ {K X A : Type 0} (eq : K → K → Bool) (tells : Tells eq) (key : A → K) (change : A → X → X) where
  -- one step of a loop over them
  pub changed_step : (as' : List A) (i : ℕ) (d : A) (values : K → X) (other : K) (x : X) → i < length as'
      → x ≡ cond (eq (key (get_or as' i d)) other) (change (get_or as' i d) (values (key (get_or as' i d)))) (values other)
      → changed eq key change (drop (i + 1) as') other x ≡ changed eq key change (drop i as') other (values other)
  changed_step as' i d values other x less e =
      let a : A = get_or as' i d in
      let next : i + 1 ≡ suc i = omega arith in
      let here : cond (eq (key a) other) (change a (values (key a))) (values other) ≡ cond (eq (key a) other) (change a (values other)) (values other) =
      ⊎_elim (λ t. ap (λ k. cond (eq (key a) other) (change a (values k)) (values other)) t.1) (λ f. rw f.0 refl) (tells (key a) other) in
      rw next (ap (λ v. changed eq key change (drop (suc i) as') other v) (e ∙ here) ∙ sym (ap (λ l. changed eq key change l other (values other)) (drop-cons as' i d less)))

  -- no change at this key
  pub changed_none : (as' : List A) (other : K) (x : X) → ((a : A) → IsIn a as' → key a ≢ other) → changed eq key change as' other x ≡ x
  changed_none [] other x n = refl
  changed_none (a ∷ as') other x n = ⊎_elim (λ t. absurd (n a (inl refl) t.1)) (λ f. rw f.0 (changed_none as' other x (λ b i. n b (inr i)))) (tells (key a) other)
