-- Equality of keys decides whether they are one, and their comparison is a total order that agrees with it.
use Rattle.std.proofs.Common.{◌≡◌, ◌≢◌, ℕ, Bool, true, false, ◌&&◌, refl, ap, arith, ◌==◌}
use Rattle.std.specs.Bool.{Decides}
use Rattle.std.specs.Cmp.{IsTotalOrder, IsEquivalence}
use Rattle.std.specs.Ordering.{nat_cmp, ordering_then, is_eq, is_lt}
use Rattle.std.specs.declared.cmp.Ordering.{Ordering}
use Rattle.std.specs.declared.cmp.Ordering.TheVariants.{Less, Equal, Greater}
use Rattle.std.proofs.lemmas.Bool.{false≢true}
use Rattle.std.proofs.lemmas.Bool.Decides.{nat_tests, Decides-eqb, Decides-and, Decides-like}
use Rattle.std.proofs.lemmas.Cmp.{nat_cmp_total, nat_eq_equiv, on_total, on_equiv, then_total, and_equiv}
use Rattle.deneva_base.specs.Keys.{key_eq, key_cmp, key_lt}
use Rattle.deneva_base.specs.declared.keys.Key.{Key}
use Rattle.deneva_base.proofs.Membership.{key_tells}

-- keys are compared by their fields, one after another
pub key_cmp_total : IsTotalOrder key_cmp
key_cmp_total = then_total (on_total (λ (k : Key). k.table) nat_cmp_total) (then_total (on_total (λ (k : Key). k.a) nat_cmp_total) (then_total (on_total (λ (k : Key). k.b) nat_cmp_total) (on_total (λ (k : Key). k.c) nat_cmp_total)))

numbers_eq : (x y : ℕ) → is_eq (nat_cmp x y) ≡ (x == y)
numbers_eq x y = grind (arith, nat_tests)

then_eq : (o p : Ordering) → is_eq (ordering_then o p) ≡ (is_eq o && is_eq p)
then_eq Less p = refl
then_eq Equal p = refl
then_eq Greater p = refl

-- the fields are joined from the right by the comparison, and from the left by the equality
regroup : (a b c d : Bool) → (a && (b && (c && d))) ≡ (a && b && c && d)
regroup false b c d = refl
regroup true false c d = refl
regroup true true false d = refl
regroup true true true d = refl

-- the comparison finds two keys equal where they are
pub key_cmp-is_eq : (k q : Key) → is_eq (key_cmp k q) ≡ key_eq k q
key_cmp-is_eq k q = simp (then_eq, numbers_eq) (regroup (k.table == q.table) (k.a == q.a) (k.b == q.b) (k.c == q.c))

same_key : (k q : Key) → (((k.table ≡ q.table) × (k.a ≡ q.a)) × (k.b ≡ q.b)) × (k.c ≡ q.c) → k ≡ q
same_key k q h = grind arith

-- two keys are one where they are equal
pub Decides-key_eq : (k q : Key) → Decides (key_eq k q) (k ≡ q)
Decides-key_eq k q = Decides-like _ (same_key k q) (λ e. (((ap (λ (x : Key). x.table) e, ap (λ (x : Key). x.a) e), ap (λ (x : Key). x.b) e), ap (λ (x : Key). x.c) e))
    (Decides-and _ _ (Decides-and _ _ (Decides-and _ _ (Decides-eqb k.table q.table) (Decides-eqb k.a q.a)) (Decides-eqb k.b q.b)) (Decides-eqb k.c q.c))

-- equality of keys is an equivalence
pub key_eq_equivalence : IsEquivalence key_eq
key_eq_equivalence = and_equiv (and_equiv (and_equiv (on_equiv (λ (k : Key). k.table) nat_eq_equiv) (on_equiv (λ (k : Key). k.a) nat_eq_equiv)) (on_equiv (λ (k : Key). k.b) nat_eq_equiv)) (on_equiv (λ (k : Key). k.c) nat_eq_equiv)

-- what a comparison of two keys says of their equality
pub key_eq-at_Equal : (k q : Key) → key_cmp k q ≡ Equal → key_eq k q ≡ true
key_eq-at_Equal k q e = rw (← key_cmp-is_eq k q) (ap is_eq e)

pub key_eq-at_Less : (k q : Key) → key_cmp k q ≡ Less → key_eq k q ≡ false
key_eq-at_Less k q e = rw (← key_cmp-is_eq k q) (ap is_eq e)

pub key_eq-at_Greater : (k q : Key) → key_cmp k q ≡ Greater → key_eq k q ≡ false
key_eq-at_Greater k q e = rw (← key_cmp-is_eq k q) (ap is_eq e)

-- a test for `Less`
pub less : (o : Ordering) → is_lt o ≡ true → o ≡ Less
less Less e = refl
less Equal e = absurd (false≢true e)
less Greater e = absurd (false≢true e)

pub key_eq-below : (k q : Key) → is_lt (key_cmp k q) ≡ true → key_eq k q ≡ false
key_eq-below k q e = key_eq-at_Less k q (less (key_cmp k q) e)

-- the order as a test
less_is_lt : (o : Ordering) → o ≡ Less → is_lt o ≡ true
less_is_lt o e = ap is_lt e

pub key_trans : (a b c : Key) → key_lt a b ≡ true → key_lt b c ≡ true → key_lt a c ≡ true
key_trans a b c e f = less_is_lt (key_cmp a c) (key_cmp_total.trans a b c (less (key_cmp a b) e) (less (key_cmp b c) f))

pub key_total : (a b : Key) → a ≢ b → key_lt a b ≡ false → key_lt b a ≡ true
key_total a b n e = grind (arith, nat_tests, key_tells a b)
