-- The entries of a `BTreeMap` from keys to rows, as rows in key order.
use Rattle.std.proofs.Common.{◌≡◌, ℕ, List, [], ◌∷◌, map, refl, ap, arith, Bool, true, false, ◌&&◌, ◌||◌, cond, Option, Some, eqb}
use Rattle.std.specs.Prelude.{is_some, unwrap_or, if◌then◌else◌}
use Rattle.std.specs.declared.cmp.Ordering.{Ordering}
use Rattle.std.specs.declared.cmp.Ordering.TheVariants.{Less, Equal, Greater}
use Rattle.std.specs.Ordering.{is_eq, nat_cmp, ordering_then, match_ordering}
use Rattle.std.specs.BTreeMap.{insert_entry, is_at}
use Rattle.std.specs.Map.{lookup}
use Rattle.std.proofs.lemmas.Bool.Decides.{nat_tests}
use Rattle.deneva_base.specs.Keys.{key_eq, key_cmp}
use Rattle.deneva_base.specs.Rows.{has_key, row_at, put, keyed}
use Rattle.deneva_base.specs.declared.keys.Key.{Key}
use Rattle.deneva_base.specs.declared.rows.Cell.{Cell}
use Rattle.deneva_base.specs.declared.rows.Keyed.{Keyed}

nat_cmp_eq : (m n : ℕ) → is_eq (nat_cmp m n) ≡ eqb n m
nat_cmp_eq m n = grind (arith, nat_tests)

nat_cmp_same : (m n : ℕ) → nat_cmp m n ≡ Equal → m ≡ n
nat_cmp_same m n = grind (arith, nat_tests)

then_eq : (o p : Ordering) → is_eq (ordering_then o p) ≡ is_eq o && is_eq p
then_eq Less p = refl
then_eq Equal p = refl
then_eq Greater p = refl

then_same : (o p : Ordering) → ordering_then o p ≡ Equal → (o ≡ Equal) × (p ≡ Equal)
then_same Less p e = absurd (cc)
then_same Equal p e = (refl, e)
then_same Greater p e = absurd (cc)

and_regroup : (a b c d : Bool) → a && (b && (c && d)) ≡ a && b && c && d
and_regroup true b c d = and_three b c d
  where
    and_three : (b c d : Bool) → b && (c && d) ≡ b && c && d
    and_three true c d = refl
    and_three false c d = refl
and_regroup false b c d = refl

-- keys that compare alike pass the test of equality
pub key_cmp_eq : (k q : Key) → is_eq (key_cmp k q) ≡ key_eq q k
key_cmp_eq k q =
    simp (then_eq, nat_cmp_eq) (and_regroup (eqb q.table k.table) (eqb q.a k.a) (eqb q.b k.b) (eqb q.c k.c))

-- keys that compare alike are one
pub key_cmp_same : (k q : Key) → key_cmp k q ≡ Equal → k ≡ q
key_cmp_same k q e =
    let h = then_same (nat_cmp k.table q.table) _ e in
    let g = then_same (nat_cmp k.a q.a) _ h.1 in
    let f = then_same (nat_cmp k.b q.b) _ g.1 in
    λ i. record {
      table = nat_cmp_same k.table q.table h.0 i;
      a = nat_cmp_same k.a q.a g.0 i;
      b = nat_cmp_same k.b q.b f.0 i;
      c = nat_cmp_same k.c q.c f.1 i;
    }

put_step : (e : Key × List Cell) (es more : List (Key × List Cell)) (k : Key) (row : List Cell) (rest : List Keyed) (o : Ordering)
    → (o ≡ Equal → k ≡ e.0) → rest ≡ map keyed more
    → match_ordering o (record { key = k; row = row } ∷ map keyed (e ∷ es)) (record { key = k; row = row } ∷ map keyed es) (keyed e ∷ rest)
    ≡ map keyed (match_ordering o ((k, row) ∷ e ∷ es) ((e.0, row) ∷ es) (e ∷ more))
put_step e es more k row rest Less same ih = refl
put_step e es more k row rest Equal same ih = ap (λ (q : Key). keyed (q, row) ∷ map keyed es) (same refl)
put_step e es more k row rest Greater same ih = ap (λ (l : List Keyed). keyed e ∷ l) ih

pub put-entries : (es : List (Key × List Cell)) (k : Key) (row : List Cell) → put (map keyed es) (record { key = k; row = row }) ≡ map keyed (insert_entry key_cmp es k row)
put-entries [] k row = refl
put-entries (e ∷ es) k row =
    put_step e es (insert_entry key_cmp es k row) k row (put (map keyed es) (record { key = k; row = row })) (key_cmp k e.0) (key_cmp_same k e.0) (put-entries es k row)

has_step : (b c d : Bool) (row : List Cell) (rest : Option (List Cell)) → c ≡ b → d ≡ is_some rest → b || d ≡ is_some (cond c (Some row) rest)
has_step true c d row rest e h = rw e refl
has_step false c d row rest e h = rw (e, h) refl

pub has_key-entries : (es : List (Key × List Cell)) (k : Key) → has_key (map keyed es) k ≡ is_some (lookup (is_at (key_cmp k)) es)
has_key-entries [] k = refl
has_key-entries (e ∷ es) k =
    has_step (key_eq e.0 k) (is_at (key_cmp k) e.0) (has_key (map keyed es) k) e.1 (lookup (is_at (key_cmp k)) es) (key_cmp_eq k e.0) (has_key-entries es k)

row_step : (b c : Bool) (row rest : List Cell) (found : Option (List Cell)) → c ≡ b → rest ≡ unwrap_or found [] → (if b then row else rest) ≡ unwrap_or (cond c (Some row) found) []
row_step true c row rest found e h = rw e refl
row_step false c row rest found e h = rw (e, h) refl

pub row_at-entries : (es : List (Key × List Cell)) (k : Key) → row_at (map keyed es) k ≡ unwrap_or (lookup (is_at (key_cmp k)) es) []
row_at-entries [] k = refl
row_at-entries (e ∷ es) k =
    row_step (key_eq e.0 k) (is_at (key_cmp k) e.0) e.1 (row_at (map keyed es) k) (lookup (is_at (key_cmp k)) es) (key_cmp_eq k e.0) (row_at-entries es k)
