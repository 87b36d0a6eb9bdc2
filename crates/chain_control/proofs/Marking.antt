-- The marks of the versions after an end.
use Rattle.std.proofs.Common.{◌≡◌, ◌≢◌, ℕ, max, List, [], ◌∷◌, ◌++◌, map, Bool, true, false, ◌&&◌, cond, refl, sym, ap, ap₂, ◌∙◌, inl, inr, ⊎_elim, arith}
use Rattle.deneva_base.specs.declared.keys.Key.{Key}
use Rattle.deneva_base.specs.declared.numbers.Number.{Number}
use Rattle.deneva_base.specs.Lists.{IsIn, greatest_by}
use Rattle.deneva_base.specs.Rows.{Rows}
use Rattle.deneva_base.specs.Keys.{key_eq, number_eq, loaded_version}
use Rattle.deneva_base.specs.Modes.{reads, IsReading}
use Rattle.protocol_rules.specs.History.{History, Asked, Grant, asks, grants, waits, grant_of, grant_of_wake}
use Rattle.protocol_rules.specs.Latest.{Version}
use Rattle.protocol_rules.specs.Versions.{below}
use Rattle.protocol_rules.specs.Waiting.{wake_of}
use Rattle.protocol_rules.specs.Mvcc.{top_reader}
use Rattle.deneva_base.proofs.Membership.{key_tells, reading_decides}
use Rattle.protocol_rules.proofs.Known.{Known}
use Rattle.protocol_rules.proofs.Traced.{asked_found}
use Rattle.chain_control.specs.declared.requests.Waiter.{Waiter}
use Rattle.chain_control.specs.declared.links.ReadVersion.{ReadVersion}
use Rattle.chain_control.specs.Links.{read_by}
use Rattle.key_table.specs.Keys.{same_key}
use Rattle.chain_control.specs.Standing.{link_of}
use Rattle.chain_control.proofs.Lists.{greatest_same}
use Rattle.key_table.proofs.Places.{same_tells}
use Rattle.chain_control.proofs.Apart.{number_eq_sym}
use Rattle.chain_control.proofs.Tabling.{reads_by}
use Rattle.chain_control.proofs.Waking.{to_waiter}

pub same_is : (a b : Key) → same_key a b ≡ key_eq a b
same_is a b = ⊎_elim
    (λ s. ⊎_elim (λ k. s.0 ∙ sym k.0) (λ k. absurd (k.1 s.1)) (key_tells a b))
    (λ s. ⊎_elim (λ k. absurd (s.1 k.1)) (λ k. s.0 ∙ sym k.0) (key_tells a b))
    (same_tells a b)

pub greatest_append : {A : Type 0} (f : A → ℕ) (xs ys : List A) → greatest_by f (xs ++ ys) ≡ max (greatest_by f xs) (greatest_by f ys)
greatest_append f [] ys = omega arith
greatest_append f (x ∷ xs) ys = let e = greatest_append f xs ys in omega (arith, e)

pub greatest_map : {A B : Type 0} (f : B → ℕ) (g : A → B) (xs : List A) → greatest_by f (map g xs) ≡ greatest_by (λ x. f (g x)) xs
greatest_map f g [] = refl
greatest_map f g (x ∷ xs) = ap (max (f (g x))) (greatest_map f g xs)

-- the stamp of a waiter that reads this version
abbrev pub hit : Key → Number → Waiter → ℕ
hit k n w = cond (same_key w.key k && number_eq n w.version) w.stamp 0

abbrev with_read : ReadVersion → ℕ → ReadVersion
with_read l n = record { number = l.number; row = l.row; read = n }

one_read : (k : Key) (w : Waiter) (l : ReadVersion) → cond (same_key w.key k) (read_by w.version w.stamp l) l ≡ with_read l (max (hit k l.number w) l.read)
one_read k w l = go (same_key w.key k) (number_eq l.number w.version)
  where
    go : (a b : Bool) → cond a (with_read l (cond b (max l.read w.stamp) l.read)) l ≡ with_read l (max (cond (a && b) w.stamp 0) l.read)
    go true true = ap (with_read l) (omega arith)
    go true false = ap (with_read l) (omega arith)
    go false b = ap (with_read l) (omega arith)

pub reads_are : (ws : List Waiter) (k : Key) (l : ReadVersion) → reads_by ws k l ≡ with_read l (max (greatest_by (hit k l.number) ws) l.read)
reads_are [] k l = ap (with_read l) (omega arith)
reads_are (w ∷ ws) k l =
    ap (reads_by ws k) (one_read k w l)
    ∙ reads_are ws k (with_read l (max (hit k l.number w) l.read))
    ∙ ap (with_read l) (omega arith)

pub reads_none : (ws : List Waiter) (k : Key) (l : ReadVersion) → ((w : Waiter) → IsIn w ws → w.key ≢ k) → reads_by ws k l ≡ l
reads_none [] k l n = refl
reads_none (w ∷ ws) k l n = ⊎_elim (λ t. absurd (n w (inl refl) t.1)) (λ e. ap (λ b. reads_by ws k (cond b (read_by w.version w.stamp l) l)) e.0 ∙ reads_none ws k l (λ x i. n x (inr i))) (same_tells w.key k)

module _ (loaded : Rows) (h h1 h2 : History) (known : Known loaded h) (ws : List Asked) (less : (a : Asked) → IsIn a ws → IsIn a (waits h)) (reading : (a : Asked) → IsIn a (waits h) → IsReading a.mode) (grants_more : grants h2 ≡ map (grant_of_wake h) (map (wake_of loaded h1) ws) ++ grants h) where
  abbrev reader : Key → Number → Grant → ℕ
  reader k n g = cond (key_eq g.key k && (reads g.mode && number_eq g.version n)) g.stamp 0

  each : (k : Key) (n : Number) (a : Asked) → IsIn a ws → reader k n (grant_of_wake h (wake_of loaded h1 a)) ≡ hit k n (to_waiter loaded h1 a)
  each k n a i =
      let w : IsIn a (waits h) = less a i in
      let r : reads a.mode ≡ true = (reading_decides a.mode).1 (reading a w) in
      ap (λ x. reader k n (grant_of (wake_of loaded h1 a) x)) (asked_found (asks h) (wake_of loaded h1 a) a known.pair (known.asked a w) refl refl)
      ∙ go (reads a.mode) r (key_eq a.key k) (same_key a.key k) (sym (same_is a.key k))
    where
      go : (r : Bool) → r ≡ true → (x y : Bool) → x ≡ y → cond (x && (r && number_eq (cond r (below loaded h1 a.key a.stamp) (record { number = loaded_version; row = [] })).number n)) a.stamp 0 ≡ cond (y && number_eq n (below loaded h1 a.key a.stamp).number) a.stamp 0
      go true e x y f = ap₂ (λ p q. cond (p && q) a.stamp 0) f (number_eq_sym (below loaded h1 a.key a.stamp).number n)
      go false e x y f = absurd (cc e)

  -- the versions that were read are marked
  pub marks : (k : Key) (v : Version) → reads_by (map (to_waiter loaded h1) ws) k (link_of h k v) ≡ link_of h2 k v
  marks k v =
      reads_are (map (to_waiter loaded h1) ws) k (link_of h k v)
      ∙ ap (with_read (link_of h k v)) (sym (
      ap (greatest_by (reader k v.number)) grants_more
      ∙ greatest_append (reader k v.number) (map (grant_of_wake h) (map (wake_of loaded h1) ws)) (grants h)
      ∙ ap (λ n. max n (top_reader h k v.number)) (
      greatest_map (reader k v.number) (grant_of_wake h) (map (wake_of loaded h1) ws)
      ∙ greatest_map (λ x. reader k v.number (grant_of_wake h x)) (wake_of loaded h1) ws
      ∙ greatest_same (λ a. reader k v.number (grant_of_wake h (wake_of loaded h1 a))) (λ a. hit k v.number (to_waiter loaded h1 a)) ws (each k v.number)
      ∙ sym (greatest_map (hit k v.number) (to_waiter loaded h1) ws))))
