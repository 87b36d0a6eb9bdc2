-- The queues that hold the requests of transactions, one transaction after another.
use Rattle.std.proofs.Common.{◌≡◌, ◌≢◌, ◌⊎◌, ℕ, ◌+◌, ◌≤◌, List, [], ◌∷◌, ◌++◌, map, filter, Bool, true, false, cond, ◌&&◌, ◌||◌, not, eqb, Some, None, refl, sym, ap, ◌∙◌, subst, inl, inr, ⊎_elim, arith}
use Rattle.std.specs.List.{list_all, list_any, flat_map}
use Rattle.std.proofs.lemmas.Grind.{flat_map-append}
use Rattle.deneva_base.specs.declared.keys.Access.{Access}
use Rattle.deneva_base.specs.declared.keys.Key.{Key}
use Rattle.deneva_base.specs.declared.numbers.TxnId.{TxnId}
use Rattle.deneva_base.specs.Lists.{IsIn}
use Rattle.deneva_base.specs.Keys.{key_eq, id_eq}
use Rattle.deneva_base.specs.Modes.{writes}
use Rattle.deneva_base.specs.Partitions.{partition_of}
use Rattle.deneva_base.proofs.Membership.{key_tells, in_filter, filter_in, in_map_from, any_at, any_found, and_parts, and_true}
use Rattle.server_core.specs.Setting.{Setting}
use Rattle.server_core.specs.CalvinScheduler.{participates, collide, clash}
use Rattle.server_core.specs.GlobalOrder.{before}
use Rattle.server_core.specs.ActiveList.{is_first, without}
use Rattle.server_core.specs.Proper.{keys_in, ids_in}
use Rattle.server_core.proofs.lists.ListTests.{not_true, not_both, is_or_not, id_tells, id_self, all_at, all_from, flat_in}
use Rattle.server_core.proofs.lists.RowFolds.{filter-append}
use Rattle.server_core.specs.Roles.{accesses_at}
use Rattle.calvin_sched.specs.Queues.{for_key, without_first, left_by, is_free, heads}
use Rattle.calvin_sched.specs.Asked.{request_of, requests_of, asked, all_free, Frees}
use Rattle.calvin_sched.specs.declared.requests.Request.{Request}

-- two tests that imply each other are one
pub same_test : (a b : Bool) → (a ≡ true → b ≡ true) → (b ≡ true → a ≡ true) → a ≡ b
same_test true b f g = sym (f refl)
same_test false true f g = g refl
same_test false false f g = refl

id_turned : (x y : TxnId) → id_eq x y ≡ false → id_eq y x ≡ false
id_turned x y e = ⊎_elim (λ (t : (id_eq y x ≡ true) × (y ≡ x)). absurd (not_both (id_eq x y) (subst (λ z. id_eq z y ≡ true) t.1 (id_self y)) e)) (λ (t : (id_eq y x ≡ false) × (y ≢ x)). t.0) (id_tells y x)

filter-map : {A B : Type 0} (p : B → Bool) (f : A → B) (xs : List A) → filter p (map f xs) ≡ map f (filter (λ x. p (f x)) xs)
filter-map p f [] = refl
filter-map {A} {B} p f (x ∷ xs) = go (p (f x)) (filter-map p f xs)
  where
    go : (b : Bool) → filter p (map f xs) ≡ map f (filter (λ x. p (f x)) xs) → cond b (f x ∷ filter p (map f xs)) (filter p (map f xs)) ≡ map f (cond b (x ∷ filter (λ x. p (f x)) xs) (filter (λ x. p (f x)) xs))
    go true next = ap (λ l. f x ∷ l) next
    go false next = next

filter-off : {A : Type 0} (p : A → Bool) (xs : List A) → list_any p xs ≡ false → filter p xs ≡ []
filter-off p [] h = refl
filter-off {A} p (x ∷ xs) h = go (p x) h (filter-off p xs)
  where
    go : (b : Bool) → (b || list_any p xs) ≡ false → (list_any p xs ≡ false → filter p xs ≡ []) → cond b (x ∷ filter p xs) (filter p xs) ≡ []
    go true e next = absurd (not_both true refl e)
    go false e next = next e

-- those of two lists are asked one list after the other
pub asked-append : (s : Setting) (p : ℕ) (xs ys : List TxnId) → asked s p (xs ++ ys) ≡ asked s p xs ++ asked s p ys
asked-append s p xs ys = flat_map-append (requests_of s p) xs ys

pub for_key-append : (key : Key) (rs qs : List Request) → for_key key (rs ++ qs) ≡ for_key key rs ++ for_key key qs
for_key-append key rs qs = filter-append (λ (r : Request). key_eq r.key key) rs qs

-- those that take no part ask nothing
pub asked_here : (s : Setting) (p : ℕ) (xs : List TxnId) → asked s p xs ≡ asked s p (filter (λ x. participates s x p) xs)
asked_here s p [] = refl
asked_here s p (x ∷ xs) = go (participates s x p) refl (asked_here s p xs)
  where
    go : (b : Bool) → participates s x p ≡ b → asked s p xs ≡ asked s p (filter (λ y. participates s y p) xs) → requests_of s p x ++ asked s p xs ≡ asked s p (cond b (x ∷ filter (λ y. participates s y p) xs) (filter (λ y. participates s y p) xs))
    go true e next = ap (λ l. requests_of s p x ++ l) next
    go false e next = ap (λ (l : List Access). map (request_of x) l ++ asked s p xs) (filter-off (λ (a : Access). eqb (partition_of a.key s.parts) p) (s.accesses x) e) ∙ next

-- the accesses of a transaction to a key at p
abbrev here : Setting → ℕ → Key → TxnId → List Access
here s p key x = filter (λ (a : Access). key_eq a.key key) (accesses_at s p x)

-- the requests for these accesses of each
abbrev line : (TxnId → List Access) → List TxnId → List Request
line own xs = flat_map (λ x. map (request_of x) (own x)) xs

for_key-asked : (s : Setting) (p : ℕ) (key : Key) (xs : List TxnId) → for_key key (asked s p xs) ≡ line (here s p key) xs
for_key-asked s p key [] = refl
for_key-asked s p key (x ∷ xs) =
    for_key-append key (requests_of s p x) (asked s p xs)
    ∙ ap (λ l. l ++ for_key key (asked s p xs)) (filter-map (λ (r : Request). key_eq r.key key) (request_of x) (accesses_at s p x))
    ∙ ap (λ l. map (request_of x) (here s p key x) ++ l) (for_key-asked s p key xs)

-- a transaction is free at its first request
own_free : (w : Bool) (x : TxnId) (a : Access) (cs : List Access) (rs : List Request) → IsIn a cs → is_free w x None (map (request_of x) cs ++ rs) ≡ true
own_free w x a [] rs i = absurd i
own_free w x a (c ∷ cs) rs i = ap (λ b. b || ((false || not (w || writes c.mode)) && is_free w x None (map (request_of x) cs ++ rs))) (id_self x)

-- and those of another have to agree with it
other_free : (w : Bool) (x y : TxnId) (cs : List Access) (rs : List Request) → id_eq y x ≡ false → is_free w x None (map (request_of y) cs ++ rs) ≡ (list_all (λ (c : Access). not (w || writes c.mode)) cs && is_free w x None rs)
other_free w x y [] rs e = refl
other_free w x y (c ∷ cs) rs e =
    ap (λ b. b || ((false || not (w || writes c.mode)) && is_free w x None (map (request_of y) cs ++ rs))) e
    ∙ ap (λ b. not (w || writes c.mode) && b) (other_free w x y cs rs e)
    ∙ grouped (not (w || writes c.mode)) (list_all (λ (c : Access). not (w || writes c.mode)) cs) (is_free w x None rs)
  where
    grouped : (a b c : Bool) → (a && (b && c)) ≡ ((a && b) && c)
    grouped true b c = refl
    grouped false b c = refl

line_free : (own : TxnId → List Access) (w : Bool) (x : TxnId) (a : Access) (xs : List TxnId) → IsIn a (own x) → is_free w x None (line own xs) ≡ list_all (λ y. list_all (λ (c : Access). not (w || writes c.mode)) (own y)) (before x xs)
line_free own w x a [] i = refl
line_free own w x a (y ∷ xs) i =
    ⊎_elim
    (λ (t : (id_eq y x ≡ true) × (y ≡ x)). rw t.0 (subst (λ z. is_free w x None (map (request_of z) (own z) ++ line own xs) ≡ true) (sym t.1) (own_free w x a (own x) (line own xs) i)))
    (λ (t : (id_eq y x ≡ false) × (y ≢ x)).
    rw t.0
    (other_free w x y (own y) (line own xs) t.0 ∙ ap (λ b. list_all (λ (c : Access). not (w || writes c.mode)) (own y) && b) (line_free own w x a xs i)))
    (id_tells y x)

-- an access at p agrees with those of another to its key where it collides with none
agrees : (parts p : ℕ) (a : Access) (cs : List Access) → eqb (partition_of a.key parts) p ≡ true → list_all (λ (c : Access). not (writes a.mode || writes c.mode)) (filter (λ (c : Access). key_eq c.key a.key) (filter (λ (c : Access). eqb (partition_of c.key parts) p) cs)) ≡ not (list_any (collide parts p a) cs)
agrees parts p a [] at = refl
agrees parts p a (c ∷ cs) at =
    ⊎_elim
    (λ (t : (key_eq a.key c.key ≡ true) × (a.key ≡ c.key)).
    let there : eqb (partition_of c.key parts) p ≡ true = subst (λ z. eqb (partition_of z parts) p ≡ true) t.1 at in
    let back : key_eq c.key a.key ≡ true = subst (λ z. key_eq z a.key ≡ true) t.1 (subst (λ z. key_eq a.key z ≡ true) (sym t.1) t.0) in
    rw (there, back, t.0, at) (both (writes a.mode || writes c.mode) _ _ (agrees parts p a cs at)))
    (λ (t : (key_eq a.key c.key ≡ false) × (a.key ≢ c.key)).
    let back : key_eq c.key a.key ≡ false = ⊎_elim (λ (u : (key_eq c.key a.key ≡ true) × (c.key ≡ a.key)). absurd (t.1 (sym u.1))) (λ (u : (key_eq c.key a.key ≡ false) × (c.key ≢ a.key)). u.0) (key_tells c.key a.key) in
    rw t.0 (away (eqb (partition_of c.key parts) p) back ∙ agrees parts p a cs at))
    (key_tells a.key c.key)
  where
    both : (b l r : Bool) → l ≡ not r → (not b && l) ≡ not (b || r)
    both true l r e = refl
    both false l r e = e

    away : (b : Bool) → key_eq c.key a.key ≡ false → list_all (λ (d : Access). not (writes a.mode || writes d.mode)) (filter (λ (d : Access). key_eq d.key a.key) (cond b (c ∷ filter (λ (d : Access). eqb (partition_of d.key parts) p) cs) (filter (λ (d : Access). eqb (partition_of d.key parts) p) cs))) ≡ list_all (λ (d : Access). not (writes a.mode || writes d.mode)) (filter (λ (d : Access). key_eq d.key a.key) (filter (λ (d : Access). eqb (partition_of d.key parts) p) cs))
    away true e = rw e refl
    away false e = refl

-- those that are not the transaction's
abbrev others : TxnId → List Request → List Request
others e rs = filter (λ (r : Request). not (id_eq r.id e)) rs

module _ (s : Setting) (p : ℕ) where
  -- an access is free where it collides with none of those before
  access_free : (x : TxnId) (a : Access) (xs : List TxnId) → IsIn a (accesses_at s p x) → is_free (writes a.mode) x None (for_key a.key (asked s p xs)) ≡ list_all (λ y. not (list_any (collide s.parts p a) (s.accesses y))) (before x xs)
  access_free x a xs i =
      let at = (filter_in (λ (c : Access). eqb (partition_of c.key s.parts) p) a (s.accesses x) i).1 in
      ap (λ l. is_free (writes a.mode) x None l) (for_key-asked s p a.key xs)
      ∙ line_free (here s p a.key) (writes a.mode) x a xs (in_filter (λ (c : Access). key_eq c.key a.key) a (accesses_at s p x) i (self a.key))
      ∙ all_same (λ y. list_all (λ (c : Access). not (writes a.mode || writes c.mode)) (here s p a.key y)) (λ y. not (list_any (collide s.parts p a) (s.accesses y))) (before x xs) (λ y. agrees s.parts p a (s.accesses y) at)
    where
      self : (k : Key) → key_eq k k ≡ true
      self k = ⊎_elim (λ (t : (key_eq k k ≡ true) × (k ≡ k)). t.0) (λ (t : (key_eq k k ≡ false) × (k ≢ k)). absurd (t.1 refl)) (key_tells k k)

      all_same : {A : Type 0} (f g : A → Bool) (xs : List A) → ((x : A) → f x ≡ g x) → list_all f xs ≡ list_all g xs
      all_same f g [] h = refl
      all_same f g (x ∷ xs) h = ap (λ b. b && list_all f xs) (h x) ∙ ap (λ b. g x && b) (all_same f g xs h)

  -- a transaction is free everywhere where it is first in the list
  pub free_is_first : (queue : Key → List Request) (xs : List TxnId) → ((key : Key) → queue key ≡ for_key key (asked s p xs)) → (x : TxnId) → all_free s p queue x None ≡ is_first s p xs x
  free_is_first queue xs q x = same_test (all_free s p queue x None) (is_first s p xs x) forth back
    where
      one : (a : Access) → IsIn a (accesses_at s p x) → is_free (writes a.mode) x None (queue a.key) ≡ list_all (λ y. not (list_any (collide s.parts p a) (s.accesses y))) (before x xs)
      one a i = ap (λ l. is_free (writes a.mode) x None l) (q a.key) ∙ access_free x a xs i

      forth : all_free s p queue x None ≡ true → is_first s p xs x ≡ true
      forth h =
          all_from (λ y. not (clash s p x y)) (before x xs)
          (λ y j. ⊎_elim
          (λ c.
          let a = any_found (λ (d : Access). list_any (collide s.parts p d) (s.accesses y)) (s.accesses x) c in
          let b = any_found (collide s.parts p a.0) (s.accesses y) a.2 in
          let k = and_parts (key_eq a.0.key b.0.key) (eqb (partition_of a.0.key s.parts) p && (writes a.0.mode || writes b.0.mode)) b.2 in
          let at = (and_parts (eqb (partition_of a.0.key s.parts) p) (writes a.0.mode || writes b.0.mode) k.1).0 in
          let i = in_filter (λ (d : Access). eqb (partition_of d.key s.parts) p) a.0 (s.accesses x) a.1 at in
          let f = sym (one a.0 i) ∙ all_at (λ (d : Access). is_free (writes d.mode) x None (queue d.key)) a.0 (accesses_at s p x) h i in
          absurd (not_both (list_any (collide s.parts p a.0) (s.accesses y)) a.2 (not_true (list_any (collide s.parts p a.0) (s.accesses y)) (all_at (λ z. not (list_any (collide s.parts p a.0) (s.accesses z))) y (before x xs) f j))))
          (λ n. ap not n)
          (is_or_not (clash s p x y)))

      back : is_first s p xs x ≡ true → all_free s p queue x None ≡ true
      back h =
          all_from (λ (a : Access). is_free (writes a.mode) x None (queue a.key)) (accesses_at s p x)
          (λ a i. one a i
          ∙ all_from (λ y. not (list_any (collide s.parts p a) (s.accesses y))) (before x xs)
          (λ y j. ⊎_elim
          (λ c. absurd (not_both (clash s p x y)
          (any_at (λ (d : Access). list_any (collide s.parts p d) (s.accesses y)) a (s.accesses x) (filter_in (λ (d : Access). eqb (partition_of d.key s.parts) p) a (s.accesses x) i).0 c)
          (not_true (clash s p x y) (all_at (λ z. not (clash s p x z)) y (before x xs) h j))))
          (λ n. ap not n)
          (is_or_not (list_any (collide s.parts p a) (s.accesses y)))))

-- without a transaction are the requests of those that are left
line_others : (own : TxnId → List Access) (e : TxnId) (xs : List TxnId) → others e (line own xs) ≡ line own (without e xs)
line_others own e [] = refl
line_others own e (x ∷ xs) = filter-append (λ (r : Request). not (id_eq r.id e)) (map (request_of x) (own x)) (line own xs) ∙ go (id_eq x e) refl (line_others own e xs)
  where
    all : (cs : List Access) → id_eq x e ≡ false → others e (map (request_of x) cs) ≡ map (request_of x) cs
    all [] n = refl
    all (c ∷ cs) n = rw n (ap (λ l. request_of x c ∷ l) (all cs n))

    none : (cs : List Access) → id_eq x e ≡ true → others e (map (request_of x) cs) ≡ []
    none [] n = refl
    none (c ∷ cs) n = rw n (none cs n)

    go : (b : Bool) → id_eq x e ≡ b → others e (line own xs) ≡ line own (without e xs) → others e (map (request_of x) (own x)) ++ others e (line own xs) ≡ line own (cond (not b) (x ∷ without e xs) (without e xs))
    go true n next = ap (λ l. l ++ others e (line own xs)) (none (own x) n) ∙ next
    go false n next = ap (λ l. l ++ others e (line own xs)) (all (own x) n) ∙ ap (λ l. map (request_of x) (own x) ++ l) next

asked_others : (s : Setting) (p : ℕ) (key : Key) (e : TxnId) (xs : List TxnId) → others e (for_key key (asked s p xs)) ≡ for_key key (asked s p (without e xs))
asked_others s p key e xs = ap (others e) (for_key-asked s p key xs) ∙ line_others (here s p key) e xs ∙ sym (for_key-asked s p key (without e xs))

-- those of one that ends do not count
free_others : (w : Bool) (e x : TxnId) (rs : List Request) → id_eq e x ≡ false → is_free w x (Some e) rs ≡ is_free w x None (others e rs)
free_others w e x [] n = refl
free_others w e x (r ∷ rs) n =
    ⊎_elim
    (λ (t : (id_eq e r.id ≡ true) × (e ≡ r.id)).
    let same : id_eq r.id e ≡ true = subst (λ z. id_eq z e ≡ true) t.1 (id_self e) in
    let other : id_eq r.id x ≡ false = subst (λ z. id_eq z x ≡ false) t.1 n in
    rw (same, other, t.0) (free_others w e x rs n))
    (λ (t : (id_eq e r.id ≡ false) × (e ≢ r.id)). rw (id_turned e r.id t.0, t.0) (ap (λ b. id_eq r.id x || ((false || not (w || r.writes)) && b)) (free_others w e x rs n)))
    (id_tells e r.id)

-- when one ends, another is free everywhere where it is first among those that are left
pub free_without : (s : Setting) (p : ℕ) (queue : Key → List Request) (xs : List TxnId) → ((key : Key) → queue key ≡ for_key key (asked s p xs)) → (e x : TxnId) → id_eq e x ≡ false → all_free s p queue x (Some e) ≡ is_first s p (without e xs) x
free_without s p queue xs q e x n = go (accesses_at s p x) ∙ free_is_first s p (λ key. for_key key (asked s p (without e xs))) (without e xs) (λ key. refl) x
  where
    go : (as' : List Access) → list_all (λ (a : Access). is_free (writes a.mode) x (Some e) (queue a.key)) as' ≡ list_all (λ (a : Access). is_free (writes a.mode) x None (for_key a.key (asked s p (without e xs)))) as'
    go [] = refl
    go (a ∷ as') =
        ap (λ b. b && list_all (λ (c : Access). is_free (writes c.mode) x (Some e) (queue c.key)) as')
        (free_others (writes a.mode) e x (queue a.key) n ∙ ap (λ l. is_free (writes a.mode) x None l) (ap (others e) (q a.key) ∙ asked_others s p a.key e xs))
        ∙ ap (λ b. is_free (writes a.mode) x None (for_key a.key (asked s p (without e xs))) && b) (go as')

-- how many of the requests are the transaction's
abbrev owned : TxnId → List Request → ℕ
owned e [] = 0
owned e (r ∷ rs) = cond (id_eq r.id e) 1 0 + owned e rs

owned-append : (e : TxnId) (rs qs : List Request) → owned e (rs ++ qs) ≡ owned e rs + owned e qs
owned-append e [] qs = omega arith
owned-append e (r ∷ rs) qs = omega (arith, owned-append e rs qs)

others_none : (e : TxnId) (rs : List Request) → owned e rs ≤ 0 → others e rs ≡ rs
others_none e [] h = refl
others_none e (r ∷ rs) h = go (id_eq r.id e) h (others_none e rs)
  where
    go : (b : Bool) → cond b 1 0 + owned e rs ≤ 0 → (owned e rs ≤ 0 → others e rs ≡ rs) → cond (not b) (r ∷ others e rs) (others e rs) ≡ r ∷ rs
    go true l next = absurd (omega arith)
    go false l next = ap (λ l. r ∷ l) (next (omega arith))

-- one that leaves a queue as often as it stands there is gone
leaves_once : (e : TxnId) (rs : List Request) (n : ℕ) → owned e rs ≤ 1 + n → owned e (without_first e rs) ≤ n
leaves_once e [] n h = omega arith
leaves_once e (r ∷ rs) n h = go (id_eq r.id e) refl h (leaves_once e rs n)
  where
    go : (b : Bool) → id_eq r.id e ≡ b → cond b 1 0 + owned e rs ≤ 1 + n → (owned e rs ≤ 1 + n → owned e (without_first e rs) ≤ n) → owned e (cond b rs (r ∷ without_first e rs)) ≤ n
    go true t l next = omega arith
    go false t l next = rw t (omega (arith, next (omega arith)))

others_first : (e : TxnId) (rs : List Request) → others e (without_first e rs) ≡ others e rs
others_first e [] = refl
others_first e (r ∷ rs) = go (id_eq r.id e) refl (others_first e rs)
  where
    go : (b : Bool) → id_eq r.id e ≡ b → others e (without_first e rs) ≡ others e rs → others e (cond b rs (r ∷ without_first e rs)) ≡ cond (not b) (r ∷ others e rs) (others e rs)
    go true t next = refl
    go false t next = rw t (ap (λ l. r ∷ l) next)

left_others : (e : TxnId) (as' : List Access) (key : Key) (rs : List Request) → owned e rs ≤ keys_in key as' → left_by e as' key rs ≡ others e rs
left_others e [] key rs h = sym (others_none e rs h)
left_others e (a ∷ as') key rs h = go (key_eq a.key key) h (left_others e as' key)
  where
    go : (b : Bool) → owned e rs ≤ cond b 1 0 + keys_in key as' → ((qs : List Request) → owned e qs ≤ keys_in key as' → left_by e as' key qs ≡ others e qs) → left_by e as' key (cond b (without_first e rs) rs) ≡ others e rs
    go true l next = next (without_first e rs) (leaves_once e rs (keys_in key as') l) ∙ others_first e rs
    go false l next = next rs (omega arith)

own_owned : (e : TxnId) (key : Key) (as' : List Access) → owned e (map (request_of e) (filter (λ (a : Access). key_eq a.key key) as')) ≡ keys_in key as'
own_owned e key [] = refl
own_owned e key (a ∷ as') = go (key_eq a.key key) (own_owned e key as')
  where
    go : (b : Bool) → owned e (map (request_of e) (filter (λ (c : Access). key_eq c.key key) as')) ≡ keys_in key as' → owned e (map (request_of e) (cond b (a ∷ filter (λ (c : Access). key_eq c.key key) as') (filter (λ (c : Access). key_eq c.key key) as'))) ≡ cond b 1 0 + keys_in key as'
    go true next = rw (id_self e) (omega (arith, next))
    go false next = omega (arith, next)

other_owned : (e x : TxnId) (as' : List Access) → id_eq x e ≡ false → owned e (map (request_of x) as') ≡ 0
other_owned e x [] n = refl
other_owned e x (a ∷ as') n = rw n (omega (arith, other_owned e x as' n))

line_owned : (s : Setting) (p : ℕ) (key : Key) (e : TxnId) (xs : List TxnId) → (ids_in e xs ≤ 0 → owned e (line (here s p key) xs) ≤ 0) × (ids_in e xs ≤ 1 → owned e (line (here s p key) xs) ≤ keys_in key (accesses_at s p e))
line_owned s p key e [] = ((λ h. omega arith), (λ h. omega arith))
line_owned s p key e (x ∷ xs) =
    let parts : owned e (line (here s p key) (x ∷ xs)) ≡ owned e (map (request_of x) (here s p key x)) + owned e (line (here s p key) xs) = owned-append e (map (request_of x) (here s p key x)) (line (here s p key) xs) in
    let next = line_owned s p key e xs in
    ⊎_elim
    (λ (t : (id_eq x e ≡ true) × (x ≡ e)).
    let one : owned e (map (request_of x) (here s p key x)) ≡ keys_in key (accesses_at s p e) = subst (λ z. owned e (map (request_of z) (here s p key z)) ≡ keys_in key (accesses_at s p e)) (sym t.1) (own_owned e key (accesses_at s p e)) in
    rw t.0 ((λ h. absurd (omega arith)), (λ h. omega (arith, parts, one, next.0 (omega arith)))))
    (λ (t : (id_eq x e ≡ false) × (x ≢ e)).
    let none : owned e (map (request_of x) (here s p key x)) ≡ 0 = other_owned e x (here s p key x) t.0 in
    rw t.0 ((λ h. omega (arith, parts, none, next.0 (omega arith))), (λ h. omega (arith, parts, none, next.1 (omega arith)))))
    (id_tells x e)

-- a transaction that stands at most once in the list leaves the queue of the others
pub left_is_asked : (s : Setting) (p : ℕ) (key : Key) (e : TxnId) (xs : List TxnId) → ids_in e xs ≤ 1 → left_by e (accesses_at s p e) key (for_key key (asked s p xs)) ≡ for_key key (asked s p (without e xs))
left_is_asked s p key e xs h =
    left_others e (accesses_at s p e) key (for_key key (asked s p xs)) (subst (λ rs. owned e rs ≤ keys_in key (accesses_at s p e)) (sym (for_key-asked s p key xs)) ((line_owned s p key e xs).1 h))
    ∙ asked_others s p key e xs

-- those that end stand not among the first
heads_others : (e : TxnId) (rs : List Request) → heads e (others e rs) ≡ heads e rs
heads_others e [] = refl
heads_others e (r ∷ rs) = go (id_eq r.id e) refl (heads_others e rs)
  where
    go : (b : Bool) → id_eq r.id e ≡ b → heads e (others e rs) ≡ heads e rs → heads e (cond (not b) (r ∷ others e rs) (others e rs)) ≡ cond b (heads e rs) (r ∷ cond r.writes [] (heads e rs))
    go true t next = next
    go false t next = rw t (ap (λ l. r ∷ cond r.writes [] l) next)

heads_in : (e : TxnId) (r : Request) (rs : List Request) → IsIn r (heads e rs) → IsIn r rs
heads_in e r [] i = absurd i
heads_in e r (q ∷ rs) i = go (id_eq q.id e) q.writes i (heads_in e r rs)
  where
    go : (b c : Bool) → IsIn r (cond b (heads e rs) (q ∷ cond c [] (heads e rs))) → (IsIn r (heads e rs) → IsIn r rs) → (r ≡ q) ⊎ IsIn r rs
    go true c j next = inr (next j)
    go false true j next = ⊎_elim (λ is. inl is) (λ n. absurd n) j
    go false false j next = ⊎_elim (λ is. inl is) (λ t. inr (next t)) j

line_from : (own : TxnId → List Access) (r : Request) (xs : List TxnId) → IsIn r (line own xs) → (x : TxnId) × IsIn x xs × ((c : Access) × IsIn c (own x) × (r ≡ request_of x c))
line_from own r xs i =
    let f = flat_in (λ x. map (request_of x) (own x)) r xs i in
    (f.0, f.1, in_map_from (request_of f.0) r (own f.0) f.2)

-- of the requests of x at the head of a queue one that collides with another access is among the first
own_heads : (e x : TxnId) (b : Access) (w : Bool) (cs : List Access) (rs : List Request) → id_eq x e ≡ false → IsIn b cs → (writes b.mode || w) ≡ true → (r : Request) × IsIn r (heads e (map (request_of x) cs ++ rs)) × (r.id ≡ x) × ((r.writes || w) ≡ true)
own_heads e x b w [] rs n i h = absurd i
own_heads e x b w (c ∷ cs) rs n i h = rw n (go (writes c.mode || w) refl (own_heads e x b w cs rs n))
  where
    go : (t : Bool) → (writes c.mode || w) ≡ t → (IsIn b cs → (writes b.mode || w) ≡ true → (r : Request) × IsIn r (heads e (map (request_of x) cs ++ rs)) × (r.id ≡ x) × ((r.writes || w) ≡ true)) → (r : Request) × IsIn r (request_of x c ∷ cond (writes c.mode) [] (heads e (map (request_of x) cs ++ rs))) × (r.id ≡ x) × ((r.writes || w) ≡ true)
    go true t next = (request_of x c, inl refl, refl, t)
    go false t next =
        let in_rest = ⊎_elim (λ (is : b ≡ c). absurd (not_both (writes b.mode || w) h (subst (λ z. (writes z.mode || w) ≡ false) (sym is) t))) (λ j. j) i in
        let f = next in_rest h in
        (f.0, subst (λ z. IsIn f.0 (request_of x c ∷ cond z [] (heads e (map (request_of x) cs ++ rs)))) (sym (neither (writes c.mode) t)) (inr f.1), f.2, f.3)
      where
        neither : (a : Bool) → (a || w) ≡ false → a ≡ false
        neither true u = u
        neither false u = refl

-- behind those that do not write the first are still among the first
other_heads : (e y : TxnId) (r : Request) (w : Bool) (cs : List Access) (rs : List Request) → id_eq y e ≡ false → list_all (λ (c : Access). not (w || writes c.mode)) cs ≡ true → IsIn r (heads e rs) → IsIn r (heads e (map (request_of y) cs ++ rs))
other_heads e y r w [] rs n h i = i
other_heads e y r w (c ∷ cs) rs n h i =
    let b = and_parts (not (w || writes c.mode)) (list_all (λ (d : Access). not (w || writes d.mode)) cs) h in
    rw (n, neither w (writes c.mode) (not_true (w || writes c.mode) b.0)) (inr (other_heads e y r w cs rs n b.1 i))
  where
    neither : (a b : Bool) → (a || b) ≡ false → b ≡ false
    neither true b u = absurd (not_both true refl u)
    neither false b u = u

line_heads : (own : TxnId → List Access) (e z : TxnId) (b : Access) (w : Bool) (xs : List TxnId) → IsIn z xs → ((x : TxnId) → IsIn x xs → id_eq x e ≡ false) → IsIn b (own z) → (writes b.mode || w) ≡ true → list_all (λ y. list_all (λ (c : Access). not (writes b.mode || writes c.mode)) (own y)) (before z xs) ≡ true → (r : Request) × IsIn r (heads e (line own xs)) × (r.id ≡ z) × ((r.writes || w) ≡ true)
line_heads own e z b w [] i n j h f = absurd i
line_heads own e z b w (x ∷ xs) i n j h f =
    ⊎_elim
    (λ (t : (id_eq x z ≡ true) × (x ≡ z)).
    subst (λ y. (r : Request) × IsIn r (heads e (map (request_of y) (own y) ++ line own xs)) × (r.id ≡ z) × ((r.writes || w) ≡ true)) (sym t.1)
    (own_heads e z b w (own z) (line own xs) (subst (λ y. id_eq y e ≡ false) t.1 (n x (inl refl))) j h))
    (λ (t : (id_eq x z ≡ false) × (x ≢ z)).
    let behind = ⊎_elim (λ (is : z ≡ x). absurd (t.1 (sym is))) (λ k. k) i in
    let g = subst (λ c. list_all (λ y. list_all (λ (c : Access). not (writes b.mode || writes c.mode)) (own y)) (cond c [] (x ∷ before z xs)) ≡ true) t.0 f in
    let q = and_parts (list_all (λ (c : Access). not (writes b.mode || writes c.mode)) (own x)) (list_all (λ y. list_all (λ (c : Access). not (writes b.mode || writes c.mode)) (own y)) (before z xs)) g in
    let s = line_heads own e z b w xs behind (λ y k. n y (inr k)) j h q.1 in
    (s.0, other_heads e x s.0 (writes b.mode) (own x) (line own xs) (n x (inl refl)) q.0 s.1, s.2, s.3))
    (id_tells x z)

module _ (s : Setting) (p : ℕ) (queue : Key → List Request) (xs : List TxnId) (q : (key : Key) → queue key ≡ for_key key (asked s p xs)) (e z : TxnId) where
  abbrev at_p : Access → Bool
  at_p a = eqb (partition_of a.key s.parts) p

  -- the first of a queue are those of the queue without the transaction that ends
  heads_left : (key : Key) → heads e (queue key) ≡ heads e (line (here s p key) (without e xs))
  heads_left key = sym (heads_others e (queue key)) ∙ ap (heads e) (ap (others e) (q key) ∙ asked_others s p key e xs ∙ for_key-asked s p key (without e xs))

  apart : (x : TxnId) → IsIn x (without e xs) → id_eq x e ≡ false
  apart x i = not_true (id_eq x e) (filter_in (λ y. not (id_eq y e)) x xs i).1

  -- what a transaction that ends lets go is in the list, conflicts with it, and is first without it
  pub freed_from : Frees s p queue e z → IsIn z (without e xs) × (clash s p z e ≡ true) × (is_first s p (without e xs) z ≡ true)
  freed_from f =
      let a : Access = f.0 in
      let r : Request = f.2 in
      let l = line_from (here s p a.key) r (without e xs) (heads_in e r (line (here s p a.key) (without e xs)) (subst (λ l. IsIn r l) (heads_left a.key) f.3)) in
      let c : Access = l.2.0 in
      let is : l.0 ≡ z = sym (ap (λ (x : Request). x.id) l.2.2) ∙ f.4 in
      let in_z : IsIn z (without e xs) = subst (λ x. IsIn x (without e xs)) is l.1 in
      let k = filter_in (λ (d : Access). key_eq d.key a.key) c (accesses_at s p l.0) l.2.1 in
      let m = filter_in at_p c (s.accesses l.0) k.0 in
      let n = filter_in at_p a (s.accesses e) f.1 in
      let conflict : (writes c.mode || writes a.mode) ≡ true = subst (λ b. (b || writes a.mode) ≡ true) (ap (λ (x : Request). x.writes) l.2.2) f.5 in
      let met : collide s.parts p c a ≡ true = and_true (key_eq c.key a.key) (at_p c && (writes c.mode || writes a.mode)) k.1 (and_true (at_p c) (writes c.mode || writes a.mode) m.1 conflict) in (
        in_z,
        any_at (λ d. list_any (collide s.parts p d) (s.accesses e)) c (s.accesses z) (subst (λ x. IsIn c (s.accesses x)) is m.0) (any_at (collide s.parts p c) a (s.accesses e) n.0 met),
        sym (free_without s p queue xs q e z (id_turned z e (apart z in_z))) ∙ f.6,
      )

  -- and each of these it lets go
  pub freed_are : IsIn z (without e xs) → clash s p z e ≡ true → is_first s p (without e xs) z ≡ true → Frees s p queue e z
  freed_are i c h =
      let b = any_found (λ d. list_any (collide s.parts p d) (s.accesses e)) (s.accesses z) c in
      let a = any_found (collide s.parts p b.0) (s.accesses e) b.2 in
      let k = and_parts (key_eq b.0.key a.0.key) (at_p b.0 && (writes b.0.mode || writes a.0.mode)) a.2 in
      let m = and_parts (at_p b.0) (writes b.0.mode || writes a.0.mode) k.1 in
      let same : b.0.key ≡ a.0.key = ⊎_elim (λ t. t.1) (λ t. absurd (not_both (key_eq b.0.key a.0.key) k.0 t.0)) (key_tells b.0.key a.0.key) in
      let in_z : IsIn b.0 (accesses_at s p z) = in_filter at_p b.0 (s.accesses z) b.1 m.0 in
      let in_e : IsIn a.0 (accesses_at s p e) = in_filter at_p a.0 (s.accesses e) a.1 (subst (λ l. eqb (partition_of l s.parts) p ≡ true) same m.0) in
      let own : IsIn b.0 (here s p a.0.key z) = in_filter (λ (d : Access). key_eq d.key a.0.key) b.0 (accesses_at s p z) in_z k.0 in
      let free : all_free s p queue z (Some e) ≡ true = free_without s p queue xs q e z (id_turned z e (apart z i)) ∙ h in
      let only : all_free s p (λ key. for_key key (asked s p (without e xs))) z None ≡ true = free_is_first s p (λ key. for_key key (asked s p (without e xs))) (without e xs) (λ key. refl) z ∙ h in
      let before_it : list_all (λ y. list_all (λ (d : Access). not (writes b.0.mode || writes d.mode)) (here s p a.0.key y)) (before z (without e xs)) ≡ true
      = sym (line_free (here s p a.0.key) (writes b.0.mode) z b.0 (without e xs) own)
      ∙ ap (λ l. is_free (writes b.0.mode) z None l) (sym (for_key-asked s p a.0.key (without e xs)))
      ∙ subst (λ l. is_free (writes b.0.mode) z None (for_key l (asked s p (without e xs))) ≡ true) same (all_at (λ (d : Access). is_free (writes d.mode) z None (for_key d.key (asked s p (without e xs)))) b.0 (accesses_at s p z) only in_z)
      in
      let r = line_heads (here s p a.0.key) e z b.0 (writes a.0.mode) (without e xs) i apart own m.1 before_it in
      (a.0, in_e, r.0, subst (λ l. IsIn r.0 l) (sym (heads_left a.0.key)) r.1, r.2, r.3, free)
