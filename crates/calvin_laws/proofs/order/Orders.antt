-- The global order has each transaction of the workload once, in rising order of number.
use Rattle.std.proofs.Common.{◌≡◌, ◌≢◌, ◌⊎◌, ℕ, zero, suc, ◌+◌, ◌-◌, ◌<◌, ◌≤◌, List, [], ◌∷◌, ◌++◌, length, map, filter, Bool, true, false, cond, eqb, refl, sym, ap, ◌∙◌, subst, inl, inr, ⊎_elim, arith, true≢false}
use Rattle.std.specs.List.{flat_map}
use Rattle.std.proofs.lemmas.Grind.{flat_map-append}
use Rattle.std.proofs.lemmas.List.{append-nil}
use Rattle.std.proofs.lemmas.Bool.Decides.{eqb_tells}
use Rattle.deneva_base.specs.declared.numbers.TxnId.{TxnId}
use Rattle.deneva_base.specs.Lists.{IsIn, greatest_by}
use Rattle.deneva_base.proofs.Membership.{in_filter, filter_in, in_map, in_map_from}
use Rattle.txn_program.specs.Transactions.{numbers_below}
use Rattle.server_core.specs.Setting.{take_first, Setting, home, homes, drop_first}
use Rattle.server_core.proofs.counts.Prepares.{occurs}
use Rattle.server_core.specs.GlobalOrder.{Slot, slots, slots_of, eight, eights, epochs, batch, order, before}
use Rattle.deneva_base.specs.Keys.{id_eq}
use Rattle.server_core.specs.CalvinProper.{Valid}
use Rattle.server_core.specs.Proper.{ids_in}
use Rattle.server_core.proofs.lists.ListTests.{id_tells, id_self, flat_in, in_flat, in_below, below_in, same_number}
use Rattle.server_core.proofs.lists.Parts.{home_below}

pub ids-append : (x : TxnId) (xs ys : List TxnId) → ids_in x (xs ++ ys) ≡ ids_in x xs + ids_in x ys
ids-append x [] ys = omega arith
ids-append x (y ∷ xs) ys = omega (arith, ids-append x xs ys)

-- eights of a list

pub take_in : {A : Type 0} (x : A) (n : ℕ) (xs : List A) → IsIn x (take_first n xs) → IsIn x xs
take_in x zero xs i = absurd i
take_in x (suc n) [] i = i
take_in x (suc n) (y ∷ xs) i = ⊎_elim (λ e. inl e) (λ r. inr (take_in x n xs r)) i

pub drop_in : {A : Type 0} (x : A) (n : ℕ) (xs : List A) → IsIn x (drop_first n xs) → IsIn x xs
drop_in x zero xs i = i
drop_in x (suc n) [] i = i
drop_in x (suc n) (y ∷ xs) i = inr (drop_in x n xs i)

pub take_or_drop : {A : Type 0} (x : A) (n : ℕ) (xs : List A) → IsIn x xs → IsIn x (take_first n xs) ⊎ IsIn x (drop_first n xs)
take_or_drop x zero xs i = inr i
take_or_drop x (suc n) [] i = absurd i
take_or_drop x (suc n) (y ∷ xs) i = ⊎_elim (λ e. inl (inl e)) (λ r. ⊎_elim (λ a. inl (inr a)) (λ b. inr b) (take_or_drop x n xs r)) i

pub eight_in : {A : Type 0} (x : A) (e : ℕ) (xs : List A) → IsIn x (eight e xs) → IsIn x xs
eight_in x zero xs i = take_in x 8 xs i
eight_in x (suc e) xs i = drop_in x 8 xs (eight_in x e (drop_first 8 xs) i)

drop_length : {A : Type 0} (n : ℕ) (xs : List A) → length (drop_first n xs) ≡ length xs - n
drop_length zero xs = omega arith
drop_length (suc n) [] = omega arith
drop_length (suc n) (y ∷ xs) = omega (arith, drop_length n xs)

in_length : {A : Type 0} (x : A) (xs : List A) → IsIn x xs → 1 ≤ length xs
in_length x [] i = absurd i
in_length x (y ∷ xs) i = omega arith

eight_found : {A : Type 0} (x : A) (fuel : ℕ) (xs : List A) → length xs ≤ fuel → IsIn x xs → (e : ℕ) × (e < eights (length xs)) × IsIn x (eight e xs)
eight_found x zero xs h i = absurd (omega (arith, h, in_length x xs i))
eight_found x (suc fuel) xs h i =
    let some : 1 ≤ length xs = in_length x xs i in
    ⊎_elim
    (λ a. (0, omega (arith, some), a))
    (λ b.
    let l = drop_length 8 xs in
    let more : 1 ≤ length (drop_first 8 xs) = in_length x (drop_first 8 xs) b in
    let n = eight_found x fuel (drop_first 8 xs) (omega (arith, h, l, more)) b in
    (suc n.0, omega (arith, n.1, l, more), n.2))
    (take_or_drop x 8 xs i)

greatest_over : (f : ℕ → ℕ) (n : ℕ) (ns : List ℕ) → IsIn n ns → f n ≤ greatest_by f ns
greatest_over f n [] i = absurd i
greatest_over f n (k ∷ ns) i =
    ⊎_elim
    (λ (is : n ≡ k). let e : f n ≡ f k = ap f is in omega (arith, e))
    (λ r. omega (arith, greatest_over f n ns r))
    i

pub batch_in : (s : Setting) (l : Slot) (x : TxnId) → IsIn x (batch s l) → IsIn x s.ids × (home s x ≡ l.seq)
batch_in s l x i =
    let f = filter_in (λ y. eqb (home s y) l.seq) x s.ids (eight_in x l.epoch (homes s l.seq) i) in
    (f.0, ⊎_elim (λ t. t.1) (λ t. absurd (true≢false (sym f.1 ∙ t.0))) (eqb_tells (home s x) l.seq))

pub order_in : (s : Setting) (x : TxnId) → IsIn x (order s) → IsIn x s.ids
order_in s x i = let f = flat_in (batch s) x (slots s) i in (batch_in s f.0 x f.2).0

pub in_order : (s : Setting) → Valid s → (x : TxnId) → IsIn x s.ids → IsIn x (order s)
in_order s v x i =
    let q : ℕ = home s x in
    let low = home_below s v.parts x in
    let there : IsIn q (numbers_below s.parts) = in_below q s.parts low in
    let f = eight_found x (length (homes s q)) (homes s q) (omega arith) (in_filter (λ y. eqb (home s y) q) x s.ids i (same_number q)) in
    let e : ℕ = f.0 in
    let under : e < epochs s = omega (arith, f.1, greatest_over (λ n. eights (length (homes s n))) q (numbers_below s.parts) there) in
    let slot : IsIn (record { epoch = e; seq = q }) (slots s)
    = in_flat (λ d. map (λ r. record { epoch = d; seq = r }) (numbers_below s.parts)) e (record { epoch = e; seq = q }) (numbers_below (epochs s)) (in_below e (epochs s) under) (in_map (λ r. record { epoch = e; seq = r }) q (numbers_below s.parts) there) in
    in_flat (batch s) (record { epoch = e; seq = q }) x (slots s) slot f.2

-- each once

abbrev rest : {A : Type 0} → ℕ → List A → List A
rest zero xs = xs
rest (suc n) xs = rest n (drop_first 8 xs)

rest_more : {A : Type 0} (n : ℕ) (xs : List A) → rest (suc n) xs ≡ drop_first 8 (rest n xs)
rest_more zero xs = refl
rest_more (suc n) xs = rest_more n (drop_first 8 xs)

eight_rest : {A : Type 0} (n : ℕ) (xs : List A) → eight n xs ≡ take_first 8 (rest n xs)
eight_rest zero xs = refl
eight_rest (suc n) xs = eight_rest n (drop_first 8 xs)

cut : (x : TxnId) (n : ℕ) (xs : List TxnId) → ids_in x xs ≡ ids_in x (take_first n xs) + ids_in x (drop_first n xs)
cut x zero xs = omega arith
cut x (suc n) [] = omega arith
cut x (suc n) (y ∷ xs) = omega (arith, cut x n xs)

ids_none : (x : TxnId) (xs : List TxnId) → (IsIn x xs → ⊥) → ids_in x xs ≡ 0
ids_none x [] h = refl
ids_none x (y ∷ xs) h =
    ⊎_elim
    (λ (t : (id_eq y x ≡ true) × (y ≡ x)). absurd (h (inl (sym t.1))))
    (λ (t : (id_eq y x ≡ false) × (y ≢ x)). rw t.0 (omega (arith, ids_none x xs (λ i. h (inr i)))))
    (id_tells y x)

module _ (s : Setting) (x : TxnId) where
  -- in one epoch
  epoch_count : (e : ℕ) (ps : List ℕ) → (occurs (home s x) ps ≡ 0 → ids_in x (flat_map (batch s) (map (λ q. record { epoch = e; seq = q }) ps)) ≡ 0) × (occurs (home s x) ps ≤ 1 → ids_in x (flat_map (batch s) (map (λ q. record { epoch = e; seq = q }) ps)) ≤ ids_in x (eight e (homes s (home s x))))
  epoch_count e [] = ((λ h. refl), (λ h. omega arith))
  epoch_count e (q ∷ ps) =
      let a = ids-append x (batch s (record { epoch = e; seq = q })) (flat_map (batch s) (map (λ r. record { epoch = e; seq = r }) ps)) in
      let ih = epoch_count e ps in
      ⊎_elim
      (λ (t : (eqb q (home s x) ≡ true) × (q ≡ home s x)).
      let b : ids_in x (batch s (record { epoch = e; seq = q })) ≡ ids_in x (eight e (homes s (home s x))) = ap (λ r. ids_in x (eight e (homes s r))) t.1 in
      let c : cond (eqb q (home s x)) 1 0 ≡ 1 = ap {B = ℕ} (λ z. cond z 1 0) t.0 in
      ((λ h. absurd (omega (arith, h, c))), (λ h. omega (arith, a, b, ih.0 (omega (arith, h, c))))))
      (λ (t : (eqb q (home s x) ≡ false) × (q ≢ home s x)).
      let b : ids_in x (batch s (record { epoch = e; seq = q })) ≡ 0 = ids_none x (batch s (record { epoch = e; seq = q })) (λ i. t.1 (sym (batch_in s (record { epoch = e; seq = q }) x i).1)) in
      let c : cond (eqb q (home s x)) 1 0 ≡ 0 = ap {B = ℕ} (λ z. cond z 1 0) t.0 in
      ((λ h. omega (arith, a, b, ih.0 (omega (arith, h, c)))), (λ h. omega (arith, a, b, ih.1 (omega (arith, h, c))))))
      (eqb_tells q (home s x))

  epochs_count : (n : ℕ) → ids_in x (flat_map (batch s) (slots_of s.parts n)) + ids_in x (rest n (homes s (home s x))) ≤ ids_in x (homes s (home s x))
  epochs_count zero = omega arith
  epochs_count (suc n) =
      let one : List Slot = map (λ q. record { epoch = n; seq = q }) (numbers_below s.parts) in
      let a : slots_of s.parts (suc n) ≡ slots_of s.parts n ++ (one ++ []) = flat_map-append (λ d. map (λ r. record { epoch = d; seq = r }) (numbers_below s.parts)) (numbers_below n) (n ∷ []) in
      let b : flat_map (batch s) (slots_of s.parts (suc n)) ≡ flat_map (batch s) (slots_of s.parts n) ++ flat_map (batch s) (one ++ []) = ap (flat_map (batch s)) a ∙ flat_map-append (batch s) (slots_of s.parts n) (one ++ []) in
      let c : flat_map (batch s) (one ++ []) ≡ flat_map (batch s) one = ap (flat_map (batch s)) (append-nil one) in
      let d = ids-append x (flat_map (batch s) (slots_of s.parts n)) (flat_map (batch s) (one ++ [])) in
      let hs : List TxnId = homes s (home s x) in
      omega (
        arith,
        ap (ids_in x) b,
        ap (ids_in x) c,
        d,
        epochs_count n,
        (epoch_count n (numbers_below s.parts)).1 (few (home s x) s.parts).0,
        ap (ids_in x) (eight_rest n hs),
        ap (ids_in x) (rest_more n hs),
        cut x 8 (rest n hs),
      )
    where
      occurs-more : (q : ℕ) (xs ys : List ℕ) → occurs q (xs ++ ys) ≡ occurs q xs + occurs q ys
      occurs-more q [] ys = omega arith
      occurs-more q (y ∷ xs) ys = omega (arith, occurs-more q xs ys)

      few : (q n : ℕ) → (occurs q (numbers_below n) ≤ 1) × (n ≤ q → occurs q (numbers_below n) ≡ 0)
      few q zero = (omega arith, λ h. refl)
      few q (suc n) =
          let ih = few q n in
          let a = occurs-more q (numbers_below n) (n ∷ []) in
          ⊎_elim
          (λ (t : (eqb n q ≡ true) × (n ≡ q)). let b : occurs q (numbers_below n) ≡ 0 = ih.1 (omega (arith, t.1)) in let c : occurs q (n ∷ []) ≡ 1 = rw t.0 (omega arith) in (omega (arith, a, b, c), λ h. absurd (omega (arith, t.1, h))))
          (λ (t : (eqb n q ≡ false) × (n ≢ q)). let c : occurs q (n ∷ []) ≡ 0 = rw t.0 (omega arith) in (omega (arith, a, ih.0, c), λ h. omega (arith, a, c, ih.1 (omega (arith, h)))))
          (eqb_tells n q)

pub ids_filtered : (x : TxnId) (f : TxnId → Bool) (xs : List TxnId) → ids_in x (filter f xs) ≤ ids_in x xs
ids_filtered x f [] = omega arith
ids_filtered x f (y ∷ xs) = grind (arith, ids_filtered x f xs)

pub order_once : (s : Setting) → Valid s → (x : TxnId) → ids_in x (order s) ≤ 1
order_once s v x = omega (arith, epochs_count s x (epochs s), ids_filtered x (λ y. eqb (home s y) (home s x)) s.ids, v.once x)

pub split_at : (x : TxnId) (xs : List TxnId) → IsIn x xs → (pre : List TxnId) × (post : List TxnId) × (xs ≡ pre ++ x ∷ post)
split_at x [] i = absurd i
split_at x (y ∷ xs) i =
    ⊎_elim
    (λ (is : x ≡ y). ([], xs, ap (λ z. z ∷ xs) (sym is)))
    (λ r. let n = split_at x xs r in (y ∷ n.0, n.1, ap (λ l. y ∷ l) n.2))
    i

pub before_split : (x : TxnId) (pre post : List TxnId) → ids_in x (pre ++ x ∷ post) ≤ 1 → before x (pre ++ x ∷ post) ≡ pre
before_split x [] post h = let e : id_eq x x ≡ true = id_self x in rw e refl
before_split x (y ∷ pre) post h =
    ⊎_elim
    (λ (t : (id_eq y x ≡ true) × (y ≡ x)). absurd (omega (arith, h, ap {B = ℕ} (λ b. cond b 1 0) t.0, ids-append x pre (x ∷ post), ap {B = ℕ} (λ b. cond b 1 0) (id_self x))))
    (λ (t : (id_eq y x ≡ false) × (y ≢ x)). rw t.0 (ap (λ l. y ∷ l) (before_split x pre post (omega (arith, h, ap {B = ℕ} (λ b. cond b 1 0) t.0)))))
    (id_tells y x)

pub slot_in : (s : Setting) (l : Slot) → IsIn l (slots s) → (l.epoch < epochs s) × (l.seq < s.parts)
slot_in s l i =
    let f = flat_in (λ e. map (λ q. record { epoch = e; seq = q }) (numbers_below s.parts)) l (numbers_below (epochs s)) i in
    let m = in_map_from (λ q. record { epoch = f.0; seq = q }) l (numbers_below s.parts) f.2 in
    (subst (λ (z : Slot). z.epoch < epochs s) (sym m.2) (below_in f.0 (epochs s) f.1), subst (λ (z : Slot). z.seq < s.parts) (sym m.2) (below_in m.0 s.parts m.1))

pub before_in : (x y : TxnId) (xs : List TxnId) → IsIn y (before x xs) → IsIn y xs
before_in x y [] i = i
before_in x y (z ∷ xs) i = go (id_eq z x) i (before_in x y xs)
  where
    go : (b : Bool) → IsIn y (cond b [] (z ∷ before x xs)) → (IsIn y (before x xs) → IsIn y xs) → IsIn y (z ∷ xs)
    go true j next = absurd j
    go false j next = ⊎_elim (λ e. inl e) (λ r. inr (next r)) j
