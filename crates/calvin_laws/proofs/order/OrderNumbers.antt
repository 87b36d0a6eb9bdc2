-- The numbers of the global order rise.
use Rattle.std.proofs.Common.{◌≡◌, ◌≢◌, ℕ, zero, suc, ◌+◌, ◌*◌, ◌/◌, ◌%◌, ◌<◌, ◌≤◌, List, [], ◌∷◌, ◌++◌, length, slice_get, Some, map, true, false, cond, eqb, refl, sym, ap, ◌∙◌, subst, inl, inr, ⊎_elim, arith}
use Rattle.std.specs.Bool.{⊤}
use Rattle.std.specs.List.{flat_map}
use Rattle.std.proofs.Math.Nat.{mul-le-mul_right}
use Rattle.std.proofs.lemmas.Grind.{flat_map-append}
use Rattle.std.proofs.lemmas.List.{append-nil}
use Rattle.deneva_base.specs.declared.numbers.TxnId.{TxnId}
use Rattle.deneva_base.specs.Lists.{IsIn}
use Rattle.deneva_base.specs.Keys.{NumberLt, id_eq}
use Rattle.deneva_base.proofs.Membership.{in_left, in_right, in_cases, in_map_from}
use Rattle.txn_program.specs.Transactions.{numbers_below}
use Rattle.server_core.specs.Setting.{take_first, Setting, home, homes, drop_first}
use Rattle.server_core.specs.GlobalOrder.{Slot, slots, slots_of, eight, epochs, batch, order, before, index_of, numbered, number, number_at}
use Rattle.server_core.specs.CalvinProper.{Valid}
use Rattle.server_core.specs.Proper.{ids_in}
use Rattle.server_core.specs.CalvinSerial.{RisingIds}
use Rattle.server_core.proofs.lists.ListTests.{id_tells, id_self, flat_in, below_in, split_there, take_length}
use Rattle.calvin_laws.proofs.order.Orders.{drop_in, eight_in, batch_in, order_in, in_order, order_once, split_at, before_split, ids_filtered}

ids_some : (x : TxnId) (xs : List TxnId) → IsIn x xs → 1 ≤ ids_in x xs
ids_some x [] i = absurd i
ids_some x (y ∷ xs) i = ⊎_elim (λ (is : x ≡ y). let e : id_eq y x ≡ true = subst (λ z. id_eq z x ≡ true) is (id_self x) in rw e (omega arith)) (λ r. omega (arith, ids_some x xs r)) i

index_take : (x : TxnId) (n : ℕ) (xs : List TxnId) → IsIn x (take_first n xs) → (index_of x xs ≡ index_of x (take_first n xs)) × (index_of x (take_first n xs) < n)
index_take x zero xs i = absurd i
index_take x (suc n) [] i = absurd i
index_take x (suc n) (y ∷ xs) i =
    ⊎_elim
    (λ (t : (id_eq y x ≡ true) × (y ≡ x)). (rw t.0 refl, rw t.0 (omega arith)))
    (λ (t : (id_eq y x ≡ false) × (y ≢ x)).
    let r : IsIn x (take_first n xs) = ⊎_elim (λ is. absurd (t.1 (sym is))) (λ r. r) i in
    let ih = index_take x n xs r in
    (rw t.0 (ap suc ih.0), rw t.0 (omega (arith, ih.1))))
    (id_tells y x)

index_drop : (x : TxnId) (n : ℕ) (xs : List TxnId) → IsIn x (drop_first n xs) → ids_in x xs ≤ 1 → index_of x xs ≡ n + index_of x (drop_first n xs)
index_drop x zero xs i h = omega arith
index_drop x (suc n) [] i h = absurd i
index_drop x (suc n) (y ∷ xs) i h =
    ⊎_elim
    (λ (t : (id_eq y x ≡ true) × (y ≡ x)). absurd (omega (arith, h, ids_some x xs (drop_in x n xs i), ap {B = ℕ} (λ b. cond b 1 0) t.0)))
    (λ (t : (id_eq y x ≡ false) × (y ≢ x)). rw t.0 (omega (arith, index_drop x n xs i (omega (arith, h)))))
    (id_tells y x)

drop_few : (x : TxnId) (n : ℕ) (xs : List TxnId) → ids_in x (drop_first n xs) ≤ ids_in x xs
drop_few x zero xs = omega arith
drop_few x (suc n) [] = omega arith
drop_few x (suc n) (y ∷ xs) = omega (arith, drop_few x n xs)

take_few : (x : TxnId) (n : ℕ) (xs : List TxnId) → ids_in x (take_first n xs) ≤ ids_in x xs
take_few x zero xs = omega arith
take_few x (suc n) [] = omega arith
take_few x (suc n) (y ∷ xs) = omega (arith, take_few x n xs)

eight_few : (x : TxnId) (e : ℕ) (xs : List TxnId) → ids_in x (eight e xs) ≤ ids_in x xs
eight_few x zero xs = take_few x 8 xs
eight_few x (suc e) xs = omega (arith, eight_few x e (drop_first 8 xs), drop_few x 8 xs)

index_eight : (x : TxnId) (e : ℕ) (xs : List TxnId) → IsIn x (eight e xs) → ids_in x xs ≤ 1 → (index_of x xs ≡ 8 * e + index_of x (eight e xs)) × (index_of x (eight e xs) < 8)
index_eight x zero xs i h = let t = index_take x 8 xs i in (omega (arith, t.0), t.1)
index_eight x (suc e) xs i h =
    let ih = index_eight x e (drop_first 8 xs) i (omega (arith, h, drop_few x 8 xs)) in
    (omega (arith, ih.0, index_drop x 8 xs (eight_in x e (drop_first 8 xs) i) h), ih.1)

index_split : (x : TxnId) (pre post : List TxnId) → ids_in x (pre ++ x ∷ post) ≤ 1 → index_of x (pre ++ x ∷ post) ≡ length pre
index_split x [] post h = let e : id_eq x x ≡ true = id_self x in rw e refl
index_split x (y ∷ pre) post h =
    ⊎_elim
    (λ (t : (id_eq y x ≡ true) × (y ≡ x)). absurd (omega (arith, h, ap {B = ℕ} (λ b. cond b 1 0) t.0, ids_some x (pre ++ x ∷ post) (in_right x pre (x ∷ post) (inl refl)))))
    (λ (t : (id_eq y x ≡ false) × (y ≢ x)). rw t.0 (ap suc (index_split x pre post (omega (arith, h)))))
    (id_tells y x)

length_split : (x : TxnId) (pre as' : List TxnId) → length pre < length (pre ++ x ∷ as')
length_split x [] as' = omega arith
length_split x (y ∷ pre) as' = omega (arith, length_split x pre as')

abbrev pub RisingBy : {A : Type 0} → (A → ℕ) → List A → Type 0
RisingBy f [] = ⊤
RisingBy f (x ∷ xs) = ((y : _) → IsIn y xs → f x < f y) × RisingBy f xs

rising-append : {A : Type 0} (f : A → ℕ) (xs ys : List A) → RisingBy f xs → RisingBy f ys → ((x y : A) → IsIn x xs → IsIn y ys → f x < f y) → RisingBy f (xs ++ ys)
rising-append f [] ys r q h = q
rising-append f (x ∷ xs) ys r q h = ((λ y i. ⊎_elim (λ a. r.0 y a) (λ b. h x y (inl refl) b) (in_cases y xs ys i)), rising-append f xs ys r.1 q (λ z y i j. h z y (inr i) j))

-- places in one list
places_rise : (b : List TxnId) → ((x : TxnId) → ids_in x b ≤ 1) → (pre suf : List TxnId) → b ≡ pre ++ suf → RisingBy (λ x. index_of x b) suf
places_rise b once pre [] e = tt
places_rise b once pre (x ∷ suf) e =
    let here : index_of x b ≡ length pre = ap (index_of x) e ∙ index_split x pre suf (subst (λ l. ids_in x l ≤ 1) e (once x)) in (
      (λ y i.
          let sp = split_at y suf i in
          let whole : b ≡ (pre ++ x ∷ sp.0) ++ y ∷ sp.1 = e ∙ ap (λ l. pre ++ x ∷ l) sp.2 ∙ rejoin pre x sp.0 (y ∷ sp.1) in
          let there : index_of y b ≡ length (pre ++ x ∷ sp.0) = ap (index_of y) whole ∙ index_split y (pre ++ x ∷ sp.0) sp.1 (subst (λ l. ids_in y l ≤ 1) whole (once y)) in
          omega (arith, here, there, length_split x pre sp.0)),
      places_rise b once (pre ++ x ∷ []) suf (e ∙ rejoin pre x [] suf),
    )
  where
    rejoin : (pre : List TxnId) (x : TxnId) (as' bs : List TxnId) → pre ++ x ∷ (as' ++ bs) ≡ (pre ++ x ∷ as') ++ bs
    rejoin [] x as' bs = refl
    rejoin (z ∷ pre) x as' bs = ap (λ l. z ∷ l) (rejoin pre x as' bs)

less_product : (e d n : ℕ) → e < d → e * n + n ≤ d * n
less_product e d n h = let p : (e + 1) * n ≤ d * n = mul-le-mul_right n (omega (arith, h)) in omega (arith, p)

module _ (s : Setting) (v : Valid s) where
  homes_once : (q : ℕ) (x : TxnId) → ids_in x (homes s q) ≤ 1
  homes_once q x = omega (arith, ids_filtered x (λ y. eqb (home s y) q) s.ids, v.once x)

  -- the formula of the number
  pub number_in : (l : Slot) (x : TxnId) → IsIn x (batch s l) → ((number s x).n ≡ numbered s.parts l.epoch l.seq (index_of x (batch s l))) × (index_of x (batch s l) < 8)
  number_in l x i =
      let at : home s x ≡ l.seq = (batch_in s l x i).1 in
      let ix = index_eight x l.epoch (homes s l.seq) i (homes_once l.seq x) in
      (ap (λ q. (number_at s x q (index_of x (homes s q))).n) at ∙ ap (λ j. (number_at s x l.seq j).n) ix.0 ∙ parts (index_of x (batch s l)) ix.1, ix.1)
    where
      parts : (k : ℕ) → k < 8 → numbered s.parts ((8 * l.epoch + k) / 8) l.seq ((8 * l.epoch + k) % 8) ≡ numbered s.parts l.epoch l.seq k
      parts k h =
          let a : (8 * l.epoch + k) / 8 ≡ l.epoch = omega (arith, h) in
          let b : (8 * l.epoch + k) % 8 ≡ k = omega (arith, h) in
          rw (a, b) refl

  batch_once : (l : Slot) (x : TxnId) → ids_in x (batch s l) ≤ 1
  batch_once l x = omega (arith, eight_few x l.epoch (homes s l.seq), homes_once l.seq x)

  pub number_at_place : (l : Slot) (i : ℕ) (x : TxnId) → slice_get (batch s l) i ≡ Some x → number s x ≡ record { n = numbered s.parts l.epoch l.seq i; id = x }
  number_at_place l i x e =
      let b : List TxnId = batch s l in
      let sp : b ≡ take_first i b ++ x ∷ drop_first (suc i) b = split_there i b x e in
      let there : IsIn x b = subst (λ z. IsIn x z) (sym sp) (in_right x (take_first i b) (x ∷ drop_first (suc i) b) (inl refl)) in
      let at : index_of x b ≡ i = ap (index_of x) sp ∙ index_split x (take_first i b) (drop_first (suc i) b) (subst (λ z. ids_in x z ≤ 1) sp (batch_once l x)) ∙ take_length i b x e in
      let is : (number s x).n ≡ numbered s.parts l.epoch l.seq i = (number_in l x there).0 ∙ ap (numbered s.parts l.epoch l.seq) at in
      λ j. record { n = is j; id = x }

  abbrev code : Slot → ℕ
  code l = l.epoch * s.parts + l.seq

  batch_rises : (l : Slot) → RisingBy (λ x. (number s x).n) (batch s l)
  batch_rises l = go (batch s l) (λ x i. i) (places_rise (batch s l) (λ x. omega (arith, eight_few x l.epoch (homes s l.seq), homes_once l.seq x)) [] (batch s l) refl)
    where
      go : (xs : List TxnId) → ((x : TxnId) → IsIn x xs → IsIn x (batch s l)) → RisingBy (λ x. index_of x (batch s l)) xs → RisingBy (λ x. (number s x).n) xs
      go [] h r = tt
      go (x ∷ xs) h r = ((λ y i. omega (arith, r.0 y i, (number_in l x (h x (inl refl))).0, (number_in l y (h y (inr i))).0)), go xs (λ y i. h y (inr i)) r.1)

  flat_rises : (ls : List Slot) → RisingBy code ls → RisingBy (λ x. (number s x).n) (flat_map (batch s) ls)
  flat_rises [] r = tt
  flat_rises (l ∷ ls) r =
      rising-append (λ x. (number s x).n) (batch s l) (flat_map (batch s) ls) (batch_rises l) (flat_rises ls r.1)
      (λ x y i j.
      let f = flat_in (batch s) y ls j in
      let a = number_in l x i in
      let b = number_in f.0 y f.2 in
      omega (arith, a.0, a.1, b.0, r.0 f.0 f.1))

  below_rises : (n : ℕ) → RisingBy (λ k. k) (numbers_below n)
  below_rises zero = tt
  below_rises (suc n) = rising-append (λ k. k) (numbers_below n) (n ∷ []) (below_rises n) ((λ y i. absurd i), tt) (λ x y i j. ⊎_elim (λ (is : y ≡ n). omega (arith, is, below_in x n i)) (λ k. absurd k) j)

  row_rises : (e : ℕ) (qs : List ℕ) → RisingBy (λ k. k) qs → RisingBy code (map (λ q. record { epoch = e; seq = q }) qs)
  row_rises e [] r = tt
  row_rises e (q ∷ qs) r =
      ((λ l i. let m = in_map_from (λ k. record { epoch = e; seq = k }) l qs i in subst (λ (z : Slot). e * s.parts + q < code z) (sym m.2) (omega (arith, r.0 m.0 m.1))), row_rises e qs r.1)

  slots_rise : (n : ℕ) → RisingBy code (slots_of s.parts n)
  slots_rise zero = tt
  slots_rise (suc n) =
      let one : List Slot = map (λ q. record { epoch = n; seq = q }) (numbers_below s.parts) in
      let a : slots_of s.parts (suc n) ≡ slots_of s.parts n ++ (one ++ []) = flat_map-append (λ d. map (λ r. record { epoch = d; seq = r }) (numbers_below s.parts)) (numbers_below n) (n ∷ []) in
      subst (λ l. RisingBy code l) (sym (a ∙ ap (λ l. slots_of s.parts n ++ l) (append-nil one)))
      (rising-append code (slots_of s.parts n) one (slots_rise n) (row_rises n (numbers_below s.parts) (below_rises s.parts))
      (λ l k i j.
      let f = flat_in (λ e. map (λ q. record { epoch = e; seq = q }) (numbers_below s.parts)) l (numbers_below n) i in
      let m = in_map_from (λ q. record { epoch = f.0; seq = q }) l (numbers_below s.parts) f.2 in
      let g = in_map_from (λ q. record { epoch = n; seq = q }) k (numbers_below s.parts) j in
      subst (λ (z : Slot). code z < code k) (sym m.2) (subst (λ (z : Slot). f.0 * s.parts + m.0 < code z) (sym g.2) (omega (arith, below_in m.0 s.parts m.1, less_product f.0 n s.parts (below_in f.0 n f.1))))))

  order_rises : RisingBy (λ x. (number s x).n) (order s)
  order_rises = flat_rises (slots s) (slots_rise (epochs s))

  pub rising : RisingIds s (order s)
  rising = go (order s) order_rises
    where
      go : (xs : List TxnId) → RisingBy (λ x. (number s x).n) xs → RisingIds s xs
      go [] r = tt
      go (x ∷ xs) r = ((λ y i. inl (r.0 y i)), go xs r.1)

  -- before it stand those of smaller number
  rising_parts : (pre : List TxnId) (x : TxnId) (post : List TxnId) → RisingBy (λ z. (number s z).n) (pre ++ x ∷ post) → ((y : TxnId) → IsIn y pre → (number s y).n < (number s x).n) × ((y : TxnId) → IsIn y post → (number s x).n < (number s y).n)
  rising_parts [] x post r = ((λ y i. absurd i), r.0)
  rising_parts (z ∷ pre) x post r =
      let ih = rising_parts pre x post r.1 in
      ((λ y i. ⊎_elim (λ (is : y ≡ z). subst (λ w. (number s w).n < (number s x).n) (sym is) (r.0 x (in_right x pre (x ∷ post) (inl refl)))) (λ j. ih.0 y j) i), ih.1)

  pub before_is : (x y : TxnId) → IsIn x s.ids → (IsIn y (before x (order s)) → IsIn y s.ids × NumberLt (number s y) (number s x)) × (IsIn y s.ids → NumberLt (number s y) (number s x) → IsIn y (before x (order s)))
  before_is x y i =
      let sp = split_at x (order s) (in_order s v x i) in
      let here : before x (order s) ≡ sp.0 = ap (before x) sp.2 ∙ before_split x sp.0 sp.1 (subst (λ l. ids_in x l ≤ 1) sp.2 (order_once s v x)) in
      let r = rising_parts sp.0 x sp.1 (subst (λ l. RisingBy (λ z. (number s z).n) l) sp.2 order_rises) in (
        (λ j. let k = subst (λ l. IsIn y l) here j in (order_in s y (subst (λ l. IsIn y l) (sym sp.2) (in_left y sp.0 (x ∷ sp.1) k)), inl (r.0 y k))),
        (λ j less.
            ⊎_elim
            (λ a. subst (λ l. IsIn y l) (sym here) a)
            (λ b. ⊎_elim
            (λ (is : y ≡ x). absurd (not_less x y (ap (λ (z : TxnId). z.0) is) (ap (λ z. (number s z).n) is) less))
            (λ c. absurd (not_more x y (r.1 y c) less))
            b)
            (in_cases y sp.0 (x ∷ sp.1) (subst (λ l. IsIn y l) sp.2 (in_order s v y j)))),
      )
    where
      not_less : (x y : TxnId) → y.0 ≡ x.0 → (number s y).n ≡ (number s x).n → NumberLt (number s y) (number s x) → ⊥
      not_less x y e f less = ⊎_elim (λ a. omega (arith, a, f)) (λ b. omega (arith, b.1, e)) less

      not_more : (x y : TxnId) → (number s x).n < (number s y).n → NumberLt (number s y) (number s x) → ⊥
      not_more x y h less = ⊎_elim (λ a. omega (arith, a, h)) (λ b. omega (arith, b.0, h)) less
