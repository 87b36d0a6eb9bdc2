-- Lists in chunks.
use Rattle.std.proofs.Common.{◌≡◌, ℕ, zero, suc, ◌+◌, ◌-◌, ◌<◌, ◌≤◌, List, [], ◌∷◌, ◌++◌, length, take, drop, slice_get, Some, refl, ap, ◌∙◌, sym, subst, append_assoc, length-append, arith, map}
use Rattle.std.specs.Prelude.{slice_set}
use Rattle.std.specs.List.{remove}
use Rattle.std.proofs.lemmas.List.{append-nil, drop_all, nil_from_length}
use Rattle.std.proofs.lemmas.List.Edits.{remove-append_left, remove-append_right}
use Rattle.world.specs.Chunks.{joined, LiesAt}

pub joined-append : {A : Type 0} (xs ys : List (List A)) → joined (xs ++ ys) ≡ joined xs ++ joined ys
joined-append [] ys = refl
joined-append (x ∷ xs) ys = ap (λ t. x ++ t) (joined-append xs ys) ∙ sym (append_assoc x (joined xs) (joined ys))

-- an empty chunk at the end adds nothing
pub joined-open : {A : Type 0} (xs : List (List A)) → joined (xs ++ [] ∷ []) ≡ joined xs
joined-open xs = joined-append xs ([] ∷ []) ∙ append-nil (joined xs)

-- the list around its i-th item
pub parted : {A : Type 0} (xs : List A) (i : ℕ) (x : A) → slice_get xs i ≡ Some x → xs ≡ take i xs ++ x ∷ drop (suc i) xs
parted [] zero x e = cc (e)
parted [] (suc i) x e = cc (e)
parted (y ∷ xs) zero x e = let is : y ≡ x = cc in ap (λ z. z ∷ xs) is
parted (y ∷ xs) (suc i) x e = ap (λ t. y ∷ t) (parted xs i x e)

pub set-parted : {A : Type 0} (xs : List A) (i : ℕ) (x y : A) → slice_get xs i ≡ Some x → slice_set xs i y ≡ take i xs ++ y ∷ drop (suc i) xs
set-parted [] zero x y e = cc (e)
set-parted [] (suc i) x y e = cc (e)
set-parted (z ∷ xs) zero x y e = refl
set-parted (z ∷ xs) (suc i) x y e = ap (λ t. z ∷ t) (set-parted xs i x y e)

pub joined-at : {A : Type 0} (xs : List (List A)) (i : ℕ) (c : List A) → slice_get xs i ≡ Some c → joined xs ≡ joined (take i xs) ++ (c ++ joined (drop (suc i) xs))
joined-at xs i c e = ap joined (parted xs i c e) ∙ joined-append (take i xs) (c ∷ drop (suc i) xs)

pub joined-set : {A : Type 0} (xs : List (List A)) (i : ℕ) (c d : List A) → slice_get xs i ≡ Some c → joined (slice_set xs i d) ≡ joined (take i xs) ++ (d ++ joined (drop (suc i) xs))
joined-set xs i c d e = ap joined (set-parted xs i c d e) ∙ joined-append (take i xs) (d ∷ drop (suc i) xs)

-- an item past these
pub get-right : {A : Type 0} (xs ys : List A) (i : ℕ) → slice_get (xs ++ ys) (length xs + i) ≡ slice_get ys i
get-right [] ys i = ap (slice_get ys) {x = 0 + i} {y = i} (omega arith)
get-right (x ∷ xs) ys i = ap (slice_get (x ∷ xs ++ ys)) {x = length (x ∷ xs) + i} {y = suc (length xs + i)} (omega arith) ∙ get-right xs ys i

pub get-left : {A : Type 0} (xs ys : List A) (i : ℕ) → i < length xs → slice_get (xs ++ ys) i ≡ slice_get xs i
get-left [] ys i h = absurd (omega (arith, h))
get-left (x ∷ xs) ys zero h = refl
get-left (x ∷ xs) ys (suc i) h = get-left xs ys i (omega (arith, h))

module _ {A : Type 0} (chunks : List (List A)) (index chunk place : ℕ) (lies : LiesAt chunks index chunk place) (c : List A) (at : slice_get chunks chunk ≡ Some c) where
  abbrev before : List A
  before = joined (take chunk chunks)

  abbrev after : List A
  after = joined (drop (suc chunk) chunks)

  pub item_at : slice_get (joined chunks) index ≡ slice_get c place
  item_at =
      ap (λ l. slice_get l index) (joined-at chunks chunk c at)
      ∙ ap (slice_get (before ++ (c ++ after))) (sym lies.index_is)
      ∙ get-right before (c ++ after) place
      ∙ get-left c after place (lies.place_in c at)

  -- without the item its chunk lacks it
  pub removed_at : joined (slice_set chunks chunk (remove c place)) ≡ remove (joined chunks) index
  removed_at =
      joined-set chunks chunk c (remove c place) at
      ∙ ap (λ t. before ++ t) (sym (remove-append_left c after place (lies.place_in c at)))
      ∙ ap (λ n. before ++ remove (c ++ after) n) {x = place} {y = index - length before} (let e = lies.index_is in omega (arith, e))
      ∙ sym (remove-append_right before (c ++ after) (length before) index refl (let e = lies.index_is in omega (arith, e)))
      ∙ ap (λ l. remove l index) (sym (joined-at chunks chunk c at))

  pub index_in : index < length (joined chunks)
  index_in =
      let whole : length (joined chunks) ≡ length (before ++ (c ++ after)) = ap length (joined-at chunks chunk c at) in
      let place_in : place < length c = lies.place_in c at in
      let sum = lies.index_is in
      omega (arith, whole, place_in, sum, length-append before (c ++ after), length-append c after)

-- some chunk is left where an item is
pub some_left : {A : Type 0} (chunks : List (List A)) (k place : ℕ) → place < length (joined (drop k chunks)) → k < length chunks
some_left [] zero place h = absurd (omega (arith, h))
some_left [] (suc k) place h = absurd (omega (arith, h))
some_left (c ∷ chunks) zero place h = omega arith
some_left (c ∷ chunks) (suc k) place h = let l = some_left chunks k place h in omega (arith, l)

pub drop-parted : {A : Type 0} (xs : List A) (i : ℕ) (x : A) → slice_get xs i ≡ Some x → drop i xs ≡ x ∷ drop (suc i) xs
drop-parted [] zero x e = cc (e)
drop-parted [] (suc i) x e = cc (e)
drop-parted (y ∷ xs) zero x e = let is : y ≡ x = cc in ap (λ z. z ∷ xs) is
drop-parted (y ∷ xs) (suc i) x e = drop-parted xs i x e

pub take-parted : {A : Type 0} (xs : List A) (i : ℕ) (x : A) → slice_get xs i ≡ Some x → take (suc i) xs ≡ take i xs ++ x ∷ []
take-parted [] zero x e = cc (e)
take-parted [] (suc i) x e = cc (e)
take-parted (y ∷ xs) zero x e = let is : y ≡ x = cc in ap (λ z. z ∷ []) is
take-parted (y ∷ xs) (suc i) x e = ap (λ t. y ∷ t) (take-parted xs i x e)

-- one chunk on
pub one_on : {A : Type 0} (chunks : List (List A)) (k place index : ℕ) (c : List A) → slice_get chunks k ≡ Some c → length c ≤ place → place < length (joined (drop k chunks)) → length (joined (take k chunks)) + place ≡ index
    → (place - length c < length (joined (drop (k + 1) chunks))) × (length (joined (take (k + 1) chunks)) + (place - length c) ≡ index)
one_on chunks k place index c at past inside sum =
    let is : k + 1 ≡ suc k = omega arith in
    let rest : length (joined (drop k chunks)) ≡ length (c ++ joined (drop (suc k) chunks)) = ap (λ l. length (joined l)) (drop-parted chunks k c at) in
    let front : length (joined (take (suc k) chunks)) ≡ length (joined (take k chunks ++ c ∷ [])) = ap (λ l. length (joined l)) (take-parted chunks k c at) in
    let more : length (joined (take k chunks ++ c ∷ [])) ≡ length (joined (take k chunks) ++ (c ++ [])) = ap length (joined-append (take k chunks) (c ∷ [])) in
    rw is (
      omega (arith, past, inside, rest, length-append c (joined (drop (suc k) chunks))),
      omega (arith, past, sum, front, more, length-append (joined (take k chunks)) (c ++ []), length-append c []),
    )

pub lies_here : {A : Type 0} (chunks : List (List A)) (k place index : ℕ) (c : List A) → slice_get chunks k ≡ Some c → place < length c → k < length chunks → length (joined (take k chunks)) + place ≡ index → LiesAt chunks index k place
lies_here chunks k place index c at place_in chunk_in sum = record {
  chunk_in = chunk_in;
  place_in = λ d e. let is : c ≡ d = cc in subst (λ l. place < length l) is place_in;
  index_is = sum;
}

pub map-remove : {A B : Type 0} (f : A → B) (xs : List A) (i : ℕ) → map f (remove xs i) ≡ remove (map f xs) i
map-remove f [] zero = refl
map-remove f [] (suc i) = refl
map-remove f (x ∷ xs) zero = refl
map-remove f (x ∷ xs) (suc i) = ap (λ t. f x ∷ t) (map-remove f xs i)

-- one more item in the last chunk
pub push-last : {A : Type 0} (chunks : List (List A)) (c : List A) (x : A) (n : ℕ) → length chunks ≡ n → 0 < n → slice_get chunks (n - 1) ≡ Some c → joined (slice_set chunks (n - 1) (c ++ x ∷ [])) ≡ joined chunks ++ x ∷ []
push-last chunks c x n is some at =
    let none : drop (suc (n - 1)) chunks ≡ [] = drop_all (suc (n - 1)) chunks (omega (arith, is, some)) in
    joined-set chunks (n - 1) c (c ++ x ∷ []) at
    ∙ ap (λ l. joined (take (n - 1) chunks) ++ ((c ++ x ∷ []) ++ joined l)) none
    ∙ ap (λ l. joined (take (n - 1) chunks) ++ l) (append-nil (c ++ x ∷ []))
    ∙ sym (append_assoc (joined (take (n - 1) chunks)) c (x ∷ []))
    ∙ ap (λ l. (joined (take (n - 1) chunks) ++ l) ++ x ∷ []) (sym (append-nil c))
    ∙ ap (λ l. (joined (take (n - 1) chunks) ++ (c ++ joined l)) ++ x ∷ []) (sym none)
    ∙ ap (λ l. l ++ x ∷ []) (sym (joined-at chunks (n - 1) c at))

-- an empty chunk has no items
pub close_at : {A : Type 0} (chunks : List (List A)) (i : ℕ) (c : List A) → slice_get chunks i ≡ Some c → length c ≡ 0 → joined (remove chunks i) ≡ joined chunks
close_at chunks i c at none =
    joined-append (take i chunks) (drop (suc i) chunks)
    ∙ ap (λ l. joined (take i chunks) ++ (l ++ joined (drop (suc i) chunks))) (sym (nil_from_length c none))
    ∙ sym (joined-at chunks i c at)

-- the chunks up to one, and that one
pub joined_one : {A : Type 0} (chunks : List (List A)) (i : ℕ) (c : List A) → slice_get chunks i ≡ Some c → joined (take (i + 1) chunks) ≡ joined (take i chunks) ++ c
joined_one chunks i c at =
    let is : i + 1 ≡ suc i = omega arith in
    ap (λ n. joined (take n chunks)) is ∙ ap joined (take-parted chunks i c at) ∙ joined-append (take i chunks) (c ∷ []) ∙ ap (λ l. joined (take i chunks) ++ l) (append-nil c)

pub short_front : {A : Type 0} (chunks : List (List A)) (i : ℕ) (c : List A) → slice_get chunks i ≡ Some c → length (joined (take i chunks)) + length c ≤ length (joined chunks)
short_front chunks i c at =
    let whole = ap length (joined-at chunks i c at) in
    omega (arith, whole, length-append (joined (take i chunks)) (c ++ joined (drop (suc i) chunks)), length-append c (joined (drop (suc i) chunks)))

-- an item of two lists is one of the first or of the second
pub append_cases : {A P : Type 0} (xs ys : List A) (i : ℕ) (x : A) → slice_get (xs ++ ys) i ≡ Some x → (slice_get xs i ≡ Some x → P) → ((j : ℕ) → slice_get ys j ≡ Some x → P) → P
append_cases [] ys i x e left right = right i e
append_cases (y ∷ xs) ys zero x e left right = left e
append_cases (y ∷ xs) ys (suc i) x e left right = append_cases xs ys i x e left right

-- a chunk takes the items of the next one, which goes
pub join_next : {A : Type 0} (chunks : List (List A)) (i j : ℕ) (a b : List A) → j ≡ suc i → slice_get (slice_set chunks j []) i ≡ Some a → slice_get chunks j ≡ Some b → joined (remove (slice_set (slice_set chunks j []) i (a ++ b)) j) ≡ joined chunks
join_next {A = A} chunks i j a b is at next = rw is (go chunks i (subst (λ n. slice_get (slice_set chunks n []) i ≡ Some a) is at) (subst (λ n. slice_get chunks n ≡ Some b) is next))
  where
    go : (xs : List (List A)) (i : ℕ) → slice_get (slice_set xs (suc i) []) i ≡ Some a → slice_get xs (suc i) ≡ Some b → joined (remove (slice_set (slice_set xs (suc i) []) i (a ++ b)) (suc i)) ≡ joined xs
    go [] zero e f = cc
    go [] (suc i) e f = cc
    go (x ∷ []) zero e f = cc (f)
    go (x ∷ y ∷ rest) zero e f =
        let first : x ≡ a = cc in
        let second : y ≡ b = cc in
        append_assoc a b (joined rest) ∙ ap (λ l. l ++ (b ++ joined rest)) (sym first) ∙ ap (λ l. x ++ (l ++ joined rest)) (sym second)
    go (x ∷ rest) (suc i) e f = ap (λ l. x ++ l) (go rest i e f)

-- both stay as they were
pub join_undone : {A : Type 0} (chunks : List (List A)) (i j : ℕ) (a b e : List A) → j ≡ suc i → slice_get (slice_set chunks j e) i ≡ Some a → slice_get chunks j ≡ Some b → slice_set (slice_set (slice_set chunks j e) i a) j b ≡ chunks
join_undone {A = A} chunks i j a b e is at next = rw is (go chunks i (subst (λ n. slice_get (slice_set chunks n e) i ≡ Some a) is at) (subst (λ n. slice_get chunks n ≡ Some b) is next))
  where
    go : (xs : List (List A)) (i : ℕ) → slice_get (slice_set xs (suc i) e) i ≡ Some a → slice_get xs (suc i) ≡ Some b → slice_set (slice_set (slice_set xs (suc i) e) i a) (suc i) b ≡ xs
    go [] zero e f = refl
    go [] (suc i) e f = refl
    go (x ∷ []) zero e f = cc (f)
    go (x ∷ y ∷ rest) zero e f =
        let first : x ≡ a = cc in
        let second : y ≡ b = cc in
        ap (λ l. l ∷ b ∷ rest) (sym first) ∙ ap (λ l. x ∷ l ∷ rest) (sym second)
    go (x ∷ rest) (suc i) e f = ap (λ l. x ∷ l) (go rest i e f)
