-- The places of batches.
use Rattle.std.proofs.Common.{◌≡◌, ◌≢◌, ℕ, zero, suc, ◌+◌, ◌*◌, ◌-◌, ◌<◌, ◌≤◌, List, [], ◌∷◌, ◌++◌, length, map, refl, sym, ap, ap₂, ◌∙◌, subst, ⊎_elim, arith}
use Rattle.std.specs.Prelude.{slice_set}
use Rattle.std.proofs.lemmas.Bool.Decides.{eqb_tells}
use Rattle.std.proofs.lemmas.Grind.{flat_map-append}
use Rattle.std.proofs.lemmas.List.{map-append, length-map, length-append, set-append_left, set-append_right, append-nil}
use Rattle.deneva_base.specs.Lists.{IsIn}
use Rattle.deneva_base.proofs.Membership.{in_cases, in_map_from}
use Rattle.txn_program.specs.Transactions.{numbers_below}
use Rattle.server_core.specs.GlobalOrder.{Slot, slots_of}
use Rattle.server_core.proofs.lists.ListTests.{below_length, map_same, below_in}

abbrev at : ℕ → ℕ → Slot
at e q = record { epoch = e; seq = q }

-- the batches of one epoch
abbrev row : ℕ → ℕ → List Slot
row parts e = map (at e) (numbers_below parts)

one_more : (parts n : ℕ) → slots_of parts (suc n) ≡ slots_of parts n ++ row parts n
one_more parts n = flat_map-append (λ d. map (λ r. record { epoch = d; seq = r }) (numbers_below parts)) (numbers_below n) (n ∷ []) ∙ ap (λ l. slots_of parts n ++ l) (append-nil (row parts n))

row_length : (parts e : ℕ) → length (row parts e) ≡ parts
row_length parts e = length-map (numbers_below parts) (at e) ∙ below_length parts

next_row : (n parts : ℕ) → suc n * parts ≡ n * parts + parts
next_row n parts = omega arith

pub slots_length : (parts n : ℕ) → length (slots_of parts n) ≡ n * parts
slots_length parts zero = omega arith
slots_length parts (suc n) =
    let one = row_length parts n in
    let more = length-append (slots_of parts n) (row parts n) in
    let before = slots_length parts n in
    let next = next_row n parts in
    ap {B = ℕ} (λ (l : List Slot). length l) (one_more parts n) ∙ omega (arith, one, more, before, next)

below_last : (e n : ℕ) → e < suc n → e ≢ n → e < n
below_last e n h ne = grind (arith, h, ne)

-- a place lies before those of the epochs that follow
pub place_below : (parts n e q : ℕ) → e < n → q < parts → e * parts + q < n * parts
place_below parts zero e q h k = absurd (omega (arith, h))
place_below parts (suc n) e q h k =
    ⊎_elim
    (λ t. subst (λ d. d * parts + q < suc n * parts) (sym t.1) last)
    (λ t. let less = place_below parts n e q (below_last e n h t.1) k in let next = next_row n parts in omega (arith, less, next))
    (eqb_tells e n)
  where
    last : n * parts + q < suc n * parts
    last = let next = next_row n parts in omega (arith, k, next)

map_twice : {A B C : Type 0} (f : B → C) (g : A → B) (xs : List A) → map f (map g xs) ≡ map (λ x. f (g x)) xs
map_twice f g [] = refl
map_twice f g (x ∷ xs) = ap (λ l. f (g x) ∷ l) (map_twice f g xs)

-- one word of a list of words by number is replaced
set_one : {A : Type 0} (f g : ℕ → A) (x : A) (q n : ℕ) → q < n → g q ≡ x → ((k : ℕ) → k ≢ q → g k ≡ f k) → slice_set (map f (numbers_below n)) q x ≡ map g (numbers_below n)
set_one f g x q zero h e other = absurd (omega (arith, h))
set_one {A} f g x q (suc n) h e other =
    let many : length (map f (numbers_below n)) ≡ n = length-map (numbers_below n) f ∙ below_length n in
    ap (λ l. slice_set l q x) (map-append f (numbers_below n) (n ∷ []))
    ∙ ⊎_elim
    (λ t. let is : q ≡ n = t.1 in
    set-append_right (map f (numbers_below n)) (f n ∷ []) n q x many (omega (arith, is))
    ∙ ap (λ k. map f (numbers_below n) ++ slice_set (f n ∷ []) k x) (none_left is)
    ∙ ap₂ (λ a b. a ++ b ∷ []) (map_same f g (numbers_below n) (λ k i. sym (other k (λ s. let low = below_in k n i in omega (arith, low, s, is))))) (sym e ∙ ap g is))
    (λ t. let less : q < n = below_last q n h t.1 in
    set-append_left (map f (numbers_below n)) (f n ∷ []) q x (omega (arith, less, many))
    ∙ ap₂ (λ a b. a ++ b ∷ []) (set_one f g x q n less e other) (sym (other n (λ s. t.1 (sym s)))))
    (eqb_tells q n)
    ∙ sym (map-append g (numbers_below n) (n ∷ []))
  where
    none_left : q ≡ n → q - n ≡ 0
    none_left is = omega (arith, is)

in_row : (parts e : ℕ) (l : Slot) → IsIn l (row parts e) → l.epoch ≡ e
in_row parts e l i = let f = in_map_from (at e) l (numbers_below parts) i in ap (λ (k : Slot). k.epoch) f.2

epoch_below : (parts n : ℕ) (l : Slot) → IsIn l (slots_of parts n) → l.epoch < n
epoch_below parts zero l i = absurd i
epoch_below parts (suc n) l i =
    ⊎_elim
    (λ a. let low = epoch_below parts n l a in omega (arith, low))
    (λ b. let is = in_row parts n l b in omega (arith, is))
    (in_cases l (slots_of parts n) (row parts n) (subst (λ ls. IsIn l ls) (one_more parts n) i))

-- what is said of each batch, where one is said anew at its place
pub set_slot : {A : Type 0} (f g : Slot → A) (x : A) (parts n e q : ℕ) → e < n → q < parts → g (at e q) ≡ x → ((l : Slot) → l ≢ at e q → g l ≡ f l) → slice_set (map f (slots_of parts n)) (e * parts + q) x ≡ map g (slots_of parts n)
set_slot f g x parts zero e q h k is other = absurd (omega (arith, h))
set_slot {A} f g x parts (suc n) e q h k is other =
    ap (λ l. slice_set (map f l) (e * parts + q) x) (one_more parts n)
    ∙ ap (λ l. slice_set l (e * parts + q) x) (map-append f (slots_of parts n) (row parts n))
    ∙ ⊎_elim
    (λ t. let last : e ≡ n = t.1 in
    set-append_right (map f (slots_of parts n)) (map f (row parts n)) (n * parts) (e * parts + q) x many (from_here last)
    ∙ ap (λ i. map f (slots_of parts n) ++ slice_set (map f (row parts n)) i x) (rest last)
    ∙ ap₂ (λ a b. a ++ b) (map_same f g (slots_of parts n) (λ l i. sym (other l (λ s. let low = epoch_below parts n l i in let same = ap (λ (z : Slot). z.epoch) s in omega (arith, low, same, last))))) (here last))
    (λ t. let less : e < n = below_last e n h t.1 in
    set-append_left (map f (slots_of parts n)) (map f (row parts n)) (e * parts + q) x (let low = place_below parts n e q less k in omega (arith, low, many))
    ∙ ap₂ (λ a b. a ++ b) (set_slot f g x parts n e q less k is other) (map_same f g (row parts n) (λ l i. sym (other l (λ s. let same = ap (λ (z : Slot). z.epoch) s in let its = in_row parts n l i in t.1 (sym same ∙ its))))))
    (eqb_tells e n)
    ∙ sym (map-append g (slots_of parts n) (row parts n))
    ∙ ap (map g) (sym (one_more parts n))
  where
    many : length (map f (slots_of parts n)) ≡ n * parts
    many = length-map (slots_of parts n) f ∙ slots_length parts n

    from_here : e ≡ n → n * parts ≤ e * parts + q
    from_here last = rw last (omega arith)

    rest : e ≡ n → e * parts + q - n * parts ≡ q
    rest last = rw last (omega arith)

    -- in the row of the epoch
    here : e ≡ n → slice_set (map f (row parts n)) q x ≡ map g (row parts n)
    here last =
        ap (λ l. slice_set l q x) (map_twice f (at n) (numbers_below parts))
        ∙ set_one (λ r. f (at n r)) (λ r. g (at n r)) x q parts k (ap (λ d. g (at d q)) (sym last) ∙ is) (λ r ne. other (at n r) (λ s. ne (ap (λ (z : Slot). z.seq) s)))
        ∙ sym (map_twice g (at n) (numbers_below parts))
