-- The eights of a list are slices of it.
use Rattle.std.proofs.Common.{◌≡◌, ◌<◌, ◌≤◌, ◌+◌, ◌*◌, ℕ, zero, suc, List, [], ◌∷◌, ◌++◌, length, get_or, take, drop, refl, sym, ap, ◌∙◌, subst, ⊎_elim, arith, length-drop}
use Rattle.std.proofs.lemmas.List.{take_all, take_more, drop-drop, get_or-drop}
use Rattle.std.proofs.lemmas.Bool.{cases_eq}
use Rattle.server_core.specs.GlobalOrder.{eight}
use Rattle.server_core.specs.Setting.{take_first, drop_first}

first_taken : {A : Type 0} (n : ℕ) (xs : List A) → take_first n xs ≡ take n xs
first_taken zero xs = refl
first_taken (suc n) [] = refl
first_taken (suc n) (x ∷ xs) = ap (λ l. x ∷ l) (first_taken n xs)

first_dropped : {A : Type 0} (n : ℕ) (xs : List A) → drop_first n xs ≡ drop n xs
first_dropped zero xs = refl
first_dropped (suc n) [] = refl
first_dropped (suc n) (x ∷ xs) = first_dropped n xs

eight_is : {A : Type 0} (e : ℕ) (xs : List A) → eight e xs ≡ take 8 (drop (e * 8) xs)
eight_is zero xs = first_taken 8 xs
eight_is (suc e) xs =
    let next : 8 + e * 8 ≡ suc e * 8 = omega arith in
    eight_is e (drop_first 8 xs)
    ∙ ap (λ l. take 8 (drop (e * 8) l)) (first_dropped 8 xs)
    ∙ ap (take 8) (drop-drop (e * 8) 8 xs)
    ∙ ap (λ (k : ℕ). take 8 (drop k xs)) next

-- those so far are an eight, where eight are taken or none is left
pub eight_taken : {A : Type 0} (e n : ℕ) (xs : List A) → n ≤ 8 → (n < 8 → length xs ≤ e * 8 + n) → take n (drop (e * 8) xs) ≡ eight e xs
eight_taken e n xs most short =
    ⊎_elim
    (λ (same : n ≡ 8). subst (λ (k : ℕ). take k (drop (e * 8) xs) ≡ eight e xs) (sym same) (sym (eight_is e xs)))
    (λ ne.
    let left : length (drop (e * 8) xs) ≤ n = omega (arith, short (omega (arith, most, ne)), length-drop (e * 8) xs) in
    take_all n (drop (e * 8) xs) left ∙ sym (take_all 8 (drop (e * 8) xs) (omega (arith, left, most))) ∙ sym (eight_is e xs))
    (cases_eq n 8)

-- one more
pub taken_more : {A : Type 0} (k n : ℕ) (xs : List A) (d : A) → k + n < length xs → take (n + 1) (drop k xs) ≡ take n (drop k xs) ++ get_or xs (k + n) d ∷ []
taken_more k n xs d less =
    take_more (drop k xs) n d (omega (arith, less, length-drop k xs))
    ∙ ap (λ y. take n (drop k xs) ++ y ∷ []) (get_or-drop k xs n d)
