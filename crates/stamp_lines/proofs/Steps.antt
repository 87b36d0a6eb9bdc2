-- One step of the loops of this crate.
use Rattle.std.proofs.Common.{◌≡◌, ℕ, zero, suc, ◌+◌, ◌<◌, List, [], ◌∷◌, ◌++◌, map, take, drop, length, get_or, slice_set, refl, ap, arith}
use Rattle.stamp_lines.specs.declared.requests.Request.{Request}

pub got_at : (f : Request → Request) (xs : List Request) (n : ℕ) (d : Request) → n < length xs → get_or (map f (take n xs) ++ drop n xs) n d ≡ get_or xs n d
got_at f [] n d less = absurd (omega (arith, less))
got_at f (x ∷ xs) zero d less = refl
got_at f (x ∷ xs) (suc n) d less = got_at f xs n d (omega (arith, less))

pub set_one : (f : Request → Request) (xs : List Request) (n : ℕ) (d : Request) → n < length xs → slice_set (map f (take n xs) ++ drop n xs) n (f (get_or xs n d)) ≡ map f (take (suc n) xs) ++ drop (suc n) xs
set_one f [] n d less = absurd (omega (arith, less))
set_one f (x ∷ xs) zero d less = refl
set_one f (x ∷ xs) (suc n) d less = ap (λ l. f x ∷ l) (set_one f xs n d (omega (arith, less)))

-- one more element is changed
pub set_step : (f : Request → Request) (xs ys : List Request) (n : ℕ) (d r : Request) → n < length xs → ys ≡ map f (take n xs) ++ drop n xs → r ≡ f (get_or ys n d) → slice_set ys n r ≡ map f (take (n + 1) xs) ++ drop (n + 1) xs
set_step f xs ys n d r less is e = let next : n + 1 ≡ suc n = omega arith in rw (e, is, got_at f xs n d less, next) (set_one f xs n d less)
