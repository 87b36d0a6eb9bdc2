-- The iterator over pairs gives the pairs of the definition.
use Rattle.std.proofs.Common.{◌≡◌, ◌≤◌, ℕ, Bool, List, [], ◌∷◌, map, length, refl, ap, arith, string_bytes, Bor}
use Rattle.std.specs.Prelude.{◌||◌}
use Rattle.std.specs.List.{list_any}
use Rattle.std.specs.Iterator.{YieldsFirstBy}
use Rattle.std.proofs.lemmas.Iterator.{YieldsList}
use Rattle.std.proofs.lemmas.Iterator.Consumers.{YieldsList-from_shown}
use Rattle.deneva_top.specs.declared.options.Pairs.{Pairs}
use Rattle.deneva_top.specs.Options.{Given, pairs_of}

abbrev pub left : Pairs → List Given
left s = pairs_of (map string_bytes s.0.now)

abbrev pub seen : Bor (List ℕ) × Bor (List ℕ) → Given
seen p = (p.0.now, p.1.now)

pub pairs_yield : (s : Pairs) → YieldsList (YieldsFirstBy seen left) seen s (left s)
pairs_yield s = YieldsList-from_shown (YieldsFirstBy seen left) seen left (λ s t h. ap length h.0) (λ s x t h. h) s

pub fewer_pairs : (words : List (List ℕ)) → length (pairs_of words) ≤ length words
fewer_pairs [] = omega arith
fewer_pairs (word ∷ []) = omega arith
fewer_pairs (name ∷ value ∷ words) = let more = fewer_pairs words in omega arith

pub list_any-map : {X Y : Type 0} (p : X → Bool) (h : Y → X) (ys : List Y) → list_any p (map h ys) ≡ list_any (λ y. p (h y)) ys
list_any-map p h [] = refl
list_any-map p h (y ∷ ys) = ap (λ b. p (h y) || b) (list_any-map p h ys)
