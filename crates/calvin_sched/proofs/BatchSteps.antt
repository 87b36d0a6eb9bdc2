-- The first batches of a list, as far as all came.
use Rattle.std.proofs.Common.{◌≡◌, ℕ, zero, suc, ◌+◌, ◌<◌, ◌≤◌, List, [], ◌∷◌, ◌++◌, drop, length, get_or, slice_set, is_some, Option, Bool, true, false, cond, Some, None, sym, ap, ◌∙◌, arith, append_assoc}
use Rattle.std.specs.List.{flat_map}
use Rattle.std.proofs.lemmas.List.{drop_more}
use Rattle.deneva_base.specs.declared.numbers.TxnId.{TxnId}
use Rattle.server_core.specs.CalvinScheduler.{as_far}
use Rattle.calvin_sched.specs.Batches.{ids_in}

-- as many as there are at a place, and those from there on
pub as_far_split : {A : Type 0} (f : A → Bool) (xs : List A) (n : ℕ) → n ≤ length (as_far f xs) → length (as_far f xs) ≡ n + length (as_far f (drop n xs))
as_far_split f xs zero less = omega arith
as_far_split f [] (suc n) less = absurd (omega (arith, less))
as_far_split f (x ∷ xs) (suc n) less = go (f x) less (as_far_split f xs n)
  where
    go : (b : Bool) → suc n ≤ length (cond b (x ∷ as_far f xs) []) → (n ≤ length (as_far f xs) → length (as_far f xs) ≡ n + length (as_far f (drop n xs))) → length (cond b (x ∷ as_far f xs) []) ≡ suc n + length (as_far f (drop n xs))
    go true l rest = let e = rest (omega (arith, l)) in omega (arith, e)
    go false l rest = absurd (omega (arith, l))

-- one more that is there makes it no shorter
pub as_far_set : {A : Type 0} (xs : List (Option A)) (n : ℕ) (x : A) → length (as_far is_some xs) ≤ length (as_far is_some (slice_set xs n (Some x)))
as_far_set [] n x = omega arith
as_far_set (None ∷ xs) n x = omega arith
as_far_set (Some y ∷ xs) zero x = omega arith
as_far_set (Some y ∷ xs) (suc n) x = let less = as_far_set xs n x in omega (arith, less)

-- one more batch is taken
pub taken_step : (list : List (Option (List TxnId))) (i : ℕ) (fresh batch : List TxnId) → i < length list → get_or list i None ≡ Some batch → (fresh ++ batch) ++ flat_map ids_in (as_far is_some (drop (i + 1) list)) ≡ fresh ++ flat_map ids_in (as_far is_some (drop i list))
taken_step list i fresh batch less e =
    append_assoc fresh batch (flat_map ids_in (as_far is_some (drop (i + 1) list)))
    ∙ ap (λ x. fresh ++ flat_map ids_in (as_far is_some (x ∷ drop (i + 1) list))) (sym e)
    ∙ ap (λ l. fresh ++ flat_map ids_in (as_far is_some l)) (sym (drop_more list i None less))
