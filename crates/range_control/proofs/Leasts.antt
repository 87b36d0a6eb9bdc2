-- The least key and the least attempt of a list.
use Rattle.std.proofs.Common.{◌≡◌, List, [], ◌∷◌, Bool, true, false, arith}
use Rattle.std.proofs.lemmas.Bool.Decides.{nat_tests}
use Rattle.deneva_base.specs.declared.keys.Key.{Key}
use Rattle.deneva_base.specs.declared.numbers.Attempt.{Attempt}
use Rattle.deneva_base.specs.Keys.{key_eq, key_lt, attempt_eq, attempt_lt}
use Rattle.deneva_base.specs.Lists.{IsIn}
use Rattle.protocol_rules.specs.Least.{least_of}
use Rattle.protocol_rules.specs.Ranged.{least_or}
use Rattle.protocol_rules.proofs.Leasts.{Ordered, keys_ordered, attempts_ordered, least_in, least_under}
use Rattle.deneva_base.proofs.Membership.{key_decides, attempt_decides}

key_both : (a b : Key) → key_lt a b ≡ false → key_lt b a ≡ false → key_eq a b ≡ true
key_both a b e f = grind (arith, nat_tests)

attempt_both : (a b : Attempt) → attempt_lt a b ≡ false → attempt_lt b a ≡ false → attempt_eq a b ≡ true
attempt_both a b e f = grind (arith, nat_tests)

-- the one that none is below is the least
module _ {A : Type 0} (below : A → A → Bool) (order : Ordered below) (one : (a b : A) → below a b ≡ false → below b a ≡ false → a ≡ b) where
  same : (d : A) (xs : List A) (x : A) → IsIn x xs → ((y : A) → IsIn y xs → below y x ≡ false) → least_or below d xs ≡ x
  same d [] x i least = absurd i
  same d (y ∷ ys) x i least = one (least_of below y ys) x (least (least_of below y ys) (least_in below y ys)) (least_under below order y ys x i)

pub first_key_is : (d : Key) (ks : List Key) (k : Key) → IsIn k ks → ((q : Key) → IsIn q ks → key_lt q k ≡ false) → least_or key_lt d ks ≡ k
first_key_is = same key_lt keys_ordered (λ a b e f. (key_decides a b).0 (key_both a b e f))

pub first_attempt_is : (d : Attempt) (xs : List Attempt) (x : Attempt) → IsIn x xs → ((y : Attempt) → IsIn y xs → attempt_lt y x ≡ false) → least_or attempt_lt d xs ≡ x
first_attempt_is = same attempt_lt attempts_ordered (λ a b e f. (attempt_decides a b).0 (attempt_both a b e f))
