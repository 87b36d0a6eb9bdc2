-- What votes decide does not depend on their order.
use Rattle.std.proofs.Common.{◌≡◌, ℕ, ltb, max, min, List, [], ◌∷◌, ◌++◌, reverse, Bool, true, false, cond, ◌||◌, leb, None, Some, refl, ap, ◌∙◌, arith}
use Rattle.std.specs.List.{list_any}
use Rattle.std.proofs.lemmas.Grind.{reverse_onto}
use Rattle.deneva_base.specs.Lists.{greatest_by, least_by}
use Rattle.deneva_base.specs.declared.numbers.Attempt.{Attempt}
use Rattle.deneva_base.specs.declared.answers.Vote.{Vote}
use Rattle.deneva_base.specs.declared.answers.Vote.TheVariants.{Yes, No}
use Rattle.deneva_base.specs.declared.causes.Cause.{Cause}
use Rattle.server_core.specs.Coordinator.{decision, first_no, no_in, greatest_lo, least_hi, lo_of, hi_of}
use Rattle.server_core.specs.declared.ballots.Ballot.{Ballot}
use Rattle.server_core.specs.declared.messages.Msg.TheVariants as messages
use Rattle.coord.specs.Ballots.{is_no, says_no}

-- a fold that takes no order, over a list and back
any_push : {A : Type 0} (p : A → Bool) (xs : List A) (x : A) → list_any p (xs ++ x ∷ []) ≡ (p x || list_any p xs)
any_push p [] x = refl
any_push p (y ∷ ys) x = rw (any_push p ys x) (swap (p y) (p x))
  where
    swap : (a b : Bool) → (a || (b || list_any p ys)) ≡ (b || (a || list_any p ys))
    swap true true = refl
    swap true false = refl
    swap false true = refl
    swap false false = refl

greatest_push : {A : Type 0} (f : A → ℕ) (xs : List A) (x : A) → greatest_by f (xs ++ x ∷ []) ≡ max (f x) (greatest_by f xs)
greatest_push f [] x = refl
greatest_push f (y ∷ ys) x = omega (arith, greatest_push f ys x)

least_push : {A : Type 0} (f : A → ℕ) (xs : List A) (x : A) → least_by f (xs ++ x ∷ []) ≡ min (f x) (least_by f xs)
least_push f [] x = refl
least_push f (y ∷ ys) x = omega (arith, least_push f ys x)

back_more : (b : Ballot) (bs : List Ballot) → reverse (b ∷ bs) ≡ reverse bs ++ b ∷ []
back_more b bs = reverse_onto bs b []

any_back : (bs : List Ballot) → list_any says_no (reverse bs) ≡ list_any says_no bs
any_back [] = refl
any_back (b ∷ bs) = ap (list_any says_no) (back_more b bs) ∙ any_push says_no (reverse bs) b ∙ ap (λ t. says_no b || t) (any_back bs)

greatest_back : (bs : List Ballot) → greatest_lo (reverse bs) ≡ greatest_lo bs
greatest_back [] = refl
greatest_back (b ∷ bs) = ap greatest_lo (back_more b bs) ∙ greatest_push (λ (b : Ballot). lo_of b.vote) (reverse bs) b ∙ ap (max (lo_of b.vote)) (greatest_back bs)

least_back : (bs : List Ballot) → least_hi (reverse bs) ≡ least_hi bs
least_back [] = refl
least_back (b ∷ bs) = ap least_hi (back_more b bs) ∙ least_push (λ (b : Ballot). hi_of b.vote) (reverse bs) b ∙ ap (min (hi_of b.vote)) (least_back bs)

-- a No is an abort, wherever it stands
module _ (who : Attempt) (all : List Ballot) where
  kept : (x : ℕ × Cause) (bs : List Ballot) → decision who all (first_no (Some x) bs) ≡ messages.Abort who
  kept x [] = refl
  kept x (b ∷ bs) = one b.vote (λ y. kept y bs)
    where
      either : (c : Bool) (y : ℕ × Cause) → ((z : ℕ × Cause) → decision who all (first_no (Some z) bs) ≡ messages.Abort who) → decision who all (first_no (cond c (Some y) (Some x)) bs) ≡ messages.Abort who
      either true y more = more y
      either false y more = more x

      one : (v : Vote) → ((z : ℕ × Cause) → decision who all (first_no (Some z) bs) ≡ messages.Abort who) → decision who all (first_no (no_in (Some x) b.part v) bs) ≡ messages.Abort who
      one (Yes lo hi) more = more x
      one (No cause) more = either (ltb b.part x.0) (b.part, cause) more

  decided : (bs : List Ballot) → decision who all (first_no None bs) ≡ cond (list_any says_no bs) (messages.Abort who) (decision who all None)
  decided [] = refl
  decided (b ∷ bs) = one b.vote (decided bs)
    where
      one : (v : Vote) → decision who all (first_no None bs) ≡ cond (list_any says_no bs) (messages.Abort who) (decision who all None) → decision who all (first_no (no_in None b.part v) bs) ≡ cond (is_no v || list_any says_no bs) (messages.Abort who) (decision who all None)
      one (Yes lo hi) more = more
      one (No cause) more = kept (b.part, cause) bs

-- what the votes decide, by three questions that take no order
pub decides : (who : Attempt) (bs : List Ballot) → decision who (reverse bs) (first_no None (reverse bs)) ≡ cond (list_any says_no bs) (messages.Abort who) (cond (leb (greatest_lo bs) (least_hi bs)) (messages.Commit who (record { n = greatest_lo bs; id = who.txn })) (messages.Abort who))
decides who bs = decided who (reverse bs) (reverse bs) ∙ rw (any_back bs, greatest_back bs, least_back bs) refl
