-- Counts of mails, split over nodes.
use Rattle.std.proofs.Common.{◌≡◌, ◌≢◌, ℕ, ◌+◌, ◌≤◌, List, [], ◌∷◌, Bool, true, false, cond, ◌&&◌, eqb, refl, sym, ap, subst, inl, inr, ⊎_elim, arith}
use Rattle.std.specs.List.{list_any}
use Rattle.std.proofs.lemmas.Bool.Decides.{nat_tests, eqb_tells}
use Rattle.deneva_base.specs.Lists.{IsIn}
use Rattle.deneva_base.proofs.Membership.{any_at, any_found}
use Rattle.server_core.specs.declared.messages.Msg.{Msg}
use Rattle.server_core.specs.declared.messages.Mail.{Mail}
use Rattle.server_core.specs.Limits.{sum_of}
use Rattle.server_core.specs.Counts.{count, count_msgs}
use Rattle.server_core.proofs.counts.Conserved.{in_counted}
use Rattle.server_core.proofs.counts.Prepares.{occurs}
use Rattle.server_core.proofs.values.Values.{find_msg}
use Rattle.voting_laws.proofs.fits.Lands.{msg_counted}

pub bool_same : (a b : Bool) → (a ≡ true → b ≡ true) → (b ≡ true → a ≡ true) → a ≡ b
bool_same true true f g = refl
bool_same true false f g = sym (f refl)
bool_same false true f g = g refl
bool_same false false f g = refl

-- 1 where a test passes
abbrev pub one_if : Bool → ℕ
one_if b = cond b 1 0

pub zero_if : (n : ℕ) → (1 ≤ n → ⊥) → n ≡ 0
zero_if n h = grind (arith, h)

pub sum_zero : {A : Type 0} (f : A → ℕ) (xs : List A) → ((x : A) → IsIn x xs → f x ≡ 0) → sum_of f xs ≡ 0
sum_zero f [] h = refl
sum_zero f (x ∷ xs) h = omega (arith, h x (inl refl), sum_zero f xs (λ y i. h y (inr i)))

pub sum_plus : {A : Type 0} (f g : A → ℕ) (xs : List A) → sum_of (λ x. f x + g x) xs ≡ sum_of f xs + sum_of g xs
sum_plus f g [] = refl
sum_plus f g (x ∷ xs) = omega (arith, sum_plus f g xs)

-- where all but p give nothing
sum_none : (f : ℕ → ℕ) (p : ℕ) (qs : List ℕ) → ((q : ℕ) → q ≢ p → f q ≡ 0) → occurs p qs ≡ 0 → sum_of f qs ≡ 0
sum_none f p [] none h = refl
sum_none f p (q ∷ qs) none h =
    ⊎_elim
    (λ t. let h' : 1 + occurs p qs ≡ 0 = subst (λ b. cond b 1 0 + occurs p qs ≡ 0) t.0 h in absurd (omega (arith, h')))
    (λ t. omega (arith, none q t.1, sum_none f p qs none (omega (arith, h))))
    (eqb_tells q p)

pub sum_at : (f : ℕ → ℕ) (p : ℕ) (qs : List ℕ) → ((q : ℕ) → q ≢ p → f q ≡ 0) → occurs p qs ≡ 1 → sum_of f qs ≡ f p
sum_at f p [] none h = absurd (omega (arith, h))
sum_at f p (q ∷ qs) none h =
    ⊎_elim
    (λ t. let h' : 1 + occurs p qs ≡ 1 = subst (λ b. cond b 1 0 + occurs p qs ≡ 1) t.0 h in omega (arith, ap f t.1, sum_none f p qs none (omega (arith, h'))))
    (λ t. let h' : 0 + occurs p qs ≡ 1 = subst (λ b. cond b 1 0 + occurs p qs ≡ 1) t.0 h in omega (arith, none q t.1, sum_at f p qs none (omega (arith, h'))))
    (eqb_tells q p)

pub count_none : (t : Mail → Bool) (xs : List Mail) → ((x : Mail) → IsIn x xs → t x ≡ true → ⊥) → count t xs ≡ 0
count_none t xs h = zero_if (count t xs) (λ one. let x = in_counted t xs one in h x.0 x.1 x.2)

pub count_same : (t u : Mail → Bool) (xs : List Mail) → ((x : Mail) → IsIn x xs → t x ≡ u x) → count t xs ≡ count u xs
count_same t u [] h = refl
count_same t u (x ∷ xs) h = omega (arith, ap one_if (h x (inl refl)), count_same t u xs (λ y i. h y (inr i)))

-- each mail that passes passes one of the tests
pub spread : {A : Type 0} (all : Mail → Bool) (t : A → Mail → Bool) (slots : List A) (xs : List Mail) → ((x : Mail) → IsIn x xs → cond (all x) 1 0 ≡ sum_of (λ a. cond (t a x) 1 0) slots) → count all xs ≡ sum_of (λ a. count (t a) xs) slots
spread all t slots [] h = sym (sum_zero (λ a. 0) slots (λ a i. refl))
spread all t slots (x ∷ xs) h = omega (arith, h x (inl refl), spread all t slots xs (λ y i. h y (inr i)), sum_plus (λ a. cond (t a x) 1 0) (λ a. count (t a) xs) slots)

sum_tests : (n : ℕ) (qs : List ℕ) → sum_of (λ q. cond (eqb n q) 1 0) qs ≡ occurs n qs
sum_tests n [] = refl
sum_tests n (q ∷ qs) = omega (arith, turned n q, sum_tests n qs)
  where
    turned : (a b : ℕ) → one_if (eqb a b) ≡ one_if (eqb b a)
    turned a b = grind (arith, nat_tests)

-- a mail to one of them
pub to_one : (b : Bool) (n : ℕ) (qs : List ℕ) → (b ≡ true → occurs n qs ≡ 1) → one_if b ≡ sum_of (λ q. cond (b && eqb n q) 1 0) qs
to_one true n qs h = omega (arith, h refl, sum_tests n qs)
to_one false n qs h = sym (sum_zero (λ q. 0) qs (λ q i. refl))

-- a mail of one of them, to h
pub of_one : (b : Bool) (part to h : ℕ) (qs : List ℕ) → (b ≡ true → (to ≡ h) × (occurs part qs ≡ 1)) → one_if b ≡ sum_of (λ q. cond ((b && eqb part q) && eqb to h) 1 0) qs
of_one true part to h qs k =
    let e : eqb to h ≡ true = same to h (k refl).0 in
    subst (λ z. ◌≡◌ {A = ℕ} 1 (sum_of (λ q. cond (eqb part q && z) 1 0) qs)) (sym e) (omega (arith, (k refl).1, sum_tests part qs, alike qs))
  where
    same : (a b : ℕ) → a ≡ b → eqb a b ≡ true
    same a b e = grind (arith, nat_tests, e)

    alike : (qs : List ℕ) → sum_of (λ q. cond (eqb part q && true) 1 0) qs ≡ sum_of (λ q. cond (eqb part q) 1 0) qs
    alike [] = refl
    alike (q ∷ qs) = omega (arith, either (eqb part q), alike qs)
      where
        either : (b : Bool) → one_if (b && true) ≡ one_if b
        either true = refl
        either false = refl
of_one false part to h qs k = sym (sum_zero (λ q. 0) qs (λ q i. refl))

pub occurs_there : (q : ℕ) (xs : List ℕ) → IsIn q xs → 1 ≤ occurs q xs
occurs_there q [] i = absurd i
occurs_there q (x ∷ xs) i = ⊎_elim (λ (is : q ≡ x). ⊎_elim (λ t. rw t.0 (omega arith)) (λ t. absurd (t.1 (sym is))) (eqb_tells x q)) (λ r. omega (arith, occurs_there q xs r)) i

pub any_counted : (t : Msg → Bool) (ms : List Msg) → 1 ≤ count_msgs t ms → list_any t ms ≡ true
any_counted t ms h = let m = find_msg t ms h in any_at t m.0 ms m.1 m.2

pub counted_any : (t : Msg → Bool) (ms : List Msg) → list_any t ms ≡ true → 1 ≤ count_msgs t ms
counted_any t ms e = let m = any_found t ms e in msg_counted t ms m.0 m.1 m.2
