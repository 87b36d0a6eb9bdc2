-- Requests in their order: one more, and one less.
use Rattle.std.proofs.Common.{◌≡◌, ◌≢◌, ◌⊎◌, ◌<◌, List, [], ◌∷◌, filter, not, Bool, true, false, cond, ltb, refl, sym, ap, ◌∙◌, subst, inl, inr, ⊎_elim, arith, Some, None, true≢false}
use Rattle.std.proofs.lemmas.Bool.Decides.{nat_tests}
use Rattle.deneva_base.specs.declared.numbers.Attempt.{Attempt}
use Rattle.deneva_base.specs.Lists.{IsIn}
use Rattle.deneva_base.specs.Keys.{attempt_eq}
use Rattle.deneva_base.proofs.Membership.{filter_in, in_filter, attempt_tells}
use Rattle.lock_control.specs.declared.requests.Request.{Request}
use Rattle.lock_control.specs.Requests.{put_request, mode_in}
use Rattle.lock_control.specs.Standing.{Falling}

pub put_in : (r x : Request) (rs : List Request) → IsIn x (put_request r rs) → (x ≡ r) ⊎ IsIn x rs
put_in r x [] i = ⊎_elim (λ e. inl e) (λ b. absurd b) i
put_in r x (y ∷ ys) i = go (ltb r.stamp y.stamp) i (put_in r x ys)
  where
    go : (b : Bool) → IsIn x (cond b (y ∷ put_request r ys) (r ∷ y ∷ ys)) → (IsIn x (put_request r ys) → (x ≡ r) ⊎ IsIn x ys) → (x ≡ r) ⊎ IsIn x (y ∷ ys)
    go true j rest = ⊎_elim (λ e. inr (inl e)) (λ k. ⊎_elim (λ e. inl e) (λ l. inr (inr l)) (rest k)) j
    go false j rest = ⊎_elim (λ e. inl e) (λ k. inr k) j

pub in_put : (r x : Request) (rs : List Request) → (x ≡ r) ⊎ IsIn x rs → IsIn x (put_request r rs)
in_put r x [] i = i
in_put r x (y ∷ ys) i = go (ltb r.stamp y.stamp) (in_put r x ys)
  where
    go : (b : Bool) → ((x ≡ r) ⊎ IsIn x ys → IsIn x (put_request r ys)) → IsIn x (cond b (y ∷ put_request r ys) (r ∷ y ∷ ys))
    go true rest = ⊎_elim (λ e. inr (rest (inl e))) (λ j. ⊎_elim (λ e. inl e) (λ k. inr (rest (inr k))) j) i
    go false rest = ⊎_elim (λ e. inl e) (λ j. inr j) i

pub falling_put : (r : Request) (rs : List Request) → Falling rs → ((x : Request) → IsIn x rs → x.stamp ≢ r.stamp) → Falling (put_request r rs)
falling_put r [] f n = ((λ x i. absurd i), tt)
falling_put r (y ∷ ys) f n = go (ltb r.stamp y.stamp) refl (falling_put r ys f.1 (λ x i. n x (inr i)))
  where
    go : (b : Bool) → ltb r.stamp y.stamp ≡ b → Falling (put_request r ys) → Falling (cond b (y ∷ put_request r ys) (r ∷ y ∷ ys))
    go true e rest = let less : r.stamp < y.stamp = grind (arith, nat_tests, e) in ((λ x i. ⊎_elim (λ s. subst (λ (z : Request). z.stamp < y.stamp) (sym s) less) (λ j. f.0 x j) (put_in r x ys i)), rest)
    go false e rest =
        let apart = n y (inl refl) in
        let more : y.stamp < r.stamp = grind (arith, nat_tests, e, apart) in
        ((λ x i. ⊎_elim (λ s. subst (λ (z : Request). z.stamp < r.stamp) (sym s) more) (λ j. omega (arith, more, f.0 x j)) i), f)

pub falling_filter : (p : Request → Bool) (rs : List Request) → Falling rs → Falling (filter p rs)
falling_filter p [] f = tt
falling_filter p (y ∷ ys) f = go (p y) (falling_filter p ys f.1)
  where
    go : (b : Bool) → Falling (filter p ys) → Falling (cond b (y ∷ filter p ys) (filter p ys))
    go true rest = ((λ x i. f.0 x (filter_in p x ys i).0), rest)
    go false rest = rest

-- who is left where an attempt's are taken out
pub left_in : (who : Attempt) (x : Request) (rs : List Request) → IsIn x (filter (λ r. not (attempt_eq r.who who)) rs) → IsIn x rs × (x.who ≢ who)
left_in who x rs i = let f = filter_in (λ (r : Request). not (attempt_eq r.who who)) x rs i in (f.0, ⊎_elim (λ t. absurd (true≢false (sym f.1 ∙ ap not t.0))) (λ n. n.1) (attempt_tells x.who who))

pub in_left : (who : Attempt) (x : Request) (rs : List Request) → IsIn x rs → x.who ≢ who → IsIn x (filter (λ r. not (attempt_eq r.who who)) rs)
in_left who x rs i n = in_filter (λ (r : Request). not (attempt_eq r.who who)) x rs i (⊎_elim (λ t. absurd (n t.1)) (λ f. ap not f.0) (attempt_tells x.who who))

-- the mode of an attempt that has a request, or has none
pub mode_found : (who : Attempt) (rs : List Request) → ((x : Request) × IsIn x rs × (x.who ≡ who) × (mode_in who rs ≡ Some x.mode)) ⊎ (((x : Request) → IsIn x rs → x.who ≢ who) × (mode_in who rs ≡ None))
mode_found who [] = inr ((λ x i. absurd i), refl)
mode_found who (y ∷ ys) = ⊎_elim
    (λ t. inl (y, inl refl, t.1, rw t.0 refl))
    (λ f. ⊎_elim (λ m. inl (m.0, inr m.1, m.2, rw f.0 m.3)) (λ n. inr ((λ x i. ⊎_elim (λ s. subst (λ (z : Request). z.who ≢ who) (sym s) f.1) (λ j. n.0 x j) i), rw f.0 n.1)) (mode_found who ys))
    (attempt_tells y.who who)

-- nothing to take out
pub filter_none : (who : Attempt) (rs : List Request) → ((x : Request) → IsIn x rs → x.who ≢ who) → filter (λ r. not (attempt_eq r.who who)) rs ≡ rs
filter_none who [] n = refl
filter_none who (y ∷ ys) n = ⊎_elim (λ t. absurd (n y (inl refl) t.1)) (λ f. rw f.0 (ap (λ l. y ∷ l) (filter_none who ys (λ x i. n x (inr i))))) (attempt_tells y.who who)
