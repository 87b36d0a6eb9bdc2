-- Requests in their order: one more, and one less.
use Rattle.std.proofs.Common.{◌≡◌, ◌≢◌, ◌⊎◌, ◌<◌, List, [], ◌∷◌, filter, not, Bool, true, false, cond, ltb, refl, sym, ap, ◌∙◌, subst, inl, inr, ⊎_elim, arith, true≢false}
use Rattle.std.proofs.lemmas.Bool.Decides.{nat_tests}
use Rattle.deneva_base.specs.declared.keys.Key.{Key}
use Rattle.deneva_base.specs.declared.numbers.Attempt.{Attempt}
use Rattle.deneva_base.specs.Lists.{IsIn}
use Rattle.deneva_base.specs.Keys.{attempt_eq}
use Rattle.deneva_base.proofs.Membership.{filter_in, in_filter, attempt_tells}
use Rattle.stamp_lines.specs.declared.requests.Request.{Request}
use Rattle.stamp_lines.specs.Requests.{put_request, without}
use Rattle.key_table.specs.Keys.{same_key}
use Rattle.key_table.proofs.Places.{same_tells, same_self}
use Rattle.stamp_lines.specs.Standing.{Rising}

pub put_in : (r x : Request) (rs : List Request) → IsIn x (put_request r rs) → (x ≡ r) ⊎ IsIn x rs
put_in r x [] i = ⊎_elim (λ e. inl e) (λ b. absurd b) i
put_in r x (y ∷ ys) i = go (ltb y.stamp r.stamp) i (put_in r x ys)
  where
    go : (b : Bool) → IsIn x (cond b (y ∷ put_request r ys) (r ∷ y ∷ ys)) → (IsIn x (put_request r ys) → (x ≡ r) ⊎ IsIn x ys) → (x ≡ r) ⊎ IsIn x (y ∷ ys)
    go true j rest = ⊎_elim (λ e. inr (inl e)) (λ k. ⊎_elim (λ e. inl e) (λ l. inr (inr l)) (rest k)) j
    go false j rest = ⊎_elim (λ e. inl e) (λ k. inr k) j

pub in_put : (r x : Request) (rs : List Request) → (x ≡ r) ⊎ IsIn x rs → IsIn x (put_request r rs)
in_put r x [] i = i
in_put r x (y ∷ ys) i = go (ltb y.stamp r.stamp) (in_put r x ys)
  where
    go : (b : Bool) → ((x ≡ r) ⊎ IsIn x ys → IsIn x (put_request r ys)) → IsIn x (cond b (y ∷ put_request r ys) (r ∷ y ∷ ys))
    go true rest = ⊎_elim (λ e. inr (rest (inl e))) (λ j. ⊎_elim (λ e. inl e) (λ k. inr (rest (inr k))) j) i
    go false rest = ⊎_elim (λ e. inl e) (λ j. inr j) i

pub rising_put : (r : Request) (rs : List Request) → Rising rs → ((x : Request) → IsIn x rs → x.stamp ≢ r.stamp) → Rising (put_request r rs)
rising_put r [] f n = ((λ x i. absurd i), tt)
rising_put r (y ∷ ys) f n = go (ltb y.stamp r.stamp) refl (rising_put r ys f.1 (λ x i. n x (inr i)))
  where
    go : (b : Bool) → ltb y.stamp r.stamp ≡ b → Rising (put_request r ys) → Rising (cond b (y ∷ put_request r ys) (r ∷ y ∷ ys))
    go true e rest = let less : y.stamp < r.stamp = grind (arith, nat_tests, e) in ((λ x i. ⊎_elim (λ s. subst (λ (z : Request). y.stamp < z.stamp) (sym s) less) (λ j. f.0 x j) (put_in r x ys i)), rest)
    go false e rest =
        let apart = n y (inl refl) in
        let more : r.stamp < y.stamp = grind (arith, nat_tests, e, apart) in
        ((λ x i. ⊎_elim (λ s. subst (λ (z : Request). r.stamp < z.stamp) (sym s) more) (λ j. omega (arith, more, f.0 x j)) i), f)

pub rising_filter : (p : Request → Bool) (rs : List Request) → Rising rs → Rising (filter p rs)
rising_filter p [] f = tt
rising_filter p (y ∷ ys) f = go (p y) (rising_filter p ys f.1)
  where
    go : (b : Bool) → Rising (filter p ys) → Rising (cond b (y ∷ filter p ys) (filter p ys))
    go true rest = ((λ x i. f.0 x (filter_in p x ys i).0), rest)
    go false rest = rest

-- who is left where an attempt's are taken out
pub left_in : (who : Attempt) (x : Request) (rs : List Request) → IsIn x (filter (λ r. not (attempt_eq r.who who)) rs) → IsIn x rs × (x.who ≢ who)
left_in who x rs i = let f = filter_in (λ (r : Request). not (attempt_eq r.who who)) x rs i in (f.0, ⊎_elim (λ t. absurd (true≢false (sym f.1 ∙ ap not t.0))) (λ n. n.1) (attempt_tells x.who who))

pub in_left : (who : Attempt) (x : Request) (rs : List Request) → IsIn x rs → x.who ≢ who → IsIn x (filter (λ r. not (attempt_eq r.who who)) rs)
in_left who x rs i n = in_filter (λ (r : Request). not (attempt_eq r.who who)) x rs i (⊎_elim (λ t. absurd (n t.1)) (λ f. ap not f.0) (attempt_tells x.who who))

-- nothing to take out
pub filter_none : (who : Attempt) (rs : List Request) → ((x : Request) → IsIn x rs → x.who ≢ who) → filter (λ r. not (attempt_eq r.who who)) rs ≡ rs
filter_none who [] n = refl
filter_none who (y ∷ ys) n = ⊎_elim (λ t. absurd (n y (inl refl) t.1)) (λ f. rw f.0 (ap (λ l. y ∷ l) (filter_none who ys (λ x i. n x (inr i))))) (attempt_tells y.who who)

-- what was put and is taken out
pub put_taken : (r : Request) (rs : List Request) → ((x : Request) → IsIn x rs → x.who ≢ r.who) → without r.who (put_request r rs) ≡ rs
put_taken r [] n = ⊎_elim (λ t. rw t.0 refl) (λ f. absurd (f.1 refl)) (attempt_tells r.who r.who)
put_taken r (y ∷ ys) n = go (ltb y.stamp r.stamp) (put_taken r ys (λ x i. n x (inr i)))
  where
    go : (b : Bool) → without r.who (put_request r ys) ≡ ys → without r.who (cond b (y ∷ put_request r ys) (r ∷ y ∷ ys)) ≡ y ∷ ys
    go true rest = ⊎_elim (λ t. absurd (n y (inl refl) t.1)) (λ f. rw f.0 (ap (λ l. y ∷ l) rest)) (attempt_tells y.who r.who)
    go false rest = ⊎_elim (λ t. rw t.0 (filter_none r.who (y ∷ ys) n)) (λ f. absurd (f.1 refl)) (attempt_tells r.who r.who)

pub undone : (key : Key) (r : Request) (old more new : Key → List Request) → ((x : Request) → IsIn x (old key) → x.who ≢ r.who) → ((k : Key) → more k ≡ cond (same_key key k) (put_request r (old key)) (old k)) → ((k : Key) → new k ≡ cond (same_key key k) (without r.who (more key)) (more k)) → (k : Key) → new k ≡ old k
undone key r old more new once e f k = ⊎_elim
    (λ t.
    let here : more key ≡ put_request r (old key) = e key ∙ ap (λ b. cond b (put_request r (old key)) (old key)) (same_self same_key same_tells key) in
    f k ∙ ap (λ b. cond b (without r.who (more key)) (more k)) t.0 ∙ ap (without r.who) here ∙ put_taken r (old key) once ∙ ap old t.1)
    (λ n. f k ∙ ap (λ b. cond b (without r.who (more key)) (more k)) n.0 ∙ e k ∙ ap (λ b. cond b (put_request r (old key)) (old k)) n.0)
    (same_tells key k)
