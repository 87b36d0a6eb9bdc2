-- How many requests write.
use Rattle.std.proofs.Common.{◌≡◌, ◌+◌, ◌≤◌, List, [], ◌∷◌, map, Bool, true, false, not, cond, ltb, refl, sym, ap, ap₂, ◌∙◌, subst, ⊎_elim, arith}
use Rattle.std.specs.Prelude.{count_by}
use Rattle.std.proofs.lemmas.List.Recursion.{is_count_by}
use Rattle.deneva_base.specs.declared.keys.Key.{Key}
use Rattle.deneva_base.specs.declared.keys.Mode.{Mode}
use Rattle.deneva_base.specs.declared.numbers.Attempt.{Attempt}
use Rattle.deneva_base.specs.Keys.{attempt_eq}
use Rattle.deneva_base.specs.Lists.{IsIn}
use Rattle.deneva_base.specs.Modes.{writes}
use Rattle.deneva_base.proofs.Membership.{attempt_tells}
use Rattle.stamp_lines.specs.declared.requests.Request.{Request}
use Rattle.stamp_lines.specs.declared.lines.Waiter.{Waiter}
use Rattle.stamp_lines.specs.Requests.{put_request, without}
use Rattle.stamp_lines.specs.Tables.{all_granted}
use Rattle.stamp_lines.proofs.Waking.{granted_by, granted_requests, by_same}
use Rattle.stamp_control.specs.Changes.{writers_in}

pub writers_put : (r : Request) (rs : List Request) → writers_in (put_request r rs) ≡ cond (writes r.mode) 1 0 + writers_in rs
writers_put r [] = refl
writers_put r (x ∷ xs) = go (ltb x.stamp r.stamp) (writers_put r xs)
  where
    go : (b : Bool) → writers_in (put_request r xs) ≡ cond (writes r.mode) 1 0 + writers_in xs → writers_in (cond b (x ∷ put_request r xs) (r ∷ x ∷ xs)) ≡ cond (writes r.mode) 1 0 + (cond (writes x.mode) 1 0 + writers_in xs)
    go true e =
        let r : cond (writes x.mode) 1 0 + writers_in (put_request r xs) ≡ cond (writes r.mode) 1 0 + (cond (writes x.mode) 1 0 + writers_in xs) = omega (arith, e) in
        r
    go false e = refl

-- one that is granted or waits writes as before
pub writers_granted : (ws : List Waiter) (key : Key) (rs : List Request) → writers_in (all_granted ws key rs) ≡ writers_in rs
writers_granted ws key rs = ap writers_in (granted_requests ws key rs) ∙ go rs
  where
    go : (xs : List Request) → writers_in (map (granted_by ws key) xs) ≡ writers_in xs
    go [] = refl
    go (x ∷ xs) = ap₂ (λ (m : Mode) n. cond (writes m) 1 0 + n) (by_same ws key x).2 (go xs)

pub writers_less : (who : Attempt) (rs : List Request) → writers_in (without who rs) ≤ writers_in rs
writers_less who [] = omega arith
writers_less who (x ∷ xs) = go (not (attempt_eq x.who who)) (writers_less who xs)
  where
    go : (b : Bool) → writers_in (without who xs) ≤ writers_in xs → writers_in (cond b (x ∷ without who xs) (without who xs)) ≤ cond (writes x.mode) 1 0 + writers_in xs
    go true e =
        let r : cond (writes x.mode) 1 0 + writers_in (without who xs) ≤ cond (writes x.mode) 1 0 + writers_in xs = omega (arith, e) in
        r
    go false e = omega (arith, e)

-- without one that writes there is one less
pub writers_one_less : (who : Attempt) (r : Request) (rs : List Request) → IsIn r rs → r.who ≡ who → writes r.mode ≡ true → writers_in (without who rs) + 1 ≤ writers_in rs
writers_one_less who r [] i e w = absurd i
writers_one_less who r (x ∷ xs) i e w = ⊎_elim
    (λ s.
    let mine : not (attempt_eq x.who who) ≡ false = ⊎_elim (λ t. ap not t.0) (λ f. absurd (f.1 (sym (ap (λ (z : Request). z.who) s) ∙ e))) (attempt_tells x.who who) in
    let writer : writes x.mode ≡ true = sym (ap (λ (z : Request). writes z.mode) s) ∙ w in
    let less = writers_less who xs in
    subst (λ b. writers_in (cond b (x ∷ without who xs) (without who xs)) + 1 ≤ cond (writes x.mode) 1 0 + writers_in xs) (sym mine)
    (subst (λ b. writers_in (without who xs) + 1 ≤ cond b 1 0 + writers_in xs) (sym writer) (omega (arith, less))))
    (λ j. go (not (attempt_eq x.who who)) (writers_one_less who r xs j e w))
    i
  where
    go : (b : Bool) → writers_in (without who xs) + 1 ≤ writers_in xs → writers_in (cond b (x ∷ without who xs) (without who xs)) + 1 ≤ cond (writes x.mode) 1 0 + writers_in xs
    go true f =
        let r : cond (writes x.mode) 1 0 + writers_in (without who xs) + 1 ≤ cond (writes x.mode) 1 0 + writers_in xs = omega (arith, f) in
        r
    go false f = omega (arith, f)

-- as a count
count_step : (r : Request) (rs : List Request) → writers_in (r ∷ rs) ≡ cond (writes r.mode) (1 + writers_in rs) (writers_in rs)
count_step r rs = go (writes r.mode)
  where
    go : (b : Bool) → cond b 1 0 + writers_in rs ≡ cond b (1 + writers_in rs) (writers_in rs)
    go true = refl
    go false = omega arith

pub writers_count : (rs : List Request) → writers_in rs ≡ count_by (λ r. writes r.mode) rs
writers_count rs = is_count_by writers_in (λ r. writes r.mode) refl count_step rs
