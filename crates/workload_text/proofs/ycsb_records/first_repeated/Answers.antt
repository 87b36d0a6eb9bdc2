use Rattle.std.proofs.Common.{◌≡◌, ◌∙◌, ℕ, ◌+◌, ◌<◌, List, ◌∷◌, Bool, true, false, not, ◌||◌, cond, Some, drop, length, get_or, drop-cons, add-one, eqb, refl, ap, sym, arith}
use Rattle.std.specs.List.{list_any}
use Rattle.std.specs.Ordering.{nat_cmp, is_eq}
use Rattle.std.proofs.lemmas.Bool.Decides.{nat_tests}
use Rattle.workload_text.specs.Ycsb.{first_repeated}
use Rattle.workload_text.specs.declared.steps.Placed.{Placed}
use Rattle.workload_text.proofs.ycsb_records.first_repeated.Goals as goal

next : (steps : List Placed) (i : ℕ) (p : Placed) → i < length steps → p ≡ get_or steps i p → drop i steps ≡ p ∷ drop (i + 1) steps
next steps i p h is =
    let e : drop i steps ≡ get_or steps i p ∷ drop (i + 1) steps = rw add-one (drop-cons steps i p h) in
    e ∙ ap (λ (q : Placed). q ∷ drop (i + 1) steps) (sym is)

found : (keys : List ℕ) (steps rest : List Placed) (p : Placed) → steps ≡ p ∷ rest → list_any (λ key. eqb key p.step.key) keys ≡ true → first_repeated keys steps ≡ Some p.field_no
found keys steps rest p e h = rw (e, h) refl

passed : (keys : List ℕ) (steps rest : List Placed) (p : Placed) → steps ≡ p ∷ rest → list_any (λ key. eqb key p.step.key) keys ≡ false → first_repeated (p.step.key ∷ keys) rest ≡ first_repeated keys steps
passed keys steps rest p e h = rw (e, h) refl

was : (added b : Bool) → added ≡ not b → added ≡ false → b ≡ true
was added true e h = refl
was added false e h = absurd (cc)

was_not : (added b : Bool) → added ≡ not b → added ≡ true → b ≡ false
was_not added true e h = absurd (cc)
was_not added false e h = refl

nat_cmp_eq : (m n : ℕ) → is_eq (nat_cmp m n) ≡ eqb m n
nat_cmp_eq m n = grind (arith, nat_tests)

chosen : (t b c : Bool) → b ≡ c → cond t true b ≡ t || c
chosen true b c e = refl
chosen false b c e = e

-- a set with one key more has the keys of a list with one more
one_more : (key q : ℕ) (new old : Bool) (keys : List ℕ) → new ≡ cond (is_eq (nat_cmp key q)) true old → old ≡ list_any (λ k. eqb k q) keys → new ≡ list_any (λ k. eqb k q) (key ∷ keys)
one_more key q new old keys e h = e ∙ rw (nat_cmp_eq key q) (chosen (eqb key q) old (list_any (λ k. eqb k q) keys) h)

pub returns-then-not-branch : goal.returns-then-not-branch
returns-then-not-branch c =
    let inv = c.loop-placed.invariant in
    let p = c.placed-item.result in
    let left = next c.args.steps.now c.loop-placed.placed-index p c.loop-placed-test.true c.placed-item.is in
    let here = sym (inv.1 p.step.key) ∙ was _ _ c.in_ok-insert.ensures.added c.if-not-branch.true in
    sym (found inv.0 _ _ p left here) ∙ inv.2

pub loop-placed-preserved : goal.loop-placed-preserved
loop-placed-preserved c =
    let inv = c.loop-placed.invariant in
    let p = c.placed-item.result in
    let left = next c.args.steps.now c.loop-placed.placed-index p c.loop-placed-test.true c.placed-item.is in
    let none = sym (inv.1 p.step.key) ∙ was_not _ _ c.in_ok-insert.ensures.added c.if-not-branch.false in (
      p.step.key ∷ inv.0,
      (λ q. one_more p.step.key q _ _ inv.0 (c.in_ok-insert.ensures.updates.0 q) (inv.1 q)),
      passed inv.0 _ _ p left none ∙ inv.2,
    )
