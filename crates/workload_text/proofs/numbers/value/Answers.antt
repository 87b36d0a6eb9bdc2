use Rattle.std.proofs.Common.{◌≡◌, ◌<◌, ◌≤◌, ◌+◌, ◌-◌, ◌*◌, ℕ, List, [], ◌∷◌, length, get_or, take, drop, arith, ◌∙◌, sym, ap}
use Rattle.std.specs.List.{fold}
use Rattle.std.proofs.lemmas.List.{take-append-drop, take_all}
use Rattle.std.proofs.lemmas.List.Sums.{fold-append, fold_more}
use Rattle.workload_text.specs.Numbers.{value_of}
use Rattle.workload_text.proofs.numbers.value.Goals as goal

abbrev step : ℕ → ℕ → ℕ
step n b = 10 * n + (b - 48)

-- more digits spell no smaller number
grows : (n : ℕ) (digits : List ℕ) → n ≤ fold step n digits
grows n [] = omega arith
grows n (b ∷ digits) = let more = grows (step n b) digits in omega arith

first_digits : (digits : List ℕ) (i : ℕ) → value_of (take i digits) ≤ value_of digits
first_digits digits i =
    let whole : value_of digits ≡ fold step (value_of (take i digits)) (drop i digits) = ap value_of (sym (take-append-drop i digits)) ∙ fold-append step 0 (take i digits) (drop i digits) in
    let more = grows (value_of (take i digits)) (drop i digits) in
    omega arith

one_more : (digits : List ℕ) (i : ℕ) → i < length digits → step (value_of (take i digits)) (get_or digits i 0) ≤ value_of digits
one_more digits i h =
    let next = fold_more step 0 digits i 0 h in
    let more = first_digits digits (i + 1) in
    omega arith

pub returns-in_err-checked_mul : goal.returns-in_err-checked_mul
returns-in_err-checked_mul c =
    let more = one_more c.args.digits.now c.loop-b.b-index c.loop-b-test.true in
    let is = c.loop-b.invariant.is in
    let none = c.from_residual.ensures in
    rw none (λ small. absurd (c.in_err-checked_mul.ensures (omega arith)))

pub returns-in_err-n : goal.returns-in_err-n
returns-in_err-n c =
    let more = one_more c.args.digits.now c.loop-b.b-index c.loop-b-test.true in
    let is = c.loop-b.invariant.is in
    let ten = c.in_ok-checked_mul.ensures in
    let digit = c.saturating_sub.ensures in
    let same = c.from.ensures in
    let none = c.from_residual-in_err-n.ensures in
    rw none (λ small. absurd (c.in_err-n.ensures (omega arith)))

pub returns : goal.returns
returns c =
    let is : c.loop-b.n ≡ value_of c.args.digits.now = c.loop-b.invariant.is ∙ ap value_of (take_all c.loop-b.b-index c.args.digits.now c.loop-b-test.false) in
    (rw (← is) c.loop-b.invariant.fits, is)
