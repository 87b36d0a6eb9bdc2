-- A number's decimal is a number of a file.
use Rattle.std.proofs.Common.{◌≡◌, ℕ, zero, suc, ◌+◌, ◌-◌, ◌*◌, ◌^◌, ◌≤◌, ◌<◌, true, false, not, ◌&&◌, List, [], ◌∷◌, get_or, refl, ap, rules, arith, Ok}
use Rattle.std.specs.Prelude.{nat_le}
use Rattle.std.specs.Fmt.{decimal}
use Rattle.std.specs.List.{list_all, fold}
use Rattle.std.proofs.lemmas.Bool.{and_parts, and_from, le-leb, ne_eqb, not_from_true, not_from_false}
use Rattle.std.proofs.lemmas.Fmt.{decimal_digit, digits_decimal, digits_value-decimal, first_decimal}
use Rattle.std.proofs.lemmas.Str.Parse.{IsNumeralModel, numerals_by_fold}
use Rattle.workload_text.specs.Numbers.{is_digit, is_number, value_of, number_in}

own : IsNumeralModel (λ ds. list_all is_digit ds ≡ true) value_of
own = numerals_by_fold _ (search rules) (λ n bytes. fold (λ k b. 10 * k + (b - 48)) n bytes) (search rules)

pub digits_of_decimal : (n : ℕ) → n < 2 ^ 64 → list_all is_digit (decimal n) ≡ true
digits_of_decimal n h = digits_decimal own n h

without_zero : (ds : List ℕ) → list_all is_digit ds ≡ true → 48 < get_or ds 0 0 → is_number ds ≡ true
without_zero [] h first = absurd (omega arith)
without_zero (b ∷ []) h first = (and_parts _ _ h).0
without_zero (b ∷ c ∷ ds) h first = and_from _ _ (and_from _ _ (and_parts _ _ h).0 (not_from_false _ (ne_eqb b 48 (λ e. absurd (omega arith))))) (and_parts _ _ h).1

pub is_number-decimal : (n : ℕ) → n < 2 ^ 64 → is_number (decimal n) ≡ true
is_number-decimal zero h = ap is_number (decimal_digit 0 (omega arith))
is_number-decimal (suc n) h = without_zero (decimal (suc n)) (digits_of_decimal (suc n) h) (first_decimal (suc n) (omega arith) h)

pub value_of-decimal : (n : ℕ) → n < 2 ^ 64 → value_of (decimal n) ≡ n
value_of-decimal n h = digits_value-decimal own n h

-- a number between the limits is read from its decimal
pub number_in-decimal : (low high n : ℕ) → low ≤ n → n ≤ high → n < 2 ^ 64 → number_in low high (decimal n) ≡ Ok n
number_in-decimal low high n above below h =
    let value : value_of (decimal n) ≡ n = digits_value-decimal own n h in
    let number : not (is_number (decimal n)) ≡ false = not_from_true _ (is_number-decimal n h) in
    let within : (nat_le low n && nat_le n high) ≡ true = and_from _ _ (le-leb low n above) (le-leb n high below) in
    rw (number, value, within) refl
