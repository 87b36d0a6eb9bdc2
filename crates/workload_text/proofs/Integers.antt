-- A number with its sign is a number of a file.
use Rattle.std.proofs.Common.{◌≡◌, ℕ, suc, ◌-◌, ◌^◌, ◌≤◌, ◌<◌, true, false, not, ◌&&◌, List, [], ◌∷◌, refl, sym, ap, ◌∙◌, arith, Ok, Err, inl, inr}
use Rattle.std.specs.Prelude.{ℤ, pos, negsuc, neg_ℤ, int_le, int_lt, codes, if◌then◌else◌}
use Rattle.std.specs.Fmt.{decimal}
use Rattle.std.specs.List.{list_all}
use Rattle.std.specs.Str.{bytes_eq}
use Rattle.std.proofs.lemmas.Bool.{and_parts, and_from, leb-true, ne_eqb, false≢true, not_from_true, not_from_false, or_left, or_right, cases_Bool}
use Rattle.std.proofs.lemmas.Slice.Eq.{bytes_eq-Decides}
use Rattle.workload_text.specs.declared.faults.FaultKind.TheVariants.{OutOfRange}
use Rattle.workload_text.specs.FileText.{signed}
use Rattle.workload_text.specs.Numbers.{is_digit, value_of, has_sign, integer_of, is_integer, integer_in}
use Rattle.workload_text.proofs.Decimals.{digits_of_decimal, is_number-decimal, value_of-decimal}
use Rattle.workload_text.proofs.FileRecords.{if_false, if_true}

-- a number of 64 bits
abbrev pub IsSmall : ℤ → Type 0
IsSmall (pos n) = n < 2 ^ 64
IsSmall (negsuc n) = suc n < 2 ^ 64

-- a column's numbers have 64 bits
pub small_between : (low high k : ℤ) → int_le (negsuc (2 ^ 63 - 1)) low ≡ true → int_le high (pos (2 ^ 63 - 1)) ≡ true → int_le low k ≡ true → int_le k high ≡ true → IsSmall k
small_between low (pos m) (pos n) least most above below =
    let a = leb-true n m below in
    let b = leb-true m (2 ^ 63 - 1) most in
    omega (arith, a, b)
small_between low (negsuc m) (pos n) least most above below = absurd (false≢true below)
small_between (pos m) high (negsuc n) least most above below = absurd (false≢true above)
small_between (negsuc m) high (negsuc n) least most above below =
    let a = leb-true n m above in
    let b = leb-true m (2 ^ 63 - 1) least in
    omega (arith, a, b)

no_sign : (ds : List ℕ) → list_all is_digit ds ≡ true → has_sign ds ≡ false
no_sign [] h = refl
no_sign (b ∷ ds) h = let low : 48 ≤ b = leb-true 48 b (and_parts _ _ (and_parts _ _ h).0).0 in ne_eqb b 45 (λ e. absurd (omega arith))

not_0 : (n : ℕ) → suc n < 2 ^ 64 → bytes_eq (decimal (suc n)) (codes "0") ≡ false
not_0 n h = elim (cases_Bool (bytes_eq (decimal (suc n)) (codes "0"))) [
  | inl same ↦
      let e : suc n ≡ 0 = sym (value_of-decimal (suc n) h) ∙ ap value_of ((bytes_eq-Decides (decimal (suc n)) (codes "0")).0 same) in
      absurd (omega arith)
  | inr other ↦ other
]

low_below_0 : (low : ℤ) (n : ℕ) → int_le low (negsuc n) ≡ true → int_lt low (pos 0) ≡ true
low_below_0 (pos m) n h = absurd (false≢true h)
low_below_0 (negsuc m) n h = refl

-- a field of this value between the limits is read
read_back : (low high k : ℤ) (field : List ℕ) → is_integer low field ≡ true → integer_of field ≡ k → int_le low k ≡ true → int_le k high ≡ true → integer_in low high field ≡ Ok k
read_back low high k field is value above below =
    if_false (not (is_integer low field)) _ _ (not_from_true _ is)
    ∙ ap (λ (v : ℤ). if int_le low v && int_le v high then Ok v else Err OutOfRange) value
    ∙ if_true (int_le low k && int_le k high) _ _ (and_from _ _ above below)

pub integer_in-signed : (low high k : ℤ) → IsSmall k → int_le low k ≡ true → int_le k high ≡ true → integer_in low high (signed k) ≡ Ok k
integer_in-signed low high (pos n) small above below =
    read_back low high (pos n) (decimal n) (or_left _ _ (is_number-decimal n small))
    (if_false (has_sign (decimal n)) _ _ (no_sign (decimal n) (digits_of_decimal n small)) ∙ ap pos (value_of-decimal n small)) above below
integer_in-signed low high (negsuc n) small above below =
    read_back low high (negsuc n) (45 ∷ decimal (suc n))
    (or_right _ _ (and_from _ _ (low_below_0 low n above) (and_from _ _ (is_number-decimal (suc n) small) (not_from_false _ (not_0 n small)))))
    (ap (λ m. neg_ℤ (pos m)) (value_of-decimal (suc n) small)) above below
