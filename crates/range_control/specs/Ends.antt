-- Ends of windows, each with what gives it.
use Rattle.std.specs.Prelude.{◌^◌, max, List, [], ◌∷◌, Bool, ◌||◌, ◌&&◌, ◌==◌, nat_lt, Option, Some, None, if◌then◌else◌}
use Rattle.deneva_base.specs.declared.numbers.Attempt.{Attempt}
use Rattle.deneva_base.specs.declared.causes.Bound.{Bound}
use Rattle.deneva_base.specs.Keys.{attempt_lt, key_lt}
use Rattle.range_control.specs.declared.ends.Upper.{Upper}

-- the lesser upper end comes first, and of equal ones that of the lesser attempt
abbrev pub upper_before : Upper → Upper → Bool
upper_before a b = nat_lt a.n b.n || ((a.n == b.n) && attempt_lt a.by b.by)

-- the greater lower end comes first, and of equal ones that of the lesser key
abbrev pub lower_before : Bound → Bound → Bool
lower_before a b = nat_lt b.n a.n || ((b.n == a.n) && key_lt a.key b.key)

-- the first of two where there are both, and of equal ones the one that was there
abbrev pub first_of : {A : Type 0} → (A → A → Bool) → Option A → Option A → Option A
first_of before best None = best
first_of before None (Some x) = Some x
first_of before (Some b) (Some x) = Some (if before x b then x else b)

-- the first of this one and of those that the elements give
abbrev pub first_by : {X A : Type 0} → (A → A → Bool) → (X → Option A) → Option A → List X → Option A
first_by before f best [] = best
first_by before f best (x ∷ xs) = first_by before f (first_of before best (f x)) xs

-- the lower end that the bound and the best of the accesses give
abbrev pub lower_end : Bound → Option Bound → Bound
lower_end bound None = record { n = max 1 bound.n; key = bound.key }
lower_end bound (Some b) = if nat_lt bound.n b.n then b else record { n = max 1 bound.n; key = bound.key }

-- the upper end, where nothing gives one, is that of all numbers, and this attempt is named
abbrev pub upper_end : Attempt → Option Upper → Upper
upper_end who None = record { n = 2 ^ 63; by = who }
upper_end who (Some u) = u
