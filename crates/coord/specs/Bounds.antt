-- What one more reply does to the greatest bound.
use Rattle.std.specs.Prelude.{ℕ, Bool, ◌||◌, nat_lt, if◌then◌else◌}
use Rattle.deneva_base.specs.declared.causes.Bound.{Bound}
use Rattle.deneva_base.specs.declared.keys.Key.{Key}

-- the bound of the reply where it is the first or above the best so far
abbrev pub bound_with : Bound → ℕ → Key → Bool → Bound
bound_with best bound key first = if first || nat_lt best.n bound then record { n = bound; key = key } else best
