-- What is seen of a key's line.
use Rattle.std.specs.Prelude.{ℕ, List}
use Rattle.range_control.specs.declared.accesses.Held.{Held}

-- the unended accesses to a key, the oldest first, and one past the greatest number of a committed attempt that accessed it
pub record Accesses : Type 0 where
  pub held : List Held
  pub past : ℕ
