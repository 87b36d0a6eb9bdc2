-- What is seen of an attempt's holding.
use Rattle.std.specs.Prelude.{ℕ, List}
use Rattle.deneva_base.specs.declared.keys.Key.{Key}
use Rattle.deneva_base.specs.declared.rows.Keyed.{Keyed}

-- the stamp of its last access, the keys that it asked for, in key order, and the rows that it voted to write, those that its
-- control wants back, and those to append
pub record Held : Type 0 where
  pub stamp : ℕ
  pub keys : List Key
  pub writes : List Keyed
  pub copies : List Keyed
  pub appends : List Keyed
