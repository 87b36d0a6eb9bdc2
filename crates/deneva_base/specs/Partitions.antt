-- Where a key lies.
use Rattle.std.specs.Prelude.{ℕ, ◌-◌, ◌%◌, ◌==◌, if◌then◌else◌}
use Rattle.deneva_base.specs.declared.keys.Key.{Key}

-- the partition of a key: the rows of table 0 by their number, those of every other table by their warehouse,
-- which counts from 1
abbrev pub partition_of : Key → ℕ → ℕ
partition_of key parts = if key.table == 0 then key.a % parts else (key.a - 1) % parts
