-- What a table ends as, once a reference into it has ended.
use Rattle.std.specs.Prelude.{◌≡◌, Option, IsSome, Result}
use Rattle.std.specs.Borrow.{Fml, RattleType, MutBor, LendsSo, LendsSoOk}
use Rattle.std.specs.HashMap.Lent.{HashMembers}
use Rattle.key_table.specs.declared.table.Table.{Table}
use Rattle.key_table.specs.contracts.table.Table.{the_row}
use Rattle.key_table.specs.Tables.{Sets, Same}

module _ (K V : RattleType) (key : HashMembers K.Denot) where
  -- the table's type, as the logic holds it
  abbrev pub table_row : RattleType
  table_row = the_row K V (record { eq = key.eq }) (record { hash_input = key.hash_input })

  -- the table has at the key the last value written through r, and is the same at `None`
  abbrev pub lends_value : V.Denot → MutBor (Table K.Denot V.Denot) → K.Denot → Option (MutBor V.Denot) → Fml
  lends_value e t k r = LendsSo table_row V t r (λ n w. IsSome r → Sets key.eq e t.now k w n) (λ n. n ≡ t.now)

  -- the table has at the key the last value written through r, and at `Err` each value stays
  abbrev pub lends_slot : V.Denot → MutBor (Table K.Denot V.Denot) → K.Denot → {E : Type 0} → Result (MutBor V.Denot) E → Fml
  lends_slot e t k r = LendsSoOk table_row V t r (λ n w. Sets key.eq e t.now k w n) (λ n. Same key.eq e t.now n)
