-- Equality and orders of keys, attempts and numbers: by their fields in the order written.
use Rattle.std.specs.Prelude.{◌≡◌, ◌⊎◌, ◌<◌, Bool, ◌==◌, ◌&&◌}
use Rattle.std.specs.Ordering.{nat_cmp, ordering_then, is_lt}
use Rattle.std.specs.declared.cmp.Ordering.{Ordering}
use Rattle.deneva_base.specs.declared.keys.Key.{Key}
use Rattle.deneva_base.specs.declared.numbers.TxnId.{TxnId}
use Rattle.deneva_base.specs.declared.numbers.Attempt.{Attempt}
use Rattle.deneva_base.specs.declared.numbers.Number.{Number}

abbrev pub key_eq : Key → Key → Bool
key_eq k q = (k.table == q.table) && (k.a == q.a) && (k.b == q.b) && (k.c == q.c)

abbrev pub key_cmp : Key → Key → Ordering
key_cmp k q = ordering_then (nat_cmp k.table q.table) (ordering_then (nat_cmp k.a q.a) (ordering_then (nat_cmp k.b q.b) (nat_cmp k.c q.c)))

abbrev pub key_lt : Key → Key → Bool
key_lt k q = is_lt (key_cmp k q)

abbrev pub id_eq : TxnId → TxnId → Bool
id_eq x y = x.0 == y.0

abbrev pub attempt_eq : Attempt → Attempt → Bool
attempt_eq x y = (x.txn.0 == y.txn.0) && (x.turn == y.turn)

abbrev pub attempt_cmp : Attempt → Attempt → Ordering
attempt_cmp x y = ordering_then (nat_cmp x.txn.0 y.txn.0) (nat_cmp x.turn y.turn)

abbrev pub attempt_lt : Attempt → Attempt → Bool
attempt_lt x y = is_lt (attempt_cmp x y)

abbrev pub number_eq : Number → Number → Bool
number_eq x y = (x.n == y.n) && (x.id.0 == y.id.0)

-- a number is compared by n and then by id
abbrev pub number_cmp : Number → Number → Ordering
number_cmp x y = ordering_then (nat_cmp x.n y.n) (nat_cmp x.id.0 y.id.0)

abbrev pub number_lt : Number → Number → Bool
number_lt x y = is_lt (number_cmp x y)

abbrev pub NumberLt : Number → Number → Type 0
NumberLt x y = (x.n < y.n) ⊎ ((x.n ≡ y.n) × (x.id.0 < y.id.0))

-- the number of a loaded row
abbrev pub loaded_version : Number
loaded_version = record { n = 0; id = record { 0 = 0 } }
