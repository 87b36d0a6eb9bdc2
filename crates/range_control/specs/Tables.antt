-- What the table of accesses has for a key.
use Rattle.std.specs.Prelude.{ℕ, List, Option, Some}
use Rattle.deneva_base.specs.declared.keys.Key.{Key}
use Rattle.deneva_base.specs.declared.numbers.Attempt.{Attempt}
use Rattle.deneva_base.specs.declared.causes.Bound.{Bound}
use Rattle.deneva_base.specs.declared.rows.Keyed.{Keyed}
use Rattle.protocol_rules.specs.Ranged.{lists}
use Rattle.key_table.specs.Keys.{same_key}
use Rattle.key_table.specs.Tables.{at, Sets, Same, changed}
use Rattle.range_control.specs.declared.ends.Upper.{Upper}
use Rattle.range_control.specs.declared.lines.Lines.{Lines}
use Rattle.range_control.specs.Seen.{Accesses}
use Rattle.range_control.specs.Accesses.{no_accesses, past_over, own_in, low_in, upper_in, prepared}

abbrev pub accesses_at : Lines → Key → Accesses
accesses_at t key = at same_key no_accesses t.lines key

-- what the attempt's access to the key asks of the lower end, where it is to write these rows
abbrev pub low_at : Lines → Attempt → List Keyed → Key → ℕ
low_at t who ws key = low_in (lists ws key) (past_over (accesses_at t key)) (own_in who (accesses_at t key).held)

abbrev pub lower_at : Lines → Attempt → List Keyed → Key → Option Bound
lower_at t who ws key = Some (record { n = low_at t who ws key; key = key })

-- the upper end of the attempt's access to the key
abbrev pub upper_at : Lines → Attempt → Key → Option Upper
upper_at t who key = upper_in (accesses_at t key).held (own_in who (accesses_at t key).held)

-- the accesses once the attempt has voted the numbers from lo to hi, and is to write these rows
abbrev pub prepared_at : Attempt → ℕ → ℕ → List Keyed → Key → Accesses → Accesses
prepared_at who lo hi ws key l = prepared who (record { lo = lo; hi = hi; writes = lists ws key }) l

-- what a key has after a change at each of these keys
abbrev pub all_changed : (Key → Accesses → Accesses) → List Key → Key → Accesses → Accesses
all_changed f keys key l = changed same_key (λ (k : Key). k) f keys key l

-- new has at the key what is said, and at every other key what old has
abbrev pub SetsAccesses : Lines → Key → Accesses → Lines → Type 0
SetsAccesses old key l new = Sets same_key no_accesses old.lines key l new.lines

abbrev pub SameAccesses : Lines → Lines → Type 0
SameAccesses old new = Same same_key no_accesses old.lines new.lines
