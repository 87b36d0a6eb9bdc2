-- What there is of a key, and of an attempt.
use Rattle.std.specs.Prelude.{ℕ, List, []}
use Rattle.deneva_base.specs.declared.keys.Key.{Key}
use Rattle.deneva_base.specs.declared.numbers.Attempt.{Attempt}
use Rattle.key_table.specs.Keys.{same_key}
use Rattle.key_table.specs.Tables.{at, Sets, Same, changed}
use Rattle.shelf.specs.Seen.{Held}
use Rattle.shelf.specs.Shelves.{held}
use Rattle.stamp_lines.specs.declared.requests.Request.{Request}
use Rattle.stamp_lines.specs.declared.lines.Lines.{Lines}
use Rattle.stamp_lines.specs.declared.lines.Waiter.{Waiter}
use Rattle.stamp_lines.specs.declared.accesses.Accesses.{Accesses}
use Rattle.stamp_lines.specs.Requests.{without, granted}

abbrev pub line_at : Lines → Key → List Request
line_at t key = at same_key [] t.lines key

-- the requests for a key
abbrev pub requests_at : Accesses → Key → List Request
requests_at a key = line_at a.lines key

-- the requests for a key after the attempt's for these keys were taken out
abbrev pub all_ended : Attempt → List Key → Key → List Request → List Request
all_ended who keys key rs = changed same_key (λ (k : Key). k) (λ k x. without who x) keys key rs

-- the requests for a key after these were granted
abbrev pub all_granted : List Waiter → Key → List Request → List Request
all_granted ws key rs = changed same_key (λ (w : Waiter). w.key) (λ w x. granted w.who x) ws key rs

-- new has at the key what is said, and at every other key what old has
abbrev pub SetsLine : Lines → Key → List Request → Lines → Type 0
SetsLine old key rs new = Sets same_key [] old.lines key rs new.lines

abbrev pub SameLines : Lines → Lines → Type 0
SameLines old new = Same same_key [] old.lines new.lines

-- what an attempt has here
abbrev pub part_of : Accesses → Attempt → Held
part_of a who = held a.shelf who

-- how many requests wait
abbrev pub waiting_of : Accesses → ℕ
waiting_of a = a.waiting
