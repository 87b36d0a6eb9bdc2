-- The unended accesses to one key as a list.
use Rattle.std.specs.Prelude.{ℕ, suc, max, ◌-◌, List, [], ◌∷◌, ◌++◌, map, filter, Bool, not, ◌&&◌, false, nat_lt, Option, Some, None, if◌then◌else◌}
use Rattle.deneva_base.specs.declared.numbers.Attempt.{Attempt}
use Rattle.deneva_base.specs.declared.numbers.Number.{Number}
use Rattle.deneva_base.specs.Keys.{attempt_eq, number_lt}
use Rattle.deneva_base.specs.Modes.{reads}
use Rattle.deneva_base.specs.Lists.{greatest_by}
use Rattle.range_control.specs.declared.ends.Upper.{Upper}
use Rattle.range_control.specs.declared.accesses.Window.{Window}
use Rattle.range_control.specs.declared.accesses.Held.{Held}
use Rattle.range_control.specs.Seen.{Accesses}
use Rattle.range_control.specs.Ends.{upper_before, first_of, first_by}

abbrev pub no_accesses : Accesses
no_accesses = record { held = []; past = 0 }

-- one past the upper end of a window
abbrev pub past_window : Option Window → ℕ
past_window None = 0
past_window (Some w) = suc w.hi

-- one past the greatest number and upper end of the accesses
abbrev pub past_over : Accesses → ℕ
past_over l = max l.past (greatest_by (λ a. past_window a.window) l.held)

-- the attempt's access
abbrev pub own_in : Attempt → List Held → Option Held
own_in who [] = None
own_in who (a ∷ as') = if attempt_eq a.who who then Some a else own_in who as'

-- what an access asks of the lower end: one past the version that it read, and for a key that is written what passes all its accesses
abbrev pub low_in : Bool → ℕ → Option Held → ℕ
low_in written past None = 0
low_in written past (Some a) = max (if reads a.mode then suc a.version.n else 0) (if written then past else 0)

-- one below a window that writes and ends above the version
abbrev pub under : Option Window → Number → Attempt → Option Upper
under None version by = None
under (Some w) version by = if w.writes && nat_lt version.n w.hi then Some (record { n = w.lo - 1; by = by }) else None

-- the upper end that a prepared access leaves one of another attempt that read the version
abbrev pub left_by : Attempt → Number → Held → Option Upper
left_by who version a = if attempt_eq a.who who then None else under a.window version a.who

-- the upper end of an access among these, which only a reader has
abbrev pub upper_in : List Held → Option Held → Option Upper
upper_in held None = None
upper_in held (Some a) = if reads a.mode then first_by upper_before (left_by a.who a.version) a.upper held else None

-- the access once the attempt has this window
abbrev pub prepared_in : Attempt → Window → Held → Held
prepared_in who w a = record { who = a.who; mode = a.mode; version = a.version; upper = a.upper; window = (if attempt_eq a.who who then Some w else a.window) }

-- the access once an attempt has written the key under a number: a reader of a version below it ends before it
abbrev pub overtaken : Attempt → Number → Held → Held
overtaken by number a = record { who = a.who; mode = a.mode; version = a.version; upper = (if reads a.mode && number_lt a.version number then first_of upper_before a.upper (Some (record { n = number.n - 1; by = by })) else a.upper); window = a.window }

abbrev pub is_writing : Option Window → Bool
is_writing None = false
is_writing (Some w) = w.writes

-- the accesses that an attempt's commit passes, where this one of them is its own
abbrev pub passed : Attempt → Number → Option Held → Accesses → Accesses
passed who number None l = l
passed who number (Some own) l = record { held = (if is_writing own.window then map (overtaken who number) l.held else l.held); past = max l.past (suc number.n) }

abbrev pub without : Attempt → Accesses → Accesses
without who l = record { held = filter (λ a. not (attempt_eq a.who who)) l.held; past = l.past }

-- the accesses after the attempt ended, which commits where it has a number
abbrev pub ended_in : Attempt → Option Number → Accesses → Accesses
ended_in who None l = without who l
ended_in who (Some number) l = without who (passed who number (own_in who l.held) l)

-- the accesses once the attempt's has this window
abbrev pub prepared : Attempt → Window → Accesses → Accesses
prepared who w l = record { held = map (prepared_in who w) l.held; past = l.past }

-- the accesses with one more
abbrev pub with_access : Held → Accesses → Accesses
with_access a l = record { held = l.held ++ a ∷ []; past = l.past }
