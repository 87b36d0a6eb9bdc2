-- Whom the end of an attempt lets go.
use Rattle.std.specs.Prelude.{ℕ, List, [], ◌∷◌, ◌++◌, map, filter, Bool, ◌&&◌, Option}
use Rattle.deneva_base.specs.declared.keys.Key.{Key}
use Rattle.deneva_base.specs.declared.numbers.Attempt.{Attempt}
use Rattle.stamp_lines.specs.declared.requests.Request.{Request}
use Rattle.stamp_lines.specs.declared.lines.Waiter.{Waiter}
use Rattle.stamp_lines.specs.declared.accesses.Accesses.{Accesses}
use Rattle.stamp_lines.specs.Requests.{first_writer, reaches}
use Rattle.stamp_lines.specs.Tables.{requests_at}

-- the request waits, and the first writer does not stand before it
abbrev pub goes : Option ℕ → Request → Bool
goes first r = r.waits && reaches first r.stamp

abbrev pub waiter_for : Key → Request → Waiter
waiter_for key r = record { who = r.who; stamp = r.stamp; key = key; mode = r.mode }

-- those of a key, by rising stamp, when an attempt ends
abbrev pub front_at : Attempt → Key → List Request → List Waiter
front_at ended key rs = map (waiter_for key) (filter (goes (first_writer 0 ended rs)) rs)

-- those of these keys
abbrev pub front_over : Attempt → Accesses → List Key → List Waiter
front_over ended a [] = []
front_over ended a (k ∷ ks) = front_at ended k (requests_at a k) ++ front_over ended a ks
