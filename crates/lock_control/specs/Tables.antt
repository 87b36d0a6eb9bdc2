-- What a lock table has for a key.
use Rattle.std.specs.Prelude.{List, [], ◌∷◌, ◌++◌, map, Option}
use Rattle.deneva_base.specs.declared.keys.Key.{Key}
use Rattle.deneva_base.specs.declared.numbers.Attempt.{Attempt}
use Rattle.deneva_base.specs.declared.numbers.Number.{Number}
use Rattle.key_table.specs.Keys.{same_key}
use Rattle.key_table.specs.Tables.{at, Sets, Same, changed}
use Rattle.lock_control.specs.declared.requests.Request.{Request}
use Rattle.lock_control.specs.declared.lines.Lines.{Lines}
use Rattle.lock_control.specs.declared.lines.Waiter.{Waiter}
use Rattle.lock_control.specs.Requests.{front_of}
use Rattle.lock_control.specs.Seen.{Locks}
use Rattle.lock_control.specs.Locks.{no_locks, ended_in, granted_in}

abbrev pub locks_at : Lines → Key → Locks
locks_at t key = at same_key no_locks t.lines key

-- the locks of a key after the attempt's requests for these keys were taken out
abbrev pub all_ended : Attempt → Option Number → List Key → Key → Locks → Locks
all_ended who number keys key l = changed same_key (λ (k : Key). k) (λ k x. ended_in who number x) keys key l

-- the locks of a key after these requests were granted
abbrev pub all_granted : List Waiter → Key → Locks → Locks
all_granted front key l = changed same_key (λ (w : Waiter). w.key) (λ w x. granted_in w.who x) front key l

abbrev pub waiter_for : Key → Request → Waiter
waiter_for key r = record { who = r.who; stamp = r.stamp; key = key; mode = r.mode }

-- those at the front of each of these keys, when an attempt ends
abbrev pub front_over : Attempt → Lines → List Key → List Waiter
front_over ended t [] = []
front_over ended t (k ∷ ks) = map (waiter_for k) (front_of ended (locks_at t k).requests [] (locks_at t k).requests) ++ front_over ended t ks

-- new has at the key what is said, and at every other key what old has
abbrev pub SetsLocks : Lines → Key → Locks → Lines → Type 0
SetsLocks old key l new = Sets same_key no_locks old.lines key l new.lines

abbrev pub SameLocks : Lines → Lines → Type 0
SameLocks old new = Same same_key no_locks old.lines new.lines
