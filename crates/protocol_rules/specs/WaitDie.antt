-- The rule of WAIT_DIE.
use Rattle.std.specs.Prelude.{◌≡◌, ⊤, ◌<◌, List, [], ◌∷◌, map, filter, ◌&&◌, not, Bool, true, false, nat_lt, nat_le, if◌then◌else◌}
use Rattle.std.specs.List.{list_any}
use Rattle.deneva_base.specs.declared.keys.Key.{Key}
use Rattle.deneva_base.specs.declared.numbers.Attempt.{Attempt}
use Rattle.deneva_base.specs.Lists.{IsIn}
use Rattle.deneva_base.specs.Rows.{Rows}
use Rattle.deneva_base.specs.Keys.{key_eq}
use Rattle.deneva_base.specs.declared.causes.Cause.TheVariants.{Younger}
use Rattle.deneva_base.specs.declared.answers.Answer.{Answer}
use Rattle.deneva_base.specs.declared.answers.Answer.TheVariants.{Granted, Waits, Refused}
use Rattle.deneva_base.specs.declared.answers.Wake.{Wake}
use Rattle.protocol_rules.specs.History.{Call, Ask, Prepare, Commit, Abort, History, Asked, Grant, grants, waits, is_woken, IsUnended, Conflict}
use Rattle.protocol_rules.specs.Rules.{Rule}
use Rattle.protocol_rules.specs.Latest.{Version, latest, seen}
use Rattle.protocol_rules.specs.Order.{Sorted, by_falling_stamp}
use Rattle.deneva_base.specs.Lists.{sort}
use Rattle.protocol_rules.specs.Locks.{conflicts, blockers, least, lock_vote}
use Rattle.protocol_rules.specs.Waiting.{holders}

-- the conflicting owners of smaller stamp
abbrev pub elders : History → Asked → List Grant
elders h a = filter (λ g. nat_lt g.stamp a.stamp) (blockers h a)

-- the conflicting waiters of greater stamp
abbrev pub ahead : History → Asked → List Asked
ahead h a = filter (λ b. conflicts b.who b.key b.mode a.who a.key a.mode && nat_lt a.stamp b.stamp) (waits h)

abbrev pub none : {A : Type 0} → List A → Bool
none [] = true
none (x ∷ xs) = false

-- no owner conflicts, and no waiter of greater stamp
abbrev pub is_free : History → Asked → Bool
is_free h a = none (blockers h a) && none (ahead h a)

-- the waiters that are free, and before which all waiters of the key are free
abbrev pub front : History → List Asked
front h = filter (λ a. none (filter (λ b. key_eq b.key a.key && (nat_le a.stamp b.stamp && not (is_free h b))) (waits h))) (waits h)

abbrev pub wake_of : Rows → History → Asked → Wake
wake_of loaded h a = let v : Version = seen a.mode (latest loaded h a.key) in record { who = a.who; key = a.key; row = v.row; version = v.number; bound = 0 }

-- the wakes after an end, h being the history with this end, before it woke anyone
abbrev pub wakes : Rows → History → List Wake
wakes loaded h = map (wake_of loaded h) (sort by_falling_stamp (front h))

abbrev pub younger_or : Key → List Grant → Bool → Version → Answer
younger_or key [] is_free v = if is_free then Granted v.row v.number 0 else Waits
younger_or key (g ∷ gs) is_free v = Refused (Younger key (least g gs).who (least g gs).stamp)

abbrev pub wait_die : Rows → Rule
wait_die loaded = record {
  ask = λ h who stamp key mode. let a : Asked = record { who = who; stamp = stamp; key = key; mode = mode } in younger_or key (elders h a) (is_free h a) (seen mode (latest loaded h key));
  vote = λ h who bound writes appends. lock_vote h who;
  commit = λ h who number. wakes loaded (Commit who number [] ∷ h);
  abort = λ h who. wakes loaded (Abort who [] ∷ h);
}

-- the waiters of a key, the front first
abbrev pub queue : History → Key → List Asked
queue h key = sort by_falling_stamp (filter (λ a. key_eq a.key key) (waits h))

-- in strictly falling stamp order
abbrev pub Falls : List Asked → Type 0
Falls [] = ⊤
Falls (a ∷ as') = ((b : Asked) → IsIn b as' → b.stamp < a.stamp) × Falls as'

-- an owner of greater stamp conflicts with the waiter
abbrev pub IsHeldUp : History → Asked → Type 0
IsHeldUp h a = (g : Grant) × IsIn g (grants h) × IsUnended h g.who × Conflict g.who g.key g.mode a.who a.key a.mode × (a.stamp < g.stamp)

-- a waiter of greater stamp conflicts with it
abbrev pub IsBehind : History → Asked → Type 0
IsBehind h a = (b : Asked) × IsIn b (waits h) × Conflict b.who b.key b.mode a.who a.key a.mode × (a.stamp < b.stamp)

-- a waiter that conflicts with no owner stands behind a conflicting waiter of greater stamp
abbrev pub StandsBehind : History → Type 0
StandsBehind h = (a : Asked) → IsIn a (waits h) → ((g : Grant) → IsIn g (grants h) → IsUnended h g.who → Conflict g.who g.key g.mode a.who a.key a.mode → ⊥) → IsBehind h a

-- a wake of the end of an attempt: h is the history before this end, h' has the end and no wake yet
pub record IsRightWake (loaded : Rows) (h h' : History) (who : Attempt) (woken : List Wake) (w : Wake) : Type 0 where
  pub access : Asked
  pub waited : IsIn access (waits h)
  -- it is granted the latest version, and no cells for a Put
  pub granted : w ≡ wake_of loaded h' access
  -- the attempt that ended had held it up
  pub held : (g : Grant) × IsIn g (grants h) × (g.who ≡ who) × Conflict g.who g.key g.mode access.who access.key access.mode
  -- no owner that is left conflicts with it, nor does a waiter of greater stamp, and all of these are woken too
  pub free : (g : Grant) → IsIn g (grants h') → IsUnended h' g.who → Conflict g.who g.key g.mode access.who access.key access.mode → ⊥
  pub first : (b : Asked) → IsIn b (waits h) → b.key ≡ access.key → access.stamp < b.stamp → (Conflict b.who b.key b.mode access.who access.key access.mode → ⊥) × (is_woken woken b ≡ true)

abbrev pub WakesRight : Rows → History → Call → Type 0
WakesRight loaded h (Ask who stamp key mode answer) = ⊤
WakesRight loaded h (Prepare who bound writes appends vote) = ⊤
WakesRight loaded h (Commit who number woken) = (w : Wake) → IsIn w woken → IsRightWake loaded h (Commit who number [] ∷ h) who woken w
WakesRight loaded h (Abort who woken) = (w : Wake) → IsIn w woken → IsRightWake loaded h (Abort who [] ∷ h) who woken w

-- the wakes are listed by key, and within a key from the greatest stamp down
abbrev pub InTurn : Rows → History → List Wake → Type 0
InTurn loaded h' woken = (as' : List Asked) × (woken ≡ map (wake_of loaded h') as') × Sorted by_falling_stamp as'

abbrev pub WakesInTurn : Rows → History → Call → Type 0
WakesInTurn loaded h (Ask who stamp key mode answer) = ⊤
WakesInTurn loaded h (Prepare who bound writes appends vote) = ⊤
WakesInTurn loaded h (Commit who number woken) = InTurn loaded (Commit who number [] ∷ h) woken
WakesInTurn loaded h (Abort who woken) = InTurn loaded (Abort who [] ∷ h) woken

-- from the front of a queue, each while it is compatible with those that hold and with those taken before it
abbrev pub taken : List Asked → List Asked → List Asked
taken held [] = []
taken held (a ∷ as') = if list_any (λ b. conflicts b.who b.key b.mode a.who a.key a.mode) held then [] else a ∷ taken (a ∷ held) as'

-- the wakes of a key are those that are taken from the front of its queue, on the owners that are left
abbrev pub FromFront : Rows → History → List Wake → Type 0
FromFront loaded h' woken = (key : Key) → filter (λ w. key_eq w.key key) woken ≡ map (wake_of loaded h') (taken (holders h') (queue h' key))

abbrev pub WakesFromFront : Rows → History → Call → Type 0
WakesFromFront loaded h (Ask who stamp key mode answer) = ⊤
WakesFromFront loaded h (Prepare who bound writes appends vote) = ⊤
WakesFromFront loaded h (Commit who number woken) = FromFront loaded (Commit who number [] ∷ h) woken
WakesFromFront loaded h (Abort who woken) = FromFront loaded (Abort who [] ∷ h) woken

-- the first waiter of each key conflicts with an owner of greater stamp
abbrev pub FirstIsHeldUp : History → Type 0
FirstIsHeldUp h = (key : Key) (a : Asked) (rest : List Asked) → queue h key ≡ a ∷ rest → IsHeldUp h a
