-- A local history: the calls of one partition with their answers, the newest first.
use Rattle.std.specs.Prelude.{◌≡◌, ◌≢◌, ℕ, List, [], ◌∷◌, ◌++◌, map, filter, Bool, not, ◌&&◌, if◌then◌else◌}
use Rattle.std.specs.List.{list_any}
use Rattle.deneva_base.specs.declared.keys.Key.{Key}
use Rattle.deneva_base.specs.declared.numbers.Attempt.{Attempt}
use Rattle.deneva_base.specs.declared.numbers.Number.{Number}
use Rattle.deneva_base.specs.declared.keys.Mode.{Mode}
use Rattle.deneva_base.specs.declared.keys.Mode.TheVariants.{Read}
use Rattle.deneva_base.specs.Lists.{IsIn}
use Rattle.deneva_base.specs.Rows.{Row}
use Rattle.deneva_base.specs.Keys.{key_eq, attempt_eq}
use Rattle.deneva_base.specs.declared.causes.Bound.{Bound}
use Rattle.deneva_base.specs.declared.answers.Answer.{Answer}
use Rattle.deneva_base.specs.declared.answers.Answer.TheVariants.{Granted, Waits, Refused}
use Rattle.deneva_base.specs.declared.answers.Vote.{Vote}
use Rattle.deneva_base.specs.declared.answers.Vote.TheVariants.{Yes, No}
use Rattle.deneva_base.specs.declared.answers.Wake.{Wake}
use Rattle.deneva_base.specs.declared.rows.Keyed.{Keyed}

pub data Call : Type 0 where
  Ask : (who : Attempt) (stamp : ℕ) (key : Key) (mode : Mode) (answer : Answer) → Call
  Prepare : (who : Attempt) (bound : Bound) (writes appends : List Keyed) (vote : Vote) → Call
  Commit : (who : Attempt) (number : Number) (woken : List Wake) → Call
  Abort : (who : Attempt) (woken : List Wake) → Call

abbrev pub History : Type 0
History = List Call

-- an access that was asked for
pub record Asked : Type 0 where
  pub who : Attempt
  pub stamp : ℕ
  pub key : Key
  pub mode : Mode

-- a granted access
pub record Grant : Type 0 where
  pub who : Attempt
  pub stamp : ℕ
  pub key : Key
  pub mode : Mode
  pub row : Row
  pub version : Number

-- a vote Yes
pub record Yea : Type 0 where
  pub who : Attempt
  pub lo : ℕ
  pub hi : ℕ
  pub writes : List Keyed
  pub appends : List Keyed

pub record Decided : Type 0 where
  pub who : Attempt
  pub number : Number

abbrev pub asks : History → List Asked
asks [] = []
asks (Ask who stamp key mode answer ∷ h) = record { who = who; stamp = stamp; key = key; mode = mode } ∷ asks h
asks (Prepare who bound writes appends vote ∷ h) = asks h
asks (Commit who number woken ∷ h) = asks h
asks (Abort who woken ∷ h) = asks h

-- the stamp and the mode of a woken access are those with which it was asked for
abbrev pub wakes_this : Wake → Asked → Bool
wakes_this w a = attempt_eq w.who a.who && key_eq w.key a.key

abbrev pub asked_as : List Asked → Wake → Asked
asked_as [] w = record { who = w.who; stamp = 0; key = w.key; mode = Read }
asked_as (a ∷ as') w = if wakes_this w a then a else asked_as as' w

abbrev pub grant_of : Wake → Asked → Grant
grant_of w a = record { who = w.who; stamp = a.stamp; key = w.key; mode = a.mode; row = w.row; version = w.version }

abbrev pub grant_of_wake : History → Wake → Grant
grant_of_wake h w = grant_of w (asked_as (asks h) w)

-- what one answer grants
abbrev pub granted : Attempt → ℕ → Key → Mode → Answer → List Grant
granted who stamp key mode (Granted row version bound) = record { who = who; stamp = stamp; key = key; mode = mode; row = row; version = version } ∷ []
granted who stamp key mode Waits = []
granted who stamp key mode (Refused cause) = []

-- an access is granted where its Ask was answered so or it was woken
abbrev pub grants : History → List Grant
grants [] = []
grants (Ask who stamp key mode answer ∷ h) = granted who stamp key mode answer ++ grants h
grants (Prepare who bound writes appends vote ∷ h) = grants h
grants (Commit who number woken ∷ h) = map (grant_of_wake h) woken ++ grants h
grants (Abort who woken ∷ h) = map (grant_of_wake h) woken ++ grants h

abbrev pub left_waiting : Asked → Answer → List Asked
left_waiting a (Granted row version bound) = []
left_waiting a Waits = a ∷ []
left_waiting a (Refused cause) = []

abbrev pub is_woken : List Wake → Asked → Bool
is_woken woken a = list_any (λ w. wakes_this w a) woken

-- an access waits where its Ask was answered so and it was not woken
abbrev pub waits : History → List Asked
waits [] = []
waits (Ask who stamp key mode answer ∷ h) = left_waiting (record { who = who; stamp = stamp; key = key; mode = mode }) answer ++ waits h
waits (Prepare who bound writes appends vote ∷ h) = waits h
waits (Commit who number woken ∷ h) = filter (λ a. not (is_woken woken a)) (waits h)
waits (Abort who woken ∷ h) = filter (λ a. not (is_woken woken a)) (waits h)

abbrev pub refusal : Attempt → Answer → List Attempt
refusal who (Granted row version bound) = []
refusal who Waits = []
refusal who (Refused cause) = who ∷ []

-- the attempts that were refused an access
abbrev pub refused : History → List Attempt
refused [] = []
refused (Ask who stamp key mode answer ∷ h) = refusal who answer ++ refused h
refused (Prepare who bound writes appends vote ∷ h) = refused h
refused (Commit who number woken ∷ h) = refused h
refused (Abort who woken ∷ h) = refused h

abbrev pub yea : Attempt → List Keyed → List Keyed → Vote → List Yea
yea who writes appends (Yes lo hi) = record { who = who; lo = lo; hi = hi; writes = writes; appends = appends } ∷ []
yea who writes appends (No cause) = []

abbrev pub yeas : History → List Yea
yeas [] = []
yeas (Ask who stamp key mode answer ∷ h) = yeas h
yeas (Prepare who bound writes appends vote ∷ h) = yea who writes appends vote ++ yeas h
yeas (Commit who number woken ∷ h) = yeas h
yeas (Abort who woken ∷ h) = yeas h

abbrev pub decided : History → List Decided
decided [] = []
decided (Ask who stamp key mode answer ∷ h) = decided h
decided (Prepare who bound writes appends vote ∷ h) = decided h
decided (Commit who number woken ∷ h) = record { who = who; number = number } ∷ decided h
decided (Abort who woken ∷ h) = decided h

abbrev pub aborted : History → List Attempt
aborted [] = []
aborted (Ask who stamp key mode answer ∷ h) = aborted h
aborted (Prepare who bound writes appends vote ∷ h) = aborted h
aborted (Commit who number woken ∷ h) = aborted h
aborted (Abort who woken ∷ h) = who ∷ aborted h

-- an attempt has ended where a Commit or an Abort of it was called
abbrev pub ended : History → List Attempt
ended [] = []
ended (Ask who stamp key mode answer ∷ h) = ended h
ended (Prepare who bound writes appends vote ∷ h) = ended h
ended (Commit who number woken ∷ h) = who ∷ ended h
ended (Abort who woken ∷ h) = who ∷ ended h

-- the attempts that called prepare
abbrev pub closed : History → List Attempt
closed [] = []
closed (Ask who stamp key mode answer ∷ h) = closed h
closed (Prepare who bound writes appends vote ∷ h) = who ∷ closed h
closed (Commit who number woken ∷ h) = closed h
closed (Abort who woken ∷ h) = closed h

abbrev pub IsUnended : History → Attempt → Type 0
IsUnended h who = IsIn who (ended h) → ⊥

-- it has not called prepare
abbrev pub IsOpen : History → Attempt → Type 0
IsOpen h who = IsIn who (closed h) → ⊥

abbrev pub WaitsNowhere : History → Attempt → Type 0
WaitsNowhere h who = (a : Asked) → IsIn a (waits h) → a.who ≢ who

-- two accesses of different attempts to one key conflict unless both are Read
abbrev pub Conflict : Attempt → Key → Mode → Attempt → Key → Mode → Type 0
Conflict who key mode by k m = (key ≡ k) × (who ≢ by) × (((mode ≡ Read) × (m ≡ Read)) → ⊥)

abbrev pub Clash : Grant → Grant → Type 0
Clash a b = Conflict a.who a.key a.mode b.who b.key b.mode

-- the attempt's vote lists a row for the key
abbrev pub Writes : History → Attempt → Key → Row → Type 0
Writes h who key row = (y : Yea) × (y.who ≡ who) × IsIn y (yeas h) × IsIn (record { key = key; row = row }) y.writes

-- the stamp of the attempt's asks
abbrev pub stamp_of : List Asked → Attempt → ℕ
stamp_of [] who = 0
stamp_of (a ∷ as') who = if attempt_eq a.who who then a.stamp else stamp_of as' who
