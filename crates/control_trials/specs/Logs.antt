-- What is known of a history by a log of it.
use Rattle.std.specs.Prelude.{◌≡◌, ◌⊎◌, ℕ, ◌≤◌, ◌<◌, ◌^◌, List, length, Bool, true, false, ◌&&◌}
use Rattle.std.specs.List.{list_any}
use Rattle.deneva_base.specs.declared.keys.Key.{Key}
use Rattle.deneva_base.specs.declared.numbers.Attempt.{Attempt}
use Rattle.deneva_base.specs.declared.answers.Wake.{Wake}
use Rattle.deneva_base.specs.declared.rows.Keyed.{Keyed}
use Rattle.deneva_base.specs.Lists.{IsIn}
use Rattle.deneva_base.specs.Keys.{key_eq, attempt_eq}
use Rattle.deneva_base.specs.Modes.{IsWriting}
use Rattle.protocol_rules.specs.History.{History, Asked, Grant, Yea, asks, grants, waits, refused, closed, ended, aborted, yeas, IsUnended, IsOpen, WaitsNowhere}
use Rattle.control_trials.specs.declared.log.Log.{Log}
use Rattle.control_trials.specs.declared.log.Place.{Place}
use Rattle.control_trials.specs.declared.log.Wanted.{Wanted}
use Rattle.control_trials.specs.declared.log.Window.{Window}

abbrev pub wanted_of : Asked → Wanted
wanted_of a = record { who = a.who; stamp = a.stamp; key = a.key; mode = a.mode }

abbrev pub place_of : Asked → Place
place_of a = record { who = a.who; key = a.key }

abbrev pub is_at : Attempt → Key → Place → Bool
is_at who key p = attempt_eq p.who who && key_eq p.key key

abbrev pub wakes_place : Place → Wake → Bool
wakes_place p w = attempt_eq w.who p.who && key_eq w.key p.key

-- an access that was asked for
abbrev pub IsAsked : History → Wanted → Type 0
IsAsked h w = (a : Asked) × IsIn a (asks h) × (wanted_of a ≡ w)

-- an access that was granted, in the mode in which it was asked for
abbrev pub IsGranted : History → Place → Type 0
IsGranted h p = (g : Grant) × IsIn g (grants h) × (g.who ≡ p.who) × (g.key ≡ p.key) × ((a : Asked) × IsIn a (asks h) × (a.who ≡ p.who) × (a.key ≡ p.key) × (a.mode ≡ g.mode))

abbrev pub IsVoted : History → Window → Type 0
IsVoted h w = (y : Yea) × IsIn y (yeas h) × (y.who ≡ w.who) × (y.lo ≡ w.lo) × (y.hi ≡ w.hi)

-- each access asked for, waiting access, refusal, prepare and end of the history stands in the log, and each access asked for, grant, abort and vote of the log in the history
pub record Follows (log : Log) (h : History) : Type 0 where
  pub short : length h ≤ log.calls
  pub asks : (a : Asked) → IsIn a (asks h) → IsIn (wanted_of a) log.asks
  pub asked : (w : Wanted) → IsIn w log.asks → IsAsked h w
  pub waits : (a : Asked) → IsIn a (waits h) → IsIn (place_of a) log.waits.items
  pub grants : (p : Place) → IsIn p log.grants → IsGranted h p
  pub refused : (who : Attempt) → IsIn who (refused h) → IsIn who log.refused
  pub closed : (who : Attempt) → IsIn who (closed h) → IsIn who log.closed
  pub ended : (who : Attempt) → IsIn who (ended h) → IsIn who log.ended
  pub aborted : (who : Attempt) → IsIn who log.aborted → IsIn who (aborted h)
  pub windows : (w : Window) → IsIn w log.windows → IsVoted h w

-- the attempt waits nowhere and has not ended, and the history is short
pub record IsRunning (h : History) (who : Attempt) : Type 0 where
  pub short : length h < 2 ^ 32
  pub unended : IsUnended h who
  pub nowhere : WaitsNowhere h who

-- it also was refused nothing and has not prepared
pub record IsIdle (h : History) (who : Attempt) : Type 0 where
  pub running : IsRunning h who
  pub unrefused : IsIn who (refused h) → ⊥
  pub opened : IsOpen h who

-- no ask says that the attempt has another stamp, or that another transaction has this one
pub record MayHave (h : History) (who : Attempt) (stamp : ℕ) : Type 0 where
  pub same_stamp : (a : Asked) → IsIn a (asks h) → a.who ≡ who → a.stamp ≡ stamp
  pub own_stamp : (a : Asked) → IsIn a (asks h) → (a.who.txn ≡ who.txn → ⊥) → a.stamp ≡ stamp → ⊥
  pub positive : 1 ≤ stamp
  pub small : stamp < 2 ^ 48

-- the attempt was granted the key for a write
abbrev pub IsHeld : History → Attempt → Key → Type 0
IsHeld h who key = (g : Grant) × IsIn g (grants h) × (g.who ≡ who) × (g.key ≡ key) × IsWriting g.mode

abbrev pub AreHeld : History → Attempt → List Keyed → Type 0
AreHeld h who ws = (w : Keyed) → IsIn w ws → IsHeld h who w.key

-- some of these wakes stand for the access that the place names
abbrev pub IsGrantedBy : List Wake → Place → Type 0
IsGrantedBy woken p = (w : Wake) × IsIn w woken × (w.who ≡ p.who) × (w.key ≡ p.key)

-- the log has more grants, each of an access that was asked for and that one of these wakes granted
pub record HoldsMore (old : Log) (woken : List Wake) (new : Log) : Type 0 where
  pub calls : new.calls ≡ old.calls
  pub asks : new.asks ≡ old.asks
  pub waits : new.waits ≡ old.waits
  pub refused : new.refused ≡ old.refused
  pub closed : new.closed ≡ old.closed
  pub ended : new.ended ≡ old.ended
  pub aborted : new.aborted ≡ old.aborted
  pub windows : new.windows ≡ old.windows
  pub grants : (p : Place) → IsIn p new.grants → IsIn p old.grants ⊎ (IsGrantedBy woken p × (list_any (λ a. attempt_eq a.who p.who && key_eq a.key p.key) old.asks ≡ true))

-- the log has taken in these wakes
pub record IsWokenFrom (old : Log) (woken : List Wake) (new : Log) : Type 0 where
  pub calls : new.calls ≡ old.calls
  pub asks : new.asks ≡ old.asks
  pub refused : new.refused ≡ old.refused
  pub closed : new.closed ≡ old.closed
  pub ended : new.ended ≡ old.ended
  pub aborted : new.aborted ≡ old.aborted
  pub windows : new.windows ≡ old.windows
  pub waits : (p : Place) → IsIn p old.waits.items → list_any (wakes_place p) woken ≡ false → IsIn p new.waits.items
  pub grants : (p : Place) → IsIn p new.grants → IsIn p old.grants ⊎ (IsGrantedBy woken p × (list_any (λ a. attempt_eq a.who p.who && key_eq a.key p.key) old.asks ≡ true))
