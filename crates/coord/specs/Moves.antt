-- What a message changes of a coordinator.
use Rattle.std.specs.Prelude.{◌≡◌, ℕ, ◌+◌, ◌*◌, Bool, not, ◌||◌, Option, if◌then◌else◌, ◌==◌}
use Rattle.deneva_base.specs.declared.numbers.Attempt.{Attempt}
use Rattle.deneva_base.specs.declared.numbers.TxnId.{TxnId}
use Rattle.coord.specs.declared.coord.Coord.{Coord}
use Rattle.server_core.specs.Roles.{setting_of}
use Rattle.coord.specs.Open.{state_at, SetsState, SameStates}
use Rattle.coord.specs.States.{State, begun, kept_stamp}

-- new has this for the transaction, and this counter and this place in the order of homes
pub record Moved (old : Coord) (x : TxnId) (o : Option State) (counter next : ℕ) (new : Coord) : Type 0 where
  pub role : new.role ≡ old.role
  pub fixed : new.fixed ≡ old.fixed
  pub homes : new.homes.items ≡ old.homes.items
  pub count : new.counter ≡ counter
  pub place : new.next ≡ next
  pub sets : SetsState old.open x o new.open

-- new is as old was
pub record Same (old new : Coord) : Type 0 where
  pub role : new.role ≡ old.role
  pub fixed : new.fixed ≡ old.fixed
  pub homes : new.homes.items ≡ old.homes.items
  pub count : new.counter ≡ old.counter
  pub place : new.next ≡ old.next
  pub states : SameStates old.open new.open

-- an attempt takes a stamp of its own
abbrev pub draws : Coord → Attempt → Bool
draws c who = who.turn == 1 || not c.fixed

abbrev pub stamp_for : Coord → Attempt → ℕ
stamp_for c who = if draws c who then c.counter * c.role.config.parts + c.role.part + 1 else kept_stamp (state_at c.open who.txn)

abbrev pub started_by : Coord → Attempt → State
started_by c who = begun who.turn (stamp_for c who) ((setting_of c.role).accesses who.txn)

abbrev pub counted_by : Coord → Attempt → ℕ
counted_by c who = if draws c who then c.counter + 1 else c.counter
