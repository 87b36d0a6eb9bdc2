-- What a node stands for: the messages that it has handled, the newest first.
use Rattle.std.specs.Prelude.{◌≡◌, ℕ, List, [], ◌∷◌, ◌++◌, map, length, Option, Some, None, if◌then◌else◌, ◌==◌}
use Rattle.deneva_base.specs.Keys.{id_eq}
use Rattle.deneva_base.specs.Lists.{IsIn}
use Rattle.deneva_base.specs.Partitions.{partition_of}
use Rattle.deneva_base.specs.declared.config.Protocol.TheVariants.{Calvin}
use Rattle.deneva_base.specs.declared.keys.Key.{Key}
use Rattle.deneva_base.specs.declared.numbers.TxnId.{TxnId}
use Rattle.row_store.specs.Stores.{Seen, version_at}
use Rattle.server_core.specs.ActiveList.{active}
use Rattle.server_core.specs.CalvinFits.{AllFit}
use Rattle.server_core.specs.GlobalOrder.{Slot, slots, batch, number}
use Rattle.server_core.specs.CalvinScheduler.{has_batch, is_finished}
use Rattle.server_core.specs.Setting.{Setting, participants_for}
use Rattle.server_core.specs.declared.messages.Msg.TheVariants as msg
use Rattle.server_core.specs.declared.messages.Msg.{Msg}
use Rattle.calvin_sched.specs.Arrivals.{arrivals_at}
use Rattle.calvin_sched.specs.Asked.{asked}
use Rattle.calvin_sched.specs.Batches.{came, AreTaken}
use Rattle.server_core.specs.Roles.{role_of, setting_of}
use Rattle.calvin_seq.specs.Sequencers.{role_in}
use Rattle.calvin_sched.specs.Queues.{for_key}
use Rattle.calvin_sched.specs.Tables.{queue_at}
use Rattle.calvin_sched.specs.Versions.{version}
use Rattle.calvin_sched.specs.declared.arrivals.Arrival.{Arrival}
use Rattle.calvin_sched.specs.declared.arrivals.Arrivals.{Arrivals}
use Rattle.calvin_sched.specs.declared.batches.Batches.{Batches}
use Rattle.calvin_sched.specs.declared.locks.LockTable.{LockTable}
use Rattle.calvin_sched.specs.declared.node.CalvinNode.{CalvinNode}

-- a batch, where it came
abbrev pub batch_if : Setting → List Msg → Slot → Option (List TxnId)
batch_if s ms l = if has_batch ms l then Some (batch s l) else None

-- the batches that came are those of the global order
pub record HasBatches (s : Setting) (b : Batches) (ms : List Msg) : Type 0 where
  pub came : came b ≡ map (batch_if s ms) (slots s)
  pub taken : AreTaken b

-- each queue has the requests of the taken, unfinished transactions in the order of their numbers
abbrev pub HasLocks : Setting → ℕ → LockTable → List Msg → Type 0
HasLocks s p locks ms = (key : Key) → queue_at locks key ≡ for_key key (asked s p (active s p ms))

-- the Rows of a transaction, in the order in which they came
abbrev pub came_for : TxnId → List Msg → List Arrival
came_for x [] = []
came_for x (msg.Rows y q rows ∷ ms) = if id_eq y x then came_for x ms ++ record { part = q; rows = rows } ∷ [] else came_for x ms
came_for x (m ∷ ms) = came_for x ms

-- they are kept until it finishes here
abbrev pub HasArrivals : Setting → Arrivals → List Msg → Type 0
HasArrivals s arrivals ms = (x : TxnId) → IsIn x s.ids → arrivals_at arrivals x ≡ (if is_finished s ms x then [] else came_for x ms)

-- the store has the versions of the keys of p, and of no other
abbrev pub HasVersions : Setting → ℕ → Seen → List Msg → Type 0
HasVersions s p store ms = (key : Key) → version_at store key ≡ (if partition_of key s.parts == p then version s p ms key else None)

pub record CalvinStands (n : CalvinNode) (ms : List Msg) : Type 0 where
  pub ordered : n.role.config.protocol ≡ Calvin
  pub sequencer : role_of (role_in n.sequencer) ≡ role_of n.role
  pub fit : AllFit (setting_of n.role) n.role.part ms
  pub numbers : n.numbers.items ≡ map (number (setting_of n.role)) (setting_of n.role).ids
  pub counts : n.counts.items ≡ map (λ x. length (participants_for (setting_of n.role) x)) (setting_of n.role).ids
  pub batches : HasBatches (setting_of n.role) n.batches ms
  pub locks : HasLocks (setting_of n.role) n.role.part n.locks ms
  pub arrivals : HasArrivals (setting_of n.role) n.arrivals ms
  pub versions : HasVersions (setting_of n.role) n.role.part n.store ms
