-- Runs by a schedule.
use Rattle.std.specs.Prelude.{ℕ, zero, suc, ◌-◌, ◌%◌, ◌<◌, ◌≤◌, List, [], ◌∷◌, ◌++◌, length, slice_get, Option, Some, None}
use Rattle.deneva_base.specs.declared.config.Config.{Config}
use Rattle.rand_pcg.specs.Lcg.{advance, increment_of, started}
use Rattle.rand_pcg.specs.Pcg.{multiplier_64, pcg32}
use Rattle.txn_program.specs.declared.programs.Workload.{Workload}
use Rattle.server_core.specs.Family.{family}
use Rattle.server_core.specs.Runs.{Saying, entry_of, heard}
use Rattle.server_core.specs.Says.{says, opening_mails}
use Rattle.server_core.specs.Setting.{setting, take_first, drop_first}
use Rattle.server_core.specs.declared.messages.Entry.{Entry}
use Rattle.server_core.specs.declared.messages.Mail.{Mail}
use Rattle.server_core.specs.declared.schedules.Schedule.{Schedule}
use Rattle.server_core.specs.declared.schedules.Schedule.TheVariants.{Fifo, Lifo, Seed, Listed}

-- the entries so far, the newest first, and what is in flight after them, in the order said
pub record Progress : Type 0 where
  pub entries : List Entry
  pub flight : List Mail

abbrev pub delivered : Saying → ℕ → Progress → Option Mail → Progress
delivered says k w None = w
delivered says k w (Some m) = record {
  entries = entry_of (length w.entries) m ∷ w.entries;
  flight = (take_first k w.flight ++ drop_first (suc k) w.flight) ++ says m.to (m.msg ∷ heard m.to w.entries);
}

-- the k-th mail in flight, counted from 0, is taken away and handled; what its node says is put at the end
abbrev pub deliver : Saying → ℕ → Progress → Progress
deliver says k w = delivered says k w (slice_get w.flight k)

-- so many deliveries, of which the first has the index i: pick gives the position by the index and by how many mails are in
-- flight
abbrev pub deliveries : Saying → (ℕ → ℕ → ℕ) → ℕ → ℕ → Progress → Progress
deliveries says pick i zero w = w
deliveries says pick i (suc n) w = deliveries says pick (suc i) n (deliver says (pick i (length w.flight)) w)

-- the i-th word, counted from 0, of the generator of a seed
abbrev pub word : ℕ → ℕ → ℕ
word seed i = (pcg32 (advance 64 multiplier_64 i (started 64 multiplier_64 seed (increment_of 64 2)))).0

abbrev pub listed : Option ℕ → ℕ → ℕ
listed None n = 0
listed (Some k) n = k % n

-- the position that a schedule picks at delivery i, counted from 0, with n in flight
abbrev pub position : Schedule → ℕ → ℕ → ℕ
position Fifo i n = 0
position Lifo i n = n - 1
position (Seed seed) i n = word seed i % n
position (Listed numbers) i n = listed (slice_get numbers i) n

-- of any number in flight it picks one
abbrev pub PicksOne : (ℕ → ℕ → ℕ) → Type 0
PicksOne pick = (i n : ℕ) → 1 ≤ n → pick i n < n

-- no run has more entries
abbrev pub most_entries : Config → Workload → ℕ
most_entries c w = (family c.protocol).most (setting c w)

abbrev pub begun : Config → Workload → Progress
begun c w = record { entries = []; flight = opening_mails c w }

-- what a schedule picks until nothing is in flight; nothing is delivered then
abbrev pub progress : Config → Workload → Schedule → Progress
progress c w schedule = deliveries (says c w) (position schedule) 0 (most_entries c w) (begun c w)

-- the entries of that run, the newest first
abbrev pub picked : Config → Workload → Schedule → List Entry
picked c w schedule = (progress c w schedule).entries
