-- The rows, keys, bounds and numbers of the trials, and what a trial keeps.
use Rattle.std.specs.Prelude.{◌≡◌, ℕ, pos, List, [], ◌∷◌, ◌++◌, Bool, true, ◌==◌, ◌&&◌, nat_lt, is_some, Option, Some, None}
use Rattle.deneva_base.specs.declared.keys.Key.{Key}
use Rattle.deneva_base.specs.declared.numbers.Number.{Number}
use Rattle.deneva_base.specs.declared.numbers.Attempt.{Attempt}
use Rattle.deneva_base.specs.declared.causes.Bound.{Bound}
use Rattle.deneva_base.specs.declared.rows.Cell.TheVariants.{Num}
use Rattle.deneva_base.specs.declared.rows.Keyed.{Keyed}
use Rattle.deneva_base.specs.Rows.{Rows}
use Rattle.protocol_rules.specs.History.{History}
use Rattle.row_store.specs.Stores.{Seen, row_in}
use Rattle.control_trials.specs.declared.steps.Cells.{Cells}
use Rattle.control_trials.specs.declared.log.Log.{Log}
use Rattle.control_trials.specs.Logs.{Follows}

abbrev pub attempt_of : ℕ → ℕ → Attempt
attempt_of txn turn = record { txn = record { 0 = txn }; turn = turn }

abbrev pub key_in : ℕ → ℕ → Key
key_in table a = record { table = table; a = a; b = 0; c = 0 }

abbrev pub trial_key : ℕ → Key
trial_key a = key_in 0 a

abbrev pub bound_of : ℕ → Bound
bound_of n = record { n = n; key = trial_key 0 }

abbrev pub number_of : Attempt → ℕ → Number
number_of who n = record { n = n; id = who.txn }

-- a row of one number, if there is one
abbrev pub rows_at : ℕ → ℕ → Option ℕ → List Keyed
rows_at table a None = []
rows_at table a (Some cell) = record { key = key_in table a; row = Num (pos cell) ∷ [] } ∷ []

-- the rows for the keys 0 and 1 of a table
abbrev pub rows_of : ℕ → Cells → List Keyed
rows_of table cells = rows_at table 0 cells.first ++ rows_at table 1 cells.second

-- the keys 0 and 1 of table 0
abbrev pub is_trial_key : Key → Bool
is_trial_key k = (k.table == 0) && (nat_lt k.a 2 && ((k.b == 0) && (k.c == 0)))

-- they have rows
abbrev pub HasTrialRows : Rows → Type 0
HasTrialRows rows = (key : Key) → is_trial_key key ≡ true → is_some (rows key) ≡ true

abbrev pub HasTwoRows : Seen → Type 0
HasTwoRows s = HasTrialRows (row_in s)

-- a control stands for a history over the trial's rows, and the log follows it
pub record IsKept (stands : Rows → History → Type 0) (log : Log) : Type 0 where
  pub loaded : Rows
  pub calls : History
  pub rows : HasTrialRows loaded
  pub is : stands loaded calls
  pub follows : Follows log calls
