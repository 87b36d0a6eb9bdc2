-- Transactions executed one at a time on rows by key, and what the window law says of all pairs of them.
use Rattle.std.specs.Prelude.{◌≡◌, ◌≢◌, ◌⊎◌, ⊤, ◌<◌, ◌≤◌, List, [], ◌∷◌, cond, Some}
use Rattle.deneva_base.specs.Keys.{NumberLt}
use Rattle.deneva_base.specs.Lists.{IsIn}
use Rattle.deneva_base.specs.Modes.{reads}
use Rattle.deneva_base.specs.Rows.{Row, Rows, row_or_empty, put_rows}
use Rattle.deneva_base.specs.declared.keys.Access.{Access}
use Rattle.deneva_base.specs.declared.keys.Key.{Key}
use Rattle.deneva_base.specs.declared.numbers.Number.{Number}
use Rattle.deneva_base.specs.declared.numbers.TxnId.{TxnId}
use Rattle.deneva_base.specs.declared.rows.Keyed.{Keyed}
use Rattle.txn_program.specs.declared.serial.SerialTxn.{SerialTxn}
use Rattle.server_core.specs.declared.outcomes.Decided.{Decided as Line}
use Rattle.server_core.specs.declared.outcomes.Giveup.{Giveup}
use Rattle.server_core.specs.Effects.{leaves}
use Rattle.server_core.specs.Outcome.{left_by}
use Rattle.server_core.specs.Setting.{Setting}

-- what the accesses that read find in the rows
abbrev pub read_from : Rows → List Access → List Keyed
read_from rows [] = []
read_from rows (a ∷ more) = cond (reads a.mode) (record { key = a.key; row = row_or_empty (rows a.key) } ∷ read_from rows more) (read_from rows more)

abbrev pub run_one : Setting → Rows → TxnId → SerialTxn
run_one s rows x = record {
  id = x;
  reads = read_from rows (s.accesses x);
  verdict = (s.effect x (read_from rows (s.accesses x))).verdict;
  answer = (s.effect x (read_from rows (s.accesses x))).answer;
}

abbrev pub leave : Setting → Rows → TxnId → Rows
leave s rows x = put_rows rows (leaves (s.effect x (read_from rows (s.accesses x))))

abbrev pub serial : Setting → Rows → List TxnId → List SerialTxn
serial s rows [] = []
serial s rows (x ∷ xs) = run_one s rows x ∷ serial s (leave s rows x) xs

abbrev pub rows_after : Setting → Rows → List TxnId → Rows
rows_after s rows [] = rows
rows_after s rows (x ∷ xs) = rows_after s (leave s rows x) xs

abbrev pub IsDecidedIn : List Line → TxnId → Type 0
IsDecidedIn ls x = (l : Line) × IsIn l ls × (l.number.id ≡ x)

abbrev pub IsGivenUpIn : List Giveup → TxnId → Type 0
IsGivenUpIn gs x = (g : Giveup) × IsIn g gs × (g.id ≡ x)

-- a decided transaction: its number, what it read, and what it wrote or appended
pub record Txn : Type 0 where
  pub number : Number
  pub reads : List Keyed
  pub writes : List Keyed

-- a line as a transaction
abbrev pub txn_of : Setting → Line → Txn
txn_of s l = record { number = l.number; reads = l.reads; writes = left_by s l }

-- the rows after these transactions, one after another
abbrev pub after : Rows → List Txn → Rows
after rows [] = rows
after rows (t ∷ ts) = after (put_rows rows t.writes) ts

-- each transaction, at its turn, reads what it read
abbrev pub Replays : Rows → List Txn → Type 0
Replays rows [] = ⊤
Replays rows (t ∷ ts) = ((r : Keyed) → IsIn r t.reads → rows r.key ≡ Some r.row) × Replays (put_rows rows t.writes) ts

-- in rising order of number
abbrev pub Rising : List Txn → Type 0
Rising [] = ⊤
Rising (t ∷ ts) = ((u : Txn) → IsIn u ts → NumberLt t.number u.number) × Rising ts

abbrev pub Wrote : Txn → Key → Row → Type 0
Wrote t key row = IsIn (record { key = key; row = row }) t.writes

-- a read row is the loaded one or was written, below the reader's number, and no other writes the key between
pub record Found (loaded : Rows) (ts : List Txn) (t : Txn) (r : Keyed) : Type 0 where
  pub version : Number
  pub source : ((version.n ≡ 0) × (loaded r.key ≡ Some r.row)) ⊎ ((w : Txn) × IsIn w ts × (w.number ≡ version) × Wrote w r.key r.row)
  pub earlier : version.n < t.number.n
  pub others : (u : Txn) (row : Row) → IsIn u ts → u.number ≢ t.number → Wrote u r.key row → (u.number.n ≤ version.n) ⊎ (t.number.n < u.number.n)

pub record Agrees (loaded : Rows) (ts : List Txn) : Type 0 where
  pub found : (t : Txn) (r : Keyed) → IsIn t ts → IsIn r t.reads → Found loaded ts t r
  -- of a key that is read: who writes it has a number above 0, and two that write it have different n
  pub positive : (t : Txn) (r : Keyed) (u : Txn) (row : Row) → IsIn t ts → IsIn r t.reads → IsIn u ts → Wrote u r.key row → 1 ≤ u.number.n
  pub apart : (t : Txn) (r : Keyed) (u w : Txn) (x y : Row) → IsIn t ts → IsIn r t.reads → IsIn u ts → IsIn w ts → Wrote u r.key x → Wrote w r.key y → u.number ≢ w.number → u.number.n ≢ w.number.n
  pub one_row : (t : Txn) (key : Key) (x y : Row) → IsIn t ts → Wrote t key x → Wrote t key y → x ≡ y

-- the last map: the row of the greatest number, else the loaded one
pub record IsLast (loaded rows : Rows) (ts : List Txn) : Type 0 where
  pub written : (w : Txn) (key : Key) (row : Row) → IsIn w ts → Wrote w key row → ((u : Txn) (x : Row) → IsIn u ts → Wrote u key x → NumberLt w.number u.number → ⊥) → rows key ≡ Some row
  pub untouched : (key : Key) → ((u : Txn) (x : Row) → IsIn u ts → Wrote u key x → ⊥) → rows key ≡ loaded key
