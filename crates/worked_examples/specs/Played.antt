-- Calls at one partition, answered by a rule one after another.
use Rattle.std.specs.Prelude.{ℕ, List, [], ◌∷◌, reverse, Some}
use Rattle.protocol_rules.specs.History.{Ask, Prepare, Commit, Abort, History}
use Rattle.deneva_base.specs.Rows.{Row, Rows}
use Rattle.protocol_rules.specs.Rules.{Rule}
use Rattle.deneva_base.specs.declared.answers.Answer.{Answer}
use Rattle.deneva_base.specs.declared.answers.Vote.{Vote}
use Rattle.deneva_base.specs.declared.answers.Wake.{Wake}
use Rattle.deneva_base.specs.declared.causes.Bound.{Bound}
use Rattle.deneva_base.specs.declared.keys.Mode.{Mode}
use Rattle.deneva_base.specs.declared.numbers.Attempt.{Attempt}
use Rattle.deneva_base.specs.declared.numbers.Number.{Number}
use Rattle.deneva_base.specs.declared.rows.Cell.TheVariants.{Text}
use Rattle.deneva_base.specs.declared.rows.Keyed.{Keyed}
use Rattle.txn_program.specs.Transactions.{ycsb_key}

-- all calls are of the row of key 1; the n-th transaction has one attempt
abbrev pub first_of : ℕ → Attempt
first_of x = record { txn = record { 0 = x }; turn = 1 }

abbrev pub number : ℕ → ℕ → Number
number n x = record { n = n; id = record { 0 = x } }

abbrev pub cells : List ℕ → Row
cells text = Text text ∷ []

-- the same row is loaded at each key
abbrev pub everywhere : List ℕ → Rows
everywhere text key = Some (cells text)

abbrev pub bound_of : ℕ → Bound
bound_of n = record { n = n; key = ycsb_key 1 }

abbrev pub writes : List ℕ → List Keyed
writes text = record { key = ycsb_key 1; row = cells text } ∷ []

-- transaction x asks with a stamp, prepares with a bound, commits with a number, or aborts
pub data Request : Type 0 where
  Asks : (x stamp : ℕ) (mode : Mode) → Request
  Prepares : (x bound : ℕ) (rows : List Keyed) → Request
  Commits : (x n : ℕ) → Request
  Aborts : (x : ℕ) → Request

abbrev pub answered : Rule → History → Request → History
answered r h (Asks x stamp mode) = Ask (first_of x) stamp (ycsb_key 1) mode (r.ask h (first_of x) stamp (ycsb_key 1) mode) ∷ h
answered r h (Prepares x bound rows) = Prepare (first_of x) (bound_of bound) rows [] (r.vote h (first_of x) (bound_of bound) rows []) ∷ h
answered r h (Commits x n) = Commit (first_of x) (number n x) (r.commit h (first_of x) (number n x)) ∷ h
answered r h (Aborts x) = Abort (first_of x) (r.abort h (first_of x)) ∷ h

abbrev pub played : Rule → History → List Request → History
played r h [] = h
played r h (x ∷ xs) = played r (answered r h x) xs

-- what a call answers
pub data Said : Type 0 where
  Tells : (answer : Answer) → Said
  Votes : (vote : Vote) → Said
  Wakes : (woken : List Wake) → Said

abbrev pub said : History → List Said
said [] = []
said (Ask who stamp key mode answer ∷ h) = Tells answer ∷ said h
said (Prepare who bound rows appends vote ∷ h) = Votes vote ∷ said h
said (Commit who n woken ∷ h) = Wakes woken ∷ said h
said (Abort who woken ∷ h) = Wakes woken ∷ said h

-- the answers, in the order of the requests
abbrev pub answers : Rule → List Request → List Said
answers r requests = reverse (said (played r [] requests))

-- a wake of transaction x with this row and version
abbrev pub wakes : ℕ → List ℕ → Number → Said
wakes x text version = Wakes (record { who = first_of x; key = ycsb_key 1; row = cells text; version = version; bound = 0 } ∷ [])
