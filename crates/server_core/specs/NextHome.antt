-- Which home transaction a node begins when another one is decided or given up.
use Rattle.std.specs.Prelude.{◌≡◌, ℕ, ◌<◌, List, [], ◌∷◌, Bool, not, Option, Some, None, if◌then◌else◌}
use Rattle.deneva_base.specs.declared.numbers.TxnId.{TxnId}
use Rattle.server_core.specs.Coordinator.{mail_start, next_start, overs}
use Rattle.server_core.specs.RunAccount.{starts_txn, was_said}
use Rattle.server_core.specs.Runs.{heard}
use Rattle.server_core.specs.Setting.{Setting, homes}
use Rattle.server_core.specs.declared.messages.Entry.{Entry}

-- the first of a list that passes
abbrev pub first_that : (TxnId → Bool) → List TxnId → Option TxnId
first_that t [] = None
first_that t (x ∷ xs) = if t x then Some x else first_that t xs

-- the first home transaction of a node, in file order, of which no attempt is begun
abbrev pub next_home : Setting → List Entry → ℕ → Option TxnId
next_home s H p = first_that (λ x. not (was_said s H (starts_txn x))) (homes s p)

-- where the next message makes a home transaction decided or given up, the Start that its node says is that of the next one
abbrev pub BeginsNext : Setting → List Entry → Type 0
BeginsNext s H = (p : ℕ) → p < s.parts → next_start s p (overs s (heard p H)) ≡ mail_start p (next_home s H p)
