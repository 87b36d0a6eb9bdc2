use Rattle.row_store.proofs.Loading.{IsLoading}
use Rattle.row_store.proofs.store.Store.begin.Given as goal

-- the rows so far are loaded
abbrev pub invariant-loop-key : goal.invariant-loop-key
invariant-loop-key l = IsLoading l.fn.rows l.key-iterator.rest.items l.versions.entries
