use Rattle.std.proofs.Common.{◌≡◌, ◌+◌, ◌++◌, map, drop, Ok}
use Rattle.workload_text.specs.Gives.{◌>>=◌}
use Rattle.workload_text.specs.Tpcc.{cells_from}
use Rattle.workload_text.proofs.cells.row_from.Given as goal

-- the cells so far, and those of the columns that are left
abbrev pub invariant-loop-place : goal.invariant-loop-place
invariant-loop-place l =
    (cells_from (l.field_no + l.place) (drop l.place l.columns) (map (λ f. f.now) l.fields) >>= λ cells. Ok (l.cells ++ cells)) ≡ cells_from l.field_no l.columns (map (λ f. f.now) l.fields)
