use Rattle.std.proofs.Common.{◌≡◌, ◌+◌, ◌-◌, ◌*◌, ◌++◌, map, Ok}
use Rattle.workload_text.specs.Gives.{◌>>=◌}
use Rattle.workload_text.specs.Tpcc.{lines_from}
use Rattle.workload_text.proofs.orders.lines_from.Given as goal

-- the lines so far, and those that are left
abbrev pub invariant-loop-place : goal.invariant-loop-place
invariant-loop-place l =
    (lines_from (l.count - l.place) (5 + 3 * l.place) (map (λ f. f.now) l.fields) >>= λ lines. Ok (l.lines ++ lines)) ≡ lines_from l.count 5 (map (λ f. f.now) l.fields)
