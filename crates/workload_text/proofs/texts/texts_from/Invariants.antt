use Rattle.std.proofs.Common.{◌≡◌, ◌+◌, ◌++◌, map, drop, Ok}
use Rattle.workload_text.specs.Gives.{◌>>=◌}
use Rattle.workload_text.specs.Fields.{texts_from}
use Rattle.workload_text.proofs.texts.texts_from.Given as goal

-- the cells so far, and those of the texts that are left
abbrev pub invariant-loop-place : goal.invariant-loop-place
invariant-loop-place l =
    (texts_from (l.field_no + l.place) (map (λ f. f.now) (drop l.place l.fields)) >>= λ cells. Ok (l.cells ++ cells)) ≡ texts_from l.field_no (map (λ f. f.now) l.fields)
