use Rattle.std.proofs.Common.{◌≡◌, ◌+◌, ◌++◌, drop}
use Rattle.txn_program.specs.Serial.{ids_from, all_ids}
use Rattle.deneva_top.proofs.calls.ids_of.Given as goal

-- the ids so far, and those of the programs that are left
abbrev pub invariant-loop-place : goal.invariant-loop-place
invariant-loop-place l = l.ids ++ ids_from (l.place + 1) (drop l.place l.work.programs) ≡ all_ids l.work
