use Rattle.std.proofs.Common.{◌≡◌, drop}
use Rattle.workload_text.specs.Ycsb as ycsb
use Rattle.workload_text.proofs.ycsb_records.first_unknown.Given as goal

-- the first is among the steps that are left
abbrev pub invariant-loop-placed : goal.invariant-loop-placed
invariant-loop-placed l = ycsb.first_unknown l.rows (drop l.placed-index l.steps) ≡ ycsb.first_unknown l.rows l.steps
