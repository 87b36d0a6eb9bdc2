use Rattle.std.proofs.Common.{◌≡◌, ◌≤◌, ◌∙◌, List, [], ◌∷◌, map, length, ap, get_or, arith}
use Rattle.deneva_base.specs.Partitions.{partition_of}
use Rattle.deneva_base.specs.declared.keys.Key.{Key}
use Rattle.deneva_base.specs.declared.keys.Access.{Access}
use Rattle.txn_program.specs.declared.programs.YcsbStep.{YcsbStep}
use Rattle.txn_program.specs.Transactions.{access_of, ycsb_key, first_key}
use Rattle.txn_program.proofs.accesses.ycsb_home.Goals as goal

-- the first access is that of the first step
first : (steps : List YcsbStep) (step : YcsbStep) → 1 ≤ length steps → step ≡ get_or steps 0 step → (access_of step).key ≡ first_key (map access_of steps)
first [] step h e = absurd (omega arith)
first (s ∷ steps) step h e = ap (λ (x : YcsbStep). ycsb_key x.key) e

pub returns : goal.returns
returns c =
    let same = ap (λ (a : Access). a.key) c.access.ensures ∙ first c.args.steps.now c.index-steps-0.result c.requires.steps c.index-steps-0.is in
    record {
      home = c.partition_of.ensures.part ∙ ap (λ (k : Key). partition_of k c.args.parts) same;
      below = c.partition_of.ensures.below;
    }
