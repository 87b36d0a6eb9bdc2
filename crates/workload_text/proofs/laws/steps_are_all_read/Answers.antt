use Rattle.std.proofs.Common.{◌≡◌, ℕ, zero, suc, ◌+◌, ◌≤◌, List, [], ◌∷◌, length, drop, Ok, refl, arith, length-drop}
use Rattle.workload_text.specs.Gives.{◌>>=◌}
use Rattle.workload_text.specs.Ycsb.{steps_from, word_at, width, args_of, step_from}
use Rattle.workload_text.specs.declared.heads.YcsbHead.{YcsbHead}
use Rattle.workload_text.proofs.laws.steps_are_all_read.Goals as goal

same : (head : YcsbHead) (most other n : ℕ) (fields : List (List ℕ)) → length fields ≤ most → length fields ≤ other → steps_from head most n fields ≡ steps_from head other n fields
same head most other n [] a b = refl
same head zero other n (word ∷ more) a b = absurd (omega (arith, a))
same head (suc m) zero n (word ∷ more) a b = absurd (omega (arith, b))
same head (suc m) (suc k) n (word ∷ more) a b =
    λ j. word_at n (width head word) >>= λ w. args_of w more >>= λ args. step_from head n word args >>= λ step.
    same head m k (n + 1 + w) (drop w more) (less w m (omega (arith, a))) (less w k (omega (arith, b))) j >>= λ steps. Ok (step ∷ steps)
  where
    less : (w m : ℕ) → length more ≤ m → length (drop w more) ≤ m
    less w m h = simp length-drop (omega (arith, h))

pub returns : goal.returns
returns c = same
