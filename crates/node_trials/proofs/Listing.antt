-- One message of a list.
use Rattle.std.proofs.Common.{◌≡◌, ℕ, suc, ◌+◌, ◌<◌, List, ◌∷◌, length, get_or, drop, subst, arith}
use Rattle.std.proofs.Math.Seq.{drop-cons}
use Rattle.server_core.specs.Roles.{Role, FitsRole}
use Rattle.server_core.specs.declared.messages.Msg.{Msg}
use Rattle.node_trials.specs.declared.steps.Step.{Step}
use Rattle.node_trials.specs.Trials.{FitInTurn}

parts : (r : Role) (ms : List Msg) (x : Step) (xs : List Step) → FitInTurn r ms (x ∷ xs) → FitsRole r x.from x.msg ms × FitInTurn r (x.msg ∷ ms) xs
unfolding FitInTurn
parts r ms x xs f = f

pub fits_one : (r : Role) (ms : List Msg) (xs : List Step) (i : ℕ) (d : Step) → i < length xs → FitInTurn r ms (drop i xs) → FitsRole r (get_or xs i d).from (get_or xs i d).msg ms × FitInTurn r ((get_or xs i d).msg ∷ ms) (drop (i + 1) xs)
fits_one r ms xs i d less f =
    let next : i + 1 ≡ suc i = omega arith in
    rw next (parts r ms (get_or xs i d) (drop (suc i) xs) (subst (λ l. FitInTurn r ms l) (drop-cons xs i d less) f))
