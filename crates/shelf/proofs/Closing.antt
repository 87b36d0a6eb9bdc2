-- Ends that wake nobody, and what a call says if it succeeds.
use Rattle.std.proofs.Common.{◌≡◌, List, [], ◌∷◌, filter, not, refl, sym, ap, ◌∙◌, subst}
use Rattle.std.specs.declared.result.Result.{Result}
use Rattle.std.specs.declared.result.Result.TheVariants.{Ok, Err}
use Rattle.std.specs.Prelude.{IfOk, OnOk}
use Rattle.deneva_base.specs.declared.numbers.Attempt.{Attempt}
use Rattle.deneva_base.specs.declared.numbers.Number.{Number}
use Rattle.deneva_base.specs.Lists.{IsIn}
use Rattle.deneva_base.specs.Rows.{Rows}
use Rattle.protocol_rules.specs.Conditions.{MayCommit, MayAbort}
use Rattle.protocol_rules.specs.History.{Commit, Abort, History, Asked, waits, closed, WaitsNowhere, is_woken}
use Rattle.protocol_rules.proofs.Sound.{Sound}
use Rattle.protocol_rules.proofs.Known.{Known}
use Rattle.shelf.specs.Keeps.{Closes}

pub waits_same : (ws : List Asked) → filter (λ a. not (is_woken [] a)) ws ≡ ws
waits_same [] = refl
waits_same (w ∷ ws) = ap (λ l. w ∷ l) (waits_same ws)

module _ {loaded : Rows} {h : History} {who : Attempt} where
  -- an attempt that commits waits nowhere
  pub commit_nowhere : {number : Number} → Known loaded h → Sound loaded h → MayCommit h who number → WaitsNowhere h who
  commit_nowhere known sound may a i e = known.opened a i (subst (λ w. IsIn w (closed h)) (may.inside.2 ∙ sym e) (sound.closes may.inside.0 may.inside.1))

  pub commit_closes : {number : Number} → Known loaded h → Sound loaded h → MayCommit h who number → Closes h (Commit who number [] ∷ h) who
  commit_closes known sound may = record { grants_same = refl; waits_same = waits_same (waits h); ended_more = refl; yeas_same = refl; unended = may.unended; nowhere = commit_nowhere known sound may }

pub abort_closes : {h : History} {who : Attempt} → MayAbort h who → Closes h (Abort who [] ∷ h) who
abort_closes {h} may = record { grants_same = refl; waits_same = waits_same (waits h); ended_more = refl; yeas_same = refl; unended = may.unended; nowhere = may.nowhere }

pub both : {X Y : Type 0} (r : Result X Y) (P : X → Type 0) (Q : Type 0) (R : X → Type 0) → ((x : X) → P x → Q → R x) → IfOk r P → OnOk r Q → IfOk r R
both (Ok x) P Q R f p q = f x p q
both (Err e) P Q R f p q = tt
