-- Counts of decided transactions.
use Rattle.std.proofs.Common.{◌≡◌, ◌+◌, Bool, true, false, not, cond, List, [], ◌∷◌, length, refl, sym, arith}
use Rattle.std.specs.List.{filter}
use Rattle.std.proofs.lemmas.List.Sums.{length-filter}
use Rattle.server_core.specs.declared.outcomes.Decided.{Decided}
use Rattle.report.specs.ReportText.{is_commit, commits, rollbacks}

-- those that pass a test and those that do not are all
both : {X : Type 0} (p : X → Bool) (xs : List X) → length (filter p xs) + length (filter (λ x. not (p x)) xs) ≡ length xs
both p [] = refl
both p (x ∷ xs) = one_more (p x) (both p xs)
  where
    one_more : (b : Bool) → length (filter p xs) + length (filter (λ x. not (p x)) xs) ≡ length xs
        → length (cond b (x ∷ filter p xs) (filter p xs)) + length (cond (not b) (x ∷ filter (λ x. not (p x)) xs) (filter (λ x. not (p x)) xs)) ≡ length (x ∷ xs)
    one_more true h = omega (arith, h)
    one_more false h = omega (arith, h)

-- each decided transaction committed or rolled itself back
pub commits-and-rollbacks : (list : List Decided) → commits list + rollbacks list ≡ length list
commits-and-rollbacks list = rw (sym (length-filter (λ (d : Decided). is_commit d.verdict) list), sym (length-filter (λ (d : Decided). not (is_commit d.verdict)) list)) (both (λ (d : Decided). is_commit d.verdict) list)
