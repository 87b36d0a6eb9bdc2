-- A change at one transaction that leaves its state.
use Rattle.std.proofs.Common.{◌≡◌, ◌≢◌, ◌⊎◌, List, true, false, cond, refl, ap, ◌∙◌, ⊎_elim, inl, inr, Some}
use Rattle.std.specs.Prelude.{option_map}
use Rattle.std.specs.Map.{lookup}
use Rattle.std.proofs.lemmas.Bool.Decides.{eqb_tells}
use Rattle.deneva_base.specs.declared.numbers.TxnId.{TxnId}
use Rattle.deneva_base.specs.Keys.{id_eq}
use Rattle.coord.specs.declared.attempts.Attempting.{Attempting}
use Rattle.coord.specs.Attempts.{state_of}

pub id_tells : (a b : TxnId) → ((id_eq a b ≡ true) × (a ≡ b)) ⊎ ((id_eq a b ≡ false) × (a ≢ b))
id_tells a b = ⊎_elim (λ t. inl (t.0, ap (λ n. record { 0 = n }) t.1)) (λ f. inr (f.0, λ e. f.1 (ap (λ (x : TxnId). x.0) e))) (eqb_tells a.0 b.0)

pub keep_state : (es fs : List (TxnId × Attempting)) (x : TxnId) (new : Attempting) → Some (state_of new) ≡ option_map state_of (lookup (id_eq x) es) → ((y : TxnId) → lookup (id_eq y) fs ≡ cond (id_eq x y) (Some new) (lookup (id_eq y) es)) → (y : TxnId) → option_map state_of (lookup (id_eq y) fs) ≡ option_map state_of (lookup (id_eq y) es)
keep_state es fs x new is h y = ap (option_map state_of) (h y) ∙ ⊎_elim (λ t. rw t.0 (is ∙ ap (λ k. option_map state_of (lookup (id_eq k) es)) t.1)) (λ f. rw f.0 refl) (id_tells x y)
