-- A change at one transaction of the table of arrivals.
use Rattle.std.proofs.Common.{◌≡◌, List, Bool, true, false, cond, Some, refl, ap, ⊎_elim, ◌∙◌}
use Rattle.std.specs.Map.{lookup}
use Rattle.deneva_base.specs.Keys.{id_eq}
use Rattle.deneva_base.specs.declared.numbers.TxnId.{TxnId}
use Rattle.server_core.proofs.lists.ListTests.{id_tells}
use Rattle.calvin_sched.specs.Arrivals.{arrivals_in}
use Rattle.calvin_sched.specs.declared.arrivals.Arrived.{Arrived}

-- a table that has this at the transaction
pub set_arrived : (es fs : List (TxnId × Arrived)) (id : TxnId) (new : Arrived) → ((other : TxnId) → lookup (id_eq other) fs ≡ cond (id_eq id other) (Some new) (lookup (id_eq other) es)) → (other : TxnId) → arrivals_in (lookup (id_eq other) fs) ≡ cond (id_eq id other) new.list.items (arrivals_in (lookup (id_eq other) es))
set_arrived es fs id new h other = ap arrivals_in (h other) ∙ go (id_eq id other)
  where
    go : (b : Bool) → arrivals_in (cond b (Some new) (lookup (id_eq other) es)) ≡ cond b new.list.items (arrivals_in (lookup (id_eq other) es))
    go true = refl
    go false = refl

-- or has what it had
pub keep_arrived : (es fs : List (TxnId × Arrived)) (id : TxnId) (new : Arrived) → new.list.items ≡ arrivals_in (lookup (id_eq id) es) → ((other : TxnId) → lookup (id_eq other) fs ≡ cond (id_eq id other) (Some new) (lookup (id_eq other) es)) → (other : TxnId) → arrivals_in (lookup (id_eq other) fs) ≡ arrivals_in (lookup (id_eq other) es)
keep_arrived es fs id new is h other = set_arrived es fs id new h other ∙ ⊎_elim (λ t. rw t.0 (is ∙ ap (λ k. arrivals_in (lookup (id_eq k) es)) t.1)) (λ f. rw f.0 refl) (id_tells id other)
