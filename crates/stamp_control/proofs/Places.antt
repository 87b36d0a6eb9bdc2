-- A change at one key of the hash table, as what is kept of the key.
use Rattle.std.proofs.Common.{◌≡◌, ◌≢◌, ℕ, suc, ◌+◌, ◌<◌, List, drop, length, get_or, Bool, true, false, cond, Some, refl, sym, ap, ⊎_elim, ◌∙◌, subst, arith}
use Rattle.std.proofs.Math.Seq.{drop-cons}
use Rattle.std.specs.Map.{lookup}
use Rattle.deneva_base.specs.declared.keys.Key.{Key}
use Rattle.key_table.specs.Keys.{same_key}
use Rattle.key_table.proofs.Places.{same_tells}
use Rattle.stamp_lines.specs.declared.lines.Waiter.{Waiter}
use Rattle.stamp_control.specs.declared.pasts.Past.{Past}
use Rattle.stamp_control.specs.Pasts.{Kept, past_of, past_in, granted_at, all_granted_at, Wider}

pub set_past : (es fs : List (Key × Past)) (key : Key) (new : Past) → ((other : Key) → lookup (same_key other) fs ≡ cond (same_key key other) (Some new) (lookup (same_key other) es)) → (other : Key) → past_in (lookup (same_key other) fs) ≡ cond (same_key key other) (past_of new) (past_in (lookup (same_key other) es))
set_past es fs key new h other = ap past_in (h other) ∙ go (same_key key other)
  where
    go : (b : Bool) → past_in (cond b (Some new) (lookup (same_key other) es)) ≡ cond b (past_of new) (past_in (lookup (same_key other) es))
    go true = refl
    go false = refl

-- elsewhere it is what it was
pub other_past : (es fs : List (Key × Past)) (key : Key) (new : Past) → ((other : Key) → lookup (same_key other) fs ≡ cond (same_key key other) (Some new) (lookup (same_key other) es)) → (other : Key) → other ≢ key → past_in (lookup (same_key other) fs) ≡ past_in (lookup (same_key other) es)
other_past es fs key new h other n = set_past es fs key new h other ∙ ⊎_elim (λ t. absurd (n (sym t.1))) (λ f. ap (λ b. cond b (past_of new) (past_in (lookup (same_key other) es))) f.0) (same_tells key other)

pub wider_same : (p : Kept) → Wider p p
wider_same p = record { read = refl; versions = refl; spare = omega arith; present = λ e. e }

-- a change that widens
pub wider_at : (es fs : List (Key × Past)) (key : Key) (new : Past) → Wider (past_in (lookup (same_key key) es)) (past_of new) → ((other : Key) → lookup (same_key other) fs ≡ cond (same_key key other) (Some new) (lookup (same_key other) es)) → (other : Key) → Wider (past_in (lookup (same_key other) es)) (past_in (lookup (same_key other) fs))
wider_at es fs key new w h other = ⊎_elim
    (λ t. subst (λ p. Wider (past_in (lookup (same_key other) es)) p) (sym (set_past es fs key new h other ∙ ap (λ b. cond b (past_of new) (past_in (lookup (same_key other) es))) t.0)) (subst (λ k. Wider (past_in (lookup (same_key k) es)) (past_of new)) t.1 w))
    (λ f. subst (λ p. Wider (past_in (lookup (same_key other) es)) p) (sym (set_past es fs key new h other ∙ ap (λ b. cond b (past_of new) (past_in (lookup (same_key other) es))) f.0)) (wider_same (past_in (lookup (same_key other) es))))
    (same_tells key other)

-- one more access is granted
pub grant_step : (ws : List Waiter) (i : ℕ) (d : Waiter) (key : Key) (p q : Kept) → i < length ws → q ≡ granted_at (get_or ws i d).key (get_or ws i d).stamp (get_or ws i d).mode key p → all_granted_at (drop (i + 1) ws) key q ≡ all_granted_at (drop i ws) key p
grant_step ws i d key p q less e =
    let next : i + 1 ≡ suc i = omega arith in
    rw next (ap (λ x. all_granted_at (drop (suc i) ws) key x) e ∙ sym (ap (λ x. all_granted_at x key p) (drop-cons ws i d less)))
