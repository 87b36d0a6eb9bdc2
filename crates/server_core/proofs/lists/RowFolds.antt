-- Folds of changes over maps of rows.
use Rattle.std.proofs.Common.{◌≡◌, ◌≢◌, ◌⊎◌, ℕ, List, [], ◌∷◌, ◌++◌, filter, Bool, true, false, cond, eqb, refl, sym, ap, ◌∙◌, inl, inr, ⊎_elim, Some}
use Rattle.std.proofs.lemmas.Bool.Decides.{eqb_tells}
use Rattle.deneva_base.specs.declared.keys.Key.{Key}
use Rattle.deneva_base.specs.declared.numbers.TxnId.{TxnId}
use Rattle.deneva_base.specs.Lists.{IsIn}
use Rattle.deneva_base.specs.Keys.{key_eq}
use Rattle.deneva_base.specs.declared.rows.Keyed.{Keyed}
use Rattle.deneva_base.specs.Rows.{Rows, put_row, put_rows}
use Rattle.deneva_base.proofs.Membership.{key_tells}
use Rattle.deneva_base.proofs.Membership.{in_cases}
use Rattle.deneva_base.specs.Partitions.{partition_of}
use Rattle.server_core.specs.Coordinator.{at_part}
use Rattle.tpcc_rules.specs.declared.effects.Effect.{Effect}
use Rattle.server_core.specs.Effects.{leaves, written, appended}
use Rattle.server_core.specs.CalvinScheduler.{changed}

pub put_other : (rows : Rows) (w : Keyed) (k : Key) → (w.key ≡ k → ⊥) → put_row rows w k ≡ rows k
put_other rows w k h = ⊎_elim (λ t. absurd (h t.1)) (λ (t : (key_eq w.key k ≡ false) × (w.key ≢ k)). rw t.0 refl) (key_tells w.key k)

pub write_none : (rows : Rows) (ws : List Keyed) (k : Key) → ((w : Keyed) → IsIn w ws → w.key ≡ k → ⊥) → put_rows rows ws k ≡ rows k
write_none rows [] k h = refl
write_none rows (w ∷ ws) k h = write_none (put_row rows w) ws k (λ u i. h u (inr i)) ∙ put_other rows w k (h w (inl refl))

pub write_part : (parts p : ℕ) (r1 r2 : Rows) (ws : List Keyed) (k : Key) → partition_of k parts ≡ p → r1 k ≡ r2 k → put_rows r1 (at_part parts p ws) k ≡ put_rows r2 ws k
write_part parts p r1 r2 [] k e same = same
write_part parts p r1 r2 (w ∷ ws) k e same =
    ⊎_elim
    (λ (t : (eqb (partition_of w.key parts) p ≡ true) × (partition_of w.key parts ≡ p)). rw t.0 (write_part parts p (put_row r1 w) (put_row r2 w) ws k e (ap (λ o. cond (key_eq w.key k) (Some w.row) o) same)))
    (λ (t : (eqb (partition_of w.key parts) p ≡ false) × (partition_of w.key parts ≢ p)). rw t.0 (write_part parts p r1 (put_row r2 w) ws k e (same ∙ sym (put_other r2 w k (λ is. t.1 (ap (λ z. partition_of z parts) is ∙ e))))))
    (eqb_tells (partition_of w.key parts) p)

pub changed-append : (f : TxnId → List Keyed) (rows : Rows) (xs ys : List TxnId) → changed f rows (xs ++ ys) ≡ changed f (changed f rows xs) ys
changed-append f rows [] ys = refl
changed-append f rows (x ∷ xs) ys = changed-append f (put_rows rows (f x)) xs ys

pub filter-append : {A : Type 0} (p : A → Bool) (xs ys : List A) → filter p (xs ++ ys) ≡ filter p xs ++ filter p ys
filter-append p [] ys = refl
filter-append {A} p (x ∷ xs) ys = go (p x) (filter-append p xs ys)
  where
    go : (b : Bool) → filter p (xs ++ ys) ≡ filter p xs ++ filter p ys → cond b (x ∷ filter p (xs ++ ys)) (filter p (xs ++ ys)) ≡ cond b (x ∷ filter p xs) (filter p xs) ++ filter p ys
    go true e = ap (λ l. x ∷ l) e
    go false e = e

pub changed_none : (f : TxnId → List Keyed) (rows : Rows) (xs : List TxnId) (k : Key) → ((x : TxnId) (w : Keyed) → IsIn x xs → IsIn w (f x) → w.key ≡ k → ⊥) → changed f rows xs k ≡ rows k
changed_none f rows [] k h = refl
changed_none f rows (x ∷ xs) k h = changed_none f (put_rows rows (f x)) xs k (λ y w i. h y w (inr i)) ∙ write_none rows (f x) k (λ w. h x w (inl refl))

-- those that count change what the others change at p, and the rest changes nothing there
pub changed_part : (parts p : ℕ) (done : TxnId → Bool) (f g : TxnId → List Keyed) (r1 r2 : Rows) (xs : List TxnId) (k : Key) → partition_of k parts ≡ p → r1 k ≡ r2 k → ((x : TxnId) → IsIn x xs → done x ≡ true → f x ≡ at_part parts p (g x)) → ((x : TxnId) (w : Keyed) → IsIn x xs → done x ≡ false → IsIn w (g x) → w.key ≡ k → ⊥) → changed f r1 (filter done xs) k ≡ changed g r2 xs k
changed_part parts p done f g r1 r2 [] k e same h n = same
changed_part parts p done f g r1 r2 (x ∷ xs) k e same h n =
    go (done x) refl
    (λ r q. changed_part parts p done f g r (put_rows r2 (g x)) xs k e q (λ y i. h y (inr i)) (λ y w i. n y w (inr i)))
  where
    go : (b : Bool) → done x ≡ b → ((r : Rows) → r k ≡ put_rows r2 (g x) k → changed f r (filter done xs) k ≡ changed g (put_rows r2 (g x)) xs k) → changed f r1 (cond b (x ∷ filter done xs) (filter done xs)) k ≡ changed g (put_rows r2 (g x)) xs k
    go true is next = next (put_rows r1 (f x)) (ap (λ l. put_rows r1 l k) (h x (inl refl) is) ∙ write_part parts p r1 r2 (g x) k e same)
    go false is next = next r1 (same ∙ sym (write_none r2 (g x) k (λ w. n x w (inl refl) is)))

pub change_cases : (e : Effect) (w : Keyed) → IsIn w (leaves e) → IsIn w (written e) ⊎ IsIn w (appended e)
change_cases e w i = in_cases w (written e) (appended e) i
