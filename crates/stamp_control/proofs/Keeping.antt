-- Rows that are kept, one by one.
use Rattle.std.proofs.Common.{◌≡◌, ◌≢◌, List, [], ◌∷◌, Bool, true, false, cond, ◌&&◌, refl, sym, ap, ◌∙◌, subst, inl, inr, ⊎_elim, Option, Some, None}
use Rattle.deneva_base.specs.declared.keys.Key.{Key}
use Rattle.deneva_base.specs.declared.numbers.Number.{Number}
use Rattle.deneva_base.specs.declared.rows.Keyed.{Keyed}
use Rattle.protocol_rules.specs.Conditions.{Distinct}
use Rattle.deneva_base.specs.Keys.{key_eq}
use Rattle.deneva_base.specs.Lists.{IsIn}
use Rattle.protocol_rules.specs.Latest.{row_for}
use Rattle.deneva_base.specs.Rows.{Row}
use Rattle.deneva_base.proofs.Membership.{key_tells}
use Rattle.row_store.proofs.Tables.{same_key-key_eq}
use Rattle.stamp_lines.specs.declared.requests.Request.{Request}
use Rattle.key_table.specs.Keys.{same_key}
use Rattle.stamp_control.specs.Pasts.{Kept, with_version}
use Rattle.stamp_control.specs.Changes.{any_above, kept_by}

-- one row is kept
pub keep_step : (number : Number) (w : Keyed) (rest : List Keyed) (rs : Key → List Request) (p q : Key → Kept) → any_above number.n (rs w.key) ≡ true → ((k : Key) → q k ≡ cond (same_key w.key k) (with_version (record { number = number; row = w.row }) (p w.key)) (p k)) → (k : Key) → kept_by number rest (rs k) k (q k) ≡ kept_by number (w ∷ rest) (rs k) k (p k)
keep_step number w rest rs p q above e k = ap (kept_by number rest (rs k) k) (e k ∙ ap (λ b. cond b (with_version (record { number = number; row = w.row }) (p w.key)) (p k)) (same_key-key_eq w.key k) ∙ ⊎_elim
    (λ t. ap (λ b. cond b (with_version (record { number = number; row = w.row }) (p w.key)) (p k)) t.0 ∙ ap (λ z. with_version (record { number = number; row = w.row }) (p z)) t.1
    ∙ sym (ap (λ b. cond (b && any_above number.n (rs k)) (with_version (record { number = number; row = w.row }) (p k)) (p k)) t.0 ∙ ap (λ b. cond b (with_version (record { number = number; row = w.row }) (p k)) (p k)) (subst (λ z. any_above number.n (rs z) ≡ true) t.1 above)))
    (λ f. ap (λ b. cond b (with_version (record { number = number; row = w.row }) (p w.key)) (p k)) f.0
    ∙ sym (ap (λ b. cond (b && any_above number.n (rs k)) (with_version (record { number = number; row = w.row }) (p k)) (p k)) f.0))
    (key_tells w.key k))

-- the others have what they had
pub keep_other : (number : Number) (w x : Keyed) (p q : Key → Kept) → x.key ≢ w.key → ((k : Key) → q k ≡ cond (same_key w.key k) (with_version (record { number = number; row = w.row }) (p w.key)) (p k)) → q x.key ≡ p x.key
keep_other number w x p q n e = e x.key ∙ ap (λ b. cond b (with_version (record { number = number; row = w.row }) (p w.key)) (p x.key)) (same_key-key_eq w.key x.key) ∙ ⊎_elim (λ t. absurd (n (sym t.1))) (λ f. ap (λ b. cond b (with_version (record { number = number; row = w.row }) (p w.key)) (p x.key)) f.0) (key_tells w.key x.key)

-- of distinct keys each is kept at most once
pub kept_once : (number : Number) (ws : List Keyed) (rs : List Request) (k : Key) (p : Kept) → row_for k ws ≡ None → kept_by number ws rs k p ≡ p
kept_once number [] rs k p e = refl
kept_once number (w ∷ ws) rs k p e = go (key_eq w.key k) e (λ x. kept_once number ws rs k p x)
  where
    go : (b : Bool) → cond b (Some w.row) (row_for k ws) ≡ None → (row_for k ws ≡ None → kept_by number ws rs k p ≡ p) → kept_by number ws rs k (cond (b && any_above number.n rs) (with_version (record { number = number; row = w.row }) p) p) ≡ p
    go true e rest = absurd (cc (e))
    go false e rest = rest e

no_row : (k : Key) (ws : List Keyed) → ((x : Keyed) → IsIn x ws → x.key ≢ k) → row_for k ws ≡ None
no_row k [] n = refl
no_row k (w ∷ ws) n = ⊎_elim (λ t. absurd (n w (inl refl) t.1)) (λ f. ap (λ b. cond b (Some w.row) (row_for k ws)) f.0 ∙ no_row k ws (λ x i. n x (inr i))) (key_tells w.key k)

pub kept_row : (number : Number) (ws : List Keyed) (rs : List Request) (k : Key) (p : Kept) (row : Row) → Distinct ws → row_for k ws ≡ Some row → kept_by number ws rs k p ≡ cond (any_above number.n rs) (with_version (record { number = number; row = row }) p) p
kept_row number [] rs k p row d e = absurd (cc (e))
kept_row number (w ∷ ws) rs k p row d e = ⊎_elim
    (λ t.
    let same : w.row ≡ row = some_is (sym (ap (λ b. cond b (Some w.row) (row_for k ws)) t.0) ∙ e) in
    ap (λ b. kept_by number ws rs k (cond (b && any_above number.n rs) (with_version (record { number = number; row = w.row }) p) p)) t.0
    ∙ kept_once number ws rs k (cond (any_above number.n rs) (with_version (record { number = number; row = w.row }) p) p) (no_row k ws (λ x i s. d.0 x i (s ∙ sym t.1)))
    ∙ ap (λ r. cond (any_above number.n rs) (with_version (record { number = number; row = r }) p) p) same)
    (λ f.
    ap (λ b. kept_by number ws rs k (cond (b && any_above number.n rs) (with_version (record { number = number; row = w.row }) p) p)) f.0
    ∙ kept_row number ws rs k p row d.1 (sym (ap (λ b. cond b (Some w.row) (row_for k ws)) f.0) ∙ e))
    (key_tells w.key k)
  where
    some_is : Some w.row ≡ Some row → w.row ≡ row
    some_is s = ap (λ o. get o) s
      where
        get : Option Row → Row
        get None = row
        get (Some x) = x
