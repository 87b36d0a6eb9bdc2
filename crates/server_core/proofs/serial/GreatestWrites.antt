-- The greatest of the decided transactions that write a key.
use Rattle.std.proofs.Common.{◌≡◌, ◌⊎◌, List, [], ◌∷◌, Bool, true, false, cond, refl, sym, ap, ◌∙◌, subst, ap₂, inl, inr, ⊎_elim, arith, Option, Some, None, true≢false}
use Rattle.deneva_base.specs.declared.keys.Key.{Key}
use Rattle.deneva_base.specs.declared.numbers.Number.{Number}
use Rattle.deneva_base.specs.Lists.{IsIn}
use Rattle.deneva_base.specs.Rows.{Row}
use Rattle.deneva_base.specs.Keys.{NumberLt, number_lt}
use Rattle.deneva_base.specs.declared.rows.Keyed.{Keyed}
use Rattle.protocol_rules.specs.Latest.{Version, row_for}
use Rattle.deneva_base.proofs.Membership.{number_decides}
use Rattle.protocol_rules.proofs.Sound.{row_found, row_some}
use Rattle.server_core.specs.Setting.{Setting}
use Rattle.server_core.specs.declared.outcomes.Decided.{Decided as Line}
use Rattle.server_core.specs.Outcome.{greatest, left_by}
use Rattle.protocol_rules.specs.Leaving.{later}
use Rattle.server_core.proofs.serial.SerialWords.{Wrote, txn_of}
use Rattle.server_core.proofs.serial.SortedLines.{number_trans}

-- the greatest row of a key
pub row_none : (key : Key) (ws : List Keyed) → row_for key ws ≡ None → (x : Row) → IsIn (record { key = key; row = x }) ws → ⊥
row_none key ws e x i = let r = row_some key ws (record { key = key; row = x }) i refl in let f = sym e ∙ r.1 in cc (f)

pub record Top (s : Setting) (key : Key) (ls : List Line) (v : Version) : Type 0 where
  pub is : greatest s key ls ≡ Some v
  pub line : Line
  pub here : IsIn line ls
  pub number : line.number ≡ v.number
  pub wrote : Wrote (txn_of s line) key v.row
  pub most : (k : Line) (x : Row) → IsIn k ls → Wrote (txn_of s k) key x → NumberLt v.number k.number → ⊥

pub tops : (s : Setting) (key : Key) (ls : List Line) → ((greatest s key ls ≡ None) × ((k : Line) (x : Row) → IsIn k ls → Wrote (txn_of s k) key x → ⊥)) ⊎ ((v : Version) × Top s key ls v)
tops s key [] = inl (refl, λ k x i. absurd i)
tops s key (l ∷ ls) = go (row_for key (left_by s l)) refl (tops s key ls)
  where
    irr : (a b : Number) → NumberLt a b → NumberLt b a → ⊥
    irr a b x y = omega (arith, x, y)

    go : (r : Option Row) → row_for key (left_by s l) ≡ r → ((greatest s key ls ≡ None) × ((k : Line) (x : Row) → IsIn k ls → Wrote (txn_of s k) key x → ⊥)) ⊎ ((v : Version) × Top s key ls v) → ((greatest s key (l ∷ ls) ≡ None) × ((k : Line) (x : Row) → IsIn k (l ∷ ls) → Wrote (txn_of s k) key x → ⊥)) ⊎ ((v : Version) × Top s key (l ∷ ls) v)
    go None e ih =
        let none = row_none key (left_by s l) e in
        let skip : greatest s key (l ∷ ls) ≡ greatest s key ls = ap (later (greatest s key ls) l.number) e in
        ⊎_elim
        (λ n. inl (skip ∙ n.0, λ k x i w. ⊎_elim (λ (f : k ≡ l). none x (subst (λ (z : Line). Wrote (txn_of s z) key x) f w)) (λ j. n.1 k x j w) i))
        (λ t. inr (t.0, record { is = skip ∙ t.1.is; line = t.1.line; here = inr t.1.here; number = t.1.number; wrote = t.1.wrote; most = λ k x i w lt. ⊎_elim (λ (f : k ≡ l). none x (subst (λ (z : Line). Wrote (txn_of s z) key x) f w)) (λ j. t.1.most k x j w lt) i }))
        ih
    go (Some row) e ih =
        let mine : Wrote (txn_of s l) key row = row_found key (left_by s l) row e in
        ⊎_elim
        (λ n. inr (
          record { number = l.number; row = row },
          record {
            is = ap₂ (λ a b. later a l.number b) n.0 e;
            line = l;
            here = inl refl;
            number = refl;
            wrote = mine;
            most = λ k x i w lt. ⊎_elim (λ (f : k ≡ l). irr l.number l.number (subst (λ (z : Line). NumberLt l.number z.number) f lt) (subst (λ (z : Line). NumberLt l.number z.number) f lt)) (λ j. n.1 k x j w) i;
          },
        ))
        (λ t. over t.0 t.1 (number_lt t.0.number l.number) refl mine)
        ih
      where
        over : (v : Version) → Top s key ls v → (b : Bool) → number_lt v.number l.number ≡ b → Wrote (txn_of s l) key row → ((greatest s key (l ∷ ls) ≡ None) × ((k : Line) (x : Row) → IsIn k (l ∷ ls) → Wrote (txn_of s k) key x → ⊥)) ⊎ ((v : Version) × Top s key (l ∷ ls) v)
        over v t true eb mine =
            let lt : NumberLt v.number l.number = (number_decides v.number l.number).0 eb in
            inr (
              record { number = l.number; row = row },
              record {
                is = ap₂ (λ a b. later a l.number b) t.is e ∙ ap (λ b. cond b (Some (record { number = l.number; row = row })) (Some v)) eb;
                line = l;
                here = inl refl;
                number = refl;
                wrote = mine;
                most = λ k x i w m. ⊎_elim (λ (f : k ≡ l). irr l.number l.number (subst (λ (z : Line). NumberLt l.number z.number) f m) (subst (λ (z : Line). NumberLt l.number z.number) f m)) (λ j. t.most k x j w (number_trans v.number l.number k.number lt m)) i;
              },
            )
        over v t false eb mine =
            inr (
              v,
              record {
                is = ap₂ (λ a b. later a l.number b) t.is e ∙ ap (λ b. cond b (Some (record { number = l.number; row = row })) (Some v)) eb;
                line = t.line;
                here = inr t.here;
                number = t.number;
                wrote = t.wrote;
                most = λ k x i w m. ⊎_elim (λ (f : k ≡ l). true≢false (sym ((number_decides v.number l.number).1 (subst (λ (z : Line). NumberLt v.number z.number) f m)) ∙ eb)) (λ j. t.most k x j w m) i;
              },
            )
