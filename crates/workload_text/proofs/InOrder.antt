-- What holds of a load holds of it in order.
use Rattle.std.proofs.Common.{◌≡◌, ℕ, Bool, true, ◌&&◌, ◌||◌, List, [], ◌∷◌, length, refl, sym, ap, ◌∙◌, subst, inl, inr}
use Rattle.std.specs.Prelude.{map, nat_le}
use Rattle.std.specs.List.{list_all}
use Rattle.std.proofs.lemmas.Bool.{and_parts, and_from, true≢false}
use Rattle.deneva_base.specs.Keys.{key_eq}
use Rattle.deneva_base.specs.Rows.{has_key, put, put_all, in_key_order}
use Rattle.deneva_base.specs.declared.keys.Key.{Key}
use Rattle.deneva_base.specs.declared.rows.Keyed.{Keyed}
use Rattle.deneva_base.proofs.Membership.{key_tells}
use Rattle.tpcc_rules.specs.Items.{has_item}
use Rattle.tpcc_rules.specs.NewOrders.{stock_of}
use Rattle.tpcc_rules.specs.Tables.{warehouse_key, district_key, customer_key}
use Rattle.tpcc_rules.specs.declared.programs.Line.{Line}
use Rattle.txn_program.specs.Transactions.{ycsb_key}
use Rattle.txn_program.specs.Valid.{are_distinct, is_valid_act, is_valid_step, is_valid_line, is_valid_program}
use Rattle.txn_program.specs.declared.programs.YcsbStep.{YcsbStep}
use Rattle.txn_program.specs.declared.programs.Program.{Program}
use Rattle.txn_program.specs.declared.programs.Program.TheVariants as programs
use Rattle.txn_program.specs.declared.programs.Load.{Load}
use Rattle.workload_text.specs.SortedItems.{by_number}
use Rattle.workload_text.proofs.ItemPuts.{has_item-puts, or_move, or_none}
use Rattle.workload_text.proofs.Puts.{has_key-put}

-- the keys of a load are those of its rows in any order
pub has_key-put_all : (rows more : List Keyed) (k : Key) → has_key (put_all rows more) k ≡ (has_key rows k || has_key more k)
has_key-put_all rows [] k = or_none (has_key rows k)
has_key-put_all rows (r ∷ more) k =
    has_key-put_all (put rows r) more k ∙ ap (λ t. t || has_key more k) (has_key-put rows r k) ∙ or_move (key_eq r.key k) (has_key rows k) (has_key more k)

-- the load in order
abbrev pub ordered : Load → Load
ordered load = record load { rows = in_key_order load.rows; items = by_number load.items }

pub keys_ordered : (load : Load) (k : Key) → has_key (ordered load).rows k ≡ has_key load.rows k
keys_ordered load k = has_key-put_all [] load.rows k

pub numbers_ordered : (load : Load) (n : ℕ) → has_item (ordered load).items n ≡ has_item load.items n
numbers_ordered load n = has_item-puts [] load.items n

steps_ordered : (load : Load) (steps : List YcsbStep) → list_all (is_valid_step (ordered load)) steps ≡ list_all (is_valid_step load) steps
steps_ordered load [] = refl
steps_ordered load (step ∷ steps) =
    ap (λ t. t && is_valid_act load.fields step.act && list_all (is_valid_step (ordered load)) steps) (keys_ordered load (ycsb_key step.key))
    ∙ ap (λ t. is_valid_step load step && t) (steps_ordered load steps)

lines_ordered : (load : Load) (lines : List Line) → list_all (is_valid_line (ordered load)) lines ≡ list_all (is_valid_line load) lines
lines_ordered load [] = refl
lines_ordered load (line ∷ lines) =
    rw (keys_ordered load (stock_of line), numbers_ordered load line.item, lines_ordered load lines) refl

program_ordered : (load : Load) (p : Program) → is_valid_program (ordered load) p ≡ is_valid_program load p
program_ordered load (programs.Ycsb steps) =
    ap (λ t. nat_le 1 (length steps) && nat_le (length steps) 16 && t && are_distinct (map (λ step. ycsb_key step.key) steps)) (steps_ordered load steps)
program_ordered load (programs.Payment p) =
    rw (keys_ordered load (warehouse_key p.w), keys_ordered load (district_key p.w p.d), keys_ordered load (customer_key p.cw p.cd p.c)) refl
program_ordered load (programs.NewOrder o) =
    rw (lines_ordered load o.lines, keys_ordered load (warehouse_key o.w), keys_ordered load (district_key o.w o.d), keys_ordered load (customer_key o.w o.d o.c)) refl

pub programs_ordered : (load : Load) (ps : List Program) → list_all (is_valid_program load) ps ≡ true → list_all (is_valid_program (ordered load)) ps ≡ true
programs_ordered load [] h = refl
programs_ordered load (p ∷ ps) h = and_from _ _ (program_ordered load p ∙ (and_parts _ _ h).0) (programs_ordered load ps (and_parts _ _ h).1)

-- a test that the key of each row passes, at a key that some row has
pub loaded_key : (P : Key → Bool) (rows : List Keyed) (k : Key) → list_all (λ r. P r.key) rows ≡ true → has_key rows k ≡ true → P k ≡ true
loaded_key P [] k all h = absurd (true≢false (sym h))
loaded_key P (r ∷ rows) k all h = elim (key_tells r.key k) [
  | inl same ↦ subst (λ (q : Key). P q ≡ true) same.1 (and_parts _ _ all).0
  | inr other ↦ loaded_key P rows k (and_parts _ _ all).1 (sym (ap (λ b. b || has_key rows k) other.0) ∙ h)
]
