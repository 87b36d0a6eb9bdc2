-- The district's next number, and the rows that an order appends and writes.
use Rattle.std.proofs.Common.{◌≡◌, ◌∙◌, ◌≤◌, ◌<◌, ℕ, suc, ◌+◌, List, [], ◌∷◌, ◌++◌, true, false, not, ◌||◌, length, get_or, drop, Option, Some, None, refl, sym, ap, subst, arith, ℤ, pos, negsuc, ◌+ℤ◌}
use Rattle.std.specs.Prelude.{option_map, nat_eq}
use Rattle.std.specs.List.{find, starts_with}
use Rattle.std.proofs.lemmas.Bool.{and_parts, leb-true}
use Rattle.std.proofs.lemmas.Option.{same_Some, none-some}
use Rattle.deneva_base.specs.Rows.{Row}
use Rattle.deneva_base.specs.declared.keys.Key.{Key}
use Rattle.deneva_base.specs.declared.numbers.TxnId.{TxnId}
use Rattle.deneva_base.specs.declared.rows.Cell.TheVariants.{Num}
use Rattle.deneva_base.specs.declared.rows.Keyed.{Keyed}
use Rattle.tpcc_rules.specs.Columns.{fits, fits_all, number_at}
use Rattle.tpcc_rules.specs.Effects.{in_range, raised, rolled_back, unless_past, whole}
use Rattle.tpcc_rules.specs.NewOrders.{includes, is_loaded, is_out_of_range, new_order, ordering, stocks, unless_unused, written_rows}
use Rattle.tpcc_rules.specs.Tables.{columns}
use Rattle.tpcc_rules.specs.declared.columns.Column.TheVariants.{Between}
use Rattle.tpcc_rules.specs.declared.effects.Effect.{Effect}
use Rattle.tpcc_rules.specs.declared.effects.Reason.TheVariants.{Range}
use Rattle.tpcc_rules.specs.declared.programs.Item.{Item}
use Rattle.tpcc_rules.specs.declared.programs.NewOrder.{NewOrder}
use Rattle.tpcc_rules.proofs.Past.{held, set_here}

-- a number whose next one is that of a district is small

small_before : (z : ℤ) → fits (Between (pos 1) (pos 200000000)) (Num (z +ℤ pos 1)) ≡ true → whole z < 200000000
small_before (pos n) h = let b : n + 1 ≤ 200000000 = leb-true (n + 1) 200000000 (and_parts _ _ h).1 in omega (arith, b)
small_before (negsuc n) h = omega arith

pub next_small : (row : Row) → fits_all (columns 2) (raised 3 (pos 1) row) ≡ true → whole (number_at row 3) < 200000000
next_small row h =
    let there = held (columns 2) (raised 3 (pos 1) row) 3 (Between (pos 1) (pos 200000000)) refl h in
    small_before (number_at row 3)
    (subst (λ x. fits (Between (pos 1) (pos 200000000)) x ≡ true) (sym (set_here row 3 there.0 (Num (number_at row 3 +ℤ pos 1)) there.1)) there.2)

unless_out : (found : Option Keyed) (key : Key) (e : Effect) → option_map (λ (r : Keyed). r.key) found ≡ Some key → rolled_back (Range key) ≡ unless_past found e
unless_out None key e h = absurd (none-some key h)
unless_out (Some r) key e h = ap (λ k. rolled_back (Range k)) (sym (same_Some r.key key h))

-- an order whose items are loaded, and one of whose rows would not be well formed
pub new_order_out : (items : List Item) (id : TxnId) (order : NewOrder) (rows : List Keyed) (key : Key) → find (λ line. not (is_loaded items line)) order.lines ≡ None
    → option_map (λ (r : Keyed). r.key) (find is_out_of_range (written_rows order rows (stocks items order.lines))) ≡ Some key → rolled_back (Range key) ≡ new_order items id order rows
new_order_out items id order rows key none out =
    let e = ordering items id order rows in
    unless_out (find is_out_of_range e.writes) key e out ∙ ap (λ found. unless_unused found (in_range e)) (sym none)

-- bytes that begin with these hold them

pub includes_here : (needle bytes : List ℕ) → starts_with nat_eq bytes needle ≡ true → true ≡ includes needle bytes
includes_here needle [] h = sym h
includes_here needle (b ∷ bytes) h = sym (ap (λ t. t || includes needle bytes) h)
