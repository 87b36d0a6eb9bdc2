-- The rows that valid payments and orders access are loaded.
use Rattle.std.proofs.Common.{◌≡◌, ◌≤◌, List, length, true, sym, subst, ⊎_elim}
use Rattle.std.specs.Prelude.{nat_le, not, ◌||◌, ◌&&◌}
use Rattle.std.specs.List.{filter, list_all}
use Rattle.std.proofs.lemmas.Bool.{and_parts, leb-true}
use Rattle.deneva_base.specs.Lists.{IsIn}
use Rattle.deneva_base.specs.Rows.{has_key}
use Rattle.deneva_base.specs.declared.keys.Key.{Key}
use Rattle.deneva_base.specs.declared.keys.Access.{Access}
use Rattle.tpcc_rules.specs.NewOrders.{is_loaded, stock_of, stocks}
use Rattle.tpcc_rules.specs.Tables.{warehouse_key, district_key, customer_key}
use Rattle.tpcc_rules.specs.declared.programs.Line.{Line}
use Rattle.tpcc_rules.specs.declared.programs.NewOrder.{NewOrder}
use Rattle.tpcc_rules.specs.declared.programs.Payment.{Payment}
use Rattle.txn_program.specs.declared.programs.Load.{Load}
use Rattle.txn_program.specs.Transactions.{payment_accesses, new_order_accesses, reads_key, updates_key}
use Rattle.txn_program.specs.Valid.{has_district, has_customer, is_between, is_line_of_numbers, is_valid_line, is_valid_order, is_valid_payment}
use Rattle.txn_program.proofs.Members.{in_map_from, in_filter_from, all_at}
use Rattle.txn_program.proofs.Onces.{in_once}

-- each of the keys accessed is loaded
abbrev pub AreLoaded : Load → List Access → Type 0
AreLoaded load list = (a : Access) → IsIn a list → has_key load.rows a.key ≡ true

module _ (load : Load) where
  at_key : (a b : Access) → a ≡ b → has_key load.rows b.key ≡ true → has_key load.rows a.key ≡ true
  at_key a b e h = subst (λ (k : Access). has_key load.rows k.key ≡ true) (sym e) h

  pub payment_loaded : (p : Payment) → is_valid_payment load p ≡ true → AreLoaded load (payment_accesses p)
  payment_loaded p h a i =
      let customer = and_parts _ (has_customer load p.cw p.cd p.c) h in
      let district = and_parts (has_key load.rows (warehouse_key p.w)) (has_key load.rows (district_key p.w p.d)) (and_parts _ (has_district load p.w p.d) customer.0).1 in
      ⊎_elim
      (λ e. at_key a (updates_key (warehouse_key p.w)) e district.0)
      (λ j. ⊎_elim
      (λ e. at_key a (updates_key (district_key p.w p.d)) e district.1)
      (λ k. ⊎_elim (λ e. at_key a (updates_key (customer_key p.cw p.cd p.c)) e customer.1) (λ n. absurd n) k)
      j)
      i

  module _ (o : NewOrder) (h : is_valid_order load o ≡ true) where
    with_district : (is_between 1 15 (length o.lines) && list_all (is_valid_line load) o.lines && has_district load o.w o.d) ≡ true
    with_district = (and_parts _ (has_customer load o.w o.d o.c) h).0

    with_lines : (is_between 1 15 (length o.lines) && list_all (is_valid_line load) o.lines) ≡ true
    with_lines = (and_parts _ (has_district load o.w o.d) with_district).0

    pub few_lines : length o.lines ≤ 15
    few_lines = leb-true _ _ (and_parts (nat_le 1 (length o.lines)) (nat_le (length o.lines) 15) (and_parts _ (list_all (is_valid_line load) o.lines) with_lines).0).1

    -- a line whose item is loaded has its stock
    stock_of_line : (line : Line) → is_valid_line load line ≡ true → is_loaded load.items line ≡ true → has_key load.rows (stock_of line) ≡ true
    stock_of_line line v l = rw l at (and_parts (is_line_of_numbers line) (not (is_loaded load.items line) || has_key load.rows (stock_of line)) v).1

    stock_loaded : (key : Key) → IsIn key (stocks load.items o.lines) → has_key load.rows key ≡ true
    stock_loaded key i =
        let from = in_map_from stock_of key (filter (is_loaded load.items) o.lines) (in_once key _ i) in
        let line = in_filter_from (is_loaded load.items) from.0 o.lines from.1 in
        let valid = all_at (is_valid_line load) from.0 o.lines (and_parts _ (list_all (is_valid_line load) o.lines) with_lines).1 line.0 in
        subst (λ (k : Key). has_key load.rows k ≡ true) (sym from.2) (stock_of_line from.0 valid line.1)

    pub order_loaded : AreLoaded load (new_order_accesses load.items o)
    order_loaded a i =
        let district = and_parts (has_key load.rows (warehouse_key o.w)) (has_key load.rows (district_key o.w o.d)) (and_parts _ (has_district load o.w o.d) with_district).1 in
        let customer = (and_parts _ (has_customer load o.w o.d o.c) h).1 in
        ⊎_elim
        (λ e. at_key a (reads_key (warehouse_key o.w)) e district.0)
        (λ j. ⊎_elim
        (λ e. at_key a (updates_key (district_key o.w o.d)) e district.1)
        (λ k. ⊎_elim
        (λ e. at_key a (reads_key (customer_key o.w o.d o.c)) e customer)
        (λ l.
        let stock = in_map_from updates_key a (stocks load.items o.lines) l in
        at_key a (updates_key stock.0) stock.2 (stock_loaded stock.0 stock.1))
        k)
        j)
        i
