-- What holds of every transaction of a valid workload.
use Rattle.std.proofs.Common.{◌≡◌, ◌⊎◌, ◌≤◌, ◌-◌, ℕ, List, [], ◌∷◌, map, length, Bool, true, false, ◌==◌, Some, refl, sym, ap, ◌∙◌, subst, inl, inr, ⊎_elim, arith, set}
use Rattle.std.specs.Prelude.{if◌then◌else◌, pos}
use Rattle.std.specs.List.{list_all}
use Rattle.std.proofs.lemmas.Bool.{and_parts, and_from, leb-true, eqb-true, eq-eqb, cases_lt, true≢false}
use Rattle.std.proofs.lemmas.List.{length-map, length-set, get_or_past}
use Rattle.std.proofs.lemmas.List.Recursion.{and_set}
use Rattle.std.proofs.lemmas.Option.{same_Some, none-some}
use Rattle.deneva_base.specs.Keys.{key_eq}
use Rattle.deneva_base.specs.Lists.{IsIn}
use Rattle.deneva_base.specs.Modes.{reads, writes}
use Rattle.deneva_base.specs.Partitions.{partition_of}
use Rattle.deneva_base.specs.Rows.{has_key, row_at}
use Rattle.deneva_base.specs.declared.keys.Key.{Key}
use Rattle.deneva_base.specs.declared.keys.Access.{Access}
use Rattle.deneva_base.specs.declared.rows.Cell.{Cell}
use Rattle.deneva_base.specs.declared.rows.Cell.TheVariants.{Text}
use Rattle.deneva_base.specs.declared.rows.Keyed.{Keyed}
use Rattle.deneva_base.specs.declared.numbers.TxnId.{TxnId}
use Rattle.deneva_base.proofs.KeyOrder.{Decides-key_eq}
use Rattle.txn_program.specs.declared.programs.YcsbAct.{YcsbAct}
use Rattle.txn_program.specs.declared.programs.YcsbAct.TheVariants.{Read, Update, Put}
use Rattle.txn_program.specs.declared.programs.YcsbStep.{YcsbStep}
use Rattle.txn_program.specs.declared.programs.Program.{Program}
use Rattle.txn_program.specs.declared.programs.Program.TheVariants.{Ycsb, Payment, NewOrder}
use Rattle.txn_program.specs.declared.programs.Load.{Load}
use Rattle.txn_program.specs.declared.programs.Workload.{Workload}
use Rattle.tpcc_rules.specs.declared.effects.Effect.{Effect}
use Rattle.tpcc_rules.specs.declared.effects.Reason.{Reason}
use Rattle.tpcc_rules.specs.declared.effects.Verdict.TheVariants.{Rollback}
use Rattle.txn_program.specs.Apart.{DistinctBy}
use Rattle.txn_program.specs.Serial.{program_of}
use Rattle.txn_program.specs.Transactions.{access_of, accesses, effect, mode_of, participants, reading, written, written_to, ycsb_key, payment_accesses, new_order_accesses, reads_key, updates_key}
use Rattle.txn_program.specs.Valid.{IsValid, are_distinct, is_row, is_text, is_text_cell, is_valid_act, is_valid_step, is_valid_program}
use Rattle.txn_program.specs.WellFormed.{is_well_formed, FitReads}
use Rattle.txn_program.proofs.Members.{in_map, in_map_from, in_filter, in_filter_map_from, all_at}
use Rattle.txn_program.proofs.DistinctLists.{distinct_from_test, distinct_map, distinct_filter_map}
use Rattle.txn_program.proofs.ValidPrograms.{valid_program}
use Rattle.txn_program.proofs.Loads.{table_row_fits}
use Rattle.txn_program.proofs.LoadedRows.{AreLoaded, payment_loaded, few_lines, order_loaded}
use Rattle.txn_program.proofs.Participants as parted
use Rattle.txn_program.proofs.Settled.{writes_from, appends_from, distinct_writes_from, distinct_appends_from, nothing_left}
use Rattle.txn_program.proofs.TpccLaws as tpcc
use Rattle.tpcc_rules.specs.NewOrders.{ordering}
use Rattle.tpcc_rules.specs.Payments.{paying}
use Rattle.tpcc_rules.specs.Tables.{is_table_row, warehouse_key, history_key}
use Rattle.tpcc_rules.specs.declared.programs.NewOrder as orders
use Rattle.tpcc_rules.specs.declared.programs.Payment as payments

-- each step is valid, and no two have one key; a payment and an order find their rows. A transaction of no steps fits too
abbrev pub Fits : Load → Program → Type 0
Fits load (Ycsb steps) = (length steps ≤ 16) × (list_all (is_valid_step load) steps ≡ true) × (are_distinct (map (λ step. ycsb_key step.key) steps) ≡ true)
Fits load (Payment p) = AreLoaded load (payment_accesses p)
Fits load (NewOrder o) = (length o.lines ≤ 15) × AreLoaded load (new_order_accesses load.items o)

fits_if_valid : (load : Load) (program : Program) → is_valid_program load program ≡ true → Fits load program
fits_if_valid load (Ycsb steps) h =
    let a = and_parts _ _ h in
    let b = and_parts _ _ a.0 in
    (leb-true _ _ (and_parts _ _ b.0).1, b.1, a.1)
fits_if_valid load (Payment p) h = payment_loaded load p h
fits_if_valid load (NewOrder o) h = (few_lines load o h, order_loaded load o h)

-- an id stands for a valid transaction or for no steps
pub fits : (work : Workload) (x : TxnId) → IsValid work → Fits work.load (program_of work x)
fits work x valid =
    ⊎_elim
    (λ within. fits_if_valid work.load (program_of work x) (valid_program work valid (x.0 - 1) (Ycsb []) within))
    (λ past. subst (Fits work.load) (sym (get_or_past work.programs (x.0 - 1) (Ycsb []) past)) (omega arith, refl, refl))
    (cases_lt (x.0 - 1) (length work.programs))

pub some_accesses : (load : Load) (program : Program) → is_valid_program load program ≡ true → 1 ≤ length (accesses load program)
some_accesses load (Ycsb steps) h =
    let some = leb-true 1 (length steps) (and_parts _ _ (and_parts _ _ (and_parts _ _ h).0).0).0 in
    omega (arith, some, length-map steps access_of)
some_accesses load (Payment p) h = omega arith
some_accesses load (NewOrder o) h = omega arith

pub few_accesses : (load : Load) (program : Program) → Fits load program → length (accesses load program) ≤ 18
few_accesses load (Ycsb steps) f = omega (arith, f.0, length-map steps access_of)
few_accesses load (Payment p) f = omega arith
few_accesses load (NewOrder o) f = tpcc.order_few load.items o f.0

pub distinct_accesses : (load : Load) (program : Program) → Fits load program → DistinctBy (λ (a : Access). a.key) (accesses load program)
distinct_accesses load (Ycsb steps) f = distinct_map (λ (a : Access). a.key) access_of steps (distinct_from_test (λ (s : YcsbStep). ycsb_key s.key) steps f.2)
distinct_accesses load (Payment p) f = tpcc.payment_distinct p
distinct_accesses load (NewOrder o) f = tpcc.order_distinct load.items o

pub loaded_access : (load : Load) (program : Program) (a : Access) → Fits load program → IsIn a (accesses load program) → has_key load.rows a.key ≡ true
loaded_access load (Ycsb steps) a f i =
    let n = in_map_from access_of a steps i in
    ap (λ (b : Access). has_key load.rows b.key) n.2 ∙ (and_parts _ _ (all_at (is_valid_step load) n.0 steps f.1 n.1)).0
loaded_access load (Payment p) a f i = f a i
loaded_access load (NewOrder o) a f i = f.1 a i

pub access_table : (load : Load) (program : Program) (a : Access) → IsIn a (accesses load program) → a.key.table ≤ 4
access_table load (Ycsb steps) a i =
    let n = in_map_from access_of a steps i in
    omega (arith, ap (λ (b : Access). b.key.table) n.2)
access_table load (Payment p) a i = (tpcc.payment_table p a i).1
access_table load (NewOrder o) a i = (tpcc.order_table load.items o a i).1

-- a step that writes has an access that writes to the same key
step_writes : (rows : List Keyed) (key : Key) (act : YcsbAct) (w : Keyed) → written_to rows key act ≡ Some w → (w.key ≡ key) × (writes (mode_of act) ≡ true)
step_writes rows key Read w e = absurd (none-some w e)
step_writes rows key (Update put) w e = (ap (λ (r : Keyed). r.key) (sym (same_Some _ _ e)), refl)
step_writes rows key (Put row) w e = (ap (λ (r : Keyed). r.key) (sym (same_Some _ _ e)), refl)

pub writing_access : (load : Load) (id : TxnId) (program : Program) (rows : List Keyed) (w : Keyed) → IsIn w (effect load id program rows).writes → (a : Access) × IsIn a (accesses load program) × (a.key ≡ w.key) × (writes a.mode ≡ true)
writing_access load id (Ycsb steps) rows w i =
    let n = in_filter_map_from (written rows) w steps i in
    let s = step_writes rows (ycsb_key n.0.key) n.0.act w n.2 in
    (access_of n.0, in_map access_of n.0 steps n.1, sym s.0, s.1)
writing_access load id (Payment p) rows w i =
    tpcc.payment_written p id rows w (writes_from _ (paying id p rows) (tpcc.payment_settles p id rows) w i).0
writing_access load id (NewOrder o) rows w i =
    tpcc.order_written load.items o id rows w (writes_from _ (ordering load.items id o rows) (tpcc.order_settles load.items o id rows) w i).0

pub distinct_writes : (load : Load) (id : TxnId) (program : Program) (rows : List Keyed) → Fits load program → DistinctBy (λ (w : Keyed). w.key) (effect load id program rows).writes
distinct_writes load id (Ycsb steps) rows f =
    distinct_filter_map (λ (s : YcsbStep). ycsb_key s.key) (λ (w : Keyed). w.key) (written rows) steps
    (λ s w e. (step_writes rows (ycsb_key s.key) s.act w e).0)
    (distinct_from_test (λ (s : YcsbStep). ycsb_key s.key) steps f.2)
distinct_writes load id (Payment p) rows f =
    distinct_writes_from _ (paying id p rows) (tpcc.payment_settles p id rows) (tpcc.payment_writes p id rows)
distinct_writes load id (NewOrder o) rows f =
    distinct_writes_from _ (ordering load.items id o rows) (tpcc.order_settles load.items o id rows) (tpcc.order_writes load.items o id rows)

-- the row of a key that some row has is among the rows
pub row_there : (key : Key) (rows : List Keyed) → IsIn key (map (λ r. r.key) rows) → IsIn (record { key = key; row = row_at rows key }) rows
row_there key [] i = absurd i
row_there key (r ∷ rows) i = go (key_eq r.key key) refl i (row_there key rows)
  where
    go : (b : Bool) → key_eq r.key key ≡ b → (key ≡ r.key) ⊎ IsIn key (map (λ s. s.key) rows) → (IsIn key (map (λ s. s.key) rows) → IsIn (record { key = key; row = row_at rows key }) rows) → IsIn (record { key = key; row = if b then r.row else row_at rows key }) (r ∷ rows)
    go true e i next = inl (ap (λ (k : Key). record { key = k; row = r.row }) (sym ((Decides-key_eq r.key key).0 e)))
    go false e i next = inr (next (⊎_elim (λ q. absurd (true≢false (sym ((Decides-key_eq r.key key).1 (sym q)) ∙ e))) (λ t. t) i))

-- a row with one of its fields replaced by a text is a row still
row_with_text : (fields : ℕ) (row : List Cell) (place : ℕ) (text : List ℕ) → is_text text ≡ true → is_row fields row ≡ true → is_row fields (set row place (Text text)) ≡ true
row_with_text fields row place text t h =
    let parts = and_parts (length row == fields) (list_all is_text_cell row) h in
    and_from _ _ (eq-eqb _ _ (length-set row place (Text text) ∙ eqb-true _ _ parts.0)) (and_set (list_all is_text_cell) is_text_cell refl (λ _ _. refl) row place (Text text) t parts.1)

-- a row read for a YCSB key has its texts
read_row : (load : Load) (list : List Access) (rows : List Keyed) (a : Access) → FitReads load list rows → IsIn a list → reads a.mode ≡ true → is_well_formed load a.key (row_at rows a.key) ≡ true
read_row load list rows a fit i r =
    let keys = in_map (λ (b : Access). b.key) a (reading list) (in_filter (λ (b : Access). reads b.mode) a list i r) in
    let there = row_there a.key rows (subst (IsIn a.key) (sym fit.0) keys) in
    all_at (λ (k : Keyed). is_well_formed load k.key k.row) _ rows fit.1 there

pub well_formed_write : (load : Load) (id : TxnId) (program : Program) (rows : List Keyed) (w : Keyed) → Fits load program → FitReads load (accesses load program) rows → IsIn w (effect load id program rows).writes → is_well_formed load w.key w.row ≡ true
well_formed_write load id (Ycsb steps) rows w f fit i =
    let n = in_filter_map_from (written rows) w steps i in
    by_act n.0.key n.0.act n.2 (and_parts _ _ (all_at (is_valid_step load) n.0 steps f.1 n.1)).1 (in_map access_of n.0 steps n.1)
  where
    by_act : (key : ℕ) (act : YcsbAct) → written_to rows (ycsb_key key) act ≡ Some w → is_valid_act load.fields act ≡ true → IsIn (access_of (record { key = key; act = act })) (map access_of steps) → is_well_formed load w.key w.row ≡ true
    by_act key Read e valid j = absurd (none-some w e)
    by_act key (Update put) e valid j =
        subst (λ (v : Keyed). is_well_formed load v.key v.row ≡ true) (same_Some _ _ e)
        (row_with_text load.fields (row_at rows (ycsb_key key)) put.field put.text (and_parts _ _ valid).1 (read_row load (map access_of steps) rows _ fit j refl))
    by_act key (Put row) e valid j = subst (λ (v : Keyed). is_well_formed load v.key v.row ≡ true) (same_Some _ _ e) valid
well_formed_write load id (Payment p) rows w f fit i =
    table_row_fits load w.key w.row (writes_from _ (paying id p rows) (tpcc.payment_settles p id rows) w i).1
well_formed_write load id (NewOrder o) rows w f fit i =
    table_row_fits load w.key w.row (writes_from _ (ordering load.items id o rows) (tpcc.order_settles load.items o id rows) w i).1

-- a YCSB transaction appends nothing and commits

appended_from : (load : Load) (id : TxnId) (p : payments.Payment) (rows : List Keyed) (w : Keyed) → IsIn w (effect load id (Payment p) rows).appends → (w.key ≡ history_key p.w id.0) × (is_table_row w.key w.row ≡ true)
appended_from load id p rows w i =
    tpcc.payment_appended p id rows w (appends_from _ (paying id p rows) (tpcc.payment_settles p id rows) w i)

ordered_from : (load : Load) (id : TxnId) (o : orders.NewOrder) (rows : List Keyed) (w : Keyed) → IsIn w (effect load id (NewOrder o) rows).appends → (5 ≤ w.key.table) × (w.key.table ≤ 8) × (w.key.a ≡ o.w) × (is_table_row w.key w.row ≡ true)
ordered_from load id o rows w i =
    tpcc.rows_appended load.items o id rows _ w (appends_from _ (ordering load.items id o rows) (tpcc.order_settles load.items o id rows) w i)

pub distinct_appends : (load : Load) (id : TxnId) (program : Program) (rows : List Keyed) → DistinctBy (λ (w : Keyed). w.key) (effect load id program rows).appends
distinct_appends load id (Ycsb steps) rows = tt
distinct_appends load id (Payment p) rows =
    distinct_appends_from _ (paying id p rows) (tpcc.payment_settles p id rows) (λ y i. absurd i, tt)
distinct_appends load id (NewOrder o) rows =
    distinct_appends_from _ (ordering load.items id o rows) (tpcc.order_settles load.items o id rows) (tpcc.distinct_appended load.items o id rows _)

pub append_table : (load : Load) (id : TxnId) (program : Program) (rows : List Keyed) (w : Keyed) → IsIn w (effect load id program rows).appends → (5 ≤ w.key.table) × (w.key.table ≤ 8)
append_table load id (Ycsb steps) rows w i = absurd i
append_table load id (Payment p) rows w i =
    let table = ap (λ (k : Key). k.table) (appended_from load id p rows w i).0 in (omega (arith, table), omega (arith, table))
append_table load id (NewOrder o) rows w i = let t = ordered_from load id o rows w i in (t.0, t.1)

-- what is appended has the warehouse of the first access
pub append_at_participant : (load : Load) (id : TxnId) (program : Program) (rows : List Keyed) (w : Keyed) (parts : ℕ) → 1 ≤ parts → IsIn w (effect load id program rows).appends → IsIn (partition_of w.key parts) (participants load program parts)
append_at_participant load id (Ycsb steps) rows w parts h i = absurd i
append_at_participant load id (Payment p) rows w parts h i =
    let key = (appended_from load id p rows w i).0 in
    let table = ap (λ (k : Key). k.table) key in
    subst (λ n. IsIn n (participants load (Payment p) parts)) (tpcc.at_warehouse w.key p.w parts (omega (arith, table)) (ap (λ (k : Key). k.a) key))
    (parted.accessed_participant load (Payment p) parts (updates_key (warehouse_key p.w)) h (inl refl))
append_at_participant load id (NewOrder o) rows w parts h i =
    let t = ordered_from load id o rows w i in
    subst (λ n. IsIn n (participants load (NewOrder o) parts)) (tpcc.at_warehouse w.key o.w parts (omega (arith, t.0)) t.2)
    (parted.accessed_participant load (NewOrder o) parts (reads_key (warehouse_key o.w)) h (inl refl))

pub well_formed_append : (load : Load) (id : TxnId) (program : Program) (rows : List Keyed) (w : Keyed) → IsIn w (effect load id program rows).appends → is_well_formed load w.key w.row ≡ true
well_formed_append load id (Ycsb steps) rows w i = absurd i
well_formed_append load id (Payment p) rows w i = table_row_fits load w.key w.row (appended_from load id p rows w i).1
well_formed_append load id (NewOrder o) rows w i = table_row_fits load w.key w.row (ordered_from load id o rows w i).3

-- an effect lists no rows and answers 0
abbrev pub LeavesNothing : Effect → Type 0
LeavesNothing e = (e.writes ≡ []) × (e.appends ≡ []) × (e.answer ≡ pos 0)

pub rollback_leaves_nothing : (load : Load) (id : TxnId) (program : Program) (rows : List Keyed) (reason : Reason) → (effect load id program rows).verdict ≡ Rollback reason → LeavesNothing (effect load id program rows)
rollback_leaves_nothing load id (Ycsb steps) rows reason e = absurd (cc (e))
rollback_leaves_nothing load id (Payment p) rows reason e = nothing_left _ (paying id p rows) (tpcc.payment_settles p id rows) refl reason e
rollback_leaves_nothing load id (NewOrder o) rows reason e =
    nothing_left _ (ordering load.items id o rows) (tpcc.order_settles load.items o id rows) refl reason e
