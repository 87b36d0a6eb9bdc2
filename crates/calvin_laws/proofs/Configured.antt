-- A run under Calvin is a run of its setting, and what is said of that holds of the configuration and workload.
use Rattle.std.proofs.Common.{append-nil, ◌∷◌, inl, inr, ⊎_elim, eqb, ap₂, cond, ℕ, ◌+◌, ◌*◌, ◌≤◌, length, map, refl, ◌≡◌, List, [], None, sym, ap, ◌∙◌, subst, inl}
use Rattle.deneva_base.specs.Lists.{IsIn}
use Rattle.deneva_base.specs.Partitions.{partition_of}
use Rattle.deneva_base.specs.Rows.{row_of}
use Rattle.deneva_base.specs.declared.config.Config.{Config}
use Rattle.deneva_base.specs.declared.config.Protocol.{Protocol}
use Rattle.deneva_base.specs.declared.config.Protocol.TheVariants.{Calvin}
use Rattle.deneva_base.specs.declared.keys.Key.{Key}
use Rattle.deneva_base.specs.declared.numbers.TxnId.{TxnId}
use Rattle.txn_program.specs.Serial.{all_ids, serial as serial_run}
use Rattle.txn_program.specs.Valid.{IsValid}
use Rattle.txn_program.specs.declared.programs.Workload.{Workload}
use Rattle.txn_program.proofs.WorkloadLaws.{distinct_loaded}
use Rattle.server_core.specs.Atomic.{IsAtomic}
use Rattle.server_core.specs.CalvinAtomic.{FinishedOnce}
use Rattle.server_core.specs.Calvin.{says, opening}
use Rattle.server_core.specs.CalvinProper.{Valid}
use Rattle.server_core.specs.CalvinSerial.{serial_after, serial_lines}
use Rattle.server_core.specs.Configs.{IsConfig}
use Rattle.server_core.specs.Family.{Family, family, calvin}
use Rattle.server_core.specs.Fits.{AllFitting, AllFittingBy}
use Rattle.server_core.specs.GlobalOrder.{epochs, order, number}
use Rattle.server_core.specs.GlobalOutcome.{ordered_line, in_global_order}
use Rattle.server_core.specs.Named.{AllNamed}
use Rattle.server_core.specs.IsSerial.{IsSerial, Rises, ran}
use Rattle.server_core.specs.CalvinScheduler.{ordered_rows, now}
use Rattle.server_core.specs.NodeRows.{rows_of_node}
use Rattle.server_core.specs.Outcome.{outcome, outcome_in, outcome_with, last_rows, rows_of}
use Rattle.server_core.specs.CalvinLimits.{is_clock, is_about, most_ordered}
use Rattle.server_core.specs.Limits.{count_entries}
use Rattle.server_core.specs.Picks.{Progress, deliveries, position, picked, most_entries}
use Rattle.server_core.specs.Runs.{heard, Reaches}
use Rattle.server_core.specs.Says.{IsRun, IsQuiet}
use Rattle.server_core.specs.Setting.{Setting, setting, participants_for}
use Rattle.server_core.specs.declared.messages.Entry.{Entry}
use Rattle.server_core.specs.declared.messages.Mail.{Mail}
use Rattle.server_core.specs.declared.outcomes.Decided.{Decided}
use Rattle.server_core.specs.declared.outcomes.Outcome.{Outcome}
use Rattle.server_core.specs.declared.outcomes.RunKind.TheVariants.{Under}
use Rattle.txn_program.specs.declared.serial.SerialRun.{SerialRun}
use Rattle.server_core.specs.declared.schedules.Schedule.{Schedule}
use Rattle.server_core.proofs.configured.Families.{family_orders}
use Rattle.server_core.proofs.configured.CalvinSettings.{valid, forms, limits}
use Rattle.server_core.proofs.flight.AnyDeliveries.{position_picks}
use Rattle.calvin_laws.proofs.serial.FinishedOnce.{finished, finished_once}
use Rattle.calvin_laws.proofs.counts.Bounds.{clock_most, each_most, all_most}
use Rattle.calvin_laws.proofs.counts.Deliveries.{schedule_run, ends}
use Rattle.calvin_laws.proofs.counts.Limits.{run_short, number_small, each_fits}
use Rattle.server_core.proofs.lists.ListTests.{same_number}
use Rattle.calvin_laws.proofs.serial.Outcomes.{runs_same, after_same, ids_back, lines_back, numbers_are, lines_rise, rows_are}
use Rattle.server_core.proofs.serial.SerialMaps.{serial_listed, row_listed}
use Rattle.server_core.proofs.serial.InOrder.{calvin_order}
use Rattle.calvin_laws.proofs.serial.EachOnce.{each_once}
use Rattle.calvin_laws.proofs.serial.Told.{finished_told}
use Rattle.calvin_laws.proofs.order.Orders.{order_in}
use Rattle.server_core.specs.ReportOrder.{InReportOrder}
use Rattle.server_core.specs.Told.{IsTold, numbers_at}
use Rattle.server_core.specs.CalvinSerial.{serial_step}
use Rattle.std.specs.Prelude.{IsPermutation}
use Rattle.std.specs.List.{list_any}
use Rattle.deneva_base.specs.Rows.{Rows}
use Rattle.deneva_base.specs.declared.numbers.Number.{Number}
use Rattle.server_core.proofs.serial.SerialWords.{serial as serial_by_key, rows_after}
use Rattle.calvin_laws.proofs.serial.Settled.{lines_serial, node_rows}
use Rattle.server_core.proofs.configured.Workloads as workload
use Rattle.server_core.specs.CalvinRuns as ordered

-- no attempt is aborted
pub none_named : (c : Config) (w : Workload) → c.protocol ≡ Calvin → (H : List Entry) → AllNamed c w H (outcome c w H)
none_named c w is H l i = subst (λ (f : Family). IsIn l (f.aborts (setting c w) H) → f.named (setting c w) H l) (sym (family_orders c.protocol is)) (λ j. absurd j) i

module _ (c : Config) (w : Workload) (is : c.protocol ≡ Calvin) (config : IsConfig c) (good : IsValid w) where
  abbrev s : Setting
  s = setting c w

  v : Valid s
  v = valid c w good config

  kin : family c.protocol ≡ calvin
  kin = family_orders c.protocol is

  pub ordered_run : (H : List Entry) (flight : List Mail) → IsRun c w H flight → ordered.IsRun s H flight
  ordered_run H flight r = subst (λ (f : Family). Reaches (f.says s) (f.opening s) H flight) kin r

  pub all_fitting : (H : List Entry) (flight : List Mail) → IsRun c w H flight → AllFitting c w H flight
  all_fitting H flight r =
      subst (λ (f : Family). AllFittingBy (f.suits s) H flight) (sym kin) (each_fits s (limits c w good config) v (forms c w good) H flight (ordered_run H flight r))

  pub short : (H : List Entry) (flight : List Mail) → IsRun c w H flight → length H ≤ most_entries c w
  short H flight r = subst (λ (f : Family). length H ≤ f.most s) (sym kin) (all_most s v H flight (ordered_run H flight r))

  -- what any schedule picks is a quiet run
  pub picked_quiet : (schedule : Schedule) → IsQuiet c w (picked c w schedule)
  picked_quiet schedule =
      let pick : ℕ → ℕ → ℕ = position schedule in
      let start : Progress = record { entries = []; flight = opening s } in
      let last : Progress = deliveries (says s) pick 0 (most_ordered s) start in
      subst
      (λ (f : Family). Reaches (f.says s) (f.opening s) (deliveries (f.says s) pick 0 (f.most s) (record { entries = []; flight = f.opening s })).entries [])
      (sym kin)
      (subst (λ l. ordered.IsRun s last.entries l) (ends s v pick (position_picks schedule) start refl refl) (schedule_run s v pick 0 (most_ordered s) start refl))

  abbrev lines : List Decided
  lines = serial_lines s s.loaded (order s)

  rise : Rises lines
  rise = lines_rise s v (workload.distinct c w good) (workload.distinct_appends c w good)

  replayed : serial_by_key s s.loaded (map (λ (l : Decided). l.number.id) lines) ≡ map ran lines
  replayed = ap (serial_by_key s s.loaded) (ids_back s s.loaded (order s)) ∙ runs_same s s.loaded (order s)

  last : (key : Key) → rows_after s s.loaded (map (λ (l : Decided). l.number.id) lines) key ≡ rows_of s lines key
  last key =
      ap (λ xs. rows_after s s.loaded xs key) (ids_back s s.loaded (order s))
      ∙ ap (λ m. m key) (after_same s s.loaded (order s))
      ∙ rows_are s v (workload.distinct c w good) (workload.distinct_appends c w good) key

  same_serial : serial_run w (map (λ (l : Decided). l.number.id) lines) ≡ record { runs = map ran lines; rows = last_rows s w.load.rows lines }
  same_serial = serial_listed c w (distinct_loaded w good) lines replayed last

  -- so the serial execution gives these lines and these rows
  lines_ordered : outcome_with c w lines [] [] ≡ in_global_order c.parts w
  lines_ordered =
      let as_outcome : Protocol → SerialRun → Outcome = λ p run. record { kind = Under p; parts = c.parts; decided = map (ordered_line s) run.runs; giveups = []; aborts = []; rows = run.rows } in
      ap (λ ls. record { kind = Under c.protocol; parts = c.parts; decided = ls; giveups = []; aborts = []; rows = last_rows s w.load.rows lines }) (sym (lines_back s s.loaded (order s)))
      ∙ ap₂ as_outcome is (sym same_serial ∙ ap (serial_run w) (ids_back s s.loaded (order s)))

  pub order_lines : (in_global_order c.parts w).decided ≡ lines
  order_lines = ap (λ (o : Outcome). o.decided) (sym lines_ordered)

  pub order_rows : (key : Key) → row_of (in_global_order c.parts w).rows key ≡ serial_after s s.loaded (order s) key
  order_rows key =
      ap (λ (o : Outcome). row_of o.rows key) (sym lines_ordered)
      ∙ row_listed c w (distinct_loaded w good) lines replayed last key
      ∙ sym (rows_are s v (workload.distinct c w good) (workload.distinct_appends c w good) key)

  pub clock : (H : List Entry) (flight : List Mail) → IsRun c w H flight → count_entries (λ e. is_clock e.msg) H ≤ epochs s * (c.parts + c.parts * c.parts)
  clock H flight r = clock_most s v H flight (ordered_run H flight r)

  pub each_entries : (H : List Entry) (flight : List Mail) (x : TxnId) → IsRun c w H flight → IsIn x (all_ids w) → let m = length (participants_for s x) in count_entries (λ e. is_about x e.msg) H ≤ m * m + m
  each_entries H flight x r i = each_most s v H flight (ordered_run H flight r) x i

  pub few_entries : (H : List Entry) (flight : List Mail) → IsRun c w H flight → length H ≤ 3060000
  few_entries H flight r = run_short s (limits c w good config) v H flight (ordered_run H flight r)

  pub small_numbers : (x : TxnId) → IsIn x (all_ids w) → (number s x).n ≤ 160000
  small_numbers x i = number_small s (limits c w good config) v x i

  module _ (H : List Entry) (r : IsQuiet c w H) where
    run : ordered.IsRun s H []
    run = ordered_run H [] r

    pub atomic : IsAtomic c w H
    atomic x i = subst (λ (f : Family). f.whole s H x) (sym kin) (finished s v H run x i)

    pub finished_here : (x : TxnId) → IsIn x (all_ids w) → FinishedOnce s H x
    finished_here x i = finished_once s v H run x i

    -- the outcome is that of the transactions one at a time in the global order
    outcome_is : outcome c w H ≡ outcome_with c w lines [] []
    outcome_is = ap (λ f. outcome_in f c w H) kin ∙ ap (λ ls. outcome_with c w ls [] []) (lines_serial s v H run)

    pub ordered_outcome : outcome c w H ≡ in_global_order c.parts w
    ordered_outcome = outcome_is ∙ lines_ordered

    pub serial : IsSerial w (outcome c w H)
    serial =
        subst (IsSerial w) (sym outcome_is) (record {
          rising = rise;
          same = same_serial;
          whole = subst (IsPermutation s.ids) (sym (ids_back s s.loaded (order s)) ∙ sym (append-nil (map (λ (l : Decided). l.number.id) lines))) (each_once s v);
        })

    pub in_report_order : InReportOrder (outcome c w H)
    in_report_order = subst InReportOrder (sym outcome_is) (calvin_order c w H lines rise)

    line_is : (rows : Rows) (xs : List TxnId) (l : Decided) → IsIn l (serial_lines s rows xs) → (x : TxnId) × IsIn x xs × ((l.number ≡ number s x) × (l.participants ≡ participants_for s x))
    line_is rows [] l i = absurd i
    line_is rows (x ∷ xs) l i =
        ⊎_elim
        (λ e. (x, inl refl, (ap (λ (z : Decided). z.number) e, ap (λ (z : Decided). z.participants) e)))
        (λ r. let n = line_is (serial_step s rows x) xs l r in (n.0, inr n.1, n.2))
        i

    decided_told : (l : Decided) (p : ℕ) → IsIn l lines → numbers_at s H l.number.id p ≡ cond (list_any (λ q. eqb q p) l.participants) (l.number ∷ []) []
    decided_told l p i =
        let n = line_is s.loaded (order s) l i in
        ap (λ (k : Number). numbers_at s H k.id p) n.2.0
        ∙ finished_told s n.0 p v (forms c w good) H run (order_in s n.0 n.1)
        ∙ ap₂ (λ (qs : List ℕ) (k : Number). cond (list_any (λ q. eqb q p) qs) (k ∷ []) []) (sym n.2.1) (sym n.2.0)

    its_participants : (l : Decided) → IsIn l lines → l.participants ≡ participants_for s l.number.id
    its_participants l i =
        let n = line_is s.loaded (order s) l i in n.2.1 ∙ ap (λ (x : TxnId). participants_for s x) (sym (ap (λ (k : Number). k.id) n.2.0))

    pub told : IsTold s H (outcome c w H)
    told = subst (IsTold s H) (sym outcome_is) (record { decided = decided_told; participants = its_participants; given_up = λ g p i. absurd i; turns = λ g i. absurd i })

    pub rows : (key : Key) → rows_of_node c w (partition_of key c.parts) (heard (partition_of key c.parts) H) key ≡ row_of (outcome c w H).rows key
    rows key =
        let p : ℕ = partition_of key c.parts in
        let here : ordered_rows s p (heard p H) key ≡ serial_after s s.loaded (order s) key
        = ap (λ b. cond b (now s p (heard p H) key) None) (same_number p) ∙ node_rows s v H run p key refl in
        ap (λ (f : Family). f.rows s p (heard p H) key) kin
        ∙ here
        ∙ rows_are s v (workload.distinct c w good) (workload.distinct_appends c w good) key
        ∙ sym (row_listed c w (distinct_loaded w good) lines replayed last key)
        ∙ ap (λ (z : Outcome). row_of z.rows key) (sym outcome_is)

    pub numbered : map (λ (l : Decided). l.number) (outcome c w H).decided ≡ map (number s) (order s)
    numbered = ap (λ (o : Outcome). map (λ (l : Decided). l.number) o.decided) outcome_is ∙ numbers_are s s.loaded (order s)

  pub one : (H K : List Entry) → IsQuiet c w H → IsQuiet c w K → outcome c w H ≡ outcome c w K
  one H K r q = ordered_outcome H r ∙ sym (ordered_outcome K q)
