-- The serial execution in file order, as an outcome.
use Rattle.std.proofs.Common.{◌≡◌, ℕ, ◌+◌, ◌≤◌, List, [], ◌∷◌, map, true, refl, sym, ap, ◌∙◌, subst, inl, inr, ⊎_elim, arith, append-nil}
use Rattle.std.specs.Prelude.{IsPermutation}
use Rattle.std.proofs.lemmas.List.Sorted.{IsPermutation-refl}
use Rattle.deneva_base.specs.Keys.{NumberLt}
use Rattle.deneva_base.specs.Lists.{IsIn}
use Rattle.deneva_base.specs.Rising.{keys_rise}
use Rattle.deneva_base.specs.Rows.{in_key_order}
use Rattle.deneva_base.specs.declared.numbers.Number.{Number}
use Rattle.deneva_base.specs.declared.numbers.TxnId.{TxnId}
use Rattle.deneva_base.specs.declared.rows.Keyed.{Keyed}
use Rattle.deneva_base.proofs.PutRows.{keys_rise-put_all}
use Rattle.txn_program.specs.Serial.{serial, all_ids, ids_from, turns, settled, map_after, last_map, effect_on}
use Rattle.tpcc_rules.specs.declared.effects.Effect.{Effect}
use Rattle.tpcc_rules.specs.declared.effects.Verdict.{Verdict}
use Rattle.tpcc_rules.specs.declared.effects.Verdict.TheVariants.{Commit, Rollback}
use Rattle.txn_program.specs.declared.programs.Program.{Program}
use Rattle.txn_program.specs.declared.programs.Workload.{Workload}
use Rattle.txn_program.specs.declared.serial.SerialTxn.{SerialTxn}
use Rattle.server_core.specs.IsSerial.{IsSerial, Rises, ran}
use Rattle.server_core.specs.ReportOrder.{InReportOrder}
use Rattle.server_core.specs.declared.outcomes.Decided.{Decided}
use Rattle.server_core.proofs.serial.InOrder.{numbers_tested}
use Rattle.run_outcomes.specs.SerialOutcome.{decided_serially, serial_outcome}

-- the ids and what each did are those of the turns
ids_back : (w : Workload) (rows : List Keyed) (xs : List TxnId) → map (λ (l : Decided). l.number.id) (map decided_serially (turns w rows xs)) ≡ xs
ids_back w rows [] = refl
ids_back w rows (x ∷ xs) = ap (λ l. x ∷ l) (ids_back w (map_after rows (effect_on w rows x)) xs)

runs_back : (ts : List SerialTxn) → map ran (map decided_serially ts) ≡ ts
runs_back [] = refl
runs_back (t ∷ ts) = ap (λ l. t ∷ l) (runs_back ts)

from_low : (n : ℕ) (ps : List Program) (x : TxnId) → IsIn x (ids_from n ps) → n ≤ x.0
from_low n [] x i = absurd i
from_low n (p ∷ ps) x i = ⊎_elim (λ e. let same = ap (λ (y : TxnId). y.0) e in omega (arith, same)) (λ t. let l = from_low (n + 1) ps x t in omega (arith, l)) i

-- in file order the numbers rise
module _ (w : Workload) where
  line_of : (rows : List Keyed) (xs : List TxnId) (k : Decided) → IsIn k (map decided_serially (turns w rows xs)) → (x : TxnId) × IsIn x xs × (k.number ≡ record { n = x.0; id = x })
  line_of rows [] k i = absurd i
  line_of rows (x ∷ xs) k i =
      ⊎_elim
      (λ e. (x, inl refl, ap (λ (z : Decided). z.number) e))
      (λ r. let n = line_of (map_after rows (effect_on w rows x)) xs k r in (n.0, inr n.1, n.2))
      i

  rising : (n : ℕ) (ps : List Program) (rows : List Keyed) → Rises (map decided_serially (turns w rows (ids_from n ps)))
  rising n [] rows = tt
  rising n (p ∷ ps) rows = (above, rising (n + 1) ps next)
    where
      next : List Keyed
      next = map_after rows (effect_on w rows (record { 0 = n }))

      above : (k : Decided) → IsIn k (map decided_serially (turns w next (ids_from (n + 1) ps))) → NumberLt (record { n = n; id = record { 0 = n } }) k.number
      above k i =
          let h = line_of next (ids_from (n + 1) ps) k i in
          let low = from_low (n + 1) ps h.0 h.1 in
          subst (λ (m : Number). NumberLt (record { n = n; id = record { 0 = n } }) m) (sym h.2) (inl (omega (arith, low)))

  -- the map stays in key order
  settled_rise : (rows : List Keyed) (v : Verdict) (ws vs : List Keyed) → keys_rise rows ≡ true → keys_rise (settled rows v ws vs) ≡ true
  settled_rise rows Commit ws vs e = keys_rise-put_all _ vs (keys_rise-put_all rows ws e)
  settled_rise rows (Rollback reason) ws vs e = e

  last_rise : (rows : List Keyed) (xs : List TxnId) → keys_rise rows ≡ true → keys_rise (last_map w rows xs) ≡ true
  last_rise rows [] e = e
  last_rise rows (x ∷ xs) e =
      let f : Effect = effect_on w rows x in
      last_rise (map_after rows f) xs (settled_rise rows f.verdict f.writes f.appends e)

  loaded_rise : keys_rise (in_key_order w.load.rows) ≡ true
  loaded_rise = keys_rise-put_all [] w.load.rows refl

  abbrev ts : List SerialTxn
  ts = turns w (in_key_order w.load.rows) (all_ids w)

  pub in_file_order : IsSerial w (serial_outcome (serial w (all_ids w)))
  in_file_order = record {
    rising = rising 1 w.programs (in_key_order w.load.rows);
    same = ap (serial w) (ids_back w (in_key_order w.load.rows) (all_ids w)) ∙ (λ i. record { runs = sym (runs_back ts) i; rows = last_map w (in_key_order w.load.rows) (all_ids w) });
    whole = subst (IsPermutation (all_ids w)) (sym (ids_back w (in_key_order w.load.rows) (all_ids w)) ∙ sym (append-nil (map (λ (l : Decided). l.number.id) (map decided_serially ts)))) (IsPermutation-refl (all_ids w));
  }

  pub in_report_order : InReportOrder (serial_outcome (serial w (all_ids w)))
  in_report_order = record {
    decided = numbers_tested (map decided_serially ts) (rising 1 w.programs (in_key_order w.load.rows));
    giveups = refl;
    aborts = refl;
    rows = last_rise (in_key_order w.load.rows) (all_ids w) loaded_rise;
  }
