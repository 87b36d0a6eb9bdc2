-- The lines of finished transactions in the global order are those by id, sorted.
use Rattle.std.proofs.Common.{◌≡◌, ◌≢◌, ℕ, List, [], ◌∷◌, map, Bool, true, false, cond, eqb, refl, sym, ap, ◌∙◌, subst, inl, ⊎_elim, arith}
use Rattle.std.specs.List.{filter, IsDistinct}
use Rattle.std.proofs.lemmas.Bool.Decides.{nat_tests}
use Rattle.std.proofs.lemmas.Map.Keys.{IsDistinct-cons}
use Rattle.deneva_base.specs.Keys.{id_eq, NumberLt}
use Rattle.deneva_base.specs.Lists.{IsIn}
use Rattle.deneva_base.specs.declared.config.Config.{Config}
use Rattle.deneva_base.specs.declared.config.Protocol.TheVariants.{Calvin}
use Rattle.deneva_base.specs.declared.numbers.TxnId.{TxnId}
use Rattle.txn_program.specs.Apart.{DistinctBy}
use Rattle.txn_program.specs.Serial.{all_ids}
use Rattle.txn_program.specs.Valid.{IsValid}
use Rattle.txn_program.specs.declared.programs.Workload.{Workload}
use Rattle.txn_program.proofs.Ids.{distinct_ids}
use Rattle.txn_program.proofs.Members.{in_map, in_map_from, in_filter, in_filter_from}
use Rattle.server_core.specs.CalvinSerial.{RisingIds}
use Rattle.server_core.specs.Configs.{IsConfig}
use Rattle.server_core.specs.GlobalOrder.{order, number}
use Rattle.server_core.specs.IsSerial.{Rises}
use Rattle.server_core.specs.Lines.{sort_lines, ordered_lines}
use Rattle.server_core.specs.Outcome.{outcome, outcome_in}
use Rattle.server_core.specs.Setting.{Setting, setting}
use Rattle.server_core.specs.declared.messages.Entry.{Entry}
use Rattle.server_core.specs.declared.outcomes.Decided.{Decided}
use Rattle.server_core.specs.declared.outcomes.Outcome.{Outcome}
use Rattle.server_core.proofs.configured.Families.{family_orders}
use Rattle.server_core.proofs.configured.CalvinSettings.{valid}
use Rattle.calvin_laws.proofs.order.OrderNumbers.{rising}
use Rattle.calvin_laws.proofs.order.Orders.{order_in, in_order}
use Rattle.server_core.proofs.serial.SortedLines.{in_sorted}
use Rattle.run_outcomes.specs.Finishing.{is_finished, finished_line, finished_lines_of}
use Rattle.run_outcomes.specs.Outcomes.{IsOver}
use Rattle.run_outcomes.proofs.NumberOrder.{HaveDistinctIds, apart_from, sorted_in, sort_rises, unique}

module _ (s : Setting) (H : List Entry) where
  -- a line is of one of these transactions, which is finished
  line_of : (xs : List TxnId) (l : Decided) → IsIn l (finished_lines_of s H xs) → (x : TxnId) × IsIn x xs × (is_finished s H x ≡ true) × (l ≡ finished_line s H x)
  line_of xs l i =
      let m = in_map_from (finished_line s H) l (filter (is_finished s H) xs) i in
      let f = in_filter_from (is_finished s H) m.0 xs m.1 in
      (m.0, f.0, f.1, m.2)

  line_there : (xs : List TxnId) (x : TxnId) → IsIn x xs → is_finished s H x ≡ true → IsIn (finished_line s H x) (finished_lines_of s H xs)
  line_there xs x i e = in_map (finished_line s H) x (filter (is_finished s H) xs) (in_filter (is_finished s H) x xs i e)

  pub distinct_lines : (xs : List TxnId) → DistinctBy (λ (x : TxnId). x.0) xs → HaveDistinctIds (finished_lines_of s H xs)
  unfolding IsDistinct
  distinct_lines [] d = tt
  distinct_lines (x ∷ xs) d = go (is_finished s H x) (distinct_lines xs d.1)
    where
      other : (a b : ℕ) → b ≢ a → eqb a b ≡ false
      other a b ne = grind (arith, nat_tests, ne)

      go : (b : Bool) → HaveDistinctIds (finished_lines_of s H xs) → HaveDistinctIds (map (finished_line s H) (cond b (x ∷ filter (is_finished s H) xs) (filter (is_finished s H) xs)))
      go true more =
          IsDistinct-cons id_eq x (map (λ (l : Decided). l.number.id) (finished_lines_of s H xs))
          (apart_from x (finished_lines_of s H xs) (λ l i. let f = line_of xs l i in subst (λ (z : Decided). id_eq x z.number.id ≡ false) (sym f.3) (other x.0 f.0.0 (d.0 f.0 f.1)))) more
      go false more = more

  lines_rise : (xs : List TxnId) → RisingIds s xs → Rises (finished_lines_of s H xs)
  lines_rise [] r = tt
  lines_rise (x ∷ xs) r = go (is_finished s H x) (lines_rise xs r.1)
    where
      go : (b : Bool) → Rises (finished_lines_of s H xs) → Rises (map (finished_line s H) (cond b (x ∷ filter (is_finished s H) xs) (filter (is_finished s H) xs)))
      go true more = ((λ l i. let f = line_of xs l i in subst (λ (z : Decided). NumberLt (number s x) z.number) (sym f.3) (r.0 f.0 f.1)), more)
      go false more = more

module _ (c : Config) (w : Workload) (config : IsConfig c) (v : IsValid w) (H : List Entry) where
  abbrev s : Setting
  s = setting c w

  pub sorted_by_order : sort_lines (finished_lines_of s H (all_ids w)) ≡ ordered_lines s H
  sorted_by_order =
      let by_id = finished_lines_of s H (all_ids w) in
      unique (sort_lines by_id) (ordered_lines s H) (sort_rises by_id (distinct_lines s H (all_ids w) (distinct_ids w))) (lines_rise s H (order s) (rising s (valid c w v config)))
      (λ l i.
      let f = line_of s H (all_ids w) l (sorted_in l by_id i) in
      subst (λ z. IsIn z (ordered_lines s H)) (sym f.3) (line_there s H (order s) f.0 (in_order s (valid c w v config) f.0 f.1) f.2))
      (λ l i.
      let f = line_of s H (order s) l i in
      in_sorted l by_id (subst (λ z. IsIn z by_id) (sym f.3) (line_there s H (all_ids w) f.0 (order_in s f.0 f.1) f.2)))

  -- a transaction is decided exactly where it is finished, and none is given up
  module _ (is : c.protocol ≡ Calvin) (x : TxnId) where
    pub finished_there : IsIn x (all_ids w) → is_finished s H x ≡ true → IsOver (outcome c w H) x
    finished_there i e =
        subst (λ (o : Outcome). IsOver o x) (sym (ap (λ f. outcome_in f c w H) (family_orders c.protocol is)))
        (inl (finished_line s H x, line_there s H (order s) x (in_order s (valid c w v config) x i) e, refl))

    pub finished_here : IsOver (outcome c w H) x → is_finished s H x ≡ true
    finished_here d =
        ⊎_elim
        (λ l.
        let f = line_of s H (order s) l.0 l.1 in
        let same : f.0 ≡ x = sym (ap (λ (z : Decided). z.number.id) f.3) ∙ l.2 in
        subst (λ y. is_finished s H y ≡ true) same f.2)
        (λ g. absurd g.1)
        (subst (λ (o : Outcome). IsOver o x) (ap (λ f. outcome_in f c w H) (family_orders c.protocol is)) d)
