-- Transactions that are decided or given up, one after another.
use Rattle.std.proofs.Common.{◌≡◌, ◌≢◌, ℕ, ◌+◌, ◌<◌, ◌≤◌, List, ◌++◌, length, map, get_or, true, false, eqb, sym, ap, ◌∙◌, subst, inl, inr, ⊎_elim, arith}
use Rattle.std.proofs.Math.ListN.{get_or-map}
use Rattle.std.proofs.lemmas.Bool.Decides.{eqb_tells}
use Rattle.std.proofs.lemmas.List.{length-map, get_or_default}
use Rattle.deneva_base.specs.Lists.{IsIn}
use Rattle.deneva_base.specs.declared.config.Config.{Config}
use Rattle.deneva_base.specs.declared.numbers.TxnId.{TxnId}
use Rattle.txn_program.specs.Serial.{all_ids}
use Rattle.txn_program.specs.Valid.{IsValid}
use Rattle.txn_program.specs.declared.programs.Workload.{Workload}
use Rattle.txn_program.proofs.Ids.{id_between, id_for_each}
use Rattle.server_core.specs.Configs.{IsConfig}
use Rattle.server_core.specs.Outcome.{outcome}
use Rattle.server_core.specs.Says.{IsQuiet}
use Rattle.server_core.specs.declared.messages.Entry.{Entry}
use Rattle.server_core.specs.declared.outcomes.Outcome.{Outcome}
use Rattle.server_core.specs.declared.outcomes.Decided.{Decided}
use Rattle.server_core.specs.declared.outcomes.Giveup.{Giveup}
use Rattle.server_core.specs.IsSerial.{IsSerial}
use Rattle.deneva_base.proofs.Membership.{in_cases, in_map_from}
use Rattle.protocol_rules.proofs.Voting.{choice, votes_or_not}
use Rattle.server_core.proofs.configured.Limiteds.{limits}
use Rattle.server_core.proofs.configured.ValidSettings.{rule_served, valid}
use Rattle.voting_laws.proofs.Voted as voted
use Rattle.calvin_laws.proofs.Configured as ordered
use Rattle.run_outcomes.proofs.NumberOrder.{moved}
use Rattle.run_outcomes.specs.Outcomes.{IsOver, IsLeastOpen}
use Rattle.run_outcomes.specs.Stories.{Tells}
use Rattle.server_core.specs.declared.role.Role.{Role}
use Rattle.run_outcomes.specs.declared.stories.Story.{Story}
use Rattle.run_outcomes.proofs.Places.{id_at}

abbrev decided_id : Decided → TxnId
decided_id l = l.number.id

abbrev given_id : Giveup → TxnId
given_id g = g.id

-- a serial outcome has each transaction of the workload
pub all_of : (w : Workload) (o : Outcome) → IsSerial w o → (x : TxnId) → IsIn x (all_ids w) → IsOver o x
all_of w o serial x i =
    ⊎_elim
    (λ d. let l = in_map_from decided_id x o.decided d in inl (l.0, l.1, sym l.2))
    (λ u. let g = in_map_from given_id x o.giveups u in inr (g.0, g.1, sym g.2))
    (in_cases x (map decided_id o.decided) (map given_id o.giveups) (moved (all_ids w) (map decided_id o.decided ++ map given_id o.giveups) serial.whole x i))

-- in a quiet run each transaction is decided or given up
pub all_over : (c : Config) (w : Workload) (H : List Entry) → IsConfig c → IsValid w → IsQuiet c w H → (x : TxnId) → IsIn x (all_ids w) → IsOver (outcome c w H) x
all_over c w H config d run =
    ⊎_elim
    (λ v. let o = choice c.protocol v in voted.decided c w o.0 o.1 (valid c w config d v) (limits c w config d v) H (rule_served c.protocol v).waits run)
    (λ is. all_of w (outcome c w H) (ordered.serial c w is config d H run))
    (votes_or_not c.protocol)

none_below : (w : Workload) (x : TxnId) → IsIn x (all_ids w) → x.0 ≤ 0 → ⊥
none_below w x i low = let b = id_between w x i in omega (arith, low, b.0)

module _ (r : Role) (H : List Entry) (ts : List Story) (ids : map (λ (t : Story). t.id) ts ≡ all_ids r.work.now) (o : Outcome) where
  pub start : (x : TxnId) → IsIn x (all_ids r.work.now) → x.0 ≤ 0 → IsOver o x
  start x i low = absurd (none_below r.work.now x i low)

  count : length ts ≡ length r.work.now.programs
  count = sym (length-map ts (λ (t : Story). t.id)) ∙ ap length ids ∙ id_for_each r.work.now

  pub all_there : (i : ℕ) → length ts ≤ i → ((x : TxnId) → IsIn x (all_ids r.work.now) → x.0 ≤ i → IsOver o x) → (x : TxnId) → IsIn x (all_ids r.work.now) → IsOver o x
  all_there i past over x in' = let b = id_between r.work.now x in' in over x in' (omega (arith, past, b.1, count, id_for_each r.work.now))

  module _ (i : ℕ) (t : Story) (less : i < length ts) (at : t ≡ get_or ts i t) (over : (x : TxnId) → IsIn x (all_ids r.work.now) → x.0 ≤ i → IsOver o x) where
    id_is : t.id ≡ record { 0 = i + 1 }
    id_is =
        let low : i < length r.work.now.programs = omega (arith, less, count) in
        let d : TxnId = record { 0 = i + 1 } in
        ap (λ (z : Story). z.id) at ∙ sym (get_or-map (λ (z : Story). z.id) ts i t) ∙ ap (λ l. get_or l i t.id) ids ∙ default low ∙ id_at r.work.now i low
      where
        default : i < length r.work.now.programs → get_or (all_ids r.work.now) i t.id ≡ get_or (all_ids r.work.now) i (record { 0 = i + 1 })
        default low = get_or_default (all_ids r.work.now) i t.id (record { 0 = i + 1 }) (omega (arith, low, id_for_each r.work.now))

    pub one_more : IsOver o t.id → (x : TxnId) → IsIn x (all_ids r.work.now) → x.0 ≤ i + 1 → IsOver o x
    one_more here x in' low =
        ⊎_elim
        (λ (e : (eqb x.0 (i + 1) ≡ true) × (x.0 ≡ i + 1)). subst (IsOver o) (id_is ∙ (λ j. record { 0 = sym e.1 j })) here)
        (λ (e : (eqb x.0 (i + 1) ≡ false) × (x.0 ≢ i + 1)). over x in' (omega (arith, low, e.1)))
        (eqb_tells x.0 (i + 1))

    pub least_open : Tells r H t → (IsOver o t.id → ⊥) → IsLeastOpen r.work.now o t.id
    least_open k open' = record {
      known = k.known;
      undecided = λ d. open' (inl d);
      not_given_up = λ g. open' (inr g);
      least = λ y in' low. let is = ap (λ (z : TxnId). z.0) id_is in over y in' (omega (arith, low, is));
    }
