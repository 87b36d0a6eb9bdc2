-- A run under a voting protocol is a run of its setting, and what is said of that holds of the configuration and workload.
use Rattle.server_core.specs.Limits.{most_events, Limits}
use Rattle.server_core.specs.Picks.{Progress, deliveries, position, picked, most_entries}
use Rattle.server_core.specs.Voting.{says, opening}
use Rattle.server_core.specs.declared.schedules.Schedule.{Schedule}
use Rattle.voting_laws.proofs.numbers.Deliveries.{schedule_run, ends}
use Rattle.server_core.proofs.flight.AnyDeliveries.{position_picks}
use Rattle.voting_laws.proofs.numbers.Events.{run_short}
use Rattle.std.proofs.Common.{ℕ, ◌≤◌, length, map, refl, ◌≡◌, ◌⊎◌, List, [], Some, sym, ap, ◌∙◌, subst}
use Rattle.std.proofs.lemmas.Bool.{and_parts}
use Rattle.deneva_base.specs.Lists.{IsIn}
use Rattle.protocol_rules.specs.Naming.{Naming}
use Rattle.deneva_base.specs.Partitions.{partition_of}
use Rattle.protocol_rules.specs.Protocols.{Chosen, chosen}
use Rattle.deneva_base.specs.Rows.{row_of}
use Rattle.protocol_rules.specs.Waits.{WaitsLaw}
use Rattle.deneva_base.specs.declared.config.Config.{Config}
use Rattle.deneva_base.specs.declared.keys.Key.{Key}
use Rattle.deneva_base.specs.declared.numbers.TxnId.{TxnId}
use Rattle.txn_program.specs.Serial.{all_ids, serial as serial_run}
use Rattle.txn_program.specs.Valid.{IsValid}
use Rattle.txn_program.specs.declared.programs.Workload.{Workload}
use Rattle.txn_program.proofs.Loads.{distinct_rows}
use Rattle.server_core.specs.Aborts.{aborts_of}
use Rattle.server_core.specs.Atomic.{IsAtomic}
use Rattle.server_core.specs.Family.{Family, family_of, family, voting as votes}
use Rattle.server_core.specs.Fits.{AllFitting, AllFittingBy}
use Rattle.server_core.specs.IsSerial.{IsSerial, IsDecided, IsGivenUp, ran}
use Rattle.server_core.specs.Named.{AllNamed}
use Rattle.server_core.specs.Participant.{node_rows}
use Rattle.server_core.specs.Lines.{lines, sort_lines, giveups_of}
use Rattle.server_core.specs.Outcome.{outcome, outcome_in, outcome_with, last_rows}
use Rattle.server_core.specs.ReportOrder.{InReportOrder}
use Rattle.server_core.specs.Told.{IsTold}
use Rattle.server_core.specs.Proper.{Valid}
use Rattle.server_core.specs.Runs.{heard, Reaches}
use Rattle.server_core.specs.Says.{IsRun, IsQuiet}
use Rattle.server_core.specs.Setting.{Setting, setting}
use Rattle.server_core.specs.declared.messages.Entry.{Entry}
use Rattle.server_core.specs.declared.messages.Mail.{Mail}
use Rattle.server_core.specs.declared.outcomes.Decided.{Decided}
use Rattle.server_core.specs.declared.outcomes.Outcome.{Outcome}
use Rattle.voting_laws.proofs.account.Ended.{quiet_decided}
use Rattle.voting_laws.proofs.fits.Every.{each_fits}
use Rattle.voting_laws.proofs.named.Names.{named}
use Rattle.voting_laws.proofs.serial.Nodes.{node_row}
use Rattle.voting_laws.proofs.numbers.Numbers.{run_good, run_small, run_top, run_under}
use Rattle.server_core.proofs.serial.InOrder.{voting_order}
use Rattle.server_core.proofs.serial.SerialMaps.{serial_listed, row_listed}
use Rattle.voting_laws.proofs.serial.EachOnce.{each_once}
use Rattle.voting_laws.proofs.serial.Told.{decided_told, participants_told, given_up_told, turns_told}
use Rattle.voting_laws.proofs.serial.SerialOutcomes.{lines_rise, runs_same, rows_same, rows_sorted}
use Rattle.voting_laws.proofs.Wholes.{whole}
use Rattle.server_core.specs.VotingRuns as voting

module _ (c : Config) (w : Workload) (o : Chosen) (is : chosen c.protocol ≡ Some o) where
  abbrev s : Setting
  s = setting c w

  kin : family c.protocol ≡ votes
  kin = ap family_of is

  pub voting_run : (H : List Entry) (flight : List Mail) → IsRun c w H flight → voting.IsRun s H flight
  voting_run H flight run = subst (λ (f : Family). Reaches (f.says s) (f.opening s) H flight) kin run

  pub outcome_is : (H : List Entry) → outcome c w H ≡ outcome_with c w (sort_lines (lines s H)) (giveups_of s H) (aborts_of s H)
  outcome_is H = ap (λ f. outcome_in f c w H) kin

  module _ (v : Valid s) (lim : Limits s) where
    pub all_fitting : (H : List Entry) (flight : List Mail) → IsRun c w H flight → AllFitting c w H flight
    all_fitting H flight r =
        let run = voting_run H flight r in
        subst (λ (f : Family). AllFittingBy (f.suits s) H flight) (sym kin) (each_fits s v H flight (run_good s v lim H flight run) (run_small s v lim H flight run))

    pub short : (H : List Entry) (flight : List Mail) → IsRun c w H flight → length H ≤ most_entries c w
    short H flight r = subst (λ (f : Family). length H ≤ f.most s) (sym kin) (run_short s v H flight (run_good s v lim H flight (voting_run H flight r)))

    -- what any schedule picks is a quiet run
    pub picked_quiet : (schedule : Schedule) → IsQuiet c w (picked c w schedule)
    picked_quiet schedule =
        let pick : ℕ → ℕ → ℕ = position schedule in
        let start : Progress = record { entries = []; flight = opening s } in
        let last : Progress = deliveries (says s) pick 0 (most_events s) start in
        subst
        (λ (f : Family). Reaches (f.says s) (f.opening s) (deliveries (f.says s) pick 0 (f.most s) (record { entries = []; flight = f.opening s })).entries [])
        (sym kin)
        (subst (λ l. voting.IsRun s last.entries l) (ends s v lim pick (position_picks schedule) start refl refl) (schedule_run s v lim pick 0 (most_events s) start refl))

    pub atomic : (H : List Entry) → IsQuiet c w H → IsAtomic c w H
    atomic H r x i = subst (λ (f : Family). f.whole s H x) (sym kin) (whole s v H (run_good s v lim H [] (voting_run H [] r)) x)

    pub all_named : (H : List Entry) (flight : List Mail) → Naming s.rule → IsRun c w H flight → AllNamed c w H (outcome c w H)
    all_named H flight nm r l i =
        let run = voting_run H flight r in
        let u = run_under s v lim H flight run in
        subst (λ (f : Family). f.named s H l) (sym kin) (named s v nm H flight (run_good s v lim H flight run) (run_top s lim H) u.0 u.1 l (subst (λ (z : Outcome). IsIn l z.aborts) (outcome_is H) i))

    pub decided : (H : List Entry) → WaitsLaw s.rule → IsQuiet c w H → (x : TxnId) → IsIn x (all_ids w) → IsDecided (outcome c w H) x ⊎ IsGivenUp (outcome c w H) x
    decided H waits r x i = subst (λ (z : Outcome). IsDecided z x ⊎ IsGivenUp z x) (sym (outcome_is H)) (quiet_decided s v lim waits H (voting_run H [] r) x i)

    pub serial : IsValid w → (H : List Entry) → IsQuiet c w H → ((x : TxnId) → IsIn x (all_ids w) → IsDecided (outcome c w H) x ⊎ IsGivenUp (outcome c w H) x) → IsSerial w (outcome c w H)
    serial valid H r all =
        let g = run_good s v lim H [] (voting_run H [] r) in
        let sorted : List Decided = sort_lines (lines s H) in
        let same : serial_run w (map (λ (l : Decided). l.number.id) sorted) ≡ record { runs = map ran sorted; rows = last_rows s w.load.rows sorted }
        = serial_listed c w (distinct_rows w.load (and_parts _ _ (and_parts _ _ valid).0).0) sorted (runs_same s v H g) (rows_same s v H g) in
        subst (IsSerial w) (sym (outcome_is H)) (record {
          rising = lines_rise s v H [] g;
          same = same;
          whole = each_once s v H g (λ x i. subst (λ (z : Outcome). IsDecided z x ⊎ IsGivenUp z x) (outcome_is H) (all x i));
        })

    pub in_order : (H : List Entry) (flight : List Mail) → IsRun c w H flight → InReportOrder (outcome c w H)
    in_order H flight r = subst InReportOrder (sym (outcome_is H)) (voting_order c w H (sort_lines (lines s H)) (lines_rise s v H flight (run_good s v lim H flight (voting_run H flight r))))

    pub told : (H : List Entry) → IsQuiet c w H → IsTold s H (outcome c w H)
    told H r =
        let g = run_good s v lim H [] (voting_run H [] r) in
        subst (IsTold s H) (sym (outcome_is H)) (record { decided = decided_told s v H g; participants = participants_told s v H g; given_up = given_up_told s v H g; turns = turns_told s v H g })

    pub rows : IsValid w → (H : List Entry) → IsQuiet c w H → (key : Key) → node_rows s (partition_of key c.parts) (heard (partition_of key c.parts) H) key ≡ row_of (outcome c w H).rows key
    rows valid H r key =
        let g = run_good s v lim H [] (voting_run H [] r) in
        node_row s v H g key
        ∙ rows_sorted s v H g key
        ∙ sym (row_listed c w (distinct_rows w.load (and_parts _ _ (and_parts _ _ valid).0).0) (sort_lines (lines s H)) (runs_same s v H g) (rows_same s v H g) key)
        ∙ ap (λ (z : Outcome). row_of z.rows key) (sym (outcome_is H))
