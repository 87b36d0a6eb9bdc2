-- A history that is a run, delivered again.
use Rattle.std.proofs.Common.{◌≡◌, ℕ, suc, ◌+◌, List, [], ◌∷◌, ◌++◌, length, take, drop, reverse, slice_get, Some, append_assoc, sym, ap, ◌∙◌, subst, arith}
use Rattle.std.proofs.lemmas.List.{reverse-append}
use Rattle.deneva_base.specs.declared.config.Config.{Config}
use Rattle.txn_program.specs.declared.programs.Workload.{Workload}
use Rattle.server_core.specs.Says.{IsRun}
use Rattle.server_core.specs.Picks.{Progress, deliver, delivered}
use Rattle.server_core.specs.Runs.{Saying, Reaches, entry_of, heard}
use Rattle.server_core.specs.declared.messages.Entry.{Entry}
use Rattle.server_core.specs.declared.messages.Mail.{Mail}
use Rattle.server_core.specs.declared.messages.Msg.{Msg}
use Rattle.server_core.proofs.flight.Flights.{one_flight}
use Rattle.world.specs.Matches.{Gives}
use Rattle.world.specs.Worlds.{Seen, HasNodes}
use Rattle.server_core.specs.Roles.{Role}
use Rattle.world.proofs.Joined.{parted, take-parted, get-right}

module _ (says : Saying) (opening : List Mail) where
  -- the older entries of a run are one
  older_run : (newer older : List Entry) (flight : List Mail) → Reaches says opening (newer ++ older) flight → (f : List Mail) × Reaches says opening older f
  older_run [] older flight r = (flight, r)
  older_run (e ∷ newer) older flight r = older_run newer older r.0 r.4

  next_run : (history : List Entry) (i : ℕ) (e : Entry) (flight : List Mail) → slice_get history i ≡ Some e → Reaches says opening (reverse history) flight → (f : List Mail) × Reaches says opening (e ∷ reverse (take i history)) f
  next_run history i e flight at r =
      let rest = drop (suc i) history in
      let split : reverse history ≡ reverse rest ++ (e ∷ reverse (take i history)) =
      ap reverse (parted history i e at) ∙ reverse-append (take i history) (e ∷ rest)
      ∙ ap (λ l. l ++ reverse (take i history)) (reverse-append (e ∷ []) rest) ∙ append_assoc (reverse rest) (e ∷ []) (reverse (take i history)) in
      older_run (reverse rest) (e ∷ reverse (take i history)) flight (subst (λ l. Reaches says opening l flight) split r)

  module _ (history : List Entry) (i : ℕ) (e : Entry) (flight : List Mail) (at : slice_get history i ≡ Some e) (r : Reaches says opening (reverse history) flight) (p : Progress)
      (so_far : p.entries ≡ reverse (take i history)) (now : Reaches says opening p.entries p.flight) where
    next : (f : List Mail) × Reaches says opening (e ∷ reverse (take i history)) f
    next = next_run history i e flight at r

    same_flight : next.1.0 ≡ p.flight
    same_flight = one_flight says opening (reverse (take i history)) next.1.0 p.flight next.1.4 (subst (λ l. Reaches says opening l p.flight) so_far now)

    -- the mail of the next entry is in flight
    pub next_there : (k : ℕ) × (m : Mail) × (slice_get p.flight k ≡ Some m) × Gives m e
    next_there =
        let m = next.1.1 in
        let step = next.1.3 in
        let e_is = next.1.2 in (
          length step.front + 0,
          m,
          ap (λ l. slice_get l (length step.front + 0)) (sym same_flight ∙ step.stood) ∙ get-right step.front (m ∷ step.back) 0,
          (ap (λ (z : Entry). z.from) (sym e_is), ap (λ (z : Entry). z.node) (sym e_is), ap (λ (z : Entry). z.msg) (sym e_is)),
        )

    -- and any that gives the entry does, once it is delivered
    pub replayed : (k : ℕ) (m : Mail) → slice_get p.flight k ≡ Some m → Gives m e → (deliver says k p).entries ≡ reverse (take (i + 1) history)
    replayed k m there gives =
        let e_is = next.1.2 in
        let place : e.place ≡ length p.entries = ap (λ (z : Entry). z.place) e_is ∙ ap length (sym so_far) in
        let entry : entry_of (length p.entries) m ≡ e = λ j. record { place = sym place j; from = gives.0 j; node = gives.1 j; msg = gives.2 j } in
        let is : i + 1 ≡ suc i = omega arith in
        ap (λ o. (delivered says k p o).entries) there ∙ ap (λ (x : Entry). x ∷ p.entries) entry ∙ ap (λ l. e ∷ l) so_far
        ∙ sym (ap (λ n. reverse (take n history)) is ∙ ap reverse (take-parted history i e at) ∙ reverse-append (take i history) (e ∷ []))

-- nodes of one history, whatever is in flight
pub same_nodes : {S : Type 0} (role : S → Role) (stands : S → List Msg → Type 0) (nodes : List S) (w v : Seen) → HasNodes role stands nodes w → w.config ≡ v.config → w.work ≡ v.work → w.progress.entries ≡ v.progress.entries
    → HasNodes role stands nodes v
same_nodes role stands nodes w v has config work entries = record {
  count = has.count ∙ ap (λ c. c.parts) config;
  each = λ p s at.
      let was = has.each p s at in (
        was.0 ∙ (λ i. record { config = config i; work = work i; part = p }),
        subst (λ l. stands s (heard p l)) entries was.1,
      );
}

pub run_of : (c d : Config) (w v : Workload) (H K : List Entry) (flight : List Mail) → c ≡ d → w ≡ v → H ≡ K → IsRun d v K flight → IsRun c w H flight
run_of c d w v H K flight config work entries r =
    subst (λ x. IsRun x w H flight) (sym config) (subst (λ x. IsRun d x H flight) (sym work) (subst (λ x. IsRun d v x flight) (sym entries) r))
