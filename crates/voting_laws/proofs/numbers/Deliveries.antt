-- Every schedule picks a mail in flight; deliveries make runs of a voting protocol, and what a schedule picks ends.
use Rattle.std.proofs.Common.{◌≡◌, ℕ, ◌≤◌, List, [], ◌∷◌, ◌++◌, length}
use Rattle.server_core.specs.declared.messages.Mail.{Mail}
use Rattle.server_core.specs.Limits.{Limits, most_events}
use Rattle.server_core.specs.Picks.{Progress, deliver, deliveries, PicksOne}
use Rattle.server_core.specs.Proper.{Valid}
use Rattle.server_core.specs.Setting.{Setting}
use Rattle.server_core.specs.Voting.{says, opening}
use Rattle.server_core.specs.declared.messages.Entry.{Entry}
use Rattle.deneva_base.specs.Lists.{IsIn}
use Rattle.server_core.proofs.flight.AnyDeliveries as any
use Rattle.server_core.specs.VotingRuns.{IsRun}
use Rattle.voting_laws.proofs.numbers.Events.{run_short}
use Rattle.voting_laws.proofs.numbers.Numbers.{run_good}
use Rattle.voting_laws.proofs.numbers.Picked.{no_twins}

module _ (s : Setting) (v : Valid s) (l : Limits s) where
  apart : (H : List Entry) (flight : List Mail) → IsRun s H flight → (m : Mail) (front back : List Mail) → flight ≡ front ++ m ∷ back → IsIn m front → ⊥
  apart H flight r m front back = no_twins s v H flight (run_good s v l H flight r) m front back

  bound : (H : List Entry) (flight : List Mail) → IsRun s H flight → length H ≤ most_events s
  bound H flight r = run_short s v H flight (run_good s v l H flight r)

  pub deliver_run : (k : ℕ) (w : Progress) → IsRun s w.entries w.flight → IsRun s (deliver (says s) k w).entries (deliver (says s) k w).flight
  deliver_run = any.deliver_run (says s) (opening s) apart (most_events s) bound

  pub schedule_run : (pick : ℕ → ℕ → ℕ) (i n : ℕ) (w : Progress) → IsRun s w.entries w.flight → IsRun s (deliveries (says s) pick i n w).entries (deliveries (says s) pick i n w).flight
  schedule_run = any.schedule_run (says s) (opening s) apart (most_events s) bound

  -- after as many as a run may have, nothing is in flight
  pub ends : (pick : ℕ → ℕ → ℕ) → PicksOne pick → (w : Progress) → w.entries ≡ [] → IsRun s w.entries w.flight → (deliveries (says s) pick 0 (most_events s) w).flight ≡ []
  ends = any.ends (says s) (opening s) apart (most_events s) bound
