-- NO_WAIT keeps the window law, and nothing waits.
use Rattle.std.proofs.Common.{◌≡◌, ℕ, List, [], ◌∷◌, refl, sym, subst}
use Rattle.std.specs.Prelude.{⊤}
use Rattle.deneva_base.specs.declared.keys.Key.{Key}
use Rattle.deneva_base.specs.declared.numbers.Attempt.{Attempt}
use Rattle.deneva_base.specs.declared.keys.Mode.{Mode}
use Rattle.deneva_base.specs.Rows.{Rows}
use Rattle.deneva_base.specs.declared.answers.Vote.{Vote}
use Rattle.deneva_base.specs.declared.answers.Vote.TheVariants.{Yes, No}
use Rattle.protocol_rules.specs.History.{Ask, Prepare, Commit, Abort, History, Grant, waits}
use Rattle.protocol_rules.specs.Wakes.{WakesWaiters, KeepsWakes}
use Rattle.protocol_rules.specs.Windows.{KeepsWindows}
use Rattle.protocol_rules.specs.Waits.{NothingWaits}
use Rattle.protocol_rules.specs.Rules.{Obeys}
use Rattle.protocol_rules.specs.Latest.{latest, seen}
use Rattle.protocol_rules.specs.Locks.{blockers}
use Rattle.protocol_rules.specs.NoWait.{held_or_granted, no_wait}
use Rattle.protocol_rules.proofs.Windows.{Fresh}
use Rattle.protocol_rules.proofs.Sound.{sound}
use Rattle.protocol_rules.proofs.Known.{known, left_wait}
use Rattle.protocol_rules.proofs.Traced.{traced}
use Rattle.protocol_rules.proofs.VoteLaws.{keeps_wakes, VotesFresh, windows}
use Rattle.protocol_rules.proofs.Locks.{free, Locked, locked_grant, locked_commit, locked_abort, locked_start, lock_fresh}

module _ (loaded : Rows) where
  asked : (h : History) (who : Attempt) (stamp : ℕ) (key : Key) (mode : Mode) (bs : List Grant) → blockers h (record { who = who; stamp = stamp; key = key; mode = mode }) ≡ bs → Locked loaded h → Locked loaded (Ask who stamp key mode (held_or_granted key bs (seen mode (latest loaded h key))) ∷ h)
  asked h who stamp key mode (b ∷ bs) is l = record { apart = l.apart; current = l.current }
  asked h who stamp key mode [] is l = locked_grant loaded h who stamp key mode 0 (λ g i u c. free h (record { who = who; stamp = stamp; key = key; mode = mode }) g is i u c) l

  pub locked : (h : History) → Obeys loaded (no_wait loaded) h → Locked loaded h
  locked [] o = locked_start loaded
  locked (Ask who stamp key mode answer ∷ h) o = subst (λ a. Locked loaded (Ask who stamp key mode a ∷ h)) (sym o.1) (asked h who stamp key mode (blockers h (record { who = who; stamp = stamp; key = key; mode = mode })) refl (locked h o.2))
  locked (Prepare who bound writes appends vote ∷ h) o = let l = locked h o.2 in record { apart = l.apart; current = l.current }
  locked (Commit who number woken ∷ h) o = subst (λ w. Locked loaded (Commit who number w ∷ h)) (sym o.1) (locked_commit loaded h who number (sound loaded (no_wait loaded) h o.2) o.0.unended (locked h o.2))
  locked (Abort who woken ∷ h) o = subst (λ w. Locked loaded (Abort who w ∷ h)) (sym o.1) (locked_abort loaded h who (locked h o.2))

  none_woken : (h : History) → WakesWaiters h []
  none_woken h = record { waited = λ w i. absurd i; once = tt }

  wakes : (h : History) → Obeys loaded (no_wait loaded) h → KeepsWakes h
  wakes h o = keeps_wakes loaded (no_wait loaded) (λ g who number p may. none_woken g) (λ g who p may. none_woken g) h o

  fresh : VotesFresh loaded (no_wait loaded)
  fresh h who bound writes appends lo hi o ws may law e =
      subst
      (λ v. OfVote v)
      (sym e)
      (lock_fresh loaded h (sound loaded (no_wait loaded) h o) (known loaded (no_wait loaded) h o) (traced loaded (no_wait loaded) h o ws) (locked h o) who bound writes appends may)
    where
      OfVote : Vote → Type 0
      OfVote (Yes a b) = Fresh loaded h who writes a b
      OfVote (No cause) = ⊤

  -- the window law
  pub no_wait_windows : (h : History) → Obeys loaded (no_wait loaded) h → KeepsWindows loaded h
  no_wait_windows h o = windows loaded (no_wait loaded) fresh h o (wakes h o)

  still : (who : Attempt) (stamp : ℕ) (key : Key) (mode : Mode) (bs : List Grant) (h : History) → NothingWaits h → NothingWaits (Ask who stamp key mode (held_or_granted key bs (seen mode (latest loaded h key))) ∷ h)
  still who stamp key mode [] h n = n
  still who stamp key mode (b ∷ bs) h n = n

  -- nothing waits
  pub no_wait_waits : (h : History) → Obeys loaded (no_wait loaded) h → NothingWaits h
  no_wait_waits [] o = λ a i. i
  no_wait_waits (Ask who stamp key mode answer ∷ h) o = subst (λ a. NothingWaits (Ask who stamp key mode a ∷ h)) (sym o.1) (still who stamp key mode (blockers h (record { who = who; stamp = stamp; key = key; mode = mode })) h (no_wait_waits h o.2))
  no_wait_waits (Prepare who bound writes appends vote ∷ h) o = no_wait_waits h o.2
  no_wait_waits (Commit who number woken ∷ h) o = λ a i. no_wait_waits h o.2 a (left_wait loaded woken a (waits h) i)
  no_wait_waits (Abort who woken ∷ h) o = λ a i. no_wait_waits h o.2 a (left_wait loaded woken a (waits h) i)
