-- A table under NO_WAIT.
use Rattle.std.proofs.Common.{◌≡◌, ℕ, ◌-◌, ◌^◌, ◌<◌, false, refl, sym, ap, ◌∙◌, arith, Some, None}
use Rattle.deneva_base.specs.declared.keys.Key.{Key}
use Rattle.deneva_base.specs.declared.keys.Mode.{Mode}
use Rattle.deneva_base.specs.declared.numbers.Attempt.{Attempt}
use Rattle.deneva_base.specs.declared.causes.Cause.TheVariants.{Held}
use Rattle.deneva_base.specs.declared.answers.Answer.TheVariants.{Granted, Refused}
use Rattle.deneva_base.specs.Lists.{IsIn}
use Rattle.deneva_base.specs.Rows.{Rows}
use Rattle.protocol_rules.specs.Conditions.{MayAsk}
use Rattle.protocol_rules.specs.History.{History, Asked, Grant, grants, IsUnended, Conflict}
use Rattle.protocol_rules.specs.Latest.{latest, seen}
use Rattle.protocol_rules.specs.Locks.{blockers}
use Rattle.protocol_rules.specs.NoWait.{no_wait, held_or_granted}
use Rattle.protocol_rules.specs.Rules.{Obeys}
use Rattle.protocol_rules.specs.Wakes.{KeepsWakes}
use Rattle.protocol_rules.proofs.Locks.{blocker_in, in_blockers}
use Rattle.protocol_rules.proofs.NoWaitServed.{lawful}
use Rattle.row_store.specs.Stores.{version_at}
use Rattle.lock_control.specs.declared.requests.Request.{Request}
use Rattle.lock_control.specs.declared.table.Table.{Table}
use Rattle.lock_control.specs.Requests.{least_bar}
use Rattle.lock_control.specs.Tables.{locks_at}
use Rattle.shelf.specs.Shelves.{read_in}
use Rattle.lock_control.specs.Standing.{state_of, Stands}
use Rattle.lock_control.proofs.Answering.{barred_none, barred_some}
use Rattle.lock_control.proofs.Calls.{sounds, knows, traces, grant_is}

pub no_wait_wakes : (loaded : Rows) (h : History) → Obeys loaded (no_wait loaded) h → KeepsWakes h
no_wait_wakes loaded h o = lawful.wakes loaded h o

module _ (t : Table) (loaded : Rows) (h : History) (stands : Stands no_wait t loaded h) (who : Attempt) (stamp : ℕ) (key : Key) (mode : Mode) (may : MayAsk loaded h who stamp key) where
  abbrev pub asked : Request
  asked = record { who = who; stamp = stamp; mode = mode; waits = false }

  abbrev pub access : Asked
  access = record { who = who; stamp = stamp; key = key; mode = mode }

  -- each stamp is below the greatest number
  in_range : (g : Grant) → IsIn g (blockers h access) → IsIn g (grants h) × IsUnended h g.who × Conflict g.who g.key g.mode access.who access.key access.mode × (g.stamp < 2 ^ 64 - 1)
  in_range g i =
      let b = in_blockers h access g i in
      let a = (traces no_wait no_wait_wakes t loaded h stands).asked g b.0 in
      let small = (knows no_wait no_wait_wakes t loaded h stands).small a.0 a.1 in
      (b.0, b.1, b.2, omega (arith, small, a.5))

  pub held_is : (x : Request) → least_bar asked (2 ^ 64 - 1) None (locks_at t.lines key).requests ≡ Some x → Refused (Held key x.who) ≡ (no_wait loaded).ask h who stamp key mode
  held_is x e =
      let f = barred_some loaded h (knows no_wait no_wait_wakes t loaded h stands) (sounds no_wait no_wait_wakes t loaded h stands) (traces no_wait no_wait_wakes t loaded h stands) (state_of t) stands.tracks access asked (2 ^ 64 - 1) refl refl (blockers h access) in_range (λ g i u c l. blocker_in h access g i u c) x e in
      ap (λ (r : Request). Refused (Held key r.who)) f.3 ∙ ap (λ gs. held_or_granted key gs (seen mode (latest loaded h key))) (sym f.2)

  pub free_is : least_bar asked (2 ^ 64 - 1) None (locks_at t.lines key).requests ≡ None → Granted (read_in mode (version_at t.shelf.store key)).0 (read_in mode (version_at t.shelf.store key)).1 0 ≡ (no_wait loaded).ask h who stamp key mode
  free_is e =
      let f = barred_none loaded h (knows no_wait no_wait_wakes t loaded h stands) (sounds no_wait no_wait_wakes t loaded h stands) (traces no_wait no_wait_wakes t loaded h stands) (state_of t) stands.tracks access asked (2 ^ 64 - 1) refl refl (blockers h access) in_range (λ g i u c l. blocker_in h access g i u c) e in
      grant_is no_wait no_wait_wakes t loaded h stands who stamp key mode may ∙ ap (λ gs. held_or_granted key gs (seen mode (latest loaded h key))) (sym f)
