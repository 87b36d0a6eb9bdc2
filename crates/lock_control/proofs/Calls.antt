-- The calls of a table that stands for a history, under either rule.
use Rattle.std.proofs.Common.{◌≡◌, ℕ, ◌+◌, ◌^◌, ◌<◌, List, [], ◌∷◌, true, false, ap, arith, Some, None}
use Rattle.deneva_base.specs.declared.keys.Key.{Key}
use Rattle.deneva_base.specs.declared.keys.Mode.{Mode}
use Rattle.deneva_base.specs.declared.numbers.Attempt.{Attempt}
use Rattle.deneva_base.specs.declared.numbers.Number.{Number}
use Rattle.deneva_base.specs.declared.rows.Keyed.{Keyed}
use Rattle.deneva_base.specs.declared.causes.Bound.{Bound}
use Rattle.deneva_base.specs.declared.answers.Answer.TheVariants.{Granted, Waits}
use Rattle.deneva_base.specs.declared.answers.Vote.TheVariants.{Yes}
use Rattle.deneva_base.specs.Lists.{greatest_by}
use Rattle.deneva_base.specs.Rows.{Row, Rows}
use Rattle.protocol_rules.specs.Conditions.{MayAsk, MayPrepare, MayCommit, MayAbort}
use Rattle.protocol_rules.specs.History.{Ask, Commit, Abort, History, yeas}
use Rattle.protocol_rules.specs.Latest.{latest, seen}
use Rattle.protocol_rules.specs.Locks.{lock_vote}
use Rattle.protocol_rules.specs.Rules.{Rule, Obeys}
use Rattle.protocol_rules.specs.Wakes.{KeepsWakes}
use Rattle.protocol_rules.proofs.Sound.{Sound, sound}
use Rattle.protocol_rules.proofs.Known.{Known, known}
use Rattle.protocol_rules.proofs.Traced.{Traced, traced}
use Rattle.row_store.specs.Stores.{version_at}
use Rattle.lock_control.specs.declared.table.Table.{Table}
use Rattle.lock_control.specs.Tables.{locks_at}
use Rattle.shelf.specs.Shelves.{held}
use Rattle.lock_control.specs.Changes.{Adds, EndsOne}
use Rattle.shelf.specs.Shelves.{read_in}
use Rattle.lock_control.specs.Standing.{state_of, Tracks, Stands}
use Rattle.lock_control.proofs.Asking.{grew, ask_granted, ask_waits}
use Rattle.lock_control.specs.Locks.{bound_at}
use Rattle.shelf.specs.Keeps.{Apart, KeepsRows}
use Rattle.lock_control.proofs.Closing.{committed, aborted_tracks}
use Rattle.shelf.proofs.Versions.{apart, reads_latest}
use Rattle.lock_control.proofs.Voting.{floor_is, floor_small}

module _ (rule : Rows → Rule) (wakes : (loaded : Rows) (h : History) → Obeys loaded (rule loaded) h → KeepsWakes h) (t : Table) (loaded : Rows) (h : History) (stands : Stands rule t loaded h) where
  pub sounds : Sound loaded h
  sounds = sound loaded (rule loaded) h stands.obeys

  pub knows : Known loaded h
  knows = known loaded (rule loaded) h stands.obeys

  pub traces : Traced h
  traces = traced loaded (rule loaded) h stands.obeys (wakes loaded h stands.obeys)

  abbrev rows : KeepsRows false loaded t.shelf h
  rows = stands.tracks.kept

  pub votes : Apart (yeas h)
  votes = apart (rule loaded) rows stands.obeys

  -- the vote
  pub vote_small : (who : Attempt) (bound : Bound) (writes appends : List Keyed) → MayPrepare h who bound writes appends → greatest_by (λ key. bound_at who (locks_at t.lines key)) (held t.shelf who).keys < 2 ^ 48
  vote_small who bound writes appends may = rw (floor_is loaded h sounds traces (state_of t) stands.tracks who may.unended may.nowhere) (floor_small loaded (rule loaded) h who stands.obeys)

  pub vote_is : (who : Attempt) (bound : Bound) (writes appends : List Keyed) → MayPrepare h who bound writes appends → Yes (1 + greatest_by (λ key. bound_at who (locks_at t.lines key)) (held t.shelf who).keys) (2 ^ 63) ≡ lock_vote h who
  vote_is who bound writes appends may = ap (λ n. Yes (1 + n) (2 ^ 63)) (floor_is loaded h sounds traces (state_of t) stands.tracks who may.unended may.nowhere)

  -- the row that is granted
  pub grant_is : (who : Attempt) (stamp : ℕ) (key : Key) (mode : Mode) → MayAsk loaded h who stamp key → Granted (read_in mode (version_at t.shelf.store key)).0 (read_in mode (version_at t.shelf.store key)).1 0 ≡ Granted (seen mode (latest loaded h key)).row (seen mode (latest loaded h key)).number 0
  grant_is who stamp key mode may = ap (λ (r : Row × Number). Granted r.0 r.1 0) (reads_latest (rule loaded) rows stands.obeys key may.here.0 may.here.1 mode)

  -- the table afterwards
  pub granted_tracks : (who : Attempt) (stamp : ℕ) (key : Key) (mode : Mode) (row : Row) (version : Number) (bound : ℕ) (new : Table) → MayAsk loaded h who stamp key → Adds key (record { who = who; stamp = stamp; mode = mode; waits = false }) 0 t new → Tracks loaded (state_of new) (Ask who stamp key mode (Granted row version bound) ∷ h)
  granted_tracks who stamp key mode row version bound new may c =
      ask_granted loaded h knows sounds traces who stamp key mode may (state_of t) (state_of new) row version bound stands.tracks (grew key (record { who = who; stamp = stamp; mode = mode; waits = false }) 0 t new c) (let e = c.waiting in omega (arith, e))

  pub waiting_tracks : (who : Attempt) (stamp : ℕ) (key : Key) (mode : Mode) (new : Table) → MayAsk loaded h who stamp key → Adds key (record { who = who; stamp = stamp; mode = mode; waits = true }) 1 t new → Tracks loaded (state_of new) (Ask who stamp key mode Waits ∷ h)
  waiting_tracks who stamp key mode new may c =
      ask_waits loaded h knows sounds traces who stamp key mode may (state_of t) (state_of new) stands.tracks (grew key (record { who = who; stamp = stamp; mode = mode; waits = true }) 1 t new c) c.waiting

  pub commit_tracks : (who : Attempt) (number : Number) (new : Table) → MayCommit h who number → EndsOne who (Some number) t new → Tracks loaded (state_of new) (Commit who number [] ∷ h)
  commit_tracks who number new may c = committed loaded h knows sounds traces votes who number t new may stands.tracks c

  pub abort_tracks : (who : Attempt) (new : Table) → MayAbort h who → EndsOne who None t new → Tracks loaded (state_of new) (Abort who [] ∷ h)
  abort_tracks who new may c = aborted_tracks loaded h knows sounds traces votes who t new may stands.tracks c
