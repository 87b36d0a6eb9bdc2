-- The calls of a table that stands for a history.
use Rattle.std.proofs.Common.{◌≡◌, ℕ, suc, ◌+◌, ◌^◌, ◌<◌, ◌≤◌, List, [], ◌∷◌, Bool, true, false, not, ◌&&◌, cond, refl, ap, ◌∙◌, inl, ⊎_elim, arith, Some, None}
use Rattle.deneva_base.specs.declared.keys.Key.{Key}
use Rattle.deneva_base.specs.declared.keys.Mode.{Mode}
use Rattle.deneva_base.specs.declared.numbers.Attempt.{Attempt}
use Rattle.deneva_base.specs.declared.numbers.Number.{Number}
use Rattle.deneva_base.specs.declared.rows.Keyed.{Keyed}
use Rattle.deneva_base.specs.declared.causes.Bound.{Bound}
use Rattle.deneva_base.specs.declared.answers.Answer.TheVariants.{Granted}
use Rattle.deneva_base.specs.declared.answers.Vote.{Vote}
use Rattle.deneva_base.specs.Lists.{IsIn, least_by}
use Rattle.deneva_base.specs.Rows.{Row, Rows}
use Rattle.protocol_rules.specs.Conditions.{MayAsk, MayPrepare, MayCommit, MayAbort}
use Rattle.protocol_rules.specs.History.{Ask, Prepare, Commit, Abort, History, Asked, Grant, Yea, Decided, grants, waits, yeas, decided, IsUnended}
use Rattle.protocol_rules.specs.Latest.{latest, has_ended, seen}
use Rattle.protocol_rules.specs.Ranged.{accessed, past_committed, past_prepared, grant_latest, low_of, low, under_prepared, high, lo_key, hi_by, window_vote}
use Rattle.protocol_rules.specs.Maat.{maat, maat_vote}
use Rattle.protocol_rules.specs.Wakes.{KeepsWakes}
use Rattle.protocol_rules.proofs.Belows.{greatest_le}
use Rattle.protocol_rules.proofs.Sound.{Sound, sound}
use Rattle.protocol_rules.proofs.Known.{Known, known}
use Rattle.protocol_rules.proofs.Traced.{Traced, traced}
use Rattle.protocol_rules.proofs.Rangeds.{waits_law, wakes_law}
use Rattle.protocol_rules.proofs.Maats.{ranging}
use Rattle.protocol_rules.proofs.Boundeds.{low_le}
use Rattle.row_store.specs.Stores.{version_at}
use Rattle.shelf.specs.Keeps.{KeepsRows, Apart}
use Rattle.shelf.specs.Shelves.{read_in}
use Rattle.shelf.proofs.Versions.{apart, reads_latest, version_is}
use Rattle.range_control.specs.declared.table.Table.{Table}
use Rattle.range_control.specs.Accesses.{past_over}
use Rattle.range_control.specs.Tables.{accesses_at, low_at}
use Rattle.range_control.specs.Changes.{Adds, Votes, EndsOne, past_version, bound_in, new_access, lower_for, upper_for}
use Rattle.range_control.specs.Standing.{state_of, Tracks, Stands}
use Rattle.range_control.proofs.Histories.{InRange, in_range, numbers_small, latest_top, least_most}
use Rattle.range_control.proofs.Holders.{past_is}
use Rattle.range_control.proofs.Lowering.{low_below, lower_is}
use Rattle.range_control.proofs.Uppering.{upper_same}
use Rattle.range_control.proofs.Asking.{ask_tracks}
use Rattle.range_control.proofs.Preparing.{vote_tracks}
use Rattle.range_control.proofs.Ending.{aborted_tracks, committed_tracks}
use Rattle.range_control.proofs.Answering.{past_is_of, bound_same}

cond_le : (m : ℕ) (b : Bool) (x : ℕ) → x ≤ m → cond b x 0 ≤ m
cond_le m true x l = l
cond_le m false x l = omega arith

module _ (span : ℕ) (t : Table) (loaded : Rows) (h : History) (stands : Stands span t loaded h) where
  pub wakes : KeepsWakes h
  wakes = wakes_law loaded (maat span loaded) (ranging span loaded) h stands.obeys

  pub sounds : Sound loaded h
  sounds = sound loaded (maat span loaded) h stands.obeys

  pub knows : Known loaded h
  knows = known loaded (maat span loaded) h stands.obeys

  pub traces : Traced h
  traces = traced loaded (maat span loaded) h stands.obeys wakes

  abbrev rows : KeepsRows false loaded t.shelf h
  rows = stands.tracks.kept

  votes : Apart (yeas h)
  votes = apart (maat span loaded) rows stands.obeys

  ranges : (y : Yea) → IsIn y (yeas h) → InRange y
  ranges y i = in_range span loaded h y stands.obeys i

  numbers : (d : Decided) → IsIn d (decided h) → d.number.n < 2 ^ 48
  numbers d i = numbers_small loaded (maat span loaded) h d stands.obeys i

  -- nothing waits
  pub nothing_waits : waits h ≡ []
  nothing_waits = nil (waits h) (waits_law loaded (maat span loaded) (ranging span loaded) h stands.obeys)
    where
      nil : (ws : List Asked) → ((a : Asked) → IsIn a ws → ⊥) → ws ≡ []
      nil [] f = refl
      nil (w ∷ ws) f = absurd (f w (inl refl))

  -- all numbers are small
  pub past_small : (key : Key) → past_over (accesses_at t.lines key) < 2 ^ 64
  past_small key =
      let a = greatest_le (past_committed h key) (2 ^ 63 + 1) (decided h) (λ d i. cond_le (2 ^ 63 + 1) (accessed h d.who key) (suc d.number.n) (omega (arith, numbers d i))) in
      let b = greatest_le (past_prepared h key) (2 ^ 63 + 1) (yeas h) (λ y i. cond_le (2 ^ 63 + 1) (not (has_ended h y.who) && accessed h y.who key) (suc y.hi) (omega (arith, (ranges y i).high))) in
      omega (arith, past_is loaded h (state_of t) stands.tracks sounds.one key, a, b)

  pub version_small : (key : Key) (row : Row) → loaded key ≡ Some row → past_version (version_at t.shelf.store key) < 2 ^ 64
  version_small key row e =
      let v = version_is (maat span loaded) rows stands.obeys key row e in
      let n : (latest loaded h key).number.n < 2 ^ 48 = ⊎_elim (λ l. omega (arith, ap (λ z. z.n) l.0)) (λ d. omega (arith, ap (λ z. z.n) d.2, numbers d.0 d.1)) (sounds.found key row e) in
      omega (arith, past_is_of (version_at t.shelf.store key) (latest loaded h key) v, n)

  pub low_small : (who : Attempt) (ws : List Keyed) (key : Key) → IsUnended h who → low_at t.lines who ws key < 2 ^ 64
  low_small who ws key u =
      let none : Bound = record { n = 0; key = key } in
      let a = low_below loaded h (state_of t) stands.tracks sounds.one traces.one who u ws key in
      let b = low_le loaded (maat span loaded) (ranging span loaded) (2 ^ 63) h stands.obeys (record { numbers = λ d i. omega (arith, numbers d i); uppers = λ y i. (ranges y i).high }) who none ws (omega arith) in
      omega (arith, a, b)

  -- what is granted
  pub grant_is : (who : Attempt) (stamp : ℕ) (key : Key) (mode : Mode) → MayAsk loaded h who stamp key → Granted (read_in mode (version_at t.shelf.store key)).0 (read_in mode (version_at t.shelf.store key)).1 (bound_in mode (version_at t.shelf.store key) (past_over (accesses_at t.lines key))) ≡ grant_latest loaded h key mode
  grant_is who stamp key mode may =
      let v = version_is (maat span loaded) rows stands.obeys key may.here.0 may.here.1 in
      let r = reads_latest (maat span loaded) rows stands.obeys key may.here.0 may.here.1 mode in
      let b = bound_same loaded h key mode (version_at t.shelf.store key) (past_over (accesses_at t.lines key)) v (past_is loaded h (state_of t) stands.tracks sounds.one key) in
      ap (λ (x : Row × Number). Granted x.0 x.1 (bound_in mode (version_at t.shelf.store key) (past_over (accesses_at t.lines key)))) r
      ∙ ap (λ n. Granted (seen mode (latest loaded h key)).row (seen mode (latest loaded h key)).number n) b

  pub grant_tracks : (who : Attempt) (stamp : ℕ) (key : Key) (mode : Mode) (bound : ℕ) (new : Table) → MayAsk loaded h who stamp key → Adds stamp key (new_access who mode (read_in mode (version_at t.shelf.store key)).1) t new → Tracks loaded (state_of new) (Ask who stamp key mode (Granted (read_in mode (version_at t.shelf.store key)).0 (read_in mode (version_at t.shelf.store key)).1 bound) ∷ h)
  grant_tracks who stamp key mode bound new may c =
      let r = ap (λ (x : Row × Number). x.1) (reads_latest (maat span loaded) rows stands.obeys key may.here.0 may.here.1 mode) in
      ask_tracks loaded h sounds who stamp key mode may (λ d i w. latest_top loaded (maat span loaded) h d key stands.obeys i w)
      (read_in mode (version_at t.shelf.store key)).0 (read_in mode (version_at t.shelf.store key)).1 bound r t new stands.tracks c

  module _ (who : Attempt) (bound : Bound) (writes appends : List Keyed) (may : MayPrepare h who bound writes appends) where
    upper_end_is : upper_for t who ≡ record { n = high h who; by = hi_by h who (high h who) }
    upper_end_is = upper_same loaded h (state_of t) stands.tracks sounds traces.one who may.unended ranges numbers

    pub upper_small : (upper_for t who).n ≤ 2 ^ 63
    upper_small = omega (arith, ap (λ u. u.n) upper_end_is, least_most (λ (g : Grant). least_by (under_prepared h who g) (yeas h)) (grants h))

    -- the vote
    pub vote_is : window_vote span (lower_for t who bound writes).key (upper_for t who).by (lower_for t who bound writes).n (upper_for t who).n ≡ maat_vote span h who bound writes
    vote_is =
        ap (λ l. window_vote span l.key (upper_for t who).by l.n (upper_for t who).n) (lower_is loaded h (state_of t) stands.tracks sounds.one traces.one who may.unended writes bound may.something)
        ∙ ap (λ u. window_vote span (lo_key h bound (low_of h who writes) (low h who bound writes)) u.by (low h who bound writes) u.n) upper_end_is

    pub prepare_tracks : (vote : Vote) (new : Table) → Votes vote who writes appends t new → Tracks loaded (state_of new) (Prepare who bound writes appends vote ∷ h)
    prepare_tracks vote new c = vote_tracks loaded h sounds who bound writes appends may vote t new stands.tracks c

  pub commit_tracks : (who : Attempt) (number : Number) (new : Table) → MayCommit h who number → EndsOne who (Some number) t new → Tracks loaded (state_of new) (Commit who number [] ∷ h)
  commit_tracks who number new may c = committed_tracks loaded h knows sounds votes who number may t new stands.tracks c

  pub abort_tracks : (who : Attempt) (new : Table) → MayAbort h who → EndsOne who None t new → Tracks loaded (state_of new) (Abort who [] ∷ h)
  abort_tracks who new may c = aborted_tracks loaded h knows sounds votes who t new may stands.tracks c
