-- The calls of a table that stands for a history.
use Rattle.std.proofs.Common.{◌≡◌, ◌≢◌, ℕ, ◌^◌, ◌<◌, ◌≤◌, ltb, List, [], ◌∷◌, ◌++◌, map, filter, Bool, true, false, not, ◌&&◌, cond, length, refl, sym, ap, ap₂, ◌∙◌, subst, inl, inr, arith, Option, Some, None, option_map}
use Rattle.std.proofs.lemmas.Bool.{ltb-false}
use Rattle.std.specs.List.{list_any}
use Rattle.deneva_base.specs.declared.keys.Key.{Key}
use Rattle.deneva_base.specs.declared.keys.Mode.{Mode}
use Rattle.deneva_base.specs.declared.keys.Mode.TheVariants.{Read, Update, Put}
use Rattle.deneva_base.specs.declared.numbers.Attempt.{Attempt}
use Rattle.deneva_base.specs.declared.numbers.Number.{Number}
use Rattle.deneva_base.specs.declared.rows.Keyed.{Keyed}
use Rattle.deneva_base.specs.declared.causes.Bound.{Bound}
use Rattle.deneva_base.specs.declared.causes.Cause.{Cause}
use Rattle.deneva_base.specs.declared.causes.Cause.TheVariants.{Written, ReadLater}
use Rattle.deneva_base.specs.declared.answers.Answer.{Answer}
use Rattle.deneva_base.specs.declared.answers.Answer.TheVariants.{Granted, Waits, Refused}
use Rattle.deneva_base.specs.declared.answers.Vote.TheVariants.{Yes}
use Rattle.deneva_base.specs.declared.answers.Wake.{Wake}
use Rattle.protocol_rules.specs.Conditions.{MayAsk, MayPrepare, MayCommit, MayAbort, Distinct}
use Rattle.protocol_rules.specs.History.{Ask, Commit, Abort, History, Asked, waits, yeas, is_woken, IsUnended}
use Rattle.deneva_base.specs.Keys.{loaded_version}
use Rattle.protocol_rules.specs.Latest.{Version, latest, row_for, seen, writes_in}
use Rattle.deneva_base.specs.Lists.{IsIn, sort}
use Rattle.deneva_base.specs.Modes.{reads, writes, IsReading}
use Rattle.protocol_rules.specs.Order.{by_rising_stamp}
use Rattle.deneva_base.specs.Rows.{Row, Rows}
use Rattle.protocol_rules.specs.Timestamp.{timestamp, top_written, top_read}
use Rattle.protocol_rules.specs.Versions.{version_of as written_as, written, start, greatest, below}
use Rattle.protocol_rules.specs.Waiting.{this, holders, holds, older_writer, granted_with, wake_of, goes, wakes}
use Rattle.protocol_rules.specs.Wakes.{KeepsWakes}
use Rattle.protocol_rules.proofs.Belows.{Listed, listed}
use Rattle.protocol_rules.proofs.Known.{Known, known, known_more}
use Rattle.protocol_rules.proofs.Marks.{Marked, marked}
use Rattle.protocol_rules.proofs.Sorts.{Distinct as DistinctAccesses, sort_in}
use Rattle.protocol_rules.proofs.Sound.{Sound, sound, writes_found}
use Rattle.protocol_rules.proofs.Stamping.{wakes_law, waits_law, commit_keys, abort_keys}
use Rattle.protocol_rules.proofs.Timestamps.{stamping}
use Rattle.protocol_rules.proofs.Traced.{Traced, traced}
use Rattle.protocol_rules.proofs.Wakes.{distinct_waits}
use Rattle.deneva_base.proofs.Membership.{filter_in, writing_decides, reading_decides}
use Rattle.row_store.specs.declared.versions.Version.{Version as StoredVersion}
use Rattle.row_store.specs.Stores.{Seen, version_at, row_in}
use Rattle.control_core.specs.Leaving.{IsLoadedStore}
use Rattle.shelf.specs.Shelves.{read_in}
use Rattle.shelf.specs.Keeps.{KeepsRows, Apart, Closes}
use Rattle.shelf.proofs.Closing.{commit_closes, abort_closes}
use Rattle.shelf.proofs.Versions.{apart, version_is, reads_latest as latest_read}
use Rattle.stamp_lines.specs.declared.requests.Request.{Request}
use Rattle.stamp_lines.specs.declared.lines.Waiter.{Waiter}
use Rattle.stamp_lines.specs.Requests.{is_stopped}
use Rattle.stamp_lines.specs.Standing.{owner_of}
use Rattle.stamp_lines.specs.Tables.{requests_at, part_of}
use Rattle.stamp_lines.proofs.Asking.{none_here}
use Rattle.stamp_lines.proofs.Calls.{fresh_tracks as no_accesses, few_wait, vote_stamp}
use Rattle.stamp_lines.proofs.Waking.{to_waiter, Wakens}
use Rattle.stamp_control.specs.declared.table.Table.{Table}
use Rattle.stamp_control.specs.Picks.{pick}
use Rattle.stamp_control.specs.Pasts.{Kept, past_at}
use Rattle.stamp_control.specs.Fronts.{front_over}
use Rattle.stamp_control.specs.Changes.{written_in, refusal_in, writers_in, pick_after, version_or_empty, wake_for, IsFresh, Grants, LetsWait, Ends, Wakes, EndsAndWakes}
use Rattle.shelf.specs.Keeps.{version_of}
use Rattle.stamp_control.specs.Standing.{state_of, Tracks, Stands}
use Rattle.stamp_control.proofs.Asking.{granted_tracks, waits_tracks, refused_tracks, reads_latest}
use Rattle.stamp_control.proofs.Counting.{writers_one_less}
use Rattle.stamp_control.proofs.Ending.{Leaves, end_tracks, commit_leaves, abort_leaves, offered_below, below_more}
use Rattle.stamp_control.proofs.Histories.{top_is, votes_distinct, writes_distinct}
use Rattle.stamp_control.proofs.Letting.{is_stopped_by, front_table, few_woken}
use Rattle.stamp_control.proofs.Waking.{Keeps, woken_tracks, trimmed_tracks}

some_is : {A : Type 0} (x y : A) → Some x ≡ Some y → x ≡ y
some_is {A} x y e = ap get e
  where
    get : Option A → A
    get None = x
    get (Some z) = z

seen_same : (mode : Mode) (a b : Version) → (reads mode ≡ true → a ≡ b) → seen mode a ≡ seen mode b
seen_same Read a b e = e refl
seen_same Update a b e = e refl
seen_same Put a b e = refl

picked_is : (o : Option StoredVersion) (b : Version) → option_map version_of o ≡ Some b → ((version_or_empty o).0 ≡ b.row) × ((version_or_empty o).1 ≡ b.number)
picked_is None b e = absurd (cc e)
picked_is (Some v) b e = let s = some_is (version_of v) b e in (ap (λ (x : Version). x.row) s, ap (λ (x : Version). x.number) s)

-- the two tests of a refusal
refusal_some : (stamp : ℕ) (key : Key) (mode : Mode) (written read : ℕ) (cause : Cause) (rest : Answer) → refusal_in stamp key mode written read ≡ Some cause → Refused cause ≡ cond (reads mode && ltb stamp written) (Refused (Written key written)) (cond (writes mode && ltb stamp read) (Refused (ReadLater key read)) rest)
refusal_some stamp key mode written read cause rest e = go (reads mode && ltb stamp written) (writes mode && ltb stamp read) e
  where
    go : (a b : Bool) → cond a (Some (Written key written)) (cond b (Some (ReadLater key read)) None) ≡ Some cause → Refused cause ≡ cond a (Refused (Written key written)) (cond b (Refused (ReadLater key read)) rest)
    go true b f = ap Refused (sym (some_is (Written key written) cause f))
    go false true f = ap Refused (sym (some_is (ReadLater key read) cause f))
    go false false f = absurd (cc f)

refusal_none : (stamp : ℕ) (key : Key) (mode : Mode) (written read : ℕ) (rest : Answer) → refusal_in stamp key mode written read ≡ None → (rest ≡ cond (reads mode && ltb stamp written) (Refused (Written key written)) (cond (writes mode && ltb stamp read) (Refused (ReadLater key read)) rest)) × ((reads mode && ltb stamp written) ≡ false)
refusal_none stamp key mode written read rest e = go (reads mode && ltb stamp written) (writes mode && ltb stamp read) e
  where
    go : (a b : Bool) → cond a (Some (Written key written)) (cond b (Some (ReadLater key read)) None) ≡ None → (rest ≡ cond a (Refused (Written key written)) (cond b (Refused (ReadLater key read)) rest)) × (a ≡ false)
    go true b f = absurd (cc f)
    go false true f = absurd (cc f)
    go false false f = (refl, refl)

map_same : (f : Waiter → Wake) (g : Asked → Wake) (xs : List Asked) → ((a : Asked) → IsIn a xs → f (to_waiter a) ≡ g a) → map f (map to_waiter xs) ≡ map g xs
map_same f g [] e = refl
map_same f g (x ∷ xs) e = ap₂ (λ a l. a ∷ l) (e x (inl refl)) (map_same f g xs (λ a i. e a (inr i)))

module _ (t : Table) (loaded : Rows) (h : History) (stands : Stands t loaded h) where
  pub wk : KeepsWakes h
  wk = wakes_law false loaded (timestamp loaded) (stamping loaded) h stands.obeys

  pub so : Sound loaded h
  so = sound loaded (timestamp loaded) h stands.obeys

  pub kn : Known loaded h
  kn = known loaded (timestamp loaded) h stands.obeys

  pub tr : Traced h
  tr = traced loaded (timestamp loaded) h stands.obeys wk

  pub mk : Marked h
  mk = marked loaded (timestamp loaded) (stamping loaded).vote h stands.obeys

  pub ls : Listed loaded h
  ls = listed loaded (timestamp loaded) h stands.obeys

  abbrev rows : KeepsRows true loaded t.accesses.shelf h
  rows = stands.tracks.accesses.kept

  votes : Apart (yeas h)
  votes = apart (timestamp loaded) rows stands.obeys

  distinct : DistinctAccesses (waits h)
  distinct = distinct_waits loaded (timestamp loaded) h stands.obeys

  -- each waiter reads
  waiter_reads : (a : Asked) → IsIn a (waits h) → IsReading a.mode
  waiter_reads a i = (waits_law false loaded (timestamp loaded) (stamping loaded) h stands.obeys a i).0

  -- the version of a loaded key
  version_here : (key : Key) (row : Row) → loaded key ≡ Some row → option_map version_of (version_at t.accesses.shelf.store key) ≡ Some (latest loaded h key)
  version_here key row e = version_is (timestamp loaded) rows stands.obeys key row e

  written_is : (key : Key) (row : Row) → loaded key ≡ Some row → written_in (version_at t.accesses.shelf.store key) ≡ top_written h key
  written_is key row e = go (version_at t.accesses.shelf.store key) (version_here key row e) ∙ top_is loaded h key
    where
      go : (v : Option StoredVersion) → option_map version_of v ≡ Some (latest loaded h key) → written_in v ≡ (latest loaded h key).number.n
      go None f = absurd (cc f)
      go (Some v) f = ap (λ (x : Version). x.number.n) (some_is (version_of v) (latest loaded h key) f)

  module _ (who : Attempt) (stamp : ℕ) (key : Key) (mode : Mode) (may : MayAsk loaded h who stamp key) where
    abbrev refusal : ℕ → ℕ → Option Cause
    refusal written read = refusal_in stamp key mode written read

    abbrev rest : Answer
    rest = cond (reads mode && list_any (older_writer (this who stamp key mode)) (holders h)) Waits (granted_with (seen mode (below loaded h key stamp)))

    same_refusal : refusal_in stamp key mode (written_in (version_at t.accesses.shelf.store key)) (past_at t.pasts key).read ≡ refusal_in stamp key mode (top_written h key) (top_read h key)
    same_refusal = ap₂ (refusal_in stamp key mode) (written_is key may.here.0 may.here.1) (stands.tracks.read key)

    pub once : (r : Request) → IsIn r (requests_at t.accesses key) → r.who ≢ who
    once r i = none_here loaded h kn tr who stamp key mode may (state_of t).accesses stands.tracks.accesses r i

    pub few : t.accesses.waiting < 2 ^ 63
    few = few_wait loaded h (state_of t).accesses stands.tracks.accesses who stamp key may

    pub refused_is : (cause : Cause) → refusal_in stamp key mode (written_in (version_at t.accesses.shelf.store key)) (past_at t.pasts key).read ≡ Some cause → Refused cause ≡ (timestamp loaded).ask h who stamp key mode
    refused_is cause e = refusal_some stamp key mode (top_written h key) (top_read h key) cause rest (sym same_refusal ∙ e)

    module _ (none : refusal_in stamp key mode (written_in (version_at t.accesses.shelf.store key)) (past_at t.pasts key).read ≡ None) where
      parts : (rest ≡ (timestamp loaded).ask h who stamp key mode) × ((reads mode && ltb stamp (top_written h key)) ≡ false)
      parts = refusal_none stamp key mode (top_written h key) (top_read h key) rest (sym same_refusal ∙ none)

      -- it does not come too late to read
      top : reads mode ≡ true → top_written h key ≤ stamp
      top r = ltb-false stamp (top_written h key) (ap (λ b. b && ltb stamp (top_written h key)) (sym r) ∙ parts.1)

      stopped : (reads mode && is_stopped 0 stamp (requests_at t.accesses key)) ≡ (reads mode && list_any (older_writer (this who stamp key mode)) (holders h))
      stopped = ap (λ b. reads mode && b) (sym (is_stopped_by loaded h kn tr (state_of t).accesses stands.tracks.accesses (this who stamp key mode)))

      pub wait_is : (reads mode && is_stopped 0 stamp (requests_at t.accesses key)) ≡ true → Waits ≡ (timestamp loaded).ask h who stamp key mode
      wait_is e = sym (ap (λ b. cond b Waits (granted_with (seen mode (below loaded h key stamp)))) (sym stopped ∙ e)) ∙ parts.0

      pub grant_is : (reads mode && is_stopped 0 stamp (requests_at t.accesses key)) ≡ false → Granted (read_in mode (version_at t.accesses.shelf.store key)).0 (read_in mode (version_at t.accesses.shelf.store key)).1 0 ≡ (timestamp loaded).ask h who stamp key mode
      grant_is e =
          let r = latest_read (timestamp loaded) rows stands.obeys key may.here.0 may.here.1 mode in
          let same = seen_same mode (latest loaded h key) (below loaded h key stamp) (λ x. sym (reads_latest loaded h kn so tr mk ls who stamp key mode may (top x))) in
          ap (λ (x : Row × Number). Granted x.0 x.1 0) (r ∙ ap (λ (v : Version). (v.row, v.number)) same)
          ∙ sym (ap (λ b. cond b Waits (granted_with (seen mode (below loaded h key stamp)))) (sym stopped ∙ e))
          ∙ parts.0

      pub wait_tracks : (new : Table) → (reads mode && is_stopped 0 stamp (requests_at t.accesses key)) ≡ true → LetsWait key (record { who = who; stamp = stamp; mode = mode; waits = false }) t new → Tracks loaded (state_of new) (Ask who stamp key mode Waits ∷ h)
      wait_tracks new e c = waits_tracks loaded h kn so tr mk ls who stamp key mode may t new stands.tracks (version_here key may.here.0 may.here.1) (top (first (reads mode) e)) c
        where
          first : (b : Bool) → (b && is_stopped 0 stamp (requests_at t.accesses key)) ≡ true → b ≡ true
          first true f = refl
          first false f = f

    pub grant_tracks : (new : Table) (row : Row) (version : Number) (bound : ℕ) → Grants key (record { who = who; stamp = stamp; mode = mode; waits = false }) t new → Tracks loaded (state_of new) (Ask who stamp key mode (Granted row version bound) ∷ h)
    grant_tracks new row version bound c = granted_tracks loaded h kn so tr mk ls who stamp key mode may t new row version bound stands.tracks c

    pub refuse_tracks : (cause : Cause) → Tracks loaded (state_of t) (Ask who stamp key mode (Refused cause) ∷ h)
    refuse_tracks cause = refused_tracks loaded h kn so tr mk ls who stamp key mode may (state_of t) cause stands.tracks

  pub vote_is : (who : Attempt) (bound : Bound) (writes' appends : List Keyed) → MayPrepare h who bound writes' appends → Yes (part_of t.accesses who).stamp (part_of t.accesses who).stamp ≡ (timestamp loaded).vote h who bound writes' appends
  vote_is who bound writes' appends may = ap (λ n. Yes n n) (vote_stamp loaded h (state_of t).accesses kn tr stands.tracks.accesses who bound writes' appends may)

  -- what the end of an attempt asks of the table
  module _ (who : Attempt) (unended : IsUnended h who) where
    -- the attempt holds what it is to write
    writer : (w : Keyed) → IsIn w (writes_in (yeas h) who) → (r : Request) × IsIn r (requests_at t.accesses w.key) × (r.who ≡ who) × (writes r.mode ≡ true) × ((row : Row) × (loaded w.key ≡ Some row))
    writer w i =
        let y = writes_found (yeas h) who w i in
        let g = so.holds y.0 w y.2 y.3 in
        let a = tr.asked g.0 g.1 in
        let row = kn.here a.0 a.1 in
        let mine : g.0.who ≡ who = g.2 ∙ y.1 in
        (owner_of g.0, subst (λ z. IsIn (owner_of g.0) (requests_at t.accesses z)) g.3 (stands.tracks.accesses.owned g.0 g.1 (subst (λ z. IsUnended h z) (sym mine) unended)), mine, (writing_decides g.0.mode).1 g.4, (row.0, subst (λ k. loaded k ≡ Some row.0) (a.3 ∙ g.3) row.1))

    written_distinct : Distinct (writes_in (yeas h) who)
    written_distinct = writes_distinct loaded (yeas h) who (votes_distinct loaded (timestamp loaded) h stands.obeys)

    pub copies_distinct : Distinct (part_of t.accesses who).copies
    copies_distinct = subst (λ l. Distinct l) (sym (stands.tracks.accesses.kept.rows who unended).1) written_distinct

    pub spare : (w : Keyed) → IsIn w (part_of t.accesses who).copies → 1 ≤ (past_at t.pasts w.key).spare
    spare w i =
        let r = writer w (subst (λ l. IsIn w l) (stands.tracks.accesses.kept.rows who unended).1 i) in
        let one = writers_one_less who r.0 (requests_at t.accesses w.key) r.1 r.2 r.3 in
        let room = stands.tracks.writers w.key in
        omega (arith, one, room)

    -- h1 is the history with the end, before it wakes anyone
    module _ (number : Option Number) (h1 : History) (c : Closes h h1 who) (others : (a : Asked) → IsIn a (waits h) → holds h who a.key ≡ false → list_any (older_writer a) (holders h1) ≡ true)
        (belows : (a : Asked) → IsIn a (waits h) → option_map version_of (pick_after number (row_for a.key (writes_in (yeas h) who)) a.stamp (pick a.stamp (past_at t.pasts a.key).versions)) ≡ Some (below loaded h1 a.key a.stamp)) where
      front_is : front_over who t.accesses (part_of t.accesses who).keys ≡ map to_waiter (sort by_rising_stamp (filter (goes older_writer h h1 who) (waits h)))
      front_is = front_table loaded h kn tr h1 who c distinct others t.accesses stands.tracks.accesses

      pub few_are : length (front_over who t.accesses (part_of t.accesses who).keys) ≤ t.accesses.waiting
      few_are = few_woken loaded h kn tr h1 who c distinct others t.accesses stands.tracks.accesses

      pub wakes_are : map (wake_for t.pasts number (part_of t.accesses who).writes) (front_over who t.accesses (part_of t.accesses who).keys) ≡ wakes loaded older_writer h h1 who
      wakes_are =
          ap (map (wake_for t.pasts number (part_of t.accesses who).writes)) front_is
          ∙ map_same (wake_for t.pasts number (part_of t.accesses who).writes) (wake_of loaded h1) (sort by_rising_stamp (filter (goes older_writer h h1 who) (waits h))) each
        where
          each : (a : Asked) → IsIn a (sort by_rising_stamp (filter (goes older_writer h h1 who) (waits h))) → wake_for t.pasts number (part_of t.accesses who).writes (to_waiter a) ≡ wake_of loaded h1 a
          each a i =
              let w = (filter_in (goes older_writer h h1 who) a (waits h) (sort_in by_rising_stamp a (filter (goes older_writer h h1 who) (waits h)) i)).0 in
              let mine = ap (row_for a.key) (stands.tracks.accesses.kept.rows who unended).0 in
              let now = ap (λ r. option_map version_of (pick_after number r a.stamp (pick a.stamp (past_at t.pasts a.key).versions))) mine ∙ belows a w in
              let p = picked_is (pick_after number (row_for a.key (part_of t.accesses who).writes) a.stamp (pick a.stamp (past_at t.pasts a.key).versions)) (below loaded h1 a.key a.stamp) now in
              let read = (reading_decides a.mode).1 (waiter_reads a w) in
              let saw = ap (λ b. cond b (below loaded h1 a.key a.stamp) (record { number = loaded_version; row = [] })) (sym read) in
              ap₂ (λ x y. record { who = a.who; key = a.key; row = x; version = y; bound = 0 }) (p.0 ∙ ap (λ (v : Version). v.row) saw) (p.1 ∙ ap (λ (v : Version). v.number) saw)

      -- the table with the end, and with its wakes
      pub ended_tracks : (make : List Wake → History) → Known loaded h1 → Wakens h1 (make (map (wake_of loaded h1) (sort by_rising_stamp (filter (goes older_writer h h1 who) (waits h1))))) (map (wake_of loaded h1) (sort by_rising_stamp (filter (goes older_writer h h1 who) (waits h1)))) → Keeps loaded h1 (make (map (wake_of loaded h1) (sort by_rising_stamp (filter (goes older_writer h h1 who) (waits h1))))) → ((new : Table) → Ends who number t new → Leaves loaded h h1 (state_of t) (state_of new)) → (new : Table) → EndsAndWakes who number (front_over who t.accesses (part_of t.accesses who).keys) t new → Tracks loaded (state_of new) (make (wakes loaded older_writer h h1 who))
      ended_tracks make known1 w keeps leaves new e =
          let all : List Wake = map (wake_of loaded h1) (sort by_rising_stamp (filter (goes older_writer h h1 who) (waits h1))) in
          let same : all ≡ wakes loaded older_writer h h1 who = ap (λ ws. map (wake_of loaded h1) (sort by_rising_stamp (filter (goes older_writer h h1 who) ws))) c.waits_same in
          let front = front_is ∙ ap (λ ws. map to_waiter (sort by_rising_stamp (filter (goes older_writer h h1 who) ws))) (sym c.waits_same) in
          let ended = end_tracks loaded h h1 who number votes c t e.ended e.ends (leaves e.ended e.ends) stands.tracks in
          let awake = woken_tracks loaded h1 (make all) known1 (goes older_writer h h1 who) w keeps e.ended e.awake (subst (λ (f : List Waiter). Wakes f e.ended e.awake) front e.wakes) ended in
          subst (λ ws. Tracks loaded (state_of new) (make ws)) same (trimmed_tracks loaded (make all) e.awake new e.trims awake)

  module _ (who : Attempt) (number : Number) (may : MayCommit h who number) where
    commit_closed : Closes h (Commit who number [] ∷ h) who
    commit_closed = commit_closes kn so may

    commit_others : (a : Asked) → IsIn a (waits h) → holds h who a.key ≡ false → list_any (older_writer a) (holders (Commit who number [] ∷ h)) ≡ true
    commit_others a i n = commit_keys false loaded (timestamp loaded) (stamping loaded) h who number a stands.obeys i n

    commit_belows : (a : Asked) → IsIn a (waits h) → option_map version_of (pick_after (Some number) (row_for a.key (writes_in (yeas h) who)) a.stamp (pick a.stamp (past_at t.pasts a.key).versions)) ≡ Some (below loaded (Commit who number [] ∷ h) a.key a.stamp)
    commit_belows a i = go (row_for a.key (writes_in (yeas h) who))
      where
        go : (r : Option Row) → option_map version_of (pick_after (Some number) r a.stamp (pick a.stamp (past_at t.pasts a.key).versions)) ≡ Some (greatest (start loaded a.key) (filter (λ (v : Version). ltb v.number.n a.stamp) (written_as number r ++ written h a.key)))
        go None = stands.tracks.waited a i
        go (Some row) =
            offered_below a.stamp (pick a.stamp (past_at t.pasts a.key).versions) (below loaded h a.key a.stamp) (record { number = number; row = row }) (stands.tracks.waited a i)
            ∙ ap Some (sym (below_more (start loaded a.key) a.stamp (record { number = number; row = row }) (written h a.key)))

    pub commit_few : length (front_over who t.accesses (part_of t.accesses who).keys) ≤ t.accesses.waiting
    commit_few = few_are who may.unended (Some number) (Commit who number [] ∷ h) commit_closed commit_others commit_belows

    pub commit_wakes : map (wake_for t.pasts (Some number) (part_of t.accesses who).writes) (front_over who t.accesses (part_of t.accesses who).keys) ≡ (timestamp loaded).commit h who number
    commit_wakes = wakes_are who may.unended (Some number) (Commit who number [] ∷ h) commit_closed commit_others commit_belows

    pub commit_tracks : (new : Table) → EndsAndWakes who (Some number) (front_over who t.accesses (part_of t.accesses who).keys) t new → Tracks loaded (state_of new) (Commit who number ((timestamp loaded).commit h who number) ∷ h)
    commit_tracks new e =
        let h1 : History = Commit who number [] ∷ h in
        let ws : List Wake = map (wake_of loaded h1) (sort by_rising_stamp (filter (goes older_writer h h1 who) (waits h1))) in
        ended_tracks who may.unended (Some number) h1 commit_closed commit_others commit_belows
        (λ woken. Commit who number woken ∷ h)
        (known_more loaded h (Commit who number []) may so kn)
        (record { grants_more = refl; waits_less = ap (filter (λ a. not (is_woken ws a))) (sym (commit_closed).waits_same); ended_same = refl; yeas_same = refl })
        (record { belows = λ k n. refl; latests = λ k. refl; lasts = λ k. refl })
        (λ x y. commit_leaves loaded h kn so tr mk ls votes who number (written_distinct who may.unended) may t x y stands.tracks)
        new e

  module _ (who : Attempt) (may : MayAbort h who) where
    abort_others : (a : Asked) → IsIn a (waits h) → holds h who a.key ≡ false → list_any (older_writer a) (holders (Abort who [] ∷ h)) ≡ true
    abort_others a i n = abort_keys false loaded (timestamp loaded) (stamping loaded) h who a stands.obeys i n

    pub abort_few : length (front_over who t.accesses (part_of t.accesses who).keys) ≤ t.accesses.waiting
    abort_few = few_are who may.unended None (Abort who [] ∷ h) (abort_closes may) abort_others stands.tracks.waited

    pub abort_wakes : map (wake_for t.pasts None (part_of t.accesses who).writes) (front_over who t.accesses (part_of t.accesses who).keys) ≡ (timestamp loaded).abort h who
    abort_wakes = wakes_are who may.unended None (Abort who [] ∷ h) (abort_closes may) abort_others stands.tracks.waited

    pub abort_tracks : (new : Table) → EndsAndWakes who None (front_over who t.accesses (part_of t.accesses who).keys) t new → Tracks loaded (state_of new) (Abort who ((timestamp loaded).abort h who) ∷ h)
    abort_tracks new e =
        let h1 : History = Abort who [] ∷ h in
        let ws : List Wake = map (wake_of loaded h1) (sort by_rising_stamp (filter (goes older_writer h h1 who) (waits h1))) in
        ended_tracks who may.unended None h1 (abort_closes may) abort_others stands.tracks.waited
        (λ woken. Abort who woken ∷ h)
        (known_more loaded h (Abort who []) may so kn)
        (record { grants_more = refl; waits_less = ap (filter (λ a. not (is_woken ws a))) (sym (abort_closes may).waits_same); ended_same = refl; yeas_same = refl })
        (record { belows = λ k n. refl; latests = λ k. refl; lasts = λ k. refl })
        (λ x y. abort_leaves loaded h votes who may t x y stands.tracks)
        new e

-- a table on which nothing was called
pub fresh_tracks : (store : Seen) (t : Table) → IsFresh store t → IsLoadedStore store → Tracks (row_in store) (state_of t) []
fresh_tracks store t f l = record {
  accesses = no_accesses store t.accesses f.accesses l;
  read = λ k. ap (λ (p : Kept). p.read) (f.pasts k);
  waited = λ a i. absurd i;
  kept = λ k v i. absurd (subst (λ (p : Kept). IsIn v p.versions) (f.pasts k) i);
  writers = λ k. subst (λ rs. writers_in rs ≤ (past_at t.pasts k).spare) (sym (f.accesses.lines k)) (omega arith);
  there = λ a i. absurd i;
}
