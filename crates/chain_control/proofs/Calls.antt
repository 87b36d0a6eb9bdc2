-- The calls of a table that stands for a history.
use Rattle.std.proofs.Common.{◌≡◌, ℕ, ◌≤◌, List, [], ◌∷◌, ◌++◌, map, filter, length, Bool, true, false, not, ◌&&◌, cond, ltb, refl, sym, ap, ap₂, ◌∙◌, subst, inl, inr, arith, Option, Some, None, option_map}
use Rattle.deneva_base.specs.declared.keys.Key.{Key}
use Rattle.deneva_base.specs.declared.keys.Mode.{Mode}
use Rattle.deneva_base.specs.declared.numbers.Attempt.{Attempt}
use Rattle.deneva_base.specs.declared.numbers.Number.{Number}
use Rattle.deneva_base.specs.declared.rows.Cell.{Cell}
use Rattle.deneva_base.specs.declared.answers.Wake.{Wake}
use Rattle.deneva_base.specs.Lists.{IsIn, sort}
use Rattle.deneva_base.specs.Rows.{Row, Rows}
use Rattle.deneva_base.specs.Keys.{number_lt}
use Rattle.deneva_base.specs.Modes.{IsReading}
use Rattle.protocol_rules.specs.Conditions.{MayCommit, MayAbort}
use Rattle.protocol_rules.specs.History.{Commit, Abort, History, Asked, grants, waits, yeas, grant_of_wake, is_woken}
use Rattle.protocol_rules.specs.Latest.{Version, latest, newer, seen, row_for, writes_in}
use Rattle.protocol_rules.specs.Order.{by_rising_stamp}
use Rattle.protocol_rules.specs.Versions.{version_of as version_list, written, start, greatest, below}
use Rattle.protocol_rules.specs.Waiting.{goes, wake_of}
use Rattle.protocol_rules.specs.Mvcc.{writer_between, mvcc}
use Rattle.protocol_rules.specs.Wakes.{KeepsWakes}
use Rattle.deneva_base.proofs.Membership.{filter_in, reading_decides}
use Rattle.protocol_rules.proofs.Sound.{Sound, sound}
use Rattle.protocol_rules.proofs.Known.{Known, known, known_more}
use Rattle.protocol_rules.proofs.Traced.{Traced, traced}
use Rattle.protocol_rules.proofs.Sorts.{Distinct, sort_in}
use Rattle.protocol_rules.proofs.Wakes.{distinct_waits}
use Rattle.protocol_rules.proofs.Mvccs.{stamping}
use Rattle.protocol_rules.proofs.Stamping.{wakes_law, waits_law, commit_keys, abort_keys}
use Rattle.row_store.specs.declared.versions.Version.{Version as StoredVersion}
use Rattle.row_store.specs.Stores.{version_at}
use Rattle.control_core.specs.Leaving.{last}
use Rattle.chain_control.specs.declared.requests.Waiter.{Waiter}
use Rattle.chain_control.specs.declared.links.ReadVersion.{ReadVersion}
use Rattle.chain_control.specs.declared.table.Table.{Table}
use Rattle.chain_control.specs.Requests.{raised}
use Rattle.chain_control.specs.Links.{link_below}
use Rattle.chain_control.specs.Chains.{Chain}
use Rattle.chain_control.specs.Tables.{chain_at, below_in, kept_in, new_of, goers_over}
use Rattle.shelf.specs.Shelves.{held}
use Rattle.shelf.specs.Keeps.{Apart, version_of}
use Rattle.shelf.proofs.Closing.{waits_same, commit_closes, abort_closes}
use Rattle.shelf.proofs.Keeps.{committed_rows, aborted_rows}
use Rattle.shelf.proofs.Versions.{apart, version_is}
use Rattle.chain_control.specs.Changes.{EndsAndWakes, opened_with, read_after, wake_for}
use Rattle.chain_control.specs.Kept.{kept}
use Rattle.chain_control.specs.Standing.{requests_in, links_in, link_of, waiter_of, Stands}
use Rattle.chain_control.proofs.Bests.{waiter_keeps, best_is}
use Rattle.chain_control.proofs.Keeping.{opened_some}
use Rattle.std.proofs.lemmas.List.{length-map}
use Rattle.shelf.proofs.Counting.{length_filter, length_sort}
use Rattle.chain_control.proofs.Waking.{to_waiter}
use Rattle.chain_control.proofs.Closing.{Step, front_table, end_tracks, end_keeps}

-- the version below a stamp with a row that comes under a number
module _ (loaded : Rows) (h : History) (k : Key) (stamp : ℕ) where
  abbrev old : Version
  old = below loaded h k stamp

  abbrev with_row : Number → Option Row → Version
  with_row n r = greatest (start loaded k) (filter (λ (v : Version). ltb v.number.n stamp) (version_list n r ++ written h k))

  raises_is : (n : Number) (r : Option Row) → (with_row n r).number ≡ raised (new_of (Some n) r) stamp (below loaded h k stamp).number
  raises_is n None = refl
  raises_is n (Some row) = go (ltb n.n stamp) (number_lt (below loaded h k stamp).number n)
    where
      go : (a b : Bool) → (greatest (start loaded k) (cond a (record { number = n; row = row } ∷ filter (λ (v : Version). ltb v.number.n stamp) (written h k)) (filter (λ (v : Version). ltb v.number.n stamp) (written h k)))).number ≡ cond (a && number_lt (below loaded h k stamp).number n) n (below loaded h k stamp).number
      go false b = refl
      go true b = pick (number_lt (below loaded h k stamp).number n)
        where
          pick : (b : Bool) → (cond b (record { number = n; row = row }) (below loaded h k stamp)).number ≡ cond b n (below loaded h k stamp).number
          pick true = refl
          pick false = refl

  reads_is : (n : Number) (r : Option Row) → read_after (Some n) r stamp (Some (link_of h k (below loaded h k stamp))) ≡ ((with_row n r).row, (with_row n r).number)
  reads_is n None = refl
  reads_is n (Some row) = go (ltb n.n stamp)
    where
      go : (a : Bool) → cond {A = List Cell × Number} (a && number_lt (below loaded h k stamp).number n) (row, n) ((below loaded h k stamp).row, (below loaded h k stamp).number) ≡ ((greatest (start loaded k) (cond a (record { number = n; row = row } ∷ filter (λ (v : Version). ltb v.number.n stamp) (written h k)) (filter (λ (v : Version). ltb v.number.n stamp) (written h k)))).row, (greatest (start loaded k) (cond a (record { number = n; row = row } ∷ filter (λ (v : Version). ltb v.number.n stamp) (written h k)) (filter (λ (v : Version). ltb v.number.n stamp) (written h k)))).number)
      go false = refl
      go true = pick (number_lt (below loaded h k stamp).number n)
        where
          pick : (b : Bool) → cond {A = List Cell × Number} b (row, n) ((below loaded h k stamp).row, (below loaded h k stamp).number) ≡ ((cond b (record { number = n; row = row }) (below loaded h k stamp)).row, (cond b (record { number = n; row = row }) (below loaded h k stamp)).number)
          pick true = refl
          pick false = refl

  aborted_is : (r : Option Row) → (below loaded h k stamp).number ≡ raised (new_of None r) stamp (below loaded h k stamp).number
  aborted_is None = refl
  aborted_is (Some row) = refl

map_wakes : (f : Waiter → Wake) (g : Asked → Wake) (w : Asked → Waiter) (xs : List Asked) → ((a : Asked) → IsIn a xs → f (w a) ≡ g a) → map f (map w xs) ≡ map g xs
map_wakes f g w [] e = refl
map_wakes f g w (x ∷ xs) e = ap₂ (λ a l. a ∷ l) (e x (inl refl)) (map_wakes f g w xs (λ a i. e a (inr i)))

module _ (keep : ℕ) (t : Table) (loaded : Rows) (h : History) (stands : Stands keep t loaded h) where
  pub wakes : KeepsWakes h
  wakes = wakes_law true loaded (mvcc keep loaded) (stamping keep loaded) h stands.obeys

  pub sounds : Sound loaded h
  sounds = sound loaded (mvcc keep loaded) h stands.obeys

  pub knows : Known loaded h
  knows = known loaded (mvcc keep loaded) h stands.obeys

  pub traces : Traced h
  traces = traced loaded (mvcc keep loaded) h stands.obeys wakes

  votes : Apart (yeas h)
  votes = apart (mvcc keep loaded) stands.tracks.kept stands.obeys

  distinct : Distinct (waits h)
  distinct = distinct_waits loaded (mvcc keep loaded) h stands.obeys

  reading : (a : Asked) → IsIn a (waits h) → IsReading a.mode
  reading a i = (waits_law true loaded (mvcc keep loaded) (stamping keep loaded) h stands.obeys a i).0

  -- how many versions are kept
  pub kept_are : (key : Key) (row : Row) → loaded key ≡ Some row → kept_in (chain_at t.lines key) ≡ length (kept keep loaded h key)
  kept_are key row e =
      go (version_at t.shelf.store key) (chain_at t.lines key) (version_is (mvcc keep loaded) stands.tracks.kept stands.obeys key row e)
      ∙ ap (λ (l : List ReadVersion). length l) (stands.keeps.links key row e)
      ∙ length-map (kept keep loaded h key) (link_of h key)
    where
      go : (v : Option StoredVersion) (c : Option Chain) → option_map version_of v ≡ Some (latest loaded h key) → kept_in c ≡ length (links_in (opened_with v c))
      go None c e = absurd (cc e)
      go (Some v) None e = refl
      go (Some v) (Some c) e = refl

  -- the end of an attempt
  module _ (h1 h2 : History) (who : Attempt) (number : Option Number) (p : Step keep loaded h h1 h2 who number)
      (reads_after : (k : Key) (stamp : ℕ) → read_after number (row_for k (writes_in (yeas h) who)) stamp (Some (link_of h k (below loaded h k stamp))) ≡ ((below loaded h1 k stamp).row, (below loaded h1 k stamp).number)) where
    abbrev front : List Waiter
    front = goers_over who number (held t.shelf who).writes t.lines (held t.shelf who).keys

    abbrev woken : List Asked
    woken = sort by_rising_stamp (filter (goes (writer_between loaded h1) h h1 who) (waits h))

    front_is : goers_over who number (held t.shelf who).writes t.lines (held t.shelf who).keys ≡ map (to_waiter loaded h1) (sort by_rising_stamp (filter (goes (writer_between loaded h1) h h1 who) (waits h)))
    front_is = front_table keep loaded h h1 h2 who number stands.obeys knows sounds votes distinct reading p t t stands.tracks stands.keeps

    pub few : length (goers_over who number (held t.shelf who).writes t.lines (held t.shelf who).keys) ≤ t.waiting
    few =
        let e = ap (λ (l : List Waiter). length l) front_is in
        let m = length-map woken (to_waiter loaded h1) in
        let s = length_sort by_rising_stamp (filter (goes (writer_between loaded h1) h h1 who) (waits h)) in
        let f = length_filter (goes (writer_between loaded h1) h h1 who) (waits h) in
        omega (arith, e, m, s, f, stands.tracks.waiting)

    pub wakes_are : map (wake_for t.lines number (held t.shelf who).writes) (goers_over who number (held t.shelf who).writes t.lines (held t.shelf who).keys) ≡ map (wake_of loaded h1) (sort by_rising_stamp (filter (goes (writer_between loaded h1) h h1 who) (waits h)))
    wakes_are = ap (map (wake_for t.lines number (held t.shelf who).writes)) front_is ∙ map_wakes (wake_for t.lines number (held t.shelf who).writes) (wake_of loaded h1) (to_waiter loaded h1) woken each
      where
        found : (a : Asked) → IsIn a (waits h) → (c : Option Chain) → chain_at t.lines a.key ≡ c → below_in a.stamp (chain_at t.lines a.key) ≡ Some (link_of h a.key (below loaded h a.key a.stamp))
        found a i None e = absurd (subst (λ y. IsIn (waiter_of loaded h a) (requests_in y)) e (stands.tracks.queued a i))
        found a i (Some c) e =
            let row = knows.here a (knows.asked a i) in
            let opened : opened_with (version_at t.shelf.store a.key) (chain_at t.lines a.key) ≡ Some c = ap (opened_with (version_at t.shelf.store a.key)) e ∙ opened_some (version_at t.shelf.store a.key) c in
            ap (below_in a.stamp) e
            ∙ ap (link_below a.stamp None) (sym (ap links_in opened) ∙ stands.keeps.links a.key row.0 row.1)
            ∙ best_is keep loaded h stands.obeys a.key a.stamp (knows.positive a (knows.asked a i)) (waiter_keeps keep loaded h stands.obeys a.key a i refl)

        seen_is : (m : Mode) (v : Version) → IsReading m → seen m v ≡ v
        seen_is m v r = ap (λ b. cond b v (record { number = record { n = 0; id = record { 0 = 0 } }; row = [] })) ((reading_decides m).1 r)

        each : (a : Asked) → IsIn a woken → wake_for t.lines number (held t.shelf who).writes (to_waiter loaded h1 a) ≡ wake_of loaded h1 a
        each a i =
            let w : IsIn a (waits h) = (filter_in (goes (writer_between loaded h1) h h1 who) a (waits h) (sort_in by_rising_stamp a (filter (goes (writer_between loaded h1) h h1 who) (waits h)) i)).0 in
            let r : read_after number (row_for a.key (held t.shelf who).writes) a.stamp (below_in a.stamp (chain_at t.lines a.key)) ≡ ((below loaded h1 a.key a.stamp).row, (below loaded h1 a.key a.stamp).number) =
            ap₂ (λ ws b. read_after number (row_for a.key ws) a.stamp b) (stands.tracks.kept.rows who p.leaves.closes.unended).0 (found a w (chain_at t.lines a.key) refl) ∙ reads_after a.key a.stamp in
            ap (λ (x : List Cell × Number). record { who = a.who; key = a.key; row = x.0; version = x.1; bound = 0 }) r
            ∙ ap (λ (v : Version). record { who = a.who; key = a.key; row = v.row; version = v.number; bound = 0 }) (sym (seen_is a.mode (below loaded h1 a.key a.stamp) (reading a w)))

    pub end_stands : (new : Table) → EndsAndWakes keep who number (goers_over who number (held t.shelf who).writes t.lines (held t.shelf who).keys) t new → ((k : Key) → option_map version_of (version_at new.shelf.store k) ≡ last loaded h1 k) → Stands keep new loaded h2
    end_stands new e versions =
        let tracks = end_tracks keep loaded h h1 h2 who number stands.obeys knows sounds votes distinct reading p t new stands.tracks stands.keeps e versions in
        record { obeys = p.obeys; tracks = tracks; keeps = end_keeps keep loaded h h1 h2 who number stands.obeys knows sounds votes distinct reading p t new stands.tracks stands.keeps e tracks }

  -- a commit
  module _ (who : Attempt) (number : Number) (may : MayCommit h who number) where
    abbrev h1 : History
    h1 = Commit who number [] ∷ h

    commit_step : Step keep loaded h (Commit who number [] ∷ h) (Commit who number ((mvcc keep loaded).commit h who number) ∷ h) who (Some number)
    commit_step = record {
      leaves = record { closes = commit_closes knows sounds may; raises = λ k stamp. raises_is loaded h k stamp number (row_for k (writes_in (yeas h) who)) };
      obeys = (may, refl, stands.obeys);
      known1 = known_more loaded h (Commit who number []) may sounds knows;
      law = λ a i n. commit_keys true loaded (mvcc keep loaded) (stamping keep loaded) h who number a stands.obeys i n;
      wakens = record {
        grants_more = ap (λ l. map (grant_of_wake h) (map (wake_of loaded h1) (sort by_rising_stamp (filter (goes (writer_between loaded h1) h h1 who) l))) ++ grants h) (sym (waits_same (waits h)));
        waits_less = ap (λ l. filter (λ a. not (is_woken (map (wake_of loaded h1) (sort by_rising_stamp (filter (goes (writer_between loaded h1) h h1 who) l))) a)) l) (sym (waits_same (waits h)));
        ended_same = refl;
        yeas_same = refl;
        last_same = λ k. refl;
      };
      below_same = λ k stamp. refl;
      written_more = λ k. refl;
      waits_less = refl;
      grants_more = refl;
      latest_same = λ k e. ap (newer (latest loaded h k) number) e;
    }

    pub commit_few : length (goers_over who (Some number) (held t.shelf who).writes t.lines (held t.shelf who).keys) ≤ t.waiting
    commit_few = few (Commit who number [] ∷ h) (Commit who number ((mvcc keep loaded).commit h who number) ∷ h) who (Some number) commit_step (λ k stamp. reads_is loaded h k stamp number (row_for k (writes_in (yeas h) who)))

    pub commit_wakes : map (wake_for t.lines (Some number) (held t.shelf who).writes) (goers_over who (Some number) (held t.shelf who).writes t.lines (held t.shelf who).keys) ≡ (mvcc keep loaded).commit h who number
    commit_wakes = wakes_are (Commit who number [] ∷ h) (Commit who number ((mvcc keep loaded).commit h who number) ∷ h) who (Some number) commit_step (λ k stamp. reads_is loaded h k stamp number (row_for k (writes_in (yeas h) who)))

    pub commit_stands : (new : Table) → EndsAndWakes keep who (Some number) (goers_over who (Some number) (held t.shelf who).writes t.lines (held t.shelf who).keys) t new → Stands keep new loaded (Commit who number ((mvcc keep loaded).commit h who number) ∷ h)
    commit_stands new e =
        end_stands (Commit who number [] ∷ h) (Commit who number ((mvcc keep loaded).commit h who number) ∷ h) who (Some number) commit_step (λ k stamp. reads_is loaded h k stamp number (row_for k (writes_in (yeas h) who))) new e
        (committed_rows stands.tracks.kept may.unended e.shelf)

  -- an abort
  module _ (who : Attempt) (may : MayAbort h who) where
    abbrev g1 : History
    g1 = Abort who [] ∷ h

    abort_step : Step keep loaded h (Abort who [] ∷ h) (Abort who ((mvcc keep loaded).abort h who) ∷ h) who None
    abort_step = record {
      leaves = record { closes = abort_closes may; raises = λ k stamp. aborted_is loaded h k stamp (row_for k (writes_in (yeas h) who)) };
      obeys = (may, refl, stands.obeys);
      known1 = known_more loaded h (Abort who []) may sounds knows;
      law = λ a i n. abort_keys true loaded (mvcc keep loaded) (stamping keep loaded) h who a stands.obeys i n;
      wakens = record {
        grants_more = ap (λ l. map (grant_of_wake h) (map (wake_of loaded g1) (sort by_rising_stamp (filter (goes (writer_between loaded g1) h g1 who) l))) ++ grants h) (sym (waits_same (waits h)));
        waits_less = ap (λ l. filter (λ a. not (is_woken (map (wake_of loaded g1) (sort by_rising_stamp (filter (goes (writer_between loaded g1) h g1 who) l))) a)) l) (sym (waits_same (waits h)));
        ended_same = refl;
        yeas_same = refl;
        last_same = λ k. refl;
      };
      below_same = λ k stamp. refl;
      written_more = λ k. refl;
      waits_less = refl;
      grants_more = refl;
      latest_same = λ k e. refl;
    }

    pub abort_few : length (goers_over who None (held t.shelf who).writes t.lines (held t.shelf who).keys) ≤ t.waiting
    abort_few = few (Abort who [] ∷ h) (Abort who ((mvcc keep loaded).abort h who) ∷ h) who None abort_step (λ k stamp. refl)

    pub abort_wakes : map (wake_for t.lines None (held t.shelf who).writes) (goers_over who None (held t.shelf who).writes t.lines (held t.shelf who).keys) ≡ (mvcc keep loaded).abort h who
    abort_wakes = wakes_are (Abort who [] ∷ h) (Abort who ((mvcc keep loaded).abort h who) ∷ h) who None abort_step (λ k stamp. refl)

    pub abort_stands : (new : Table) → EndsAndWakes keep who None (goers_over who None (held t.shelf who).writes t.lines (held t.shelf who).keys) t new → Stands keep new loaded (Abort who ((mvcc keep loaded).abort h who) ∷ h)
    abort_stands new e = end_stands (Abort who [] ∷ h) (Abort who ((mvcc keep loaded).abort h who) ∷ h) who None abort_step (λ k stamp. refl) new e (aborted_rows stands.tracks.kept e.shelf)
