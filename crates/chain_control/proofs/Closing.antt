-- The table stands for the history with the end of an attempt, and with the wakes.
use Rattle.std.proofs.Common.{◌≡◌, ◌≢◌, ℕ, eqb, List, [], ◌∷◌, ◌++◌, map, filter, length, Bool, true, false, not, cond, refl, sym, ap, ◌∙◌, subst, ⊎_elim, arith, Option, Some, None, option_map, true≢false}
use Rattle.std.proofs.lemmas.Bool.{false_from_ne_true}
use Rattle.std.specs.List.{list_any}
use Rattle.deneva_base.specs.declared.keys.Key.{Key}
use Rattle.deneva_base.specs.declared.numbers.Attempt.{Attempt}
use Rattle.deneva_base.specs.declared.numbers.Number.{Number}
use Rattle.deneva_base.specs.declared.answers.Wake.{Wake}
use Rattle.deneva_base.specs.Lists.{IsIn, sort}
use Rattle.deneva_base.specs.Rows.{Row, Rows}
use Rattle.deneva_base.specs.Keys.{key_eq}
use Rattle.deneva_base.specs.Modes.{IsReading}
use Rattle.protocol_rules.specs.History.{History, Asked, grants, waits, yeas, grant_of_wake, is_woken}
use Rattle.protocol_rules.specs.Latest.{Version, latest, row_for, writes_in}
use Rattle.protocol_rules.specs.Order.{by_rising_stamp}
use Rattle.protocol_rules.specs.Rules.{Obeys}
use Rattle.protocol_rules.specs.Versions.{written, start, below}
use Rattle.protocol_rules.specs.Waiting.{holders, holds, goes, wake_of}
use Rattle.protocol_rules.specs.Mvcc.{nth_greatest, floor, writer_between, mvcc}
use Rattle.deneva_base.proofs.Membership.{in_map_from, filter_in, any_tells, key_decides}
use Rattle.protocol_rules.proofs.Sound.{Sound}
use Rattle.protocol_rules.proofs.Known.{Known}
use Rattle.protocol_rules.proofs.Sorts.{Distinct, sort_in}
use Rattle.protocol_rules.proofs.Woken.{woken_in, in_woken}
use Rattle.row_store.specs.declared.versions.Version.{Version as StoredVersion}
use Rattle.control_core.specs.Leaving.{last}
use Rattle.control_core.proofs.Lasts.{last_latest}
use Rattle.chain_control.specs.declared.requests.Waiter.{Waiter}
use Rattle.chain_control.specs.declared.links.ReadVersion.{ReadVersion}
use Rattle.chain_control.specs.declared.table.Table.{Table}
use Rattle.chain_control.specs.Requests.{has_request}
use Rattle.chain_control.specs.Links.{floor_of}
use Rattle.chain_control.specs.Chains.{Chain, without, unread, overwritten, stays, trimmed}
use Rattle.key_table.specs.Keys.{same_key}
use Rattle.key_table.specs.Tables.{changed}
use Rattle.chain_control.specs.Tables.{goers_over, key_of, waiter_key, wakes_at, trims_at}
use Rattle.shelf.specs.Shelves.{held}
use Rattle.chain_control.specs.Changes.{EndsAndWakes, opened_with}
use Rattle.chain_control.specs.Kept.{in_order, is_kept, kept}
use Rattle.chain_control.specs.Standing.{State, state_of, requests_in, links_in, floor_in, link_of, waiter_of, Tracks, Keeps}
use Rattle.row_store.specs.Stores.{version_at}
use Rattle.shelf.specs.Keeps.{Apart, version_of}
use Rattle.key_table.proofs.Places.{same_tells, changed_none}
use Rattle.chain_control.proofs.Lists.{map_same, map_both, filter_map}
use Rattle.chain_control.proofs.Keeping.{opened_some}
use Rattle.chain_control.proofs.Tabling.{changed_nothing, changed_once, end_row, granted_by, reads_by, wakes_is, wakes_nothing, wakes_requests, trims_requests}
use Rattle.chain_control.proofs.Ending.{Leaves, between, writer, ended_chain, ended_nothing, closed_tracks}
use Rattle.chain_control.proofs.Waking.{to_waiter, wake_tracks}
use Rattle.shelf.proofs.Resuming.{Wakens}
use Rattle.chain_control.proofs.Fronts.{from_goes, front_all}
use Rattle.chain_control.proofs.Marking.{reads_none, marks}
use Rattle.chain_control.proofs.Trimming.{news, kept_is, links_is, floor_is, same_floor, same_kept, stays_is}

-- the end of an attempt, before its wakes and with them
pub record Step (keep : ℕ) (loaded : Rows) (h h1 h2 : History) (who : Attempt) (number : Option Number) : Type 0 where
  pub leaves : Leaves loaded h h1 who number
  pub obeys : Obeys loaded (mvcc keep loaded) h2
  pub known1 : Known loaded h1
  pub law : (a : Asked) → IsIn a (waits h) → holds h who a.key ≡ false → list_any (writer_between loaded h1 a) (holders h1) ≡ true
  pub wakens : Wakens loaded h1 h2 (map (wake_of loaded h1) (sort by_rising_stamp (filter (goes (writer_between loaded h1) h h1 who) (waits h1))))
  pub below_same : (k : Key) (stamp : ℕ) → ◌≡◌ {A = Version} (below loaded h2 k stamp) (below loaded h1 k stamp)
  pub written_more : (k : Key) → ◌≡◌ {A = List Version} (written h2 k) (news number (row_for k (writes_in (yeas h) who)) ++ written h k)
  pub waits_less : waits h2 ≡ filter (λ a. not (is_woken (map (wake_of loaded h1) (sort by_rising_stamp (filter (goes (writer_between loaded h1) h h1 who) (waits h)))) a)) (waits h)
  pub grants_more : grants h2 ≡ map (grant_of_wake h) (map (wake_of loaded h1) (sort by_rising_stamp (filter (goes (writer_between loaded h1) h h1 who) (waits h)))) ++ grants h
  pub latest_same : (k : Key) → row_for k (writes_in (yeas h) who) ≡ None → latest loaded h2 k ≡ latest loaded h k

-- the one version of a key that nobody has asked for
abbrev from_version : Option Version → List ReadVersion
from_version None = []
from_version (Some v) = unread v.number v.row ∷ []

unopened : (v : Option StoredVersion) → links_in (opened_with v None) ≡ from_version (option_map version_of v)
unopened None = refl
unopened (Some v) = refl

no_floor : (v : Option StoredVersion) → floor_in (opened_with v None) ≡ 0
no_floor None = refl
no_floor (Some v) = refl

news_none : (number : Option Number) (row : Option Row) → row ≡ None → news number row ≡ []
news_none None row e = refl
news_none (Some n) row e = ap (news (Some n)) e

row_none : (keep : ℕ) (who : Attempt) (number : Option Number) (d : Chain) → end_row keep who number None d ≡ d
row_none keep who None d = refl
row_none keep who (Some n) d = refl

-- the versions after the row was written, and the floor
row_links : (keep : ℕ) (who : Attempt) (number : Option Number) (row : Option Row) (d : Chain) → ((r : Row) → row ≡ Some r → has_request who d.requests ≡ true) → (end_row keep who number row d).links ≡ d.links ++ map (λ v. unread v.number v.row) (news number row)
row_links keep who None row d f = nil d.links
  where
    nil : (xs : List ReadVersion) → xs ≡ xs ++ []
    nil [] = refl
    nil (x ∷ xs) = ap (λ l. x ∷ l) (nil xs)
row_links keep who (Some n) None d f = nil d.links
  where
    nil : (xs : List ReadVersion) → xs ≡ xs ++ []
    nil [] = refl
    nil (x ∷ xs) = ap (λ l. x ∷ l) (nil xs)
row_links keep who (Some n) (Some row) d f = ap (λ b. (cond b (overwritten keep who n row d) d).links) (f row refl)

row_floor : (keep : ℕ) (who : Attempt) (number : Option Number) (row : Option Row) (d : Chain) (m : ℕ) → ((r : Row) → row ≡ Some r → has_request who d.requests ≡ true)
    → (news number row ≡ [] → d.floor ≡ m) → floor_of keep (end_row keep who number row d).links ≡ m → (end_row keep who number row d).floor ≡ m
row_floor keep who None row d m f old is = old refl
row_floor keep who (Some n) None d m f old is = old refl
row_floor keep who (Some n) (Some row) d m f old is =
    ap (λ b. (cond b (overwritten keep who n row d) d).floor) (f row refl)
    ∙ ap (λ b. floor_of keep (cond b (overwritten keep who n row d) d).links) (sym (f row refl))
    ∙ is

module _ (keep : ℕ) (loaded : Rows) (h h1 h2 : History) (who : Attempt) (number : Option Number) (o : Obeys loaded (mvcc keep loaded) h) (known : Known loaded h) (sound : Sound loaded h) (apart : Apart (yeas h)) (distinct : Distinct (waits h)) (reading : (a : Asked) → IsIn a (waits h) → IsReading a.mode)
    (p : Step keep loaded h h1 h2 who number) (old new : Table) (t : Tracks loaded (state_of old) h) (kt : Keeps keep loaded (state_of old) h) where
  abbrev s : State
  s = state_of old

  abbrev s' : State
  s' = state_of new

  abbrev pub going : Asked → Bool
  going = goes (writer_between loaded h1) h h1 who

  abbrev woken : List Asked
  woken = sort by_rising_stamp (filter (goes (writer_between loaded h1) h h1 who) (waits h))

  abbrev wakes : List Wake
  wakes = map (wake_of loaded h1) (sort by_rising_stamp (filter (goes (writer_between loaded h1) h h1 who) (waits h)))

  abbrev pub front : List Waiter
  front = goers_over who number (held old.shelf who).writes old.lines (held old.shelf who).keys

  -- the table's front is the rule's
  pub front_table : goers_over who number (held old.shelf who).writes old.lines (held old.shelf who).keys ≡ map (to_waiter loaded h1) (sort by_rising_stamp (filter (goes (writer_between loaded h1) h h1 who) (waits h)))
  front_table = front_all keep loaded h h1 who number known distinct p.leaves p.law s t old.lines (held old.shelf who).writes (t.kept.rows who p.leaves.closes.unended).0 (λ k. refl)

  front_before : goers_over who number (held old.shelf who).writes old.lines (held old.shelf who).keys ≡ map (to_waiter loaded h1) (sort by_rising_stamp (filter (goes (writer_between loaded h1) h h1 who) (waits h1)))
  front_before = front_table ∙ ap (λ l. map (to_waiter loaded h1) (sort by_rising_stamp (filter (goes (writer_between loaded h1) h h1 who) l))) (sym p.leaves.closes.waits_same)

  less : (a : Asked) → IsIn a woken → IsIn a (waits h) × (going a ≡ true)
  less a i = filter_in (goes (writer_between loaded h1) h h1 who) a (waits h) (sort_in by_rising_stamp a (filter (goes (writer_between loaded h1) h h1 who) (waits h)) i)

  module _ (e : EndsAndWakes keep who number (goers_over who number (held old.shelf who).writes old.lines (held old.shelf who).keys) old new) where
    abbrev s1 : State
    s1 = between keep who number s s'

    pub end_tracks : ((k : Key) → option_map version_of (version_at new.shelf.store k) ≡ last loaded h1 k) → Tracks loaded (state_of new) h2
    end_tracks versions =
        wake_tracks loaded h1 h2 p.known1 (goes (writer_between loaded h1) h h1 who) p.wakens p.below_same s1 s'
        (closed_tracks keep loaded h h1 who number sound apart p.leaves (goers_over who number (held old.shelf who).writes old.lines (held old.shelf who).keys) old new t e versions)
        (λ k. ap requests_in (e.lines k) ∙ trims_requests (held s.shelf who).keys k (changed same_key waiter_key wakes_at (goers_over who number (held old.shelf who).writes old.lines (held old.shelf who).keys) k (s1.chains k)) ∙ wakes_requests (goers_over who number (held old.shelf who).writes old.lines (held old.shelf who).keys) k (s1.chains k) ∙ ap (λ f. map (granted_by f k) (requests_in (s1.chains k))) front_before)
        refl
        (let f = ap (λ (l : List Waiter). length l) front_before in omega (arith, e.waiting, f))

    module _ (t' : Tracks loaded (state_of new) h2) (k : Key) (row : Row) (is : loaded k ≡ Some row) where
      writes_here : Option Row
      writes_here = row_for k (writes_in (yeas h) who)

      abbrev k_front : List Waiter
      k_front = goers_over who number (held old.shelf who).writes old.lines (held old.shelf who).keys

      mark : (v : Version) → reads_by (goers_over who number (held old.shelf who).writes old.lines (held old.shelf who).keys) k (link_of h k v) ≡ link_of h2 k v
      mark v = ap (λ f. reads_by f k (link_of h k v)) front_table ∙ marks loaded h h1 h2 known woken (λ a i. (less a i).0) reading p.grants_more k v

      -- a key that is not touched
      module _ (none : row_for k (writes_in (yeas h) who) ≡ None) (quiet : (a : Asked) → IsIn a (waits h) → a.key ≡ k → is_woken wakes a ≡ false) where
        old_key : news number (row_for k (writes_in (yeas h) who)) ≡ []
        old_key = news_none number (row_for k (writes_in (yeas h) who)) none

        not_front : (w : Waiter) → IsIn w k_front → w.key ≢ k
        not_front w i same =
            let b = in_map_from (to_waiter loaded h1) w woken (subst (λ l. IsIn w l) front_table i) in
            true≢false (sym (in_woken (wake_of loaded h1) (λ a. refl) (λ a. refl) loaded h known woken (λ a j. (less a j).0) b.0 b.1) ∙ quiet b.0 (less b.0 b.1).0 (sym (ap (λ (z : Waiter). z.key) b.2) ∙ same))

        kept_same : kept keep loaded h2 k ≡ kept keep loaded h k
        kept_same = same_kept keep loaded h h2 who number wakes o p.obeys p.written_more p.waits_less k old_key quiet

        floor_same : floor keep loaded h2 k ≡ floor keep loaded h k
        floor_same = same_floor keep loaded h h2 who number wakes o p.obeys p.written_more p.waits_less k old_key quiet

        links_same : map (link_of h k) (kept keep loaded h k) ≡ map (link_of h2 k) (kept keep loaded h2 k)
        links_same =
            map_same (link_of h k) (link_of h2 k) (kept keep loaded h k) (λ v i. sym (reads_none k_front k (link_of h k v) not_front) ∙ mark v)
            ∙ ap (map (link_of h2 k)) (sym kept_same)

        -- nobody has asked for it
        pub unasked : s.chains k ≡ None → (links_in (opened_with (version_at s'.shelf.store k) (s'.chains k)) ≡ map (link_of h2 k) (kept keep loaded h2 k)) × (floor_in (opened_with (version_at s'.shelf.store k) (s'.chains k)) ≡ floor keep loaded h2 k)
        unasked nothing =
            let chain : s'.chains k ≡ None =
            e.lines k
            ∙ ap (λ x. changed same_key key_of trims_at (held s.shelf who).keys k (changed same_key waiter_key wakes_at k_front k x)) (ended_nothing keep loaded h h1 who number sound apart p.leaves s t k nothing)
            ∙ ap (changed same_key key_of trims_at (held s.shelf who).keys k) (wakes_nothing k_front k)
            ∙ changed_nothing key_of trims_at (held s.shelf who).keys k (λ x. refl) in
            let version : option_map version_of (version_at s'.shelf.store k) ≡ option_map version_of (version_at s.shelf.store k) =
            t'.kept.versions k ∙ last_latest loaded (mvcc keep loaded) h2 k row p.obeys is (t.kept.tables k row is) ∙ ap (λ v. Some v) (p.latest_same k none)
            ∙ sym (t.kept.versions k ∙ last_latest loaded (mvcc keep loaded) h k row o is (t.kept.tables k row is)) in (
              ap (λ c. links_in (opened_with (version_at s'.shelf.store k) c)) chain ∙ unopened (version_at s'.shelf.store k) ∙ ap from_version version ∙ sym (unopened (version_at s.shelf.store k))
                  ∙ ap (λ c. links_in (opened_with (version_at s.shelf.store k) c)) (sym nothing) ∙ kt.links k row is ∙ links_same,
              ap (λ c. floor_in (opened_with (version_at s'.shelf.store k) c)) chain ∙ no_floor (version_at s'.shelf.store k) ∙ sym (no_floor (version_at s.shelf.store k)) ∙ ap (λ c. floor_in (opened_with (version_at s.shelf.store k) c)) (sym nothing) ∙ kt.floor k row is ∙ sym floor_same,
            )

        -- the attempt has not
        pub untouched : (d : Chain) → s.chains k ≡ Some d → (IsIn k (held s.shelf who).keys → ⊥) → (links_in (opened_with (version_at s'.shelf.store k) (s'.chains k)) ≡ map (link_of h2 k) (kept keep loaded h2 k)) × (floor_in (opened_with (version_at s'.shelf.store k) (s'.chains k)) ≡ floor keep loaded h2 k)
        untouched d some out =
            let d2 : Chain = without who (end_row keep who number (row_for k (writes_in (yeas h) who)) d) in
            let d3 : Chain = record { requests = map (granted_by k_front k) d2.requests; links = map (reads_by k_front k) d2.links; floor = d2.floor } in
            let chain : s'.chains k ≡ Some d3 =
            e.lines k
            ∙ ap (λ x. changed same_key key_of trims_at (held s.shelf who).keys k (changed same_key waiter_key wakes_at k_front k x)) (ended_chain keep loaded h h1 who number sound apart p.leaves s t k d some)
            ∙ ap (changed same_key key_of trims_at (held s.shelf who).keys k) (wakes_is k_front k d2)
            ∙ changed_none same_key same_tells key_of trims_at (held s.shelf who).keys k (Some d3) (λ q i same. out (subst (λ z. IsIn z (held s.shelf who).keys) same i)) in
            let stay : end_row keep who number (row_for k (writes_in (yeas h) who)) d ≡ d = ap (λ r. end_row keep who number r d) none ∙ row_none keep who number d in
            let opened : opened_with (version_at s.shelf.store k) (s.chains k) ≡ Some d = ap (opened_with (version_at s.shelf.store k)) some ∙ opened_some (version_at s.shelf.store k) d in
            let links : d.links ≡ map (link_of h k) (kept keep loaded h k) = sym (ap links_in opened) ∙ kt.links k row is in (
              ap links_in (ap (opened_with (version_at s'.shelf.store k)) chain ∙ opened_some (version_at s'.shelf.store k) d3)
                  ∙ ap (λ (c : Chain). map (reads_by k_front k) c.links) stay
                  ∙ ap (map (reads_by k_front k)) links
                  ∙ map_both (reads_by k_front k) (link_of h k) (link_of h2 k) (kept keep loaded h k) (λ v i. mark v)
                  ∙ ap (map (link_of h2 k)) (sym kept_same),
              ap floor_in (ap (opened_with (version_at s'.shelf.store k)) chain ∙ opened_some (version_at s'.shelf.store k) d3) ∙ ap (λ (c : Chain). c.floor) stay ∙ sym (ap floor_in opened) ∙ kt.floor k row is ∙ sym floor_same,
            )

      -- the attempt has asked for it
      pub touched : (d : Chain) → s.chains k ≡ Some d → IsIn k (held s.shelf who).keys → (links_in (opened_with (version_at s'.shelf.store k) (s'.chains k)) ≡ map (link_of h2 k) (kept keep loaded h2 k)) × (floor_in (opened_with (version_at s'.shelf.store k) (s'.chains k)) ≡ floor keep loaded h2 k)
      touched d some at =
          let d1 : Chain = end_row keep who number (row_for k (writes_in (yeas h) who)) d in
          let d2 : Chain = without who d1 in
          let d3 : Chain = record { requests = map (granted_by k_front k) d2.requests; links = map (reads_by k_front k) d2.links; floor = d2.floor } in
          let chain : s'.chains k ≡ Some (trimmed d3) =
          e.lines k
          ∙ ap (λ x. changed same_key key_of trims_at (held s.shelf who).keys k (changed same_key waiter_key wakes_at k_front k x)) (ended_chain keep loaded h h1 who number sound apart p.leaves s t k d some)
          ∙ ap (changed same_key key_of trims_at (held s.shelf who).keys k) (wakes_is k_front k d2)
          ∙ changed_once trims_at (held s.shelf who).keys k (Some d3) (t.kept.rising who) at in
          let has : (r : Row) → row_for k (writes_in (yeas h) who) ≡ Some r → has_request who d.requests ≡ true = λ r f. ap (λ x. has_request who (requests_in x)) (sym some) ∙ (writer keep loaded h h1 who number sound apart p.leaves s t k r f).1 in
          let opened : opened_with (version_at s.shelf.store k) (s.chains k) ≡ Some d = ap (opened_with (version_at s.shelf.store k)) some ∙ opened_some (version_at s.shelf.store k) d in
          let xs : List Version = filter (is_kept keep loaded h k) (in_order loaded h k) ++ news number (row_for k (writes_in (yeas h) who)) in
          let links : d1.links ≡ map (link_of h k) (filter (is_kept keep loaded h k) (in_order loaded h k) ++ news number (row_for k (writes_in (yeas h) who))) =
          row_links keep who number (row_for k (writes_in (yeas h) who)) d has
          ∙ ap (λ ls. ls ++ map (λ v. unread v.number v.row) (news number (row_for k (writes_in (yeas h) who)))) (sym (ap links_in opened) ∙ kt.links k row is)
          ∙ links_is keep loaded h h2 who number wakes o p.obeys p.written_more p.waits_less k in
          let at_floor : d1.floor ≡ floor keep loaded h2 k =
          row_floor keep who number (row_for k (writes_in (yeas h) who)) d (floor keep loaded h2 k) has
          (λ nothing. sym (ap floor_in opened) ∙ kt.floor k row is ∙ sym (ap (λ (vs : List Version). cond (eqb keep 0) 0 (nth_greatest keep (start loaded k ∷ vs))) (p.written_more k ∙ ap (λ (vs : List Version). vs ++ written h k) nothing)))
          (ap (floor_of keep) links ∙ floor_is keep loaded h h2 who number wakes o p.obeys p.written_more p.waits_less k) in (
            ap links_in (ap (opened_with (version_at s'.shelf.store k)) chain ∙ opened_some (version_at s'.shelf.store k) (trimmed d3))
                ∙ ap (λ ls. filter (stays d3) (map (reads_by k_front k) ls)) links
                ∙ ap (filter (stays d3)) (map_both (reads_by k_front k) (link_of h k) (link_of h2 k) (filter (is_kept keep loaded h k) (in_order loaded h k) ++ news number (row_for k (writes_in (yeas h) who))) (λ v i. mark v))
                ∙ filter_map (link_of h2 k) (stays d3) (is_kept keep loaded h2 k) (filter (is_kept keep loaded h k) (in_order loaded h k) ++ news number (row_for k (writes_in (yeas h) who)))
                (λ v. stays_is keep loaded h h2 who number wakes o p.obeys p.written_more p.waits_less s' t' k v d3.floor d3.requests at_floor (sym (ap requests_in chain)))
                ∙ ap (map (link_of h2 k)) (kept_is keep loaded h h2 who number wakes o p.obeys p.written_more p.waits_less k),
            ap floor_in (ap (opened_with (version_at s'.shelf.store k)) chain ∙ opened_some (version_at s'.shelf.store k) (trimmed d3)) ∙ at_floor,
          )

      no_row : (r : Option Row) → row_for k (writes_in (yeas h) who) ≡ r → ((x : Row) → row_for k (writes_in (yeas h) who) ≡ Some x → ⊥) → row_for k (writes_in (yeas h) who) ≡ None
      no_row None f n = f
      no_row (Some x) f n = absurd (n x f)

      pub at_key : (links_in (opened_with (version_at s'.shelf.store k) (s'.chains k)) ≡ map (link_of h2 k) (kept keep loaded h2 k)) × (floor_in (opened_with (version_at s'.shelf.store k) (s'.chains k)) ≡ floor keep loaded h2 k)
      at_key = go (s.chains k) refl
        where
          go : (x : Option Chain) → s.chains k ≡ x → (links_in (opened_with (version_at s'.shelf.store k) (s'.chains k)) ≡ map (link_of h2 k) (kept keep loaded h2 k)) × (floor_in (opened_with (version_at s'.shelf.store k) (s'.chains k)) ≡ floor keep loaded h2 k)
          go None f =
              unasked
              (no_row (row_for k (writes_in (yeas h) who)) refl (λ x g. true≢false (sym (ap (λ y. has_request who (requests_in y)) (sym f) ∙ (writer keep loaded h h1 who number sound apart p.leaves s t k x g).1))))
              (λ a i same. absurd (subst (λ y. IsIn (waiter_of loaded h a) (requests_in y)) f (subst (λ q. IsIn (waiter_of loaded h a) (requests_in (s.chains q))) same (t.queued a i))))
              f
          go (Some d) f = ⊎_elim
              (λ (m : (q : Key) × IsIn q (held s.shelf who).keys × (key_eq q k ≡ true)). touched d f (subst (λ q. IsIn q (held s.shelf who).keys) ((key_decides m.0 k).0 m.2) m.1))
              (λ n.
              let out : IsIn k (held s.shelf who).keys → ⊥ = λ i. true≢false (sym ((key_decides k k).1 refl) ∙ n k i) in
              untouched
              (no_row (row_for k (writes_in (yeas h) who)) refl (λ x g. out (writer keep loaded h h1 who number sound apart p.leaves s t k x g).0))
              (λ a i same. false_from_ne_true (is_woken wakes a) (λ w.
              let j = woken_in (wake_of loaded h1) (λ b. refl) (λ b. refl) loaded h known woken (λ b l. (less b l).0) a i w in
              out (subst (λ q. IsIn q (held s.shelf who).keys) same (from_goes keep loaded h h1 who number known distinct p.leaves p.law s t a i (less a j).1).0)))
              d f out)
              (any_tells (λ q. key_eq q k) (held s.shelf who).keys)

    pub end_keeps : Tracks loaded (state_of new) h2 → Keeps keep loaded (state_of new) h2
    end_keeps t' = record { links = λ k row is. (at_key t' k row is).0; floor = λ k row is. (at_key t' k row is).1 }
