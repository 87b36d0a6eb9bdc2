-- What the table answers is what the rule says.
use Rattle.std.proofs.Common.{◌≡◌, ◌⊎◌, ℕ, max, leb, eqb, ltb, ◌≤◌, List, [], ◌∷◌, Bool, true, false, ◌&&◌, cond, refl, sym, ap, ap₂, ◌∙◌, subst, inl, inr, ⊎_elim, arith, Option, Some, None, option_map, true≢false, map}
use Rattle.std.proofs.lemmas.Bool.{le-leb, ltb-false}
use Rattle.std.specs.List.{list_any}
use Rattle.deneva_base.specs.declared.keys.Key.{Key}
use Rattle.deneva_base.specs.declared.keys.Mode.{Mode}
use Rattle.deneva_base.specs.declared.numbers.Attempt.{Attempt}
use Rattle.deneva_base.specs.declared.numbers.Number.{Number}
use Rattle.deneva_base.specs.declared.rows.Keyed.{Keyed}
use Rattle.deneva_base.specs.declared.causes.Bound.{Bound}
use Rattle.deneva_base.specs.declared.causes.Cause.{Cause}
use Rattle.deneva_base.specs.declared.causes.Cause.TheVariants.{Trimmed, ReadLater}
use Rattle.deneva_base.specs.declared.answers.Answer.{Answer}
use Rattle.deneva_base.specs.declared.answers.Answer.TheVariants.{Granted, Waits, Refused}
use Rattle.deneva_base.specs.Lists.{IsIn, greatest_by}
use Rattle.deneva_base.specs.Rows.{Row, Rows, row_or_empty}
use Rattle.deneva_base.specs.Keys.{key_eq, loaded_version}
use Rattle.deneva_base.specs.Modes.{reads, writes}
use Rattle.protocol_rules.specs.Conditions.{MayAsk, MayPrepare}
use Rattle.protocol_rules.specs.History.{History, Asked, asks, grants, IsUnended, stamp_of}
use Rattle.protocol_rules.specs.Latest.{Version, latest, seen}
use Rattle.protocol_rules.specs.Rules.{Obeys}
use Rattle.protocol_rules.specs.Versions.{start, below}
use Rattle.protocol_rules.specs.Waiting.{this, as_asked, holders, granted_with}
use Rattle.protocol_rules.specs.Mvcc.{as_great, floor, top_reader, writer_between, mvcc}
use Rattle.deneva_base.proofs.Membership.{key_decides, attempt_tells, and_true, and_parts, any_at, any_found}
use Rattle.protocol_rules.proofs.Sound.{Sound}
use Rattle.protocol_rules.proofs.Known.{Known}
use Rattle.protocol_rules.proofs.Traced.{Traced}
use Rattle.protocol_rules.proofs.Marks.{stamp_is}
use Rattle.protocol_rules.proofs.Stops.{held_from, in_held}
use Rattle.protocol_rules.proofs.Belows.{greatest_le}
use Rattle.protocol_rules.proofs.Timestamps.{top_by}
use Rattle.row_store.specs.declared.versions.Version.{Version as StoredVersion}
use Rattle.row_store.specs.Stores.{Seen, version_at, row_in}
use Rattle.control_core.specs.Leaving.{IsLoadedStore}
use Rattle.chain_control.specs.declared.requests.Request.{Request}
use Rattle.chain_control.specs.declared.table.Table.{Table}
use Rattle.chain_control.specs.Requests.{stands_between, is_none, stops, is_stopped, stamp_among}
use Rattle.chain_control.specs.Links.{link_below}
use Rattle.chain_control.specs.Chains.{Chain, refusal, refused_by, low_in, low_of}
use Rattle.chain_control.specs.Tables.{chain_at, stamp_in}
use Rattle.shelf.specs.Shelves.{held}
use Rattle.chain_control.specs.Changes.{IsNew, read_in, opened_with}
use Rattle.chain_control.specs.Kept.{awaited, kept}
use Rattle.chain_control.specs.Standing.{State, state_of, requests_in, links_in, floor_in, link_of, owner_of, IsOwner, IsWaiter, StampsRise, Tracks, Keeps}
use Rattle.shelf.specs.Keeps.{version_of}
use Rattle.shelf.proofs.Keeps.{keeps_fresh}
use Rattle.shelf.proofs.Versions.{version_is}
use Rattle.chain_control.proofs.Bests.{or_left, floor_keeps, best_is, passes_floor}

pub bool_both : (a b : Bool) → (a ≡ true → b ≡ true) → (b ≡ true → a ≡ true) → a ≡ b
bool_both true b f g = sym (f refl)
bool_both false true f g = g refl
bool_both false false f g = refl

-- the writer stands between
pub between_is : (loaded : Rows) (h : History) (who : Attempt) (stamp : ℕ) (key : Key) (mode : Mode) (b : Asked) (r : Request) → r.stamp ≡ b.stamp → r.mode ≡ b.mode → writer_between loaded h (this who stamp key mode) b ≡ (key_eq b.key key && stands_between (below loaded h key stamp).number.n stamp r)
between_is loaded h who stamp key mode b r e f =
    go (key_eq b.key key) (writes b.mode) (ltb b.stamp stamp) (ltb (below loaded h key stamp).number.n b.stamp)
    ∙ ap₂ (λ m n. key_eq b.key key && (writes m && (ltb (below loaded h key stamp).number.n n && ltb n stamp))) (sym f) (sym e)
  where
    go : (a b c d : Bool) → ((a && (b && c)) && d) ≡ (a && (b && (d && c)))
    go true true true true = refl
    go true true true false = refl
    go true true false true = refl
    go true true false false = refl
    go true false c d = refl
    go false b c d = refl

module _ (keep : ℕ) (loaded : Rows) (h : History) (obeys : Obeys loaded (mvcc keep loaded) h) (known : Known loaded h) (sound : Sound loaded h) (traced : Traced h) (s : State) (t : Tracks loaded s h) (kt : Keeps keep loaded s h) where
  module _ (who : Attempt) (stamp : ℕ) (key : Key) (mode : Mode) (may : MayAsk loaded h who stamp key) (c : Chain) (there : s.chains key ≡ Some c) where
    opened : opened_with (version_at s.shelf.store key) (s.chains key) ≡ Some c
    opened = ap (opened_with (version_at s.shelf.store key)) there ∙ some (version_at s.shelf.store key)
      where
        some : (v : Option StoredVersion) → opened_with v (Some c) ≡ Some c
        some None = refl
        some (Some v) = refl

    abbrev pub asked : Request
    asked = record { who = who; stamp = stamp; mode = mode; waits = None }

    pub links_are : c.links ≡ map (link_of h key) (kept keep loaded h key)
    links_are = sym (ap links_in opened) ∙ kt.links key may.here.0 may.here.1

    pub floor_is : c.floor ≡ floor keep loaded h key
    floor_is = sym (ap floor_in opened) ∙ kt.floor key may.here.0 may.here.1

    -- the version below the stamp is there for who passes the floor
    pub below_is : floor keep loaded h key ≤ stamp → link_below stamp None c.links ≡ Some (link_of h key (below loaded h key stamp))
    below_is l = ap (link_below stamp None) links_are ∙ best_is keep loaded h obeys key stamp may.positive (floor_keeps keep loaded h obeys key (below loaded h key stamp) (passes_floor keep loaded h obeys key who stamp may l))

    refusal_is : (b : Bool) → ltb stamp (floor keep loaded h key) ≡ b → refusal key asked c ≡ cond b (Some (Trimmed key (floor keep loaded h key))) (cond (writes mode && ltb stamp (top_reader h key (below loaded h key stamp).number)) (Some (ReadLater key (top_reader h key (below loaded h key stamp).number))) None)
    refusal_is true e = ap (λ f. cond (ltb stamp f) (Some (Trimmed key f)) (refused_by key asked (link_below stamp None c.links))) floor_is ∙ ap (λ b. cond b (Some (Trimmed key (floor keep loaded h key))) (refused_by key asked (link_below stamp None c.links))) e
    refusal_is false e =
        ap (λ f. cond (ltb stamp f) (Some (Trimmed key f)) (refused_by key asked (link_below stamp None c.links))) floor_is
        ∙ ap (λ b. cond b (Some (Trimmed key (floor keep loaded h key))) (refused_by key asked (link_below stamp None c.links))) e
        ∙ ap (refused_by key asked) (below_is (ltb-false stamp (floor keep loaded h key) e))

    -- the rule's tests one after another
    abbrev answer : Bool → Bool → Bool → Answer
    answer a b w = cond a (Refused (Trimmed key (floor keep loaded h key))) (cond b (Refused (ReadLater key (top_reader h key (below loaded h key stamp).number))) (cond w Waits (granted_with (seen mode (below loaded h key stamp)))))

    abbrev first : Bool
    first = ltb stamp (floor keep loaded h key)

    abbrev second : Bool
    second = writes mode && ltb stamp (top_reader h key (below loaded h key stamp).number)

    abbrev third : Bool
    third = reads mode && list_any (writer_between loaded h (this who stamp key mode)) (holders h)

    abbrev cause : Bool → Bool → Option Cause
    cause a b = cond a (Some (Trimmed key (floor keep loaded h key))) (cond b (Some (ReadLater key (top_reader h key (below loaded h key stamp).number))) None)

    refused_so : (a b w : Bool) (x : Cause) → cause a b ≡ Some x → Refused x ≡ answer a b w
    refused_so true b w x e = ap (λ o. Refused (get o)) (sym e)
      where
        get : Option Cause → Cause
        get None = x
        get (Some y) = y
    refused_so false true w x e = ap (λ o. Refused (get o)) (sym e)
      where
        get : Option Cause → Cause
        get None = x
        get (Some y) = y
    refused_so false false w x e = absurd (cc e)

    pub refused_is : (x : Cause) → refusal key asked c ≡ Some x → Refused x ≡ (mvcc keep loaded).ask h who stamp key mode
    refused_is x e = refused_so first second third x (sym (refusal_is first refl) ∙ e)

    not_refused : (a b : Bool) → cause a b ≡ None → (a ≡ false) × (b ≡ false)
    not_refused true b e = absurd (cc e)
    not_refused false true e = absurd (cc e)
    not_refused false false e = (refl, refl)

    module _ (none : refusal key asked c ≡ None) where
      passed : (first ≡ false) × (second ≡ false)
      passed = not_refused first second (sym (refusal_is first refl) ∙ none)

      pub under_floor : floor keep loaded h key ≤ stamp
      under_floor = ltb-false stamp (floor keep loaded h key) passed.0

      pub found : link_below stamp None c.links ≡ Some (link_of h key (below loaded h key stamp))
      found = below_is under_floor

      low_is : low_of stamp c ≡ (below loaded h key stamp).number.n
      low_is = ap low_in found

      requests_are : requests_in (s.chains key) ≡ c.requests
      requests_are = ap requests_in there

      -- a granted access stands between where the rule says so
      stopped_is : is_stopped (low_of stamp c) stamp c.requests ≡ list_any (writer_between loaded h (this who stamp key mode)) (holders h)
      stopped_is =
          ap (λ n. is_stopped n stamp c.requests) low_is
          ∙ bool_both (is_stopped (below loaded h key stamp).number.n stamp c.requests) (list_any (writer_between loaded h (this who stamp key mode)) (holders h))
          (λ e.
          let f = any_found (stops (below loaded h key stamp).number.n stamp) c.requests e in
          let p = and_parts (is_none f.0.waits) (stands_between (below loaded h key stamp).number.n stamp f.0) f.2 in
          ⊎_elim
          (λ (o : IsOwner h key f.0).
          any_at (writer_between loaded h (this who stamp key mode)) (as_asked o.grant) (holders h) (in_held h (grants h) o.grant o.there o.unended)
          (between_is loaded h who stamp key mode (as_asked o.grant) f.0 (ap (λ (z : Request). z.stamp) o.same) (ap (λ (z : Request). z.mode) o.same)
          ∙ and_true (key_eq o.grant.key key) (stands_between (below loaded h key stamp).number.n stamp f.0) ((key_decides o.grant.key key).1 o.here) p.1))
          (λ (w : IsWaiter loaded h key f.0). absurd (true≢false (sym p.0 ∙ ap (λ (z : Request). is_none z.waits) w.same)))
          (t.real key f.0 (subst (λ l. IsIn f.0 l) (sym requests_are) f.1)))
          (λ e.
          let f = any_found (writer_between loaded h (this who stamp key mode)) (holders h) e in
          let g = held_from h (grants h) f.0 f.1 in
          let is : writer_between loaded h (this who stamp key mode) (as_asked g.0) ≡ true = ap (writer_between loaded h (this who stamp key mode)) (sym g.3) ∙ f.2 in
          let p = and_parts (key_eq g.0.key key) (stands_between (below loaded h key stamp).number.n stamp (owner_of g.0)) (sym (between_is loaded h who stamp key mode (as_asked g.0) (owner_of g.0) refl refl) ∙ is) in
          let here : g.0.key ≡ key = (key_decides g.0.key key).0 p.0 in
          any_at (stops (below loaded h key stamp).number.n stamp) (owner_of g.0) c.requests
          (subst (λ l. IsIn (owner_of g.0) l) (ap (λ k. requests_in (s.chains k)) here ∙ requests_are) (t.owned g.0 g.1 g.2)) p.1)

      pub waits_is : (reads mode && is_stopped (low_of stamp c) stamp c.requests) ≡ true → Waits ≡ (mvcc keep loaded).ask h who stamp key mode
      waits_is e = ap (λ w. answer false false w) (sym (ap (λ b. reads mode && b) (sym stopped_is) ∙ e)) ∙ ap₂ (λ a b. answer a b third) (sym passed.0) (sym passed.1)

      read_is : (b : Bool) (v : Version) (n : ℕ) → Granted (cond {A = Row × Number} b (v.row, v.number) ([], loaded_version)).0 (cond {A = Row × Number} b (v.row, v.number) ([], loaded_version)).1 0 ≡ granted_with (cond b v (record { number = loaded_version; row = [] }))
      read_is true v n = refl
      read_is false v n = refl

      pub grants_is : (reads mode && is_stopped (low_of stamp c) stamp c.requests) ≡ false → Granted (read_in mode (link_below stamp None c.links)).0 (read_in mode (link_below stamp None c.links)).1 0 ≡ (mvcc keep loaded).ask h who stamp key mode
      grants_is e =
          ap (λ o. Granted (read_in mode o).0 (read_in mode o).1 0) found
          ∙ read_is (reads mode) (below loaded h key stamp) 0
          ∙ ap (λ w. answer false false w) (sym (ap (λ b. reads mode && b) (sym stopped_is) ∙ e)) ∙ ap₂ (λ a b. answer a b third) (sym passed.0) (sym passed.1)

  -- the vote is the attempt's stamp
  stamp_found : (who : Attempt) (rs : List Request) → ((r : Request) × IsIn r rs × (r.who ≡ who) × (stamp_among who rs ≡ r.stamp)) ⊎ (stamp_among who rs ≡ 0)
  stamp_found who [] = inr refl
  stamp_found who (r ∷ rs) = ⊎_elim
      (λ e. inl (r, inl refl, e.1, ap (λ b. cond b r.stamp (stamp_among who rs)) e.0))
      (λ f. ⊎_elim (λ m. inl (m.0, inr m.1, m.2, ap (λ b. cond b r.stamp (stamp_among who rs)) f.0 ∙ m.3)) (λ n. inr (ap (λ b. cond b r.stamp (stamp_among who rs)) f.0 ∙ n)) (stamp_found who rs))
      (attempt_tells r.who who)

  stamp_in_is : (who : Attempt) (x : Option Chain) → stamp_in who x ≡ stamp_among who (requests_in x)
  stamp_in_is who None = refl
  stamp_in_is who (Some c) = refl

  module _ (who : Attempt) (bound : Bound) (writes' appends : List Keyed) (may : MayPrepare h who bound writes' appends) where
    request_stamp : (k : Key) (r : Request) → IsIn r (requests_in (s.chains k)) → r.who ≡ who → r.stamp ≡ stamp_of (asks h) who
    request_stamp k r i e = ⊎_elim
        (λ (o : IsOwner h k r).
        let a = traced.asked o.grant o.there in
        let same : a.0.who ≡ who = a.2 ∙ sym (ap (λ (z : Request). z.who) o.same) ∙ e in
        ap (λ (z : Request). z.stamp) o.same ∙ sym a.5 ∙ sym (stamp_is (asks h) a.0 known.stamp a.1) ∙ ap (stamp_of (asks h)) same)
        (λ (w : IsWaiter loaded h k r). absurd (may.nowhere w.asked w.there (sym (ap (λ (z : Request). z.who) w.same) ∙ e)))
        (t.real k r i)

    pub vote_is : greatest_by (λ k. stamp_in who (s.chains k)) (held s.shelf who).keys ≡ stamp_of (asks h) who
    vote_is =
        let most = greatest_le (λ k. stamp_in who (s.chains k)) (stamp_of (asks h) who) (held s.shelf who).keys (λ k i. subst (λ n. n ≤ stamp_of (asks h) who) (sym (stamp_in_is who (s.chains k))) (at_most k)) in
        let g = may.something in
        let unended = subst (λ w. IsUnended h w) (sym g.2) may.unended in
        let key = subst (λ w. IsIn g.0.key (held s.shelf w).keys) g.2 (t.kept.noted g.0 g.1 unended) in
        let least = top_by (λ k. stamp_in who (s.chains k)) g.0.key (held s.shelf who).keys key in
        let here : stamp_in who (s.chains g.0.key) ≡ stamp_of (asks h) who = stamp_in_is who (s.chains g.0.key) ∙ exactly g.0.key (owner_of g.0) (t.owned g.0 g.1 unended) g.2 in
        omega (arith, most, least, here)
      where
        at_most : (k : Key) → stamp_among who (requests_in (s.chains k)) ≤ stamp_of (asks h) who
        at_most k = ⊎_elim (λ f. let e = request_stamp k f.0 f.1 f.2 in omega (arith, e, f.3)) (λ z. omega (arith, z)) (stamp_found who (requests_in (s.chains k)))

        among : (rs : List Request) (r : Request) → IsIn r rs → r.who ≡ who → ((x : Request) → IsIn x rs → x.who ≡ who → x.stamp ≡ stamp_of (asks h) who) → stamp_among who rs ≡ stamp_of (asks h) who
        among [] r i e f = absurd i
        among (x ∷ xs) r i e f = ⊎_elim
            (λ t. ap (λ b. cond b x.stamp (stamp_among who xs)) t.0 ∙ f x (inl refl) t.1)
            (λ n. ap (λ b. cond b x.stamp (stamp_among who xs)) n.0 ∙ ⊎_elim (λ (s : r ≡ x). absurd (n.1 (sym (ap (λ (z : Request). z.who) s) ∙ e))) (λ j. among xs r j e (λ y l. f y (inr l))) i)
            (attempt_tells x.who who)

        exactly : (k : Key) (r : Request) → IsIn r (requests_in (s.chains k)) → r.who ≡ who → stamp_among who (requests_in (s.chains k)) ≡ stamp_of (asks h) who
        exactly k r i e = among (requests_in (s.chains k)) r i e (λ x j. request_stamp k x j)

  -- what is kept of a loaded key is there once it is opened
  pub opens_some : (key : Key) (row : Row) → loaded key ≡ Some row → (c : Chain) × (opened_with (version_at s.shelf.store key) (s.chains key) ≡ Some c)
  opens_some key row e = go (version_at s.shelf.store key) (s.chains key) (version_is (mvcc keep loaded) t.kept obeys key row e)
    where
      go : (v : Option StoredVersion) (x : Option Chain) → option_map version_of v ≡ Some (latest loaded h key) → (c : Chain) × (opened_with v x ≡ Some c)
      go None x e = absurd (cc e)
      go (Some v) None e = (record { requests = []; links = record { number = v.number; row = v.row; read = 0 } ∷ []; floor = 0 }, refl)
      go (Some v) (Some c) e = (c, refl)

-- a table on which nothing was called
module _ (store : Seen) (t : Table) (f : IsNew store t) (l : IsLoadedStore store) where
  pub fresh_tracks : Tracks (row_in store) (state_of t) []
  fresh_tracks = record {
    owned = λ g i u. absurd i;
    queued = λ a i. absurd i;
    real = λ k x i. absurd (subst (λ z. IsIn x (requests_in z)) (f.lines k) i);
    stamps_rise = λ k. subst (λ z. StampsRise (requests_in z)) (sym (f.lines k)) tt;
    kept = keeps_fresh true f.shelf l;
    waiting = f.waiting;
  }

  pub fresh_keeps : (keep : ℕ) → Keeps keep (row_in store) (state_of t) []
  fresh_keeps keep = record {
    links = λ k row e. ap (λ x. links_in (opened_with (version_at x k) (chain_at t.lines k))) f.shelf.store ∙ ap (λ c. links_in (opened_with (version_at store k) c)) (f.lines k) ∙ one k (version_at store k) refl row e;
    floor = λ k row e. ap (λ x. floor_in (opened_with (version_at x k) (chain_at t.lines k))) f.shelf.store ∙ ap (λ c. floor_in (opened_with (version_at store k) c)) (f.lines k) ∙ none (version_at store k) ∙ sym (start_floor k);
  }
    where
      none : (v : Option StoredVersion) → floor_in (opened_with v None) ≡ 0
      none None = refl
      none (Some v) = refl

      zero : (a b : Bool) → cond a 0 (max (cond b 0 0) 0) ≡ 0
      zero true b = refl
      zero false true = refl
      zero false false = refl

      start_floor : (k : Key) → floor keep (row_in store) [] k ≡ 0
      start_floor k = zero (eqb keep 0) (leb keep (as_great (start (row_in store) k ∷ []) (start (row_in store) k)))

      kept_one : (k : Key) → kept keep (row_in store) [] k ≡ start (row_in store) k ∷ []
      kept_one k = ap (λ b. cond b (start (row_in store) k ∷ []) []) (or_left (leb (floor keep (row_in store) [] k) 0) (awaited (row_in store) [] k [] (start (row_in store) k)) (le-leb (floor keep (row_in store) [] k) 0 (let z = start_floor k in omega (arith, z))))

      one : (k : Key) (v : Option StoredVersion) → version_at store k ≡ v → (row : Row) → row_in store k ≡ Some row → links_in (opened_with (version_at store k) None) ≡ map (link_of [] k) (kept keep (row_in store) [] k)
      one k None is row e = absurd (cc (ap (option_map (λ (x : StoredVersion). x.row)) (sym is) ∙ e))
      one k (Some v) is row e =
          ap (λ x. links_in (opened_with x None)) is
          ∙ ap (λ n. record { number = n; row = v.row; read = 0 } ∷ []) (l k v is).0
          ∙ ap (λ (r : Option Row). record { number = loaded_version; row = row_or_empty r; read = 0 } ∷ []) (sym (ap (option_map (λ (x : StoredVersion). x.row)) is))
          ∙ ap (map (link_of [] k)) (sym (kept_one k))
