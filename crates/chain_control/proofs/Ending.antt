-- The table tracks the history with the end of an attempt that wakes nobody.
use Rattle.std.proofs.Common.{◌≡◌, ◌≢◌, ℕ, List, [], ◌∷◌, map, filter, Bool, true, false, not, cond, length, refl, sym, ap, ◌∙◌, subst, inl, inr, ⊎_elim, Option, Some, None, option_map}
use Rattle.deneva_base.specs.declared.keys.Key.{Key}
use Rattle.deneva_base.specs.declared.numbers.Attempt.{Attempt}
use Rattle.deneva_base.specs.declared.numbers.Number.{Number}
use Rattle.deneva_base.specs.declared.rows.Cell.{Cell}
use Rattle.deneva_base.specs.Lists.{IsIn}
use Rattle.deneva_base.specs.Rows.{Row, Rows}
use Rattle.deneva_base.specs.Keys.{attempt_eq}
use Rattle.protocol_rules.specs.History.{History, Asked, Grant, yeas, IsUnended}
use Rattle.protocol_rules.specs.Latest.{row_for, writes_in}
use Rattle.protocol_rules.specs.Versions.{below}
use Rattle.deneva_base.proofs.Membership.{in_map, in_map_from, any_at, attempt_decides}
use Rattle.protocol_rules.proofs.Sound.{Sound, row_found, writes_found}
use Rattle.row_store.specs.Stores.{version_at}
use Rattle.control_core.specs.Leaving.{last}
use Rattle.std.proofs.lemmas.List.{map-id}
use Rattle.chain_control.specs.declared.requests.Request.{Request}
use Rattle.chain_control.specs.declared.requests.Waiter.{Waiter}
use Rattle.chain_control.specs.declared.table.Table.{Table}
use Rattle.chain_control.specs.Requests.{raised, has_request, overtaken}
use Rattle.chain_control.specs.Chains.{Chain, without, overwritten}
use Rattle.key_table.specs.Keys.{same_key}
use Rattle.key_table.specs.Tables.{changed}
use Rattle.chain_control.specs.Tables.{new_of, key_of, ends_at}
use Rattle.shelf.specs.Shelves.{held}
use Rattle.shelf.specs.Keeps.{version_of, Apart, Closes}
use Rattle.shelf.proofs.Keeps.{keeps_ended}
use Rattle.chain_control.specs.Changes.{EndsAndWakes, commits_left}
use Rattle.chain_control.specs.Standing.{State, state_of, requests_in, owner_of, waiter_of, IsOwner, IsWaiter, StampsRise, Tracks}
use Rattle.key_table.proofs.Places.{same_tells}
use Rattle.chain_control.proofs.Puts.{left_in, in_left, filter_none, rise_filter, rise_map}
use Rattle.chain_control.proofs.Tabling.{changed_nothing, end_row, ends_is, ends_nothing}

-- a request once the key is written under a number, if it is
abbrev pub raise_to : Option Number → Request → Request
raise_to None r = r
raise_to (Some n) r = overtaken n r

raise_who : (new : Option Number) (r : Request) → (raise_to new r).who ≡ r.who
raise_who None r = refl
raise_who (Some n) r = refl

raise_stamp : (new : Option Number) (r : Request) → (raise_to new r).stamp ≡ r.stamp
raise_stamp None r = refl
raise_stamp (Some n) r = refl

raise_owner : (new : Option Number) (g : Grant) → raise_to new (owner_of g) ≡ owner_of g
raise_owner None g = refl
raise_owner (Some n) g = refl

raise_waiter : (new : Option Number) (who : Attempt) (r : Request) (v : Number) → raise_to new (record { who = who; stamp = r.stamp; mode = r.mode; waits = Some v }) ≡ record { who = who; stamp = r.stamp; mode = r.mode; waits = Some (raised new r.stamp v) }
raise_waiter None who r v = refl
raise_waiter (Some n) who r v = refl

-- the attempt's requests are taken out of each key of the list, or there are none
end_none : (who : Attempt) (ks : List Key) (k : Key) (c : Chain) → ((x : Request) → IsIn x c.requests → x.who ≢ who) → changed same_key key_of (ends_at who) ks k (Some c) ≡ Some c
end_none who [] k c n = refl
end_none who (q ∷ qs) k c n = go (same_key q k) (end_none who qs k c n)
  where
    go : (b : Bool) → changed same_key key_of (ends_at who) qs k (Some c) ≡ Some c → changed same_key key_of (ends_at who) qs k (cond b (Some (without who c)) (Some c)) ≡ Some c
    go true rest = ap (λ rs. changed same_key key_of (ends_at who) qs k (Some (record { requests = rs; links = c.links; floor = c.floor }))) (filter_none who c.requests n) ∙ rest
    go false rest = rest

pub end_is : (who : Attempt) (ks : List Key) (k : Key) (c : Chain) → ((x : Request) → IsIn x c.requests → x.who ≡ who → IsIn k ks) → changed same_key key_of (ends_at who) ks k (Some c) ≡ Some (without who c)
end_is who [] k c n = λ i. Some (record { requests = sym (filter_none who c.requests (λ x i e. n x i e)) i; links = c.links; floor = c.floor })
end_is who (q ∷ qs) k c n = ⊎_elim
    (λ t. ap (λ b. changed same_key key_of (ends_at who) qs k (cond b (Some (without who c)) (Some c))) t.0 ∙ end_none who qs k (without who c) (λ x i. (left_in who x c.requests i).1))
    (λ f. ap (λ b. changed same_key key_of (ends_at who) qs k (cond b (Some (without who c)) (Some c))) f.0 ∙ end_is who qs k c (λ x i e. ⊎_elim (λ (s : k ≡ q). absurd (f.1 (sym s))) (λ j. j) (n x i e)))
    (same_tells q k)

-- those of the others, who know of the write
over_left : (who : Attempt) (number : Number) (rs : List Request) → filter (λ r. not (attempt_eq r.who who)) (map (overtaken number) (filter (λ r. not (attempt_eq r.who who)) rs)) ≡ map (overtaken number) (filter (λ r. not (attempt_eq r.who who)) rs)
over_left who number rs = filter_none who (map (overtaken number) (filter (λ r. not (attempt_eq r.who who)) rs)) (λ x i. let b = in_map_from (overtaken number) x (filter (λ r. not (attempt_eq r.who who)) rs) i in λ e. (left_in who b.0 rs b.1).1 (sym (ap (λ (z : Request). z.who) b.2) ∙ e))

row_left : (keep : ℕ) (who : Attempt) (number : Option Number) (row : Option (List Cell)) (c : Chain) → ((r : List Cell) → row ≡ Some r → has_request who c.requests ≡ true)
    → filter (λ r. not (attempt_eq r.who who)) (end_row keep who number row c).requests ≡ map (raise_to (new_of number row)) (filter (λ r. not (attempt_eq r.who who)) c.requests)
row_left keep who None None c has = sym (map-id (filter (λ r. not (attempt_eq r.who who)) c.requests))
row_left keep who None (Some row) c has = sym (map-id (filter (λ r. not (attempt_eq r.who who)) c.requests))
row_left keep who (Some number) None c has = sym (map-id (filter (λ r. not (attempt_eq r.who who)) c.requests))
row_left keep who (Some number) (Some row) c has =
    ap (λ b. filter (λ r. not (attempt_eq r.who who)) (cond b (overwritten keep who number row c) c).requests) (has row refl)
    ∙ over_left who number c.requests

row_covered : (keep : ℕ) (who : Attempt) (number : Option Number) (row : Option (List Cell)) (c : Chain) (x : Request) → IsIn x (end_row keep who number row c).requests → x.who ≡ who → IsIn x c.requests
row_covered keep who None row c x i e = i
row_covered keep who (Some number) None c x i e = i
row_covered keep who (Some number) (Some row) c x i e = go (has_request who c.requests) i
  where
    go : (b : Bool) → IsIn x (cond b (overwritten keep who number row c) c).requests → IsIn x c.requests
    go false j = j
    go true j = let b = in_map_from (overtaken number) x (filter (λ r. not (attempt_eq r.who who)) c.requests) j in absurd ((left_in who b.0 c.requests b.1).1 (sym (ap (λ (z : Request). z.who) b.2) ∙ e))

-- the end of an attempt that waits nowhere, with the numbers below stamps afterwards: h1 is the history with it
pub record Leaves (loaded : Rows) (h h1 : History) (who : Attempt) (number : Option Number) : Type 0 where
  pub closes : Closes h h1 who
  pub raises : (k : Key) (stamp : ℕ) → (below loaded h1 k stamp).number ≡ raised (new_of number (row_for k (writes_in (yeas h) who))) stamp (below loaded h k stamp).number

-- the state before anyone is woken
abbrev pub between : ℕ → Attempt → Option Number → State → State → State
between keep who number s s' = record {
  chains = λ k. changed same_key key_of (ends_at who) (held s.shelf who).keys k (commits_left keep who number (held s.shelf who).copies k (s.chains k));
  shelf = s'.shelf;
  waiting = s.waiting;
}

module _ (keep : ℕ) (loaded : Rows) (h h1 : History) (who : Attempt) (number : Option Number) (sound : Sound loaded h) (apart : Apart (yeas h)) (c : Leaves loaded h h1 who number) where
  module _ (s : State) (t : Tracks loaded s h) where
    -- the attempt has requests only for the keys that it noted
    covered : (k : Key) (x : Request) → IsIn x (requests_in (s.chains k)) → x.who ≡ who → IsIn k (held s.shelf who).keys
    covered k x i e = ⊎_elim
        (λ (o : IsOwner h k x). let same : o.grant.who ≡ who = sym (ap (λ (r : Request). r.who) o.same) ∙ e in subst (λ q. IsIn q (held s.shelf who).keys) o.here (subst (λ w. IsIn o.grant.key (held s.shelf w).keys) same (t.kept.noted o.grant o.there o.unended)))
        (λ (q : IsWaiter loaded h k x). absurd (c.closes.nowhere q.asked q.there (sym (ap (λ (r : Request). r.who) q.same) ∙ e)))
        (t.real k x i)

    -- it has a request for each key that it writes
    pub writer : (k : Key) (row : Row) → row_for k (writes_in (yeas h) who) ≡ Some row → IsIn k (held s.shelf who).keys × (has_request who (requests_in (s.chains k)) ≡ true)
    writer k row e =
        let y = writes_found (yeas h) who (record { key = k; row = row }) (row_found k (writes_in (yeas h) who) row e) in
        let g = sound.holds y.0 (record { key = k; row = row }) y.2 y.3 in
        let same : g.0.who ≡ who = g.2 ∙ y.1 in
        let there = t.owned g.0 g.1 (subst (λ w. IsUnended h w) (sym same) c.closes.unended) in
        let here : IsIn (owner_of g.0) (requests_in (s.chains k)) = subst (λ q. IsIn (owner_of g.0) (requests_in (s.chains q))) g.3 there in
        (covered k (owner_of g.0) here same, any_at (λ (r : Request). attempt_eq r.who who) (owner_of g.0) (requests_in (s.chains k)) here ((attempt_decides g.0.who who).1 same))

    pub ended_chain : (k : Key) (d : Chain) → s.chains k ≡ Some d → changed same_key key_of (ends_at who) (held s.shelf who).keys k (commits_left keep who number (held s.shelf who).copies k (s.chains k)) ≡ Some (without who (end_row keep who number (row_for k (writes_in (yeas h) who)) d))
    ended_chain k d e =
        ap (λ x. changed same_key key_of (ends_at who) (held s.shelf who).keys k (commits_left keep who number (held s.shelf who).copies k x)) e
        ∙ ap (changed same_key key_of (ends_at who) (held s.shelf who).keys k) (ends_is keep who number (held s.shelf who).copies k d)
        ∙ ap (λ ws. changed same_key key_of (ends_at who) (held s.shelf who).keys k (Some (end_row keep who number (row_for k ws) d))) (t.kept.rows who c.closes.unended).1
        ∙ end_is who (held s.shelf who).keys k (end_row keep who number (row_for k (writes_in (yeas h) who)) d)
        (λ x i w. covered k x (subst (λ y. IsIn x (requests_in y)) (sym e) (row_covered keep who number (row_for k (writes_in (yeas h) who)) d x i w)) w)

    pub ended_nothing : (k : Key) → s.chains k ≡ None → changed same_key key_of (ends_at who) (held s.shelf who).keys k (commits_left keep who number (held s.shelf who).copies k (s.chains k)) ≡ None
    ended_nothing k e =
        ap (λ x. changed same_key key_of (ends_at who) (held s.shelf who).keys k (commits_left keep who number (held s.shelf who).copies k x)) e
        ∙ ap (changed same_key key_of (ends_at who) (held s.shelf who).keys k) (ends_nothing keep who number (held s.shelf who).copies k)
        ∙ changed_nothing key_of (ends_at who) (held s.shelf who).keys k (λ x. refl)

    pub ended_requests : (k : Key) → requests_in (changed same_key key_of (ends_at who) (held s.shelf who).keys k (commits_left keep who number (held s.shelf who).copies k (s.chains k))) ≡ map (raise_to (new_of number (row_for k (writes_in (yeas h) who)))) (filter (λ r. not (attempt_eq r.who who)) (requests_in (s.chains k)))
    ended_requests k = go (s.chains k) refl
      where
        go : (x : Option Chain) → s.chains k ≡ x → requests_in (changed same_key key_of (ends_at who) (held s.shelf who).keys k (commits_left keep who number (held s.shelf who).copies k (s.chains k))) ≡ map (raise_to (new_of number (row_for k (writes_in (yeas h) who)))) (filter (λ r. not (attempt_eq r.who who)) (requests_in (s.chains k)))
        go None e = ap requests_in (ended_nothing k e) ∙ sym (ap (λ x. map (raise_to (new_of number (row_for k (writes_in (yeas h) who)))) (filter (λ r. not (attempt_eq r.who who)) (requests_in x))) e)
        go (Some d) e =
            ap requests_in (ended_chain k d e)
            ∙ row_left keep who number (row_for k (writes_in (yeas h) who)) d (λ row f. ap (λ x. has_request who (requests_in x)) (sym e) ∙ (writer k row f).1)
            ∙ sym (ap (λ x. map (raise_to (new_of number (row_for k (writes_in (yeas h) who)))) (filter (λ r. not (attempt_eq r.who who)) (requests_in x))) e)

  pub still : (x : Attempt) → IsUnended h1 x → (x ≢ who) × IsUnended h x
  still x u = ((λ e. u (subst (λ l. IsIn x l) (sym c.closes.ended_more) (inl e))), (λ i. u (subst (λ l. IsIn x l) (sym c.closes.ended_more) (inr i))))

  pub unended_on : (x : Attempt) → x ≢ who → IsUnended h x → IsUnended h1 x
  unended_on x n u i = ⊎_elim (λ e. n e) (λ j. u j) (subst (λ l. IsIn x l) c.closes.ended_more i)

  raised_waiter : (a : Asked) (k : Key) → a.key ≡ k → raise_to (new_of number (row_for k (writes_in (yeas h) who))) (waiter_of loaded h a) ≡ waiter_of loaded h1 a
  raised_waiter a k e =
      ap (λ q. raise_to (new_of number (row_for q (writes_in (yeas h) who))) (waiter_of loaded h a)) (sym e)
      ∙ raise_waiter (new_of number (row_for a.key (writes_in (yeas h) who))) a.who (waiter_of loaded h a) (below loaded h a.key a.stamp).number
      ∙ ap (λ n. record { who = a.who; stamp = a.stamp; mode = a.mode; waits = Some n }) (sym (c.raises a.key a.stamp))

  pub closed_tracks : (front : List Waiter) (old new : Table) → Tracks loaded (state_of old) h → EndsAndWakes keep who number front old new
      → ((k : Key) → option_map version_of (version_at new.shelf.store k) ≡ last loaded h1 k)
      → Tracks loaded (between keep who number (state_of old) (state_of new)) h1
  closed_tracks front old new t e versions =
      let s : State = state_of old in
      let s' : State = state_of new in
      let s1 : State = between keep who number s s' in
      record {
        owned = λ g i u.
            let v = still g.who u in
            let j = in_left who (owner_of g) (requests_in (s.chains g.key)) (t.owned g (subst (λ l. IsIn g l) c.closes.grants_same i) v.1) v.0 in
            subst (λ l. IsIn (owner_of g) l) (sym (rs s t g.key)) (subst (λ x. IsIn x (map (raise_to (fresh g.key)) (filter (λ r. not (attempt_eq r.who who)) (requests_in (s.chains g.key))))) (raise_owner (fresh g.key) g) (in_map (raise_to (fresh g.key)) (owner_of g) (filter (λ r. not (attempt_eq r.who who)) (requests_in (s.chains g.key))) j));
        queued = λ a i.
            let v = subst (λ l. IsIn a l) c.closes.waits_same i in
            let j = in_left who (waiter_of loaded h a) (requests_in (s.chains a.key)) (t.queued a v) (c.closes.nowhere a v) in
            subst (λ l. IsIn (waiter_of loaded h1 a) l) (sym (rs s t a.key)) (subst (λ x. IsIn x (map (raise_to (fresh a.key)) (filter (λ r. not (attempt_eq r.who who)) (requests_in (s.chains a.key))))) (raised_waiter a a.key refl) (in_map (raise_to (fresh a.key)) (waiter_of loaded h a) (filter (λ r. not (attempt_eq r.who who)) (requests_in (s.chains a.key))) j));
        real = λ k x i.
            let b = in_map_from (raise_to (fresh k)) x (filter (λ r. not (attempt_eq r.who who)) (requests_in (s.chains k))) (subst (λ l. IsIn x l) (rs s t k) i) in
            let f = left_in who b.0 (requests_in (s.chains k)) b.1 in
            ⊎_elim
            (λ (o : IsOwner h k b.0). inl (record { grant = o.grant; there = subst (λ l. IsIn o.grant l) (sym c.closes.grants_same) o.there; unended = unended_on o.grant.who (λ is. f.1 (ap (λ (r : Request). r.who) o.same ∙ is)) o.unended; here = o.here; same = b.2 ∙ ap (raise_to (fresh k)) o.same ∙ raise_owner (fresh k) o.grant }))
            (λ (q : IsWaiter loaded h k b.0). inr (record { asked = q.asked; there = subst (λ l. IsIn q.asked l) (sym c.closes.waits_same) q.there; here = q.here; same = b.2 ∙ ap (raise_to (fresh k)) q.same ∙ raised_waiter q.asked k q.here }))
            (t.real k b.0 f.0);
        stamps_rise = λ k. subst (λ l. StampsRise l) (sym (rs s t k)) (rise_map (raise_to (fresh k)) (filter (λ r. not (attempt_eq r.who who)) (requests_in (s.chains k))) (raise_stamp (fresh k)) (rise_filter (λ r. not (attempt_eq r.who who)) (requests_in (s.chains k)) (t.stamps_rise k)));
        kept = keeps_ended apart c.closes t.kept e.shelf versions;
        waiting = t.waiting ∙ ap (λ (l : List Asked). length l) (sym c.closes.waits_same);
      }
    where
      fresh : Key → Option Number
      fresh k = new_of number (row_for k (writes_in (yeas h) who))

      rs : (s : State) (t : Tracks loaded s h) (k : Key) → requests_in (changed same_key key_of (ends_at who) (held s.shelf who).keys k (commits_left keep who number (held s.shelf who).copies k (s.chains k))) ≡ map (raise_to (new_of number (row_for k (writes_in (yeas h) who)))) (filter (λ r. not (attempt_eq r.who who)) (requests_in (s.chains k)))
      rs s t k = ended_requests s t k
