-- The accesses track the history with one more Prepare, and with the end of an attempt that wakes nobody.
use Rattle.std.proofs.Common.{◌≡◌, ◌≢◌, ℕ, List, [], ◌∷◌, Bool, true, false, not, cond, length, refl, sym, ap, ◌∙◌, subst, inl, inr, ⊎_elim, Option, option_map}
use Rattle.deneva_base.specs.declared.keys.Key.{Key}
use Rattle.deneva_base.specs.declared.numbers.Attempt.{Attempt}
use Rattle.deneva_base.specs.declared.numbers.Number.{Number}
use Rattle.deneva_base.specs.declared.rows.Keyed.{Keyed}
use Rattle.deneva_base.specs.declared.causes.Bound.{Bound}
use Rattle.deneva_base.specs.declared.answers.Vote.TheVariants.{Yes}
use Rattle.deneva_base.specs.Lists.{IsIn}
use Rattle.deneva_base.specs.Rows.{Rows}
use Rattle.deneva_base.specs.Keys.{attempt_eq}
use Rattle.protocol_rules.specs.Conditions.{MayPrepare}
use Rattle.protocol_rules.specs.History.{Prepare, History, Asked, yeas, IsUnended}
use Rattle.deneva_base.proofs.Membership.{attempt_tells}
use Rattle.stamp_lines.specs.declared.requests.Request.{Request}
use Rattle.stamp_lines.specs.declared.accesses.Accesses.{Accesses}
use Rattle.stamp_lines.specs.Requests.{without}
use Rattle.key_table.specs.Keys.{same_key}
use Rattle.key_table.proofs.Places.{same_tells, at_place}
use Rattle.row_store.specs.Stores.{version_at}
use Rattle.control_core.specs.Leaving.{last}
use Rattle.shelf.specs.Seen.{Held}
use Rattle.shelf.specs.Held.{nothing, with_rows}
use Rattle.shelf.specs.Shelves.{held}
use Rattle.shelf.specs.Keeps.{version_of, Apart, Closes}
use Rattle.shelf.proofs.Keeps.{keeps_promised, keeps_ended}
use Rattle.stamp_lines.specs.Tables.{all_ended}
use Rattle.stamp_lines.specs.Changes.{Promises, Ends}
use Rattle.stamp_lines.specs.Standing.{Seen, seen_of, owner_of, waiter_of, IsOwner, IsWaiter, Rising, Tracks}
use Rattle.stamp_lines.proofs.Puts.{left_in, in_left, filter_none, rising_filter}

module _ (loaded : Rows) (h : History) (who : Attempt) (bound : Bound) (writes' appends : List Keyed) (may : MayPrepare h who bound writes' appends) where
  -- it votes Yes
  pub prepared : (old new : Accesses) (lo hi : ℕ) → Promises who writes' appends old new → Tracks loaded (seen_of old) h → Tracks loaded (seen_of new) (Prepare who bound writes' appends (Yes lo hi) ∷ h)
  prepared old new lo hi c t =
      let s : Seen = seen_of old in
      let s' : Seen = seen_of new in
      let stamps : (w : Attempt) → (held s'.shelf w).stamp ≡ (held s.shelf w).stamp = λ w. ⊎_elim (λ x. ap (λ (p : Held). p.stamp) x.1 ∙ ap (λ q. (held s.shelf q).stamp) x.0) (λ f. ap (λ (p : Held). p.stamp) f.1) (at_place attempt_eq attempt_tells who w (held s'.shelf w) (with_rows writes' writes' appends (held s.shelf who)) (held s.shelf w) (c.shelf.holds w)) in
      record {
        owned = λ g i u. subst (λ l. IsIn (owner_of g) l) (sym (c.lines g.key)) (t.owned g i u);
        queued = λ a i. subst (λ l. IsIn (waiter_of a) l) (sym (c.lines a.key)) (t.queued a i);
        real = λ k x i. ⊎_elim
            (λ (o : IsOwner h k x). inl (record { grant = o.grant; there = o.there; unended = o.unended; here = o.here; same = o.same }))
            (λ (q : IsWaiter h k x). inr (record { asked = q.asked; there = q.there; here = q.here; same = q.same }))
            (t.real k x (subst (λ l. IsIn x l) (c.lines k) i));
        rising = λ k. subst (λ l. Rising l) (sym (c.lines k)) (t.rising k);
        stamped = λ g i u. stamps g.who ∙ t.stamped g i u;
        stamped_waiter = λ a i. stamps a.who ∙ t.stamped_waiter a i;
        kept = keeps_promised may.unended refl t.kept c.shelf;
        waiting = c.waiting ∙ t.waiting;
      }

all_none : (who : Attempt) (ks : List Key) (k : Key) (l : List Request) → ((x : Request) → IsIn x l → x.who ≢ who) → all_ended who ks k l ≡ l
all_none who [] k l n = refl
all_none who (q ∷ qs) k l n = go (same_key q k) (all_none who qs k l n)
  where
    go : (b : Bool) → all_ended who qs k l ≡ l → all_ended who qs k (cond b (without who l) l) ≡ l
    go true rest = ap (all_ended who qs k) (filter_none who l n) ∙ rest
    go false rest = rest

-- each key is ended once, or the attempt has no request for it
all_ended_is : (who : Attempt) (ks : List Key) (k : Key) (l : List Request) → ((x : Request) → IsIn x l → x.who ≡ who → IsIn k ks) → all_ended who ks k l ≡ without who l
all_ended_is who [] k l n = sym (filter_none who l (λ x i e. n x i e))
all_ended_is who (q ∷ qs) k l n = ⊎_elim
    (λ t. rw t.0 (all_none who qs k (without who l) (λ x i. (left_in who x l i).1)))
    (λ f. rw f.0 (all_ended_is who qs k l (λ x i e. ⊎_elim (λ (s : k ≡ q). absurd (f.1 (sym s))) (λ j. j) (n x i e))))
    (same_tells q k)

module _ (h h' : History) (who : Attempt) (c : Closes h h' who) where
  pub still : (x : Attempt) → IsUnended h' x → (x ≢ who) × IsUnended h x
  still x u = ((λ e. u (subst (λ l. IsIn x l) (sym c.ended_more) (inl e))), (λ i. u (subst (λ l. IsIn x l) (sym c.ended_more) (inr i))))

  pub unended_on : (x : Attempt) → x ≢ who → IsUnended h x → IsUnended h' x
  unended_on x n u i = ⊎_elim (λ e. n e) (λ j. u j) (subst (λ l. IsIn x l) c.ended_more i)

module _ (loaded : Rows) (h h' : History) (who : Attempt) (number : Option Number) (apart : Apart (yeas h)) (c : Closes h h' who) where
  -- the attempt has requests only for the keys that it noted
  covered : (s : Seen) → Tracks loaded s h → (k : Key) (x : Request) → IsIn x (s.requests k) → x.who ≡ who → IsIn k (held s.shelf who).keys
  covered s t k x i e = ⊎_elim
      (λ (o : IsOwner h k x). let same : o.grant.who ≡ who = sym (ap (λ (r : Request). r.who) o.same) ∙ e in subst (λ q. IsIn q (held s.shelf who).keys) o.here (subst (λ w. IsIn o.grant.key (held s.shelf w).keys) same (t.kept.noted o.grant o.there o.unended)))
      (λ (q : IsWaiter h k x). absurd (c.nowhere q.asked q.there (sym (ap (λ (r : Request). r.who) q.same) ∙ e)))
      (t.real k x i)

  -- the attempt's requests are gone
  pub requests_left : (old new : Accesses) → Tracks loaded (seen_of old) h → Ends who number old new → (k : Key) → (seen_of new).requests k ≡ without who ((seen_of old).requests k)
  requests_left old new t e k = e.lines k ∙ all_ended_is who (held old.shelf who).keys k ((seen_of old).requests k) (λ x i is. covered (seen_of old) t k x i is)

  pub closed_tracks : (old new : Accesses) → Tracks loaded (seen_of old) h → Ends who number old new → ((k : Key) → option_map version_of (version_at new.shelf.store k) ≡ last loaded h' k) → Tracks loaded (seen_of new) h'
  closed_tracks old new t e versions =
      let s : Seen = seen_of old in
      let s' : Seen = seen_of new in
      let rs : (k : Key) → s'.requests k ≡ without who (s.requests k) = requests_left old new t e in
      let others : (w : Attempt) → w ≢ who → (held s'.shelf w).stamp ≡ (held s.shelf w).stamp = λ w n. ⊎_elim (λ x. absurd (n (sym x.0))) (λ f. ap (λ (p : Held). p.stamp) f.1) (at_place attempt_eq attempt_tells who w (held s'.shelf w) nothing (held s.shelf w) (e.shelf.holds w)) in
      record {
        owned = λ g i u. let v = still h h' who c g.who u in subst (λ l. IsIn (owner_of g) l) (sym (rs g.key)) (in_left who (owner_of g) (s.requests g.key) (t.owned g (subst (λ l. IsIn g l) c.grants_same i) v.1) v.0);
        queued = λ a i. let j = subst (λ l. IsIn a l) c.waits_same i in subst (λ l. IsIn (waiter_of a) l) (sym (rs a.key)) (in_left who (waiter_of a) (s.requests a.key) (t.queued a j) (c.nowhere a j));
        real = λ k x i.
            let f = left_in who x (s.requests k) (subst (λ l. IsIn x l) (rs k) i) in
            ⊎_elim
            (λ (o : IsOwner h k x). inl (record { grant = o.grant; there = subst (λ l. IsIn o.grant l) (sym c.grants_same) o.there; unended = unended_on h h' who c o.grant.who (λ is. f.1 (ap (λ (r : Request). r.who) o.same ∙ is)) o.unended; here = o.here; same = o.same }))
            (λ (q : IsWaiter h k x). inr (record { asked = q.asked; there = subst (λ l. IsIn q.asked l) (sym c.waits_same) q.there; here = q.here; same = q.same }))
            (t.real k x f.0);
        rising = λ k. subst (λ l. Rising l) (sym (rs k)) (rising_filter (λ r. not (attempt_eq r.who who)) (s.requests k) (t.rising k));
        stamped = λ g i u. let v = still h h' who c g.who u in others g.who v.0 ∙ t.stamped g (subst (λ l. IsIn g l) c.grants_same i) v.1;
        stamped_waiter = λ a i. let j = subst (λ l. IsIn a l) c.waits_same i in others a.who (c.nowhere a j) ∙ t.stamped_waiter a j;
        kept = keeps_ended apart c t.kept e.shelf versions;
        waiting = e.waiting ∙ t.waiting ∙ ap (λ (l : List Asked). length l) (sym c.waits_same);
      }
