-- The table tracks the history with one more Prepare, and with the end of an attempt that wakes nobody.
use Rattle.std.proofs.Common.{◌≡◌, ◌≢◌, ℕ, List, [], ◌∷◌, filter, Bool, true, false, not, cond, length, refl, sym, ap, ◌∙◌, subst, inl, inr, ⊎_elim, Option, Some, None, option_map}
use Rattle.deneva_base.specs.declared.keys.Key.{Key}
use Rattle.deneva_base.specs.declared.numbers.Attempt.{Attempt}
use Rattle.deneva_base.specs.declared.numbers.Number.{Number}
use Rattle.deneva_base.specs.declared.rows.Keyed.{Keyed}
use Rattle.deneva_base.specs.declared.causes.Bound.{Bound}
use Rattle.deneva_base.specs.declared.answers.Vote.TheVariants.{Yes}
use Rattle.deneva_base.specs.Lists.{IsIn}
use Rattle.deneva_base.specs.Rows.{Rows}
use Rattle.deneva_base.specs.Keys.{attempt_eq}
use Rattle.deneva_base.specs.Modes.{writes}
use Rattle.protocol_rules.specs.Conditions.{MayPrepare}
use Rattle.protocol_rules.specs.History.{Prepare, History, Asked, yeas, IsUnended}
use Rattle.protocol_rules.proofs.Known.{Known}
use Rattle.protocol_rules.proofs.Traced.{Traced}
use Rattle.row_store.specs.Stores.{version_at}
use Rattle.control_core.specs.Leaving.{last}
use Rattle.lock_control.specs.declared.requests.Request.{Request}
use Rattle.lock_control.specs.declared.table.Table.{Table}
use Rattle.lock_control.specs.Seen.{Locks}
use Rattle.lock_control.specs.Locks.{ended_in}
use Rattle.key_table.specs.Keys.{same_key}
use Rattle.lock_control.specs.Tables.{all_ended}
use Rattle.shelf.specs.Shelves.{held}
use Rattle.lock_control.specs.Tables.{locks_at}
use Rattle.lock_control.specs.Changes.{Votes, MayVote, MayNote, EndsOne}
use Rattle.lock_control.specs.Standing.{State, state_of, owner_of, waiter_of, IsOwner, IsWaiter, IsTop, any_mode, Falling, Tracks}
use Rattle.shelf.specs.Keeps.{version_of, Apart, Closes}
use Rattle.shelf.proofs.Keeps.{keeps_reserved, keeps_noted, keeps_promised, keeps_ended}
use Rattle.key_table.proofs.Places.{same_tells}
use Rattle.lock_control.proofs.Puts.{left_in, in_left, filter_none, mode_found, falling_filter}
use Rattle.lock_control.proofs.Asking.{top_stays}

module _ (loaded : Rows) (h : History) (who : Attempt) (bound : Bound) (writes' appends : List Keyed) (may : MayPrepare h who bound writes' appends) where
  -- it votes Yes
  pub prepared : (old new : Table) (lo hi : ℕ) → Tracks loaded (state_of old) h → Votes who writes' appends old new → Tracks loaded (state_of new) (Prepare who bound writes' appends (Yes lo hi) ∷ h)
  prepared old new lo hi t c =
      let s : State = state_of old in
      let s' : State = state_of new in
      let locks : (k : Key) → s'.locks k ≡ s.locks k = λ k. ap (λ x. locks_at x k) c.lines in
      record {
        owned = λ g i u. subst (λ (l : Locks). IsIn (owner_of g) l.requests) (sym (locks g.key)) (t.owned g i u);
        queued = λ a i. subst (λ (l : Locks). IsIn (waiter_of a) l.requests) (sym (locks a.key)) (t.queued a i);
        real = λ k x i. ⊎_elim
            (λ (o : IsOwner h k x). inl (record { grant = o.grant; there = o.there; unended = o.unended; here = o.here; same = o.same }))
            (λ (q : IsWaiter h k x). inr (record { asked = q.asked; there = q.there; here = q.here; same = q.same }))
            (t.real k x (subst (λ (l : Locks). IsIn x l.requests) (locks k) i));
        falling = λ k. subst (λ (l : Locks). Falling l.requests) (sym (locks k)) (t.falling k);
        accessed = λ k. top_stays h (Prepare who bound writes' appends (Yes lo hi) ∷ h) k any_mode (s.locks k).accessed (s'.locks k).accessed (ap (λ (l : Locks). l.accessed) (locks k)) refl (λ x i. i) (λ x d i j e. i) (t.accessed k);
        written = λ k. top_stays h (Prepare who bound writes' appends (Yes lo hi) ∷ h) k writes (s.locks k).written (s'.locks k).written (ap (λ (l : Locks). l.written) (locks k)) refl (λ x i. i) (λ x d i j e. i) (t.written k);
        kept = keeps_promised may.unended refl t.kept c.shelf;
        waiting = c.waiting ∙ t.waiting;
      }

-- what is only noted, or only reserved, changes nothing that is tracked
pub reserved : (loaded : Rows) (h : History) (old new : Table) → Tracks loaded (state_of old) h → MayVote old new → Tracks loaded (state_of new) h
reserved loaded h old new t c =
    let s : State = state_of old in
    let s' : State = state_of new in
    let locks : (k : Key) → s'.locks k ≡ s.locks k = λ k. ap (λ x. locks_at x k) c.lines in
    record {
      owned = λ g i u. subst (λ (l : Locks). IsIn (owner_of g) l.requests) (sym (locks g.key)) (t.owned g i u);
      queued = λ a i. subst (λ (l : Locks). IsIn (waiter_of a) l.requests) (sym (locks a.key)) (t.queued a i);
      real = λ k x i. t.real k x (subst (λ (l : Locks). IsIn x l.requests) (locks k) i);
      falling = λ k. subst (λ (l : Locks). Falling l.requests) (sym (locks k)) (t.falling k);
      accessed = λ k. subst (λ (l : Locks). IsTop h k any_mode l.accessed) (sym (locks k)) (t.accessed k);
      written = λ k. subst (λ (l : Locks). IsTop h k writes l.written) (sym (locks k)) (t.written k);
      kept = keeps_reserved t.kept c.shelf;
      waiting = c.waiting ∙ t.waiting;
    }

pub only_noted : (loaded : Rows) (h : History) (who : Attempt) (stamp : ℕ) (key : Key) (old new : Table) → Tracks loaded (state_of old) h → MayNote who stamp key old new → Tracks loaded (state_of new) h
only_noted loaded h who stamp key old new t c =
    let s : State = state_of old in
    let s' : State = state_of new in
    record {
      owned = λ g i u. subst (λ (l : Locks). IsIn (owner_of g) l.requests) (sym (c.locks g.key)) (t.owned g i u);
      queued = λ a i. subst (λ (l : Locks). IsIn (waiter_of a) l.requests) (sym (c.locks a.key)) (t.queued a i);
      real = λ k x i. t.real k x (subst (λ (l : Locks). IsIn x l.requests) (c.locks k) i);
      falling = λ k. subst (λ (l : Locks). Falling l.requests) (sym (c.locks k)) (t.falling k);
      accessed = λ k. subst (λ (l : Locks). IsTop h k any_mode l.accessed) (sym (c.locks k)) (t.accessed k);
      written = λ k. subst (λ (l : Locks). IsTop h k writes l.written) (sym (c.locks k)) (t.written k);
      kept = ⊎_elim (λ r. keeps_reserved t.kept r) (λ n. keeps_noted t.kept n) c.shelf;
      waiting = c.waiting ∙ t.waiting;
    }

-- locks that the attempt is no part of
pub ended_none : (who : Attempt) (number : Option Number) (l : Locks) → ((x : Request) → IsIn x l.requests → x.who ≢ who) → ended_in who number l ≡ l
ended_none who None l n = ap (λ rs. record { requests = rs; accessed = l.accessed; written = l.written }) (filter_none who l.requests n)
ended_none who (Some number) l n = ⊎_elim
    (λ m. absurd (n m.0 m.1 m.2))
    (λ f. rw (f.1, filter_none who l.requests n) refl)
    (mode_found who l.requests)

kept_requests : (who : Attempt) (number : Option Number) (l : Locks) → (ended_in who number l).requests ≡ filter (λ r. not (attempt_eq r.who who)) l.requests
kept_requests who None l = refl
kept_requests who (Some number) l = refl

all_none : (who : Attempt) (number : Option Number) (ks : List Key) (k : Key) (l : Locks) → ((x : Request) → IsIn x l.requests → x.who ≢ who) → all_ended who number ks k l ≡ l
all_none who number [] k l n = refl
all_none who number (q ∷ qs) k l n = go (same_key q k) (all_none who number qs k l n)
  where
    go : (b : Bool) → all_ended who number qs k l ≡ l → all_ended who number qs k (cond b (ended_in who number l) l) ≡ l
    go true rest = ap (all_ended who number qs k) (ended_none who number l n) ∙ rest
    go false rest = rest

-- each key is ended once, or the attempt has no request for it
pub all_ended_is : (who : Attempt) (number : Option Number) (ks : List Key) (k : Key) (l : Locks) → ((x : Request) → IsIn x l.requests → x.who ≡ who → IsIn k ks) → all_ended who number ks k l ≡ ended_in who number l
all_ended_is who number [] k l n = sym (ended_none who number l (λ x i e. n x i e))
all_ended_is who number (q ∷ qs) k l n = ⊎_elim
    (λ t. rw t.0 (all_none who number qs k (ended_in who number l) (λ x i. (left_in who x l.requests (subst (λ rs. IsIn x rs) (kept_requests who number l) i)).1)))
    (λ f. rw f.0 (all_ended_is who number qs k l (λ x i e. ⊎_elim (λ (s : k ≡ q). absurd (f.1 (sym s))) (λ j. j) (n x i e))))
    (same_tells q k)

module _ (loaded : Rows) (h h' : History) (who : Attempt) (number : Option Number) (known : Known loaded h) (traced : Traced h) (apart : Apart (yeas h)) (c : Closes h h' who) where
  -- the attempt has requests only for the keys that it noted
  covered : (s : State) → Tracks loaded s h → (k : Key) (x : Request) → IsIn x (s.locks k).requests → x.who ≡ who → IsIn k (held s.shelf who).keys
  covered s t k x i e = ⊎_elim
      (λ (o : IsOwner h k x). let same : o.grant.who ≡ who = sym (ap (λ (r : Request). r.who) o.same) ∙ e in subst (λ q. IsIn q (held s.shelf who).keys) o.here (subst (λ w. IsIn o.grant.key (held s.shelf w).keys) same (t.kept.noted o.grant o.there o.unended)))
      (λ (q : IsWaiter h k x). absurd (c.nowhere q.asked q.there (sym (ap (λ (r : Request). r.who) q.same) ∙ e)))
      (t.real k x i)

  still : (x : Attempt) → IsUnended h' x → (x ≢ who) × IsUnended h x
  still x u = ((λ e. u (subst (λ l. IsIn x l) (sym c.ended_more) (inl e))), (λ i. u (subst (λ l. IsIn x l) (sym c.ended_more) (inr i))))

  unended_on : (x : Attempt) → x ≢ who → IsUnended h x → IsUnended h' x
  unended_on x n u i = ⊎_elim (λ e. n e) (λ j. u j) (subst (λ l. IsIn x l) c.ended_more i)

  pub closed_locks : (old new : Table) → Tracks loaded (state_of old) h → EndsOne who number old new → (k : Key) → (state_of new).locks k ≡ ended_in who number ((state_of old).locks k)
  closed_locks old new t e k = e.locks k ∙ all_ended_is who number (held (state_of old).shelf who).keys k ((state_of old).locks k) (λ x i is. covered (state_of old) t k x i is)

  pub closed_tracks : (old new : Table) → Tracks loaded (state_of old) h → EndsOne who number old new
      → ((k : Key) → IsTop h' k any_mode ((state_of new).locks k).accessed) → ((k : Key) → IsTop h' k writes ((state_of new).locks k).written)
      → ((k : Key) → option_map version_of (version_at new.shelf.store k) ≡ last loaded h' k)
      → Tracks loaded (state_of new) h'
  closed_tracks old new t e accessed written versions =
      let s : State = state_of old in
      let s' : State = state_of new in
      let rs : (k : Key) → (s'.locks k).requests ≡ filter (λ r. not (attempt_eq r.who who)) (s.locks k).requests = λ k. ap (λ (l : Locks). l.requests) (closed_locks old new t e k) ∙ kept_requests who number (s.locks k) in
      record {
        owned = λ g i u. let v = still g.who u in subst (λ l. IsIn (owner_of g) l) (sym (rs g.key)) (in_left who (owner_of g) (s.locks g.key).requests (t.owned g (subst (λ l. IsIn g l) c.grants_same i) v.1) v.0);
        queued = λ a i. let j = subst (λ l. IsIn a l) c.waits_same i in subst (λ l. IsIn (waiter_of a) l) (sym (rs a.key)) (in_left who (waiter_of a) (s.locks a.key).requests (t.queued a j) (c.nowhere a j));
        real = λ k x i.
            let f = left_in who x (s.locks k).requests (subst (λ l. IsIn x l) (rs k) i) in
            ⊎_elim
            (λ (o : IsOwner h k x). inl (record { grant = o.grant; there = subst (λ l. IsIn o.grant l) (sym c.grants_same) o.there; unended = unended_on o.grant.who (λ is. f.1 (ap (λ (r : Request). r.who) o.same ∙ is)) o.unended; here = o.here; same = o.same }))
            (λ (q : IsWaiter h k x). inr (record { asked = q.asked; there = subst (λ l. IsIn q.asked l) (sym c.waits_same) q.there; here = q.here; same = q.same }))
            (t.real k x f.0);
        falling = λ k. subst (λ l. Falling l) (sym (rs k)) (falling_filter (λ r. not (attempt_eq r.who who)) (s.locks k).requests (t.falling k));
        accessed = accessed;
        written = written;
        kept = keeps_ended apart c t.kept e.shelf versions;
        waiting = e.waiting ∙ t.waiting ∙ ap (λ (l : List Asked). length l) (sym c.waits_same);
      }
