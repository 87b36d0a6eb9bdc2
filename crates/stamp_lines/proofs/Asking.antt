-- The accesses track the history with one more Ask.
use Rattle.std.proofs.Common.{◌≡◌, ◌≢◌, ◌⊎◌, ℕ, ◌+◌, List, ◌∷◌, true, false, cond, refl, sym, ap, ◌∙◌, subst, inl, inr, ⊎_elim, arith}
use Rattle.deneva_base.specs.declared.keys.Key.{Key}
use Rattle.deneva_base.specs.declared.keys.Mode.{Mode}
use Rattle.deneva_base.specs.declared.numbers.Attempt.{Attempt}
use Rattle.deneva_base.specs.declared.numbers.Number.{Number}
use Rattle.deneva_base.specs.declared.causes.Cause.{Cause}
use Rattle.deneva_base.specs.declared.answers.Answer.TheVariants.{Granted, Waits, Refused}
use Rattle.deneva_base.specs.Lists.{IsIn}
use Rattle.deneva_base.specs.Rows.{Row, Rows}
use Rattle.protocol_rules.specs.Conditions.{MayAsk}
use Rattle.protocol_rules.specs.History.{Ask, History, Asked, Grant, asks, IsUnended}
use Rattle.deneva_base.specs.Keys.{attempt_eq}
use Rattle.deneva_base.proofs.Membership.{attempt_tells}
use Rattle.protocol_rules.proofs.Known.{Known}
use Rattle.protocol_rules.proofs.Traced.{Traced}
use Rattle.stamp_lines.specs.declared.requests.Request.{Request}
use Rattle.stamp_lines.specs.declared.accesses.Accesses.{Accesses}
use Rattle.stamp_lines.specs.Requests.{put_request}
use Rattle.key_table.specs.Keys.{same_key}
use Rattle.key_table.proofs.Places.{same_tells, same_self, at_place}
use Rattle.shelf.specs.declared.shelf.Shelf.{Shelf}
use Rattle.shelf.specs.Seen.{Held}
use Rattle.shelf.specs.Held.{with_key}
use Rattle.shelf.specs.Shelves.{held, Notes}
use Rattle.shelf.proofs.Keeps.{keeps_granted, keeps_waiting, keeps_refused, keeps_reserved}
use Rattle.stamp_lines.specs.Changes.{Adds, Same}
use Rattle.stamp_lines.specs.Standing.{Seen, seen_of, owner_of, waiter_of, IsOwner, IsWaiter, Rising, Tracks}
use Rattle.stamp_lines.proofs.Puts.{put_in, in_put, rising_put}

-- what one more request gives
pub record Grew (key : Key) (r : Request) (s s' : Seen) : Type 0 where
  pub more : (k : Key) (x : Request) → IsIn x (s.requests k) → IsIn x (s'.requests k)
  pub new : IsIn r (s'.requests key)
  pub only : (k : Key) (x : Request) → IsIn x (s'.requests k) → ((x ≡ r) × (key ≡ k)) ⊎ IsIn x (s.requests k)
  pub rising : (k : Key) → Rising (s.requests k) → ((x : Request) → IsIn x (s.requests key) → x.stamp ≢ r.stamp) → Rising (s'.requests k)
  pub notes : Notes r.who r.stamp key s.shelf s'.shelf

-- at the key and elsewhere
pub at_key : (key k : Key) (l a b : List Request) → l ≡ cond (same_key key k) a b → ((key ≡ k) × (l ≡ a)) ⊎ (l ≡ b)
at_key key k l a b e = ⊎_elim (λ t. inl (t.1, e ∙ ap (λ x. cond x a b) t.0)) (λ f. inr (e ∙ ap (λ x. cond x a b) f.0)) (same_tells key k)

-- the stamps after a key is noted
stamp_here : (who : Attempt) (stamp : ℕ) (key : Key) (s s' : Shelf) → Notes who stamp key s s' → (held s' who).stamp ≡ stamp
stamp_here who stamp key s s' c = ⊎_elim (λ t. ap (λ (p : Held). p.stamp) t.1) (λ f. absurd (f.0 refl)) (at_place attempt_eq attempt_tells who who (held s' who) (with_key stamp key (held s who)) (held s who) (c.holds who))

stamp_there : (who : Attempt) (stamp : ℕ) (key : Key) (s s' : Shelf) → Notes who stamp key s s' → (w : Attempt) → who ≢ w → (held s' w).stamp ≡ (held s w).stamp
stamp_there who stamp key s s' c w n = ⊎_elim (λ t. absurd (n t.0)) (λ f. ap (λ (p : Held). p.stamp) f.1) (at_place attempt_eq attempt_tells who w (held s' w) (with_key stamp key (held s who)) (held s w) (c.holds w))

pub grew : (key : Key) (r : Request) (old new : Accesses) → Adds key r old new → Grew key r (seen_of old) (seen_of new)
grew key r old new c =
    let s : Seen = seen_of old in
    let s' : Seen = seen_of new in
    let cases : (k : Key) → ((key ≡ k) × (s'.requests k ≡ put_request r (s.requests key))) ⊎ (s'.requests k ≡ s.requests k) = λ k. at_key key k (s'.requests k) (put_request r (s.requests key)) (s.requests k) (c.lines k) in
    let here : s'.requests key ≡ put_request r (s.requests key) = c.lines key ∙ ap (λ x. cond x (put_request r (s.requests key)) (s.requests key)) (same_self same_key same_tells key) in
    record {
      more = λ k x i. ⊎_elim
          (λ t. subst (λ l. IsIn x l) (sym t.1) (in_put r x (s.requests key) (inr (subst (λ q. IsIn x (s.requests q)) (sym t.0) i))))
          (λ e. subst (λ l. IsIn x l) (sym e) i)
          (cases k);
      new = subst (λ l. IsIn r l) (sym here) (in_put r r (s.requests key) (inl refl));
      only = λ k x i. ⊎_elim
          (λ t. ⊎_elim (λ e. inl (e, t.0)) (λ j. inr (subst (λ q. IsIn x (s.requests q)) t.0 j)) (put_in r x (s.requests key) (subst (λ l. IsIn x l) t.1 i)))
          (λ e. inr (subst (λ l. IsIn x l) e i))
          (cases k);
      rising = λ k f apart. ⊎_elim
          (λ t. subst (λ l. Rising l) (sym t.1) (rising_put r (s.requests key) (subst (λ q. Rising (s.requests q)) (sym t.0) f) apart))
          (λ e. subst (λ l. Rising l) (sym e) f)
          (cases k);
      notes = c.shelf;
    }

-- what is the same tracks the same
pub same_tracks : (loaded : Rows) (h : History) (old new : Accesses) → Same old new → Tracks loaded (seen_of old) h → Tracks loaded (seen_of new) h
same_tracks loaded h old new c t =
    let s : Seen = seen_of old in
    let s' : Seen = seen_of new in
    record {
      owned = λ g i u. subst (λ l. IsIn (owner_of g) l) (sym (c.lines g.key)) (t.owned g i u);
      queued = λ a i. subst (λ l. IsIn (waiter_of a) l) (sym (c.lines a.key)) (t.queued a i);
      real = λ k x i. t.real k x (subst (λ l. IsIn x l) (c.lines k) i);
      rising = λ k. subst (λ l. Rising l) (sym (c.lines k)) (t.rising k);
      stamped = λ g i u. ap (λ (p : Held). p.stamp) (c.shelf.holds g.who) ∙ t.stamped g i u;
      stamped_waiter = λ a i. ap (λ (p : Held). p.stamp) (c.shelf.holds a.who) ∙ t.stamped_waiter a i;
      kept = keeps_reserved t.kept c.shelf;
      waiting = c.waiting ∙ t.waiting;
    }

module _ (loaded : Rows) (h : History) (known : Known loaded h) (traced : Traced h) (who : Attempt) (stamp : ℕ) (key : Key) (mode : Mode) (may : MayAsk loaded h who stamp key) where
  -- no unended attempt that asked for the key has the stamp
  stamp_apart : (a : Asked) → IsIn a (asks h) → IsUnended h a.who → a.key ≡ key → a.stamp ≢ stamp
  stamp_apart a i u k e = may.own_stamp a i (λ same. u (known.stops a.who (may.others a i same (λ one. may.once a i one k)))) e

  -- whose request it is
  asked_by : (s : Seen) → Tracks loaded s h → (x : Request) → IsIn x (s.requests key) → (a : Asked) × IsIn a (asks h) × IsUnended h a.who × (a.key ≡ key) × (a.who ≡ x.who) × (a.stamp ≡ x.stamp)
  asked_by s t x i = ⊎_elim
      (λ (o : IsOwner h key x). let a = traced.asked o.grant o.there in (a.0, a.1, subst (λ w. IsUnended h w) (sym a.2) o.unended, a.3 ∙ o.here, a.2 ∙ sym (ap (λ (y : Request). y.who) o.same), a.5 ∙ sym (ap (λ (y : Request). y.stamp) o.same)))
      (λ (w : IsWaiter h key x). (w.asked, known.asked w.asked w.there, known.unended w.asked w.there, w.here, sym (ap (λ (y : Request). y.who) w.same), sym (ap (λ (y : Request). y.stamp) w.same)))
      (t.real key x i)

  request_apart : (s : Seen) → Tracks loaded s h → (x : Request) → IsIn x (s.requests key) → x.stamp ≢ stamp
  request_apart s t x i e = let a = asked_by s t x i in stamp_apart a.0 a.1 a.2 a.3 (a.5 ∙ e)

  -- the attempt has no request for the key
  pub none_here : (s : Seen) → Tracks loaded s h → (x : Request) → IsIn x (s.requests key) → x.who ≢ who
  none_here s t x i e = let a = asked_by s t x i in may.once a.0 a.1 (a.4 ∙ e) a.3

  -- the asker's own stamp
  own_stamp : (a : Asked) → IsIn a (asks h) → a.who ≡ who → a.stamp ≡ stamp
  own_stamp a i e = may.same_stamp a i e

  stamp_on : (s s' : Seen) (r : Request) → Grew key r s s' → r.who ≡ who → r.stamp ≡ stamp → (x : Attempt) (n : ℕ) → (x ≡ who → n ≡ stamp) → (held s.shelf x).stamp ≡ n → (held s'.shelf x).stamp ≡ n
  stamp_on s s' r g w st x n own e = ⊎_elim
      (λ t. subst (λ z. (held s'.shelf z).stamp ≡ n) t.1 (stamp_here r.who r.stamp key s.shelf s'.shelf g.notes ∙ st ∙ sym (own (sym t.1 ∙ w))))
      (λ f. stamp_there r.who r.stamp key s.shelf s'.shelf g.notes x f.1 ∙ e)
      (attempt_tells r.who x)

  -- it is granted
  pub ask_granted : (s s' : Seen) (row : Row) (version : Number) (bound : ℕ) → Tracks loaded s h → Grew key (record { who = who; stamp = stamp; mode = mode; waits = false }) s s' → s'.waiting ≡ s.waiting → Tracks loaded s' (Ask who stamp key mode (Granted row version bound) ∷ h)
  ask_granted s s' row version bound t g w =
      let mine : Grant = record { who = who; stamp = stamp; key = key; mode = mode; row = row; version = version } in
      let r : Request = record { who = who; stamp = stamp; mode = mode; waits = false } in
      record {
        owned = λ x i u. ⊎_elim (λ e. subst (λ (z : Grant). IsIn (owner_of z) (s'.requests z.key)) (sym e) g.new) (λ j. g.more x.key (owner_of x) (t.owned x j u)) i;
        queued = λ a i. g.more a.key (waiter_of a) (t.queued a i);
        real = λ k x i. ⊎_elim
            (λ n. inl (record { grant = mine; there = inl refl; unended = may.unended; here = n.1; same = n.0 }))
            (λ j. ⊎_elim
            (λ (o : IsOwner h k x). inl (record { grant = o.grant; there = inr o.there; unended = o.unended; here = o.here; same = o.same }))
            (λ (q : IsWaiter h k x). inr (record { asked = q.asked; there = q.there; here = q.here; same = q.same }))
            (t.real k x j))
            (g.only k x i);
        rising = λ k. g.rising k (t.rising k) (request_apart s t);
        stamped = λ x i u. ⊎_elim
            (λ e. subst (λ (z : Grant). (held s'.shelf z.who).stamp ≡ z.stamp) (sym e) (stamp_here who stamp key s.shelf s'.shelf g.notes))
            (λ j. let a = traced.asked x j in stamp_on s s' r g refl refl x.who x.stamp (λ e. sym a.5 ∙ own_stamp a.0 a.1 (a.2 ∙ e)) (t.stamped x j u))
            i;
        stamped_waiter = λ a i. stamp_on s s' r g refl refl a.who a.stamp (λ e. own_stamp a (known.asked a i) e) (t.stamped_waiter a i);
        kept = keeps_granted t.kept g.notes;
        waiting = w ∙ t.waiting;
      }

  -- it waits
  pub ask_waits : (s s' : Seen) → Tracks loaded s h → Grew key (record { who = who; stamp = stamp; mode = mode; waits = true }) s s' → s'.waiting ≡ s.waiting + 1 → Tracks loaded s' (Ask who stamp key mode Waits ∷ h)
  ask_waits s s' t g w =
      let mine : Asked = record { who = who; stamp = stamp; key = key; mode = mode } in
      let r : Request = record { who = who; stamp = stamp; mode = mode; waits = true } in
      record {
        owned = λ x i u. g.more x.key (owner_of x) (t.owned x i u);
        queued = λ a i. ⊎_elim (λ e. subst (λ (z : Asked). IsIn (waiter_of z) (s'.requests z.key)) (sym e) g.new) (λ j. g.more a.key (waiter_of a) (t.queued a j)) i;
        real = λ k x i. ⊎_elim
            (λ n. inr (record { asked = mine; there = inl refl; here = n.1; same = n.0 }))
            (λ j. ⊎_elim
            (λ (o : IsOwner h k x). inl (record { grant = o.grant; there = o.there; unended = o.unended; here = o.here; same = o.same }))
            (λ (q : IsWaiter h k x). inr (record { asked = q.asked; there = inr q.there; here = q.here; same = q.same }))
            (t.real k x j))
            (g.only k x i);
        rising = λ k. g.rising k (t.rising k) (request_apart s t);
        stamped = λ x i u. let a = traced.asked x i in stamp_on s s' r g refl refl x.who x.stamp (λ e. sym a.5 ∙ own_stamp a.0 a.1 (a.2 ∙ e)) (t.stamped x i u);
        stamped_waiter = λ a i. ⊎_elim
            (λ e. subst (λ (z : Asked). (held s'.shelf z.who).stamp ≡ z.stamp) (sym e) (stamp_here who stamp key s.shelf s'.shelf g.notes))
            (λ j. stamp_on s s' r g refl refl a.who a.stamp (λ e. own_stamp a (known.asked a j) e) (t.stamped_waiter a j))
            i;
        kept = keeps_waiting t.kept g.notes;
        waiting = let e = t.waiting in omega (arith, w, e);
      }

  -- it is refused
  pub ask_refused : (s : Seen) (cause : Cause) → Tracks loaded s h → Tracks loaded s (Ask who stamp key mode (Refused cause) ∷ h)
  ask_refused s cause t = record {
    owned = t.owned;
    queued = t.queued;
    real = λ k x i. ⊎_elim
        (λ (o : IsOwner h k x). inl (record { grant = o.grant; there = o.there; unended = o.unended; here = o.here; same = o.same }))
        (λ (q : IsWaiter h k x). inr (record { asked = q.asked; there = q.there; here = q.here; same = q.same }))
        (t.real k x i);
    rising = t.rising;
    stamped = t.stamped;
    stamped_waiter = t.stamped_waiter;
    kept = keeps_refused t.kept;
    waiting = t.waiting;
  }
