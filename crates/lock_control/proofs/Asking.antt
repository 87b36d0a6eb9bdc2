-- The table tracks the history with one more Ask.
use Rattle.std.proofs.Common.{◌≡◌, ◌≢◌, ◌⊎◌, ℕ, ◌≤◌, ◌+◌, ◌∷◌, Bool, true, false, cond, refl, sym, ap, ◌∙◌, subst, inl, inr, ⊎_elim, arith}
use Rattle.deneva_base.specs.declared.keys.Key.{Key}
use Rattle.deneva_base.specs.declared.keys.Mode.{Mode}
use Rattle.deneva_base.specs.declared.numbers.Attempt.{Attempt}
use Rattle.deneva_base.specs.declared.numbers.Number.{Number}
use Rattle.deneva_base.specs.declared.causes.Cause.{Cause}
use Rattle.deneva_base.specs.declared.answers.Answer.TheVariants.{Granted, Waits, Refused}
use Rattle.deneva_base.specs.Lists.{IsIn}
use Rattle.deneva_base.specs.Rows.{Row, Rows}
use Rattle.protocol_rules.specs.Conditions.{MayAsk}
use Rattle.deneva_base.specs.Modes.{writes}
use Rattle.protocol_rules.specs.History.{Ask, History, Asked, Grant, Decided, asks, grants, decided, ended, IsUnended}
use Rattle.protocol_rules.proofs.Sound.{Sound}
use Rattle.protocol_rules.proofs.Known.{Known}
use Rattle.protocol_rules.proofs.Traced.{Traced}
use Rattle.lock_control.specs.declared.requests.Request.{Request}
use Rattle.lock_control.specs.declared.table.Table.{Table}
use Rattle.lock_control.specs.Seen.{Locks}
use Rattle.lock_control.specs.Locks.{with_request}
use Rattle.key_table.specs.Keys.{same_key}
use Rattle.shelf.specs.Shelves.{Notes}
use Rattle.shelf.proofs.Keeps.{keeps_granted, keeps_waiting, keeps_refused}
use Rattle.lock_control.specs.Changes.{Adds}
use Rattle.lock_control.specs.Standing.{State, state_of, owner_of, waiter_of, IsOwner, IsWaiter, IsTop, any_mode, Falling, Tracks}
use Rattle.key_table.proofs.Places.{same_tells, same_self, at_place}
use Rattle.lock_control.proofs.Puts.{put_in, in_put, falling_put}

-- what one more request gives
pub record Grew (key : Key) (r : Request) (s s' : State) : Type 0 where
  pub more : (k : Key) (x : Request) → IsIn x (s.locks k).requests → IsIn x (s'.locks k).requests
  pub new : IsIn r (s'.locks key).requests
  pub only : (k : Key) (x : Request) → IsIn x (s'.locks k).requests → ((x ≡ r) × (key ≡ k)) ⊎ IsIn x (s.locks k).requests
  pub falling : (k : Key) → Falling (s.locks k).requests → ((x : Request) → IsIn x (s.locks key).requests → x.stamp ≢ r.stamp) → Falling (s'.locks k).requests
  pub accessed : (k : Key) → (s'.locks k).accessed ≡ (s.locks k).accessed
  pub written : (k : Key) → (s'.locks k).written ≡ (s.locks k).written
  pub notes : Notes r.who r.stamp key s.shelf s'.shelf

pub grew : (key : Key) (r : Request) (n : ℕ) (old new : Table) → Adds key r n old new → Grew key r (state_of old) (state_of new)
grew key r n old new c =
    let s : State = state_of old in
    let s' : State = state_of new in
    let cases = λ (k : Key). at_place same_key same_tells key k (s'.locks k) (with_request r (s.locks key)) (s.locks k) (c.locks k) in
    let here : s'.locks key ≡ with_request r (s.locks key) = c.locks key ∙ ap (λ x. cond x (with_request r (s.locks key)) (s.locks key)) (same_self same_key same_tells key) in
    record {
      more = λ k x i. ⊎_elim
          (λ t. subst (λ (l : Locks). IsIn x l.requests) (sym t.1) (in_put r x (s.locks key).requests (inr (subst (λ q. IsIn x (s.locks q).requests) (sym t.0) i))))
          (λ f. subst (λ (l : Locks). IsIn x l.requests) (sym f.1) i)
          (cases k);
      new = subst (λ (l : Locks). IsIn r l.requests) (sym here) (in_put r r (s.locks key).requests (inl refl));
      only = λ k x i. ⊎_elim
          (λ t. ⊎_elim (λ e. inl (e, t.0)) (λ j. inr (subst (λ q. IsIn x (s.locks q).requests) t.0 j)) (put_in r x (s.locks key).requests (subst (λ (l : Locks). IsIn x l.requests) t.1 i)))
          (λ f. inr (subst (λ (l : Locks). IsIn x l.requests) f.1 i))
          (cases k);
      falling = λ k o apart. ⊎_elim
          (λ t. subst (λ (l : Locks). Falling l.requests) (sym t.1) (falling_put r (s.locks key).requests (subst (λ q. Falling (s.locks q).requests) (sym t.0) o) apart))
          (λ f. subst (λ (l : Locks). Falling l.requests) (sym f.1) o)
          (cases k);
      accessed = λ k. ⊎_elim (λ t. ap (λ (l : Locks). l.accessed) t.1 ∙ ap (λ q. (s.locks q).accessed) t.0) (λ f. ap (λ (l : Locks). l.accessed) f.1) (cases k);
      written = λ k. ⊎_elim (λ t. ap (λ (l : Locks). l.written) t.1 ∙ ap (λ q. (s.locks q).written) t.0) (λ f. ap (λ (l : Locks). l.written) f.1) (cases k);
      notes = c.shelf;
    }

-- a top stays where no grant of a committed attempt is new
pub top_stays : (h h' : History) (key : Key) (passes : Mode → Bool) (n m : ℕ) → m ≡ n → decided h' ≡ decided h → ((g : Grant) → IsIn g (grants h) → IsIn g (grants h')) → ((g : Grant) (d : Decided) → IsIn g (grants h') → IsIn d (decided h) → g.who ≡ d.who → IsIn g (grants h)) → IsTop h key passes n → IsTop h' key passes m
top_stays h h' key passes n m same ds more less t = record {
  over = λ g d i j e f p. let j' = subst (λ l. IsIn d l) ds j in subst (λ z. d.number.n ≤ z) (sym same) (t.over g d (less g d i j' e) j' e f p);
  from = ⊎_elim (λ z. inl (same ∙ z)) (λ z. inr (z.0, z.1, more z.0 z.2, subst (λ l. IsIn z.1 l) (sym ds) z.3, z.4, z.5, z.6, same ∙ z.7)) t.from;
}

module _ (loaded : Rows) (h : History) (known : Known loaded h) (sound : Sound loaded h) (traced : Traced h) (who : Attempt) (stamp : ℕ) (key : Key) (mode : Mode) (may : MayAsk loaded h who stamp key) where
  -- no unended attempt that asked for the key has the stamp
  stamp_apart : (a : Asked) → IsIn a (asks h) → IsUnended h a.who → a.key ≡ key → a.stamp ≢ stamp
  stamp_apart a i u k e = may.own_stamp a i (λ same. u (known.stops a.who (may.others a i same (λ one. may.once a i one k)))) e

  request_apart : (s : State) → Tracks loaded s h → (x : Request) → IsIn x (s.locks key).requests → x.stamp ≢ stamp
  request_apart s t x i = ⊎_elim
      (λ (o : IsOwner h key x). let a = traced.asked o.grant o.there in λ e. stamp_apart a.0 a.1 (subst (λ w. IsUnended h w) (sym a.2) o.unended) (a.3 ∙ o.here) (a.5 ∙ sym (ap (λ (y : Request). y.stamp) o.same) ∙ e))
      (λ (w : IsWaiter h key x). λ e. stamp_apart w.asked (known.asked w.asked w.there) (known.unended w.asked w.there) w.here (sym (ap (λ (y : Request). y.stamp) w.same) ∙ e))
      (t.real key x i)

  -- it is granted
  pub ask_granted : (s s' : State) (row : Row) (version : Number) (bound : ℕ) → Tracks loaded s h → Grew key (record { who = who; stamp = stamp; mode = mode; waits = false }) s s' → s'.waiting ≡ s.waiting → Tracks loaded s' (Ask who stamp key mode (Granted row version bound) ∷ h)
  ask_granted s s' row version bound t g w =
      let mine : Grant = record { who = who; stamp = stamp; key = key; mode = mode; row = row; version = version } in
      let less : (x : Grant) (d : Decided) → IsIn x (mine ∷ grants h) → IsIn d (decided h) → x.who ≡ d.who → IsIn x (grants h) =
      λ x d i j e. ⊎_elim (λ is. absurd (may.unended (subst (λ a. IsIn a (ended h)) (sym e ∙ ap (λ (z : Grant). z.who) is) (sound.ends d j)))) (λ k. k) i in
      record {
        owned = λ x i u. ⊎_elim (λ e. subst (λ (z : Grant). IsIn (owner_of z) (s'.locks z.key).requests) (sym e) g.new) (λ j. g.more x.key (owner_of x) (t.owned x j u)) i;
        queued = λ a i. g.more a.key (waiter_of a) (t.queued a i);
        real = λ k x i. ⊎_elim
            (λ n. inl (record { grant = mine; there = inl refl; unended = may.unended; here = n.1; same = n.0 }))
            (λ j. ⊎_elim
            (λ (o : IsOwner h k x). inl (record { grant = o.grant; there = inr o.there; unended = o.unended; here = o.here; same = o.same }))
            (λ (q : IsWaiter h k x). inr (record { asked = q.asked; there = q.there; here = q.here; same = q.same }))
            (t.real k x j))
            (g.only k x i);
        falling = λ k. g.falling k (t.falling k) (request_apart s t);
        accessed = λ k. top_stays h (Ask who stamp key mode (Granted row version bound) ∷ h) k any_mode (s.locks k).accessed (s'.locks k).accessed (g.accessed k) refl (λ x i. inr i) less (t.accessed k);
        written = λ k. top_stays h (Ask who stamp key mode (Granted row version bound) ∷ h) k writes (s.locks k).written (s'.locks k).written (g.written k) refl (λ x i. inr i) less (t.written k);
        kept = keeps_granted t.kept g.notes;
        waiting = w ∙ t.waiting;
      }

  -- it waits
  pub ask_waits : (s s' : State) → Tracks loaded s h → Grew key (record { who = who; stamp = stamp; mode = mode; waits = true }) s s' → s'.waiting ≡ s.waiting + 1 → Tracks loaded s' (Ask who stamp key mode Waits ∷ h)
  ask_waits s s' t g w =
      let mine : Asked = record { who = who; stamp = stamp; key = key; mode = mode } in
      record {
        owned = λ x i u. g.more x.key (owner_of x) (t.owned x i u);
        queued = λ a i. ⊎_elim (λ e. subst (λ (z : Asked). IsIn (waiter_of z) (s'.locks z.key).requests) (sym e) g.new) (λ j. g.more a.key (waiter_of a) (t.queued a j)) i;
        real = λ k x i. ⊎_elim
            (λ n. inr (record { asked = mine; there = inl refl; here = n.1; same = n.0 }))
            (λ j. ⊎_elim
            (λ (o : IsOwner h k x). inl (record { grant = o.grant; there = o.there; unended = o.unended; here = o.here; same = o.same }))
            (λ (q : IsWaiter h k x). inr (record { asked = q.asked; there = inr q.there; here = q.here; same = q.same }))
            (t.real k x j))
            (g.only k x i);
        falling = λ k. g.falling k (t.falling k) (request_apart s t);
        accessed = λ k. top_stays h (Ask who stamp key mode Waits ∷ h) k any_mode (s.locks k).accessed (s'.locks k).accessed (g.accessed k) refl (λ x i. i) (λ x d i j e. i) (t.accessed k);
        written = λ k. top_stays h (Ask who stamp key mode Waits ∷ h) k writes (s.locks k).written (s'.locks k).written (g.written k) refl (λ x i. i) (λ x d i j e. i) (t.written k);
        kept = keeps_waiting t.kept g.notes;
        waiting = let e = t.waiting in omega (arith, w, e);
      }

  -- it is refused
  pub ask_refused : (s : State) (cause : Cause) → Tracks loaded s h → Tracks loaded s (Ask who stamp key mode (Refused cause) ∷ h)
  ask_refused s cause t = record {
    owned = t.owned;
    queued = t.queued;
    real = λ k x i. ⊎_elim
        (λ (o : IsOwner h k x). inl (record { grant = o.grant; there = o.there; unended = o.unended; here = o.here; same = o.same }))
        (λ (q : IsWaiter h k x). inr (record { asked = q.asked; there = q.there; here = q.here; same = q.same }))
        (t.real k x i);
    falling = t.falling;
    accessed = λ k. record { over = (t.accessed k).over; from = (t.accessed k).from };
    written = λ k. record { over = (t.written k).over; from = (t.written k).from };
    kept = keeps_refused t.kept;
    waiting = t.waiting;
  }
