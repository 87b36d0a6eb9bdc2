-- The table tracks the history with one more Ask.
use Rattle.std.proofs.Common.{◌≡◌, ◌≢◌, ◌⊎◌, ℕ, ◌+◌, ◌∷◌, Bool, true, false, cond, refl, sym, ap, ◌∙◌, subst, inl, inr, ⊎_elim, arith, Option, Some, None, option_map}
use Rattle.deneva_base.specs.declared.keys.Key.{Key}
use Rattle.deneva_base.specs.declared.keys.Mode.{Mode}
use Rattle.deneva_base.specs.declared.numbers.Attempt.{Attempt}
use Rattle.deneva_base.specs.declared.numbers.Number.{Number}
use Rattle.deneva_base.specs.declared.causes.Cause.{Cause}
use Rattle.deneva_base.specs.declared.answers.Answer.TheVariants.{Granted, Waits, Refused}
use Rattle.deneva_base.specs.Lists.{IsIn}
use Rattle.deneva_base.specs.Rows.{Row, Rows}
use Rattle.protocol_rules.specs.Conditions.{MayAsk}
use Rattle.deneva_base.specs.Modes.{reads}
use Rattle.protocol_rules.specs.History.{Ask, History, Asked, Grant, asks, IsUnended}
use Rattle.protocol_rules.proofs.Known.{Known}
use Rattle.protocol_rules.proofs.Traced.{Traced}
use Rattle.chain_control.specs.declared.requests.Request.{Request}
use Rattle.chain_control.specs.declared.table.Table.{Table}
use Rattle.chain_control.specs.Requests.{put_request}
use Rattle.chain_control.specs.Chains.{Chain, marked, with_request, with_grant}
use Rattle.key_table.specs.Keys.{same_key}
use Rattle.shelf.specs.Shelves.{Notes}
use Rattle.shelf.proofs.Keeps.{keeps_granted, keeps_waiting, keeps_refused}
use Rattle.chain_control.specs.Changes.{Grants, Waiting}
use Rattle.chain_control.specs.Standing.{State, state_of, requests_in, owner_of, waiter_of, IsOwner, IsWaiter, StampsRise, Tracks}
use Rattle.key_table.proofs.Places.{same_tells, same_self, at_place}
use Rattle.chain_control.proofs.Puts.{put_in, in_put, rise_put}

-- one more request
pub record More (key : Key) (r : Request) (s s' : State) : Type 0 where
  pub requests : (k : Key) → requests_in (s'.chains k) ≡ cond (same_key key k) (put_request r (requests_in (s.chains key))) (requests_in (s.chains k))
  pub notes : Notes r.who r.stamp key s.shelf s'.shelf

-- what it gives
pub record Grew (key : Key) (r : Request) (s s' : State) : Type 0 where
  pub more : (k : Key) (x : Request) → IsIn x (requests_in (s.chains k)) → IsIn x (requests_in (s'.chains k))
  pub new : IsIn r (requests_in (s'.chains key))
  pub only : (k : Key) (x : Request) → IsIn x (requests_in (s'.chains k)) → ((x ≡ r) × (key ≡ k)) ⊎ IsIn x (requests_in (s.chains k))
  pub rise : (k : Key) → StampsRise (requests_in (s.chains k)) → ((x : Request) → IsIn x (requests_in (s.chains key)) → x.stamp ≢ r.stamp) → StampsRise (requests_in (s'.chains k))

pub grew : (key : Key) (r : Request) (s s' : State) → More key r s s' → Grew key r s s'
grew key r s s' c =
    let here : requests_in (s'.chains key) ≡ put_request r (requests_in (s.chains key)) = c.requests key ∙ ap (λ x. cond x (put_request r (requests_in (s.chains key))) (requests_in (s.chains key))) (same_self same_key same_tells key) in
    record {
      more = λ k x i. ⊎_elim
          (λ t. subst (λ l. IsIn x l) (sym t.1) (in_put r x (requests_in (s.chains key)) (inr (subst (λ q. IsIn x (requests_in (s.chains q))) (sym t.0) i))))
          (λ e. subst (λ l. IsIn x l) (sym e.1) i)
          (cases k);
      new = subst (λ l. IsIn r l) (sym here) (in_put r r (requests_in (s.chains key)) (inl refl));
      only = λ k x i. ⊎_elim
          (λ t. ⊎_elim (λ e. inl (e, t.0)) (λ j. inr (subst (λ q. IsIn x (requests_in (s.chains q))) t.0 j)) (put_in r x (requests_in (s.chains key)) (subst (λ l. IsIn x l) t.1 i)))
          (λ e. inr (subst (λ l. IsIn x l) e.1 i))
          (cases k);
      rise = λ k f apart. ⊎_elim
          (λ t. subst (λ l. StampsRise l) (sym t.1) (rise_put r (requests_in (s.chains key)) (subst (λ q. StampsRise (requests_in (s.chains q))) (sym t.0) f) apart))
          (λ e. subst (λ l. StampsRise l) (sym e.1) f)
          (cases k);
    }
  where
    cases : (k : Key) → ((key ≡ k) × (requests_in (s'.chains k) ≡ put_request r (requests_in (s.chains key)))) ⊎ ((key ≢ k) × (requests_in (s'.chains k) ≡ requests_in (s.chains k)))
    cases k = at_place same_key same_tells key k (requests_in (s'.chains k)) (put_request r (requests_in (s.chains key))) (requests_in (s.chains k)) (c.requests k)

-- the chain of a key with one more request
pub granted_requests : (version : Number) (r : Request) (c : Chain) → (with_grant version r c).requests ≡ put_request r c.requests
granted_requests version r c = go (reads r.mode)
  where
    go : (b : Bool) → (cond b (marked version r.stamp (with_request r c)) (with_request r c)).requests ≡ put_request r c.requests
    go true = refl
    go false = refl

pub in_cond : (b : Bool) (x y : Option Chain) → requests_in (cond b x y) ≡ cond b (requests_in x) (requests_in y)
in_cond true x y = refl
in_cond false x y = refl

pub grants_more : (key : Key) (version : Number) (r : Request) (c : Chain) (old new : Table) → (state_of old).chains key ≡ Some c → Grants key version r old new → More key r (state_of old) (state_of new)
grants_more key version r c old new there g = record {
  requests = λ k.
      ap requests_in (g.lines k)
      ∙ in_cond (same_key key k) (option_map (with_grant version r) ((state_of old).chains key)) ((state_of old).chains k)
      ∙ ap (λ x. cond (same_key key k) x (requests_in ((state_of old).chains k))) (ap (λ x. requests_in (option_map (with_grant version r) x)) there ∙ granted_requests version r c ∙ ap (λ x. put_request r (requests_in x)) (sym there));
  notes = g.shelf;
}

pub waits_more : (key : Key) (r : Request) (c : Chain) (old new : Table) → (state_of old).chains key ≡ Some c → Waiting key r old new → More key r (state_of old) (state_of new)
waits_more key r c old new there g = record {
  requests = λ k.
      ap requests_in (g.lines k)
      ∙ in_cond (same_key key k) (option_map (with_request r) ((state_of old).chains key)) ((state_of old).chains k)
      ∙ ap (λ x. cond (same_key key k) x (requests_in ((state_of old).chains k))) (ap (λ x. requests_in (option_map (with_request r) x)) there ∙ ap (λ x. put_request r (requests_in x)) (sym there));
  notes = g.shelf;
}

module _ (loaded : Rows) (h : History) (known : Known loaded h) (traced : Traced h) (who : Attempt) (stamp : ℕ) (key : Key) (mode : Mode) (may : MayAsk loaded h who stamp key) where
  -- no unended attempt that asked for the key has the stamp
  stamp_apart : (a : Asked) → IsIn a (asks h) → IsUnended h a.who → a.key ≡ key → a.stamp ≢ stamp
  stamp_apart a i u k e = may.own_stamp a i (λ same. u (known.stops a.who (may.others a i same (λ one. may.once a i one k)))) e

  request_apart : (s : State) → Tracks loaded s h → (x : Request) → IsIn x (requests_in (s.chains key)) → x.stamp ≢ stamp
  request_apart s t x i = ⊎_elim
      (λ (o : IsOwner h key x). let a = traced.asked o.grant o.there in λ e. stamp_apart a.0 a.1 (subst (λ w. IsUnended h w) (sym a.2) o.unended) (a.3 ∙ o.here) (a.5 ∙ sym (ap (λ (y : Request). y.stamp) o.same) ∙ e))
      (λ (w : IsWaiter loaded h key x). λ e. stamp_apart w.asked (known.asked w.asked w.there) (known.unended w.asked w.there) w.here (sym (ap (λ (y : Request). y.stamp) w.same) ∙ e))
      (t.real key x i)

  -- it is granted
  pub ask_granted : (s s' : State) (row : Row) (version : Number) (bound : ℕ) → Tracks loaded s h → More key (record { who = who; stamp = stamp; mode = mode; waits = None }) s s' → s'.waiting ≡ s.waiting → Tracks loaded s' (Ask who stamp key mode (Granted row version bound) ∷ h)
  ask_granted s s' row version bound t m w =
      let mine : Grant = record { who = who; stamp = stamp; key = key; mode = mode; row = row; version = version } in
      let g = grew key (record { who = who; stamp = stamp; mode = mode; waits = None }) s s' m in
      record {
        owned = λ x i u. ⊎_elim (λ e. subst (λ (z : Grant). IsIn (owner_of z) (requests_in (s'.chains z.key))) (sym e) g.new) (λ j. g.more x.key (owner_of x) (t.owned x j u)) i;
        queued = λ a i. g.more a.key (waiter_of loaded h a) (t.queued a i);
        real = λ k x i. ⊎_elim
            (λ n. inl (record { grant = mine; there = inl refl; unended = may.unended; here = n.1; same = n.0 }))
            (λ j. ⊎_elim
            (λ (o : IsOwner h k x). inl (record { grant = o.grant; there = inr o.there; unended = o.unended; here = o.here; same = o.same }))
            (λ (q : IsWaiter loaded h k x). inr (record { asked = q.asked; there = q.there; here = q.here; same = q.same }))
            (t.real k x j))
            (g.only k x i);
        stamps_rise = λ k. g.rise k (t.stamps_rise k) (request_apart s t);
        kept = keeps_granted t.kept m.notes;
        waiting = w ∙ t.waiting;
      }

  -- it waits
  pub ask_waits : (s s' : State) → Tracks loaded s h → More key (waiter_of loaded h (record { who = who; stamp = stamp; key = key; mode = mode })) s s' → s'.waiting ≡ s.waiting + 1 → Tracks loaded s' (Ask who stamp key mode Waits ∷ h)
  ask_waits s s' t m w =
      let mine : Asked = record { who = who; stamp = stamp; key = key; mode = mode } in
      let g = grew key (waiter_of loaded h mine) s s' m in
      record {
        owned = λ x i u. g.more x.key (owner_of x) (t.owned x i u);
        queued = λ a i. ⊎_elim (λ e. subst (λ (z : Asked). IsIn (waiter_of loaded h z) (requests_in (s'.chains z.key))) (sym e) g.new) (λ j. g.more a.key (waiter_of loaded h a) (t.queued a j)) i;
        real = λ k x i. ⊎_elim
            (λ n. inr (record { asked = mine; there = inl refl; here = n.1; same = n.0 }))
            (λ j. ⊎_elim
            (λ (o : IsOwner h k x). inl (record { grant = o.grant; there = o.there; unended = o.unended; here = o.here; same = o.same }))
            (λ (q : IsWaiter loaded h k x). inr (record { asked = q.asked; there = inr q.there; here = q.here; same = q.same }))
            (t.real k x j))
            (g.only k x i);
        stamps_rise = λ k. g.rise k (t.stamps_rise k) (request_apart s t);
        kept = keeps_waiting t.kept m.notes;
        waiting = let e = t.waiting in omega (arith, w, e);
      }

  -- it is refused
  pub ask_refused : (s : State) (cause : Cause) → Tracks loaded s h → Tracks loaded s (Ask who stamp key mode (Refused cause) ∷ h)
  ask_refused s cause t = record {
    owned = t.owned;
    queued = t.queued;
    real = λ k x i. ⊎_elim
        (λ (o : IsOwner h k x). inl (record { grant = o.grant; there = o.there; unended = o.unended; here = o.here; same = o.same }))
        (λ (q : IsWaiter loaded h k x). inr (record { asked = q.asked; there = q.there; here = q.here; same = q.same }))
        (t.real k x i);
    stamps_rise = t.stamps_rise;
    kept = keeps_refused t.kept;
    waiting = t.waiting;
  }
