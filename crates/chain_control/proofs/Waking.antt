-- The table tracks the history whose last call woke waiters.
use Rattle.std.proofs.Common.{◌≡◌, ◌≢◌, ◌⊎◌, ℕ, ◌+◌, List, [], ◌∷◌, map, filter, Bool, true, false, cond, length, refl, sym, ap, ◌∙◌, subst, inl, inr, ⊎_elim, arith, Option, Some, None, true≢false}
use Rattle.deneva_base.specs.declared.keys.Key.{Key}
use Rattle.deneva_base.specs.declared.numbers.Number.{Number}
use Rattle.deneva_base.specs.Lists.{IsIn, sort}
use Rattle.deneva_base.specs.Rows.{Rows}
use Rattle.deneva_base.specs.Keys.{attempt_eq}
use Rattle.protocol_rules.specs.History.{History, Asked, Grant, grant_of, waits, is_woken}
use Rattle.protocol_rules.specs.Latest.{Version}
use Rattle.protocol_rules.specs.Order.{by_rising_stamp}
use Rattle.protocol_rules.specs.Versions.{below}
use Rattle.protocol_rules.specs.Waiting.{wake_of}
use Rattle.deneva_base.proofs.Membership.{in_map, in_map_from, attempt_tells}
use Rattle.protocol_rules.proofs.Known.{Known}
use Rattle.chain_control.specs.declared.requests.Request.{Request}
use Rattle.chain_control.specs.declared.requests.Waiter.{Waiter}
use Rattle.chain_control.specs.Requests.{grants_to}
use Rattle.key_table.specs.Keys.{same_key}
use Rattle.shelf.specs.Keeps.{KeepsRows}
use Rattle.shelf.proofs.Keeps.{keeps_resumed}
use Rattle.shelf.proofs.Resuming.{Wakens, Resumed, resumed}
use Rattle.std.proofs.lemmas.List.{length-map}
use Rattle.chain_control.specs.Standing.{State, requests_in, owner_of, waiter_of, IsOwner, IsWaiter, StampsRise, Tracks}
use Rattle.key_table.proofs.Places.{same_tells}
use Rattle.chain_control.proofs.Puts.{rise_map}
use Rattle.chain_control.proofs.Tabling.{granted_by}

abbrev pub granted : Request → Request
granted r = record { who = r.who; stamp = r.stamp; mode = r.mode; waits = None }

abbrev with_waits : Request → Option Number → Request
with_waits r w = record { who = r.who; stamp = r.stamp; mode = r.mode; waits = w }

-- one that is granted stays so
pub by_owner : (ws : List Waiter) (key : Key) (r : Request) → r.waits ≡ None → granted_by ws key r ≡ r
by_owner [] key r e = refl
by_owner (w ∷ ws) key r e = ap (granted_by ws key) (go (same_key w.key key)) ∙ by_owner ws key r e
  where
    none : (b : Bool) → cond b None r.waits ≡ r.waits
    none true = sym e
    none false = refl

    go : (b : Bool) → cond b (grants_to w.who r) r ≡ r
    go true = ap (with_waits r) (none (attempt_eq r.who w.who))
    go false = refl

-- a waiter of the list is granted
pub by_hit : (ws : List Waiter) (key : Key) (r : Request) (w : Waiter) → IsIn w ws → w.key ≡ key → w.who ≡ r.who → granted_by ws key r ≡ granted r
by_hit [] key r w i k e = absurd i
by_hit (x ∷ ws) key r w i k e = ⊎_elim
    (λ (s : w ≡ x).
    let here : same_key x.key key ≡ true = ⊎_elim (λ t. t.0) (λ f. absurd (f.1 (ap (λ (z : Waiter). z.key) (sym s) ∙ k))) (same_tells x.key key) in
    let mine : attempt_eq r.who x.who ≡ true = ⊎_elim (λ t. t.0) (λ f. absurd (f.1 (sym e ∙ ap (λ (z : Waiter). z.who) s))) (attempt_tells r.who x.who) in
    ap (λ b. granted_by ws key (cond b (grants_to x.who r) r)) here ∙ ap (λ b. granted_by ws key (with_waits r (cond b None r.waits))) mine ∙ by_owner ws key (granted r) refl)
    (λ j. go (same_key x.key key) (attempt_eq r.who x.who) refl (by_hit ws key r w j k e))
    i
  where
    go : (b c : Bool) → attempt_eq r.who x.who ≡ c → granted_by ws key r ≡ granted r → granted_by ws key (cond b (grants_to x.who r) r) ≡ granted r
    go false c s rest = rest
    go true true s rest = ap (λ b. granted_by ws key (with_waits r (cond b None r.waits))) s ∙ by_owner ws key (granted r) refl
    go true false s rest = ap (λ b. granted_by ws key (with_waits r (cond b None r.waits))) s ∙ rest

-- and no other
pub by_miss : (ws : List Waiter) (key : Key) (r : Request) → ((w : Waiter) → IsIn w ws → w.key ≡ key → w.who ≢ r.who) → granted_by ws key r ≡ r
by_miss [] key r n = refl
by_miss (x ∷ ws) key r n = ⊎_elim
    (λ t.
    let other : attempt_eq r.who x.who ≡ false = ⊎_elim (λ s. absurd (n x (inl refl) t.1 (sym s.1))) (λ f. f.0) (attempt_tells r.who x.who) in
    ap (λ b. granted_by ws key (cond b (grants_to x.who r) r)) t.0 ∙ ap (λ b. granted_by ws key (with_waits r (cond b None r.waits))) other ∙ by_miss ws key r (λ w i. n w (inr i)))
    (λ f. ap (λ b. granted_by ws key (cond b (grants_to x.who r) r)) f.0 ∙ by_miss ws key r (λ w i. n w (inr i)))
    (same_tells x.key key)

pub by_stamp : (ws : List Waiter) (key : Key) (r : Request) → (granted_by ws key r).stamp ≡ r.stamp
by_stamp [] key r = refl
by_stamp (x ∷ ws) key r = go (same_key x.key key) (λ q. by_stamp ws key q)
  where
    go : (b : Bool) → ((q : Request) → (granted_by ws key q).stamp ≡ q.stamp) → (granted_by ws key (cond b (grants_to x.who r) r)).stamp ≡ r.stamp
    go true rest = rest (grants_to x.who r)
    go false rest = rest r

-- what is woken of an access
abbrev pub to_waiter : Rows → History → Asked → Waiter
to_waiter loaded h1 a = record { who = a.who; stamp = a.stamp; key = a.key; version = (below loaded h1 a.key a.stamp).number }

module _ (loaded : Rows) (h1 h2 : History) (known : Known loaded h1) (p : Asked → Bool) (w : Wakens loaded h1 h2 (map (wake_of loaded h1) (sort by_rising_stamp (filter p (waits h1)))))
    (below_same : (key : Key) (stamp : ℕ) → ◌≡◌ {A = Version} (below loaded h2 key stamp) (below loaded h1 key stamp)) where
  abbrev pub woken : List Asked
  woken = sort by_rising_stamp (filter p (waits h1))

  on : Resumed loaded h1 h2 (wake_of loaded h1) (sort by_rising_stamp (filter p (waits h1)))
  on = resumed (wake_of loaded h1) (λ a. refl) (λ a. refl) by_rising_stamp p loaded h1 h2 known w

  abbrev pub ws : List Waiter
  ws = map (to_waiter loaded h1) woken

  pub hit : (a : Asked) → IsIn a woken → granted_by ws a.key (waiter_of loaded h1 a) ≡ granted (waiter_of loaded h1 a)
  hit a i = by_hit ws a.key (waiter_of loaded h1 a) (to_waiter loaded h1 a) (in_map (to_waiter loaded h1) a woken i) refl refl

  pub miss : (a : Asked) → IsIn a (waits h1) → is_woken (map (wake_of loaded h1) woken) a ≡ false → granted_by ws a.key (waiter_of loaded h1 a) ≡ waiter_of loaded h1 a
  miss a i e = by_miss ws a.key (waiter_of loaded h1 a) (λ x j k s. let b = in_map_from (to_waiter loaded h1) x woken j in true≢false (sym (on.at_woken a (subst (λ z. IsIn z woken) (known.alone b.0 a (on.less b.0 b.1) i (sym (ap (λ (z : Waiter). z.who) b.2) ∙ s)) b.1)) ∙ e))

  waiter_same : (a : Asked) → waiter_of loaded h2 a ≡ waiter_of loaded h1 a
  waiter_same a = ap (λ (v : Version). record { who = a.who; stamp = a.stamp; mode = a.mode; waits = Some v.number }) (below_same a.key a.stamp)

  pub wake_tracks : (s s' : State) → Tracks loaded s h1
      → ((k : Key) → requests_in (s'.chains k) ≡ map (granted_by ws k) (requests_in (s.chains k)))
      → s'.shelf ≡ s.shelf → s'.waiting + length ws ≡ s.waiting
      → Tracks loaded s' h2
  wake_tracks s s' t rs shelf waiting =
      let there : (k : Key) (x : Request) → IsIn x (requests_in (s.chains k)) → IsIn (granted_by ws k x) (requests_in (s'.chains k)) = λ k x i. subst (λ l. IsIn (granted_by ws k x) l) (sym (rs k)) (in_map (granted_by ws k) x (requests_in (s.chains k)) i) in
      record {
        owned = λ g i u. ⊎_elim
            (λ n. subst (λ (z : Grant). IsIn (owner_of z) (requests_in (s'.chains z.key))) (sym n.2) (subst (λ r. IsIn r (requests_in (s'.chains n.0.key))) (hit n.0 n.1) (there n.0.key (waiter_of loaded h1 n.0) (t.queued n.0 (on.less n.0 n.1)))))
            (λ j. subst (λ r. IsIn r (requests_in (s'.chains g.key))) (by_owner ws g.key (owner_of g) refl) (there g.key (owner_of g) (t.owned g j (on.unended g.who u))))
            (on.cases g i);
        queued = λ a i. let j = on.still_waits a i in subst (λ r. IsIn r (requests_in (s'.chains a.key))) (miss a j.0 j.1 ∙ sym (waiter_same a)) (there a.key (waiter_of loaded h1 a) (t.queued a j.0));
        real = λ k y i. real k y (in_map_from (granted_by ws k) y (requests_in (s.chains k)) (subst (λ l. IsIn y l) (rs k) i));
        stamps_rise = λ k. subst (λ l. StampsRise l) (sym (rs k)) (rise_map (granted_by ws k) (requests_in (s.chains k)) (by_stamp ws k) (t.stamps_rise k));
        kept = subst (λ x. KeepsRows true loaded x h2) (sym shelf) (keeps_resumed t.kept on.resumes);
        waiting = let few = on.fewer in let all = length-map woken (to_waiter loaded h1) in let before = t.waiting in omega (arith, few, all, before, waiting);
      }
    where
      real : (k : Key) (y : Request) → (x : Request) × IsIn x (requests_in (s.chains k)) × (y ≡ granted_by ws k x) → IsOwner h2 k y ⊎ IsWaiter loaded h2 k y
      real k y f = ⊎_elim
          (λ (o : IsOwner h1 k f.0). inl (record { grant = o.grant; there = on.old_grant o.grant o.there; unended = on.unended_on o.grant.who o.unended; here = o.here; same = f.2 ∙ by_owner ws k f.0 (ap (λ (r : Request). r.waits) o.same) ∙ o.same }))
          (λ (q : IsWaiter loaded h1 k f.0). waiter q.asked q.there q.here (f.2 ∙ ap (granted_by ws k) q.same) (is_woken (map (wake_of loaded h1) woken) q.asked) refl)
          (t.real k f.0 f.1)
        where
          waiter : (a : Asked) → IsIn a (waits h1) → a.key ≡ k → y ≡ granted_by ws k (waiter_of loaded h1 a) → (b : Bool) → is_woken (map (wake_of loaded h1) woken) a ≡ b → IsOwner h2 k y ⊎ IsWaiter loaded h2 k y
          waiter a i e is true b =
              let j = on.woken_at a i b in
              inl (record { grant = grant_of (wake_of loaded h1 a) a; there = on.new_grant a j; unended = on.unended_on a.who (known.unended a i); here = e; same = is ∙ ap (λ q. granted_by ws q (waiter_of loaded h1 a)) (sym e) ∙ hit a j })
          waiter a i e is false b =
              inr (record { asked = a; there = on.waits_on a i b; here = e; same = is ∙ ap (λ q. granted_by ws q (waiter_of loaded h1 a)) (sym e) ∙ miss a i b ∙ sym (waiter_same a) })
