-- The table tracks the history whose last call woke the waiters at the front.
use Rattle.std.proofs.Common.{◌≡◌, ◌≢◌, ◌⊎◌, leb, List, [], ◌∷◌, map, filter, Bool, true, false, not, ◌&&◌, cond, refl, sym, ap, ◌∙◌, subst, inl, inr, ⊎_elim, arith, true≢false}
use Rattle.deneva_base.specs.declared.keys.Key.{Key}
use Rattle.deneva_base.specs.declared.numbers.Attempt.{Attempt}
use Rattle.deneva_base.specs.Lists.{IsIn}
use Rattle.deneva_base.specs.Rows.{Rows}
use Rattle.deneva_base.specs.Keys.{key_eq, attempt_eq}
use Rattle.deneva_base.specs.Modes.{writes}
use Rattle.protocol_rules.specs.History.{History, Asked, Grant, Decided, grant_of, grants, waits, decided, ended, is_woken}
use Rattle.protocol_rules.specs.Order.{by_falling_stamp}
use Rattle.deneva_base.specs.Lists.{sort}
use Rattle.protocol_rules.specs.WaitDie.{front, wake_of, wakes, none, is_free}
use Rattle.deneva_base.proofs.Membership.{in_map, in_map_from, attempt_tells}
use Rattle.protocol_rules.proofs.Sound.{Sound}
use Rattle.protocol_rules.proofs.Known.{Known}
use Rattle.lock_control.specs.declared.requests.Request.{Request}
use Rattle.lock_control.specs.declared.lines.Waiter.{Waiter}
use Rattle.lock_control.specs.declared.table.Table.{Table}
use Rattle.lock_control.specs.Requests.{grants_to}
use Rattle.lock_control.specs.Seen.{Locks}
use Rattle.lock_control.specs.Locks.{granted_in}
use Rattle.key_table.specs.Keys.{same_key}
use Rattle.lock_control.specs.Tables.{all_granted}
use Rattle.lock_control.specs.Changes.{Wakes}
use Rattle.lock_control.specs.Standing.{State, state_of, owner_of, waiter_of, IsOwner, IsWaiter, any_mode, Falling, Tracks}
use Rattle.shelf.specs.Keeps.{KeepsRows}
use Rattle.shelf.proofs.Keeps.{keeps_resumed}
use Rattle.shelf.proofs.Resuming.{Wakens, Resumed, resumed}
use Rattle.std.proofs.lemmas.List.{map-id, length-map}
use Rattle.shelf.proofs.Counting.{map_two}
use Rattle.key_table.proofs.Places.{same_tells}
use Rattle.lock_control.proofs.Asking.{top_stays}

-- a request after these are granted
abbrev pub granted_by : List Waiter → Key → Request → Request
granted_by [] key r = r
granted_by (w ∷ ws) key r = granted_by ws key (cond (same_key w.key key) (grants_to w.who r) r)

abbrev pub granted : Request → Request
granted r = record { who = r.who; stamp = r.stamp; mode = r.mode; waits = false }

pub granted_requests : (ws : List Waiter) (key : Key) (l : Locks) → (all_granted ws key l).requests ≡ map (granted_by ws key) l.requests
granted_requests [] key l = sym (map-id l.requests)
granted_requests (w ∷ ws) key l = go (same_key w.key key) (λ k. granted_requests ws key k)
  where
    go : (b : Bool) → ((k : Locks) → (all_granted ws key k).requests ≡ map (granted_by ws key) k.requests) → (all_granted ws key (cond b (granted_in w.who l) l)).requests ≡ map (λ r. granted_by ws key (cond b (grants_to w.who r) r)) l.requests
    go true rest = rest (granted_in w.who l) ∙ map_two (granted_by ws key) (grants_to w.who) l.requests
    go false rest = rest l

pub granted_accessed : (ws : List Waiter) (key : Key) (l : Locks) → ((all_granted ws key l).accessed ≡ l.accessed) × ((all_granted ws key l).written ≡ l.written)
granted_accessed [] key l = (refl, refl)
granted_accessed (w ∷ ws) key l = go (same_key w.key key) (λ k. granted_accessed ws key k)
  where
    go : (b : Bool) → ((k : Locks) → ((all_granted ws key k).accessed ≡ k.accessed) × ((all_granted ws key k).written ≡ k.written)) → ((all_granted ws key (cond b (granted_in w.who l) l)).accessed ≡ l.accessed) × ((all_granted ws key (cond b (granted_in w.who l) l)).written ≡ l.written)
    go true rest = rest (granted_in w.who l)
    go false rest = rest l

-- one that does not wait stays
grants_owner : (who : Attempt) (r : Request) → r.waits ≡ false → grants_to who r ≡ r
grants_owner who r e = ap (λ b. record { who = r.who; stamp = r.stamp; mode = r.mode; waits = b }) (go (attempt_eq r.who who))
  where
    go : (b : Bool) → (not b && r.waits) ≡ r.waits
    go true = sym e
    go false = refl

pub by_owner : (ws : List Waiter) (key : Key) (r : Request) → r.waits ≡ false → granted_by ws key r ≡ r
by_owner [] key r e = refl
by_owner (w ∷ ws) key r e = go (same_key w.key key) ∙ by_owner ws key r e
  where
    go : (b : Bool) → granted_by ws key (cond b (grants_to w.who r) r) ≡ granted_by ws key r
    go true = ap (granted_by ws key) (grants_owner w.who r e)
    go false = refl

-- one that is named is granted
pub by_hit : (ws : List Waiter) (key : Key) (r : Request) (w : Waiter) → IsIn w ws → w.key ≡ key → w.who ≡ r.who → granted_by ws key r ≡ granted r
by_hit [] key r w i k e = absurd i
by_hit (x ∷ ws) key r w i k e = ⊎_elim
    (λ is.
    let here : same_key x.key key ≡ true = ⊎_elim (λ t. t.0) (λ f. absurd (f.1 (sym (ap (λ (z : Waiter). z.key) is) ∙ k))) (same_tells x.key key) in
    let mine : attempt_eq r.who x.who ≡ true = ⊎_elim (λ t. t.0) (λ f. absurd (f.1 (sym e ∙ ap (λ (z : Waiter). z.who) is))) (attempt_tells r.who x.who) in
    ap (λ b. granted_by ws key (cond b (grants_to x.who r) r)) here ∙ ap (λ b. granted_by ws key (record { who = r.who; stamp = r.stamp; mode = r.mode; waits = not b && r.waits })) mine ∙ by_owner ws key (granted r) refl)
    (λ j. go (same_key x.key key) (attempt_eq r.who x.who) refl (by_hit ws key r w j k e))
    i
  where
    go : (b c : Bool) → attempt_eq r.who x.who ≡ c → granted_by ws key r ≡ granted r → granted_by ws key (cond b (grants_to x.who r) r) ≡ granted r
    go false c s rest = rest
    go true true s rest = ap (λ b. granted_by ws key (record { who = r.who; stamp = r.stamp; mode = r.mode; waits = not b && r.waits })) s ∙ by_owner ws key (granted r) refl
    go true false s rest = ap (λ b. granted_by ws key (record { who = r.who; stamp = r.stamp; mode = r.mode; waits = not b && r.waits })) s ∙ rest

-- and no other
pub by_miss : (ws : List Waiter) (key : Key) (r : Request) → ((w : Waiter) → IsIn w ws → w.key ≡ key → w.who ≢ r.who) → granted_by ws key r ≡ r
by_miss [] key r n = refl
by_miss (x ∷ ws) key r n = ⊎_elim
    (λ t.
    let other : attempt_eq r.who x.who ≡ false = ⊎_elim (λ s. absurd (n x (inl refl) t.1 (sym s.1))) (λ f. f.0) (attempt_tells r.who x.who) in
    ap (λ b. granted_by ws key (cond b (grants_to x.who r) r)) t.0 ∙ ap (λ b. granted_by ws key (record { who = r.who; stamp = r.stamp; mode = r.mode; waits = not b && r.waits })) other ∙ by_miss ws key r (λ w i. n w (inr i)))
    (λ f. ap (λ b. granted_by ws key (cond b (grants_to x.who r) r)) f.0 ∙ by_miss ws key r (λ w i. n w (inr i)))
    (same_tells x.key key)

pub by_stamp : (ws : List Waiter) (key : Key) (r : Request) → (granted_by ws key r).stamp ≡ r.stamp
by_stamp [] key r = refl
by_stamp (x ∷ ws) key r = go (same_key x.key key) (λ q. by_stamp ws key q)
  where
    go : (b : Bool) → ((q : Request) → (granted_by ws key q).stamp ≡ q.stamp) → (granted_by ws key (cond b (grants_to x.who r) r)).stamp ≡ r.stamp
    go true rest = rest (grants_to x.who r)
    go false rest = rest r

falling_map : (f : Request → Request) (rs : List Request) → ((r : Request) → (f r).stamp ≡ r.stamp) → Falling rs → Falling (map f rs)
falling_map f [] e a = tt
falling_map f (r ∷ rs) e a = ((λ x i. let b = in_map_from f x rs i in let less = a.0 b.0 b.1 in omega (arith, less, e r, e b.0, ap (λ (z : Request). z.stamp) b.2)), falling_map f rs e a.1)

abbrev pub to_waiter : Asked → Waiter
to_waiter a = record { who = a.who; stamp = a.stamp; key = a.key; mode = a.mode }

module _ (loaded : Rows) (h1 h2 : History) (known : Known loaded h1) (sound : Sound loaded h1) (same_decided : decided h2 ≡ decided h1) (w : Wakens loaded h1 h2 (wakes loaded h1)) where
  abbrev pub going : List Asked
  going = sort by_falling_stamp (front h1)

  abbrev pub ws : List Waiter
  ws = map to_waiter (sort by_falling_stamp (front h1))

  on : Resumed loaded h1 h2 (wake_of loaded h1) (sort by_falling_stamp (front h1))
  on = resumed (wake_of loaded h1) (λ a. refl) (λ a. refl) by_falling_stamp (λ a. none (filter (λ b. key_eq b.key a.key && (leb a.stamp b.stamp && not (is_free h1 b))) (waits h1))) loaded h1 h2 known w

  hit : (a : Asked) → IsIn a going → granted_by ws a.key (waiter_of a) ≡ granted (waiter_of a)
  hit a i = by_hit ws a.key (waiter_of a) (to_waiter a) (in_map to_waiter a going i) refl refl

  miss : (a : Asked) → IsIn a (waits h1) → is_woken (wakes loaded h1) a ≡ false → granted_by ws a.key (waiter_of a) ≡ waiter_of a
  miss a i e = by_miss ws a.key (waiter_of a) (λ x j k s. let b = in_map_from to_waiter x going j in true≢false (sym (on.at_woken a (subst (λ z. IsIn z going) (known.alone b.0 a (on.less b.0 b.1) i (sym (ap (λ (z : Waiter). z.who) b.2) ∙ s)) b.1)) ∙ e))

  no_late : (g : Grant) (d : Decided) → IsIn g (grants h2) → IsIn d (decided h1) → g.who ≡ d.who → IsIn g (grants h1)
  no_late g d i j e = ⊎_elim (λ n. absurd (known.unended n.0 (on.less n.0 n.1) (subst (λ x. IsIn x (ended h1)) (sym e ∙ ap (λ (z : Grant). z.who) n.2) (sound.ends d j)))) (λ k. k) (on.cases g i)

  pub wake_tracks : (old new : Table) → Tracks loaded (state_of old) h1 → Wakes ws old new → Tracks loaded (state_of new) h2
  wake_tracks old new t c =
      let s : State = state_of old in
      let s' : State = state_of new in
      let rs : (k : Key) → (s'.locks k).requests ≡ map (granted_by ws k) (s.locks k).requests = λ k. ap (λ (l : Locks). l.requests) (c.locks k) ∙ granted_requests ws k (s.locks k) in
      let there : (k : Key) (x : Request) → IsIn x (s.locks k).requests → IsIn (granted_by ws k x) (s'.locks k).requests = λ k x i. subst (λ l. IsIn (granted_by ws k x) l) (sym (rs k)) (in_map (granted_by ws k) x (s.locks k).requests i) in
      record {
        owned = λ g i u. ⊎_elim
            (λ n. subst (λ (z : Grant). IsIn (owner_of z) (s'.locks z.key).requests) (sym n.2) (subst (λ r. IsIn r (s'.locks n.0.key).requests) (hit n.0 n.1) (there n.0.key (waiter_of n.0) (t.queued n.0 (on.less n.0 n.1)))))
            (λ j. subst (λ r. IsIn r (s'.locks g.key).requests) (by_owner ws g.key (owner_of g) refl) (there g.key (owner_of g) (t.owned g j (on.unended g.who u))))
            (on.cases g i);
        queued = λ a i. let j = on.still_waits a i in subst (λ r. IsIn r (s'.locks a.key).requests) (miss a j.0 j.1) (there a.key (waiter_of a) (t.queued a j.0));
        real = λ k y i. real s t k y (in_map_from (granted_by ws k) y (s.locks k).requests (subst (λ l. IsIn y l) (rs k) i));
        falling = λ k. subst (λ l. Falling l) (sym (rs k)) (falling_map (granted_by ws k) (s.locks k).requests (by_stamp ws k) (t.falling k));
        accessed = λ k. top_stays h1 h2 k any_mode (s.locks k).accessed (s'.locks k).accessed (ap (λ (l : Locks). l.accessed) (c.locks k) ∙ (granted_accessed ws k (s.locks k)).0) same_decided on.old_grant no_late (t.accessed k);
        written = λ k. top_stays h1 h2 k writes (s.locks k).written (s'.locks k).written (ap (λ (l : Locks). l.written) (c.locks k) ∙ (granted_accessed ws k (s.locks k)).1) same_decided on.old_grant no_late (t.written k);
        kept = subst (λ p. KeepsRows false loaded p h2) (sym c.shelf) (keeps_resumed t.kept on.resumes);
        waiting = let few = on.fewer in let all = length-map going to_waiter in let before = t.waiting in let now = c.waiting in omega (arith, few, all, before, now);
      }
    where
      real : (s : State) → Tracks loaded s h1 → (k : Key) (y : Request) → (x : Request) × IsIn x (s.locks k).requests × (y ≡ granted_by ws k x) → IsOwner h2 k y ⊎ IsWaiter h2 k y
      real s t k y f = ⊎_elim
          (λ (o : IsOwner h1 k f.0). inl (record { grant = o.grant; there = on.old_grant o.grant o.there; unended = on.unended_on o.grant.who o.unended; here = o.here; same = f.2 ∙ by_owner ws k f.0 (ap (λ (r : Request). r.waits) o.same) ∙ o.same }))
          (λ (q : IsWaiter h1 k f.0). waiter q.asked q.there q.here (f.2 ∙ ap (granted_by ws k) q.same) (is_woken (wakes loaded h1) q.asked) refl)
          (t.real k f.0 f.1)
        where
          waiter : (a : Asked) → IsIn a (waits h1) → a.key ≡ k → y ≡ granted_by ws k (waiter_of a) → (b : Bool) → is_woken (wakes loaded h1) a ≡ b → IsOwner h2 k y ⊎ IsWaiter h2 k y
          waiter a i e is true b =
              let j = on.woken_at a i b in
              inl (record { grant = grant_of (wake_of loaded h1 a) a; there = on.new_grant a j; unended = on.unended_on a.who (known.unended a i); here = e; same = is ∙ ap (λ q. granted_by ws q (waiter_of a)) (sym e) ∙ hit a j })
          waiter a i e is false b =
              inr (record { asked = a; there = on.waits_on a i b; here = e; same = is ∙ ap (λ q. granted_by ws q (waiter_of a)) (sym e) ∙ miss a i b })
