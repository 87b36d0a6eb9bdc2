-- The accesses track the history whose last call woke these waiters.
use Rattle.std.proofs.Common.{◌≡◌, ◌≢◌, ◌⊎◌, ◌+◌, List, [], ◌∷◌, ◌++◌, map, filter, Bool, true, false, not, ◌&&◌, cond, length, refl, sym, ap, ◌∙◌, subst, inl, inr, ⊎_elim, arith, true≢false}
use Rattle.deneva_base.specs.declared.keys.Key.{Key}
use Rattle.deneva_base.specs.declared.numbers.Attempt.{Attempt}
use Rattle.deneva_base.specs.declared.answers.Wake.{Wake}
use Rattle.deneva_base.specs.Lists.{IsIn, insert, sort}
use Rattle.deneva_base.specs.Rows.{Rows}
use Rattle.deneva_base.specs.Keys.{attempt_eq}
use Rattle.protocol_rules.specs.History.{History, Asked, Grant, grant_of, grant_of_wake, grants, waits, yeas, ended, is_woken, IsUnended}
use Rattle.protocol_rules.specs.Order.{by_rising_stamp}
use Rattle.deneva_base.proofs.Membership.{in_cases, in_left, in_right, in_map, in_map_from, in_filter, filter_in, attempt_tells}
use Rattle.protocol_rules.proofs.Known.{Known}
use Rattle.protocol_rules.proofs.Sorts.{sort_in, in_sort}
use Rattle.protocol_rules.proofs.Woken.{woken_in, in_woken, wake_grants, grant_wakes}
use Rattle.stamp_lines.specs.declared.requests.Request.{Request}
use Rattle.stamp_lines.specs.declared.lines.Waiter.{Waiter}
use Rattle.stamp_lines.specs.declared.accesses.Accesses.{Accesses}
use Rattle.stamp_lines.specs.Requests.{grants_to, granted}
use Rattle.key_table.specs.Keys.{same_key}
use Rattle.key_table.proofs.Places.{same_tells}
use Rattle.control_core.specs.Leaving.{last}
use Rattle.shelf.specs.Shelves.{held}
use Rattle.shelf.specs.Keeps.{KeepsRows}
use Rattle.shelf.proofs.Keeps.{keeps_resumed}
use Rattle.stamp_lines.specs.Tables.{all_granted}
use Rattle.stamp_lines.specs.Changes.{Wakes}
use Rattle.stamp_lines.specs.Standing.{Seen, seen_of, owner_of, waiter_of, IsOwner, IsWaiter, Rising, Tracks}

-- a request after these are granted
abbrev pub granted_by : List Waiter → Key → Request → Request
granted_by [] key r = r
granted_by (w ∷ ws) key r = granted_by ws key (cond (same_key w.key key) (grants_to w.who r) r)

abbrev pub now_granted : Request → Request
now_granted r = record { who = r.who; stamp = r.stamp; mode = r.mode; waits = false }

map_two : {A B C : Type 0} (f : B → C) (g : A → B) (xs : List A) → map f (map g xs) ≡ map (λ x. f (g x)) xs
map_two f g [] = refl
map_two f g (x ∷ xs) = ap (λ l. f (g x) ∷ l) (map_two f g xs)

map_id : {A : Type 0} (xs : List A) → map (λ x. x) xs ≡ xs
map_id [] = refl
map_id (x ∷ xs) = ap (λ l. x ∷ l) (map_id xs)

pub granted_requests : (ws : List Waiter) (key : Key) (l : List Request) → all_granted ws key l ≡ map (granted_by ws key) l
granted_requests [] key l = sym (map_id l)
granted_requests (w ∷ ws) key l = go (same_key w.key key) (λ k. granted_requests ws key k)
  where
    go : (b : Bool) → ((k : List Request) → all_granted ws key k ≡ map (granted_by ws key) k) → all_granted ws key (cond b (granted w.who l) l) ≡ map (λ r. granted_by ws key (cond b (grants_to w.who r) r)) l
    go true rest = rest (granted w.who l) ∙ map_two (granted_by ws key) (grants_to w.who) l
    go false rest = rest l

-- one that does not wait stays
grants_owner : (who : Attempt) (r : Request) → r.waits ≡ false → grants_to who r ≡ r
grants_owner who r e = ap (λ b. record { who = r.who; stamp = r.stamp; mode = r.mode; waits = b }) (go (attempt_eq r.who who))
  where
    go : (b : Bool) → (not b && r.waits) ≡ r.waits
    go true = sym e
    go false = refl

pub by_owner : (ws : List Waiter) (key : Key) (r : Request) → r.waits ≡ false → granted_by ws key r ≡ r
by_owner [] key r e = refl
by_owner (w ∷ ws) key r e = go (same_key w.key key) ∙ by_owner ws key r e
  where
    go : (b : Bool) → granted_by ws key (cond b (grants_to w.who r) r) ≡ granted_by ws key r
    go true = ap (granted_by ws key) (grants_owner w.who r e)
    go false = refl

-- one that is named is granted
pub by_hit : (ws : List Waiter) (key : Key) (r : Request) (w : Waiter) → IsIn w ws → w.key ≡ key → w.who ≡ r.who → granted_by ws key r ≡ now_granted r
by_hit [] key r w i k e = absurd i
by_hit (x ∷ ws) key r w i k e = ⊎_elim
    (λ is.
    let here : same_key x.key key ≡ true = ⊎_elim (λ t. t.0) (λ f. absurd (f.1 (sym (ap (λ (z : Waiter). z.key) is) ∙ k))) (same_tells x.key key) in
    let mine : attempt_eq r.who x.who ≡ true = ⊎_elim (λ t. t.0) (λ f. absurd (f.1 (sym e ∙ ap (λ (z : Waiter). z.who) is))) (attempt_tells r.who x.who) in
    ap (λ b. granted_by ws key (cond b (grants_to x.who r) r)) here ∙ ap (λ b. granted_by ws key (record { who = r.who; stamp = r.stamp; mode = r.mode; waits = not b && r.waits })) mine ∙ by_owner ws key (now_granted r) refl)
    (λ j. go (same_key x.key key) (attempt_eq r.who x.who) refl (by_hit ws key r w j k e))
    i
  where
    go : (b c : Bool) → attempt_eq r.who x.who ≡ c → granted_by ws key r ≡ now_granted r → granted_by ws key (cond b (grants_to x.who r) r) ≡ now_granted r
    go false c s rest = rest
    go true true s rest = ap (λ b. granted_by ws key (record { who = r.who; stamp = r.stamp; mode = r.mode; waits = not b && r.waits })) s ∙ by_owner ws key (now_granted r) refl
    go true false s rest = ap (λ b. granted_by ws key (record { who = r.who; stamp = r.stamp; mode = r.mode; waits = not b && r.waits })) s ∙ rest

-- and no other
pub by_miss : (ws : List Waiter) (key : Key) (r : Request) → ((w : Waiter) → IsIn w ws → w.key ≡ key → w.who ≢ r.who) → granted_by ws key r ≡ r
by_miss [] key r n = refl
by_miss (x ∷ ws) key r n = ⊎_elim
    (λ t.
    let other : attempt_eq r.who x.who ≡ false = ⊎_elim (λ s. absurd (n x (inl refl) t.1 (sym s.1))) (λ f. f.0) (attempt_tells r.who x.who) in
    ap (λ b. granted_by ws key (cond b (grants_to x.who r) r)) t.0 ∙ ap (λ b. granted_by ws key (record { who = r.who; stamp = r.stamp; mode = r.mode; waits = not b && r.waits })) other ∙ by_miss ws key r (λ w i. n w (inr i)))
    (λ f. ap (λ b. granted_by ws key (cond b (grants_to x.who r) r)) f.0 ∙ by_miss ws key r (λ w i. n w (inr i)))
    (same_tells x.key key)

-- its attempt, its stamp and its mode stay
pub by_same : (ws : List Waiter) (key : Key) (r : Request) → ((granted_by ws key r).who ≡ r.who) × ((granted_by ws key r).stamp ≡ r.stamp) × ((granted_by ws key r).mode ≡ r.mode)
by_same [] key r = (refl, refl, refl)
by_same (x ∷ ws) key r = go (same_key x.key key) (λ q. by_same ws key q)
  where
    go : (b : Bool) → ((q : Request) → ((granted_by ws key q).who ≡ q.who) × ((granted_by ws key q).stamp ≡ q.stamp) × ((granted_by ws key q).mode ≡ q.mode)) → ((granted_by ws key (cond b (grants_to x.who r) r)).who ≡ r.who) × ((granted_by ws key (cond b (grants_to x.who r) r)).stamp ≡ r.stamp) × ((granted_by ws key (cond b (grants_to x.who r) r)).mode ≡ r.mode)
    go true rest = rest (grants_to x.who r)
    go false rest = rest r

rising_map : (f : Request → Request) (rs : List Request) → ((r : Request) → (f r).stamp ≡ r.stamp) → Rising rs → Rising (map f rs)
rising_map f [] e a = tt
rising_map f (r ∷ rs) e a = ((λ x i. let b = in_map_from f x rs i in let less = a.0 b.0 b.1 in omega (arith, less, e r, e b.0, ap (λ (z : Request). z.stamp) b.2)), rising_map f rs e a.1)

-- counting those that wait
length_insert : (before : Asked → Asked → Bool) (a : Asked) (bs : List Asked) → length (insert before a bs) ≡ length bs + 1
length_insert before a [] = refl
length_insert before a (b ∷ bs) = go (before b a) (length_insert before a bs)
  where
    go : (t : Bool) → length (insert before a bs) ≡ length bs + 1 → length (cond t (b ∷ insert before a bs) (a ∷ b ∷ bs)) ≡ length (b ∷ bs) + 1
    go true e = omega (arith, e)
    go false e = omega arith

pub length_sort : (before : Asked → Asked → Bool) (as' : List Asked) → length (sort before as') ≡ length as'
length_sort before [] = refl
length_sort before (a ∷ as') = let e = length_insert before a (sort before as') in let f = length_sort before as' in omega (arith, e, f)

split_count : (p q : Asked → Bool) (ws : List Asked) → ((a : Asked) → IsIn a ws → q a ≡ not (p a)) → length (filter q ws) + length (filter p ws) ≡ length ws
split_count p q [] e = refl
split_count p q (w ∷ ws) e = go (p w) (q w) (e w (inl refl)) (split_count p q ws (λ a i. e a (inr i)))
  where
    go : (b c : Bool) → c ≡ not b → length (filter q ws) + length (filter p ws) ≡ length ws → length (cond c (w ∷ filter q ws) (filter q ws)) + length (cond b (w ∷ filter p ws) (filter p ws)) ≡ length (w ∷ ws)
    go true true s r = absurd (true≢false s)
    go true false s r = omega (arith, r)
    go false true s r = omega (arith, r)
    go false false s r = absurd (true≢false (sym s))

pub length_map : {A B : Type 0} (f : A → B) (xs : List A) → length (map f xs) ≡ length xs
length_map f [] = refl
length_map f (x ∷ xs) = let e = length_map f xs in omega (arith, e)

abbrev pub to_waiter : Asked → Waiter
to_waiter a = record { who = a.who; stamp = a.stamp; key = a.key; mode = a.mode }

-- h2 is h1 with these wakes
pub record Wakens (h1 h2 : History) (woken : List Wake) : Type 0 where
  pub grants_more : grants h2 ≡ map (grant_of_wake h1) woken ++ grants h1
  pub waits_less : waits h2 ≡ filter (λ a. not (is_woken woken a)) (waits h1)
  pub ended_same : ended h2 ≡ ended h1
  pub yeas_same : yeas h2 ≡ yeas h1

-- f makes the wake of a waiter, and q says who is woken
module _ (f : Asked → Wake) (who_of : (a : Asked) → (f a).who ≡ a.who) (key_of : (a : Asked) → (f a).key ≡ a.key) (loaded : Rows) (h1 h2 : History) (known : Known loaded h1) (q : Asked → Bool) (w : Wakens h1 h2 (map f (sort by_rising_stamp (filter q (waits h1))))) where
  abbrev pub as' : List Asked
  as' = sort by_rising_stamp (filter q (waits h1))

  abbrev pub woken : List Wake
  woken = map f (sort by_rising_stamp (filter q (waits h1)))

  abbrev pub ws : List Waiter
  ws = map to_waiter (sort by_rising_stamp (filter q (waits h1)))

  from_all : (a : Asked) → IsIn a as' → IsIn a (waits h1) × (q a ≡ true)
  from_all a i = filter_in q a (waits h1) (sort_in by_rising_stamp a (filter q (waits h1)) i)

  less : (a : Asked) → IsIn a as' → IsIn a (waits h1)
  less a i = (from_all a i).0

  woken_all : (a : Asked) → IsIn a (waits h1) → is_woken woken a ≡ true → IsIn a as'
  woken_all a i t = woken_in f who_of key_of loaded h1 known as' less a i t

  all_woken : (a : Asked) → IsIn a as' → is_woken woken a ≡ true
  all_woken a i = in_woken f who_of key_of loaded h1 known as' less a i

  of_ws : (x : Waiter) → IsIn x ws → (a : Asked) × IsIn a as' × (x ≡ to_waiter a)
  of_ws x i = in_map_from to_waiter x as' i

  hit : (a : Asked) → IsIn a as' → granted_by ws a.key (waiter_of a) ≡ now_granted (waiter_of a)
  hit a i = by_hit ws a.key (waiter_of a) (to_waiter a) (in_map to_waiter a as' i) refl refl

  miss : (a : Asked) → IsIn a (waits h1) → is_woken woken a ≡ false → granted_by ws a.key (waiter_of a) ≡ waiter_of a
  miss a i e = by_miss ws a.key (waiter_of a) (λ x j k s. let b = of_ws x j in true≢false (sym (all_woken a (subst (λ z. IsIn z as') (known.alone b.0 a (less b.0 b.1) i (sym (ap (λ (z : Waiter). z.who) b.2) ∙ s)) b.1)) ∙ e))

  pub still_waits : (a : Asked) → IsIn a (waits h2) → IsIn a (waits h1) × (is_woken woken a ≡ false)
  still_waits a i = let g = filter_in (λ x. not (is_woken woken x)) a (waits h1) (subst (λ l. IsIn a l) w.waits_less i) in (g.0, flip (is_woken woken a) g.1)
    where
      flip : (b : Bool) → not b ≡ true → b ≡ false
      flip true e = absurd (true≢false (sym e))
      flip false e = refl

  unended : (x : Attempt) → IsUnended h2 x → IsUnended h1 x
  unended x u i = u (subst (λ l. IsIn x l) (sym w.ended_same) i)

  unended_on : (x : Attempt) → IsUnended h1 x → IsUnended h2 x
  unended_on x u i = u (subst (λ l. IsIn x l) w.ended_same i)

  pub cases : (g : Grant) → IsIn g (grants h2) → ((a : Asked) × IsIn a as' × (g ≡ grant_of (f a) a)) ⊎ IsIn g (grants h1)
  cases g i = ⊎_elim (λ j. inl (wake_grants f who_of key_of loaded h1 known as' less g j)) (λ j. inr j) (in_cases g (map (grant_of_wake h1) woken) (grants h1) (subst (λ l. IsIn g l) w.grants_more i))

  old_grant : (g : Grant) → IsIn g (grants h1) → IsIn g (grants h2)
  old_grant g i = subst (λ l. IsIn g l) (sym w.grants_more) (in_right g (map (grant_of_wake h1) woken) (grants h1) i)

  new_grant : (a : Asked) → IsIn a as' → IsIn (grant_of (f a) a) (grants h2)
  new_grant a i = subst (λ l. IsIn (grant_of (f a) a) l) (sym w.grants_more) (in_left (grant_of (f a) a) (map (grant_of_wake h1) woken) (grants h1) (grant_wakes f who_of key_of loaded h1 known as' less a i))

  -- the grant of a wake, seen from its waiter
  woken_owner : (a : Asked) → owner_of (grant_of (f a) a) ≡ now_granted (waiter_of a)
  woken_owner a = ap (λ z. record { who = z; stamp = a.stamp; mode = a.mode; waits = false }) (who_of a)

  pub wake_tracks : ((k : Key) → last loaded h2 k ≡ last loaded h1 k) → (old new : Accesses) → Tracks loaded (seen_of old) h1 → Wakes ws old new → Tracks loaded (seen_of new) h2
  wake_tracks lasts old new t c =
      let s : Seen = seen_of old in
      let s' : Seen = seen_of new in
      let rs : (k : Key) → s'.requests k ≡ map (granted_by ws k) (s.requests k) = λ k. c.lines k ∙ granted_requests ws k (s.requests k) in
      let same : (x : Attempt) → (held s'.shelf x).stamp ≡ (held s.shelf x).stamp = λ x. ap (λ z. (held z x).stamp) c.shelf in
      let there : (k : Key) (x : Request) → IsIn x (s.requests k) → IsIn (granted_by ws k x) (s'.requests k) = λ k x i. subst (λ l. IsIn (granted_by ws k x) l) (sym (rs k)) (in_map (granted_by ws k) x (s.requests k) i) in
      record {
        owned = λ g i u. ⊎_elim
            (λ n. subst (λ (z : Grant). IsIn (owner_of z) (s'.requests z.key)) (sym n.2)
            (subst (λ k. IsIn (owner_of (grant_of (f n.0) n.0)) (s'.requests k)) (sym (key_of n.0))
            (subst (λ r. IsIn r (s'.requests n.0.key)) (hit n.0 n.1 ∙ sym (woken_owner n.0)) (there n.0.key (waiter_of n.0) (t.queued n.0 (less n.0 n.1))))))
            (λ j. subst (λ r. IsIn r (s'.requests g.key)) (by_owner ws g.key (owner_of g) refl) (there g.key (owner_of g) (t.owned g j (unended g.who u))))
            (cases g i);
        queued = λ a i. let j = still_waits a i in subst (λ r. IsIn r (s'.requests a.key)) (miss a j.0 j.1) (there a.key (waiter_of a) (t.queued a j.0));
        real = λ k y i. real s t k y (in_map_from (granted_by ws k) y (s.requests k) (subst (λ l. IsIn y l) (rs k) i));
        rising = λ k. subst (λ l. Rising l) (sym (rs k)) (rising_map (granted_by ws k) (s.requests k) (λ r. (by_same ws k r).1) (t.rising k));
        stamped = λ g i u. ⊎_elim
            (λ n. subst (λ (z : Grant). (held s'.shelf z.who).stamp ≡ z.stamp) (sym n.2)
            (subst (λ x. (held s'.shelf x).stamp ≡ n.0.stamp) (sym (who_of n.0)) (same n.0.who ∙ t.stamped_waiter n.0 (less n.0 n.1))))
            (λ j. same g.who ∙ t.stamped g j (unended g.who u))
            (cases g i);
        stamped_waiter = λ a i. same a.who ∙ t.stamped_waiter a (still_waits a i).0;
        kept = subst (λ x. KeepsRows true loaded x h2) (sym c.shelf) (keeps_resumed t.kept (record {
          grants_from = λ g i. ⊎_elim (λ n. inr (n.0, less n.0 n.1, sym (ap (λ (z : Grant). z.who) n.2 ∙ who_of n.0), sym (ap (λ (z : Grant). z.key) n.2 ∙ key_of n.0))) (λ j. inl j) (cases g i);
          waits_from = λ a i. (still_waits a i).0;
          ended_same = w.ended_same;
          yeas_same = w.yeas_same;
          last_same = lasts;
        }));
        waiting =
            let some = split_count q (λ a. not (is_woken woken a)) (waits h1) (λ a i. ap not (same_test a i)) in
            let fewer = ap (λ (l : List Asked). length l) w.waits_less in
            let all = length_map to_waiter as' in
            let sorted = length_sort by_rising_stamp (filter q (waits h1)) in
            let before = t.waiting in
            let now = c.waiting in
            omega (arith, some, fewer, all, sorted, before, now);
      }
    where
      real : (s : Seen) → Tracks loaded s h1 → (k : Key) (y : Request) → (x : Request) × IsIn x (s.requests k) × (y ≡ granted_by ws k x) → IsOwner h2 k y ⊎ IsWaiter h2 k y
      real s t k y g = ⊎_elim
          (λ (o : IsOwner h1 k g.0). inl (record { grant = o.grant; there = old_grant o.grant o.there; unended = unended_on o.grant.who o.unended; here = o.here; same = g.2 ∙ by_owner ws k g.0 (ap (λ (r : Request). r.waits) o.same) ∙ o.same }))
          (λ (x : IsWaiter h1 k g.0). waiter x.asked x.there x.here (g.2 ∙ ap (granted_by ws k) x.same) (is_woken woken x.asked) refl)
          (t.real k g.0 g.1)
        where
          waiter : (a : Asked) → IsIn a (waits h1) → a.key ≡ k → y ≡ granted_by ws k (waiter_of a) → (b : Bool) → is_woken woken a ≡ b → IsOwner h2 k y ⊎ IsWaiter h2 k y
          waiter a i e is true b =
              let j = woken_all a i b in
              inl (record { grant = grant_of (f a) a; there = new_grant a j; unended = unended_on (f a).who (subst (λ x. IsUnended h1 x) (sym (who_of a)) (known.unended a i)); here = key_of a ∙ e; same = is ∙ ap (λ z. granted_by ws z (waiter_of a)) (sym e) ∙ hit a j ∙ sym (woken_owner a) })
          waiter a i e is false b =
              inr (record { asked = a; there = subst (λ l. IsIn a l) (sym w.waits_less) (in_filter (λ x. not (is_woken woken x)) a (waits h1) i (ap not b)); here = e; same = is ∙ ap (λ z. granted_by ws z (waiter_of a)) (sym e) ∙ miss a i b })

      same_test : (a : Asked) → IsIn a (waits h1) → is_woken woken a ≡ q a
      same_test a i = go (is_woken woken a) refl (q a) refl
        where
          go : (b : Bool) → is_woken woken a ≡ b → (c : Bool) → q a ≡ c → b ≡ c
          go true e true f' = refl
          go false e false f' = refl
          go true e false f' = absurd (true≢false (sym (from_all a (woken_all a i e)).1 ∙ f'))
          go false e true f' = absurd (true≢false (sym (all_woken a (in_sort by_rising_stamp a (filter q (waits h1)) (in_filter q a (waits h1) i f'))) ∙ e))
