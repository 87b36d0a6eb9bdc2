-- Whom the table wakes is whom the rule of WAIT_DIE wakes.
use Rattle.std.proofs.Common.{◌≡◌, ◌≢◌, ◌⊎◌, leb, ◌<◌, ltb, List, [], ◌∷◌, ◌++◌, map, filter, Bool, true, false, not, ◌&&◌, ◌||◌, cond, refl, sym, ap, ap₂, ◌∙◌, subst, inl, inr, ⊎_elim, arith, true≢false}
use Rattle.std.proofs.lemmas.List.{append-nil}
use Rattle.std.proofs.lemmas.Bool.Decides.{nat_tests}
use Rattle.std.specs.List.{list_any}
use Rattle.deneva_base.specs.declared.keys.Key.{Key}
use Rattle.deneva_base.specs.declared.numbers.Attempt.{Attempt}
use Rattle.deneva_base.specs.Lists.{IsIn}
use Rattle.deneva_base.specs.Rows.{Rows}
use Rattle.deneva_base.specs.Keys.{key_eq, key_lt, attempt_eq}
use Rattle.protocol_rules.specs.History.{History, Asked, Grant, grants, waits, ended, IsUnended}
use Rattle.protocol_rules.specs.Order.{Sorted, by_falling_stamp}
use Rattle.deneva_base.specs.Lists.{sort}
use Rattle.protocol_rules.specs.Locks.{conflicts, blockers}
use Rattle.protocol_rules.specs.WaitDie.{front, queue, none, is_free}
use Rattle.deneva_base.proofs.Membership.{in_cases, in_left, in_right, in_filter, filter_in, any_tells, any_at, and_true, and_parts, key_tells, key_decides, attempt_tells}
use Rattle.protocol_rules.proofs.Known.{Known}
use Rattle.protocol_rules.proofs.Locks.{conflict_decides, blocker_in, in_blockers}
use Rattle.protocol_rules.proofs.Loops.{loop, loop_front}
use Rattle.protocol_rules.proofs.Sorts.{Distinct, distinct_filter, sort_in, in_sort, sorted_unique, falling_trans, falling_irrefl}
use Rattle.protocol_rules.proofs.WaitDies.{in_order, front_in}
use Rattle.lock_control.specs.declared.requests.Request.{Request}
use Rattle.lock_control.specs.declared.lines.Lines.{Lines}
use Rattle.lock_control.specs.Requests.{conflicting, is_barred, any_conflicts, front_of}
use Rattle.lock_control.specs.Seen.{Locks}
use Rattle.lock_control.specs.Tables.{locks_at, waiter_for, front_over}
use Rattle.lock_control.specs.Standing.{State, owner_of, waiter_of, IsOwner, IsWaiter, Falling, Tracks}
use Rattle.shelf.specs.Keeps.{Rising}
use Rattle.lock_control.proofs.Waking.{to_waiter}

abbrev pub as_asked : Key → Request → Asked
as_asked key r = record { who = r.who; stamp = r.stamp; key = key; mode = r.mode }

-- the requests that wait
abbrev pub waiting_in : Key → List Request → List Asked
waiting_in key [] = []
waiting_in key (r ∷ rs) = cond r.waits (as_asked key r ∷ waiting_in key rs) (waiting_in key rs)

key_refl : (k : Key) → key_eq k k ≡ true
key_refl k = ⊎_elim (λ t. t.0) (λ f. absurd (f.1 refl)) (key_tells k k)

pub waiting_from : (key : Key) (a : Asked) (rs : List Request) → IsIn a (waiting_in key rs) → (r : Request) × IsIn r rs × (r.waits ≡ true) × (a ≡ as_asked key r)
waiting_from key a [] i = absurd i
waiting_from key a (r ∷ rs) i = go r.waits refl i (waiting_from key a rs)
  where
    go : (b : Bool) → r.waits ≡ b → IsIn a (cond b (as_asked key r ∷ waiting_in key rs) (waiting_in key rs)) → (IsIn a (waiting_in key rs) → (q : Request) × IsIn q rs × (q.waits ≡ true) × (a ≡ as_asked key q)) → (q : Request) × IsIn q (r ∷ rs) × (q.waits ≡ true) × (a ≡ as_asked key q)
    go true e j rest = ⊎_elim (λ s. (r, inl refl, e, s)) (λ k. let q = rest k in (q.0, inr q.1, q.2, q.3)) j
    go false e j rest = let q = rest j in (q.0, inr q.1, q.2, q.3)

pub from_waiting : (key : Key) (r : Request) (rs : List Request) → IsIn r rs → r.waits ≡ true → IsIn (as_asked key r) (waiting_in key rs)
from_waiting key r [] i e = absurd i
from_waiting key r (q ∷ rs) i e = go q.waits refl i (from_waiting key r rs)
  where
    go : (b : Bool) → q.waits ≡ b → (r ≡ q) ⊎ IsIn r rs → (IsIn r rs → r.waits ≡ true → IsIn (as_asked key r) (waiting_in key rs)) → IsIn (as_asked key r) (cond b (as_asked key q ∷ waiting_in key rs) (waiting_in key rs))
    go true w j rest = ⊎_elim (λ s. inl (ap (as_asked key) s)) (λ k. inr (rest k e)) j
    go false w j rest = ⊎_elim (λ s. absurd (true≢false (sym e ∙ ap (λ (z : Request). z.waits) s ∙ w))) (λ k. rest k e) j

falling_before : (key : Key) (a b : Request) → b.stamp < a.stamp → by_falling_stamp (as_asked key a) (as_asked key b) ≡ true
falling_before key a b less = go (key_lt key key) (key_eq key key) (key_refl key) (grind (arith, nat_tests, less))
  where
    go : (l e : Bool) → e ≡ true → ltb b.stamp a.stamp ≡ true → (l || (e && ltb b.stamp a.stamp)) ≡ true
    go true e s t = refl
    go false e s t = and_true e (ltb b.stamp a.stamp) s t

waiting_sorted : (key : Key) (rs : List Request) → Falling rs → Sorted by_falling_stamp (waiting_in key rs)
waiting_sorted key [] f = tt
waiting_sorted key (r ∷ rs) f = go r.waits (waiting_sorted key rs f.1)
  where
    go : (b : Bool) → Sorted by_falling_stamp (waiting_in key rs) → Sorted by_falling_stamp (cond b (as_asked key r ∷ waiting_in key rs) (waiting_in key rs))
    go true s = ((λ x i. let q = waiting_from key x rs i in subst (λ z. by_falling_stamp (as_asked key r) z ≡ true) (sym q.3) (falling_before key r q.0 (f.0 q.0 q.1))), s)
    go false s = s

-- the test of the loop, over who was passed
step_test : (p q c : Bool) → (not (p || q) && not c) ≡ not (p || (q || (c || false)))
step_test true q c = refl
step_test false true c = refl
step_test false false true = refl
step_test false false false = refl

any_more : (p : Request → Bool) (xs : List Request) (r : Request) → list_any p (xs ++ r ∷ []) ≡ (list_any p xs || (p r || false))
any_more p [] r = refl
any_more p (x ∷ xs) r = go (p x) (any_more p xs r)
  where
    go : (b : Bool) → list_any p (xs ++ r ∷ []) ≡ (list_any p xs || (p r || false)) → (b || list_any p (xs ++ r ∷ [])) ≡ ((b || list_any p xs) || (p r || false))
    go true e = refl
    go false e = e

map_more : (key : Key) (xs : List Request) (r : Request) (as' : List Asked) → map (as_asked key) (xs ++ r ∷ []) ++ as' ≡ map (as_asked key) xs ++ (as_asked key r ∷ as')
map_more key [] r as' = refl
map_more key (x ∷ xs) r as' = ap (λ l. as_asked key x ∷ l) (map_more key xs r as')

pub front_loop : (key : Key) (ended : Attempt) (all passed rs : List Request) (open' : Asked → Bool) → ((r : Request) → IsIn r rs → r.waits ≡ true → open' (as_asked key r) ≡ not (is_barred ended r all || any_conflicts r passed)) → map (as_asked key) (front_of ended all passed rs) ≡ map (as_asked key) passed ++ loop open' (waiting_in key rs)
front_loop key ended all passed [] open' agree = sym (append-nil (map (as_asked key) passed))
front_loop key ended all passed (r ∷ rs) open' agree = go r.waits refl (λ p o a. front_loop key ended all p rs o a)
  where
    a : Asked
    a = as_asked key r

    next : Asked → Bool
    next b = open' b && not (conflicts r.who key r.mode b.who b.key b.mode)

    stop : (b : Bool) → (is_barred ended r all || any_conflicts r passed) ≡ b → open' (as_asked key r) ≡ not b → ((p : List Request) (o : Asked → Bool) → ((q : Request) → IsIn q rs → q.waits ≡ true → o (as_asked key q) ≡ not (is_barred ended q all || any_conflicts q p)) → map (as_asked key) (front_of ended all p rs) ≡ map (as_asked key) p ++ loop o (waiting_in key rs))
        → map (as_asked key) (cond b passed (front_of ended all (passed ++ r ∷ []) rs)) ≡ map (as_asked key) passed ++ cond (open' (as_asked key r)) (as_asked key r ∷ loop (λ b. open' b && not (conflicts r.who key r.mode b.who b.key b.mode)) (waiting_in key rs)) []
    stop true e o rest = sym (ap (λ t. map (as_asked key) passed ++ cond t (as_asked key r ∷ loop (λ b. open' b && not (conflicts r.who key r.mode b.who b.key b.mode)) (waiting_in key rs)) []) o ∙ append-nil (map (as_asked key) passed))
    stop false e o rest =
        rest (passed ++ r ∷ []) (λ b. open' b && not (conflicts r.who key r.mode b.who b.key b.mode))
        (λ q i w.
        ap₂ (λ x y. x && not (y && conflicting r q)) (agree q (inr i) w) (key_refl key)
        ∙ step_test (is_barred ended q all) (any_conflicts q passed) (conflicting r q)
        ∙ ap (λ x. not (is_barred ended q all || x)) (sym (any_more (λ x. conflicting x q) passed r)))
        ∙ map_more key passed r (loop (λ b. open' b && not (conflicts r.who key r.mode b.who b.key b.mode)) (waiting_in key rs))
        ∙ ap (λ t. map (as_asked key) passed ++ cond t (as_asked key r ∷ loop (λ b. open' b && not (conflicts r.who key r.mode b.who b.key b.mode)) (waiting_in key rs)) []) (sym o)

    go : (w : Bool) → r.waits ≡ w → ((p : List Request) (o : Asked → Bool) → ((q : Request) → IsIn q rs → q.waits ≡ true → o (as_asked key q) ≡ not (is_barred ended q all || any_conflicts q p)) → map (as_asked key) (front_of ended all p rs) ≡ map (as_asked key) p ++ loop o (waiting_in key rs))
        → map (as_asked key) (cond w (cond (is_barred ended r all || any_conflicts r passed) passed (front_of ended all (passed ++ r ∷ []) rs)) (front_of ended all passed rs)) ≡ map (as_asked key) passed ++ loop open' (cond w (as_asked key r ∷ waiting_in key rs) (waiting_in key rs))
    go true w rest = stop (is_barred ended r all || any_conflicts r passed) refl (agree r (inl refl) w) rest
    go false w rest = rest passed open' (λ q i v. agree q (inr i) v)

-- h1 is h with the end of an attempt that wakes nobody
module _ (loaded : Rows) (h h1 : History) (who : Attempt) (known : Known loaded h) (known1 : Known loaded h1) (distinct : Distinct (waits h)) (same_waits : waits h1 ≡ waits h) (same_grants : grants h1 ≡ grants h) (ends : ended h1 ≡ who ∷ ended h) (s : State) (t : Tracks loaded s h) where
  queue_is : (key : Key) → waiting_in key (s.locks key).requests ≡ queue h1 key
  queue_is key =
      sorted_unique by_falling_stamp falling_trans falling_irrefl (waiting_in key (s.locks key).requests) (queue h1 key)
      (waiting_sorted key (s.locks key).requests (t.falling key))
      (in_order loaded h1 (filter (λ a. key_eq a.key key) (waits h1)) known1 (distinct_filter (λ a. key_eq a.key key) (waits h1) (subst (λ l. Distinct l) (sym same_waits) distinct)) (λ a i. (filter_in (λ x. key_eq x.key key) a (waits h1) i).0))
      (λ x i.
      let q = waiting_from key x (s.locks key).requests i in
      ⊎_elim
      (λ (o : IsOwner h key q.0). absurd (true≢false (sym q.2 ∙ ap (λ (r : Request). r.waits) o.same)))
      (λ (w : IsWaiter h key q.0).
      let is : x ≡ w.asked = q.3 ∙ ap (as_asked key) w.same ∙ ap (λ k. record { who = w.asked.who; stamp = w.asked.stamp; key = k; mode = w.asked.mode }) (sym w.here) in
      subst (λ z. IsIn z (queue h1 key)) (sym is) (in_sort by_falling_stamp w.asked (filter (λ a. key_eq a.key key) (waits h1)) (in_filter (λ a. key_eq a.key key) w.asked (waits h1) (subst (λ l. IsIn w.asked l) (sym same_waits) w.there) ((key_decides w.asked.key key).1 w.here))))
      (t.real key q.0 q.1))
      (λ x i.
      let f = filter_in (λ a. key_eq a.key key) x (waits h1) (sort_in by_falling_stamp x (filter (λ a. key_eq a.key key) (waits h1)) i) in
      let k : x.key ≡ key = (key_decides x.key key).0 f.1 in
      let there : IsIn (waiter_of x) (s.locks key).requests = subst (λ q. IsIn (waiter_of x) (s.locks q).requests) k (t.queued x (subst (λ l. IsIn x l) same_waits f.0)) in
      subst (λ z. IsIn z (waiting_in key (s.locks key).requests)) (ap (λ q. record { who = x.who; stamp = x.stamp; key = q; mode = x.mode }) (sym k)) (from_waiting key (waiter_of x) (s.locks key).requests there refl))

  unended_then : (x : Attempt) → IsUnended h1 x → (x ≢ who) × IsUnended h x
  unended_then x u = ((λ e. u (subst (λ l. IsIn x l) (sym ends) (inl e))), (λ i. u (subst (λ l. IsIn x l) (sym ends) (inr i))))

  unended_on : (x : Attempt) → x ≢ who → IsUnended h x → IsUnended h1 x
  unended_on x n u i = ⊎_elim (λ e. n e) (λ j. u j) (subst (λ l. IsIn x l) ends i)

  -- whether an owner that is left conflicts
  open_is : (key : Key) (r : Request) → none (blockers h1 (as_asked key r)) ≡ not (is_barred who r (s.locks key).requests || false)
  open_is key r = ⊎_elim
      (λ (f : (x : Request) × IsIn x (s.locks key).requests × ((not x.waits && (not (attempt_eq x.who who) && conflicting x r)) ≡ true)).
      ⊎_elim
      (λ (o : IsOwner h key f.0).
      let p = and_parts (not f.0.waits) (not (attempt_eq f.0.who who) && conflicting f.0 r) f.2 in
      let q = and_parts (not (attempt_eq f.0.who who)) (conflicting f.0 r) p.1 in
      let other : o.grant.who ≢ who = λ e. ⊎_elim (λ m. true≢false (sym q.0 ∙ ap not m.0)) (λ m. m.1 (ap (λ (z : Request). z.who) o.same ∙ e)) (attempt_tells f.0.who who) in
      let test : conflicts o.grant.who o.grant.key o.grant.mode r.who key r.mode ≡ true = and_true (key_eq o.grant.key key) (conflicting (owner_of o.grant) r) ((key_decides o.grant.key key).1 o.here) (ap (λ z. conflicting z r) (sym o.same) ∙ q.1) in
      let i = blocker_in h1 (as_asked key r) o.grant (subst (λ l. IsIn o.grant l) (sym same_grants) o.there) (unended_on o.grant.who other o.unended) ((conflict_decides o.grant.who o.grant.key o.grant.mode r.who key r.mode).0 test) in
      some (blockers h1 (as_asked key r)) o.grant i ∙ sym (ap (λ b. not (b || false)) (any_at (λ x. not x.waits && (not (attempt_eq x.who who) && conflicting x r)) f.0 (s.locks key).requests f.1 f.2)))
      (λ (w : IsWaiter h key f.0). absurd (true≢false (sym (and_parts (not f.0.waits) (not (attempt_eq f.0.who who) && conflicting f.0 r) f.2).0 ∙ ap (λ (z : Request). not z.waits) w.same)))
      (t.real key f.0 f.1))
      (λ n. empty (blockers h1 (as_asked key r)) (λ g i.
      let b = in_blockers h1 (as_asked key r) g i in
      let u = unended_then g.who b.1 in
      let here : IsIn (owner_of g) (s.locks key).requests = subst (λ k. IsIn (owner_of g) (s.locks k).requests) b.2.0 (t.owned g (subst (λ l. IsIn g l) same_grants b.0) u.1) in
      let test = (and_parts (key_eq g.key key) (conflicting (owner_of g) r) ((conflict_decides g.who g.key g.mode r.who key r.mode).1 b.2)).1 in
      let differs : not (attempt_eq g.who who) ≡ true = ⊎_elim (λ m. absurd (u.0 m.1)) (λ m. ap not m.0) (attempt_tells g.who who) in
      true≢false (sym (and_true (not (attempt_eq g.who who)) (conflicting (owner_of g) r) differs test) ∙ n (owner_of g) here))
      ∙ sym (ap (λ b. not (b || false)) (none_any (s.locks key).requests n)))
      (any_tells (λ x. not x.waits && (not (attempt_eq x.who who) && conflicting x r)) (s.locks key).requests)
    where
      some : (gs : List Grant) (g : Grant) → IsIn g gs → none gs ≡ false
      some [] g i = absurd i
      some (x ∷ xs) g i = refl

      empty : (gs : List Grant) → ((g : Grant) → IsIn g gs → ⊥) → none gs ≡ true
      empty [] n = refl
      empty (x ∷ xs) n = absurd (n x (inl refl))

      none_any : (rs : List Request) → ((x : Request) → IsIn x rs → (not x.waits && (not (attempt_eq x.who who) && conflicting x r)) ≡ false) → list_any (λ x. not x.waits && (not (attempt_eq x.who who) && conflicting x r)) rs ≡ false
      none_any [] n = refl
      none_any (x ∷ xs) n = ap (λ b. b || list_any (λ x. not x.waits && (not (attempt_eq x.who who) && conflicting x r)) xs) (n x (inl refl)) ∙ none_any xs (λ y i. n y (inr i))

  -- of one key
  key_front : (key : Key) → map (as_asked key) (front_of who (s.locks key).requests [] (s.locks key).requests) ≡ sort by_falling_stamp (filter (λ a. key_eq a.key key) (front h1))
  key_front key =
      front_loop key who (s.locks key).requests [] (s.locks key).requests (λ a. none (blockers h1 a)) (λ r i w. open_is key r)
      ∙ ap (loop (λ a. none (blockers h1 a))) (queue_is key)
      ∙ loop_front loaded h1 key known1 (subst (λ l. Distinct l) (sym same_waits) distinct)

  abbrev pub by_keys : List Key → List Asked
  by_keys [] = []
  by_keys (k ∷ ks) = sort by_falling_stamp (filter (λ a. key_eq a.key k) (front h1)) ++ by_keys ks

  of_key : (a : Asked) (k : Key) → IsIn a (sort by_falling_stamp (filter (λ b. key_eq b.key k) (front h1))) → IsIn a (front h1) × (a.key ≡ k)
  of_key a k i = let f = filter_in (λ b. key_eq b.key k) a (front h1) (sort_in by_falling_stamp a (filter (λ b. key_eq b.key k) (front h1)) i) in (f.0, (key_decides a.key k).0 f.1)

  in_keys : (ks : List Key) (a : Asked) → IsIn a (by_keys ks) → IsIn a (front h1) × IsIn a.key ks
  in_keys [] a i = absurd i
  in_keys (k ∷ ks) a i = ⊎_elim (λ j. let o = of_key a k j in (o.0, inl o.1)) (λ j. let o = in_keys ks a j in (o.0, inr o.1)) (in_cases a (sort by_falling_stamp (filter (λ b. key_eq b.key k) (front h1))) (by_keys ks) i)

  keys_in : (ks : List Key) (a : Asked) → IsIn a (front h1) → IsIn a.key ks → IsIn a (by_keys ks)
  keys_in [] a i j = absurd j
  keys_in (k ∷ ks) a i j = ⊎_elim
      (λ e. in_left a (sort by_falling_stamp (filter (λ b. key_eq b.key k) (front h1))) (by_keys ks) (in_sort by_falling_stamp a (filter (λ b. key_eq b.key k) (front h1)) (in_filter (λ b. key_eq b.key k) a (front h1) i ((key_decides a.key k).1 e))))
      (λ l. in_right a (sort by_falling_stamp (filter (λ b. key_eq b.key k) (front h1))) (by_keys ks) (keys_in ks a i l))
      j

  sorted_append : (xs ys : List Asked) → Sorted by_falling_stamp xs → Sorted by_falling_stamp ys → ((x y : Asked) → IsIn x xs → IsIn y ys → by_falling_stamp x y ≡ true) → Sorted by_falling_stamp (xs ++ ys)
  sorted_append [] ys a b f = b
  sorted_append (x ∷ xs) ys a b f = ((λ y i. ⊎_elim (λ j. a.0 y j) (λ j. f x y (inl refl) j) (in_cases y xs ys i)), sorted_append xs ys a.1 b (λ p q i j. f p q (inr i) j))

  distinct_front : Distinct (front h1)
  distinct_front = distinct_filter (λ a. none (filter (λ b. key_eq b.key a.key && (leb a.stamp b.stamp && not (is_free h1 b))) (waits h1))) (waits h1) (subst (λ l. Distinct l) (sym same_waits) distinct)

  keys_sorted : (ks : List Key) → Rising ks → Sorted by_falling_stamp (by_keys ks)
  keys_sorted [] r = tt
  keys_sorted (k ∷ ks) r =
      sorted_append (sort by_falling_stamp (filter (λ b. key_eq b.key k) (front h1))) (by_keys ks)
      (in_order loaded h1 (filter (λ b. key_eq b.key k) (front h1)) known1 (distinct_filter (λ b. key_eq b.key k) (front h1) distinct_front) (λ a i. front_in h1 a (filter_in (λ b. key_eq b.key k) a (front h1) i).0))
      (keys_sorted ks r.1)
      (λ x y i j. let o = of_key x k i in let p = in_keys ks y j in later (key_lt x.key y.key) (ap (λ q. key_lt q y.key) o.1 ∙ r.0 y.key p.1) (key_eq x.key y.key && ltb y.stamp x.stamp))
    where
      later : (b : Bool) → b ≡ true → (c : Bool) → (b || c) ≡ true
      later true e c = refl
      later false e c = absurd (true≢false (sym e))

  -- of all keys, where each that is woken has one of them
  pub all_front : (ks : List Key) → Rising ks → ((a : Asked) → IsIn a (front h1) → IsIn a.key ks) → by_keys ks ≡ sort by_falling_stamp (front h1)
  all_front ks r f = sorted_unique by_falling_stamp falling_trans falling_irrefl (by_keys ks) (sort by_falling_stamp (front h1)) (keys_sorted ks r) (in_order loaded h1 (front h1) known1 distinct_front (λ a i. front_in h1 a i)) (λ x i. in_sort by_falling_stamp x (front h1) (in_keys ks x i).0) (λ x i. let j = sort_in by_falling_stamp x (front h1) i in keys_in ks x j (f x j))

  as_waiters : (key : Key) (rs : List Request) → map (waiter_for key) rs ≡ map to_waiter (map (as_asked key) rs)
  as_waiters key [] = refl
  as_waiters key (r ∷ rs) = ap (λ l. waiter_for key r ∷ l) (as_waiters key rs)

  map_both : (xs ys : List Asked) → map to_waiter (xs ++ ys) ≡ map to_waiter xs ++ map to_waiter ys
  map_both [] ys = refl
  map_both (x ∷ xs) ys = ap (λ l. to_waiter x ∷ l) (map_both xs ys)

  pub front_is : (lines : Lines) (ks : List Key) → ((k : Key) → locks_at lines k ≡ s.locks k) → front_over who lines ks ≡ map to_waiter (by_keys ks)
  front_is lines [] e = refl
  front_is lines (k ∷ ks) e =
      ap₂ (λ x y. x ++ y)
      (as_waiters k (front_of who (locks_at lines k).requests [] (locks_at lines k).requests) ∙ ap (map to_waiter) (ap (λ (l : Locks). map (as_asked k) (front_of who l.requests [] l.requests)) (e k) ∙ key_front k))
      (front_is lines ks e)
      ∙ sym (map_both (sort by_falling_stamp (filter (λ a. key_eq a.key k) (front h1))) (by_keys ks))
