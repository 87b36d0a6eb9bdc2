-- Whom the requests of a key stop, and whom the end of an attempt wakes, as the requests show it.
use Rattle.std.proofs.Common.{◌≡◌, ◌≢◌, ◌⊎◌, ℕ, ◌<◌, ltb, leb, List, [], ◌∷◌, ◌++◌, filter, Bool, true, false, not, ◌&&◌, ◌||◌, cond, refl, sym, ap, ◌∙◌, subst, inl, inr, ⊎_elim, arith, true≢false, Some}
use Rattle.std.proofs.lemmas.Bool.{ltb-true, lt-ltb, false_from_ne_true}
use Rattle.std.proofs.lemmas.Bool.Decides.{nat_tests}
use Rattle.std.specs.List.{list_any}
use Rattle.deneva_base.specs.declared.keys.Key.{Key}
use Rattle.deneva_base.specs.declared.numbers.Attempt.{Attempt}
use Rattle.deneva_base.specs.Lists.{IsIn, sort}
use Rattle.deneva_base.specs.Rows.{Rows}
use Rattle.deneva_base.specs.Keys.{key_eq, key_lt, attempt_eq}
use Rattle.deneva_base.specs.Modes.{writes}
use Rattle.protocol_rules.specs.History.{History, Asked, grants, waits, IsUnended}
use Rattle.protocol_rules.specs.Order.{Sorted, by_rising_stamp}
use Rattle.protocol_rules.specs.Waiting.{as_asked, holders, older_writer}
use Rattle.deneva_base.proofs.Membership.{in_cases, in_left, in_right, in_filter, filter_in, any_tells, any_at, and_true, and_parts, key_tells, key_decides, attempt_tells}
use Rattle.protocol_rules.proofs.Known.{Known}
use Rattle.protocol_rules.proofs.Sorts.{Distinct, distinct_filter, sort_in, in_sort, sorted_sort, sorted_filter, sorted_unique, rising_trans, rising_irrefl}
use Rattle.protocol_rules.proofs.Stops.{in_held, held_from}
use Rattle.protocol_rules.proofs.Stamped.{waits_total}
use Rattle.stamp_lines.specs.declared.requests.Request.{Request}
use Rattle.stamp_lines.specs.Requests.{stops, is_stopped, is_writer, first_writer, reaches}
use Rattle.shelf.specs.Keeps.{Closes, Rising as KeysRise}
use Rattle.stamp_lines.specs.Standing.{Seen, owner_of, waiter_of, IsOwner, IsWaiter, Rising, Tracks}
use Rattle.stamp_lines.proofs.Ending.{still, unended_on}

abbrev pub asked_for : Key → Request → Asked
asked_for key r = record { who = r.who; stamp = r.stamp; key = key; mode = r.mode }

-- the requests that wait
abbrev pub waiting_in : Key → List Request → List Asked
waiting_in key [] = []
waiting_in key (r ∷ rs) = cond r.waits (asked_for key r ∷ waiting_in key rs) (waiting_in key rs)

key_refl : (k : Key) → key_eq k k ≡ true
key_refl k = ⊎_elim (λ t. t.0) (λ f. absurd (f.1 refl)) (key_tells k k)

pub waiting_from : (key : Key) (a : Asked) (rs : List Request) → IsIn a (waiting_in key rs) → (r : Request) × IsIn r rs × (r.waits ≡ true) × (a ≡ asked_for key r)
waiting_from key a [] i = absurd i
waiting_from key a (r ∷ rs) i = go r.waits refl i (waiting_from key a rs)
  where
    go : (b : Bool) → r.waits ≡ b → IsIn a (cond b (asked_for key r ∷ waiting_in key rs) (waiting_in key rs)) → (IsIn a (waiting_in key rs) → (q : Request) × IsIn q rs × (q.waits ≡ true) × (a ≡ asked_for key q)) → (q : Request) × IsIn q (r ∷ rs) × (q.waits ≡ true) × (a ≡ asked_for key q)
    go true e j rest = ⊎_elim (λ s. (r, inl refl, e, s)) (λ k. let q = rest k in (q.0, inr q.1, q.2, q.3)) j
    go false e j rest = let q = rest j in (q.0, inr q.1, q.2, q.3)

pub from_waiting : (key : Key) (r : Request) (rs : List Request) → IsIn r rs → r.waits ≡ true → IsIn (asked_for key r) (waiting_in key rs)
from_waiting key r [] i e = absurd i
from_waiting key r (q ∷ rs) i e = go q.waits refl i (from_waiting key r rs)
  where
    go : (b : Bool) → q.waits ≡ b → (r ≡ q) ⊎ IsIn r rs → (IsIn r rs → r.waits ≡ true → IsIn (asked_for key r) (waiting_in key rs)) → IsIn (asked_for key r) (cond b (asked_for key q ∷ waiting_in key rs) (waiting_in key rs))
    go true w j rest = ⊎_elim (λ s. inl (ap (asked_for key) s)) (λ k. inr (rest k e)) j
    go false w j rest = ⊎_elim (λ s. absurd (true≢false (sym e ∙ ap (λ (z : Request). z.waits) s ∙ w))) (λ k. rest k e) j

rising_before : (key : Key) (a b : Request) → a.stamp < b.stamp → by_rising_stamp (asked_for key a) (asked_for key b) ≡ true
rising_before key a b less = go (key_lt key key) (key_eq key key) (key_refl key) (lt-ltb a.stamp b.stamp less)
  where
    go : (l e : Bool) → e ≡ true → ltb a.stamp b.stamp ≡ true → (l || (e && ltb a.stamp b.stamp)) ≡ true
    go true e s t = refl
    go false e s t = and_true e (ltb a.stamp b.stamp) s t

waiting_sorted : (key : Key) (rs : List Request) → Rising rs → Sorted by_rising_stamp (waiting_in key rs)
waiting_sorted key [] f = tt
waiting_sorted key (r ∷ rs) f = go r.waits (waiting_sorted key rs f.1)
  where
    go : (b : Bool) → Sorted by_rising_stamp (waiting_in key rs) → Sorted by_rising_stamp (cond b (asked_for key r ∷ waiting_in key rs) (waiting_in key rs))
    go true s = ((λ x i. let q = waiting_from key x rs i in subst (λ z. by_rising_stamp (asked_for key r) z ≡ true) (sym q.3) (rising_before key r q.0 (f.0 q.0 q.1))), s)
    go false s = s

pub none_any : {A : Type 0} (p : A → Bool) (xs : List A) → ((x : A) → IsIn x xs → p x ≡ false) → list_any p xs ≡ false
none_any p [] n = refl
none_any p (x ∷ xs) n = ap (λ b. b || list_any p xs) (n x (inl refl)) ∙ none_any p xs (λ y i. n y (inr i))

-- the first writer is below a stamp where some writer is
pub first_tells : (from : ℕ) (who : Attempt) (n : ℕ) (rs : List Request) → Rising rs → reaches (first_writer from who rs) n ≡ not (list_any (λ x. is_writer from who x && ltb x.stamp n) rs)
first_tells from who n [] f = refl
first_tells from who n (r ∷ rs) f = go (is_writer from who r) (first_tells from who n rs f.1)
  where
    later : (b : Bool) → ltb r.stamp n ≡ b → leb n r.stamp ≡ not (b || list_any (λ x. is_writer from who x && ltb x.stamp n) rs)
    later true e = grind (arith, nat_tests, e)
    later false e =
        let none : list_any (λ x. is_writer from who x && ltb x.stamp n) rs ≡ false = none_any (λ x. is_writer from who x && ltb x.stamp n) rs (λ x i. false_from_ne_true (is_writer from who x && ltb x.stamp n) (λ t.
        let p = ltb-true x.stamp n (and_parts (is_writer from who x) (ltb x.stamp n) t).1 in
        let m = f.0 x i in
        true≢false (sym (lt-ltb r.stamp n (omega (arith, p, m))) ∙ e))) in
        rw none (grind (arith, nat_tests, e))

    go : (b : Bool) → reaches (first_writer from who rs) n ≡ not (list_any (λ x. is_writer from who x && ltb x.stamp n) rs) → reaches (cond b (Some r.stamp) (first_writer from who rs)) n ≡ not ((b && ltb r.stamp n) || list_any (λ x. is_writer from who x && ltb x.stamp n) rs)
    go true rest = later (ltb r.stamp n) refl
    go false rest = rest

and_4 : (a b c d : Bool) → a ≡ true → b ≡ true → c ≡ true → d ≡ true → (a && (b && (c && d))) ≡ true
and_4 a b c d p q r s = and_true a (b && (c && d)) p (and_true b (c && d) q (and_true c d r s))

-- what stops an access that asks: `test` is the rule's, which says that a writer stands above `from` and below the access
module _ {loaded : Rows} (h : History) (s : Seen) (t : Tracks loaded s h) (test : Asked → Asked → Bool) (a : Asked) (from : ℕ) where
  abbrev pub Agrees : Asked → Type 0
  Agrees b = test a b ≡ (older_writer a b && ltb from b.stamp)

  hits : (b : Asked) → Agrees b → b.key ≡ a.key → writes b.mode ≡ true → ltb from b.stamp ≡ true → ltb b.stamp a.stamp ≡ true → test a b ≡ true
  hits b g k w f l = g ∙ and_true (older_writer a b) (ltb from b.stamp) (and_true (key_eq b.key a.key) (writes b.mode && ltb b.stamp a.stamp) ((key_decides b.key a.key).1 k) (and_true (writes b.mode) (ltb b.stamp a.stamp) w l)) f

  hit_by : (b : Asked) → Agrees b → test a b ≡ true → (b.key ≡ a.key) × (writes b.mode ≡ true) × (ltb from b.stamp ≡ true) × (ltb b.stamp a.stamp ≡ true)
  hit_by b g e =
      let p = and_parts (older_writer a b) (ltb from b.stamp) (sym g ∙ e) in
      let q = and_parts (key_eq b.key a.key) (writes b.mode && ltb b.stamp a.stamp) p.0 in
      let r = and_parts (writes b.mode) (ltb b.stamp a.stamp) q.1 in
      ((key_decides b.key a.key).0 q.0, r.0, p.1, r.1)

  pub stopped_is : ((b : Asked) → IsIn b (holders h) → Agrees b) → list_any (test a) (holders h) ≡ is_stopped from a.stamp (s.requests a.key)
  stopped_is agree = ⊎_elim
      (λ (f : (x : Request) × IsIn x (s.requests a.key) × (stops from a.stamp x ≡ true)).
      let p = and_parts (not f.0.waits) (writes f.0.mode && (ltb from f.0.stamp && ltb f.0.stamp a.stamp)) f.2 in
      let q = and_parts (writes f.0.mode) (ltb from f.0.stamp && ltb f.0.stamp a.stamp) p.1 in
      let r = and_parts (ltb from f.0.stamp) (ltb f.0.stamp a.stamp) q.1 in
      ⊎_elim
      (λ (o : IsOwner h a.key f.0).
      let i : IsIn (as_asked o.grant) (holders h) = in_held h (grants h) o.grant o.there o.unended in
      any_at (test a) (as_asked o.grant) (holders h) i
      (hits (as_asked o.grant) (agree (as_asked o.grant) i) o.here (ap (λ (z : Request). writes z.mode) (sym o.same) ∙ q.0) (ap (λ (z : Request). ltb from z.stamp) (sym o.same) ∙ r.0) (ap (λ (z : Request). ltb z.stamp a.stamp) (sym o.same) ∙ r.1))
      ∙ sym (any_at (stops from a.stamp) f.0 (s.requests a.key) f.1 f.2))
      (λ (w : IsWaiter h a.key f.0). absurd (true≢false (sym p.0 ∙ ap (λ (z : Request). not z.waits) w.same)))
      (t.real a.key f.0 f.1))
      (λ n. none_any (test a) (holders h) (λ b i. false_from_ne_true (test a b) (λ e.
      let g = held_from h (grants h) b i in
      let k = hit_by b (agree b i) e in
      let here : IsIn (owner_of g.0) (s.requests a.key) = subst (λ z. IsIn (owner_of g.0) (s.requests z)) (sym (ap (λ (z : Asked). z.key) g.3) ∙ k.0) (t.owned g.0 g.1 g.2) in
      true≢false (sym (and_4 true (writes g.0.mode) (ltb from g.0.stamp) (ltb g.0.stamp a.stamp) refl (ap (λ (z : Asked). writes z.mode) (sym g.3) ∙ k.1) (ap (λ (z : Asked). ltb from z.stamp) (sym g.3) ∙ k.2) (ap (λ (z : Asked). ltb z.stamp a.stamp) (sym g.3) ∙ k.3)) ∙ n (owner_of g.0) here)))
      ∙ sym (none_any (stops from a.stamp) (s.requests a.key) n))
      (any_tells (stops from a.stamp) (s.requests a.key))

  module _ (h' : History) (who : Attempt) (c : Closes h h' who) where
    -- a waiter is free after the attempt ended
    pub free_is : ((b : Asked) → IsIn b (holders h') ⊎ IsIn b (waits h) → Agrees b) → (not (list_any (test a) (holders h')) && not (list_any (test a) (waits h))) ≡ reaches (first_writer from who (s.requests a.key)) a.stamp
    free_is agree = ⊎_elim
        (λ (f : (x : Request) × IsIn x (s.requests a.key) × ((is_writer from who x && ltb x.stamp a.stamp) ≡ true)).
        let p = and_parts (is_writer from who f.0) (ltb f.0.stamp a.stamp) f.2 in
        let q = and_parts (not (attempt_eq f.0.who who)) (writes f.0.mode && ltb from f.0.stamp) p.0 in
        let r = and_parts (writes f.0.mode) (ltb from f.0.stamp) q.1 in
        let other : f.0.who ≢ who = λ e. ⊎_elim (λ m. true≢false (sym q.0 ∙ ap not m.0)) (λ m. m.1 e) (attempt_tells f.0.who who) in
        ⊎_elim
        (λ (o : IsOwner h a.key f.0).
        let u : IsUnended h' o.grant.who = unended_on h h' who c o.grant.who (λ e. other (ap (λ (z : Request). z.who) o.same ∙ e)) o.unended in
        let i : IsIn (as_asked o.grant) (holders h') = in_held h' (grants h') o.grant (subst (λ l. IsIn o.grant l) (sym c.grants_same) o.there) u in
        left (any_at (test a) (as_asked o.grant) (holders h') i (hits (as_asked o.grant) (agree (as_asked o.grant) (inl i)) o.here (ap (λ (z : Request). writes z.mode) (sym o.same) ∙ r.0) (ap (λ (z : Request). ltb from z.stamp) (sym o.same) ∙ r.1) (ap (λ (z : Request). ltb z.stamp a.stamp) (sym o.same) ∙ p.1)))
        ∙ some f)
        (λ (w : IsWaiter h a.key f.0).
        right (any_at (test a) w.asked (waits h) w.there (hits w.asked (agree w.asked (inr w.there)) w.here (ap (λ (z : Request). writes z.mode) (sym w.same) ∙ r.0) (ap (λ (z : Request). ltb from z.stamp) (sym w.same) ∙ r.1) (ap (λ (z : Request). ltb z.stamp a.stamp) (sym w.same) ∙ p.1)))
        ∙ some f)
        (t.real a.key f.0 f.1))
        (λ n.
        and_true (not (list_any (test a) (holders h'))) (not (list_any (test a) (waits h)))
        (ap not (none_any (test a) (holders h') (λ b i. false_from_ne_true (test a b) (λ e.
        let g = held_from h' (grants h') b i in
        let v = still h h' who c g.0.who g.2 in
        let k = hit_by b (agree b (inl i)) e in
        let here : IsIn (owner_of g.0) (s.requests a.key) = subst (λ z. IsIn (owner_of g.0) (s.requests z)) (sym (ap (λ (z : Asked). z.key) g.3) ∙ k.0) (t.owned g.0 (subst (λ l. IsIn g.0 l) c.grants_same g.1) v.1) in
        no n (owner_of g.0) here v.0 (ap (λ (z : Asked). writes z.mode) (sym g.3) ∙ k.1) (ap (λ (z : Asked). ltb from z.stamp) (sym g.3) ∙ k.2) (ap (λ (z : Asked). ltb z.stamp a.stamp) (sym g.3) ∙ k.3)))))
        (ap not (none_any (test a) (waits h) (λ b i. false_from_ne_true (test a b) (λ e.
        let k = hit_by b (agree b (inr i)) e in
        let here : IsIn (waiter_of b) (s.requests a.key) = subst (λ z. IsIn (waiter_of b) (s.requests z)) k.0 (t.queued b i) in
        no n (waiter_of b) here (c.nowhere b i) k.1 k.2 k.3))))
        ∙ sym (first_tells from who a.stamp (s.requests a.key) (t.rising a.key) ∙ ap not (none_any (λ x. is_writer from who x && ltb x.stamp a.stamp) (s.requests a.key) n)))
        (any_tells (λ x. is_writer from who x && ltb x.stamp a.stamp) (s.requests a.key))
      where
        left : list_any (test a) (holders h') ≡ true → (not (list_any (test a) (holders h')) && not (list_any (test a) (waits h))) ≡ false
        left e = rw e refl

        right : list_any (test a) (waits h) ≡ true → (not (list_any (test a) (holders h')) && not (list_any (test a) (waits h))) ≡ false
        right e = rw e (last (list_any (test a) (holders h')))
          where
            last : (b : Bool) → (not b && false) ≡ false
            last true = refl
            last false = refl

        some : (x : Request) × IsIn x (s.requests a.key) × ((is_writer from who x && ltb x.stamp a.stamp) ≡ true) → false ≡ reaches (first_writer from who (s.requests a.key)) a.stamp
        some f = sym (first_tells from who a.stamp (s.requests a.key) (t.rising a.key) ∙ ap not (any_at (λ x. is_writer from who x && ltb x.stamp a.stamp) f.0 (s.requests a.key) f.1 f.2))

        no : ((x : Request) → IsIn x (s.requests a.key) → (is_writer from who x && ltb x.stamp a.stamp) ≡ false) → (x : Request) → IsIn x (s.requests a.key) → x.who ≢ who → writes x.mode ≡ true → ltb from x.stamp ≡ true → ltb x.stamp a.stamp ≡ true → ⊥
        no n x i o w f l = true≢false (sym (and_true (is_writer from who x) (ltb x.stamp a.stamp) (and_true (not (attempt_eq x.who who)) (writes x.mode && ltb from x.stamp) (⊎_elim (λ m. absurd (o m.1)) (λ m. ap not m.0) (attempt_tells x.who who)) (and_true (writes x.mode) (ltb from x.stamp) w f)) l) ∙ n x i)

-- those of the waiting requests for these keys that pass a test
module _ (loaded : Rows) (h : History) (known : Known loaded h) (distinct : Distinct (waits h)) (s : Seen) (t : Tracks loaded s h) (q : Asked → Bool) where
  abbrev pub by_keys : List Key → List Asked
  by_keys [] = []
  by_keys (k ∷ ks) = filter q (waiting_in k (s.requests k)) ++ by_keys ks

  of_key : (a : Asked) (k : Key) → IsIn a (filter q (waiting_in k (s.requests k))) → IsIn a (waits h) × (q a ≡ true) × (a.key ≡ k)
  of_key a k i =
      let f = filter_in q a (waiting_in k (s.requests k)) i in
      let w = waiting_from k a (s.requests k) f.0 in
      ⊎_elim
      (λ (o : IsOwner h k w.0). absurd (true≢false (sym w.2 ∙ ap (λ (r : Request). r.waits) o.same)))
      (λ (x : IsWaiter h k w.0).
      let is : a ≡ x.asked = w.3 ∙ ap (asked_for k) x.same ∙ ap (λ z. record { who = x.asked.who; stamp = x.asked.stamp; key = z; mode = x.asked.mode }) (sym x.here) in
      (subst (λ z. IsIn z (waits h)) (sym is) x.there, f.1, ap (λ (z : Asked). z.key) is ∙ x.here))
      (t.real k w.0 w.1)

  key_of : (a : Asked) (k : Key) → IsIn a (waits h) → q a ≡ true → a.key ≡ k → IsIn a (filter q (waiting_in k (s.requests k)))
  key_of a k i e here =
      let there : IsIn (waiter_of a) (s.requests k) = subst (λ z. IsIn (waiter_of a) (s.requests z)) here (t.queued a i) in
      in_filter q a (waiting_in k (s.requests k)) (subst (λ z. IsIn z (waiting_in k (s.requests k))) (ap (λ z. record { who = a.who; stamp = a.stamp; key = z; mode = a.mode }) (sym here)) (from_waiting k (waiter_of a) (s.requests k) there refl)) e

  in_keys : (ks : List Key) (a : Asked) → IsIn a (by_keys ks) → IsIn a (waits h) × (q a ≡ true) × IsIn a.key ks
  in_keys [] a i = absurd i
  in_keys (k ∷ ks) a i = ⊎_elim (λ j. let o = of_key a k j in (o.0, o.1, inl o.2)) (λ j. let o = in_keys ks a j in (o.0, o.1, inr o.2)) (in_cases a (filter q (waiting_in k (s.requests k))) (by_keys ks) i)

  keys_in : (ks : List Key) (a : Asked) → IsIn a (waits h) → q a ≡ true → IsIn a.key ks → IsIn a (by_keys ks)
  keys_in [] a i e j = absurd j
  keys_in (k ∷ ks) a i e j = ⊎_elim
      (λ here. in_left a (filter q (waiting_in k (s.requests k))) (by_keys ks) (key_of a k i e here))
      (λ l. in_right a (filter q (waiting_in k (s.requests k))) (by_keys ks) (keys_in ks a i e l))
      j

  sorted_append : (xs ys : List Asked) → Sorted by_rising_stamp xs → Sorted by_rising_stamp ys → ((x y : Asked) → IsIn x xs → IsIn y ys → by_rising_stamp x y ≡ true) → Sorted by_rising_stamp (xs ++ ys)
  sorted_append [] ys a b f = b
  sorted_append (x ∷ xs) ys a b f = ((λ y i. ⊎_elim (λ j. a.0 y j) (λ j. f x y (inl refl) j) (in_cases y xs ys i)), sorted_append xs ys a.1 b (λ p q i j. f p q (inr i) j))

  keys_sorted : (ks : List Key) → KeysRise ks → Sorted by_rising_stamp (by_keys ks)
  keys_sorted [] r = tt
  keys_sorted (k ∷ ks) r =
      sorted_append (filter q (waiting_in k (s.requests k))) (by_keys ks)
      (sorted_filter by_rising_stamp rising_trans rising_irrefl q (waiting_in k (s.requests k)) (waiting_sorted k (s.requests k) (t.rising k)))
      (keys_sorted ks r.1)
      (λ x y i j. let o = of_key x k i in let p = in_keys ks y j in later (key_lt x.key y.key) (ap (λ z. key_lt z y.key) o.2 ∙ r.0 y.key p.2) (key_eq x.key y.key && ltb x.stamp y.stamp))
    where
      later : (b : Bool) → b ≡ true → (c : Bool) → (b || c) ≡ true
      later true e c = refl
      later false e c = absurd (true≢false (sym e))

  -- are all that pass it, where each of them has one of the keys
  pub by_keys_is : (ks : List Key) → KeysRise ks → ((a : Asked) → IsIn a (waits h) → q a ≡ true → IsIn a.key ks) → by_keys ks ≡ sort by_rising_stamp (filter q (waits h))
  by_keys_is ks r f =
      sorted_unique by_rising_stamp rising_trans rising_irrefl (by_keys ks) (sort by_rising_stamp (filter q (waits h)))
      (keys_sorted ks r)
      (sorted_sort by_rising_stamp rising_trans (filter q (waits h)) (distinct_filter q (waits h) distinct) (waits_total false loaded h known q))
      (λ x i. let o = in_keys ks x i in in_sort by_rising_stamp x (filter q (waits h)) (in_filter q x (waits h) o.0 o.1))
      (λ x i. let o = filter_in q x (waits h) (sort_in by_rising_stamp x (filter q (waits h)) i) in keys_in ks x o.0 o.1 (f x o.0 o.1))
