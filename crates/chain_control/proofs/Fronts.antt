-- Whom the table wakes is whom the rule wakes.
use Rattle.std.proofs.Common.{◌≡◌, ◌≢◌, ◌⊎◌, ℕ, ◌<◌, ltb, List, [], ◌∷◌, ◌++◌, map, filter, Bool, true, false, not, ◌&&◌, ◌||◌, cond, refl, sym, ap, ap₂, ◌∙◌, subst, inl, inr, ⊎_elim, arith, Option, Some, None, true≢false}
use Rattle.std.proofs.lemmas.Bool.{false_from_ne_true, cases_Bool}
use Rattle.std.proofs.lemmas.Bool.Decides.{nat_tests}
use Rattle.std.specs.List.{list_any}
use Rattle.deneva_base.specs.declared.keys.Key.{Key}
use Rattle.deneva_base.specs.declared.numbers.Attempt.{Attempt}
use Rattle.deneva_base.specs.declared.numbers.Number.{Number}
use Rattle.deneva_base.specs.declared.rows.Keyed.{Keyed}
use Rattle.deneva_base.specs.Lists.{IsIn, sort}
use Rattle.deneva_base.specs.Rows.{Rows}
use Rattle.deneva_base.specs.Keys.{key_eq, key_lt, attempt_eq}
use Rattle.protocol_rules.specs.History.{History, Asked, Grant, grants, waits, yeas, IsUnended}
use Rattle.protocol_rules.specs.Latest.{row_for, writes_in}
use Rattle.protocol_rules.specs.Order.{Sorted, by_rising_stamp}
use Rattle.protocol_rules.specs.Versions.{below}
use Rattle.protocol_rules.specs.Waiting.{as_asked, holders, holds, goes}
use Rattle.protocol_rules.specs.Mvcc.{writer_between}
use Rattle.deneva_base.proofs.Membership.{in_cases, in_left, in_right, in_map, in_map_from, in_filter, filter_in, any_at, any_found, and_true, and_parts, key_tells, key_decides, attempt_tells, attempt_decides}
use Rattle.protocol_rules.proofs.Known.{Known}
use Rattle.protocol_rules.proofs.Sorts.{Distinct, distinct_filter, sort_in, in_sort, sorted_sort, sorted_unique, rising_trans, rising_irrefl}
use Rattle.protocol_rules.proofs.Stamped.{waits_total}
use Rattle.protocol_rules.proofs.Stops.{held_from, in_held}
use Rattle.chain_control.specs.declared.requests.Request.{Request}
use Rattle.chain_control.specs.declared.lines.Lines.{Lines}
use Rattle.chain_control.specs.Requests.{stands_between, waiter_for}
use Rattle.chain_control.specs.Chains.{Chain}
use Rattle.chain_control.specs.Tables.{chain_at, new_of, goers_in, goers_over}
use Rattle.chain_control.specs.Standing.{State, requests_in, owner_of, waiter_of, IsOwner, IsWaiter, StampsRise, Tracks}
use Rattle.shelf.specs.Shelves.{held}
use Rattle.shelf.specs.Keeps.{Rising}
use Rattle.chain_control.proofs.Lists.{map_both}
use Rattle.chain_control.proofs.Answering.{between_is}
use Rattle.chain_control.proofs.Goers.{bars, is_barred, goes_in, goers_are}
use Rattle.chain_control.proofs.Ending.{Leaves}
use Rattle.chain_control.proofs.Waking.{to_waiter}

abbrev pub access_of : Key → Request → Asked
access_of key r = record { who = r.who; stamp = r.stamp; key = key; mode = r.mode }

key_refl : (k : Key) → key_eq k k ≡ true
key_refl k = ⊎_elim (λ t. t.0) (λ f. absurd (f.1 refl)) (key_tells k k)

rising_before : (key : Key) (a b : Request) → a.stamp < b.stamp → by_rising_stamp (access_of key a) (access_of key b) ≡ true
rising_before key a b less = go (key_lt key key) (key_eq key key) (key_refl key) (grind (arith, nat_tests, less))
  where
    go : (l e : Bool) → e ≡ true → ltb a.stamp b.stamp ≡ true → (l || (e && ltb a.stamp b.stamp)) ≡ true
    go true e s t = refl
    go false e s t = and_true e (ltb a.stamp b.stamp) s t

goers_sorted : (key : Key) (p : Request → Bool) (rs : List Request) → StampsRise rs → Sorted by_rising_stamp (map (access_of key) (filter p rs))
goers_sorted key p [] f = tt
goers_sorted key p (r ∷ rs) f = go (p r) (goers_sorted key p rs f.1)
  where
    go : (b : Bool) → Sorted by_rising_stamp (map (access_of key) (filter p rs)) → Sorted by_rising_stamp (map (access_of key) (cond b (r ∷ filter p rs) (filter p rs)))
    go true s =
        ((λ x i. let q = in_map_from (access_of key) x (filter p rs) i in subst (λ z. by_rising_stamp (access_of key r) z ≡ true) (sym q.2) (rising_before key r q.0 (f.0 q.0 (filter_in p q.0 rs q.1).0))), s)
    go false s = s

goers_is : (key : Key) (who : Attempt) (new : Option Number) (x : Option Chain) → StampsRise (requests_in x) → goers_in key who new x ≡ map (waiter_for key new) (filter (goes_in who new (requests_in x)) (requests_in x))
goers_is key who new None rise = refl
goers_is key who new (Some c) rise = goers_are key who new c.requests rise

not_false : (b : Bool) → not b ≡ true → b ≡ false
not_false true e = absurd (true≢false (sym e))
not_false false e = refl

module _ (keep : ℕ) (loaded : Rows) (h h1 : History) (who : Attempt) (number : Option Number) (known : Known loaded h) (distinct : Distinct (waits h)) (c : Leaves loaded h h1 who number)
    (law : (a : Asked) → IsIn a (waits h) → holds h who a.key ≡ false → list_any (writer_between loaded h1 a) (holders h1) ≡ true)
    (s : State) (t : Tracks loaded s h) where
  abbrev pub new : Key → Option Number
  new k = new_of number (row_for k (writes_in (yeas h) who))

  abbrev pub goes_here : Asked → Bool
  goes_here a = goes (writer_between loaded h1) h h1 who a

  abbrev low : Asked → ℕ
  low a = (below loaded h1 a.key a.stamp).number.n

  -- who is barred is stopped, and who is stopped is barred
  barred_stops : (a : Asked) (r : Request) → IsIn r (requests_in (s.chains a.key)) → bars who (low a) a.stamp r ≡ true → ((b : Asked) × IsIn b (holders h1) × (writer_between loaded h1 a b ≡ true)) ⊎ ((b : Asked) × IsIn b (waits h) × (writer_between loaded h1 a b ≡ true))
  barred_stops a r i e =
      let p = and_parts (not (attempt_eq r.who who)) (stands_between (low a) a.stamp r) e in
      ⊎_elim
      (λ (o : IsOwner h a.key r).
      let other : o.grant.who ≢ who = λ x. ⊎_elim (λ m. true≢false (sym p.0 ∙ ap not m.0)) (λ m. m.1 (ap (λ (z : Request). z.who) o.same ∙ x)) (attempt_tells r.who who) in
      let unended : IsUnended h1 o.grant.who = λ j. ⊎_elim (λ x. other x) (λ k. o.unended k) (subst (λ l. IsIn o.grant.who l) c.closes.ended_more j) in
      inl (
        as_asked o.grant,
        in_held h1 (grants h1) o.grant (subst (λ l. IsIn o.grant l) (sym c.closes.grants_same) o.there) unended,
        between_is loaded h1 a.who a.stamp a.key a.mode (as_asked o.grant) r (ap (λ (z : Request). z.stamp) o.same) (ap (λ (z : Request). z.mode) o.same)
            ∙ and_true (key_eq o.grant.key a.key) (stands_between (low a) a.stamp r) ((key_decides o.grant.key a.key).1 o.here) p.1,
      ))
      (λ (q : IsWaiter loaded h a.key r).
      inr (
        q.asked,
        q.there,
        between_is loaded h1 a.who a.stamp a.key a.mode q.asked r (ap (λ (z : Request). z.stamp) q.same) (ap (λ (z : Request). z.mode) q.same)
            ∙ and_true (key_eq q.asked.key a.key) (stands_between (low a) a.stamp r) ((key_decides q.asked.key a.key).1 q.here) p.1,
      ))
      (t.real a.key r i)

  bar : (a : Asked) (r : Request) → IsIn r (requests_in (s.chains a.key)) → r.who ≢ who → stands_between (low a) a.stamp r ≡ true → is_barred who (low a) a.stamp (requests_in (s.chains a.key)) ≡ true
  bar a r i n e = any_at (bars who (low a) a.stamp) r (requests_in (s.chains a.key)) i (and_true (not (attempt_eq r.who who)) (stands_between (low a) a.stamp r) (⊎_elim (λ m. absurd (n m.1)) (λ m. ap not m.0) (attempt_tells r.who who)) e)

  holder_bars : (a b : Asked) → IsIn b (holders h1) → writer_between loaded h1 a b ≡ true → is_barred who (low a) a.stamp (requests_in (s.chains a.key)) ≡ true
  holder_bars a b i e =
      let g = held_from h1 (grants h1) b i in
      let n : g.0.who ≢ who = λ x. g.2 (subst (λ l. IsIn g.0.who l) (sym c.closes.ended_more) (inl x)) in
      let u : IsUnended h g.0.who = λ j. g.2 (subst (λ l. IsIn g.0.who l) (sym c.closes.ended_more) (inr j)) in
      let e2 : writer_between loaded h1 a (as_asked g.0) ≡ true = ap (writer_between loaded h1 a) (sym g.3) ∙ e in
      let p = and_parts (key_eq g.0.key a.key) (stands_between (low a) a.stamp (owner_of g.0)) (sym (between_is loaded h1 a.who a.stamp a.key a.mode (as_asked g.0) (owner_of g.0) refl refl) ∙ e2) in
      bar a (owner_of g.0) (subst (λ k. IsIn (owner_of g.0) (requests_in (s.chains k))) ((key_decides g.0.key a.key).0 p.0) (t.owned g.0 (subst (λ l. IsIn g.0 l) c.closes.grants_same g.1) u)) n p.1

  waiter_bars : (a b : Asked) → IsIn b (waits h) → writer_between loaded h1 a b ≡ true → is_barred who (low a) a.stamp (requests_in (s.chains a.key)) ≡ true
  waiter_bars a b i e =
      let p = and_parts (key_eq b.key a.key) (stands_between (low a) a.stamp (waiter_of loaded h b)) (sym (between_is loaded h1 a.who a.stamp a.key a.mode b (waiter_of loaded h b) refl refl) ∙ e) in
      bar a (waiter_of loaded h b) (subst (λ k. IsIn (waiter_of loaded h b) (requests_in (s.chains k))) ((key_decides b.key a.key).0 p.0) (t.queued b i)) (c.closes.nowhere b i) p.1

  none_any : (p : Asked → Bool) (xs : List Asked) → ((x : Asked) → IsIn x xs → p x ≡ true → ⊥) → list_any p xs ≡ false
  none_any p xs f = false_from_ne_true (list_any p xs) (λ e. let x = any_found p xs e in f x.0 x.1 x.2)

  -- the test of the table is the rule's
  goes_test : (a : Asked) → IsIn a (waits h) → goes_in who (new a.key) (requests_in (s.chains a.key)) (waiter_of loaded h a) ≡ not (is_barred who (low a) a.stamp (requests_in (s.chains a.key)))
  goes_test a i = ap (λ (v : Number). not (is_barred who v.n a.stamp (requests_in (s.chains a.key)))) (sym (c.raises a.key a.stamp))

  goes_from : (a : Asked) → IsIn a (waits h) → goes_in who (new a.key) (requests_in (s.chains a.key)) (waiter_of loaded h a) ≡ true → goes_here a ≡ true
  goes_from a i e =
      let free = not_false (is_barred who (low a) a.stamp (requests_in (s.chains a.key))) (sym (goes_test a i) ∙ e) in
      let held = none_any (writer_between loaded h1 a) (holders h1) (λ b j f. true≢false (sym (holder_bars a b j f) ∙ free)) in
      let waiting = none_any (writer_between loaded h1 a) (waits h) (λ b j f. true≢false (sym (waiter_bars a b j f) ∙ free)) in
      let has : holds h who a.key ≡ true = ⊎_elim (λ x. x) (λ n. absurd (true≢false (sym (law a i n) ∙ held))) (cases_Bool (holds h who a.key)) in
      and_true (holds h who a.key) (not (list_any (writer_between loaded h1 a) (holders h1)) && not (list_any (writer_between loaded h1 a) (waits h))) has
      (and_true (not (list_any (writer_between loaded h1 a) (holders h1))) (not (list_any (writer_between loaded h1 a) (waits h))) (ap not held) (ap not waiting))

  pub from_goes : (a : Asked) → IsIn a (waits h) → goes_here a ≡ true → IsIn a.key (held s.shelf who).keys × (goes_in who (new a.key) (requests_in (s.chains a.key)) (waiter_of loaded h a) ≡ true)
  from_goes a i e =
      let p = and_parts (holds h who a.key) (not (list_any (writer_between loaded h1 a) (holders h1)) && not (list_any (writer_between loaded h1 a) (waits h))) e in
      let q = and_parts (not (list_any (writer_between loaded h1 a) (holders h1))) (not (list_any (writer_between loaded h1 a) (waits h))) p.1 in
      let f = any_found (λ (g : Grant). attempt_eq g.who who && key_eq g.key a.key) (grants h) p.0 in
      let r = and_parts (attempt_eq f.0.who who) (key_eq f.0.key a.key) f.2 in
      let mine : f.0.who ≡ who = (attempt_decides f.0.who who).0 r.0 in
      let noted = t.kept.noted f.0 f.1 (subst (λ w. IsUnended h w) (sym mine) c.closes.unended) in (
        subst (λ k. IsIn k (held s.shelf who).keys) ((key_decides f.0.key a.key).0 r.1) (subst (λ w. IsIn f.0.key (held s.shelf w).keys) mine noted),
        goes_test a i ∙ ap not (false_from_ne_true (is_barred who (low a) a.stamp (requests_in (s.chains a.key))) (λ b.
            let x = any_found (bars who (low a) a.stamp) (requests_in (s.chains a.key)) b in
            ⊎_elim
            (λ y. true≢false (sym (any_at (writer_between loaded h1 a) y.0 (holders h1) y.1 y.2) ∙ not_false (list_any (writer_between loaded h1 a) (holders h1)) q.0))
            (λ y. true≢false (sym (any_at (writer_between loaded h1 a) y.0 (waits h) y.1 y.2) ∙ not_false (list_any (writer_between loaded h1 a) (waits h)) q.1))
            (barred_stops a x.0 x.1 x.2))),
      )

  -- those of one key
  abbrev of_key : Key → List Asked
  of_key k = map (access_of k) (filter (goes_in who (new k) (requests_in (s.chains k))) (requests_in (s.chains k)))

  -- a request that goes is a waiter's
  goer : (k : Key) (r : Request) → IsIn r (requests_in (s.chains k)) → goes_in who (new k) (requests_in (s.chains k)) r ≡ true → (a : Asked) × IsIn a (waits h) × (a.key ≡ k) × (r ≡ waiter_of loaded h a)
  goer k r i e = ⊎_elim
      (λ (o : IsOwner h k r). absurd (true≢false (sym e ∙ ap (goes_in who (new k) (requests_in (s.chains k))) o.same)))
      (λ (q : IsWaiter loaded h k r). (q.asked, q.there, q.here, q.same))
      (t.real k r i)

  of_key_in : (a : Asked) (k : Key) → IsIn a (of_key k) → IsIn a (waits h) × (goes_here a ≡ true) × (a.key ≡ k)
  of_key_in a k i =
      let m = in_map_from (access_of k) a (filter (goes_in who (new k) (requests_in (s.chains k))) (requests_in (s.chains k))) i in
      let f = filter_in (goes_in who (new k) (requests_in (s.chains k))) m.0 (requests_in (s.chains k)) m.1 in
      let g = goer k m.0 f.0 f.1 in
      let is : a ≡ g.0 = m.2 ∙ ap (access_of k) g.3 ∙ ap (λ q. record { who = g.0.who; stamp = g.0.stamp; key = q; mode = g.0.mode }) (sym g.2) in
      let test : goes_in who (new g.0.key) (requests_in (s.chains g.0.key)) (waiter_of loaded h g.0) ≡ true = subst (λ q. goes_in who (new q) (requests_in (s.chains q)) (waiter_of loaded h g.0) ≡ true) (sym g.2) (ap (goes_in who (new k) (requests_in (s.chains k))) (sym g.3) ∙ f.1) in
      (subst (λ z. IsIn z (waits h)) (sym is) g.1, subst (λ z. goes_here z ≡ true) (sym is) (goes_from g.0 g.1 test), ap (λ (z : Asked). z.key) is ∙ g.2)

  in_of_key : (a : Asked) → IsIn a (waits h) → goes_in who (new a.key) (requests_in (s.chains a.key)) (waiter_of loaded h a) ≡ true → IsIn a (of_key a.key)
  in_of_key a i e = in_map (access_of a.key) (waiter_of loaded h a) (filter (goes_in who (new a.key) (requests_in (s.chains a.key))) (requests_in (s.chains a.key))) (in_filter (goes_in who (new a.key) (requests_in (s.chains a.key))) (waiter_of loaded h a) (requests_in (s.chains a.key)) (t.queued a i) e)

  -- those of all keys
  abbrev pub of_keys : List Key → List Asked
  of_keys [] = []
  of_keys (k ∷ ks) = map (access_of k) (filter (goes_in who (new k) (requests_in (s.chains k))) (requests_in (s.chains k))) ++ of_keys ks

  of_keys_in : (ks : List Key) (a : Asked) → IsIn a (of_keys ks) → IsIn a (waits h) × (goes_here a ≡ true) × IsIn a.key ks
  of_keys_in [] a i = absurd i
  of_keys_in (k ∷ ks) a i = ⊎_elim (λ j. let o = of_key_in a k j in (o.0, o.1, inl o.2)) (λ j. let o = of_keys_in ks a j in (o.0, o.1, inr o.2)) (in_cases a (of_key k) (of_keys ks) i)

  in_of_keys : (ks : List Key) (a : Asked) → IsIn a (of_key a.key) → IsIn a.key ks → IsIn a (of_keys ks)
  in_of_keys [] a i j = absurd j
  in_of_keys (k ∷ ks) a i j = ⊎_elim
      (λ (e : a.key ≡ k). in_left a (of_key k) (of_keys ks) (subst (λ q. IsIn a (of_key q)) e i))
      (λ l. in_right a (of_key k) (of_keys ks) (in_of_keys ks a i l))
      j

  sorted_append : (xs ys : List Asked) → Sorted by_rising_stamp xs → Sorted by_rising_stamp ys → ((x y : Asked) → IsIn x xs → IsIn y ys → by_rising_stamp x y ≡ true) → Sorted by_rising_stamp (xs ++ ys)
  sorted_append [] ys a b f = b
  sorted_append (x ∷ xs) ys a b f = ((λ y i. ⊎_elim (λ j. a.0 y j) (λ j. f x y (inl refl) j) (in_cases y xs ys i)), sorted_append xs ys a.1 b (λ p q i j. f p q (inr i) j))

  keys_sorted : (ks : List Key) → Rising ks → Sorted by_rising_stamp (of_keys ks)
  keys_sorted [] r = tt
  keys_sorted (k ∷ ks) r =
      sorted_append (of_key k) (of_keys ks)
      (goers_sorted k (goes_in who (new k) (requests_in (s.chains k))) (requests_in (s.chains k)) (t.stamps_rise k))
      (keys_sorted ks r.1)
      (λ x y i j. let o = of_key_in x k i in let p = of_keys_in ks y j in later (key_lt x.key y.key) (ap (λ q. key_lt q y.key) o.2 ∙ r.0 y.key p.2) (key_eq x.key y.key && ltb x.stamp y.stamp))
    where
      later : (b : Bool) → b ≡ true → (c : Bool) → (b || c) ≡ true
      later true e c = refl
      later false e c = absurd (true≢false (sym e))

  pub all_keys : of_keys (held s.shelf who).keys ≡ sort by_rising_stamp (filter goes_here (waits h))
  all_keys =
      sorted_unique by_rising_stamp rising_trans rising_irrefl (of_keys (held s.shelf who).keys) (sort by_rising_stamp (filter goes_here (waits h)))
      (keys_sorted (held s.shelf who).keys (t.kept.rising who))
      (sorted_sort by_rising_stamp rising_trans (filter goes_here (waits h)) (distinct_filter goes_here (waits h) distinct) (waits_total true loaded h known goes_here))
      (λ x i. let o = of_keys_in (held s.shelf who).keys x i in in_sort by_rising_stamp x (filter goes_here (waits h)) (in_filter goes_here x (waits h) o.0 o.1))
      (λ x i.
      let f = filter_in goes_here x (waits h) (sort_in by_rising_stamp x (filter goes_here (waits h)) i) in
      let g = from_goes x f.0 f.1 in
      in_of_keys (held s.shelf who).keys x (in_of_key x f.0 g.1) g.0)

  map_append : (xs ys : List Asked) → map (to_waiter loaded h1) (xs ++ ys) ≡ map (to_waiter loaded h1) xs ++ map (to_waiter loaded h1) ys
  map_append [] ys = refl
  map_append (x ∷ xs) ys = ap (λ l. to_waiter loaded h1 x ∷ l) (map_append xs ys)

  as_waiters : (k : Key) → map (waiter_for k (new k)) (filter (goes_in who (new k) (requests_in (s.chains k))) (requests_in (s.chains k))) ≡ map (to_waiter loaded h1) (of_key k)
  as_waiters k =
      sym (map_both (to_waiter loaded h1) (access_of k) (waiter_for k (new k)) (filter (goes_in who (new k) (requests_in (s.chains k))) (requests_in (s.chains k))) (λ r i.
      let f = filter_in (goes_in who (new k) (requests_in (s.chains k))) r (requests_in (s.chains k)) i in
      let g = goer k r f.0 f.1 in
      subst (λ z. to_waiter loaded h1 (access_of k z) ≡ waiter_for k (new k) z) (sym g.3)
      (subst (λ q. to_waiter loaded h1 (access_of q (waiter_of loaded h g.0)) ≡ waiter_for q (new q) (waiter_of loaded h g.0)) g.2
      (ap (λ (v : Number). record { who = g.0.who; stamp = g.0.stamp; key = g.0.key; version = v }) (c.raises g.0.key g.0.stamp)))))

  pub front_is : (lines : Lines) (rows : List Keyed) (ks : List Key) → rows ≡ writes_in (yeas h) who → ((k : Key) → chain_at lines k ≡ s.chains k) → goers_over who number rows lines ks ≡ map (to_waiter loaded h1) (of_keys ks)
  front_is lines rows [] w e = refl
  front_is lines rows (k ∷ ks) w e =
      ap₂ (λ x y. x ++ y)
      (ap₂ (λ ws x. goers_in k who (new_of number (row_for k ws)) x) w (e k) ∙ goers_is k who (new k) (s.chains k) (t.stamps_rise k) ∙ as_waiters k)
      (front_is lines rows ks w e)
      ∙ sym (map_append (of_key k) (of_keys ks))

  pub front_all : (lines : Lines) (rows : List Keyed) → rows ≡ writes_in (yeas h) who → ((k : Key) → chain_at lines k ≡ s.chains k) → goers_over who number rows lines (held s.shelf who).keys ≡ map (to_waiter loaded h1) (sort by_rising_stamp (filter goes_here (waits h)))
  front_all lines rows w e = front_is lines rows (held s.shelf who).keys w e ∙ ap (map (to_waiter loaded h1)) all_keys
