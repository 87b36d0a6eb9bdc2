-- WAIT_DIE: the wakes of a key are those that are taken from the front of its queue.
use Rattle.std.proofs.Common.{◌≡◌, ◌≢◌, ◌⊎◌, ◌<◌, ◌≤◌, List, [], ◌∷◌, map, filter, Bool, true, false, cond, not, leb, ◌&&◌, refl, sym, ap, ◌∙◌, subst, inl, inr, ⊎_elim, arith, true≢false}
use Rattle.std.specs.List.{list_any}
use Rattle.deneva_base.specs.declared.keys.Key.{Key}
use Rattle.deneva_base.specs.Lists.{IsIn, sort}
use Rattle.deneva_base.specs.Rows.{Rows}
use Rattle.deneva_base.specs.Keys.{key_eq}
use Rattle.protocol_rules.specs.History.{Call, Ask, Prepare, Commit, Abort, History, Asked, Grant, waits, is_woken}
use Rattle.protocol_rules.specs.Rules.{Obeys}
use Rattle.protocol_rules.specs.Order.{by_falling_stamp}
use Rattle.protocol_rules.specs.Locks.{conflicts, owners, blockers}
use Rattle.protocol_rules.specs.Waiting.{as_asked, holders}
use Rattle.protocol_rules.specs.WaitDie.{none, is_free, front, wake_of, wakes, wait_die, queue, Falls, taken, FromFront, WakesFromFront}
use Rattle.deneva_base.proofs.Membership.{in_map, in_map_from, in_filter, filter_in, any_at, any_found, key_decides}
use Rattle.protocol_rules.proofs.Sound.{sound}
use Rattle.protocol_rules.proofs.Known.{Known, known, known_more}
use Rattle.protocol_rules.proofs.Sorts.{Distinct, distinct_filter, sort_in, in_sort, sort_filter, falling_trans, falling_total, falling_irrefl}
use Rattle.protocol_rules.proofs.Wakes.{distinct_waits}
use Rattle.protocol_rules.proofs.Locks.{conflict_decides, in_blockers}
use Rattle.protocol_rules.proofs.WaitDies.{free_parts, parts_free, front_in, front_free, front_or, stamps_differ, in_order, falls_sorted}

filter_swap : {A : Type 0} (p q : A → Bool) (xs : List A) → filter p (filter q xs) ≡ filter q (filter p xs)
filter_swap p q [] = refl
filter_swap {A} p q (x ∷ xs) = go (p x) refl (q x) refl (filter_swap p q xs)
  where
    go : (b : Bool) → p x ≡ b → (c : Bool) → q x ≡ c → filter p (filter q xs) ≡ filter q (filter p xs) → filter p (cond c (x ∷ filter q xs) (filter q xs)) ≡ filter q (cond b (x ∷ filter p xs) (filter p xs))
    go true e true f same = rw e (rw f (ap (λ ys. x ∷ ys) same))
    go true e false f same = rw f same
    go false e true f same = rw e same
    go false e false f same = same

filter_map : {A B : Type 0} (f : A → B) (p : B → Bool) (xs : List A) → filter p (map f xs) ≡ map f (filter (λ x. p (f x)) xs)
filter_map f p [] = refl
filter_map {A} f p (x ∷ xs) = go (p (f x)) (filter_map f p xs)
  where
    go : (b : Bool) → filter p (map f xs) ≡ map f (filter (λ y. p (f y)) xs) → cond b (f x ∷ filter p (map f xs)) (filter p (map f xs)) ≡ map f (cond b (x ∷ filter (λ y. p (f y)) xs) (filter (λ y. p (f y)) xs))
    go true e = ap (λ ys. f x ∷ ys) e
    go false e = e

filter_none : {A : Type 0} (p : A → Bool) (xs : List A) → ((x : A) → IsIn x xs → p x ≡ false) → filter p xs ≡ []
filter_none p [] n = refl
filter_none p (x ∷ xs) n = rw (n x (inl refl)) (filter_none p xs (λ y i. n y (inr i)))

-- the test of the front
abbrev leads : History → Asked → Bool
leads h a = none (filter (λ b. key_eq b.key a.key && (leb a.stamp b.stamp && not (is_free h b))) (waits h))

abbrev bars : Asked → Asked → Bool
bars a b = conflicts b.who b.key b.mode a.who a.key a.mode

none_of : {A : Type 0} (xs : List A) → ((x : A) → IsIn x xs → ⊥) → none xs ≡ true
none_of [] n = refl
none_of (x ∷ xs) n = absurd (n x (inl refl))

lead_true : (h : History) (a : Asked) → IsIn a (waits h) → ((b : Asked) → IsIn b (waits h) → b.key ≡ a.key → a.stamp ≤ b.stamp → is_free h b ≡ true) → leads h a ≡ true
lead_true h a i f = ⊎_elim (λ j. (filter_in (leads h) a (waits h) j).1) (λ b. absurd (true≢false (sym (f b.0 b.1 b.2 b.3) ∙ b.4))) (front_or h a i)

lead_false : (h : History) (a b : Asked) → IsIn a (waits h) → IsIn b (waits h) → b.key ≡ a.key → a.stamp ≤ b.stamp → is_free h b ≡ false → leads h a ≡ false
lead_false h a b i j k le n = go (leads h a) refl
  where
    go : (t : Bool) → leads h a ≡ t → t ≡ false
    go false e = refl
    go true e = absurd (true≢false (sym (front_free h a b (in_filter (leads h) a (waits h) i e) j k le) ∙ n))

barred : (h : History) (a b : Asked) → bars a b ≡ true → IsIn b (holders h) ⊎ (IsIn b (waits h) × (a.stamp < b.stamp)) → is_free h a ≡ false
barred h a b c i = go (is_free h a) refl
  where
    hit : is_free h a ≡ true → ⊥
    hit e =
        let f = free_parts h a e in
        ⊎_elim
        (λ o.
        let g = in_map_from as_asked b (owners h) o in
        absurd (true≢false (sym f.0 ∙ blocked g.0 g.1 (subst (λ z. bars a z ≡ true) g.2 c))))
        (λ w. f.1 b w.0 ((conflict_decides b.who b.key b.mode a.who a.key a.mode).0 c) w.1)
        i
      where
        some : (xs : List Grant) (g : Grant) → IsIn g xs → none xs ≡ false
        some [] g i = absurd i
        some (x ∷ xs) g i = refl

        blocked : (g : Grant) → IsIn g (owners h) → conflicts g.who g.key g.mode a.who a.key a.mode ≡ true → none (blockers h a) ≡ false
        blocked g i t = some (blockers h a) g (in_filter (λ x. conflicts x.who x.key x.mode a.who a.key a.mode) g (owners h) i t)

    go : (t : Bool) → is_free h a ≡ t → t ≡ false
    go false e = refl
    go true e = absurd (hit e)

-- what is known on the way down a queue: all waiters of the key have been taken or follow, and what was taken is free
record Walk (h : History) (key : Key) (done held as' : List Asked) : Type 0 where
  pub falls : Falls as'
  pub here : (b : Asked) → IsIn b as' → IsIn b (waits h) × (b.key ≡ key)
  pub all : (b : Asked) → IsIn b (waits h) → b.key ≡ key → IsIn b done ⊎ IsIn b as'
  pub free : (b : Asked) → IsIn b done → IsIn b (waits h) × (is_free h b ≡ true) × ((a : Asked) → IsIn a as' → a.stamp < b.stamp)
  pub less : (b : Asked) → IsIn b held → IsIn b (holders h) ⊎ IsIn b done
  pub owned : (b : Asked) → IsIn b (holders h) → IsIn b held
  pub took : (b : Asked) → IsIn b done → IsIn b held

module _ (h : History) (key : Key) where
  stuck : (done held : List Asked) (a : Asked) (as' : List Asked) → Walk h key done held (a ∷ as') → list_any (bars a) held ≡ true → (x : Asked) → IsIn x (a ∷ as') → leads h x ≡ false
  stuck done held a as' w t x i =
      let f = any_found (bars a) held t in
      let me = w.here a (inl refl) in
      let you = w.here x i in
      let n : is_free h a ≡ false = barred h a f.0 f.2 (⊎_elim (λ o. inl o) (λ d. let y = w.free f.0 d in inr (y.0, y.2 a (inl refl))) (w.less f.0 f.1)) in
      lead_false h x a you.0 me.0 (me.1 ∙ sym you.1) (⊎_elim (λ e. omega (arith, ap (λ z. z.stamp) e)) (λ j. omega (arith, w.falls.0 x j)) i) n

  clear : (done held : List Asked) (a : Asked) (as' : List Asked) → Walk h key done held (a ∷ as') → list_any (bars a) held ≡ false → is_free h a ≡ true
  clear done held a as' w t =
      parts_free h a
      (none_of (blockers h a) (λ g i. let b = in_blockers h a g i in miss (as_asked g) (w.owned (as_asked g) (in_map as_asked g (owners h) (filter_in (λ x. conflicts x.who x.key x.mode a.who a.key a.mode) g (owners h) i).0)) ((conflict_decides g.who g.key g.mode a.who a.key a.mode).1 b.2)))
      (λ b i c lt.
      let me = w.here a (inl refl) in
      ⊎_elim
      (λ d. miss b (w.took b d) ((conflict_decides b.who b.key b.mode a.who a.key a.mode).1 c))
      (λ j. ⊎_elim (λ e. absurd (omega (arith, lt, ap (λ z. z.stamp) e))) (λ r. absurd (omega (arith, lt, w.falls.0 b r))) j)
      (w.all b i (c.0 ∙ me.1)))
    where
      miss : (b : Asked) → IsIn b held → bars a b ≡ true → ⊥
      miss b i c = true≢false (sym (any_at (bars a) b held i c) ∙ t)

  next : (done held : List Asked) (a : Asked) (as' : List Asked) → Walk h key done held (a ∷ as') → is_free h a ≡ true → Walk h key (a ∷ done) (a ∷ held) as'
  next done held a as' w free = record {
    falls = w.falls.1;
    here = λ b i. w.here b (inr i);
    all = λ b i k. ⊎_elim (λ d. inl (inr d)) (λ j. ⊎_elim (λ e. inl (inl e)) (λ r. inr r) j) (w.all b i k);
    free = λ b i.
        ⊎_elim
        (λ (e : b ≡ a). ((subst (λ z. IsIn z (waits h)) (sym e) (w.here a (inl refl)).0), (subst (λ z. is_free h z ≡ true) (sym e) free), (λ x j. omega (arith, w.falls.0 x j, ap (λ z. z.stamp) e))))
        (λ d. let y = w.free b d in (y.0, y.1, (λ x j. y.2 x (inr j))))
        i;
    less = λ b i. ⊎_elim (λ e. inr (inl e)) (λ j. ⊎_elim (λ o. inl o) (λ d. inr (inr d)) (w.less b j)) i;
    owned = λ b i. inr (w.owned b i);
    took = λ b i. ⊎_elim (λ e. inl e) (λ d. inr (w.took b d)) i;
  }

  leader : (done held : List Asked) (a : Asked) (as' : List Asked) → Walk h key done held (a ∷ as') → is_free h a ≡ true → leads h a ≡ true
  leader done held a as' w free =
      let me = w.here a (inl refl) in
      lead_true h a me.0 (λ b i k le.
      ⊎_elim
      (λ d. (w.free b d).1)
      (λ j. ⊎_elim (λ e. subst (λ z. is_free h z ≡ true) (sym e) free) (λ r. absurd (omega (arith, le, w.falls.0 b r))) j)
      (w.all b i (k ∙ me.1)))

  walk : (done held as' : List Asked) → Walk h key done held as' → filter (leads h) as' ≡ taken held as'
  walk done held [] w = refl
  walk done held (a ∷ as') w = go (list_any (bars a) held) refl (walk (a ∷ done) (a ∷ held) as')
    where
      go : (t : Bool) → list_any (bars a) held ≡ t → (Walk h key (a ∷ done) (a ∷ held) as' → filter (leads h) as' ≡ taken (a ∷ held) as') → filter (leads h) (a ∷ as') ≡ cond t [] (a ∷ taken (a ∷ held) as')
      go true e more = filter_none (leads h) (a ∷ as') (stuck done held a as' w e)
      go false e more =
          let free = clear done held a as' w e in
          rw (leader done held a as' w free) (ap (λ xs. a ∷ xs) (more (next done held a as' w free)))

module _ (loaded : Rows) where
  -- the front, sorted, is for each key what is taken from its queue
  from_front : (h : History) → Known loaded h → Distinct (waits h) → FromFront loaded h (wakes loaded h)
  from_front h k d key =
      filter_map (wake_of loaded h) (λ w. key_eq w.key key) (sort by_falling_stamp (front h)) ∙ ap (map (wake_of loaded h)) at_key
    where
      of_key : Asked → Bool
      of_key a = key_eq a.key key

      mine : List Asked
      mine = filter (λ a. key_eq a.key key) (waits h)

      mine_in : (a : Asked) → IsIn a mine → IsIn a (waits h) × (a.key ≡ key)
      mine_in a i = let f = filter_in (λ x. key_eq x.key key) a (waits h) i in (f.0, (key_decides a.key key).0 f.1)

      mine_distinct : Distinct mine
      mine_distinct = distinct_filter (λ a. key_eq a.key key) (waits h) d

      differ : (a b : Asked) → IsIn a (waits h) → IsIn b (waits h) → a ≢ b → by_falling_stamp a b ≡ false → by_falling_stamp b a ≡ true
      differ a b i j n e = falling_total a b (λ _. stamps_differ loaded h a b k i j n) e

      start : Walk h key [] (holders h) (queue h key)
      start = record {
        falls = falls_sorted loaded key (sort by_falling_stamp mine) (λ a i. (mine_in a (sort_in by_falling_stamp a mine i)).1) (in_order loaded h mine k mine_distinct (λ a i. (mine_in a i).0));
        here = λ b i. mine_in b (sort_in by_falling_stamp b mine i);
        all = λ b i e. inr (in_sort by_falling_stamp b mine (in_filter (λ x. key_eq x.key key) b (waits h) i ((key_decides b.key key).1 e)));
        free = λ b i. absurd i;
        less = λ b i. inl i;
        owned = λ b i. i;
        took = λ b i. absurd i;
      }

      at_key : filter (λ a. key_eq a.key key) (sort by_falling_stamp (front h)) ≡ taken (holders h) (queue h key)
      at_key =
          sym (sort_filter by_falling_stamp falling_trans falling_irrefl (λ a. key_eq a.key key) (front h) (distinct_filter (leads h) (waits h) d) (λ a b i j n e. differ a b (front_in h a i) (front_in h b j) n e))
          ∙ ap (sort by_falling_stamp) (filter_swap (λ a. key_eq a.key key) (leads h) (waits h))
          ∙ sort_filter by_falling_stamp falling_trans falling_irrefl (leads h) mine mine_distinct (λ a b i j n e. differ a b (mine_in a i).0 (mine_in b j).0 n e)
          ∙ walk h key [] (holders h) (queue h key) start

  pub wait_die_front : (h : History) (c : Call) → Obeys loaded (wait_die loaded) (c ∷ h) → WakesFromFront loaded h c
  wait_die_front h (Ask who stamp key mode answer) o = tt
  wait_die_front h (Prepare who bound writes appends vote) o = tt
  wait_die_front h (Commit who number woken) o =
      subst (λ ws. FromFront loaded (Commit who number [] ∷ h) ws) (sym o.1)
      (from_front (Commit who number [] ∷ h) (known_more loaded h (Commit who number []) o.0 (sound loaded (wait_die loaded) h o.2) (known loaded (wait_die loaded) h o.2)) (distinct_filter (λ a. not (is_woken [] a)) (waits h) (distinct_waits loaded (wait_die loaded) h o.2)))
  wait_die_front h (Abort who woken) o =
      subst (λ ws. FromFront loaded (Abort who [] ∷ h) ws) (sym o.1)
      (from_front (Abort who [] ∷ h) (known_more loaded h (Abort who []) o.0 (sound loaded (wait_die loaded) h o.2) (known loaded (wait_die loaded) h o.2)) (distinct_filter (λ a. not (is_woken [] a)) (waits h) (distinct_waits loaded (wait_die loaded) h o.2)))
