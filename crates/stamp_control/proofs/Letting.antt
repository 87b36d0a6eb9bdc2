-- Whom the table lets go is whom the rule wakes.
use Rattle.std.proofs.Common.{◌≡◌, ◌≤◌, ltb, List, [], ◌∷◌, ◌++◌, map, filter, Bool, true, false, not, ◌&&◌, cond, length, refl, sym, ap, ap₂, ◌∙◌, subst, inl, inr, ⊎_elim, arith, true≢false}
use Rattle.std.proofs.lemmas.Bool.{lt-ltb}
use Rattle.std.specs.List.{list_any}
use Rattle.deneva_base.specs.declared.keys.Key.{Key}
use Rattle.deneva_base.specs.declared.numbers.Attempt.{Attempt}
use Rattle.protocol_rules.specs.History.{History, Asked, Grant, grants, waits, IsUnended}
use Rattle.deneva_base.specs.Keys.{key_eq, attempt_eq}
use Rattle.deneva_base.specs.Lists.{IsIn, sort}
use Rattle.protocol_rules.specs.Order.{by_rising_stamp}
use Rattle.deneva_base.specs.Rows.{Rows}
use Rattle.protocol_rules.specs.Waiting.{holders, older_writer, holds, goes as goes_by_rule}
use Rattle.protocol_rules.proofs.Known.{Known}
use Rattle.protocol_rules.proofs.Sorts.{Distinct}
use Rattle.protocol_rules.proofs.Stops.{held_from}
use Rattle.protocol_rules.proofs.Traced.{Traced}
use Rattle.deneva_base.proofs.Membership.{and_parts, any_found, key_decides, attempt_decides}
use Rattle.stamp_lines.specs.declared.requests.Request.{Request}
use Rattle.stamp_lines.specs.declared.lines.Waiter.{Waiter}
use Rattle.stamp_lines.specs.declared.accesses.Accesses.{Accesses}
use Rattle.stamp_lines.specs.Requests.{is_stopped, first_writer, reaches}
use Rattle.stamp_lines.specs.Standing.{Seen, seen_of, IsOwner, IsWaiter, Tracks}
use Rattle.stamp_lines.specs.Tables.{requests_at, part_of}
use Rattle.shelf.specs.Keeps.{Closes}
use Rattle.stamp_lines.proofs.Fronts.{asked_for, waiting_in, stopped_is, free_is, by_keys, by_keys_is}
use Rattle.stamp_lines.proofs.Waking.{to_waiter, length_map, length_sort}
use Rattle.stamp_lines.proofs.Calls.{length_filter}
use Rattle.stamp_control.specs.Fronts.{goes, waiter_for, front_over}

and_right : (b : Bool) → b ≡ (b && true)
and_right true = refl
and_right false = refl

module _ (loaded : Rows) (h : History) (known : Known loaded h) (traced : Traced h) where
  -- stamps are positive
  waiter_above : (b : Asked) → IsIn b (waits h) → ltb 0 b.stamp ≡ true
  waiter_above b i = lt-ltb 0 b.stamp (let p = known.positive b (known.asked b i) in omega (arith, p))

  grant_above : (g : Grant) → IsIn g (grants h) → ltb 0 g.stamp ≡ true
  grant_above g i = let a = traced.asked g i in let p = known.positive a.0 a.1 in lt-ltb 0 g.stamp (omega (arith, p, a.5))

  agrees : (a b : Asked) → ltb 0 b.stamp ≡ true → older_writer a b ≡ (older_writer a b && ltb 0 b.stamp)
  agrees a b e = and_right (older_writer a b) ∙ ap (λ c. older_writer a b && c) (sym e)

  holder_above : (gs : List Grant) (h' : History) → ((g : Grant) → IsIn g (grants h') → IsIn g (grants h)) → (b : Asked) → IsIn b (holders h') → ltb 0 b.stamp ≡ true
  holder_above gs h' f b i = let g = held_from h' (grants h') b i in ap (λ (x : Asked). ltb 0 x.stamp) g.3 ∙ grant_above g.0 (f g.0 g.1)

  -- an access that asks is stopped by one that holds
  pub is_stopped_by : (s : Seen) → Tracks loaded s h → (a : Asked) → list_any (older_writer a) (holders h) ≡ is_stopped 0 a.stamp (s.requests a.key)
  is_stopped_by s t a = stopped_is h s t older_writer a 0 (λ b i. agrees a b (holder_above (grants h) h (λ g j. j) b i))

  -- the end of an attempt: h' is h with it, before it wakes anyone
  module _ (h' : History) (who : Attempt) (c : Closes h h' who) (distinct : Distinct (waits h)) (others : (a : Asked) → IsIn a (waits h) → holds h who a.key ≡ false → list_any (older_writer a) (holders h') ≡ true) (a : Accesses) (t : Tracks loaded (seen_of a) h) where
    abbrev q : Asked → Bool
    q x = goes_by_rule older_writer h h' who x

    -- a waiter goes where no writer stands before it
    goes_is : (x : Asked) → IsIn x (waits h) → goes_by_rule older_writer h h' who x ≡ reaches (first_writer 0 who (requests_at a x.key)) x.stamp
    goes_is x i = held (holds h who x.key) refl
      where
        free : (not (list_any (older_writer x) (holders h')) && not (list_any (older_writer x) (waits h))) ≡ reaches (first_writer 0 who (requests_at a x.key)) x.stamp
        free = free_is h (seen_of a) t older_writer x 0 h' who c (λ b j. agrees x b (⊎_elim (λ k. holder_above (grants h) h' (λ g l. subst (λ z. IsIn g z) c.grants_same l) b k) (λ k. waiter_above b k) j))

        held : (b : Bool) → holds h who x.key ≡ b → (b && (not (list_any (older_writer x) (holders h')) && not (list_any (older_writer x) (waits h)))) ≡ reaches (first_writer 0 who (requests_at a x.key)) x.stamp
        held true e = free
        held false e = sym (ap (λ b. not b && not (list_any (older_writer x) (waits h))) (others x i e)) ∙ free

    -- those of one key
    front_is : (key : Key) (rs : List Request) → ((r : Request) → IsIn r rs → r.waits ≡ true → IsIn (asked_for key r) (waits h)) → map (waiter_for key) (filter (goes (first_writer 0 who (requests_at a key))) rs) ≡ map to_waiter (filter (goes_by_rule older_writer h h' who) (waiting_in key rs))
    front_is key [] real = refl
    front_is key (r ∷ rs) real = go r.waits refl (front_is key rs (λ x i w. real x (inr i) w))
      where
        one : (b : Bool) → map (waiter_for key) (filter (goes (first_writer 0 who (requests_at a key))) rs) ≡ map to_waiter (filter (goes_by_rule older_writer h h' who) (waiting_in key rs)) → map (waiter_for key) (cond b (r ∷ filter (goes (first_writer 0 who (requests_at a key))) rs) (filter (goes (first_writer 0 who (requests_at a key))) rs)) ≡ map to_waiter (cond b (asked_for key r ∷ filter (goes_by_rule older_writer h h' who) (waiting_in key rs)) (filter (goes_by_rule older_writer h h' who) (waiting_in key rs)))
        one true rest = ap (λ l. waiter_for key r ∷ l) rest
        one false rest = rest

        go : (b : Bool) → r.waits ≡ b → map (waiter_for key) (filter (goes (first_writer 0 who (requests_at a key))) rs) ≡ map to_waiter (filter (goes_by_rule older_writer h h' who) (waiting_in key rs)) → map (waiter_for key) (cond (b && reaches (first_writer 0 who (requests_at a key)) r.stamp) (r ∷ filter (goes (first_writer 0 who (requests_at a key))) rs) (filter (goes (first_writer 0 who (requests_at a key))) rs)) ≡ map to_waiter (filter (goes_by_rule older_writer h h' who) (cond b (asked_for key r ∷ waiting_in key rs) (waiting_in key rs)))
        go true w rest =
            one (reaches (first_writer 0 who (requests_at a key)) r.stamp) rest
            ∙ ap (λ b. map to_waiter (cond b (asked_for key r ∷ filter (goes_by_rule older_writer h h' who) (waiting_in key rs)) (filter (goes_by_rule older_writer h h' who) (waiting_in key rs)))) (sym (goes_is (asked_for key r) (real r (inl refl) w)))
        go false w rest = rest

    -- the requests that wait are waiters of the history
    real_waiter : (key : Key) (r : Request) → IsIn r (requests_at a key) → r.waits ≡ true → IsIn (asked_for key r) (waits h)
    real_waiter key r i w = ⊎_elim
        (λ (o : IsOwner h key r). absurd (true≢false (sym w ∙ ap (λ (z : Request). z.waits) o.same)))
        (λ (x : IsWaiter h key r). subst (λ z. IsIn z (waits h)) (sym (ap (asked_for key) x.same ∙ ap (λ z. record { who = x.asked.who; stamp = x.asked.stamp; key = z; mode = x.asked.mode }) (sym x.here))) x.there)
        (t.real key r i)

    map_both : (xs ys : List Asked) → map to_waiter (xs ++ ys) ≡ map to_waiter xs ++ map to_waiter ys
    map_both [] ys = refl
    map_both (x ∷ xs) ys = ap (λ l. to_waiter x ∷ l) (map_both xs ys)

    fronts_are : (ks : List Key) → front_over who a ks ≡ map to_waiter (by_keys loaded h known distinct (seen_of a) t (goes_by_rule older_writer h h' who) ks)
    fronts_are [] = refl
    fronts_are (k ∷ ks) =
        ap₂ (λ x y. x ++ y) (front_is k (requests_at a k) (real_waiter k)) (fronts_are ks)
        ∙ sym (map_both (filter (goes_by_rule older_writer h h' who) (waiting_in k (requests_at a k))) (by_keys loaded h known distinct (seen_of a) t (goes_by_rule older_writer h h' who) ks))

    -- whom the rule wakes waits for a key of the attempt
    key_of : (x : Asked) → goes_by_rule older_writer h h' who x ≡ true → IsIn x.key (part_of a who).keys
    key_of x e =
        let p = and_parts (holds h who x.key) (not (list_any (older_writer x) (holders h')) && not (list_any (older_writer x) (waits h))) e in
        let g = any_found (λ (z : Grant). attempt_eq z.who who && key_eq z.key x.key) (grants h) p.0 in
        let r = and_parts (attempt_eq g.0.who who) (key_eq g.0.key x.key) g.2 in
        let mine : g.0.who ≡ who = (attempt_decides g.0.who who).0 r.0 in
        subst (λ z. IsIn z (part_of a who).keys) ((key_decides g.0.key x.key).0 r.1)
        (subst (λ z. IsIn g.0.key (part_of a z).keys) mine (t.kept.noted g.0 g.1 (subst (λ z. IsUnended h z) (sym mine) c.unended)))

    pub front_table : front_over who a (part_of a who).keys ≡ map to_waiter (sort by_rising_stamp (filter (goes_by_rule older_writer h h' who) (waits h)))
    front_table =
        fronts_are (part_of a who).keys
        ∙ ap (map to_waiter) (by_keys_is loaded h known distinct (seen_of a) t (goes_by_rule older_writer h h' who) (part_of a who).keys (t.kept.rising who) (λ x i e. key_of x e))

    pub few_woken : length (front_over who a (part_of a who).keys) ≤ a.waiting
    few_woken =
        let e = ap (λ (l : List Waiter). length l) front_table in
        let m = length_map to_waiter (sort by_rising_stamp (filter (goes_by_rule older_writer h h' who) (waits h))) in
        let s = length_sort by_rising_stamp (filter (goes_by_rule older_writer h h' who) (waits h)) in
        let f = length_filter (goes_by_rule older_writer h h' who) (waits h) in
        let w = t.waiting in
        omega (arith, e, m, s, f, w)
