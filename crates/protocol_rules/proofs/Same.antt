-- The waiters whom nobody stops are those that are granted when they are tried one after another.
use Rattle.std.proofs.Common.{◌≡◌, ◌⊎◌, List, map, filter, Bool, true, false, not, ◌&&◌, sym, ap, ◌∙◌, inl, inr, ⊎_elim, true≢false}
use Rattle.std.proofs.lemmas.Bool.{not-true, false_from_ne_true}
use Rattle.std.specs.List.{list_any}
use Rattle.deneva_base.specs.declared.numbers.Attempt.{Attempt}
use Rattle.deneva_base.specs.Lists.{IsIn}
use Rattle.deneva_base.specs.Rows.{Rows}
use Rattle.protocol_rules.specs.History.{History, Asked, waits}
use Rattle.protocol_rules.specs.Order.{Sorted, by_rising_stamp}
use Rattle.deneva_base.specs.Lists.{sort}
use Rattle.deneva_base.proofs.Membership.{in_filter, filter_in, and_true, and_parts, any_found}
use Rattle.protocol_rules.proofs.Known.{Known}
use Rattle.protocol_rules.proofs.Sorts.{Distinct, distinct_filter, sort_in, in_sort, sorted_sort, sorted_unique, rising_trans, rising_irrefl}
use Rattle.protocol_rules.specs.Waiting.{holders, holds, wake_of, wakes}
use Rattle.protocol_rules.specs.Trying.{tried, tries}
use Rattle.protocol_rules.proofs.Tries.{none_passes, tried_in, tried_either, tried_sorted, tried_free}
use Rattle.protocol_rules.proofs.Stops.{stops, stops_true, stops_through, stops_later, stops_self}
use Rattle.protocol_rules.proofs.Stamped.{waits_total}

none_any : {A : Type 0} (p : A → Bool) (xs : List A) → ((x : A) → IsIn x xs → p x ≡ false) → list_any p xs ≡ false
none_any {A} p xs f = false_from_ne_true (list_any p xs) (λ e. let x = any_found p xs e in true≢false (sym x.2 ∙ f x.0 x.1))

module _ (flag : Bool) (loaded : Rows) (h after : History) (k : Known loaded h) (d : Distinct (waits h)) (p : Asked → Bool) (closed : (a b : Asked) → a.key ≡ b.key → p a ≡ p b) where
  abbrev st : Asked → Asked → Bool
  st = stops flag loaded after

  abbrev queue : List Asked
  queue = sort by_rising_stamp (filter p (waits h))

  -- nobody stops it
  abbrev nobody : Asked → Bool
  nobody a = not (list_any (st a) (holders after)) && not (list_any (st a) (waits h))

  in_queue : (a : Asked) → IsIn a (waits h) → p a ≡ true → IsIn a queue
  in_queue a i t = in_sort by_rising_stamp a (filter p (waits h)) (in_filter p a (waits h) i t)

  from_queue : (a : Asked) → IsIn a queue → IsIn a (waits h) × (p a ≡ true)
  from_queue a i = filter_in p a (waits h) (sort_in by_rising_stamp a (filter p (waits h)) i)

  queue_sorted : Sorted by_rising_stamp queue
  queue_sorted = sorted_sort by_rising_stamp rising_trans (filter p (waits h)) (distinct_filter p (waits h) d) (waits_total flag loaded h k p)

  free : (a b : Asked) → IsIn a (tried st (holders after) queue) → IsIn b (holders after) ⊎ IsIn b (tried st (holders after) queue) → st a b ≡ false
  free a b i j = tried_free st by_rising_stamp (stops_later loaded after flag) (stops_self loaded after flag) a b queue (holders after) queue_sorted i j

  goes_tried : (a : Asked) → IsIn a (sort by_rising_stamp (filter (λ z. p z && nobody z) (waits h))) → IsIn a (tried st (holders after) queue)
  goes_tried a i =
      let f = filter_in (λ z. p z && nobody z) a (waits h) (sort_in by_rising_stamp a (filter (λ z. p z && nobody z) (waits h)) i) in
      let x = and_parts (p a) (nobody a) f.1 in
      let q = and_parts (not (list_any (st a) (holders after))) (not (list_any (st a) (waits h))) x.1 in
      ⊎_elim
      (λ x. x)
      (λ b. absurd (true≢false (sym b.2 ∙ ⊎_elim
      (λ x. none_passes (st a) (holders after) (not-true (list_any (st a) (holders after)) q.0) b.0 x)
      (λ x. none_passes (st a) (waits h) (not-true (list_any (st a) (waits h)) q.1) b.0 (from_queue b.0 (tried_in st b.0 queue (holders after) x)).0)
      b.1)))
      (tried_either st a queue (holders after) (in_queue a f.0 x.0))

  tried_goes : (a : Asked) → IsIn a (tried st (holders after) queue) → IsIn a (sort by_rising_stamp (filter (λ z. p z && nobody z) (waits h)))
  tried_goes a i =
      let f = from_queue a (tried_in st a queue (holders after) i) in
      let held = none_any (st a) (holders after) (λ b j. free a b i (inl j)) in
      let waiting = none_any (st a) (waits h) (λ b j. false_from_ne_true (st a b) (λ e.
      let key = (stops_true loaded after flag a b e).0 in
      ⊎_elim
      (λ x. true≢false (sym e ∙ free a b i (inr x)))
      (λ c. true≢false (sym (stops_through loaded after flag a b c.0 e c.2) ∙ free a c.0 i c.1))
      (tried_either st b queue (holders after) (in_queue b j (closed b a key ∙ f.1))))) in
      in_sort by_rising_stamp a (filter (λ z. p z && nobody z) (waits h)) (in_filter (λ z. p z && nobody z) a (waits h) f.0
      (and_true (p a) (nobody a) f.1 (and_true (not (list_any (st a) (holders after))) (not (list_any (st a) (waits h))) (ap not held) (ap not waiting))))

  -- the loop over a queue, of one key or of several, finds those whom nobody stops
  pub loop_goes : sort by_rising_stamp (filter (λ z. p z && nobody z) (waits h)) ≡ tried st (holders after) queue
  loop_goes =
      sorted_unique by_rising_stamp rising_trans rising_irrefl (sort by_rising_stamp (filter (λ z. p z && nobody z) (waits h))) (tried st (holders after) queue)
      (sorted_sort by_rising_stamp rising_trans (filter (λ z. p z && nobody z) (waits h)) (distinct_filter (λ z. p z && nobody z) (waits h) d) (waits_total flag loaded h k (λ z. p z && nobody z)))
      (tried_sorted st by_rising_stamp queue (holders after) queue_sorted)
      goes_tried
      tried_goes

pub same_tries : (flag : Bool) (loaded : Rows) (h after : History) (who : Attempt) → Known loaded h → Distinct (waits h) → wakes loaded (stops flag loaded after) h after who ≡ tries loaded (stops flag loaded after) h after who
same_tries flag loaded h after who k d = ap (λ xs. map (wake_of loaded after) xs) (loop_goes flag loaded h after k d (λ a. holds h who a.key) (λ a b e. ap (λ z. holds h who z) e))
