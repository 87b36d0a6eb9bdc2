-- What each call does to the queue of a key.
use Rattle.std.proofs.Common.{◌≡◌, ◌≢◌, ℕ, List, ◌∷◌, filter, Bool, not, refl, ⊎_elim}
use Rattle.deneva_base.specs.declared.keys.Key.{Key}
use Rattle.deneva_base.specs.declared.numbers.Attempt.{Attempt}
use Rattle.deneva_base.specs.declared.keys.Mode.{Mode}
use Rattle.deneva_base.specs.Rows.{Rows}
use Rattle.deneva_base.specs.Keys.{key_eq}
use Rattle.deneva_base.specs.declared.answers.Answer.TheVariants.{Waits}
use Rattle.deneva_base.specs.declared.answers.Wake.{Wake}
use Rattle.protocol_rules.specs.History.{Ask, History, Asked, waits, is_woken}
use Rattle.protocol_rules.specs.Order.{by_falling_stamp}
use Rattle.deneva_base.specs.Lists.{insert, sort}
use Rattle.protocol_rules.specs.WaitDie.{queue}
use Rattle.deneva_base.proofs.Membership.{in_filter, filter_in, key_tells}
use Rattle.protocol_rules.proofs.Known.{Known}
use Rattle.protocol_rules.proofs.Sorts.{Distinct, distinct_filter, sort_in, in_sort, sorted_unique, sorted_filter, falling_trans, falling_irrefl}
use Rattle.protocol_rules.proofs.WaitDies.{in_order}

-- one more waiter of the key
pub queue_more : (h : History) (who : Attempt) (stamp : ℕ) (key : Key) (mode : Mode) → queue (Ask who stamp key mode Waits ∷ h) key ≡ insert by_falling_stamp (record { who = who; stamp = stamp; key = key; mode = mode }) (queue h key)
queue_more h who stamp key mode = ⊎_elim (λ t. rw t.0 refl) (λ f. absurd (f.1 refl)) (key_tells key key)

-- or of another
pub queue_same : (h : History) (who : Attempt) (stamp : ℕ) (k key : Key) (mode : Mode) → k ≢ key → queue (Ask who stamp k mode Waits ∷ h) key ≡ queue h key
queue_same h who stamp k key mode n = ⊎_elim (λ t. absurd (n t.1)) (λ f. rw f.0 refl) (key_tells k key)

-- an end takes out whom it wakes
pub queue_less : (loaded : Rows) (h : History) (key : Key) (woken : List Wake) → Known loaded h → Distinct (waits h) → sort by_falling_stamp (filter (λ a. key_eq a.key key) (filter (λ a. not (is_woken woken a)) (waits h))) ≡ filter (λ a. not (is_woken woken a)) (queue h key)
queue_less loaded h key woken k d =
    let p : Asked → Bool = λ a. not (is_woken woken a) in
    let q : Asked → Bool = λ a. key_eq a.key key in
    sorted_unique by_falling_stamp falling_trans falling_irrefl (sort by_falling_stamp (filter q (filter p (waits h)))) (filter p (queue h key))
    (in_order loaded h (filter q (filter p (waits h))) k (distinct_filter q (filter p (waits h)) (distinct_filter p (waits h) d)) (λ a i. (filter_in p a (waits h) (filter_in q a (filter p (waits h)) i).0).0))
    (sorted_filter by_falling_stamp falling_trans falling_irrefl p (queue h key) (in_order loaded h (filter q (waits h)) k (distinct_filter q (waits h) d) (λ a i. (filter_in q a (waits h) i).0)))
    (λ x i.
    let a = filter_in q x (filter p (waits h)) (sort_in by_falling_stamp x (filter q (filter p (waits h))) i) in
    let b = filter_in p x (waits h) a.0 in in_filter p x (queue h key) (in_sort by_falling_stamp x (filter q (waits h)) (in_filter q x (waits h) b.0 a.1)) b.1)
    (λ x i.
    let a = filter_in p x (queue h key) i in
    let b = filter_in q x (waits h) (sort_in by_falling_stamp x (filter q (waits h)) a.0) in in_sort by_falling_stamp x (filter q (filter p (waits h))) (in_filter q x (filter p (waits h)) (in_filter p x (waits h) b.0 a.1) b.1))
