-- A change at each key of an attempt is one at every key.
use Rattle.std.proofs.Common.{◌≡◌, ◌≢◌, ◌⊎◌, List, [], ◌∷◌, filter, Bool, true, false, not, cond, refl, sym, ap, ◌∙◌, inl, inr, ⊎_elim, Option, Some, None, true≢false}
use Rattle.deneva_base.specs.declared.keys.Key.{Key}
use Rattle.deneva_base.specs.declared.numbers.Attempt.{Attempt}
use Rattle.deneva_base.specs.declared.numbers.Number.{Number}
use Rattle.deneva_base.specs.Lists.{IsIn}
use Rattle.deneva_base.specs.Keys.{attempt_eq}
use Rattle.deneva_base.proofs.Membership.{filter_in, attempt_tells}
use Rattle.range_control.specs.declared.accesses.Window.{Window}
use Rattle.range_control.specs.declared.accesses.Held.{Held}
use Rattle.range_control.specs.Seen.{Accesses}
use Rattle.range_control.specs.Accesses.{own_in, prepared_in, prepared, passed, without, ended_in}
use Rattle.range_control.specs.Tables.{all_changed}
use Rattle.key_table.proofs.Places.{same_tells}
use Rattle.range_control.proofs.Lists.{map_both, map_none, filter_all}
use Rattle.range_control.proofs.Holders.{own_cases}

changed_none : (f : Key → Accesses → Accesses) (ks : List Key) (k : Key) (l : Accesses) → f k l ≡ l → all_changed f ks k l ≡ l
changed_none f [] k l e = refl
changed_none f (q ∷ qs) k l e = ⊎_elim
    (λ t. rw t.0 (ap (λ x. all_changed f qs k (f x l)) t.1 ∙ ap (all_changed f qs k) e ∙ changed_none f qs k l e))
    (λ t. rw t.0 (changed_none f qs k l e))
    (same_tells q k)

-- each key is changed once, or the change is none
pub changed_is : (f : Key → Accesses → Accesses) (ks : List Key) (k : Key) (l : Accesses) → f k (f k l) ≡ f k l → IsIn k ks ⊎ (f k l ≡ l) → all_changed f ks k l ≡ f k l
changed_is f [] k l twice here = ⊎_elim (λ i. absurd i) (λ e. sym e) here
changed_is f (q ∷ qs) k l twice here = ⊎_elim
    (λ t. rw t.0 (ap (λ x. all_changed f qs k (f x l)) t.1 ∙ changed_none f qs k (f k l) twice))
    (λ t. rw t.0 (changed_is f qs k l twice (⊎_elim (λ i. ⊎_elim (λ e. absurd (t.1 (sym e))) (λ j. inl j) i) (λ e. inr e) here)))
    (same_tells q k)

abbrev with_held : Accesses → List Held → Accesses
with_held l as' = record { held = as'; past = l.past }

cond_twice : {A : Type 0} (b : Bool) (x y : A) → cond b x (cond b x y) ≡ cond b x y
cond_twice true x y = refl
cond_twice false x y = refl

-- an attempt's window is given once, and only to its own access
pub prepared_twice : (who : Attempt) (w : Window) (l : Accesses) → prepared who w (prepared who w l) ≡ prepared who w l
prepared_twice who w l =
    ap (with_held l) (map_both (prepared_in who w) (prepared_in who w) (prepared_in who w) l.held
    (λ a i. λ j. record { who = a.who; mode = a.mode; version = a.version; upper = a.upper; window = cond_twice (attempt_eq a.who who) (Some w) a.window j }))

pub prepared_none : (who : Attempt) (w : Window) (l : Accesses) → ((x : Held) → IsIn x l.held → x.who ≢ who) → prepared who w l ≡ l
prepared_none who w l n = ap (with_held l) (map_none (prepared_in who w) l.held (λ a i. ⊎_elim
    (λ t. absurd (n a i t.1))
    (λ f. λ j. record { who = a.who; mode = a.mode; version = a.version; upper = a.upper; window = ap (λ b. cond b (Some w) a.window) f.0 j })
    (attempt_tells a.who who)))

-- accesses that the attempt has none of
abbrev pub not_own : Attempt → Held → Bool
not_own who a = not (attempt_eq a.who who)

pub own_none : (who : Attempt) (as' : List Held) → ((x : Held) → IsIn x as' → x.who ≢ who) → own_in who as' ≡ None
own_none who as' n = ⊎_elim (λ m. absurd (n m.0 m.1 m.2)) (λ m. m.1) (own_cases who as')

without_none : (who : Attempt) (l : Accesses) → ((x : Held) → IsIn x l.held → x.who ≢ who) → without who l ≡ l
without_none who l n = ap (with_held l) (filter_all (not_own who) l.held (λ a i. ⊎_elim (λ t. absurd (n a i t.1)) (λ f. ap not f.0) (attempt_tells a.who who)))

pub ended_none : (who : Attempt) (number : Option Number) (l : Accesses) → ((x : Held) → IsIn x l.held → x.who ≢ who) → ended_in who number l ≡ l
ended_none who None l n = without_none who l n
ended_none who (Some number) l n = ap (λ o. without who (passed who number o l)) (own_none who l.held n) ∙ without_none who l n

left_none : (who : Attempt) (as' : List Held) (x : Held) → IsIn x (filter (not_own who) as') → x.who ≢ who
left_none who as' x i e = let f = filter_in (not_own who) x as' i in ⊎_elim (λ t. true≢false (sym f.1 ∙ ap not t.0)) (λ n. n.1 e) (attempt_tells x.who who)

pub ended_twice : (who : Attempt) (number : Option Number) (l : Accesses) → ended_in who number (ended_in who number l) ≡ ended_in who number l
ended_twice who None l = ended_none who None (ended_in who None l) (λ x i. left_none who l.held x i)
ended_twice who (Some number) l = ended_none who (Some number) (ended_in who (Some number) l) (λ x i. left_none who (passed who number (own_in who l.held) l).held x i)
