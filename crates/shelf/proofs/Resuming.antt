-- A history whose last call granted accesses that waited.
use Rattle.std.proofs.Common.{◌≡◌, ◌⊎◌, ◌+◌, List, ◌++◌, map, filter, length, Bool, true, false, not, refl, sym, ap, ◌∙◌, subst, inl, inr, ⊎_elim, arith, true≢false}
use Rattle.deneva_base.specs.declared.keys.Key.{Key}
use Rattle.deneva_base.specs.declared.numbers.Attempt.{Attempt}
use Rattle.deneva_base.specs.declared.answers.Wake.{Wake}
use Rattle.deneva_base.specs.Lists.{IsIn, sort}
use Rattle.deneva_base.specs.Rows.{Rows}
use Rattle.deneva_base.proofs.Membership.{in_cases, in_left, in_right, in_filter, filter_in}
use Rattle.protocol_rules.specs.History.{History, Asked, Grant, grant_of, grant_of_wake, grants, waits, yeas, ended, is_woken, IsUnended}
use Rattle.protocol_rules.proofs.Known.{Known}
use Rattle.protocol_rules.proofs.Sorts.{sort_in, in_sort}
use Rattle.protocol_rules.proofs.Woken.{woken_in, in_woken, wake_grants, grant_wakes}
use Rattle.control_core.specs.Leaving.{last}
use Rattle.shelf.specs.Keeps.{Resumes}
use Rattle.shelf.proofs.Counting.{length_sort, split_count}

-- h2 is h1 with these wakes
pub record Wakens (loaded : Rows) (h1 h2 : History) (woken : List Wake) : Type 0 where
  pub grants_more : grants h2 ≡ map (grant_of_wake h1) woken ++ grants h1
  pub waits_less : waits h2 ≡ filter (λ a. not (is_woken woken a)) (waits h1)
  pub ended_same : ended h2 ≡ ended h1
  pub yeas_same : yeas h2 ≡ yeas h1
  pub last_same : (key : Key) → last loaded h2 key ≡ last loaded h1 key

-- what they make of it, where f makes the wake of an access
pub record Resumed (loaded : Rows) (h1 h2 : History) (f : Asked → Wake) (going : List Asked) : Type 0 where
  pub less : (a : Asked) → IsIn a going → IsIn a (waits h1)
  pub woken_at : (a : Asked) → IsIn a (waits h1) → is_woken (map f going) a ≡ true → IsIn a going
  pub at_woken : (a : Asked) → IsIn a going → is_woken (map f going) a ≡ true
  pub still_waits : (a : Asked) → IsIn a (waits h2) → IsIn a (waits h1) × (is_woken (map f going) a ≡ false)
  pub waits_on : (a : Asked) → IsIn a (waits h1) → is_woken (map f going) a ≡ false → IsIn a (waits h2)
  pub unended : (x : Attempt) → IsUnended h2 x → IsUnended h1 x
  pub unended_on : (x : Attempt) → IsUnended h1 x → IsUnended h2 x
  pub cases : (g : Grant) → IsIn g (grants h2) → ((a : Asked) × IsIn a going × (g ≡ grant_of (f a) a)) ⊎ IsIn g (grants h1)
  pub old_grant : (g : Grant) → IsIn g (grants h1) → IsIn g (grants h2)
  pub new_grant : (a : Asked) → IsIn a going → IsIn (grant_of (f a) a) (grants h2)
  pub fewer : length (waits h2) + length going ≡ length (waits h1)
  pub resumes : Resumes loaded h1 h2

flip : (b : Bool) → not b ≡ true → b ≡ false
flip true e = absurd (true≢false (sym e))
flip false e = refl

same_test : {X : Type 0} (b c : Bool) → (b ≡ true → X) → (c ≡ true → b ≡ true) → (X → c ≡ true) → b ≡ c
same_test true c f g h = sym (h (f refl))
same_test false true f g h = g refl
same_test false false f g h = refl

-- those that pass q are granted, in their order
pub resumed : (f : Asked → Wake) → ((a : Asked) → (f a).who ≡ a.who) → ((a : Asked) → (f a).key ≡ a.key) → (before : Asked → Asked → Bool) (q : Asked → Bool)
    (loaded : Rows) (h1 h2 : History) → Known loaded h1 → Wakens loaded h1 h2 (map f (sort before (filter q (waits h1)))) → Resumed loaded h1 h2 f (sort before (filter q (waits h1)))
resumed f who_of key_of before q loaded h1 h2 known w =
    let going : List Asked = sort before (filter q (waits h1)) in
    let from_waits : (a : Asked) → IsIn a going → IsIn a (waits h1) × (q a ≡ true) = λ a i. filter_in q a (waits h1) (sort_in before a (filter q (waits h1)) i) in
    let less : (a : Asked) → IsIn a going → IsIn a (waits h1) = λ a i. (from_waits a i).0 in
    let woken_at : (a : Asked) → IsIn a (waits h1) → is_woken (map f going) a ≡ true → IsIn a going = λ a i t. woken_in f who_of key_of loaded h1 known going less a i t in
    let at_woken : (a : Asked) → IsIn a going → is_woken (map f going) a ≡ true = λ a i. in_woken f who_of key_of loaded h1 known going less a i in
    let still_waits : (a : Asked) → IsIn a (waits h2) → IsIn a (waits h1) × (is_woken (map f going) a ≡ false) = λ a i. let g = filter_in (λ x. not (is_woken (map f going) x)) a (waits h1) (subst (λ l. IsIn a l) w.waits_less i) in (g.0, flip (is_woken (map f going) a) g.1) in
    let cases : (g : Grant) → IsIn g (grants h2) → ((a : Asked) × IsIn a going × (g ≡ grant_of (f a) a)) ⊎ IsIn g (grants h1) = λ g i. ⊎_elim (λ j. inl (wake_grants f who_of key_of loaded h1 known going less g j)) (λ j. inr j) (in_cases g (map (grant_of_wake h1) (map f going)) (grants h1) (subst (λ l. IsIn g l) w.grants_more i)) in
    record {
      less = less;
      woken_at = woken_at;
      at_woken = at_woken;
      still_waits = still_waits;
      waits_on = λ a i e. subst (λ l. IsIn a l) (sym w.waits_less) (in_filter (λ x. not (is_woken (map f going) x)) a (waits h1) i (ap not e));
      unended = λ x u i. u (subst (λ l. IsIn x l) (sym w.ended_same) i);
      unended_on = λ x u i. u (subst (λ l. IsIn x l) w.ended_same i);
      cases = cases;
      old_grant = λ g i. subst (λ l. IsIn g l) (sym w.grants_more) (in_right g (map (grant_of_wake h1) (map f going)) (grants h1) i);
      new_grant = λ a i. subst (λ l. IsIn (grant_of (f a) a) l) (sym w.grants_more) (in_left (grant_of (f a) a) (map (grant_of_wake h1) (map f going)) (grants h1) (grant_wakes f who_of key_of loaded h1 known going less a i));
      fewer =
          let some = split_count q (λ a. not (is_woken (map f going) a)) (waits h1) (λ a i. ap not (same_test (is_woken (map f going) a) (q a) (woken_at a i) (λ t. at_woken a (in_sort before a (filter q (waits h1)) (in_filter q a (waits h1) i t))) (λ j. (from_waits a j).1))) in
          let here = ap (λ (l : List Asked). length l) w.waits_less in
          let sorted = length_sort before (filter q (waits h1)) in
          omega (arith, some, here, sorted);
      resumes = record {
        grants_from = λ g i. ⊎_elim (λ n. inr (n.0, less n.0 n.1, sym (ap (λ (z : Grant). z.who) n.2 ∙ who_of n.0), sym (ap (λ (z : Grant). z.key) n.2 ∙ key_of n.0))) (λ j. inl j) (cases g i);
        waits_from = λ a i. (still_waits a i).0;
        ended_same = w.ended_same;
        yeas_same = w.yeas_same;
        last_same = w.last_same;
      };
    }
