-- Wakes that are a sorted filter of the waiting accesses.
use Rattle.std.proofs.Common.{◌≡◌, ℕ, List, [], ◌∷◌, map, Bool, true, not, refl, sym, ap, ◌∙◌, subst, inl, inr}
use Rattle.deneva_base.specs.declared.keys.Key.{Key}
use Rattle.deneva_base.specs.declared.numbers.Attempt.{Attempt}
use Rattle.deneva_base.specs.declared.keys.Mode.{Mode}
use Rattle.deneva_base.specs.Lists.{IsIn}
use Rattle.deneva_base.specs.Rows.{Rows}
use Rattle.deneva_base.specs.Keys.{attempt_eq, key_eq}
use Rattle.deneva_base.specs.declared.answers.Answer.{Answer}
use Rattle.deneva_base.specs.declared.answers.Answer.TheVariants.{Granted, Waits, Refused}
use Rattle.deneva_base.specs.declared.answers.Wake.{Wake}
use Rattle.protocol_rules.specs.History.{Ask, Prepare, Commit, Abort, History, Asked, Grant, waits, asks, grant_of, asked_as, grant_of_wake, is_woken, wakes_this, WaitsNowhere}
use Rattle.protocol_rules.specs.Wakes.{Once, WakesWaiters}
use Rattle.protocol_rules.specs.Rules.{Rule, Obeys}
use Rattle.deneva_base.specs.Lists.{sort}
use Rattle.deneva_base.proofs.Membership.{in_map, in_map_from, any_at, any_found, and_parts, attempt_decides}
use Rattle.protocol_rules.proofs.Known.{Known}
use Rattle.protocol_rules.proofs.Traced.{asked_found, wakes_this_true}
use Rattle.protocol_rules.proofs.Sorts.{Distinct, distinct_filter, distinct_sort, sort_in, in_sort}

module _ (loaded : Rows) (rule : Rule) where
  left_distinct : (h : History) (who : Attempt) (stamp : ℕ) (key : Key) (mode : Mode) (answer : Answer) → WaitsNowhere h who → Distinct (waits h) → Distinct (waits (Ask who stamp key mode answer ∷ h))
  left_distinct h who stamp key mode (Granted row version bound) n d = d
  left_distinct h who stamp key mode Waits n d = ((λ i. n (record { who = who; stamp = stamp; key = key; mode = mode }) i refl), d)
  left_distinct h who stamp key mode (Refused cause) n d = d

  -- no access stands twice among those that wait
  pub distinct_waits : (h : History) → Obeys loaded rule h → Distinct (waits h)
  distinct_waits [] o = tt
  distinct_waits (Ask who stamp key mode answer ∷ h) o = left_distinct h who stamp key mode answer o.0.nowhere (distinct_waits h o.2)
  distinct_waits (Prepare who bound writes appends vote ∷ h) o = distinct_waits h o.2
  distinct_waits (Commit who number woken ∷ h) o = distinct_filter (λ a. not (is_woken woken a)) (waits h) (distinct_waits h o.2)
  distinct_waits (Abort who woken ∷ h) o = distinct_filter (λ a. not (is_woken woken a)) (waits h) (distinct_waits h o.2)

-- f makes the wake of an access
module _ (f : Asked → Wake) (who_of : (a : Asked) → (f a).who ≡ a.who) (key_of : (a : Asked) → (f a).key ≡ a.key) where
  once_map : (as' : List Asked) → ((a b : Asked) → IsIn a as' → IsIn b as' → a.who ≡ b.who → a ≡ b) → Distinct as' → Once (map f as')
  once_map [] alone d = tt
  once_map (a ∷ as') alone d = (
    (λ x i e k.
        let b = in_map_from f x as' i in
        d.0 (subst (λ z. IsIn z as') (alone b.0 a (inr b.1) (inl refl) (sym (who_of b.0) ∙ sym (ap (λ z. z.who) b.2) ∙ e ∙ who_of a)) b.1)),
    once_map as' (λ b c i j e. alone b c (inr i) (inr j) e) d.1,
  )

  module _ (before : Asked → Asked → Bool) (loaded : Rows) (h : History) (k : Known loaded h) where
    -- wakes of some of the waiting accesses, each once
    pub wakes_waiters : (ws : List Asked) → ((a : Asked) → IsIn a ws → IsIn a (waits h)) → Distinct ws → WakesWaiters h (map f (sort before ws))
    wakes_waiters ws less d = record {
      waited = λ w i. let b = in_map_from f w (sort before ws) i in (b.0, less b.0 (sort_in before b.0 ws b.1), sym (who_of b.0) ∙ sym (ap (λ z. z.who) b.2), sym (key_of b.0) ∙ sym (ap (λ z. z.key) b.2));
      once = once_map (sort before ws) (λ a b i j e. k.alone a b (less a (sort_in before a ws i)) (less b (sort_in before b ws j)) e) (distinct_sort before ws d);
    }

    -- the accesses that are woken are those of the list
    pub woken_in : (ws : List Asked) (a : Asked) → ((b : Asked) → IsIn b ws → IsIn b (waits h)) → IsIn a (waits h) → is_woken (map f (sort before ws)) a ≡ true → IsIn a ws
    woken_in ws a less i t =
        let w = any_found (λ w. wakes_this w a) (map f (sort before ws)) t in
        let b = in_map_from f w.0 (sort before ws) w.1 in
        let j = sort_in before b.0 ws b.1 in
        let same : w.0.who ≡ a.who = (attempt_decides w.0.who a.who).0 (and_parts (attempt_eq w.0.who a.who) (key_eq w.0.key a.key) w.2).0 in
        subst (λ z. IsIn z ws) (k.alone b.0 a (less b.0 j) i (sym (who_of b.0) ∙ sym (ap (λ z. z.who) b.2) ∙ same)) j

    pub in_woken : (ws : List Asked) (a : Asked) → IsIn a ws → is_woken (map f (sort before ws)) a ≡ true
    in_woken ws a i = any_at (λ w. wakes_this w a) (f a) (map f (sort before ws)) (in_map f a (sort before ws) (in_sort before a ws i)) (wakes_this_true (f a) a (who_of a) (key_of a))

    -- the grants of the wakes
    pub wake_grants : (ws : List Asked) (g : Grant) → ((b : Asked) → IsIn b ws → IsIn b (waits h)) → IsIn g (map (grant_of_wake h) (map f (sort before ws))) → (a : Asked) × IsIn a ws × (g ≡ grant_of (f a) a)
    wake_grants ws g less i =
        let w = in_map_from (grant_of_wake h) g (map f (sort before ws)) i in
        let b = in_map_from f w.0 (sort before ws) w.1 in
        let j = sort_in before b.0 ws b.1 in
        (b.0, j, w.2 ∙ ap (grant_of_wake h) b.2 ∙ ap (grant_of (f b.0)) (found b.0 (less b.0 j)))
      where
        found : (a : Asked) → IsIn a (waits h) → asked_as (asks h) (f a) ≡ a
        found a i = asked_found (asks h) (f a) a k.pair (k.asked a i) (sym (who_of a)) (sym (key_of a))

    pub grant_wakes : (ws : List Asked) (a : Asked) → ((b : Asked) → IsIn b ws → IsIn b (waits h)) → IsIn a ws → IsIn (grant_of (f a) a) (map (grant_of_wake h) (map f (sort before ws)))
    grant_wakes ws a less i =
        subst (λ g. IsIn g (map (grant_of_wake h) (map f (sort before ws)))) (ap (grant_of (f a)) (asked_found (asks h) (f a) a k.pair (k.asked a (less a i)) (sym (who_of a)) (sym (key_of a))))
        (in_map (grant_of_wake h) (f a) (map f (sort before ws)) (in_map f a (sort before ws) (in_sort before a ws i)))
