-- Wakes that are a list of waiting accesses, each once.
use Rattle.std.proofs.Common.{◌≡◌, List, [], ◌∷◌, map, true, refl, sym, ap, ◌∙◌, subst, inl, inr}
use Rattle.deneva_base.specs.Lists.{IsIn}
use Rattle.deneva_base.specs.Rows.{Rows}
use Rattle.deneva_base.specs.Keys.{attempt_eq, key_eq}
use Rattle.deneva_base.specs.declared.answers.Wake.{Wake}
use Rattle.protocol_rules.specs.History.{History, Asked, Grant, waits, asks, grant_of, grant_of_wake, is_woken, wakes_this}
use Rattle.protocol_rules.specs.Wakes.{Once, WakesWaiters}
use Rattle.deneva_base.proofs.Membership.{in_map, in_map_from, any_at, any_found, and_parts, attempt_decides}
use Rattle.protocol_rules.proofs.Known.{Known}
use Rattle.protocol_rules.proofs.Traced.{asked_found, wakes_this_true}
use Rattle.protocol_rules.proofs.Sorts.{Distinct}

-- f makes the wake of an access
module _ (f : Asked → Wake) (who_of : (a : Asked) → (f a).who ≡ a.who) (key_of : (a : Asked) → (f a).key ≡ a.key) where
  once_map : (as' : List Asked) → ((a b : Asked) → IsIn a as' → IsIn b as' → a.who ≡ b.who → a ≡ b) → Distinct as' → Once (map f as')
  once_map [] alone d = tt
  once_map (a ∷ as') alone d = (
    (λ x i e k.
        let b = in_map_from f x as' i in
        d.0 (subst (λ z. IsIn z as') (alone b.0 a (inr b.1) (inl refl) (sym (who_of b.0) ∙ sym (ap (λ z. z.who) b.2) ∙ e ∙ who_of a)) b.1)),
    once_map as' (λ b c i j e. alone b c (inr i) (inr j) e) d.1,
  )

  module _ (loaded : Rows) (h : History) (k : Known loaded h) (ws : List Asked) (less : (a : Asked) → IsIn a ws → IsIn a (waits h)) where
    pub wakes_waiters : Distinct ws → WakesWaiters h (map f ws)
    wakes_waiters d = record {
      waited = λ w i. let b = in_map_from f w ws i in (b.0, less b.0 b.1, sym (who_of b.0) ∙ sym (ap (λ z. z.who) b.2), sym (key_of b.0) ∙ sym (ap (λ z. z.key) b.2));
      once = once_map ws (λ a b i j e. k.alone a b (less a i) (less b j) e) d;
    }

    pub woken_in : (a : Asked) → IsIn a (waits h) → is_woken (map f ws) a ≡ true → IsIn a ws
    woken_in a i t =
        let w = any_found (λ w. wakes_this w a) (map f ws) t in
        let b = in_map_from f w.0 ws w.1 in
        let same : w.0.who ≡ a.who = (attempt_decides w.0.who a.who).0 (and_parts (attempt_eq w.0.who a.who) (key_eq w.0.key a.key) w.2).0 in
        subst (λ z. IsIn z ws) (k.alone b.0 a (less b.0 b.1) i (sym (who_of b.0) ∙ sym (ap (λ z. z.who) b.2) ∙ same)) b.1

    pub in_woken : (a : Asked) → IsIn a ws → is_woken (map f ws) a ≡ true
    in_woken a i = any_at (λ w. wakes_this w a) (f a) (map f ws) (in_map f a ws i) (wakes_this_true (f a) a (who_of a) (key_of a))

    -- the grants of the wakes
    pub wake_grants : (g : Grant) → IsIn g (map (grant_of_wake h) (map f ws)) → (a : Asked) × IsIn a ws × (g ≡ grant_of (f a) a)
    wake_grants g i =
        let w = in_map_from (grant_of_wake h) g (map f ws) i in
        let b = in_map_from f w.0 ws w.1 in
        (b.0, b.1, w.2 ∙ ap (grant_of_wake h) b.2 ∙ ap (grant_of (f b.0)) (asked_found (asks h) (f b.0) b.0 k.pair (k.asked b.0 (less b.0 b.1)) (sym (who_of b.0)) (sym (key_of b.0))))

    pub grant_wakes : (a : Asked) → IsIn a ws → IsIn (grant_of (f a) a) (map (grant_of_wake h) (map f ws))
    grant_wakes a i =
        subst (λ g. IsIn g (map (grant_of_wake h) (map f ws))) (ap (grant_of (f a)) (asked_found (asks h) (f a) a k.pair (k.asked a (less a i)) (sym (who_of a)) (sym (key_of a))))
        (in_map (grant_of_wake h) (f a) (map f ws) (in_map f a ws i))
