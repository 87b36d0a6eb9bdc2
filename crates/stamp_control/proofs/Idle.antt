-- Whether somebody is let go.
use Rattle.std.proofs.Common.{◌≡◌, ℕ, ◌+◌, ◌<◌, List, [], ◌∷◌, ◌++◌, map, filter, length, drop, get_or, Bool, true, false, cond, not, ◌&&◌, ◌||◌, refl, sym, ◌∙◌, true≢false}
use Rattle.std.proofs.lemmas.List.{at_drop_more}
use Rattle.std.specs.List.{list_any}
use Rattle.deneva_base.specs.declared.keys.Key.{Key}
use Rattle.deneva_base.specs.declared.numbers.Attempt.{Attempt}
use Rattle.protocol_rules.specs.WaitDie.{none}
use Rattle.stamp_lines.specs.declared.accesses.Accesses.{Accesses}
use Rattle.stamp_lines.specs.Requests.{first_writer}
use Rattle.stamp_lines.specs.Tables.{requests_at}
use Rattle.stamp_control.specs.Fronts.{goes, front_over}

none_filter : {A B : Type 0} (f : A → B) (p : A → Bool) (xs : List A) (ys : List B) → none (map f (filter p xs) ++ ys) ≡ (not (list_any p xs) && none ys)
none_filter f p [] ys = refl
none_filter {A} {B} f p (x ∷ xs) ys = go (p x) (none_filter f p xs ys)
  where
    go : (b : Bool) → none (map f (filter p xs) ++ ys) ≡ (not (list_any p xs) && none ys) → none (map f (cond b (x ∷ filter p xs) (filter p xs)) ++ ys) ≡ (not (b || list_any p xs) && none ys)
    go true e = refl
    go false e = e

-- of the keys that are left, the first lets somebody go or not
pub idle_step : (ended : Attempt) (a : Accesses) (ks : List Key) (i : ℕ) (d : Key) → i < length ks → none (front_over ended a (drop i ks)) ≡ (not (list_any (goes (first_writer 0 ended (requests_at a (get_or ks i d)))) (requests_at a (get_or ks i d))) && none (front_over ended a (drop (i + 1) ks)))
idle_step ended a ks i d less =
    at_drop_more (λ l. none (front_over ended a l)) ks i d less
    ∙ none_filter _ (goes (first_writer 0 ended (requests_at a (get_or ks i d)))) (requests_at a (get_or ks i d)) (front_over ended a (drop (i + 1) ks))

-- a list without elements
pub nil_from_none : {A : Type 0} (xs : List A) → none xs ≡ true → xs ≡ []
nil_from_none [] e = refl
nil_from_none (x ∷ xs) e = absurd (true≢false (sym e))

pub nil_from_map : {A B : Type 0} (f : A → B) (xs : List A) → map f xs ≡ [] → xs ≡ []
nil_from_map f [] e = refl
nil_from_map f (x ∷ xs) e = absurd (cc (e))
