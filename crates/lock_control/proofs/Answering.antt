-- What the table answers is what the rules say.
use Rattle.std.proofs.Common.{◌≡◌, ◌⊎◌, ℕ, ltb, ◌<◌, List, [], ◌∷◌, Bool, true, false, not, ◌&&◌, ◌||◌, cond, refl, sym, ap, ap₂, ◌∙◌, subst, inl, inr, ⊎_elim, arith, Option, Some, None, true≢false}
use Rattle.std.proofs.lemmas.Bool.Decides.{nat_tests}
use Rattle.deneva_base.specs.declared.numbers.Attempt.{Attempt}
use Rattle.deneva_base.specs.Lists.{IsIn}
use Rattle.deneva_base.specs.Rows.{Rows}
use Rattle.deneva_base.specs.Keys.{key_eq, attempt_eq, attempt_lt}
use Rattle.deneva_base.specs.Modes.{writes}
use Rattle.protocol_rules.specs.History.{History, Asked, Grant, grants, IsUnended, Conflict}
use Rattle.protocol_rules.specs.Locks.{least, of_lesser}
use Rattle.deneva_base.proofs.Membership.{key_decides, attempt_decides, and_true, and_parts}
use Rattle.protocol_rules.proofs.Sound.{Sound}
use Rattle.protocol_rules.proofs.Known.{Known}
use Rattle.protocol_rules.proofs.Traced.{Traced}
use Rattle.protocol_rules.proofs.Locks.{conflict_decides}
use Rattle.protocol_rules.proofs.Leasts.{owners_ordered, least_in, least_under}
use Rattle.row_store.specs.Stores.{Seen, row_in}
use Rattle.control_core.specs.Leaving.{IsLoadedStore}
use Rattle.lock_control.specs.declared.requests.Request.{Request}
use Rattle.lock_control.specs.declared.table.Table.{Table}
use Rattle.lock_control.specs.Requests.{conflicting, bars, lesser, least_bar}
use Rattle.lock_control.specs.Seen.{Locks}
use Rattle.lock_control.specs.Changes.{IsNew}
use Rattle.lock_control.specs.Standing.{State, state_of, owner_of, IsOwner, IsWaiter, Falling, Tracks}
use Rattle.shelf.proofs.Keeps.{keeps_fresh}

-- the order of attempts

not_less_trans : (a b c : Attempt) → attempt_lt a b ≡ false → attempt_lt b c ≡ false → attempt_lt a c ≡ false
not_less_trans a b c e f = grind (arith, nat_tests)

not_less_self : (a : Attempt) → attempt_lt a a ≡ false
not_less_self a = grind (arith, nat_tests)

not_less_back : (a b : Attempt) → attempt_lt a b ≡ true → attempt_lt b a ≡ false
not_less_back a b e = grind (arith, nat_tests)

not_less_same : (a b : Attempt) → attempt_lt a b ≡ false → attempt_lt b a ≡ false → attempt_eq a b ≡ true
not_less_same a b e f = grind (arith, nat_tests)

pub one_attempt : (a b : Attempt) → attempt_lt a b ≡ false → attempt_lt b a ≡ false → a ≡ b
one_attempt a b e f = (attempt_decides a b).0 (not_less_same a b e f)

-- the least attempt's request among those that bar

pub record Least (asked : Request) (below : ℕ) (best : Option Request) (rs : List Request) (x : Request) : Type 0 where
  pub from : (best ≡ Some x) ⊎ (IsIn x rs × (bars asked below x ≡ true))
  pub best_not : (b : Request) → best ≡ Some b → attempt_lt b.who x.who ≡ false
  pub none_less : (r : Request) → IsIn r rs → bars asked below r ≡ true → attempt_lt r.who x.who ≡ false

some_is : (a b : Request) → Some a ≡ Some b → a ≡ b
some_is a b e = ap (λ o. get o) e
  where
    get : Option Request → Request
    get None = a
    get (Some x) = x

lesser_least : (asked : Request) (below : ℕ) (best : Option Request) (r : Request) (rs : List Request) (x : Request) → bars asked below r ≡ true → Least asked below (Some (lesser best r)) rs x → Least asked below best (r ∷ rs) x
lesser_least asked below None r rs x e l = record {
  from = ⊎_elim (λ s. let is : r ≡ x = some_is r x s in inr (inl (sym is), subst (λ z. bars asked below z ≡ true) is e)) (λ i. inr (inr i.0, i.1)) l.from;
  best_not = λ b s. cc s;
  none_less = λ q i p. ⊎_elim (λ s. subst (λ (z : Request). attempt_lt z.who x.who ≡ false) (sym s) (l.best_not r refl)) (λ j. l.none_less q j p) i;
}
lesser_least asked below (Some b) r rs x e l = go (attempt_lt r.who b.who) refl l
  where
    go : (t : Bool) → attempt_lt r.who b.who ≡ t → Least asked below (Some (cond t r b)) rs x → Least asked below (Some b) (r ∷ rs) x
    go true lt m = record {
      from = ⊎_elim (λ s. let is : r ≡ x = some_is r x s in inr (inl (sym is), subst (λ z. bars asked below z ≡ true) is e)) (λ i. inr (inr i.0, i.1)) m.from;
      best_not = λ c s. subst (λ (z : Request). attempt_lt z.who x.who ≡ false) (some_is b c s) (not_less_trans b.who r.who x.who (not_less_back r.who b.who lt) (m.best_not r refl));
      none_less = λ q i p. ⊎_elim (λ s. subst (λ (z : Request). attempt_lt z.who x.who ≡ false) (sym s) (m.best_not r refl)) (λ j. m.none_less q j p) i;
    }
    go false lt m = record {
      from = ⊎_elim (λ s. inl s) (λ i. inr (inr i.0, i.1)) m.from;
      best_not = λ c s. m.best_not c s;
      none_less = λ q i p. ⊎_elim (λ s. subst (λ (z : Request). attempt_lt z.who x.who ≡ false) (sym s) (not_less_trans r.who b.who x.who lt (m.best_not b refl))) (λ j. m.none_less q j p) i;
    }

pub least_some : (asked : Request) (below : ℕ) (best : Option Request) (rs : List Request) (x : Request) → least_bar asked below best rs ≡ Some x → Least asked below best rs x
least_some asked below best [] x e = record { from = inl e; best_not = λ b s. let is : b ≡ x = some_is b x (sym s ∙ e) in subst (λ (z : Request). attempt_lt b.who z.who ≡ false) is (not_less_self b.who); none_less = λ r i p. absurd i }
least_some asked below best (r ∷ rs) x e = go (bars asked below r) refl e (λ b k. least_some asked below b rs x k)
  where
    go : (t : Bool) → bars asked below r ≡ t → least_bar asked below (cond t (Some (lesser best r)) best) rs ≡ Some x → ((b : Option Request) → least_bar asked below b rs ≡ Some x → Least asked below b rs x) → Least asked below best (r ∷ rs) x
    go true p k rest = lesser_least asked below best r rs x p (rest (Some (lesser best r)) k)
    go false p k rest =
        let l = rest best k in
        record {
          from = ⊎_elim (λ s. inl s) (λ i. inr (inr i.0, i.1)) l.from;
          best_not = l.best_not;
          none_less = λ q i b. ⊎_elim (λ s. absurd (true≢false (sym b ∙ ap (bars asked below) s ∙ p))) (λ j. l.none_less q j b) i;
        }

pub least_none : (asked : Request) (below : ℕ) (best : Option Request) (rs : List Request) → least_bar asked below best rs ≡ None → (best ≡ None) × ((r : Request) → IsIn r rs → bars asked below r ≡ false)
least_none asked below best [] e = (e, λ r i. absurd i)
least_none asked below best (r ∷ rs) e = go (bars asked below r) refl e (λ b k. least_none asked below b rs k)
  where
    go : (t : Bool) → bars asked below r ≡ t → least_bar asked below (cond t (Some (lesser best r)) best) rs ≡ None → ((b : Option Request) → least_bar asked below b rs ≡ None → (b ≡ None) × ((q : Request) → IsIn q rs → bars asked below q ≡ false)) → (best ≡ None) × ((q : Request) → IsIn q (r ∷ rs) → bars asked below q ≡ false)
    go true p k rest = absurd (cc ((rest (Some (lesser best r)) k).0))
    go false p k rest = let l = rest best k in (l.0, λ q i. ⊎_elim (λ s. ap (bars asked below) s ∙ p) (λ j. l.1 q j) i)

nil_of : {A : Type 0} (xs : List A) → ((x : A) → IsIn x xs → ⊥) → xs ≡ []
nil_of [] n = refl
nil_of (x ∷ xs) n = absurd (n x (inl refl))

module _ (loaded : Rows) (h : History) (known : Known loaded h) (sound : Sound loaded h) (traced : Traced h) (s : State) (t : Tracks loaded s h) where
  -- a conflicting owner of smaller stamp bars, and whoever bars is one
  pub bar_of : (a : Asked) (asked : Request) (below : ℕ) (g : Grant) → asked.who ≡ a.who → asked.mode ≡ a.mode → IsIn g (grants h) → IsUnended h g.who → Conflict g.who g.key g.mode a.who a.key a.mode → g.stamp < below → IsIn (owner_of g) (s.locks a.key).requests × (bars asked below (owner_of g) ≡ true)
  bar_of a asked below g w m i u c less =
      let test = (conflict_decides g.who g.key g.mode a.who a.key a.mode).1 c in
      let parts = and_parts (key_eq g.key a.key) (not (attempt_eq g.who a.who) && (writes g.mode || writes a.mode)) test in
      (subst (λ k. IsIn (owner_of g) (s.locks k).requests) c.0 (t.owned g i u), and_true (conflicting (owner_of g) asked) (ltb g.stamp below) (ap₂ (λ x y. not (attempt_eq g.who x) && (writes g.mode || writes y)) w m ∙ parts.1) (grind (arith, nat_tests, less)))

  pub of_bar : (a : Asked) (asked : Request) (below : ℕ) (x : Request) → asked.who ≡ a.who → asked.mode ≡ a.mode → IsIn x (s.locks a.key).requests → bars asked below x ≡ true → (g : Grant) × IsIn g (grants h) × IsUnended h g.who × Conflict g.who g.key g.mode a.who a.key a.mode × (g.stamp < below) × (x ≡ owner_of g)
  of_bar a asked below x w m i b = ⊎_elim
      (λ (o : IsOwner h a.key x).
      let b' : bars asked below (owner_of o.grant) ≡ true = ap (bars asked below) (sym o.same) ∙ b in
      let parts = and_parts (conflicting (owner_of o.grant) asked) (ltb o.grant.stamp below) b' in
      let test : (not (attempt_eq o.grant.who a.who) && (writes o.grant.mode || writes a.mode)) ≡ true = ap₂ (λ x y. not (attempt_eq o.grant.who x) && (writes o.grant.mode || writes y)) (sym w) (sym m) ∙ parts.0 in
      let p1 = parts.1 in
      (o.grant, o.there, o.unended, (conflict_decides o.grant.who o.grant.key o.grant.mode a.who a.key a.mode).0 (and_true (key_eq o.grant.key a.key) (not (attempt_eq o.grant.who a.who) && (writes o.grant.mode || writes a.mode)) ((key_decides o.grant.key a.key).1 o.here) test), grind (arith, nat_tests, p1), o.same))
      (λ (q : IsWaiter h a.key x). absurd (true≢false (sym (ap (bars asked below) (sym q.same) ∙ b))))
      (t.real a.key x i)

  module _ (a : Asked) (asked : Request) (below : ℕ) (w : asked.who ≡ a.who) (m : asked.mode ≡ a.mode) (gs : List Grant)
      (in_gs : (g : Grant) → IsIn g gs → IsIn g (grants h) × IsUnended h g.who × Conflict g.who g.key g.mode a.who a.key a.mode × (g.stamp < below))
      (gs_in : (g : Grant) → IsIn g (grants h) → IsUnended h g.who → Conflict g.who g.key g.mode a.who a.key a.mode → g.stamp < below → IsIn g gs) where
    -- nobody bars
    pub barred_none : least_bar asked below None (s.locks a.key).requests ≡ None → gs ≡ []
    barred_none e = nil_of gs (λ g i. let o = in_gs g i in let b = bar_of a asked below g w m o.0 o.1 o.2 o.3 in true≢false (sym b.1 ∙ (least_none asked below None (s.locks a.key).requests e).1 (owner_of g) b.0))

    -- or the one that is named is that of the least attempt
    pub barred_some : (x : Request) → least_bar asked below None (s.locks a.key).requests ≡ Some x → (g : Grant) × (rest : List Grant) × (gs ≡ g ∷ rest) × (x ≡ owner_of (least g rest))
    barred_some x e = split gs refl
      where
        l : Least asked below None (s.locks a.key).requests x
        l = least_some asked below None (s.locks a.key).requests x e

        there : IsIn x (s.locks a.key).requests × (bars asked below x ≡ true)
        there = ⊎_elim (λ s'. absurd (cc s')) (λ i. i) l.from

        o : (g : Grant) × IsIn g (grants h) × IsUnended h g.who × Conflict g.who g.key g.mode a.who a.key a.mode × (g.stamp < below) × (x ≡ owner_of g)
        o = of_bar a asked below x w m there.0 there.1

        split : (xs : List Grant) → gs ≡ xs → (g : Grant) × (rest : List Grant) × (gs ≡ g ∷ rest) × (x ≡ owner_of (least g rest))
        split [] is = absurd (subst (λ l'. IsIn o.0 l') is (gs_in o.0 o.1 o.2 o.3 o.4))
        split (g ∷ rest) is =
            let i = least_in of_lesser g rest in
            let of = in_gs (least g rest) (subst (λ l'. IsIn (least g rest) l') (sym is) i) in
            let b = bar_of a asked below (least g rest) w m of.0 of.1 of.2 of.3 in
            let one = l.none_less (owner_of (least g rest)) b.0 b.1 in
            let two = least_under of_lesser owners_ordered g rest o.0 (subst (λ l'. IsIn o.0 l') is (gs_in o.0 o.1 o.2 o.3 o.4)) in
            let who : (least g rest).who ≡ o.0.who = one_attempt (least g rest).who o.0.who (ap (λ (z : Request). attempt_lt (least g rest).who z.who) (sym o.5) ∙ one) two in
            (g, rest, is, o.5 ∙ ap owner_of (sym (traced.one (least g rest) o.0 of.0 o.1 who (of.2.0 ∙ sym o.3.0))))

-- a table on which nothing was called
pub fresh_tracks : (store : Seen) (t : Table) → IsNew store t → IsLoadedStore store → Tracks (row_in store) (state_of t) []
fresh_tracks store t f l = record {
  owned = λ g i u. absurd i;
  queued = λ a i. absurd i;
  real = λ k x i. absurd (subst (λ (z : Locks). IsIn x z.requests) (f.locks k) i);
  falling = λ k. subst (λ (z : Locks). Falling z.requests) (sym (f.locks k)) tt;
  accessed = λ k. record { over = λ g d i j e k' p. absurd i; from = inl (ap (λ (z : Locks). z.accessed) (f.locks k)) };
  written = λ k. record { over = λ g d i j e k' p. absurd i; from = inl (ap (λ (z : Locks). z.written) (f.locks k)) };
  kept = keeps_fresh false f.shelf l;
  waiting = f.waiting;
}
