-- Those that no writer before them stops are those that nobody stops.
use Rattle.std.proofs.Common.{◌≡◌, ◌⊎◌, ℕ, ◌<◌, ◌≤◌, ltb, leb, List, [], ◌∷◌, map, filter, Bool, true, false, not, ◌&&◌, cond, refl, sym, ap, ◌∙◌, subst, inl, inr, ⊎_elim, arith, Option, Some, None, true≢false}
use Rattle.std.proofs.lemmas.Bool.{ltb-true, lt-ltb, leb-true, le-leb, cases_lt, false_from_ne_true}
use Rattle.std.specs.List.{list_any}
use Rattle.deneva_base.specs.declared.keys.Key.{Key}
use Rattle.deneva_base.specs.declared.numbers.Attempt.{Attempt}
use Rattle.deneva_base.specs.declared.numbers.Number.{Number}
use Rattle.deneva_base.specs.Lists.{IsIn}
use Rattle.deneva_base.specs.Keys.{attempt_eq}
use Rattle.deneva_base.specs.Modes.{writes}
use Rattle.deneva_base.proofs.Membership.{any_at, any_found, and_true, and_parts}
use Rattle.chain_control.specs.declared.requests.Request.{Request}
use Rattle.chain_control.specs.Requests.{raised, stands_between, past_with, goes_past, writer_after, waiter_for}
use Rattle.chain_control.specs.Chains.{goers_after}
use Rattle.chain_control.specs.Standing.{StampsRise}
use Rattle.chain_control.proofs.Answering.{bool_both}

-- it is not of the attempt that ends, and stands between
abbrev pub bars : Attempt → ℕ → ℕ → Request → Bool
bars ended low stamp r = not (attempt_eq r.who ended) && stands_between low stamp r

abbrev pub is_barred : Attempt → ℕ → ℕ → List Request → Bool
is_barred ended low stamp rs = list_any (bars ended low stamp) rs

-- it waits, and nobody stands between once the attempt has ended, which wrote the key where there is a number
abbrev pub goes_with : Attempt → Option Number → List Request → ℕ → Option Number → Bool
goes_with ended new all stamp None = false
goes_with ended new all stamp (Some version) = not (is_barred ended (raised new stamp version).n stamp all)

abbrev pub goes_in : Attempt → Option Number → List Request → Request → Bool
goes_in ended new all r = goes_with ended new all r.stamp r.waits

abbrev writer : Attempt → Request → Bool
writer ended r = writes r.mode && not (attempt_eq r.who ended)

module _ (key : Key) (ended : Attempt) (new : Option Number) (all : List Request) where
  -- the requests are split into those before and the others, which follow them
  record Split (before rs : List Request) (last : ℕ) : Type 0 where
    pub all_in : (x : Request) → IsIn x all → IsIn x before ⊎ IsIn x rs
    pub in_all : (x : Request) → IsIn x before → IsIn x all
    pub rest : (x : Request) → IsIn x rs → IsIn x all
    pub order : (x y : Request) → IsIn x before → IsIn y rs → x.stamp < y.stamp
    pub most : (x : Request) → IsIn x before → writer ended x ≡ true → x.stamp ≤ last
    pub from : (last ≡ 0) ⊎ ((x : Request) × IsIn x before × (writer ended x ≡ true) × (x.stamp ≡ last))

  no_bar : (a b : Bool) → not a ≡ true → a ≡ true → ⊥
  no_bar true b e f = true≢false (sym e)
  no_bar false b e f = true≢false (sym f)

  -- the writers before are those that may stop it
  past_is : (before rs : List Request) (r : Request) (last : ℕ) → Split before (r ∷ rs) last → StampsRise (r ∷ rs) → goes_past last new r ≡ goes_in ended new all r
  past_is before rs r last s rise = go r.waits
    where
      go : (w : Option Number) → past_with last new r.stamp w ≡ goes_with ended new all r.stamp w
      go None = refl
      go (Some v) = bool_both (leb last (raised new r.stamp v).n) (not (is_barred ended (raised new r.stamp v).n r.stamp all))
          (λ e.
          let le = leb-true last (raised new r.stamp v).n e in
          ap not (false_from_ne_true (is_barred ended (raised new r.stamp v).n r.stamp all) (λ b.
          let f = any_found (bars ended (raised new r.stamp v).n r.stamp) all b in
          let p = and_parts (not (attempt_eq f.0.who ended)) (stands_between (raised new r.stamp v).n r.stamp f.0) f.2 in
          let q = and_parts (writes f.0.mode) (ltb (raised new r.stamp v).n f.0.stamp && ltb f.0.stamp r.stamp) p.1 in
          let m = and_parts (ltb (raised new r.stamp v).n f.0.stamp) (ltb f.0.stamp r.stamp) q.1 in
          let low = ltb-true (raised new r.stamp v).n f.0.stamp m.0 in
          let high = ltb-true f.0.stamp r.stamp m.1 in
          ⊎_elim
          (λ i. let most = s.most f.0 i (and_true (writes f.0.mode) (not (attempt_eq f.0.who ended)) q.0 p.0) in omega (arith, le, low, most))
          (λ i. ⊎_elim
          (λ (same : f.0 ≡ r). omega (arith, high, ap (λ (z : Request). z.stamp) same))
          (λ j. let after = rise.0 f.0 j in omega (arith, high, after))
          i)
          (s.all_in f.0 f.1))))
          (λ e. ⊎_elim
          (λ above. absurd (⊎_elim
          (λ z. nothing last (raised new r.stamp v).n above z)
          (λ x.
          let p = and_parts (writes x.0.mode) (not (attempt_eq x.0.who ended)) x.2 in
          let before_it = s.order x.0 r x.1 (inl refl) in
          no_bar (is_barred ended (raised new r.stamp v).n r.stamp all) true e
          (any_at (bars ended (raised new r.stamp v).n r.stamp) x.0 all (s.in_all x.0 x.1)
          (and_true (not (attempt_eq x.0.who ended)) (stands_between (raised new r.stamp v).n r.stamp x.0) p.1
          (and_true (writes x.0.mode) (ltb (raised new r.stamp v).n x.0.stamp && ltb x.0.stamp r.stamp) p.0
          (and_true (ltb (raised new r.stamp v).n x.0.stamp) (ltb x.0.stamp r.stamp)
          (lt-ltb (raised new r.stamp v).n x.0.stamp (omega (arith, above, x.3)))
          (lt-ltb x.0.stamp r.stamp before_it))))))
          s.from))
          (λ le. le-leb last (raised new r.stamp v).n le)
          (cases_lt (raised new r.stamp v).n last))
        where
          nothing : (a b : ℕ) → b < a → a ≡ 0 → ⊥
          nothing a b l z = omega (arith, l, z)

  step : (before rs : List Request) (r : Request) (last : ℕ) → Split before (r ∷ rs) last → StampsRise (r ∷ rs) → Split (r ∷ before) rs (writer_after ended last r)
  step before rs r last s rise = record {
    all_in = λ x i. ⊎_elim (λ j. inl (inr j)) (λ j. ⊎_elim (λ e. inl (inl e)) (λ k. inr k) j) (s.all_in x i);
    in_all = λ x i. ⊎_elim (λ e. subst (λ z. IsIn z all) (sym e) there) (λ j. s.in_all x j) i;
    rest = λ x i. s.rest x (inr i);
    order = λ x y i j. ⊎_elim (λ (e : x ≡ r). let l = rise.0 y j in omega (arith, l, ap (λ (z : Request). z.stamp) e)) (λ k. s.order x y k (inr j)) i;
    most = λ x i w. ⊎_elim (λ (e : x ≡ r). mine x e w (writer ended r) refl) (λ k. let m = s.most x k w in let l = s.order x r k (inl refl) in older x m l (writer ended r)) i;
    from = came (writer ended r) refl;
  }
    where
      there : IsIn r all
      there = s.rest r (inl refl)

      mine : (x : Request) → x ≡ r → writer ended x ≡ true → (b : Bool) → writer ended r ≡ b → x.stamp ≤ cond (writer ended r) r.stamp last
      mine x e w true f = subst (λ b. x.stamp ≤ cond b r.stamp last) (sym f) (omega (arith, ap (λ (z : Request). z.stamp) e))
      mine x e w false f = absurd (true≢false (sym w ∙ ap (writer ended) e ∙ f))

      older : (x : Request) → x.stamp ≤ last → x.stamp < r.stamp → (b : Bool) → x.stamp ≤ cond b r.stamp last
      older x m l true = omega (arith, l)
      older x m l false = m

      came : (b : Bool) → writer ended r ≡ b → (cond (writer ended r) r.stamp last ≡ 0) ⊎ ((x : Request) × IsIn x (r ∷ before) × (writer ended x ≡ true) × (x.stamp ≡ cond (writer ended r) r.stamp last))
      came true e = inr (r, inl refl, e, sym (ap (λ b. cond b r.stamp last) e))
      came false e = ⊎_elim (λ z. inl (ap (λ b. cond b r.stamp last) e ∙ z)) (λ x. inr (x.0, inr x.1, x.2, x.3 ∙ sym (ap (λ b. cond b r.stamp last) e))) s.from

  goers_from : (before rs : List Request) (last : ℕ) → Split before rs last → StampsRise rs → goers_after key ended new last rs ≡ map (waiter_for key new) (filter (goes_in ended new all) rs)
  goers_from before [] last s rise = refl
  goers_from before (r ∷ rs) last s rise =
      ap (λ b. cond b (waiter_for key new r ∷ goers_after key ended new (writer_after ended last r) rs) (goers_after key ended new (writer_after ended last r) rs)) (past_is before rs r last s rise)
      ∙ go (goes_in ended new all r) (goers_from (r ∷ before) rs (writer_after ended last r) (step before rs r last s rise) rise.1)
    where
      go : (b : Bool) → goers_after key ended new (writer_after ended last r) rs ≡ map (waiter_for key new) (filter (goes_in ended new all) rs) → cond b (waiter_for key new r ∷ goers_after key ended new (writer_after ended last r) rs) (goers_after key ended new (writer_after ended last r) rs) ≡ map (waiter_for key new) (cond b (r ∷ filter (goes_in ended new all) rs) (filter (goes_in ended new all) rs))
      go true e = ap (λ l. waiter_for key new r ∷ l) e
      go false e = e

pub goers_are : (key : Key) (ended : Attempt) (new : Option Number) (all : List Request) → StampsRise all → goers_after key ended new 0 all ≡ map (waiter_for key new) (filter (goes_in ended new all) all)
goers_are key ended new all rise = goers_from key ended new all [] all 0 (record { all_in = λ x i. inr i; in_all = λ x i. absurd i; rest = λ x i. i; order = λ x y i j. absurd i; most = λ x i w. absurd i; from = inl refl }) rise
