-- The version below a stamp among those that are kept.
use Rattle.std.proofs.Common.{◌≡◌, ◌⊎◌, ℕ, ◌<◌, ◌≤◌, leb, List, [], ◌∷◌, map, Bool, true, false, cond, ◌||◌, ◌&&◌, eqb, ltb, refl, sym, ap, ◌∙◌, subst, inl, inr, ⊎_elim, arith, Option, Some, None, true≢false}
use Rattle.std.proofs.lemmas.Bool.{cases_lt, ltb-true, lt-ltb, le-leb}
use Rattle.std.proofs.lemmas.Bool.Decides.{nat_tests}
use Rattle.deneva_base.specs.declared.keys.Key.{Key}
use Rattle.deneva_base.specs.declared.numbers.TxnId.{TxnId}
use Rattle.deneva_base.specs.declared.numbers.Attempt.{Attempt}
use Rattle.deneva_base.specs.declared.numbers.Number.{Number}
use Rattle.deneva_base.specs.Lists.{IsIn}
use Rattle.deneva_base.specs.Rows.{Rows}
use Rattle.deneva_base.specs.Keys.{key_eq, number_lt, number_eq}
use Rattle.protocol_rules.specs.Conditions.{MayAsk}
use Rattle.protocol_rules.specs.History.{History, Asked, waits, ended, aborted}
use Rattle.protocol_rules.specs.Latest.{Version}
use Rattle.protocol_rules.specs.Rules.{Obeys}
use Rattle.protocol_rules.specs.Versions.{written, below}
use Rattle.protocol_rules.specs.Mvcc.{versions, as_great, nth_greatest, floor, mvcc}
use Rattle.deneva_base.proofs.Membership.{in_map, in_map_from, in_filter, filter_in, and_true, any_at, attempt_tells, key_decides}
use Rattle.protocol_rules.proofs.Sound.{sound}
use Rattle.protocol_rules.proofs.Known.{known}
use Rattle.protocol_rules.proofs.Traced.{traced}
use Rattle.protocol_rules.proofs.Belows.{listed, below_over, below_under, not_above}
use Rattle.protocol_rules.proofs.Marks.{marked}
use Rattle.protocol_rules.proofs.Mvccs.{writer_of, owned, stamping}
use Rattle.protocol_rules.proofs.Stamping.{wakes_law}
use Rattle.chain_control.specs.declared.links.ReadVersion.{ReadVersion}
use Rattle.chain_control.specs.Links.{later_link, link_below}
use Rattle.chain_control.specs.Kept.{in_order, awaited, is_kept, kept}
use Rattle.chain_control.specs.Standing.{link_of}
use Rattle.chain_control.proofs.Apart.{apart_same, apart_versions, below_in, same_number}
use Rattle.chain_control.proofs.Floors.{greatest_at, in_versions, versions_in}

-- x is below the stamp, and none that is has a greater number
record Best (stamp : ℕ) (best : Option ReadVersion) (ls : List ReadVersion) (x : ReadVersion) : Type 0 where
  pub from : (best ≡ Some x) ⊎ (IsIn x ls × (ltb x.number.n stamp ≡ true))
  pub best_not : (b : ReadVersion) → best ≡ Some b → number_lt x.number b.number ≡ false
  pub none_above : (l : ReadVersion) → IsIn l ls → ltb l.number.n stamp ≡ true → number_lt x.number l.number ≡ false

some_is : (a b : ReadVersion) → Some a ≡ Some b → a ≡ b
some_is a b e = cc

not_lt_self : (a : Number) → number_lt a a ≡ false
not_lt_self a = grind (arith, nat_tests)

not_lt_back : (a b : Number) → number_lt a b ≡ true → number_lt b a ≡ false
not_lt_back a b e = grind (arith, nat_tests)

not_lt_trans : (a b c : Number) → number_lt a b ≡ false → number_lt b c ≡ false → number_lt a c ≡ false
not_lt_trans a b c e f = grind (arith, nat_tests)

later_best : (stamp : ℕ) (best : Option ReadVersion) (l : ReadVersion) (ls : List ReadVersion) (x : ReadVersion) → ltb l.number.n stamp ≡ true → Best stamp (Some (later_link best l)) ls x → Best stamp best (l ∷ ls) x
later_best stamp None l ls x e m = record {
  from = ⊎_elim (λ s. let is : l ≡ x = some_is l x s in inr (inl (sym is), subst (λ (z : ReadVersion). ltb z.number.n stamp ≡ true) is e)) (λ i. inr (inr i.0, i.1)) m.from;
  best_not = λ b s. cc s;
  none_above = λ q i t. ⊎_elim (λ s. m.best_not q (ap (λ z. Some z) (sym s))) (λ j. m.none_above q j t) i;
}
later_best stamp (Some b) l ls x e m = go (number_lt b.number l.number) refl m
  where
    go : (t : Bool) → number_lt b.number l.number ≡ t → Best stamp (Some (cond t l b)) ls x → Best stamp (Some b) (l ∷ ls) x
    go true lt m = record {
      from = ⊎_elim (λ s. let is : l ≡ x = some_is l x s in inr (inl (sym is), subst (λ (z : ReadVersion). ltb z.number.n stamp ≡ true) is e)) (λ i. inr (inr i.0, i.1)) m.from;
      best_not = λ c s. subst (λ (z : ReadVersion). number_lt x.number z.number ≡ false) (some_is b c s) (not_lt_trans x.number l.number b.number (m.best_not l refl) (not_lt_back b.number l.number lt));
      none_above = λ q i t. ⊎_elim (λ s. m.best_not q (ap (λ z. Some z) (sym s))) (λ j. m.none_above q j t) i;
    }
    go false lt m = record {
      from = ⊎_elim (λ s. inl s) (λ i. inr (inr i.0, i.1)) m.from;
      best_not = m.best_not;
      none_above = λ q i t. ⊎_elim (λ s. subst (λ (z : ReadVersion). number_lt x.number z.number ≡ false) (sym s) (not_lt_trans x.number b.number l.number (m.best_not b refl) lt)) (λ j. m.none_above q j t) i;
    }

best_some : (stamp : ℕ) (best : Option ReadVersion) (ls : List ReadVersion) (x : ReadVersion) → link_below stamp best ls ≡ Some x → Best stamp best ls x
best_some stamp best [] x e = record { from = inl e; best_not = λ b s. subst (λ (z : ReadVersion). number_lt x.number z.number ≡ false) (some_is x b (sym e ∙ s)) (not_lt_self x.number); none_above = λ l i t. absurd i }
best_some stamp best (l ∷ ls) x e = go (ltb l.number.n stamp) refl e (λ b k. best_some stamp b ls x k)
  where
    go : (t : Bool) → ltb l.number.n stamp ≡ t → link_below stamp (cond t (Some (later_link best l)) best) ls ≡ Some x → ((b : Option ReadVersion) → link_below stamp b ls ≡ Some x → Best stamp b ls x) → Best stamp best (l ∷ ls) x
    go true t k rest = later_best stamp best l ls x t (rest (Some (later_link best l)) k)
    go false t k rest =
        let m = rest best k in
        record {
          from = ⊎_elim (λ s. inl s) (λ i. inr (inr i.0, i.1)) m.from;
          best_not = m.best_not;
          none_above = λ q i u. ⊎_elim (λ s. absurd (true≢false (sym u ∙ ap (λ (z : ReadVersion). ltb z.number.n stamp) s ∙ t))) (λ j. m.none_above q j u) i;
        }

best_none : (stamp : ℕ) (best : Option ReadVersion) (ls : List ReadVersion) → link_below stamp best ls ≡ None → (best ≡ None) × ((l : ReadVersion) → IsIn l ls → ltb l.number.n stamp ≡ false)
best_none stamp best [] e = (e, λ l i. absurd i)
best_none stamp best (l ∷ ls) e = go (ltb l.number.n stamp) refl e (λ b k. best_none stamp b ls k)
  where
    go : (t : Bool) → ltb l.number.n stamp ≡ t → link_below stamp (cond t (Some (later_link best l)) best) ls ≡ None → ((b : Option ReadVersion) → link_below stamp b ls ≡ None → (b ≡ None) × ((q : ReadVersion) → IsIn q ls → ltb q.number.n stamp ≡ false)) → (best ≡ None) × ((q : ReadVersion) → IsIn q (l ∷ ls) → ltb q.number.n stamp ≡ false)
    go true t k rest = absurd (cc ((rest (Some (later_link best l)) k).0))
    go false t k rest = let r = rest best k in (r.0, λ q i. ⊎_elim (λ s. ap (λ (z : ReadVersion). ltb z.number.n stamp) s ∙ t) (λ j. r.1 q j) i)

txn_same : (a b : TxnId) → a.0 ≡ b.0 → a ≡ b
txn_same a b e = λ i. record { 0 = e i }

txn_tells : (a b : TxnId) → (a ≡ b) ⊎ (a ≡ b → ⊥)
txn_tells a b = grind (arith, nat_tests, txn_same a b)

pub or_left : (a b : Bool) → a ≡ true → (a || b) ≡ true
or_left a b e = grind arith

pub or_right : (a b : Bool) → b ≡ true → (a || b) ≡ true
or_right a b e = grind arith

module _ (keep : ℕ) (loaded : Rows) (h : History) (o : Obeys loaded (mvcc keep loaded) h) (key : Key) where
  -- a version that is not below the floor is kept
  pub floor_keeps : (v : Version) → floor keep loaded h key ≤ v.number.n → is_kept keep loaded h key v ≡ true
  floor_keeps v l = or_left (leb (floor keep loaded h key) v.number.n) (awaited loaded h key (waits h) v) (le-leb (floor keep loaded h key) v.number.n l)

  -- and the one that a waiter is to read
  pub waiter_keeps : (a : Asked) → IsIn a (waits h) → a.key ≡ key → is_kept keep loaded h key (below loaded h key a.stamp) ≡ true
  waiter_keeps a i k =
      or_right (leb (floor keep loaded h key) (below loaded h key a.stamp).number.n) (awaited loaded h key (waits h) (below loaded h key a.stamp))
      (any_at (λ (x : Asked). key_eq x.key key && number_eq (below loaded h key a.stamp).number (below loaded h key x.stamp).number) a (waits h) i
      (and_true (key_eq a.key key) (number_eq (below loaded h key a.stamp).number (below loaded h key a.stamp).number) ((key_decides a.key key).1 k) (same_number (below loaded h key a.stamp).number (below loaded h key a.stamp).number refl)))

  -- a version below the stamp that is kept is found
  pub best_is : (stamp : ℕ) → 1 ≤ stamp → is_kept keep loaded h key (below loaded h key stamp) ≡ true → link_below stamp None (map (link_of h key) (kept keep loaded h key)) ≡ Some (link_of h key (below loaded h key stamp))
  best_is stamp positive is = go (link_below stamp None (map (link_of h key) (kept keep loaded h key))) refl
    where
      b : Version
      b = below loaded h key stamp

      mine : IsIn (link_of h key (below loaded h key stamp)) (map (link_of h key) (kept keep loaded h key))
      mine = in_map (link_of h key) (below loaded h key stamp) (kept keep loaded h key) (in_filter (is_kept keep loaded h key) (below loaded h key stamp) (in_order loaded h key) (versions_in loaded h key (below loaded h key stamp) (below_in keep loaded h key stamp)) is)

      under : ltb (below loaded h key stamp).number.n stamp ≡ true
      under = lt-ltb (below loaded h key stamp).number.n stamp (below_under loaded h key stamp positive)

      most : (v : Version) → IsIn v (versions loaded h key) → v.number.n < stamp → v.number.n ≤ (below loaded h key stamp).number.n
      most v i l = ⊎_elim (λ e. omega (arith, ap (λ (z : Version). z.number.n) e)) (λ j. below_over loaded h key stamp v j l) i

      go : (r : Option ReadVersion) → link_below stamp None (map (link_of h key) (kept keep loaded h key)) ≡ r → r ≡ Some (link_of h key (below loaded h key stamp))
      go None e = absurd (true≢false (sym under ∙ (best_none stamp None (map (link_of h key) (kept keep loaded h key)) e).1 (link_of h key (below loaded h key stamp)) mine))
      go (Some x) e =
          let m = best_some stamp None (map (link_of h key) (kept keep loaded h key)) x e in
          ⊎_elim
          (λ s. absurd (cc s))
          (λ i.
          let f = in_map_from (link_of h key) x (kept keep loaded h key) i.0 in
          let there = in_versions loaded h key f.0 (filter_in (is_kept keep loaded h key) f.0 (in_order loaded h key) f.1).0 in
          let n : x.number.n ≡ f.0.number.n = ap (λ (z : ReadVersion). z.number.n) f.2 in
          let up = most f.0 there (omega (arith, n, ltb-true x.number.n stamp i.1)) in
          let down = not_above x.number (below loaded h key stamp).number (m.none_above (link_of h key (below loaded h key stamp)) mine under) in
          let same : f.0 ≡ below loaded h key stamp = apart_same (versions loaded h key) f.0 (below loaded h key stamp) (apart_versions keep loaded h key o) there (below_in keep loaded h key stamp) (omega (arith, n, up, down)) in
          ap (λ z. Some z) (f.2 ∙ ap (link_of h key) same))
          m.from

  -- an access that passes the floor reads a version that is not below it
  pub passes_floor : (who : Attempt) (stamp : ℕ) → MayAsk loaded h who stamp key → floor keep loaded h key ≤ stamp → floor keep loaded h key ≤ (below loaded h key stamp).number.n
  passes_floor who stamp may e = go (eqb keep 0) e
    where
      not_here : (v : Version) → IsIn v (written h key) → v.number.n ≡ stamp → ⊥
      not_here v i e =
          let by = stamping keep loaded in
          let ws = wakes_law true loaded (mvcc keep loaded) by h o in
          let m = marked loaded (mvcc keep loaded) by.vote h o in
          let k = known loaded (mvcc keep loaded) h o in
          let l = listed loaded (mvcc keep loaded) h o in
          let d = l.of key v i in
          let so = sound loaded (mvcc keep loaded) h o in
          let a = writer_of loaded h k so (traced loaded (mvcc keep loaded) h o ws) m l (owned loaded (mvcc keep loaded) h o) d.0 key v.row d.1 d.3 in
          let same : a.1.stamp ≡ stamp = omega (arith, a.9, ap (λ (z : Number). z.n) d.2, e) in
          ⊎_elim
          (λ t. ⊎_elim
          (λ s. may.unended (subst (λ z. IsIn z (ended h)) (sym a.7 ∙ s.1) (so.ends d.0 d.1)))
          (λ s. m.kept d.0 d.1 (subst (λ z. IsIn z (aborted h)) a.7 (may.others a.1 a.6 t s.1)))
          (attempt_tells a.1.who who))
          (λ t. may.own_stamp a.1 a.6 t same)
          (txn_tells a.1.who.txn who.txn)

      above : nth_greatest keep (versions loaded h key) ≤ stamp → nth_greatest keep (versions loaded h key) ≤ (below loaded h key stamp).number.n
      above e =
          ⊎_elim
          (λ z. omega (arith, z))
          (λ x. at x.0 x.1 (leb keep (as_great (versions loaded h key) x.0)) x.2)
          (greatest_at (λ v. cond (leb keep (as_great (versions loaded h key) v)) v.number.n 0) (versions loaded h key))
        where
          at : (x : Version) → IsIn x (versions loaded h key) → (b : Bool) → nth_greatest keep (versions loaded h key) ≡ cond b x.number.n 0 → nth_greatest keep (versions loaded h key) ≤ (below loaded h key stamp).number.n
          at x i false f = omega (arith, f)
          at x i true f =
              ⊎_elim
              (λ s. omega (arith, f, ap (λ (z : Version). z.number.n) s))
              (λ w. ⊎_elim
              (λ less. omega (arith, f, below_over loaded h key stamp x w less))
              (λ g. absurd (not_here x w (omega (arith, f, e, g))))
              (cases_lt x.number.n stamp))
              i

      go : (b : Bool) → cond b 0 (nth_greatest keep (versions loaded h key)) ≤ stamp → cond b 0 (nth_greatest keep (versions loaded h key)) ≤ (below loaded h key stamp).number.n
      go true e = omega arith
      go false e = above e
