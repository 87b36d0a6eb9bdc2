-- No two versions of a key have one n, and what a call adds to them.
use Rattle.std.proofs.Common.{◌≡◌, ◌≢◌, ◌⊎◌, ℕ, ◌≤◌, List, [], ◌∷◌, ◌++◌, filter, Bool, true, false, cond, ltb, refl, sym, ap, ◌∙◌, subst, inl, inr, ⊎_elim, arith, Option, Some, None}
use Rattle.std.specs.Prelude.{⊤}
use Rattle.std.proofs.lemmas.Bool.Decides.{nat_tests}
use Rattle.deneva_base.specs.declared.keys.Key.{Key}
use Rattle.deneva_base.specs.declared.numbers.Attempt.{Attempt}
use Rattle.deneva_base.specs.declared.numbers.Number.{Number}
use Rattle.deneva_base.specs.declared.answers.Wake.{Wake}
use Rattle.deneva_base.specs.Lists.{IsIn}
use Rattle.deneva_base.specs.Rows.{Row, Rows}
use Rattle.deneva_base.specs.Keys.{number_lt, number_eq}
use Rattle.protocol_rules.specs.History.{Ask, Prepare, Commit, Abort, History, yeas, ended, aborted}
use Rattle.protocol_rules.specs.Latest.{Version, row_for, writes_in}
use Rattle.protocol_rules.specs.Rules.{Obeys}
use Rattle.protocol_rules.specs.Versions.{version_of, written, start, greatest, below}
use Rattle.protocol_rules.specs.Mvcc.{versions, mvcc}
use Rattle.protocol_rules.proofs.Sound.{sound, row_found, writes_found}
use Rattle.protocol_rules.proofs.Known.{known}
use Rattle.protocol_rules.proofs.Traced.{traced}
use Rattle.protocol_rules.proofs.Belows.{listed, below_cases}
use Rattle.protocol_rules.proofs.Marks.{marked, stamps_differ}
use Rattle.protocol_rules.proofs.Mvccs.{writer_of, owned, late, stamping}
use Rattle.protocol_rules.proofs.Stamping.{wakes_law}

-- versions that differ in their n
abbrev pub Apart : List Version → Type 0
Apart [] = ⊤
Apart (v ∷ vs) = ((w : Version) → IsIn w vs → w.number.n ≢ v.number.n) × Apart vs

pub apart_same : (vs : List Version) (v w : Version) → Apart vs → IsIn v vs → IsIn w vs → v.number.n ≡ w.number.n → v ≡ w
apart_same [] v w a i j e = absurd i
apart_same (x ∷ vs) v w a i j e =
    ⊎_elim
    (λ s. ⊎_elim (λ t. s ∙ sym t) (λ t. absurd (a.0 w t (sym e ∙ ap (λ (z : Version). z.number.n) s))) j)
    (λ s. ⊎_elim (λ t. absurd (a.0 v s (e ∙ ap (λ (z : Version). z.number.n) t))) (λ t. apart_same vs v w a.1 s t e) j)
    i

pub one_n : (x y : Number) → number_eq x y ≡ true → x.n ≡ y.n
one_n x y e = grind (arith, nat_tests)

pub same_number : (x y : Number) → x ≡ y → number_eq x y ≡ true
same_number x y e = subst (λ z. number_eq x z ≡ true) e (self x)
  where
    self : (z : Number) → number_eq z z ≡ true
    self z = grind (arith, nat_tests)

pub number_eq_sym : (x y : Number) → number_eq x y ≡ number_eq y x
number_eq_sym x y = grind (arith, nat_tests)

module _ (keep : ℕ) (loaded : Rows) where
  apart_commit : (h : History) (who : Attempt) (number : Number) (woken : List Wake) (key : Key) → Obeys loaded (mvcc keep loaded) (Commit who number woken ∷ h) → Apart (written h key) → Apart (written (Commit who number woken ∷ h) key)
  apart_commit h who number woken key o a = go (row_for key (writes_in (yeas h) who)) refl
    where
      go : (r : Option Row) → row_for key (writes_in (yeas h) who) ≡ r → Apart (version_of number r ++ written h key)
      go None e = a
      go (Some row) e = (
        (λ w i same.
            let by = stamping keep loaded in
            let ws = wakes_law true loaded (mvcc keep loaded) by h o.2 in
            let m = marked loaded (mvcc keep loaded) by.vote h o.2 in
            let k = known loaded (mvcc keep loaded) h o.2 in
            let l = listed loaded (mvcc keep loaded) h o.2 in
            let so = sound loaded (mvcc keep loaded) h o.2 in
            let t = traced loaded (mvcc keep loaded) h o.2 ws in
            let d = l.of key w i in
            let x = writer_of loaded h k so t m l (owned loaded (mvcc keep loaded) h o.2) d.0 key w.row d.1 d.3 in
            let y = writes_found (yeas h) who (record { key = key; row = row }) (row_found key (writes_in (yeas h) who) row e) in
            let g = so.holds y.0 (record { key = key; row = row }) y.2 y.3 in
            let b = t.asked g.0 g.1 in
            let mine : b.0.who ≡ who = b.2 ∙ g.2 ∙ y.1 in
            let z = o.0.inside in
            let p = m.yea z.0 b.0 z.1 b.1 (mine ∙ sym z.2) in
            stamps_differ loaded h k m x.1 b.0 x.6 b.1
            (λ q. o.0.unended (subst (λ c. IsIn c (ended h)) (sym x.7 ∙ q ∙ mine) (so.ends d.0 d.1)))
            (λ q. m.kept d.0 d.1 (subst (λ c. IsIn c (aborted h)) x.7 q))
            (λ q. o.0.unended (k.stops who (subst (λ c. IsIn c (aborted h)) mine q)))
            (omega (arith, x.9, ap (λ (c : Number). c.n) d.2, same, p.0, p.1, z.3, z.4))),
        a,
      )

  apart_written : (h : History) (key : Key) → Obeys loaded (mvcc keep loaded) h → Apart (written h key)
  apart_written [] key o = tt
  apart_written (Ask who stamp k mode answer ∷ h) key o = apart_written h key o.2
  apart_written (Prepare who bound writes appends vote ∷ h) key o = apart_written h key o.2
  apart_written (Commit who number woken ∷ h) key o = apart_commit h who number woken key o (apart_written h key o.2)
  apart_written (Abort who woken ∷ h) key o = apart_written h key o.2

  -- a committed write has a number of at least 1
  pub written_late : (h : History) (key : Key) (w : Version) → Obeys loaded (mvcc keep loaded) h → IsIn w (written h key) → 1 ≤ w.number.n
  written_late h key w o i =
      let by = stamping keep loaded in
      let ws = wakes_law true loaded (mvcc keep loaded) by h o in
      let l = listed loaded (mvcc keep loaded) h o in
      let d = l.of key w i in
      let p = late loaded h (known loaded (mvcc keep loaded) h o) (sound loaded (mvcc keep loaded) h o) (traced loaded (mvcc keep loaded) h o ws) (marked loaded (mvcc keep loaded) by.vote h o) l (owned loaded (mvcc keep loaded) h o) d.0 key w.row d.1 d.3 in
      omega (arith, p, ap (λ (c : Number). c.n) d.2)

  -- no two versions of a key have one n
  pub apart_versions : (h : History) (key : Key) → Obeys loaded (mvcc keep loaded) h → Apart (versions loaded h key)
  apart_versions h key o = ((λ w i e. let p = written_late h key w o i in zero_not e p), apart_written h key o)
    where
      zero_not : {a : ℕ} → a ≡ 0 → 1 ≤ a → ⊥
      zero_not e g = omega (arith, e, g)

  -- the version below a stamp is one of them
  pub below_in : (h : History) (key : Key) (stamp : ℕ) → IsIn (below loaded h key stamp) (versions loaded h key)
  below_in h key stamp = ⊎_elim (λ e. inl e) (λ i. inr i.0) (below_cases loaded h key stamp)

  -- the version below a stamp stays or is the one written
  pub more_below : (h : History) (key : Key) (stamp : ℕ) (number : Number) (r : Option Row) → (greatest (start loaded key) (filter (λ (v : Version). ltb v.number.n stamp) (version_of number r ++ written h key)) ≡ below loaded h key stamp) ⊎ IsIn (greatest (start loaded key) (filter (λ (v : Version). ltb v.number.n stamp) (version_of number r ++ written h key))) (version_of number r)
  more_below h key stamp number None = inl refl
  more_below h key stamp number (Some row) = go (ltb number.n stamp) (number_lt (below loaded h key stamp).number number)
    where
      go : (a b : Bool) → (greatest (start loaded key) (cond a (record { number = number; row = row } ∷ filter (λ (v : Version). ltb v.number.n stamp) (written h key)) (filter (λ (v : Version). ltb v.number.n stamp) (written h key))) ≡ below loaded h key stamp) ⊎ IsIn (greatest (start loaded key) (cond a (record { number = number; row = row } ∷ filter (λ (v : Version). ltb v.number.n stamp) (written h key)) (filter (λ (v : Version). ltb v.number.n stamp) (written h key)))) (version_of number (Some row))
      go false b = inl refl
      go true b = pick (number_lt (below loaded h key stamp).number number)
        where
          pick : (b : Bool) → (cond b (record { number = number; row = row }) (below loaded h key stamp) ≡ below loaded h key stamp) ⊎ IsIn (cond b (record { number = number; row = row }) (below loaded h key stamp)) (version_of number (Some row))
          pick true = inr (inl refl)
          pick false = inl refl
