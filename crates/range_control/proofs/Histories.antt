-- What holds of the votes and commits of every history under MAAT.
use Rattle.std.proofs.Common.{◌≡◌, ◌≢◌, ℕ, ◌^◌, ◌<◌, ◌≤◌, List, [], ◌∷◌, ◌++◌, true, false, ◌&&◌, ◌||◌, Option, Some, None, refl, sym, ap, ◌∙◌, subst, inl, inr, ⊎_elim, arith}
use Rattle.std.proofs.lemmas.Bool.Decides.{nat_tests}
use Rattle.deneva_base.specs.declared.keys.Key.{Key}
use Rattle.deneva_base.specs.declared.numbers.Attempt.{Attempt}
use Rattle.deneva_base.specs.declared.numbers.Number.{Number}
use Rattle.deneva_base.specs.declared.rows.Keyed.{Keyed}
use Rattle.deneva_base.specs.declared.answers.Vote.{Vote}
use Rattle.deneva_base.specs.declared.answers.Vote.TheVariants.{Yes, No}
use Rattle.deneva_base.specs.Lists.{IsIn, least_by}
use Rattle.deneva_base.specs.Rows.{Row, Rows}
use Rattle.protocol_rules.specs.History.{Ask, Prepare, Commit, Abort, History, Grant, Yea, Decided, grants, yea, yeas, decided, ended}
use Rattle.deneva_base.specs.Keys.{key_eq, attempt_eq, number_lt}
use Rattle.protocol_rules.specs.Latest.{Version, newer, latest, row_for, writes_in}
use Rattle.protocol_rules.specs.Ranged.{lists, wrote, low_of, low, under_prepared, high, lo_key, hi_by}
use Rattle.protocol_rules.specs.Maat.{maat}
use Rattle.protocol_rules.specs.Rules.{Rule, Obeys}
use Rattle.deneva_base.proofs.Membership.{any_found, and_parts, key_decides, attempt_decides, attempt_tells}
use Rattle.protocol_rules.proofs.Sound.{sound, row_some, writes_are}
use Rattle.protocol_rules.proofs.Maats.{window_yes}

-- a least measure is at most 2^63
pub least_most : {A : Type 0} (f : A → ℕ) (xs : List A) → least_by f xs ≤ 2 ^ 63
least_most f [] = omega arith
least_most f (x ∷ xs) = omega (arith, least_most f xs)

-- and at least what all are
pub least_ge : {A : Type 0} (f : A → ℕ) (m : ℕ) (xs : List A) → m ≤ 2 ^ 63 → ((x : A) → IsIn x xs → m ≤ f x) → m ≤ least_by f xs
least_ge f m [] l h = l
least_ge f m (x ∷ xs) l h = omega (arith, h x (inl refl), least_ge f m xs l (λ y i. h y (inr i)))

-- a committed number is small
pub numbers_small : (loaded : Rows) (rule : Rule) (h : History) (d : Decided) → Obeys loaded rule h → IsIn d (decided h) → d.number.n < 2 ^ 48
numbers_small loaded rule [] d o i = absurd i
numbers_small loaded rule (Ask who stamp k mode answer ∷ h) d o i = numbers_small loaded rule h d o.2 i
numbers_small loaded rule (Prepare who bound ws as' vote ∷ h) d o i = numbers_small loaded rule h d o.2 i
numbers_small loaded rule (Commit who number woken ∷ h) d o i = ⊎_elim (λ (e : d ≡ record { who = who; number = number }). let m = o.0.small in omega (arith, m, ap (λ (z : Decided). z.number.n) e)) (λ j. numbers_small loaded rule h d o.2 j) i
numbers_small loaded rule (Abort who woken ∷ h) d o i = numbers_small loaded rule h d o.2 i

-- a vote is at least 1 and at most 2^63
pub record InRange (y : Yea) : Type 0 where
  pub positive : 1 ≤ y.lo
  pub low : y.lo ≤ 2 ^ 63
  pub high : y.hi ≤ 2 ^ 63

module _ (span : ℕ) (loaded : Rows) where
  pub in_range : (h : History) (y : Yea) → Obeys loaded (maat span loaded) h → IsIn y (yeas h) → InRange y
  in_range [] y o i = absurd i
  in_range (Ask who stamp k mode answer ∷ h) y o i = in_range h y o.2 i
  in_range (Commit who number woken ∷ h) y o i = in_range h y o.2 i
  in_range (Abort who woken ∷ h) y o i = in_range h y o.2 i
  in_range (Prepare who bound writes appends vote ∷ h) y o i = go vote o.1 i (in_range h y o.2)
    where
      go : (v : Vote) → v ≡ (maat span loaded).vote h who bound writes appends → IsIn y (yea who writes appends v ++ yeas h) → (IsIn y (yeas h) → InRange y) → InRange y
      go (No c) e i next = next i
      go (Yes lo hi) e i next =
          ⊎_elim
          (λ (is : y ≡ record { who = who; lo = lo; hi = hi; writes = writes; appends = appends }).
          let k = window_yes span (lo_key h bound (low_of h who writes) (low h who bound writes)) (hi_by h who (high h who)) (low h who bound writes) (high h who) lo hi e in
          let most = least_most (λ (g : Grant). least_by (under_prepared h who g) (yeas h)) (grants h) in
          record {
            positive = omega (arith, ap (λ (z : Yea). z.lo) is, k.0);
            low = omega (arith, ap (λ (z : Yea). z.lo) is, k.0, k.2, most);
            high = omega (arith, ap (λ (z : Yea). z.hi) is, k.1, most);
          })
          next
          i

-- an attempt that wrote a key voted so
pub wrote_found : (h : History) (u : Attempt) (key : Key) → wrote h u key ≡ true → (y : Yea) × IsIn y (yeas h) × (y.who ≡ u) × (lists y.writes key ≡ true)
wrote_found h u key e =
    let f = any_found (λ (y : Yea). attempt_eq y.who u && lists y.writes key) (yeas h) e in
    let p = and_parts (attempt_eq f.0.who u) (lists f.0.writes key) f.2 in
    (f.0, f.1, (attempt_decides f.0.who u).0 p.0, p.1)

-- a vote of another attempt changes nothing
pub wrote_other : (h : History) (who u : Attempt) (writes : List Keyed) (key : Key) → who ≢ u → ((attempt_eq who u && lists writes key) || wrote h u key) ≡ wrote h u key
wrote_other h who u writes key n = ⊎_elim (λ t. absurd (n t.1)) (λ f. rw f.0 refl) (attempt_tells who u)

newer_top : (old : Version) (number : Number) (row : Row) → number_lt (newer old number (Some row)).number number ≡ false
newer_top old number row = grind (arith, nat_tests)

newer_over : (old : Version) (number n : Number) (r : Option Row) → number_lt old.number n ≡ false → number_lt (newer old number r).number n ≡ false
newer_over old number n None e = e
newer_over old number n (Some row) e = grind (arith, nat_tests, e)

module _ (loaded : Rows) (rule : Rule) where
  -- no committed attempt wrote the key above its latest version
  pub latest_top : (h : History) (d : Decided) (key : Key) → Obeys loaded rule h → IsIn d (decided h) → wrote h d.who key ≡ true → number_lt (latest loaded h key).number d.number ≡ false
  latest_top [] d key o i w = absurd i
  latest_top (Ask who stamp k mode answer ∷ h) d key o i w = latest_top h d key o.2 i w
  latest_top (Abort who woken ∷ h) d key o i w = latest_top h d key o.2 i w
  latest_top (Prepare who bound ws as' (No cause) ∷ h) d key o i w = latest_top h d key o.2 i w
  latest_top (Prepare who bound ws as' (Yes lo hi) ∷ h) d key o i w =
      let other : who ≢ d.who = λ e. o.0.unended (subst (λ a. IsIn a (ended h)) (sym e) ((sound loaded rule h o.2).ends d i)) in
      latest_top h d key o.2 i (sym (wrote_other h who d.who ws key other) ∙ w)
  latest_top (Commit who number woken ∷ h) d key o i w =
      ⊎_elim
      (λ (e : d ≡ record { who = who; number = number }).
      let y = wrote_found h d.who key w in
      let f = any_found (λ (x : Keyed). key_eq x.key key) y.0.writes y.3 in
      let r = row_some key y.0.writes f.0 f.1 ((key_decides f.0.key key).0 f.2) in
      let mine : writes_in (yeas h) who ≡ y.0.writes = subst (λ a. writes_in (yeas h) a ≡ y.0.writes) (y.2 ∙ ap (λ (z : Decided). z.who) e) (writes_are (yeas h) y.0 (sound loaded rule h o.2).one y.1) in
      let row : row_for key (writes_in (yeas h) who) ≡ Some r.0 = ap (row_for key) mine ∙ r.1 in
      subst (λ (z : Decided). number_lt (newer (latest loaded h key) number (row_for key (writes_in (yeas h) who))).number z.number ≡ false) (sym e)
      (subst (λ x. number_lt (newer (latest loaded h key) number x).number number ≡ false) (sym row) (newer_top (latest loaded h key) number r.0)))
      (λ j. newer_over (latest loaded h key) number d.number (row_for key (writes_in (yeas h) who)) (latest_top h d key o.2 j w))
      i
