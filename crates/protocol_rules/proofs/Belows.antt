-- The committed writes of a key, and the greatest below a stamp.
use Rattle.std.proofs.Common.{◌≡◌, ◌⊎◌, ℕ, ◌<◌, ◌≤◌, List, [], ◌∷◌, filter, Bool, true, false, cond, ltb, refl, sym, ap, ◌∙◌, subst, inl, inr, ⊎_elim, arith, Option, Some, None}
use Rattle.std.proofs.lemmas.Bool.{ltb-true, lt-ltb}
use Rattle.std.proofs.lemmas.Bool.Decides.{nat_tests}
use Rattle.deneva_base.specs.declared.keys.Key.{Key}
use Rattle.deneva_base.specs.declared.numbers.Attempt.{Attempt}
use Rattle.deneva_base.specs.declared.numbers.Number.{Number}
use Rattle.deneva_base.specs.Lists.{IsIn, greatest_by}
use Rattle.deneva_base.specs.Rows.{Row, Rows, row_or_empty}
use Rattle.deneva_base.specs.Keys.{number_lt}
use Rattle.deneva_base.specs.declared.answers.Vote.{Vote}
use Rattle.deneva_base.specs.declared.answers.Vote.TheVariants.{Yes, No}
use Rattle.deneva_base.specs.declared.answers.Wake.{Wake}
use Rattle.deneva_base.specs.declared.causes.Bound.{Bound}
use Rattle.deneva_base.specs.declared.rows.Keyed.{Keyed}
use Rattle.protocol_rules.specs.History.{Ask, Prepare, Commit, Abort, History, Decided, yeas, decided, ended, Writes}
use Rattle.protocol_rules.specs.Windows.{IsVersion}
use Rattle.protocol_rules.specs.Conditions.{MayPrepare}
use Rattle.protocol_rules.specs.Rules.{Rule, Obeys}
use Rattle.protocol_rules.specs.Latest.{Version, row_for, writes_in, greater}
use Rattle.deneva_base.proofs.Membership.{in_left, in_right, in_cases, in_filter, filter_in}
use Rattle.protocol_rules.proofs.Sound.{Sound, sound, row_found, row_some, writes_found, writes_are}
use Rattle.protocol_rules.specs.Versions.{version_of, written, start, greatest, below}

greater_cases : (v w : Version) → (greater v w ≡ v) ⊎ (greater v w ≡ w)
greater_cases v w = go (number_lt v.number w.number)
  where
    go : (b : Bool) → (cond b w v ≡ v) ⊎ (cond b w v ≡ w)
    go true = inr refl
    go false = inl refl

greater_both : (v w : Version) → (number_lt (greater v w).number v.number ≡ false) × (number_lt (greater v w).number w.number ≡ false)
greater_both v w = go (number_lt v.number w.number) refl
  where
    go : (b : Bool) → number_lt v.number w.number ≡ b → (number_lt (cond b w v).number v.number ≡ false) × (number_lt (cond b w v).number w.number ≡ false)
    go true e = (grind (arith, nat_tests), grind (arith, nat_tests))
    go false e = (grind (arith, nat_tests), e)

not_less : (a b c : Number) → number_lt a b ≡ false → number_lt b c ≡ false → number_lt a c ≡ false
not_less a b c e f = grind (arith, nat_tests)

pub not_above : (a b : Number) → number_lt a b ≡ false → b.n ≤ a.n
not_above a b e = grind (arith, nat_tests)

pub greatest_in : (v : Version) (ws : List Version) → (greatest v ws ≡ v) ⊎ IsIn (greatest v ws) ws
greatest_in v [] = inl refl
greatest_in v (w ∷ ws) =
    ⊎_elim
    (λ e. ⊎_elim (λ f. inl (e ∙ f)) (λ i. inr (inr (subst (λ z. IsIn z ws) (sym e) i))) (greatest_in v ws))
    (λ e. inr (inl e))
    (greater_cases (greatest v ws) w)

pub greatest_over : (v : Version) (ws : List Version) (x : Version) → (x ≡ v) ⊎ IsIn x ws → number_lt (greatest v ws).number x.number ≡ false
greatest_over v [] x i = ⊎_elim (λ e. subst (λ z. number_lt v.number z.number ≡ false) (sym e) (grind (arith, nat_tests))) (λ t. absurd t) i
greatest_over v (w ∷ ws) x i =
    let b = greater_both (greatest v ws) w in
    ⊎_elim
    (λ e. not_less (greater (greatest v ws) w).number (greatest v ws).number x.number b.0 (greatest_over v ws x (inl e)))
    (λ t. ⊎_elim
    (λ e. subst (λ z. number_lt (greater (greatest v ws) w).number z.number ≡ false) (sym e) b.1)
    (λ r. not_less (greater (greatest v ws) w).number (greatest v ws).number x.number b.0 (greatest_over v ws x (inr r)))
    t)
    i

-- the list of the committed writes tells what the history tells
pub record Listed (loaded : Rows) (h : History) : Type 0 where
  pub of : (key : Key) (v : Version) → IsIn v (written h key) → (d : Decided) × IsIn d (decided h) × (d.number ≡ v.number) × Writes h d.who key v.row
  pub all : (d : Decided) (key : Key) (row : Row) → IsIn d (decided h) → Writes h d.who key row → (v : Version) × IsIn v (written h key) × (v.number ≡ d.number)

in_version : (number : Number) (r : Option Row) (v : Version) → IsIn v (version_of number r) → (v.number ≡ number) × (r ≡ Some v.row)
in_version number None v i = absurd i
in_version number (Some row) v i = ⊎_elim (λ (e : v ≡ record { number = number; row = row }). (ap (λ z. z.number) e, ap (λ z. Some z.row) (sym e))) (λ t. absurd t) i

module _ (loaded : Rows) where
  listed_yes : (h : History) (who : Attempt) (bound : Bound) (writes appends : List Keyed) (vote : Vote) → MayPrepare h who bound writes appends → Sound loaded h → Listed loaded h → Listed loaded (Prepare who bound writes appends vote ∷ h)
  listed_yes h who bound writes appends (No cause) may s l = record { of = l.of; all = l.all }
  listed_yes h who bound writes appends (Yes lo hi) may s l = record {
    of = λ key v i. let d = l.of key v i in (d.0, d.1, d.2, (d.3.0, d.3.1, inr d.3.2, d.3.3));
    all = λ d key row i w.
        ⊎_elim
        (λ (x : w.0 ≡ record { who = who; lo = lo; hi = hi; writes = writes; appends = appends }).
        absurd (may.unended (subst (λ z. IsIn z (ended h)) (sym w.1 ∙ ap (λ z. z.who) x) (s.ends d i))))
        (λ t. l.all d key row i (w.0, w.1, t, w.3))
        w.2;
  }

  listed_commit : (h : History) (who : Attempt) (number : Number) (woken : List Wake) → Sound loaded h → Listed loaded h → Listed loaded (Commit who number woken ∷ h)
  listed_commit h who number woken s l = record {
    of = λ key v i.
        ⊎_elim
        (λ n.
        let p = in_version number (row_for key (writes_in (yeas h) who)) v n in
        (record { who = who; number = number }, inl refl, sym p.0, writes_found (yeas h) who (record { key = key; row = v.row }) (row_found key (writes_in (yeas h) who) v.row p.1)))
        (λ t. let d = l.of key v t in (d.0, inr d.1, d.2, d.3))
        (in_cases v (version_of number (row_for key (writes_in (yeas h) who))) (written h key) i);
    all = λ d key row i w.
        ⊎_elim
        (λ (e : d ≡ record { who = who; number = number }).
        let e1 : writes_in (yeas h) who ≡ w.0.writes = subst (λ a. writes_in (yeas h) a ≡ w.0.writes) (w.1 ∙ ap (λ x. x.who) e) (writes_are (yeas h) w.0 s.one w.2) in
        let rs = row_some key w.0.writes (record { key = key; row = row }) w.3 refl in
        let e2 : row_for key (writes_in (yeas h) who) ≡ Some rs.0 = ap (row_for key) e1 ∙ rs.1 in
        (record { number = number; row = rs.0 }, in_left (record { number = number; row = rs.0 }) (version_of number (row_for key (writes_in (yeas h) who))) (written h key) (rw e2 (inl refl)), sym (ap (λ x. x.number) e)))
        (λ t. let v = l.all d key row t w in (v.0, in_right v.0 (version_of number (row_for key (writes_in (yeas h) who))) (written h key) v.1, v.2))
        i;
  }

  pub listed : (rule : Rule) (h : History) → Obeys loaded rule h → Listed loaded h
  listed rule [] o = record { of = λ key v i. absurd i; all = λ d key row i w. absurd i }
  listed rule (Ask who stamp key mode answer ∷ h) o = let l = listed rule h o.2 in record { of = l.of; all = l.all }
  listed rule (Prepare who bound writes appends vote ∷ h) o = listed_yes h who bound writes appends vote o.0 (sound loaded rule h o.2) (listed rule h o.2)
  listed rule (Commit who number woken ∷ h) o = listed_commit h who number woken (sound loaded rule h o.2) (listed rule h o.2)
  listed rule (Abort who woken ∷ h) o = let l = listed rule h o.2 in record { of = l.of; all = l.all }

  -- it is the loaded row or one of the committed writes below the stamp
  pub below_cases : (h : History) (key : Key) (stamp : ℕ) → (below loaded h key stamp ≡ start loaded key) ⊎ (IsIn (below loaded h key stamp) (written h key) × ((below loaded h key stamp).number.n < stamp))
  below_cases h key stamp =
      ⊎_elim
      (λ e. inl e)
      (λ i. let f = filter_in (λ (v : Version). ltb v.number.n stamp) (below loaded h key stamp) (written h key) i in inr (f.0, ltb-true (below loaded h key stamp).number.n stamp f.1))
      (greatest_in (start loaded key) (filter (λ (v : Version). ltb v.number.n stamp) (written h key)))

  pub below_under : (h : History) (key : Key) (stamp : ℕ) → 1 ≤ stamp → (below loaded h key stamp).number.n < stamp
  below_under h key stamp p = ⊎_elim (λ e. subst (λ z. z.number.n < stamp) (sym e) (omega (arith, p))) (λ i. i.1) (below_cases h key stamp)

  pub below_over : (h : History) (key : Key) (stamp : ℕ) (v : Version) → IsIn v (written h key) → v.number.n < stamp → v.number.n ≤ (below loaded h key stamp).number.n
  below_over h key stamp v i l =
      not_above (below loaded h key stamp).number v.number
      (greatest_over (start loaded key) (filter (λ (w : Version). ltb w.number.n stamp) (written h key)) v (inr (in_filter (λ (w : Version). ltb w.number.n stamp) v (written h key) i (lt-ltb v.number.n stamp l))))

  -- between a version and a stamp that is greater there is nothing that a lower stamp above the version does not see
  pub below_same : (h : History) (key : Key) (s t : ℕ) → (below loaded h key t).number.n < s → s ≤ t → (below loaded h key s).number.n ≡ (below loaded h key t).number.n
  below_same h key s t l m =
      let x : (below loaded h key s).number.n ≤ (below loaded h key t).number.n = ⊎_elim (λ e. subst (λ z. z.number.n ≤ (below loaded h key t).number.n) (sym e) (omega arith)) (λ i. below_over h key t (below loaded h key s) i.0 (omega (arith, i.1, m))) (below_cases h key s) in
      let y : (below loaded h key t).number.n ≤ (below loaded h key s).number.n = ⊎_elim (λ e. subst (λ z. z.number.n ≤ (below loaded h key s).number.n) (sym e) (omega arith)) (λ i. below_over h key s (below loaded h key t) i.0 l) (below_cases h key t) in
      omega (arith, x, y)

  pub below_found : (h : History) (key : Key) (stamp : ℕ) (row : Row) → Listed loaded h → loaded key ≡ Some row → IsVersion loaded h key (below loaded h key stamp).number (below loaded h key stamp).row
  below_found h key stamp row l is =
      ⊎_elim
      (λ e. subst (λ z. IsVersion loaded h key z.number z.row) (sym e) (inl (refl, is ∙ ap (λ o. Some (row_or_empty o)) (sym is))))
      (λ i. let d = l.of key (below loaded h key stamp) i.0 in inr (d.0, d.1, d.2, d.3))
      (below_cases h key stamp)

  pub below_decided : (h : History) (key : Key) (stamp : ℕ) (d : Decided) (row : Row) → Listed loaded h → IsIn d (decided h) → Writes h d.who key row → d.number.n < stamp → d.number.n ≤ (below loaded h key stamp).number.n
  below_decided h key stamp d row l i w less =
      let v = l.all d key row i w in
      omega (arith, below_over h key stamp v.0 v.1 (omega (arith, ap (λ z. z.n) v.2, less)), ap (λ z. z.n) v.2)

-- the greatest measure is at most what each is at most
pub greatest_le : {A : Type 0} (f : A → ℕ) (m : ℕ) (xs : List A) → ((x : A) → IsIn x xs → f x ≤ m) → greatest_by f xs ≤ m
greatest_le f m [] e = omega arith
greatest_le f m (x ∷ xs) e = omega (arith, e x (inl refl), greatest_le f m xs (λ y i. e y (inr i)))
