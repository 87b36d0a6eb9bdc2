-- What holds of votes, commits and versions in every history whose calls met their conditions, whatever the rule.
use Rattle.std.proofs.Common.{◌≡◌, ◌⊎◌, ℕ, ◌≤◌, List, [], ◌∷◌, map, Bool, true, false, cond, refl, sym, ap, ◌∙◌, subst, inl, inr, ⊎_elim, arith, Option, Some, None}
use Rattle.std.proofs.lemmas.Bool.Decides.{nat_tests}
use Rattle.deneva_base.specs.declared.keys.Key.{Key}
use Rattle.deneva_base.specs.declared.numbers.Attempt.{Attempt}
use Rattle.deneva_base.specs.declared.numbers.Number.{Number}
use Rattle.deneva_base.specs.Lists.{IsIn}
use Rattle.deneva_base.specs.Rows.{Row, Rows, row_or_empty}
use Rattle.deneva_base.specs.Modes.{IsWriting}
use Rattle.deneva_base.specs.Keys.{number_lt}
use Rattle.deneva_base.specs.declared.answers.Vote.{Vote}
use Rattle.deneva_base.specs.declared.answers.Vote.TheVariants.{Yes, No}
use Rattle.deneva_base.specs.declared.answers.Wake.{Wake}
use Rattle.deneva_base.specs.declared.causes.Bound.{Bound}
use Rattle.deneva_base.specs.declared.rows.Keyed.{Keyed}
use Rattle.protocol_rules.specs.History.{Call, Ask, Prepare, Commit, Abort, History, Grant, Yea, Decided, grants, grant_of_wake, granted, yeas, decided, ended, closed, Writes}
use Rattle.protocol_rules.specs.Windows.{IsVersion}
use Rattle.protocol_rules.specs.Conditions.{MayPrepare, MayCall}
use Rattle.protocol_rules.specs.Rules.{Rule, Obeys}
use Rattle.protocol_rules.specs.Latest.{Version, newer, latest, row_for, writes_in}
use Rattle.deneva_base.proofs.Membership.{in_right, key_tells, attempt_tells}

pub row_found : (key : Key) (ws : List Keyed) (row : Row) → row_for key ws ≡ Some row → IsIn (record { key = key; row = row }) ws
row_found key [] row h = absurd (cc)
row_found key (w ∷ ws) row h = grind (arith, key_tells w.key key, row_found key ws row)

pub row_some : (key : Key) (ws : List Keyed) (w : Keyed) → IsIn w ws → w.key ≡ key → (row : Row) × (row_for key ws ≡ Some row)
row_some key [] w i e = absurd i
row_some key (x ∷ ws) w i e =
    ⊎_elim
    (λ t. (x.row, rw t.0))
    (λ f. let n = row_some key ws w (⊎_elim (λ same. absurd (f.1 (sym (ap (λ k. k.key) same) ∙ e))) (λ r. r) i) e in (n.0, rw f.0 n.1))
    (key_tells x.key key)

pub writes_found : (ys : List Yea) (who : Attempt) (w : Keyed) → IsIn w (writes_in ys who) → (y : Yea) × (y.who ≡ who) × IsIn y ys × IsIn w y.writes
writes_found [] who w h = absurd h
writes_found (y ∷ ys) who w h =
    ⊎_elim
    (λ t. (y, t.1, inl refl, rw t.0 at h))
    (λ f. let n = writes_found ys who w (rw f.0 at h) in (n.0, n.1, inr n.2, n.3))
    (attempt_tells y.who who)

pub writes_are : (ys : List Yea) (y : Yea) → ((a b : Yea) → IsIn a ys → IsIn b ys → a.who ≡ b.who → a ≡ b) → IsIn y ys → writes_in ys y.who ≡ y.writes
writes_are [] y one i = absurd i
writes_are (x ∷ ys) y one i = grind (arith, attempt_tells x.who y.who, writes_are ys y, one x y)

pub newer_cases : (old : Version) (number : Number) (r : Option Row) → (newer old number r ≡ old) ⊎ ((row : Row) × (r ≡ Some row) × (newer old number r ≡ record { number = number; row = row }))
newer_cases old number None = inl refl
newer_cases old number (Some row) = go (number_lt old.number number)
  where
    go : (b : Bool) → (cond b (record { number = number; row = row }) old ≡ old) ⊎ ((r : Row) × (Some row ≡ Some r) × (cond b (record { number = number; row = row }) old ≡ record { number = number; row = r }))
    go true = inr (row, refl, refl)
    go false = inl refl

pub newer_old : (old : Version) (number : Number) (r : Option Row) → old.number.n ≤ (newer old number r).number.n
newer_old old number None = omega arith
newer_old old number (Some row) = grind (arith, nat_tests)

pub newer_new : (old : Version) (number : Number) (row : Row) → number.n ≤ (newer old number (Some row)).number.n
newer_new old number row = grind (arith, nat_tests)

pub record Sound (loaded : Rows) (h : History) : Type 0 where
  pub ends : (d : Decided) → IsIn d (decided h) → IsIn d.who (ended h)
  pub closes : (y : Yea) → IsIn y (yeas h) → IsIn y.who (closed h)
  pub one : (a b : Yea) → IsIn a (yeas h) → IsIn b (yeas h) → a.who ≡ b.who → a ≡ b
  pub holds : (y : Yea) (w : Keyed) → IsIn y (yeas h) → IsIn w y.writes → (g : Grant) × IsIn g (grants h) × (g.who ≡ y.who) × (g.key ≡ w.key) × IsWriting g.mode
  pub found : (key : Key) (row : Row) → loaded key ≡ Some row → IsVersion loaded h key (latest loaded h key).number (latest loaded h key).row
  pub top : (d : Decided) (key : Key) (row : Row) → IsIn d (decided h) → Writes h d.who key row → d.number.n ≤ (latest loaded h key).number.n

module _ (loaded : Rows) where
  -- an Ask, an Abort and a No leave the two lists alone, and a Commit the votes
  quiet : (h h' : History) → ((y : Yea) → IsIn y (yeas h') → IsIn y (yeas h)) → ((d : Decided) → IsIn d (decided h') → IsIn d (decided h)) → ((k : Key) → latest loaded h' k ≡ latest loaded h k) → ((g : Grant) → IsIn g (grants h) → IsIn g (grants h')) → ((a : Attempt) → IsIn a (ended h) → IsIn a (ended h')) → ((a : Attempt) → IsIn a (closed h) → IsIn a (closed h')) → ((y : Yea) → IsIn y (yeas h) → IsIn y (yeas h')) → ((d : Decided) → IsIn d (decided h) → IsIn d (decided h')) → Sound loaded h → Sound loaded h'
  quiet h h' less_y less_d same more_g more_e more_c more_y more_d s = record {
    ends = λ d i. more_e d.who (s.ends d (less_d d i));
    closes = λ y i. more_c y.who (s.closes y (less_y y i));
    one = λ a b i j e. s.one a b (less_y a i) (less_y b j) e;
    holds = λ y w i j. let g = s.holds y w (less_y y i) j in (g.0, more_g g.0 g.1, g.2, g.3, g.4);
    found = λ key row is. subst (λ v. IsVersion loaded h' key v.number v.row) (sym (same key)) (⊎_elim (λ l. inl l) (λ d. inr (d.0, more_d d.0 d.1, d.2, (d.3.0, d.3.1, more_y d.3.0 d.3.2, d.3.3))) (s.found key row is));
    top = λ d key row i w. subst (λ v. d.number.n ≤ v.number.n) (sym (same key)) (s.top d key row (less_d d i) (w.0, w.1, less_y w.0 w.2, w.3));
  }

  sound_commit : (h : History) (who : Attempt) (number : Number) (woken : List Wake) → Sound loaded h → Sound loaded (Commit who number woken ∷ h)
  sound_commit h who number woken s = record {
    ends = λ d i. ⊎_elim (λ (e : d ≡ record { who = who; number = number }). inl (ap (λ x. x.who) e)) (λ t. inr (s.ends d t)) i;
    closes = s.closes;
    one = s.one;
    holds = λ y w i j. let g = s.holds y w i j in (g.0, in_right g.0 (map (grant_of_wake h) woken) (grants h) g.1, g.2, g.3, g.4);
    found = λ key row is.
        let old = latest loaded h key in
        ⊎_elim
        (λ e. subst (λ v. IsVersion loaded (Commit who number woken ∷ h) key v.number v.row) (sym e) (⊎_elim (λ l. inl l) (λ d. inr (d.0, inr d.1, d.2, d.3)) (s.found key row is)))
        (λ n. subst (λ v. IsVersion loaded (Commit who number woken ∷ h) key v.number v.row) (sym n.2)
        (inr (record { who = who; number = number }, inl refl, refl, writes_found (yeas h) who (record { key = key; row = n.0 }) (row_found key (writes_in (yeas h) who) n.0 n.1))))
        (newer_cases old number (row_for key (writes_in (yeas h) who)));
    top = λ d key row i w.
        ⊎_elim
        (λ (e : d ≡ record { who = who; number = number }).
        let e1 : writes_in (yeas h) who ≡ w.0.writes = subst (λ a. writes_in (yeas h) a ≡ w.0.writes) (w.1 ∙ ap (λ x. x.who) e) (writes_are (yeas h) w.0 s.one w.2) in
        let rs = row_some key w.0.writes (record { key = key; row = row }) w.3 refl in
        let e2 : row_for key (writes_in (yeas h) who) ≡ Some rs.0 = ap (row_for key) e1 ∙ rs.1 in
        rw e2 (omega (arith, newer_new (latest loaded h key) number rs.0, ap (λ x. x.number.n) e)))
        (λ t. omega (arith, s.top d key row t w, newer_old (latest loaded h key) number (row_for key (writes_in (yeas h) who))))
        i;
  }

  sound_yes : (h : History) (who : Attempt) (bound : Bound) (writes appends : List Keyed) (lo hi : ℕ) → MayPrepare h who bound writes appends → Sound loaded h → Sound loaded (Prepare who bound writes appends (Yes lo hi) ∷ h)
  sound_yes h who bound writes appends lo hi may s = record {
    ends = s.ends;
    closes = λ y i. ⊎_elim (λ (e : y ≡ record { who = who; lo = lo; hi = hi; writes = writes; appends = appends }). inl (ap (λ x. x.who) e)) (λ t. inr (s.closes y t)) i;
    one = λ a b i j e.
        ⊎_elim
        (λ (x : a ≡ record { who = who; lo = lo; hi = hi; writes = writes; appends = appends }).
        ⊎_elim
        (λ y. x ∙ sym y)
        (λ t. absurd (may.opened (subst (λ z. IsIn z (closed h)) (sym e ∙ ap (λ z. z.who) x) (s.closes b t))))
        j)
        (λ t. ⊎_elim
        (λ (y : b ≡ record { who = who; lo = lo; hi = hi; writes = writes; appends = appends }). absurd (may.opened (subst (λ z. IsIn z (closed h)) (e ∙ ap (λ z. z.who) y) (s.closes a t))))
        (λ u. s.one a b t u e)
        j)
        i;
    holds = λ y w i j.
        ⊎_elim
        (λ (x : y ≡ record { who = who; lo = lo; hi = hi; writes = writes; appends = appends }).
        let g = may.held w (subst (λ z. IsIn w z.writes) x j) in
        (g.0, g.1, g.2 ∙ sym (ap (λ z. z.who) x), g.3, g.4))
        (λ t. s.holds y w t j)
        i;
    found = λ key row is. ⊎_elim (λ l. inl l) (λ d. inr (d.0, d.1, d.2, (d.3.0, d.3.1, inr d.3.2, d.3.3))) (s.found key row is);
    top = λ d key row i w.
        ⊎_elim
        (λ (x : w.0 ≡ record { who = who; lo = lo; hi = hi; writes = writes; appends = appends }).
        absurd (may.unended (subst (λ z. IsIn z (ended h)) (sym w.1 ∙ ap (λ z. z.who) x) (s.ends d i))))
        (λ t. s.top d key row i (w.0, w.1, t, w.3))
        w.2;
  }

  sound_vote : (h : History) (who : Attempt) (bound : Bound) (writes appends : List Keyed) (vote : Vote) → MayPrepare h who bound writes appends → Sound loaded h → Sound loaded (Prepare who bound writes appends vote ∷ h)
  sound_vote h who bound writes appends (Yes lo hi) may s = sound_yes h who bound writes appends lo hi may s
  sound_vote h who bound writes appends (No cause) may s = quiet h (Prepare who bound writes appends (No cause) ∷ h) (λ y i. i) (λ d i. i) (λ k. refl) (λ g i. i) (λ a i. i) (λ a i. inr i) (λ y i. i) (λ d i. i) s

  sound_start : Sound loaded []
  sound_start = record {
    ends = λ d i. absurd i;
    closes = λ y i. absurd i;
    one = λ a b i j e. absurd i;
    holds = λ y w i j. absurd i;
    found = λ key row is. inl (refl, is ∙ ap (λ o. Some (row_or_empty o)) (sym is));
    top = λ d key row i w. absurd i;
  }

  pub sound_more : (h : History) (c : Call) → MayCall loaded h c → Sound loaded h → Sound loaded (c ∷ h)
  sound_more h (Ask who stamp key mode answer) may s = quiet h (Ask who stamp key mode answer ∷ h) (λ y i. i) (λ d i. i) (λ k. refl) (λ g i. in_right g (granted who stamp key mode answer) (grants h) i) (λ a i. i) (λ a i. i) (λ y i. i) (λ d i. i) s
  sound_more h (Prepare who bound writes appends vote) may s = sound_vote h who bound writes appends vote may s
  sound_more h (Commit who number woken) may s = sound_commit h who number woken s
  sound_more h (Abort who woken) may s = quiet h (Abort who woken ∷ h) (λ y i. i) (λ d i. i) (λ k. refl) (λ g i. in_right g (map (grant_of_wake h) woken) (grants h) i) (λ a i. inr i) (λ a i. i) (λ y i. i) (λ d i. i) s

  pub sound : (rule : Rule) (h : History) → Obeys loaded rule h → Sound loaded h
  sound rule [] o = sound_start
  sound rule (c ∷ h) o = sound_more h c o.0 (sound rule h o.2)
