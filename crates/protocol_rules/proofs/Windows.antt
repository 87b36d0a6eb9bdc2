-- Each call keeps the window law, whatever the rule: only a vote Yes has to bring new facts.
use Rattle.std.proofs.Common.{◌≡◌, ◌≢◌, ◌⊎◌, ℕ, ◌<◌, ◌≤◌, List, ◌∷◌, ◌++◌, map, refl, sym, ap, ◌∙◌, subst, inl, inr, ⊎_elim, arith}
use Rattle.deneva_base.specs.declared.keys.Key.{Key}
use Rattle.deneva_base.specs.declared.numbers.Attempt.{Attempt}
use Rattle.deneva_base.specs.declared.numbers.Number.{Number}
use Rattle.deneva_base.specs.declared.keys.Mode.{Mode}
use Rattle.deneva_base.specs.Lists.{IsIn}
use Rattle.deneva_base.specs.Rows.{Row, Rows}
use Rattle.deneva_base.specs.Modes.{IsReading}
use Rattle.deneva_base.specs.declared.causes.Cause.{Cause}
use Rattle.deneva_base.specs.declared.answers.Answer.{Answer}
use Rattle.deneva_base.specs.declared.answers.Answer.TheVariants.{Granted, Waits, Refused}
use Rattle.deneva_base.specs.declared.answers.Vote.TheVariants.{Yes, No}
use Rattle.deneva_base.specs.declared.answers.Wake.{Wake}
use Rattle.deneva_base.specs.declared.causes.Bound.{Bound}
use Rattle.deneva_base.specs.declared.rows.Keyed.{Keyed}
use Rattle.protocol_rules.specs.History.{Ask, Prepare, Commit, Abort, History, Grant, Yea, Decided, grant_of_wake, grants, yeas, decided, ended, closed, IsUnended, IsOpen, Writes}
use Rattle.protocol_rules.specs.Windows.{HasWindow, IsVersion, KeepsWindows}
use Rattle.protocol_rules.specs.Conditions.{MayCommit}
use Rattle.deneva_base.proofs.Membership.{in_cases, in_map_from}

-- what one more call leaves of windows, accesses, writes and versions
pub record Kept (loaded : Rows) (h h' : History) : Type 0 where
  pub shrinks : (r : Attempt) (lo hi : ℕ) → HasWindow h' r lo hi → (lo' : ℕ) × (hi' : ℕ) × HasWindow h r lo' hi' × (lo' ≤ lo) × (hi ≤ hi')
  pub old_grant : (r : Attempt) (lo hi : ℕ) (g : Grant) → HasWindow h' r lo hi → g.who ≡ r → IsIn g (grants h') → IsIn g (grants h)
  pub old_write : (u : Attempt) (lo hi : ℕ) (key : Key) (row : Row) → HasWindow h' u lo hi → Writes h' u key row → Writes h u key row
  pub version : (key : Key) (v : Number) (row : Row) → IsVersion loaded h key v row → IsVersion loaded h' key v row

pub kept_law : (loaded : Rows) (h h' : History) → Kept loaded h h' → KeepsWindows loaded h → KeepsWindows loaded h'
kept_law loaded h h' k law = record {
  positive = λ r lo hi w. let s = k.shrinks r lo hi w in omega (arith, law.positive r s.0 s.1 s.2, s.3);
  source = λ r lo hi g w i e reads.
      let s = k.shrinks r lo hi w in
      let f = law.source r s.0 s.1 g s.2 (k.old_grant r lo hi g w e i) e reads in (k.version g.key g.version g.row f.0, omega (arith, f.1, s.3));
  reads = λ r lo hi g u lo_u hi_u row w i e reads apart w_u x.
      let s = k.shrinks r lo hi w in
      let t = k.shrinks u lo_u hi_u w_u in
      ⊎_elim
      (λ (a : t.1 ≤ g.version.n). inl (omega (arith, a, t.4)))
      (λ (b : s.1 < t.0). inr (omega (arith, b, s.4, t.3)))
      (law.reads r s.0 s.1 g u t.0 t.1 row s.2 (k.old_grant r lo hi g w e i) e reads apart t.2 (k.old_write u lo_u hi_u g.key row w_u x));
  writers = λ r lo hi u lo_u hi_u key x y apart w w_u i j.
      let s = k.shrinks r lo hi w in
      let t = k.shrinks u lo_u hi_u w_u in
      ⊎_elim
      (λ (a : s.1 < t.0). inl (omega (arith, a, s.4, t.3)))
      (λ (b : t.1 < s.0). inr (omega (arith, b, s.3, t.4)))
      (law.writers r s.0 s.1 u t.0 t.1 key x y apart s.2 t.2 (k.old_write r lo hi key x w i) (k.old_write u lo_u hi_u key y w_u j));
}

-- no access of the attempt is among those woken
old_wakes : (h : History) (woken : List Wake) (g : Grant) (r : Attempt) → ((w : Wake) → IsIn w woken → w.who ≢ r) → g.who ≡ r → IsIn g (map (grant_of_wake h) woken ++ grants h) → IsIn g (grants h)
old_wakes h woken g r other e i =
    ⊎_elim
    (λ m. let w = in_map_from (grant_of_wake h) g woken m in absurd (other w.0 w.1 (sym (ap (λ x. x.who) w.2) ∙ e)))
    (λ t. t)
    (in_cases g (map (grant_of_wake h) woken) (grants h) i)

module _ (loaded : Rows) (h : History) (ends : (d : Decided) → IsIn d (decided h) → IsIn d.who (ended h)) (closes : (y : Yea) → IsIn y (yeas h) → IsIn y.who (closed h)) where
  -- an attempt with a window has ended or voted
  no_window : (r : Attempt) (lo hi : ℕ) → IsUnended h r → IsOpen h r → HasWindow h r lo hi → ⊥
  no_window r lo hi unended opened w =
      ⊎_elim
      (λ c. unended (subst (λ a. IsIn a (ended h)) c.1 (ends c.0 c.2)))
      (λ c. opened (subst (λ a. IsIn a (closed h)) c.1 (closes c.0 c.2)))
      w

  -- the calls that leave windows as they were
  pub ask_kept : (who : Attempt) (stamp : ℕ) (key : Key) (mode : Mode) (answer : Answer) → IsUnended h who → IsOpen h who → Kept loaded h (Ask who stamp key mode answer ∷ h)
  ask_kept who stamp key mode answer unended opened = record {
    shrinks = λ r lo hi w. (lo, hi, w, omega arith, omega arith);
    old_grant = λ r lo hi g w e gin. old answer r lo hi g w e gin;
    old_write = λ u lo hi k row w x. x;
    version = λ k v row x. x;
  }
    where
      old : (answer : Answer) (r : Attempt) (lo hi : ℕ) (g : Grant) → HasWindow h r lo hi → g.who ≡ r → IsIn g (grants (Ask who stamp key mode answer ∷ h)) → IsIn g (grants h)
      old Waits r lo hi g w e gin = gin
      old (Refused cause) r lo hi g w e gin = gin
      old (Granted row version bound) r lo hi g w e gin =
          ⊎_elim
          (λ (same : g ≡ record { who = who; stamp = stamp; key = key; mode = mode; row = row; version = version }).
          absurd (no_window who lo hi unended opened (subst (λ a. HasWindow h a lo hi) (sym e ∙ ap (λ x. x.who) same) w)))
          (λ t. t)
          gin

  pub commit_kept : (who : Attempt) (number : Number) (woken : List Wake) → MayCommit h who number → ((w : Wake) → IsIn w woken → IsUnended h w.who × IsOpen h w.who) → Kept loaded h (Commit who number woken ∷ h)
  commit_kept who number woken may idle = record {
    shrinks = shrinks;
    old_grant = λ r lo hi g w e gin.
        let s = shrinks r lo hi w in
        old_wakes h woken g r (λ v i same. no_window v.who s.0 s.1 (idle v i).0 (idle v i).1 (subst (λ a. HasWindow h a s.0 s.1) (sym same) s.2)) e gin;
    old_write = λ u lo hi k row w x. x;
    version = λ k v row x. ⊎_elim (λ l. inl l) (λ d. inr (d.0, inr d.1, d.2, d.3)) x;
  }
    where
      shrinks : (r : Attempt) (lo hi : ℕ) → HasWindow (Commit who number woken ∷ h) r lo hi → (lo' : ℕ) × (hi' : ℕ) × HasWindow h r lo' hi' × (lo' ≤ lo) × (hi ≤ hi')
      shrinks r lo hi w =
          ⊎_elim
          (λ c. ⊎_elim
          (λ (new : c.0 ≡ record { who = who; number = number }).
          let y = may.inside in
          let is : y.0.who ≡ r = y.2 ∙ sym (ap (λ x. x.who) new) ∙ c.1 in
          let n : c.0.number.n ≡ number.n = ap (λ x. x.number.n) new in
          (y.0.lo, y.0.hi, inr (y.0, is, y.1, subst (λ a. IsIn a (ended h) → ⊥) (sym (ap (λ x. x.who) new) ∙ c.1) may.unended, refl, refl), omega (arith, c.3, y.3), omega (arith, c.4, y.4)))
          (λ old. (lo, hi, inl (c.0, c.1, old, c.3, c.4), omega arith, omega arith))
          c.2)
          (λ c. (lo, hi, inr (c.0, c.1, c.2, (λ e. c.3 (inr e)), c.4, c.5), omega arith, omega arith))
          w

  pub abort_kept : (who : Attempt) (woken : List Wake) → ((w : Wake) → IsIn w woken → IsUnended h w.who × IsOpen h w.who) → Kept loaded h (Abort who woken ∷ h)
  abort_kept who woken idle = record {
    shrinks = λ r lo hi w. (lo, hi, old r lo hi w, omega arith, omega arith);
    old_grant = λ r lo hi g w e gin.
        old_wakes h woken g r (λ v i same. no_window v.who lo hi (idle v i).0 (idle v i).1 (subst (λ a. HasWindow h a lo hi) (sym same) (old r lo hi w))) e gin;
    old_write = λ u lo hi k row w x. x;
    version = λ k v row x. x;
  }
    where
      old : (r : Attempt) (lo hi : ℕ) → HasWindow (Abort who woken ∷ h) r lo hi → HasWindow h r lo hi
      old r lo hi w = ⊎_elim (λ c. inl c) (λ c. inr (c.0, c.1, c.2, (λ e. c.3 (inr e)), c.4, c.5)) w

pub no_kept : (loaded : Rows) (h : History) (who : Attempt) (bound : Bound) (writes appends : List Keyed) (cause : Cause) → Kept loaded h (Prepare who bound writes appends (No cause) ∷ h)
no_kept loaded h who bound writes appends cause = record {
  shrinks = λ r lo hi w. (lo, hi, w, omega arith, omega arith);
  old_grant = λ r lo hi g w e gin. gin;
  old_write = λ u lo hi k row w x. x;
  version = λ k v row x. x;
}

-- what a vote Yes brings
pub record Fresh (loaded : Rows) (h : History) (who : Attempt) (writes : List Keyed) (lo hi : ℕ) : Type 0 where
  pub positive : 1 ≤ lo
  pub version : (g : Grant) → IsIn g (grants h) → g.who ≡ who → IsReading g.mode → IsVersion loaded h g.key g.version g.row
  pub above : (g : Grant) → IsIn g (grants h) → g.who ≡ who → IsReading g.mode → g.version.n < lo
  pub reads : (g : Grant) (u : Attempt) (lo_u hi_u : ℕ) (row : Row) → IsIn g (grants h) → g.who ≡ who → IsReading g.mode → u ≢ who → HasWindow h u lo_u hi_u → Writes h u g.key row → (hi_u ≤ g.version.n) ⊎ (hi < lo_u)
  pub written : (g : Grant) (r : Attempt) (lo_r hi_r : ℕ) (w : Keyed) → IsIn g (grants h) → g.who ≡ r → IsReading g.mode → r ≢ who → HasWindow h r lo_r hi_r → IsIn w writes → w.key ≡ g.key → (hi ≤ g.version.n) ⊎ (hi_r < lo)
  pub writers : (u : Attempt) (lo_u hi_u : ℕ) (w : Keyed) (row : Row) → u ≢ who → HasWindow h u lo_u hi_u → IsIn w writes → Writes h u w.key row → (hi_u < lo) ⊎ (hi < lo_u)

module _ (loaded : Rows) (h : History) (who : Attempt) (bound : Bound) (writes appends : List Keyed) (lo hi : ℕ) (unended : IsUnended h who) (opened : IsOpen h who) (ends : (d : Decided) → IsIn d (decided h) → IsIn d.who (ended h)) (closes : (y : Yea) → IsIn y (yeas h) → IsIn y.who (closed h)) where
  window_cases : (r : Attempt) (lo_r hi_r : ℕ) → HasWindow (Prepare who bound writes appends (Yes lo hi) ∷ h) r lo_r hi_r → (HasWindow h r lo_r hi_r × (r ≢ who)) ⊎ ((r ≡ who) × (lo_r ≡ lo) × (hi_r ≡ hi))
  window_cases r lo_r hi_r w =
      ⊎_elim
      (λ c. inl (inl c, (λ e. unended (subst (λ a. IsIn a (ended h)) (c.1 ∙ e) (ends c.0 c.2)))))
      (λ c. ⊎_elim
      (λ (new : c.0 ≡ record { who = who; lo = lo; hi = hi; writes = writes; appends = appends }).
      inr (sym c.1 ∙ ap (λ x. x.who) new, c.4 ∙ ap (λ x. x.lo) new, c.5 ∙ ap (λ x. x.hi) new))
      (λ old. inl (inr (c.0, c.1, old, c.3, c.4, c.5), (λ e. opened (subst (λ a. IsIn a (closed h)) (c.1 ∙ e) (closes c.0 old)))))
      c.2)
      w

  write_cases : (u : Attempt) (key : Key) (row : Row) → Writes (Prepare who bound writes appends (Yes lo hi) ∷ h) u key row → (Writes h u key row × (u ≢ who)) ⊎ ((u ≡ who) × IsIn (record { key = key; row = row }) writes)
  write_cases u key row x =
      ⊎_elim
      (λ (new : x.0 ≡ record { who = who; lo = lo; hi = hi; writes = writes; appends = appends }).
      inr (sym x.1 ∙ ap (λ y. y.who) new, subst (λ ws. IsIn (record { key = key; row = row }) ws) (ap (λ y. y.writes) new) x.3))
      (λ old. inl ((x.0, x.1, old, x.3), (λ e. opened (subst (λ a. IsIn a (closed h)) (x.1 ∙ e) (closes x.0 old)))))
      x.2

  more_version : (key : Key) (v : Number) (row : Row) → IsVersion loaded h key v row → IsVersion loaded (Prepare who bound writes appends (Yes lo hi) ∷ h) key v row
  more_version key v row x = ⊎_elim (λ l. inl l) (λ d. inr (d.0, d.1, d.2, (d.3.0, d.3.1, inr d.3.2, d.3.3))) x

  pub yes_law : Fresh loaded h who writes lo hi → KeepsWindows loaded h → KeepsWindows loaded (Prepare who bound writes appends (Yes lo hi) ∷ h)
  yes_law fresh law = record {
    positive = λ r lo_r hi_r w. ⊎_elim (λ o. law.positive r lo_r hi_r o.0) (λ n. omega (arith, fresh.positive, n.1)) (window_cases r lo_r hi_r w);
    source = λ r lo_r hi_r g w gin e is_read.
        ⊎_elim
        (λ o. let f = law.source r lo_r hi_r g o.0 gin e is_read in (more_version g.key g.version g.row f.0, f.1))
        (λ n. (more_version g.key g.version g.row (fresh.version g gin (e ∙ n.0) is_read), omega (arith, fresh.above g gin (e ∙ n.0) is_read, n.1)))
        (window_cases r lo_r hi_r w);
    reads = λ r lo_r hi_r g u lo_u hi_u row w gin e is_read apart w_u x.
        ⊎_elim
        (λ (o : HasWindow h r lo_r hi_r × (r ≢ who)).
        ⊎_elim
        (λ (ow : HasWindow h u lo_u hi_u × (u ≢ who)). ⊎_elim (λ (ox : Writes h u g.key row × (u ≢ who)). law.reads r lo_r hi_r g u lo_u hi_u row o.0 gin e is_read apart ow.0 ox.0) (λ nx. absurd (ow.1 nx.0)) (write_cases u g.key row x))
        (λ (nw : (u ≡ who) × (lo_u ≡ lo) × (hi_u ≡ hi)).
        ⊎_elim
        (λ ox. absurd (ox.1 nw.0))
        (λ (nx : (u ≡ who) × IsIn (record { key = g.key; row = row }) writes).
        ⊎_elim
        (λ (a : hi ≤ g.version.n). inl (omega (arith, a, nw.2)))
        (λ (b : hi_r < lo). inr (omega (arith, b, nw.1)))
        (fresh.written g r lo_r hi_r (record { key = g.key; row = row }) gin e is_read o.1 o.0 nx.1 refl))
        (write_cases u g.key row x))
        (window_cases u lo_u hi_u w_u))
        (λ (n : (r ≡ who) × (lo_r ≡ lo) × (hi_r ≡ hi)).
        let other : u ≢ who = λ is. apart (is ∙ sym n.0) in
        ⊎_elim
        (λ (ow : HasWindow h u lo_u hi_u × (u ≢ who)).
        ⊎_elim
        (λ (ox : Writes h u g.key row × (u ≢ who)).
        ⊎_elim
        (λ (a : hi_u ≤ g.version.n). inl a)
        (λ (b : hi < lo_u). inr (omega (arith, b, n.2)))
        (fresh.reads g u lo_u hi_u row gin (e ∙ n.0) is_read other ow.0 ox.0))
        (λ nx. absurd (other nx.0))
        (write_cases u g.key row x))
        (λ nw. absurd (other nw.0))
        (window_cases u lo_u hi_u w_u))
        (window_cases r lo_r hi_r w);
    writers = λ r lo_r hi_r u lo_u hi_u key x y apart w w_u i j.
        ⊎_elim
        (λ (o : HasWindow h r lo_r hi_r × (r ≢ who)).
        ⊎_elim
        (λ (oi : Writes h r key x × (r ≢ who)).
        ⊎_elim
        (λ (ow : HasWindow h u lo_u hi_u × (u ≢ who)). ⊎_elim (λ (oj : Writes h u key y × (u ≢ who)). law.writers r lo_r hi_r u lo_u hi_u key x y apart o.0 ow.0 oi.0 oj.0) (λ nj. absurd (ow.1 nj.0)) (write_cases u key y j))
        (λ (nw : (u ≡ who) × (lo_u ≡ lo) × (hi_u ≡ hi)).
        ⊎_elim
        (λ oj. absurd (oj.1 nw.0))
        (λ (nj : (u ≡ who) × IsIn (record { key = key; row = y }) writes).
        ⊎_elim
        (λ (a : hi_r < lo). inl (omega (arith, a, nw.1)))
        (λ (b : hi < lo_r). inr (omega (arith, b, nw.2)))
        (fresh.writers r lo_r hi_r (record { key = key; row = y }) x o.1 o.0 nj.1 oi.0))
        (write_cases u key y j))
        (window_cases u lo_u hi_u w_u))
        (λ ni. absurd (o.1 ni.0))
        (write_cases r key x i))
        (λ (n : (r ≡ who) × (lo_r ≡ lo) × (hi_r ≡ hi)).
        let other : u ≢ who = λ is. apart (n.0 ∙ sym is) in
        ⊎_elim
        (λ oi. absurd (oi.1 n.0))
        (λ (ni : (r ≡ who) × IsIn (record { key = key; row = x }) writes).
        ⊎_elim
        (λ (ow : HasWindow h u lo_u hi_u × (u ≢ who)).
        ⊎_elim
        (λ (oj : Writes h u key y × (u ≢ who)).
        ⊎_elim
        (λ (a : hi_u < lo). inr (omega (arith, a, n.1)))
        (λ (b : hi < lo_u). inl (omega (arith, b, n.2)))
        (fresh.writers u lo_u hi_u (record { key = key; row = x }) y other ow.0 ni.1 oj.0))
        (λ nj. absurd (other nj.0))
        (write_cases u key y j))
        (λ nw. absurd (other nw.0))
        (window_cases u lo_u hi_u w_u))
        (write_cases r key x i))
        (window_cases r lo_r hi_r w);
  }
