-- Locks: where no two unended attempts hold conflicting accesses and what they hold is the latest, the lock vote keeps the window law.
use Rattle.std.proofs.Common.{◌≡◌, ◌≢◌, ◌⊎◌, ℕ, ◌+◌, ◌^◌, ◌≤◌, List, [], ◌∷◌, true, not, ◌&&◌, ◌||◌, refl, sym, ap, ◌∙◌, subst, inl, inr, ⊎_elim, arith, Some, true≢false, Decides}
use Rattle.std.specs.List.{list_any}
use Rattle.std.proofs.lemmas.Bool.Decides.{Decides-and, Decides-not}
use Rattle.deneva_base.specs.declared.keys.Key.{Key}
use Rattle.deneva_base.specs.declared.numbers.Attempt.{Attempt}
use Rattle.deneva_base.specs.declared.numbers.Number.{Number}
use Rattle.deneva_base.specs.declared.keys.Mode.{Mode}
use Rattle.deneva_base.specs.declared.keys.Mode.TheVariants.{Read, Update, Put}
use Rattle.deneva_base.specs.Lists.{IsIn}
use Rattle.deneva_base.specs.Rows.{Row, Rows}
use Rattle.deneva_base.specs.Keys.{attempt_eq, key_eq}
use Rattle.deneva_base.specs.Modes.{IsReading, IsWriting, writes}
use Rattle.deneva_base.specs.declared.answers.Answer.TheVariants.{Granted}
use Rattle.deneva_base.specs.declared.causes.Bound.{Bound}
use Rattle.deneva_base.specs.declared.rows.Keyed.{Keyed}
use Rattle.protocol_rules.specs.History.{Ask, Commit, Abort, History, Asked, Grant, Yea, Decided, grants, yeas, decided, ended, IsUnended, Conflict, Clash, Writes}
use Rattle.protocol_rules.specs.Windows.{IsVersion}
use Rattle.protocol_rules.specs.Conditions.{MayPrepare}
use Rattle.protocol_rules.specs.Latest.{newer, latest, row_for, writes_in, has_ended, seen}
use Rattle.protocol_rules.specs.Locks.{conflicts, clash, owners, blockers, met, greatest_met}
use Rattle.deneva_base.proofs.Membership.{in_filter, filter_in, any_at, and_true, attempt_decides, key_decides}
use Rattle.protocol_rules.proofs.Unended.{not_ended, is_unended}
use Rattle.protocol_rules.proofs.Windows.{Fresh}
use Rattle.protocol_rules.proofs.Sound.{Sound, row_found, writes_found, newer_cases}
use Rattle.protocol_rules.proofs.Known.{Known}
use Rattle.protocol_rules.proofs.Traced.{Traced}

modes_decide : (m k : Mode) → Decides (writes m || writes k) (((m ≡ Read) × (k ≡ Read)) → ⊥)
modes_decide Read Read = ((λ e. absurd (true≢false (sym e))), (λ f. absurd (f (refl, refl))))
modes_decide Read Update = ((λ e f. absurd (cc (f.1))), (λ f. refl))
modes_decide Read Put = ((λ e f. absurd (cc (f.1))), (λ f. refl))
modes_decide Update k = ((λ e f. absurd (cc (f.0))), (λ f. refl))
modes_decide Put k = ((λ e f. absurd (cc (f.0))), (λ f. refl))

pub conflict_decides : (who : Attempt) (key : Key) (mode : Mode) (by : Attempt) (k : Key) (m : Mode) → Decides (conflicts who key mode by k m) (Conflict who key mode by k m)
conflict_decides who key mode by k m =
    let d =
    Decides-and (key_eq key k) (not (attempt_eq who by) && (writes mode || writes m)) (key_decides key k)
    (Decides-and (not (attempt_eq who by)) (writes mode || writes m) (Decides-not (attempt_eq who by) (attempt_decides who by)) (modes_decide mode m)) in
    ((λ t. let x = d.0 t in (x.0, x.1.0, x.1.1)), (λ c. d.1 (c.0, (c.1, c.2))))

pub conflict_sym : (who : Attempt) (key : Key) (mode : Mode) (by : Attempt) (k : Key) (m : Mode) → Conflict who key mode by k m → Conflict by k m who key mode
conflict_sym who key mode by k m c = (sym c.0, (λ e. c.1 (sym e)), (λ r. c.2 (r.1, r.0)))

-- an access that writes conflicts with each of another attempt to its key
pub write_conflict : (who : Attempt) (key : Key) (mode : Mode) (by : Attempt) (k : Key) (m : Mode) → key ≡ k → who ≢ by → IsWriting mode → Conflict who key mode by k m
write_conflict who key mode by k m e n w = (e, n, (λ r. w r.0))

pub owner_in : (h : History) (g : Grant) → IsIn g (grants h) → IsUnended h g.who → IsIn g (owners h)
owner_in h g i u = in_filter (λ x. not (has_ended h x.who)) g (grants h) i (not_ended h g.who u)

pub in_owners : (h : History) (g : Grant) → IsIn g (owners h) → IsIn g (grants h) × IsUnended h g.who
in_owners h g i = let f = filter_in (λ x. not (has_ended h x.who)) g (grants h) i in (f.0, is_unended h g.who f.1)

pub blocker_in : (h : History) (a : Asked) (g : Grant) → IsIn g (grants h) → IsUnended h g.who → Conflict g.who g.key g.mode a.who a.key a.mode → IsIn g (blockers h a)
blocker_in h a g i u c = in_filter (λ x. conflicts x.who x.key x.mode a.who a.key a.mode) g (owners h) (owner_in h g i u) ((conflict_decides g.who g.key g.mode a.who a.key a.mode).1 c)

pub in_blockers : (h : History) (a : Asked) (g : Grant) → IsIn g (blockers h a) → IsIn g (grants h) × IsUnended h g.who × Conflict g.who g.key g.mode a.who a.key a.mode
in_blockers h a g i =
    let f = filter_in (λ x. conflicts x.who x.key x.mode a.who a.key a.mode) g (owners h) i in
    let o = in_owners h g f.0 in (o.0, o.1, (conflict_decides g.who g.key g.mode a.who a.key a.mode).0 f.1)

-- where nothing blocks, no held access conflicts
pub free : (h : History) (a : Asked) (g : Grant) → blockers h a ≡ [] → IsIn g (grants h) → IsUnended h g.who → Conflict g.who g.key g.mode a.who a.key a.mode → ⊥
free h a g none i u c = subst (λ l. IsIn g l) none (blocker_in h a g i u c)

-- the vote stands above each committed attempt that it met
pub floor_top : (h : History) (who : Attempt) (ds : List Decided) (d : Decided) → IsIn d ds → met h who d ≡ true → d.number.n ≤ greatest_met h who ds
floor_top h who [] d i m = absurd i
floor_top h who (x ∷ ds) d i m =
    ⊎_elim
    (λ (e : d ≡ x). let t : met h who x ≡ true = subst (λ z. met h who z ≡ true) e m in rw t (omega (arith, ap (λ z. z.number.n) e)))
    (λ r. omega (arith, floor_top h who ds d r m))
    i

pub met_true : (h : History) (who : Attempt) (d : Decided) (mine other : Grant) → IsIn mine (grants h) → mine.who ≡ who → IsIn other (grants h) → other.who ≡ d.who → Clash other mine → met h who d ≡ true
met_true h who d mine other i e j f c =
    any_at (λ (m : Grant). attempt_eq m.who who && list_any (λ (o : Grant). attempt_eq o.who d.who && clash o m) (grants h)) mine (grants h) i
    (and_true (attempt_eq mine.who who) (list_any (λ (o : Grant). attempt_eq o.who d.who && clash o mine) (grants h)) ((attempt_decides mine.who who).1 e)
    (any_at (λ (o : Grant). attempt_eq o.who d.who && clash o mine) other (grants h) j
    (and_true (attempt_eq other.who d.who) (clash other mine) ((attempt_decides other.who d.who).1 f) ((conflict_decides other.who other.key other.mode mine.who mine.key mine.mode).1 c))))

-- no two unended attempts hold conflicting accesses, and what they read is the latest
pub record Locked (loaded : Rows) (h : History) : Type 0 where
  pub apart : (a b : Grant) → IsIn a (grants h) → IsIn b (grants h) → Clash a b → IsUnended h a.who → IsUnended h b.who → ⊥
  pub current : (g : Grant) → IsIn g (grants h) → IsReading g.mode → IsUnended h g.who → latest loaded h g.key ≡ record { number = g.version; row = g.row }

-- what new owners have to bring
pub record Owners (loaded : Rows) (h : History) (ns : List Grant) : Type 0 where
  pub apart : (a b : Grant) → IsIn a ns → IsIn b ns → Clash a b → ⊥
  pub free : (a b : Grant) → IsIn a ns → IsIn b (grants h) → IsUnended h b.who → Clash b a → ⊥
  pub current : (g : Grant) → IsIn g ns → IsReading g.mode → latest loaded h g.key ≡ record { number = g.version; row = g.row }

module _ (loaded : Rows) where
  pub locked_add : (h h' : History) (ns : List Grant) → ((g : Grant) → IsIn g (grants h') → IsIn g ns ⊎ IsIn g (grants h)) → ((x : Attempt) → IsUnended h' x → IsUnended h x) → ((k : Key) → latest loaded h' k ≡ latest loaded h k) → Owners loaded h ns → Locked loaded h → Locked loaded h'
  locked_add h h' ns cases less same new l = record {
    apart = λ a b i j c u v.
        ⊎_elim
        (λ x. ⊎_elim (λ y. new.apart a b x y c) (λ y. new.free a b x y (less b.who v) (conflict_sym a.who a.key a.mode b.who b.key b.mode c)) (cases b j))
        (λ x. ⊎_elim (λ y. new.free b a y x (less a.who u) c) (λ y. l.apart a b x y c (less a.who u) (less b.who v)) (cases b j))
        (cases a i);
    current = λ g i r u. same g.key ∙ ⊎_elim (λ x. new.current g x r) (λ x. l.current g x r (less g.who u)) (cases g i);
  }

  pub locked_commit : (h : History) (who : Attempt) (number : Number) → Sound loaded h → IsUnended h who → Locked loaded h → Locked loaded (Commit who number [] ∷ h)
  locked_commit h who number s unended l = record {
    apart = λ a b i j c u v. l.apart a b i j c (λ e. u (inr e)) (λ e. v (inr e));
    current = λ g i r u.
        ⊎_elim
        (λ same. same ∙ l.current g i r (λ e. u (inr e)))
        (λ (n : (row : Row) × (row_for g.key (writes_in (yeas h) who) ≡ Some row) × (newer (latest loaded h g.key) number (row_for g.key (writes_in (yeas h) who)) ≡ record { number = number; row = row })).
        let y = writes_found (yeas h) who (record { key = g.key; row = n.0 }) (row_found g.key (writes_in (yeas h) who) n.0 n.1) in
        let o = s.holds y.0 (record { key = g.key; row = n.0 }) y.2 y.3 in
        let is : o.0.who ≡ who = o.2 ∙ y.1 in
        absurd (l.apart o.0 g o.1 i (write_conflict o.0.who o.0.key o.0.mode g.who g.key g.mode o.3 (λ e. u (inl (sym e ∙ is))) o.4) (subst (λ a. IsUnended h a) (sym is) unended) (λ e. u (inr e))))
        (newer_cases (latest loaded h g.key) number (row_for g.key (writes_in (yeas h) who)));
  }

  pub locked_abort : (h : History) (who : Attempt) → Locked loaded h → Locked loaded (Abort who [] ∷ h)
  locked_abort h who l = record { apart = λ a b i j c u v. l.apart a b i j c (λ e. u (inr e)) (λ e. v (inr e)); current = λ g i r u. l.current g i r (λ e. u (inr e)) }

  pub locked_start : Locked loaded []
  locked_start = record { apart = λ a b i j c u v. i; current = λ g i r u. absurd i }

  -- a new owner sees the latest
  pub seen_current : (h : History) (mode : Mode) (key : Key) → IsReading mode → latest loaded h key ≡ record { number = (seen mode (latest loaded h key)).number; row = (seen mode (latest loaded h key)).row }
  seen_current h Read key r = refl
  seen_current h Update key r = refl
  seen_current h Put key r = absurd (r refl)

  -- a grant that nothing blocks
  pub locked_grant : (h : History) (who : Attempt) (stamp : ℕ) (key : Key) (mode : Mode) (bound : ℕ) → ((g : Grant) → IsIn g (grants h) → IsUnended h g.who → Conflict g.who g.key g.mode who key mode → ⊥) → Locked loaded h → Locked loaded (Ask who stamp key mode (Granted (seen mode (latest loaded h key)).row (seen mode (latest loaded h key)).number bound) ∷ h)
  locked_grant h who stamp key mode bound free l =
      locked_add h (Ask who stamp key mode (Granted (seen mode (latest loaded h key)).row (seen mode (latest loaded h key)).number bound) ∷ h) (mine ∷ []) (λ g i. ⊎_elim (λ e. inl (inl e)) (λ t. inr t) i) (λ x u. u) (λ k. refl)
      (record {
        apart = λ a b i j c. c.1 (ap (λ z. z.who) (one a i ∙ sym (one b j)));
        free = λ a b i j u c. free b j u (subst (λ z. Conflict b.who b.key b.mode z.who z.key z.mode) (one a i) c);
        current = λ g i r. subst (λ z. latest loaded h z.key ≡ record { number = z.version; row = z.row }) (sym (one g i)) (seen_current h mode key (λ e. r (ap (λ z. z.mode) (one g i) ∙ e)));
      })
      l
    where
      mine : Grant
      mine = record { who = who; stamp = stamp; key = key; mode = mode; row = (seen mode (latest loaded h key)).row; version = (seen mode (latest loaded h key)).number }

      one : (a : Grant) → IsIn a (mine ∷ []) → a ≡ mine
      one a i = ⊎_elim (λ e. e) (λ x. absurd x) i

  module _ (h : History) (s : Sound loaded h) (k : Known loaded h) (t : Traced h) (l : Locked loaded h) (who : Attempt) (bound : Bound) (writes appends : List Keyed) (may : MayPrepare h who bound writes appends) where
    unended : (g : Grant) → g.who ≡ who → IsUnended h g.who
    unended g e = subst (λ a. IsUnended h a) (sym e) may.unended

    version : (g : Grant) → IsIn g (grants h) → g.who ≡ who → IsReading g.mode → IsVersion loaded h g.key g.version g.row
    version g i e r =
        let a = t.asked g i in
        let row = k.here a.0 a.1 in
        subst (λ v. IsVersion loaded h g.key v.number v.row) (l.current g i r (unended g e)) (s.found g.key row.0 (subst (λ z. loaded z ≡ Some row.0) a.3 row.1))

    -- the access under which another attempt writes, against one of this attempt
    pub lock_fresh : Fresh loaded h who writes (1 + greatest_met h who (decided h)) (2 ^ 63)
    lock_fresh = record {
      positive = omega arith;
      version = version;
      above = λ g i e r. ⊎_elim
          (λ x. omega (arith, ap (λ z. z.n) x.0))
          (λ (x : (d : Decided) × IsIn d (decided h) × (d.number ≡ g.version) × Writes h d.who g.key g.row).
          let y = x.3 in
          let o = s.holds y.0 (record { key = g.key; row = g.row }) y.2 y.3 in
          let is : o.0.who ≡ x.0.who = o.2 ∙ y.1 in
          omega (arith, floor_top h who (decided h) x.0 x.1 (met_true h who x.0 g o.0 i e o.1 is (write_conflict o.0.who o.0.key o.0.mode g.who g.key g.mode o.3 (λ same. may.unended (subst (λ a. IsIn a (ended h)) (sym is ∙ same ∙ e) (s.ends x.0 x.1))) o.4)), ap (λ z. z.n) x.2))
          (version g i e r);
      reads = λ g u lo_u hi_u row i e r apart w x.
          ⊎_elim
          (λ d. inl (omega (arith, s.top d.0 g.key row d.2 (x.0, x.1 ∙ sym d.1, x.2, x.3), ap (λ z. z.number.n) (l.current g i r (unended g e)), d.4)))
          (λ (y : (y : Yea) × (y.who ≡ u) × IsIn y (yeas h) × IsUnended h u × (lo_u ≡ y.lo) × (hi_u ≡ y.hi)).
          let o = s.holds x.0 (record { key = g.key; row = row }) x.2 x.3 in
          let is : o.0.who ≡ u = o.2 ∙ x.1 in
          absurd (l.apart o.0 g o.1 i (write_conflict o.0.who o.0.key o.0.mode g.who g.key g.mode o.3 (λ same. apart (sym is ∙ same ∙ e)) o.4) (subst (λ a. IsUnended h a) (sym is) y.3) (unended g e)))
          w;
      written = λ g r lo_r hi_r v i e is_read apart w j same.
          let o = may.held v j in
          let c : Clash g o.0 = conflict_sym o.0.who o.0.key o.0.mode g.who g.key g.mode (write_conflict o.0.who o.0.key o.0.mode g.who g.key g.mode (o.3 ∙ same) (λ is. apart (sym e ∙ sym is ∙ o.2)) o.4) in
          ⊎_elim
          (λ d. inr (omega (arith, floor_top h who (decided h) d.0 d.2 (met_true h who d.0 o.0 g o.1 o.2 i (e ∙ sym d.1) c), d.4)))
          (λ y. absurd (l.apart g o.0 i o.1 c (subst (λ a. IsUnended h a) (sym e) y.3) (unended o.0 o.2)))
          w;
      writers = λ u lo_u hi_u v row apart w j x.
          let o = may.held v j in
          let p = s.holds x.0 (record { key = v.key; row = row }) x.2 x.3 in
          let is : p.0.who ≡ u = p.2 ∙ x.1 in
          let c : Clash p.0 o.0 = write_conflict p.0.who p.0.key p.0.mode o.0.who o.0.key o.0.mode (p.3 ∙ sym o.3) (λ same. apart (sym is ∙ same ∙ o.2)) p.4 in
          ⊎_elim
          (λ d. inl (omega (arith, floor_top h who (decided h) d.0 d.2 (met_true h who d.0 o.0 p.0 o.1 o.2 p.1 (is ∙ sym d.1) c), d.4)))
          (λ y. absurd (l.apart p.0 o.0 p.1 o.1 c (subst (λ a. IsUnended h a) (sym is) y.3) (unended o.0 o.2)))
          w;
    }
