-- The lower end of a vote, over the keys of the attempt, is the rule's.
use Rattle.std.proofs.Common.{◌≡◌, ◌≢◌, ◌⊎◌, ℕ, max, ◌≤◌, ◌<◌, ◌^◌, ◌-◌, List, [], ◌∷◌, Bool, true, false, ◌&&◌, cond, refl, sym, ap, ◌∙◌, subst, inl, inr, ⊎_elim, arith, Some, None, true≢false}
use Rattle.std.specs.List.{list_any}
use Rattle.deneva_base.specs.declared.keys.Key.{Key}
use Rattle.deneva_base.specs.declared.keys.Mode.{Mode}
use Rattle.deneva_base.specs.declared.keys.Mode.TheVariants.{Read, Update, Put}
use Rattle.deneva_base.specs.declared.numbers.Attempt.{Attempt}
use Rattle.deneva_base.specs.Lists.{IsIn, greatest_by}
use Rattle.deneva_base.specs.Rows.{Rows}
use Rattle.deneva_base.specs.Keys.{attempt_eq}
use Rattle.deneva_base.specs.Modes.{writes}
use Rattle.protocol_rules.specs.History.{Ask, Prepare, Commit, Abort, History, Grant, Decided, grants, decided, ended, IsUnended, Clash, WaitsNowhere}
use Rattle.protocol_rules.specs.Locks.{clash, met, greatest_met}
use Rattle.protocol_rules.specs.Rules.{Rule, Obeys}
use Rattle.deneva_base.proofs.Membership.{attempt_decides, and_parts, any_found}
use Rattle.protocol_rules.proofs.Belows.{greatest_le}
use Rattle.protocol_rules.proofs.Timestamps.{top_by}
use Rattle.protocol_rules.proofs.Sound.{Sound}
use Rattle.protocol_rules.proofs.Traced.{Traced}
use Rattle.protocol_rules.proofs.Locks.{conflict_decides, floor_top, met_true}
use Rattle.lock_control.specs.declared.requests.Request.{Request}
use Rattle.lock_control.specs.Requests.{mode_in, bound_in}
use Rattle.lock_control.specs.Locks.{bound_at}
use Rattle.lock_control.specs.Standing.{State, owner_of, IsOwner, IsWaiter, IsTop, any_mode, Tracks}
use Rattle.shelf.specs.Shelves.{held}
use Rattle.lock_control.proofs.Puts.{mode_found}

floor_le : (h : History) (who : Attempt) (m : ℕ) (ds : List Decided) → ((d : Decided) → IsIn d ds → met h who d ≡ true → d.number.n ≤ m) → greatest_met h who ds ≤ m
floor_le h who m [] f = omega arith
floor_le h who m (d ∷ ds) f = go (met h who d) refl (floor_le h who m ds (λ x i e. f x (inr i) e))
  where
    go : (b : Bool) → met h who d ≡ b → greatest_met h who ds ≤ m → max (cond b d.number.n 0) (greatest_met h who ds) ≤ m
    go true e l = omega (arith, l, f d (inl refl) e)
    go false e l = omega (arith, l)

-- what a test of the committed access finds
pub met_found : (h : History) (who : Attempt) (d : Decided) → met h who d ≡ true → (mine : Grant) × (other : Grant) × IsIn mine (grants h) × IsIn other (grants h) × (mine.who ≡ who) × (other.who ≡ d.who) × Clash other mine
met_found h who d e =
    let a = any_found (λ (m : Grant). attempt_eq m.who who && list_any (λ (o : Grant). attempt_eq o.who d.who && clash o m) (grants h)) (grants h) e in
    let p = and_parts (attempt_eq a.0.who who) (list_any (λ (o : Grant). attempt_eq o.who d.who && clash o a.0) (grants h)) a.2 in
    let b = any_found (λ (o : Grant). attempt_eq o.who d.who && clash o a.0) (grants h) p.1 in
    let q = and_parts (attempt_eq b.0.who d.who) (clash b.0 a.0) b.2 in
    (a.0, b.0, a.1, b.1, (attempt_decides a.0.who who).0 p.0, (attempt_decides b.0.who d.who).0 q.0, (conflict_decides b.0.who b.0.key b.0.mode a.0.who a.0.key a.0.mode).0 q.1)

reads_only : (m : Mode) → writes m ≡ false → m ≡ Read
reads_only Read e = refl
reads_only Update e = absurd (true≢false e)
reads_only Put e = absurd (true≢false e)

other_writes : (m k : Mode) → writes k ≡ false → (((m ≡ Read) × (k ≡ Read)) → ⊥) → writes m ≡ true
other_writes Update k e f = refl
other_writes Put k e f = refl
other_writes Read k e f = absurd (f (refl, reads_only k e))

not_read : (m : Mode) → writes m ≡ true → m ≢ Read
not_read m e s = true≢false (sym e ∙ ap writes s)

module _ (loaded : Rows) (h : History) (sound : Sound loaded h) (traced : Traced h) (s : State) (t : Tracks loaded s h) (who : Attempt) (unended : IsUnended h who) (nowhere : WaitsNowhere h who) where
  -- the attempt's access to a key, or none
  own : (key : Key) → ((g : Grant) × IsIn g (grants h) × (g.who ≡ who) × (g.key ≡ key) × (mode_in who (s.locks key).requests ≡ Some g.mode)) ⊎ ((mode_in who (s.locks key).requests ≡ None) × ((g : Grant) → IsIn g (grants h) → g.who ≡ who → g.key ≢ key))
  own key = ⊎_elim
      (λ (f : (x : Request) × IsIn x (s.locks key).requests × (x.who ≡ who) × (mode_in who (s.locks key).requests ≡ Some x.mode)).
      ⊎_elim
      (λ (o : IsOwner h key f.0). inl (o.grant, o.there, sym (ap (λ (r : Request). r.who) o.same) ∙ f.2, o.here, f.3 ∙ ap (λ (r : Request). Some r.mode) o.same))
      (λ (q : IsWaiter h key f.0). absurd (nowhere q.asked q.there (sym (ap (λ (r : Request). r.who) q.same) ∙ f.2)))
      (t.real key f.0 f.1))
      (λ n. inr (n.1, λ g i e k. n.0 (owner_of g) (subst (λ q. IsIn (owner_of g) (s.locks q).requests) k (t.owned g i (subst (λ w. IsUnended h w) (sym e) unended))) e))
      (mode_found who (s.locks key).requests)

  -- an ended attempt is another
  apart : (g : Grant) (d : Decided) → g.who ≡ d.who → IsIn d (decided h) → g.who ≢ who
  apart g d e i s' = unended (subst (λ a. IsIn a (ended h)) (sym e ∙ s') (sound.ends d i))

  below_floor : (key : Key) → bound_at who (s.locks key) ≤ greatest_met h who (decided h)
  below_floor key = ⊎_elim (λ o. rw o.4 (go o.0 o.1 o.2 o.3 (writes o.0.mode) refl)) (λ n. rw n.0 (omega arith)) (own key)
    where
      top : (passes : Mode → Bool) (n : ℕ) → IsTop h key passes n → ((g : Grant) (d : Decided) → IsIn g (grants h) → IsIn d (decided h) → g.who ≡ d.who → g.key ≡ key → passes g.mode ≡ true → met h who d ≡ true) → n ≤ greatest_met h who (decided h)
      top passes n x f = ⊎_elim (λ z. omega (arith, z)) (λ z. omega (arith, z.7, floor_top h who (decided h) z.1 z.3 (f z.0 z.1 z.2 z.3 z.4 z.5 z.6))) x.from

      go : (g : Grant) → IsIn g (grants h) → g.who ≡ who → g.key ≡ key → (b : Bool) → writes g.mode ≡ b → bound_in (Some g.mode) (s.locks key).accessed (s.locks key).written ≤ greatest_met h who (decided h)
      go g i e k true w = rw w (top any_mode (s.locks key).accessed (t.accessed key) (λ x d j l is k' p. met_true h who d g x i e j is (k' ∙ sym k, (λ same. apart x d is l (same ∙ e)), (λ r. not_read g.mode w r.1))))
      go g i e k false w = rw w (top writes (s.locks key).written (t.written key) (λ x d j l is k' p. met_true h who d g x i e j is (k' ∙ sym k, (λ same. apart x d is l (same ∙ e)), (λ r. not_read x.mode p r.0))))

  reaches : (d : Decided) → IsIn d (decided h) → met h who d ≡ true → d.number.n ≤ greatest_by (λ key. bound_at who (s.locks key)) (held s.shelf who).keys
  reaches d i m =
      let f = met_found h who d m in
      let mine : Grant = f.0 in
      let here : IsIn mine.key (held s.shelf who).keys = subst (λ w. IsIn mine.key (held s.shelf w).keys) f.4 (t.kept.noted mine f.2 (subst (λ w. IsUnended h w) (sym f.4) unended)) in
      let top = top_by (λ key. bound_at who (s.locks key)) mine.key (held s.shelf who).keys here in
      let at : d.number.n ≤ bound_at who (s.locks mine.key) = ⊎_elim
      (λ o. let one : o.0 ≡ mine = traced.one o.0 mine o.1 f.2 (o.2 ∙ sym f.4) o.3 in rw o.4 (go mine o.0 one f.1 f.3 f.5 f.6 (writes o.0.mode) refl))
      (λ n. absurd (n.1 mine f.2 f.4 refl))
      (own mine.key) in
      omega (arith, top, at)
    where
      go : (mine g : Grant) → g ≡ mine → (other : Grant) → IsIn other (grants h) → other.who ≡ d.who → Clash other mine → (b : Bool) → writes g.mode ≡ b → d.number.n ≤ bound_in (Some g.mode) (s.locks mine.key).accessed (s.locks mine.key).written
      go mine g one other j e c true w = rw w ((t.accessed mine.key).over other d j i e c.0 refl)
      go mine g one other j e c false w = rw w ((t.written mine.key).over other d j i e c.0 (other_writes other.mode mine.mode (ap (λ (z : Grant). writes z.mode) (sym one) ∙ w) c.2))

  -- the greatest over its keys is the greatest number of a committed conflict
  pub floor_is : greatest_by (λ key. bound_at who (s.locks key)) (held s.shelf who).keys ≡ greatest_met h who (decided h)
  floor_is =
      let a = greatest_le (λ key. bound_at who (s.locks key)) (greatest_met h who (decided h)) (held s.shelf who).keys (λ key i. below_floor key) in
      let b = floor_le h who (greatest_by (λ key. bound_at who (s.locks key)) (held s.shelf who).keys) (decided h) (λ d i m. reaches d i m) in
      omega (arith, a, b)

-- committed numbers are small, and so is a bound
pub numbers_small : (loaded : Rows) (rule : Rule) (h : History) (d : Decided) → Obeys loaded rule h → IsIn d (decided h) → d.number.n < 2 ^ 48
numbers_small loaded rule [] d o i = absurd i
numbers_small loaded rule (Ask who stamp k mode answer ∷ h) d o i = numbers_small loaded rule h d o.2 i
numbers_small loaded rule (Prepare who bound ws as' vote ∷ h) d o i = numbers_small loaded rule h d o.2 i
numbers_small loaded rule (Commit who number woken ∷ h) d o i = ⊎_elim (λ (e : d ≡ record { who = who; number = number }). let m = o.0.small in omega (arith, m, ap (λ (z : Decided). z.number.n) e)) (λ j. numbers_small loaded rule h d o.2 j) i
numbers_small loaded rule (Abort who woken ∷ h) d o i = numbers_small loaded rule h d o.2 i

pub floor_small : (loaded : Rows) (rule : Rule) (h : History) (who : Attempt) → Obeys loaded rule h → greatest_met h who (decided h) < 2 ^ 48
floor_small loaded rule h who o = let l = floor_le h who (2 ^ 48 - 1) (decided h) (λ d i m. let x = numbers_small loaded rule h d o i in omega (arith, x)) in omega (arith, l)
