-- What holds of accesses in every history of a rule that answers by stamps, TIMESTAMP and MVCC alike.
use Rattle.std.proofs.Common.{◌≡◌, ◌≢◌, ◌⊎◌, ℕ, ◌<◌, ◌≤◌, List, ◌++◌, map, filter, Bool, true, false, not, ◌&&◌, ltb, refl, sym, ap, ◌∙◌, subst, inl, inr, ⊎_elim, arith, true≢false}
use Rattle.std.proofs.lemmas.Bool.{cases_lt, cases_Bool}
use Rattle.deneva_base.specs.declared.keys.Key.{Key}
use Rattle.deneva_base.specs.declared.numbers.Attempt.{Attempt}
use Rattle.deneva_base.specs.declared.numbers.Number.{Number}
use Rattle.deneva_base.specs.declared.keys.Mode.{Mode}
use Rattle.deneva_base.specs.Lists.{IsIn}
use Rattle.deneva_base.specs.Rows.{Row, Rows}
use Rattle.deneva_base.specs.Modes.{IsReading, IsWriting}
use Rattle.deneva_base.specs.Keys.{key_eq, attempt_eq}
use Rattle.deneva_base.specs.declared.answers.Answer.{Answer}
use Rattle.deneva_base.specs.declared.answers.Answer.TheVariants.{Granted, Waits, Refused}
use Rattle.deneva_base.specs.declared.answers.Wake.{Wake}
use Rattle.protocol_rules.specs.History.{History, Asked, Grant, Decided, asks, grants, waits, decided, grant_of, grant_of_wake, is_woken, IsUnended, Writes}
use Rattle.protocol_rules.specs.Windows.{IsVersion}
use Rattle.protocol_rules.specs.Latest.{Version, has_ended, seen}
use Rattle.protocol_rules.specs.Order.{by_rising_stamp, Sorted}
use Rattle.deneva_base.proofs.Membership.{in_left, in_right, in_cases, filter_in, in_filter, and_true, any_at, attempt_decides, key_decides, reading_decides}
use Rattle.protocol_rules.proofs.Known.{Known, same_stamp}
use Rattle.protocol_rules.proofs.Sorts.{Distinct, Total, distinct_filter, sort_in, in_sort, sorted_sort, rising_trans, rising_total}
use Rattle.protocol_rules.specs.Versions.{written, start, greatest, below}
use Rattle.protocol_rules.specs.Waiting.{this, as_asked, holders, holds, wake_of, older_writer}
use Rattle.protocol_rules.specs.Trying.{tried, to_try}
use Rattle.protocol_rules.proofs.Belows.{Listed, below_under, below_found, below_decided}
use Rattle.protocol_rules.proofs.Tries.{tried_in, tried_left, tried_free}
use Rattle.protocol_rules.proofs.Stops.{stops, stops_true, stops_false, stops_more, stops_later, stops_self, in_held, held_from}
use Rattle.protocol_rules.proofs.Woken.{in_woken, wake_grants, grant_wakes}
use Rattle.protocol_rules.proofs.Marks.{Marked}

-- a committed attempt wrote the key
abbrev pub HasWritten : History → Attempt → Key → Type 0
HasWritten h who key = (d : Decided) × (row : Row) × IsIn d (decided h) × (d.who ≡ who) × Writes h d.who key row

abbrev pub WaitsToWrite : History → Key → ℕ → Type 0
WaitsToWrite h key s = (a : Asked) × IsIn a (waits h) × IsWriting a.mode × (a.key ≡ key) × (a.stamp ≡ s)

abbrev pub HoldsToWrite : History → Key → ℕ → Type 0
HoldsToWrite h key s = (w : Grant) × IsIn w (grants h) × IsWriting w.mode × (w.key ≡ key) × (w.stamp ≡ s) × (IsUnended h w.who ⊎ HasWritten h w.who key)

-- one of this stamp has written the key or may still do so
abbrev pub MayWrite : History → Key → ℕ → Type 0
MayWrite h key s = WaitsToWrite h key s ⊎ HoldsToWrite h key s

module _ (flag : Bool) (loaded : Rows) where
  pub record State (h : History) : Type 0 where
    pub version : (g : Grant) → IsIn g (grants h) → IsReading g.mode → IsVersion loaded h g.key g.version g.row
    pub under : (g : Grant) → IsIn g (grants h) → IsReading g.mode → g.version.n < g.stamp
    -- whoever writes a key that was read stands under the version read or not under the reader
    pub clean : (s : ℕ) (g : Grant) → IsIn g (grants h) → IsReading g.mode → MayWrite h g.key s → (s ≤ g.version.n) ⊎ (g.stamp ≤ s)
    pub reads : (a : Asked) → IsIn a (waits h) → IsReading a.mode
    pub stopped : (a : Asked) → IsIn a (waits h) → (b : Asked) × IsIn b (holders h) × (stops flag loaded h a b ≡ true)

  -- what an answer has to bring
  abbrev pub Safe : History → ℕ → Key → Mode → Type 0
  Safe h stamp key mode = IsWriting mode → (g : Grant) → IsIn g (grants h) → IsReading g.mode → g.key ≡ key → (stamp ≤ g.version.n) ⊎ (g.stamp ≤ stamp)

  abbrev pub IsFree : History → Asked → Type 0
  IsFree h a = (b : Asked) → IsIn b (holders h) → stops flag loaded h a b ≡ false

  abbrev pub Answered : History → Attempt → ℕ → Key → Mode → Answer → Type 0
  Answered h who stamp key mode (Granted row version bound) = (IsReading mode → (row ≡ (below loaded h key stamp).row) × (version ≡ (below loaded h key stamp).number) × IsFree h (this who stamp key mode)) × Safe h stamp key mode
  Answered h who stamp key mode Waits = IsReading mode × ((b : Asked) × IsIn b (holders h) × (stops flag loaded h (this who stamp key mode) b ≡ true)) × Safe h stamp key mode
  Answered h who stamp key mode (Refused cause) = Unit {0}

  -- what a new reader sees of one that was granted the key, if that does not stop it
  pub over_held : (h : History) (a : Asked) (w : Grant) (x : Asked) → Listed loaded h → Marked h → IsWriting w.mode → w.key ≡ a.key → IsIn x (asks h) → x.who ≡ w.who → x.stamp ≡ w.stamp → (IsUnended h w.who → stops flag loaded h a (as_asked w) ≡ false) → IsUnended h w.who ⊎ HasWritten h w.who a.key → (w.stamp ≤ (below loaded h a.key a.stamp).number.n) ⊎ (a.stamp ≤ w.stamp)
  over_held h a w x l m wr key i who stamp free c =
      ⊎_elim
      (λ u. stops_false loaded h flag a (as_asked w) key wr (free u))
      (λ d.
      let e : d.0.number.n ≡ x.stamp = m.chosen d.0 x d.2 i (who ∙ sym d.3) in
      ⊎_elim
      (λ less. inl (omega (arith, below_decided loaded h a.key a.stamp d.0 d.1 l d.2 d.4 (omega (arith, e, stamp, less)), e, stamp)))
      (λ g. inr g)
      (cases_lt w.stamp a.stamp))
      c

  -- and of one that waits, by whom that is stopped
  pub over_waiting : (h : History) (a c b : Asked) → c.key ≡ a.key → stops flag loaded h c b ≡ true → stops flag loaded h a b ≡ false → (c.stamp ≤ (below loaded h a.key a.stamp).number.n) ⊎ (a.stamp ≤ c.stamp)
  over_waiting h a c b key hit free =
      ⊎_elim
      (λ less. ⊎_elim
      (λ above. absurd (true≢false (sym (stops_more loaded h flag a c b key above less hit) ∙ free)))
      (λ g. inl g)
      (cases_lt (below loaded h a.key a.stamp).number.n c.stamp))
      (λ g. inr g)
      (cases_lt c.stamp a.stamp)

  -- the end of an attempt, with its wakes
  pub record Ends (h h' : History) (who : Attempt) (woken : List Wake) : Type 0 where
    pub all_grants : ◌≡◌ {A = List Grant} (grants h') (map (grant_of_wake h) woken ++ grants h)
    pub all_waits : ◌≡◌ {A = List Asked} (waits h') (filter (λ a. not (is_woken woken a)) (waits h))
    pub unended : (x : Attempt) → IsUnended h x → x ≢ who → IsUnended h' x
    pub before : (x : Attempt) → IsUnended h' x → IsUnended h x
    pub mine : IsUnended h who
    pub apart : (a : Asked) → IsIn a (waits h) → a.who ≢ who
    pub wrote : (x : Attempt) (key : Key) → HasWritten h' x key → HasWritten h x key ⊎ (x ≡ who)
    pub version : (key : Key) (v : Number) (row : Row) → IsVersion loaded h key v row → IsVersion loaded h' key v row
    pub same : (key : Key) → holds h who key ≡ false → ◌≡◌ {A = List Version} (written h' key) (written h key)
    pub is : woken ≡ map (wake_of loaded h') (tried (stops flag loaded h') (map as_asked (filter (λ (g : Grant). not (has_ended h' g.who)) (grants h))) (to_try h who))

  pub stops_same : (f : Bool) (h h' : History) (a b : Asked) → ◌≡◌ {A = List Version} (written h' a.key) (written h a.key) → stops f loaded h' a b ≡ stops f loaded h a b
  stops_same false h h' a b e = refl
  stops_same true h h' a b e = ap (λ vs. older_writer a b && ltb (greatest (start loaded a.key) (filter (λ (v : Version). ltb v.number.n a.stamp) vs)).number.n b.stamp) e

  seen_reading : (m : Mode) (v : Version) → IsReading m → seen m v ≡ v
  seen_reading m v r = rw ((reading_decides m).1 r)

  -- two waiting accesses of one key differ in their stamps
  pub waits_total : (h : History) → Known loaded h → (p : Asked → Bool) → Total by_rising_stamp (filter p (waits h))
  waits_total h k p a b i j n e =
      let x = (filter_in p a (waits h) i).0 in
      let y = (filter_in p b (waits h) j).0 in
      rising_total a b (λ key s. n (k.alone a b x y (same_stamp loaded h a b k (k.asked a x) (k.asked b y) (k.unended a x) (k.unended b y) s))) e

  -- the waiting accesses are tried in the order of their stamps
  pub try_sorted : (h : History) (who : Attempt) → Known loaded h → Distinct (waits h) → Sorted by_rising_stamp (to_try h who)
  try_sorted h who k d =
      sorted_sort by_rising_stamp rising_trans (filter (λ (a : Asked). holds h who a.key) (waits h)) (distinct_filter (λ (a : Asked). holds h who a.key) (waits h) d) (waits_total h k (λ (a : Asked). holds h who a.key))

  module _ (h h' : History) (who : Attempt) (woken : List Wake) (e : Ends h h' who woken) (st : State h) (k : Known loaded h) (l : Listed loaded h') (m : Marked h') (asked : (g : Grant) → IsIn g (grants h') → (x : Asked) × IsIn x (asks h') × (x.who ≡ g.who) × (x.stamp ≡ g.stamp)) (d : Distinct (waits h)) where
    abbrev held : List Asked
    held = map as_asked (filter (λ (g : Grant). not (has_ended h' g.who)) (grants h))

    abbrev ts : List Asked
    ts = tried (stops flag loaded h') (map as_asked (filter (λ (g : Grant). not (has_ended h' g.who)) (grants h))) (to_try h who)

    from_try : (a : Asked) → IsIn a (to_try h who) → IsIn a (waits h) × (holds h who a.key ≡ true)
    from_try a i = filter_in (λ (z : Asked). holds h who z.key) a (waits h) (sort_in by_rising_stamp a (filter (λ (z : Asked). holds h who z.key) (waits h)) i)

    in_try : (a : Asked) → IsIn a (waits h) → holds h who a.key ≡ true → IsIn a (to_try h who)
    in_try a i t = in_sort by_rising_stamp a (filter (λ (z : Asked). holds h who z.key) (waits h)) (in_filter (λ (z : Asked). holds h who z.key) a (waits h) i t)

    from_ts : (a : Asked) → IsIn a ts → IsIn a (waits h) × (holds h who a.key ≡ true)
    from_ts a i = from_try a (tried_in (stops flag loaded h') a (to_try h who) held i)

    cases : (g : Grant) → IsIn g (grants h') → ((a : Asked) × IsIn a ts × (g ≡ grant_of (wake_of loaded h' a) a)) ⊎ IsIn g (grants h)
    cases g i =
        ⊎_elim
        (λ x. inl (wake_grants (wake_of loaded h') (λ a. refl) (λ a. refl) loaded h k ts (λ a j. (from_ts a j).0) g (subst (λ z. IsIn g (map (grant_of_wake h) z)) e.is x)))
        (λ x. inr x)
        (in_cases g (map (grant_of_wake h) woken) (grants h) (subst (λ z. IsIn g z) e.all_grants i))

    old_grant : (g : Grant) → IsIn g (grants h) → IsIn g (grants h')
    old_grant g i = subst (λ z. IsIn g z) (sym e.all_grants) (in_right g (map (grant_of_wake h) woken) (grants h) i)

    new_grant : (a : Asked) → IsIn a ts → IsIn (grant_of (wake_of loaded h' a) a) (grants h')
    new_grant a i =
        subst (λ z. IsIn (grant_of (wake_of loaded h' a) a) z) (sym e.all_grants)
        (in_left (grant_of (wake_of loaded h' a) a) (map (grant_of_wake h) woken) (grants h)
        (subst (λ z. IsIn (grant_of (wake_of loaded h' a) a) (map (grant_of_wake h) z)) (sym e.is)
        (grant_wakes (wake_of loaded h') (λ b. refl) (λ b. refl) loaded h k ts (λ b j. (from_ts b j).0) a i)))

    old_wait : (a : Asked) → IsIn a (waits h') → IsIn a (waits h) × (IsIn a ts → ⊥)
    old_wait a i =
        let f = filter_in (λ (z : Asked). not (is_woken woken z)) a (waits h) (subst (λ z. IsIn a z) e.all_waits i) in
        (f.0, (λ j. true≢false (sym f.1 ∙ ap (λ z. not (is_woken z a)) e.is ∙ ap not (in_woken (wake_of loaded h') (λ b. refl) (λ b. refl) loaded h k ts (λ b x. (from_ts b x).0) a j))))

    free : (a b : Asked) → IsIn a ts → IsIn b held ⊎ IsIn b ts → stops flag loaded h' a b ≡ false
    free a b i j = tried_free (stops flag loaded h') by_rising_stamp (stops_later loaded h' flag) (stops_self loaded h' flag) a b (to_try h who) held (try_sorted h who k d) i j

    holding : (w : Grant) → IsIn w (grants h') → IsUnended h' w.who → IsIn (as_asked w) held ⊎ IsIn (as_asked w) ts
    holding w i u = ⊎_elim (λ c. inr (subst (λ z. IsIn (as_asked z) ts) (sym c.2) c.1)) (λ o. inl (in_held h' (grants h) w o u)) (cases w i)

    may_write : (key : Key) (s : ℕ) → MayWrite h' key s → MayWrite h key s
    may_write key s w =
        ⊎_elim
        (λ c. inl (c.0, (old_wait c.0 c.1).0, c.2, c.3, c.4))
        (λ c. ⊎_elim
        (λ n. inl (n.0, (from_ts n.0 n.1).0, subst (λ z. IsWriting z.mode) n.2 c.2, ap (λ z. z.key) (sym n.2) ∙ c.3, ap (λ z. z.stamp) (sym n.2) ∙ c.4))
        (λ o. inr (c.0, o, c.2, c.3, c.4, ⊎_elim (λ u. inl (e.before c.0.who u)) (λ x. ⊎_elim (λ y. inr y) (λ y. inl (subst (λ z. IsUnended h z) (sym y) e.mine)) (e.wrote c.0.who key x)) c.5))
        (cases c.0 c.1))
        w

    in_holders : (b : Asked) → IsIn b held ⊎ IsIn b ts → IsIn b (holders h')
    in_holders b j =
        ⊎_elim
        (λ x. let g = held_from h' (grants h) b x in subst (λ z. IsIn z (holders h')) (sym g.3) (in_held h' (grants h') g.0 (old_grant g.0 g.1) g.2))
        (λ x. let f = (from_ts b x).0 in in_held h' (grants h') (grant_of (wake_of loaded h' b) b) (new_grant b x) (e.unended b.who (k.unended b f) (e.apart b f)))
        j

    new_clean : (a : Asked) (s : ℕ) → IsIn a ts → MayWrite h' a.key s → (s ≤ (below loaded h' a.key a.stamp).number.n) ⊎ (a.stamp ≤ s)
    new_clean a s i w =
        ⊎_elim
        (λ c.
        let o = old_wait c.0 c.1 in
        let b = tried_left (stops flag loaded h') c.0 (to_try h who) held (in_try c.0 o.0 (ap (λ z. holds h who z) c.3 ∙ (from_ts a i).1)) o.1 in
        subst (λ z. (z ≤ (below loaded h' a.key a.stamp).number.n) ⊎ (a.stamp ≤ z)) c.4 (over_waiting h' a c.0 b.0 c.3 b.2 (free a b.0 i b.1)))
        (λ c.
        let x = asked c.0 c.1 in
        subst (λ z. (z ≤ (below loaded h' a.key a.stamp).number.n) ⊎ (a.stamp ≤ z)) c.4 (over_held h' a c.0 x.0 l m c.2 c.3 x.1 x.2 x.3 (λ u. free a (as_asked c.0) i (holding c.0 c.1 u)) c.5))
        w

    untouched : (a : Asked) → IsIn a (waits h) → holds h who a.key ≡ false → (b : Asked) × IsIn b (holders h') × (stops flag loaded h' a b ≡ true)
    untouched a i n =
        let b = st.stopped a i in
        let g = held_from h (grants h) b.0 b.1 in
        let key : g.0.key ≡ a.key = ap (λ z. z.key) (sym g.3) ∙ (stops_true loaded h flag a b.0 b.2).0 in
        let other : g.0.who ≢ who
        = λ s. true≢false (sym (any_at (λ (z : Grant). attempt_eq z.who who && key_eq z.key a.key) g.0 (grants h) g.1 (and_true (attempt_eq g.0.who who) (key_eq g.0.key a.key) ((attempt_decides g.0.who who).1 s) ((key_decides g.0.key a.key).1 key))) ∙ n) in
        (b.0, subst (λ z. IsIn z (holders h')) (sym g.3) (in_held h' (grants h') g.0 (old_grant g.0 g.1) (e.unended g.0.who g.2 other)), stops_same flag h h' a b.0 (e.same a.key n) ∙ b.2)

    pub state_end : State h'
    state_end = record {
      version = λ g i r. ⊎_elim
          (λ n.
          let f = (from_ts n.0 n.1).0 in
          let here = k.here n.0 (k.asked n.0 f) in
          subst (λ z. IsVersion loaded h' z.key z.version z.row) (sym n.2)
          (subst (λ v. IsVersion loaded h' n.0.key v.number v.row) (sym (seen_reading n.0.mode (below loaded h' n.0.key n.0.stamp) (st.reads n.0 f))) (below_found loaded h' n.0.key n.0.stamp here.0 l here.1)))
          (λ o. e.version g.key g.version g.row (st.version g o r))
          (cases g i);
      under = λ g i r. ⊎_elim
          (λ n.
          let f = (from_ts n.0 n.1).0 in
          subst (λ z. z.version.n < z.stamp) (sym n.2)
          (subst (λ v. v.number.n < n.0.stamp) (sym (seen_reading n.0.mode (below loaded h' n.0.key n.0.stamp) (st.reads n.0 f))) (below_under loaded h' n.0.key n.0.stamp (k.positive n.0 (k.asked n.0 f)))))
          (λ o. st.under g o r)
          (cases g i);
      clean = λ s g i r w. ⊎_elim
          (λ n.
          let f = (from_ts n.0 n.1).0 in
          subst (λ z. (s ≤ z.version.n) ⊎ (z.stamp ≤ s)) (sym n.2)
          (subst (λ v. (s ≤ v.number.n) ⊎ (n.0.stamp ≤ s)) (sym (seen_reading n.0.mode (below loaded h' n.0.key n.0.stamp) (st.reads n.0 f)))
          (new_clean n.0 s n.1 (subst (λ z. MayWrite h' z s) (ap (λ z. z.key) n.2) w))))
          (λ o. st.clean s g o r (may_write g.key s w))
          (cases g i);
      reads = λ a i. st.reads a (old_wait a i).0;
      stopped = λ a i. ⊎_elim
          (λ t.
          let o = old_wait a i in
          let b = tried_left (stops flag loaded h') a (to_try h who) held (in_try a o.0 t) o.1 in
          (b.0, in_holders b.0 b.1, b.2))
          (λ n. untouched a (old_wait a i).0 n)
          (cases_Bool (holds h who a.key));
    }
