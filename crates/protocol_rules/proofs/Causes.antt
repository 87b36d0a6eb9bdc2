-- What a cause names is the least or the greatest of those that it may name.
use Rattle.std.proofs.Common.{◌≡◌, ◌≢◌, ◌⊎◌, ℕ, ◌+◌, ◌-◌, ◌^◌, ◌<◌, ◌≤◌, min, List, [], ◌∷◌, ◌++◌, map, filter, Bool, true, false, cond, not, ltb, leb, eqb, ◌&&◌, refl, sym, ap, ◌∙◌, subst, inl, inr, ⊎_elim, arith, true≢false}
use Rattle.std.proofs.lemmas.Bool.{cases_lt, ltb-true, lt-ltb, leb-false}
use Rattle.std.proofs.lemmas.Bool.Decides.{nat_tests}
use Rattle.std.specs.List.{list_any}
use Rattle.deneva_base.specs.declared.keys.Key.{Key}
use Rattle.deneva_base.specs.declared.keys.Mode.{Mode}
use Rattle.deneva_base.specs.declared.numbers.Attempt.{Attempt}
use Rattle.deneva_base.specs.declared.numbers.Number.{Number}
use Rattle.deneva_base.specs.declared.causes.Cause.TheVariants.{Held, Younger, Written, ReadLater, EmptyRange, Trimmed}
use Rattle.deneva_base.specs.declared.answers.Answer.{Answer}
use Rattle.deneva_base.specs.declared.answers.Answer.TheVariants.{Waits, Refused}
use Rattle.deneva_base.specs.declared.answers.Vote.TheVariants.{Yes, No}
use Rattle.deneva_base.specs.declared.causes.Bound.{Bound}
use Rattle.deneva_base.specs.declared.rows.Keyed.{Keyed}
use Rattle.deneva_base.specs.Lists.{IsIn, greatest_by, least_by}
use Rattle.deneva_base.specs.Keys.{key_eq, key_lt, attempt_eq, attempt_lt, number_eq, number_lt}
use Rattle.deneva_base.specs.Modes.{IsReading, reads, writes}
use Rattle.deneva_base.specs.Rows.{Rows}
use Rattle.protocol_rules.specs.History.{History, Asked, Grant, Yea, Decided, grants, yeas, decided}
use Rattle.protocol_rules.specs.Latest.{Version, latest, seen, has_ended}
use Rattle.protocol_rules.specs.Least.{least_of, IsLeast}
use Rattle.protocol_rules.specs.Locks.{blockers, least, of_lesser}
use Rattle.protocol_rules.specs.NoWait.{held_or_granted, no_wait}
use Rattle.protocol_rules.specs.WaitDie.{elders, is_free, younger_or, wait_die}
use Rattle.protocol_rules.specs.Waiting.{this, holders, older_writer, granted_with}
use Rattle.protocol_rules.specs.Versions.{written, below}
use Rattle.protocol_rules.specs.Timestamp.{top_written, top_read, timestamp}
use Rattle.protocol_rules.specs.Mvcc.{versions, as_great, nth_greatest, floor, top_reader, writer_between, mvcc}
use Rattle.protocol_rules.specs.Ranged.{lists, wrote, low_of, low, limits_prepared, under_prepared, limits_committed, under_committed, high, least_or, lo_key, gives_prepared, gives_committed, hi_by}
use Rattle.protocol_rules.specs.Maat.{maat}
use Rattle.protocol_rules.specs.Causes.{Bars, BarsFirst, ElderBarsFirst, WrittenAbove, ReadAbove, VersionReadAbove, KeptAbove, GivesLow, LimitsPrepared, LimitsCommitted, GivesHigh, IsUnlimited, NamesEnds}
use Rattle.deneva_base.proofs.Membership.{in_left, in_right, in_cases, in_map, in_map_from, in_filter, filter_in, any_at, any_found, and_true, and_parts, key_decides, attempt_decides, number_decides, reading_decides}
use Rattle.protocol_rules.proofs.Unended.{not_ended, is_unended}
use Rattle.protocol_rules.proofs.Locks.{blocker_in, in_blockers}
use Rattle.protocol_rules.proofs.Timestamps.{top_by}
use Rattle.protocol_rules.proofs.Rangeds.{not_same}
use Rattle.protocol_rules.proofs.Leasts.{keys_ordered, attempts_ordered, owners_ordered, least_in, least_under, greatest_at, least_at, least_most, greatest_if, greatest_told}

-- the least of a list of owners
module _ (P : Grant → Type 0) (g : Grant) (gs : List Grant) (to : (x : Grant) → IsIn x (g ∷ gs) → P x) (from : (x : Grant) → P x → IsIn x (g ∷ gs)) where
  least_owner : IsLeast of_lesser P (least g gs)
  least_owner = (to (least g gs) (least_in of_lesser g gs), (λ x p. least_under of_lesser owners_ordered g gs x (from x p)))

module _ (loaded : Rows) (h : History) (who : Attempt) (stamp : ℕ) (key : Key) (mode : Mode) where
  abbrev asked : Asked
  asked = this who stamp key mode

  bar_in : (g : Grant) → Bars h asked g → IsIn g (blockers h asked)
  bar_in g b = blocker_in h asked g b.0 b.1 b.2

  in_elders : (g : Grant) → IsIn g (elders h asked) → Bars h asked g × (g.stamp < stamp)
  in_elders g i = let f = filter_in (λ x. ltb x.stamp stamp) g (blockers h asked) i in (in_blockers h asked g f.0, ltb-true g.stamp stamp f.1)

  elder_in : (g : Grant) → Bars h asked g × (g.stamp < stamp) → IsIn g (elders h asked)
  elder_in g b = in_filter (λ x. ltb x.stamp stamp) g (blockers h asked) (bar_in g b.0) (lt-ltb g.stamp stamp b.1)

  pub held_first : (k : Key) (by : Attempt) → (no_wait loaded).ask h who stamp key mode ≡ Refused (Held k by) → (k ≡ key) × BarsFirst h asked by
  held_first k by e = go (blockers h asked) refl e
    where
      go : (gs : List Grant) → blockers h asked ≡ gs → held_or_granted key gs (seen mode (latest loaded h key)) ≡ Refused (Held k by) → (k ≡ key) × BarsFirst h asked by
      go [] f q = absurd (cc (q))
      go (g ∷ gs) f q =
          let same : Held key (least g gs).who ≡ Held k by = cc (q) in
          let k_is : k ≡ key = cc (same) in
          let by_is : (least g gs).who ≡ by = cc (same) in
          (k_is, (least g gs, by_is, least_owner (Bars h asked) g gs (λ x i. in_blockers h asked x (subst (λ l. IsIn x l) (sym f) i)) (λ x b. subst (λ l. IsIn x l) f (bar_in x b))))

  pub held_where : (g : Grant) → Bars h asked g → (by : Attempt) × ((no_wait loaded).ask h who stamp key mode ≡ Refused (Held key by))
  held_where g b = go (blockers h asked) (bar_in g b)
    where
      go : (gs : List Grant) → IsIn g gs → (by : Attempt) × (held_or_granted key gs (seen mode (latest loaded h key)) ≡ Refused (Held key by))
      go [] i = absurd i
      go (x ∷ xs) i = ((least x xs).who, refl)

  pub younger_first : (k : Key) (by : Attempt) (age : ℕ) → (wait_die loaded).ask h who stamp key mode ≡ Refused (Younger k by age) → (k ≡ key) × ElderBarsFirst h asked by age
  younger_first k by age e = go (elders h asked) refl (is_free h asked) e
    where
      go : (gs : List Grant) → elders h asked ≡ gs → (b : Bool) → younger_or key gs b (seen mode (latest loaded h key)) ≡ Refused (Younger k by age) → (k ≡ key) × ElderBarsFirst h asked by age
      go [] f true q = absurd (cc (q))
      go [] f false q = absurd (cc (q))
      go (g ∷ gs) f b q =
          let same : Younger key (least g gs).who (least g gs).stamp ≡ Younger k by age = cc (q) in
          let k_is : k ≡ key = cc (same) in
          let by_is : (least g gs).who ≡ by = cc (same) in
          let age_is : (least g gs).stamp ≡ age = cc (same) in
          (k_is, (least g gs, by_is, age_is, least_owner (λ x. Bars h asked x × (x.stamp < stamp)) g gs (λ x i. in_elders x (subst (λ l. IsIn x l) (sym f) i)) (λ x p. subst (λ l. IsIn x l) f (elder_in x p))))

  pub younger_where : (g : Grant) → Bars h asked g → g.stamp < stamp → (by : Attempt) × (age : ℕ) × ((wait_die loaded).ask h who stamp key mode ≡ Refused (Younger key by age))
  younger_where g b lt = go (elders h asked) (elder_in g (b, lt))
    where
      go : (gs : List Grant) → IsIn g gs → (by : Attempt) × (age : ℕ) × (younger_or key gs (is_free h asked) (seen mode (latest loaded h key)) ≡ Refused (Younger key by age))
      go [] i = absurd i
      go (x ∷ xs) i = ((least x xs).who, (least x xs).stamp, refl)

  -- the greatest n of a committed write of the key
  top_write : stamp < top_written h key → WrittenAbove h key stamp (top_written h key)
  top_write lt =
      let m = greatest_at (λ (v : Version). v.number.n) (written h key) (omega (arith, lt)) in
      (lt, ((m.0, m.1, m.2), (λ x i. top_by (λ (v : Version). v.number.n) x (written h key) i)))

  read_here : (g : Grant) → (key_eq g.key key && reads g.mode) ≡ true → (g.key ≡ key) × IsReading g.mode
  read_here g t = let p = and_parts (key_eq g.key key) (reads g.mode) t in ((key_decides g.key key).0 p.0, (reading_decides g.mode).0 p.1)

  here_read : (g : Grant) → g.key ≡ key → IsReading g.mode → (key_eq g.key key && reads g.mode) ≡ true
  here_read g k r = and_true (key_eq g.key key) (reads g.mode) ((key_decides g.key key).1 k) ((reading_decides g.mode).1 r)

  top_reads : stamp < top_read h key → ReadAbove h key stamp (top_read h key)
  top_reads lt = (
    lt,
    greatest_told (λ (g : Grant). g.stamp) (λ g. IsIn g (grants h) × ((key_eq g.key key && reads g.mode) ≡ true)) (λ g. IsIn g (grants h) × (g.key ≡ key) × IsReading g.mode) (top_read h key)
        (λ g p. let q = read_here g p.1 in (p.0, q.0, q.1))
        (λ g p. (p.0, here_read g p.1 p.2))
        (greatest_if (λ g. key_eq g.key key && reads g.mode) (λ g. g.stamp) (grants h) (omega (arith, lt))),
  )

  number_same : (a b : Number) → number_eq a b ≡ true → a ≡ b
  number_same a b e = let p = and_parts (eqb a.n b.n) (eqb a.id.0 b.id.0) e in let n : a.n ≡ b.n = nat a.n b.n p.0 in let i : a.id.0 ≡ b.id.0 = nat a.id.0 b.id.0 p.1 in λ j. record { n = n j; id = record { 0 = i j } }
    where
      nat : (x y : ℕ) → eqb x y ≡ true → x ≡ y
      nat x y e = grind (arith, nat_tests, e)

  same_number : (a b : Number) → a ≡ b → number_eq a b ≡ true
  same_number a b e = subst (λ z. number_eq a z ≡ true) e (self a)
    where
      self : (a : Number) → number_eq a a ≡ true
      self a = grind (arith, nat_tests)

  top_version_reads : (v : Number) → stamp < top_reader h key v → VersionReadAbove h key v stamp (top_reader h key v)
  top_version_reads v lt = (
    lt,
    greatest_told (λ (g : Grant). g.stamp) (λ g. IsIn g (grants h) × ((key_eq g.key key && (reads g.mode && number_eq g.version v)) ≡ true)) (λ g. IsIn g (grants h) × (g.key ≡ key) × IsReading g.mode × (g.version ≡ v)) (top_reader h key v)
        (λ g p.
        let q = and_parts (key_eq g.key key) (reads g.mode && number_eq g.version v) p.1 in
        let r = and_parts (reads g.mode) (number_eq g.version v) q.1 in
        (p.0, (key_decides g.key key).0 q.0, (reading_decides g.mode).0 r.0, number_same g.version v r.1))
        (λ g p. (p.0, and_true (key_eq g.key key) (reads g.mode && number_eq g.version v) ((key_decides g.key key).1 p.1) (and_true (reads g.mode) (number_eq g.version v) ((reading_decides g.mode).1 p.2) (same_number g.version v p.3))))
        (greatest_if (λ g. key_eq g.key key && (reads g.mode && number_eq g.version v)) (λ g. g.stamp) (grants h) (omega (arith, lt))),
  )

  kept_above : (keep : ℕ) → stamp < floor keep loaded h key → KeptAbove keep loaded h key stamp (floor keep loaded h key)
  kept_above keep lt = go (eqb keep 0) refl lt
    where
      vs : List Version
      vs = versions loaded h key

      le : (x : ℕ) → leb keep x ≡ true → keep ≤ x
      le x e = grind (arith, nat_tests, e)

      le_is : (x : ℕ) → keep ≤ x → leb keep x ≡ true
      le_is x l = grind (arith, nat_tests, l)

      go : (b : Bool) → eqb keep 0 ≡ b → stamp < cond b 0 (nth_greatest keep vs) → KeptAbove keep loaded h key stamp (cond b 0 (nth_greatest keep vs))
      go true e l = absurd (omega (arith, l))
      go false e l = (
        l,
        greatest_told (λ (v : Version). v.number.n) (λ v. IsIn v vs × (leb keep (as_great vs v) ≡ true)) (λ v. IsIn v vs × (keep ≤ as_great vs v)) (nth_greatest keep vs)
            (λ v p. (p.0, le (as_great vs v) p.1))
            (λ v p. (p.0, le_is (as_great vs v) p.1))
            (greatest_if (λ v. leb keep (as_great vs v)) (λ v. v.number.n) vs (omega (arith, l))),
      )

  -- the cases of the two answers by stamps
  abbrev stamp_cases : Bool → Bool → Answer → Answer
  stamp_cases a b rest = cond a (Refused (Written key (top_written h key))) (cond b (Refused (ReadLater key (top_read h key))) rest)

  abbrev last_case : Bool → Version → Answer
  last_case b v = cond b Waits (granted_with v)

  pub written_first : (k : Key) (s : ℕ) → (timestamp loaded).ask h who stamp key mode ≡ Refused (Written k s) → (k ≡ key) × WrittenAbove h key stamp s
  written_first k s e = go (reads mode && ltb stamp (top_written h key)) refl (writes mode && ltb stamp (top_read h key)) (reads mode && list_any (older_writer asked) (holders h)) e
    where
      go : (a : Bool) → (reads mode && ltb stamp (top_written h key)) ≡ a → (b c : Bool) → stamp_cases a b (last_case c (seen mode (below loaded h key stamp))) ≡ Refused (Written k s) → (k ≡ key) × WrittenAbove h key stamp s
      go true f b c q =
          let same : Written key (top_written h key) ≡ Written k s = cc (q) in
          let k_is : k ≡ key = cc (same) in
          let s_is : top_written h key ≡ s = cc (same) in
          (k_is, subst (WrittenAbove h key stamp) s_is (top_write (ltb-true stamp (top_written h key) (and_parts (reads mode) (ltb stamp (top_written h key)) f).1)))
      go false f true c q = absurd (cc (q))
      go false f false true q = absurd (cc (q))
      go false f false false q = absurd (cc (q))

  pub read_later_first : (k : Key) (s : ℕ) → (timestamp loaded).ask h who stamp key mode ≡ Refused (ReadLater k s) → (k ≡ key) × ReadAbove h key stamp s
  read_later_first k s e = go (reads mode && ltb stamp (top_written h key)) (writes mode && ltb stamp (top_read h key)) refl (reads mode && list_any (older_writer asked) (holders h)) e
    where
      go : (a b : Bool) → (writes mode && ltb stamp (top_read h key)) ≡ b → (c : Bool) → stamp_cases a b (last_case c (seen mode (below loaded h key stamp))) ≡ Refused (ReadLater k s) → (k ≡ key) × ReadAbove h key stamp s
      go true b f c q = absurd (cc (q))
      go false true f c q =
          let same : ReadLater key (top_read h key) ≡ ReadLater k s = cc (q) in
          let k_is : k ≡ key = cc (same) in
          let s_is : top_read h key ≡ s = cc (same) in
          (k_is, subst (ReadAbove h key stamp) s_is (top_reads (ltb-true stamp (top_read h key) (and_parts (writes mode) (ltb stamp (top_read h key)) f).1)))
      go false false f true q = absurd (cc (q))
      go false false f false q = absurd (cc (q))

  module _ (keep : ℕ) where
    abbrev v_read : Number
    v_read = (below loaded h key stamp).number

    abbrev version_cases : Bool → Bool → Answer → Answer
    version_cases a b rest = cond a (Refused (Trimmed key (floor keep loaded h key))) (cond b (Refused (ReadLater key (top_reader h key v_read))) rest)

    pub trimmed_first : (k : Key) (s : ℕ) → (mvcc keep loaded).ask h who stamp key mode ≡ Refused (Trimmed k s) → (k ≡ key) × KeptAbove keep loaded h key stamp s
    trimmed_first k s e = go (ltb stamp (floor keep loaded h key)) refl (writes mode && ltb stamp (top_reader h key v_read)) (reads mode && list_any (writer_between loaded h asked) (holders h)) e
      where
        go : (a : Bool) → ltb stamp (floor keep loaded h key) ≡ a → (b c : Bool) → version_cases a b (last_case c (seen mode (below loaded h key stamp))) ≡ Refused (Trimmed k s) → (k ≡ key) × KeptAbove keep loaded h key stamp s
        go true f b c q =
            let same : Trimmed key (floor keep loaded h key) ≡ Trimmed k s = cc (q) in
            let k_is : k ≡ key = cc (same) in
            let s_is : floor keep loaded h key ≡ s = cc (same) in
            (k_is, subst (KeptAbove keep loaded h key stamp) s_is (kept_above keep (ltb-true stamp (floor keep loaded h key) f)))
        go false f true c q = absurd (cc (q))
        go false f false true q = absurd (cc (q))
        go false f false false q = absurd (cc (q))

    pub version_later_first : (k : Key) (s : ℕ) → (mvcc keep loaded).ask h who stamp key mode ≡ Refused (ReadLater k s) → (k ≡ key) × VersionReadAbove h key v_read stamp s
    version_later_first k s e = go (ltb stamp (floor keep loaded h key)) (writes mode && ltb stamp (top_reader h key v_read)) refl (reads mode && list_any (writer_between loaded h asked) (holders h)) e
      where
        go : (a b : Bool) → (writes mode && ltb stamp (top_reader h key v_read)) ≡ b → (c : Bool) → version_cases a b (last_case c (seen mode (below loaded h key stamp))) ≡ Refused (ReadLater k s) → (k ≡ key) × VersionReadAbove h key v_read stamp s
        go true b f c q = absurd (cc (q))
        go false true f c q =
            let same : ReadLater key (top_reader h key v_read) ≡ ReadLater k s = cc (q) in
            let k_is : k ≡ key = cc (same) in
            let s_is : top_reader h key v_read ≡ s = cc (same) in
            (k_is, subst (VersionReadAbove h key v_read stamp) s_is (top_version_reads v_read (ltb-true stamp (top_reader h key v_read) (and_parts (writes mode) (ltb stamp (top_reader h key v_read)) f).1)))
        go false false f true q = absurd (cc (q))
        go false false f false q = absurd (cc (q))

-- what limits a window under MAAT
module _ (h : History) (who : Attempt) where
  prepared_tells : (g : Grant) (y : Yea) → IsIn g (grants h) → IsIn y (yeas h) → limits_prepared h who g y ≡ true → LimitsPrepared h who g y
  prepared_tells g y i j t =
      let a = and_parts (attempt_eq g.who who) (reads g.mode && (not (attempt_eq y.who who) && (not (has_ended h y.who) && (lists y.writes g.key && ltb g.version.n y.hi)))) t in
      let b = and_parts (reads g.mode) (not (attempt_eq y.who who) && (not (has_ended h y.who) && (lists y.writes g.key && ltb g.version.n y.hi))) a.1 in
      let c = and_parts (not (attempt_eq y.who who)) (not (has_ended h y.who) && (lists y.writes g.key && ltb g.version.n y.hi)) b.1 in
      let d = and_parts (not (has_ended h y.who)) (lists y.writes g.key && ltb g.version.n y.hi) c.1 in
      let e = and_parts (lists y.writes g.key) (ltb g.version.n y.hi) d.1 in
      (i, j, (attempt_decides g.who who).0 a.0, (reading_decides g.mode).0 b.0, (λ s. true≢false (sym c.0 ∙ ap not ((attempt_decides y.who who).1 s))), is_unended h y.who d.0, e.0, ltb-true g.version.n y.hi e.1)

  pub told_prepared : (g : Grant) (y : Yea) → LimitsPrepared h who g y → limits_prepared h who g y ≡ true
  told_prepared g y l =
      and_true (attempt_eq g.who who) (reads g.mode && (not (attempt_eq y.who who) && (not (has_ended h y.who) && (lists y.writes g.key && ltb g.version.n y.hi)))) ((attempt_decides g.who who).1 l.2)
      (and_true (reads g.mode) (not (attempt_eq y.who who) && (not (has_ended h y.who) && (lists y.writes g.key && ltb g.version.n y.hi))) ((reading_decides g.mode).1 l.3)
      (and_true (not (attempt_eq y.who who)) (not (has_ended h y.who) && (lists y.writes g.key && ltb g.version.n y.hi)) (not_same y.who who l.4)
      (and_true (not (has_ended h y.who)) (lists y.writes g.key && ltb g.version.n y.hi) (not_ended h y.who l.5)
      (and_true (lists y.writes g.key) (ltb g.version.n y.hi) l.6 (lt-ltb g.version.n y.hi l.7)))))

  committed_tells : (g : Grant) (d : Decided) → IsIn g (grants h) → IsIn d (decided h) → limits_committed h who g d ≡ true → LimitsCommitted h who g d
  committed_tells g d i j t =
      let a = and_parts (attempt_eq g.who who) (reads g.mode && (wrote h d.who g.key && number_lt g.version d.number)) t in
      let b = and_parts (reads g.mode) (wrote h d.who g.key && number_lt g.version d.number) a.1 in
      let c = and_parts (wrote h d.who g.key) (number_lt g.version d.number) b.1 in
      (i, j, (attempt_decides g.who who).0 a.0, (reading_decides g.mode).0 b.0, c.0, (number_decides g.version d.number).0 c.1)

  pub told_committed : (g : Grant) (d : Decided) → LimitsCommitted h who g d → limits_committed h who g d ≡ true
  told_committed g d l =
      and_true (attempt_eq g.who who) (reads g.mode && (wrote h d.who g.key && number_lt g.version d.number)) ((attempt_decides g.who who).1 l.2)
      (and_true (reads g.mode) (wrote h d.who g.key && number_lt g.version d.number) ((reading_decides g.mode).1 l.3)
      (and_true (wrote h d.who g.key) (number_lt g.version d.number) l.4 ((number_decides g.version d.number).1 l.5)))

  eqb_is : (n m : ℕ) → eqb n m ≡ true → n ≡ m
  eqb_is n m e = grind (arith, nat_tests, e)

  is_eqb : (n m : ℕ) → n ≡ m → eqb n m ≡ true
  is_eqb n m e = grind (arith, nat_tests, e)

  abbrev names : ℕ → List Attempt
  names hi = map (λ (y : Yea). y.who) (filter (gives_prepared h who hi) (yeas h)) ++ map (λ (d : Decided). d.who) (filter (gives_committed h who hi) (decided h))

  pub named_gives : (hi : ℕ) (x : Attempt) → IsIn x (names hi) → GivesHigh h who hi x
  named_gives hi x i =
      ⊎_elim
      (λ p.
      let m = in_map_from (λ (y : Yea). y.who) x (filter (gives_prepared h who hi) (yeas h)) p in
      let f = filter_in (gives_prepared h who hi) m.0 (yeas h) m.1 in
      let g = any_found (λ z. limits_prepared h who z m.0 && eqb (m.0.lo - 1) hi) (grants h) f.1 in
      let t = and_parts (limits_prepared h who g.0 m.0) (eqb (m.0.lo - 1) hi) g.2 in
      inl (g.0, m.0, prepared_tells g.0 m.0 g.1 f.0 t.0, sym m.2, eqb_is (m.0.lo - 1) hi t.1))
      (λ p.
      let m = in_map_from (λ (d : Decided). d.who) x (filter (gives_committed h who hi) (decided h)) p in
      let f = filter_in (gives_committed h who hi) m.0 (decided h) m.1 in
      let g = any_found (λ z. limits_committed h who z m.0 && eqb (m.0.number.n - 1) hi) (grants h) f.1 in
      let t = and_parts (limits_committed h who g.0 m.0) (eqb (m.0.number.n - 1) hi) g.2 in
      inr (g.0, m.0, committed_tells g.0 m.0 g.1 f.0 t.0, sym m.2, eqb_is (m.0.number.n - 1) hi t.1))
      (in_cases x (map (λ (y : Yea). y.who) (filter (gives_prepared h who hi) (yeas h))) (map (λ (d : Decided). d.who) (filter (gives_committed h who hi) (decided h))) i)

  pub gives_named : (hi : ℕ) (x : Attempt) → GivesHigh h who hi x → IsIn x (names hi)
  gives_named hi x gives =
      ⊎_elim
      (λ (p : (g : Grant) × (y : Yea) × LimitsPrepared h who g y × (y.who ≡ x) × (y.lo - 1 ≡ hi)).
      subst (λ a. IsIn a (names hi)) p.3
      (in_left p.1.who (map (λ (y : Yea). y.who) (filter (gives_prepared h who hi) (yeas h))) (map (λ (d : Decided). d.who) (filter (gives_committed h who hi) (decided h)))
      (in_map (λ (y : Yea). y.who) p.1 (filter (gives_prepared h who hi) (yeas h))
      (in_filter (gives_prepared h who hi) p.1 (yeas h) p.2.1
      (any_at (λ z. limits_prepared h who z p.1 && eqb (p.1.lo - 1) hi) p.0 (grants h) p.2.0 (and_true (limits_prepared h who p.0 p.1) (eqb (p.1.lo - 1) hi) (told_prepared p.0 p.1 p.2) (is_eqb (p.1.lo - 1) hi p.4)))))))
      (λ (p : (g : Grant) × (d : Decided) × LimitsCommitted h who g d × (d.who ≡ x) × (d.number.n - 1 ≡ hi)).
      subst (λ a. IsIn a (names hi)) p.3
      (in_right p.1.who (map (λ (y : Yea). y.who) (filter (gives_prepared h who hi) (yeas h))) (map (λ (d : Decided). d.who) (filter (gives_committed h who hi) (decided h)))
      (in_map (λ (d : Decided). d.who) p.1 (filter (gives_committed h who hi) (decided h))
      (in_filter (gives_committed h who hi) p.1 (decided h) p.2.1
      (any_at (λ z. limits_committed h who z p.1 && eqb (p.1.number.n - 1) hi) p.0 (grants h) p.2.0 (and_true (limits_committed h who p.0 p.1) (eqb (p.1.number.n - 1) hi) (told_committed p.0 p.1 p.2) (is_eqb (p.1.number.n - 1) hi p.4)))))))
      gives

  pub high_most : high h who ≤ 2 ^ 63
  high_most = omega (arith, least_most (λ (g : Grant). least_by (under_prepared h who g) (yeas h)) (grants h))

  -- an upper end below that of all numbers comes from an access that reads
  pub high_given : high h who < 2 ^ 63 → (by : Attempt) × GivesHigh h who (high h who) by
  high_given lt =
      ⊎_elim
      (λ (less : least_by (λ g. least_by (under_prepared h who g) (yeas h)) (grants h) < least_by (λ g. least_by (under_committed h who g) (decided h)) (grants h)).
      let p = least_at (λ (g : Grant). least_by (under_prepared h who g) (yeas h)) (grants h) (omega (arith, less, lt)) in
      let y = least_at (under_prepared h who p.0) (yeas h) (omega (arith, p.2, less, lt)) in
      by_prepared p.0 y.0 p.1 y.1 (omega (arith, p.2, y.2, less)))
      (λ (more : least_by (λ g. least_by (under_committed h who g) (decided h)) (grants h) ≤ least_by (λ g. least_by (under_prepared h who g) (yeas h)) (grants h)).
      let p = least_at (λ (g : Grant). least_by (under_committed h who g) (decided h)) (grants h) (omega (arith, more, lt)) in
      let d = least_at (under_committed h who p.0) (decided h) (omega (arith, p.2, more, lt)) in
      by_committed p.0 d.0 p.1 d.1 (omega (arith, p.2, d.2, more)))
      (cases_lt (least_by (λ (g : Grant). least_by (under_prepared h who g) (yeas h)) (grants h)) (least_by (λ (g : Grant). least_by (under_committed h who g) (decided h)) (grants h)))
    where
      prepared : (g : Grant) (y : Yea) → IsIn g (grants h) → IsIn y (yeas h) → (b : Bool) → limits_prepared h who g y ≡ b → cond b (y.lo - 1) (2 ^ 63) ≡ high h who → (by : Attempt) × GivesHigh h who (high h who) by
      prepared g y i j true t e = (y.who, inl (g, y, prepared_tells g y i j t, refl, e))
      prepared g y i j false t e = absurd (omega (arith, e, lt))

      committed : (g : Grant) (d : Decided) → IsIn g (grants h) → IsIn d (decided h) → (b : Bool) → limits_committed h who g d ≡ b → cond b (d.number.n - 1) (2 ^ 63) ≡ high h who → (by : Attempt) × GivesHigh h who (high h who) by
      committed g d i j true t e = (d.who, inr (g, d, committed_tells g d i j t, refl, e))
      committed g d i j false t e = absurd (omega (arith, e, lt))

      by_prepared : (g : Grant) (y : Yea) → IsIn g (grants h) → IsIn y (yeas h) → under_prepared h who g y ≡ high h who → (by : Attempt) × GivesHigh h who (high h who) by
      by_prepared g y i j e = prepared g y i j (limits_prepared h who g y) refl e

      by_committed : (g : Grant) (d : Decided) → IsIn g (grants h) → IsIn d (decided h) → under_committed h who g d ≡ high h who → (by : Attempt) × GivesHigh h who (high h who) by
      by_committed g d i j e = committed g d i j (limits_committed h who g d) refl e

  pub high_first : IsLeast attempt_lt (GivesHigh h who (high h who)) (hi_by h who (high h who)) ⊎ IsUnlimited h who (high h who) (hi_by h who (high h who))
  high_first = go (names (high h who)) refl
    where
      go : (xs : List Attempt) → names (high h who) ≡ xs → IsLeast attempt_lt (GivesHigh h who (high h who)) (least_or attempt_lt who xs) ⊎ IsUnlimited h who (high h who) (least_or attempt_lt who xs)
      go [] e =
          let none : (x : Attempt) → GivesHigh h who (high h who) x → ⊥ = λ x gives. subst (λ l. IsIn x l) e (gives_named (high h who) x gives) in
          inr (⊎_elim (λ lt. let g = high_given lt in absurd (none g.0 g.1)) (λ ge. omega (arith, ge, high_most)) (cases_lt (high h who) (2 ^ 63)), refl, none)
      go (x ∷ xs) e =
          inl (
            named_gives (high h who) (least_of attempt_lt x xs) (subst (λ l. IsIn (least_of attempt_lt x xs) l) (sym e) (least_in attempt_lt x xs)),
            (λ z gives. least_under attempt_lt attempts_ordered x xs z (subst (λ l. IsIn z l) e (gives_named (high h who) z gives))),
          )

  module _ (bound : Bound) (writes : List Keyed) where
    abbrev lo : ℕ
    lo = low h who bound writes

    -- an access of the attempt that reads asks for a lower end
    read_low : (g : Grant) → g.who ≡ who → IsReading g.mode → 1 ≤ low_of h who writes g
    read_low g w r = rw ((attempt_decides g.who who).1 w) (rw ((reading_decides g.mode).1 r) (omega arith))

    reader : (hi : ℕ) (by : Attempt) → GivesHigh h who hi by → 1 ≤ greatest_by (low_of h who writes) (grants h)
    reader hi by gives =
        ⊎_elim
        (λ (p : (g : Grant) × (y : Yea) × LimitsPrepared h who g y × (y.who ≡ by) × (y.lo - 1 ≡ hi)). omega (arith, read_low p.0 p.2.2 p.2.3, top_by (low_of h who writes) p.0 (grants h) p.2.0))
        (λ (p : (g : Grant) × (d : Decided) × LimitsCommitted h who g d × (d.who ≡ by) × (d.number.n - 1 ≡ hi)). omega (arith, read_low p.0 p.2.2 p.2.3, top_by (low_of h who writes) p.0 (grants h) p.2.0))
        gives

    -- a lower end above the upper end is that of the bound or of an access
    low_given : high h who < lo → bound.n ≢ lo → (g : Grant) × IsIn g (grants h) × (low_of h who writes g ≡ lo)
    low_given empty not =
        let top : 1 ≤ greatest_by (low_of h who writes) (grants h) =
        ⊎_elim
        (λ lt. let g = high_given lt in reader (high h who) g.0 g.1)
        (λ (ge : 2 ^ 63 ≤ high h who). ⊎_elim (λ small. omega (arith, ge, empty, small, not)) (λ big. big) (cases_lt (greatest_by (low_of h who writes) (grants h)) 1))
        (cases_lt (high h who) (2 ^ 63)) in
        let m = greatest_at (low_of h who writes) (grants h) (omega (arith, top)) in
        (m.0, m.1, omega (arith, m.2, top, not, empty))

    pub low_first : high h who < lo → bound.n ≢ lo → IsLeast key_lt (GivesLow h who writes lo) (lo_key h bound (low_of h who writes) lo)
    low_first empty not =
        rw (apart bound.n lo not) (go (map (λ (g : Grant). g.key) (filter (λ g. eqb (low_of h who writes g) lo) (grants h))) refl)
      where
        apart : (n m : ℕ) → n ≢ m → eqb n m ≡ false
        apart n m e = grind (arith, nat_tests, e)

        listed : (k : Key) → GivesLow h who writes lo k → IsIn k (map (λ (g : Grant). g.key) (filter (λ g. eqb (low_of h who writes g) lo) (grants h)))
        listed k p =
            subst (λ q. IsIn q (map (λ (g : Grant). g.key) (filter (λ g. eqb (low_of h who writes g) lo) (grants h)))) p.2
            (in_map (λ (g : Grant). g.key) p.0 (filter (λ g. eqb (low_of h who writes g) lo) (grants h)) (in_filter (λ g. eqb (low_of h who writes g) lo) p.0 (grants h) p.1 (is_eqb (low_of h who writes p.0) lo p.3)))

        tells : (k : Key) → IsIn k (map (λ (g : Grant). g.key) (filter (λ g. eqb (low_of h who writes g) lo) (grants h))) → GivesLow h who writes lo k
        tells k i =
            let m = in_map_from (λ (g : Grant). g.key) k (filter (λ g. eqb (low_of h who writes g) lo) (grants h)) i in
            let f = filter_in (λ g. eqb (low_of h who writes g) lo) m.0 (grants h) m.1 in
            (m.0, f.0, sym m.2, eqb_is (low_of h who writes m.0) lo f.1)

        go : (ks : List Key) → map (λ (g : Grant). g.key) (filter (λ g. eqb (low_of h who writes g) lo) (grants h)) ≡ ks → IsLeast key_lt (GivesLow h who writes lo) (least_or key_lt bound.key ks)
        go [] e = let g = low_given empty not in absurd (subst (λ l. IsIn g.0.key l) e (listed g.0.key (g.0, g.1, refl, g.2)))
        go (k ∷ ks) e = (
          tells (least_of key_lt k ks) (subst (λ l. IsIn (least_of key_lt k ks) l) (sym e) (least_in key_lt k ks)),
          (λ q p. least_under key_lt keys_ordered k ks q (subst (λ l. IsIn q l) e (listed q p))),
        )

    -- a vote No names the ends of its window
    pub ends_named : (span : ℕ) (loaded : Rows) (appends : List Keyed) (l : ℕ) (key : Key) (u : ℕ) (by : Attempt) → (maat span loaded).vote h who bound writes appends ≡ No (EmptyRange l key u by) → NamesEnds h who bound writes l key u by
    ends_named span loaded appends l key u by e = go (leb lo (high h who)) refl e
      where
        parts : high h who < lo → (l ≡ lo) → (key ≡ lo_key h bound (low_of h who writes) lo) → (u ≡ high h who) → (by ≡ hi_by h who (high h who)) → NamesEnds h who bound writes l key u by
        parts empty l_is k_is u_is by_is = record {
          empty = omega (arith, empty, l_is, u_is);
          low = l_is;
          high = u_is;
          of_bound = λ same. k_is ∙ ap (λ b. cond b bound.key (least_or key_lt bound.key (map (λ (g : Grant). g.key) (filter (λ g. eqb (low_of h who writes g) lo) (grants h))))) (is_eqb bound.n lo (same ∙ l_is));
          of_access = λ not. subst (λ n. IsLeast key_lt (GivesLow h who writes n) key) (sym l_is) (subst (IsLeast key_lt (GivesLow h who writes lo)) (sym k_is) (low_first empty (λ same. not (same ∙ sym l_is))));
          of_attempt = subst (λ n. IsLeast attempt_lt (GivesHigh h who n) by ⊎ IsUnlimited h who n by) (sym u_is) (subst (λ x. IsLeast attempt_lt (GivesHigh h who (high h who)) x ⊎ IsUnlimited h who (high h who) x) (sym by_is) high_first);
        }

        go : (b : Bool) → leb lo (high h who) ≡ b → cond b (Yes lo (min (high h who) (lo + span - 1))) (No (EmptyRange lo (lo_key h bound (low_of h who writes) lo) (high h who) (hi_by h who (high h who)))) ≡ No (EmptyRange l key u by) → NamesEnds h who bound writes l key u by
        go true t q = absurd (cc (q))
        go false t q =
            let same : EmptyRange lo (lo_key h bound (low_of h who writes) lo) (high h who) (hi_by h who (high h who)) ≡ EmptyRange l key u by = cc (q) in
            let l_is : l ≡ lo = cc (same) in
            let k_is : key ≡ lo_key h bound (low_of h who writes) lo = cc (same) in
            let u_is : u ≡ high h who = cc (same) in
            let by_is : by ≡ hi_by h who (high h who) = cc (same) in
            parts (leb-false lo (high h who) t) l_is k_is u_is by_is
