-- The laws of every rule that grants the latest version and votes windows as MAAT does, or smaller ones.
use Rattle.std.proofs.Common.{◌≡◌, ◌≢◌, ◌⊎◌, ℕ, suc, ◌-◌, ◌^◌, ◌<◌, ◌≤◌, max, List, [], ◌∷◌, true, false, cond, not, ltb, ◌&&◌, refl, sym, ap, ◌∙◌, subst, inl, inr, ⊎_elim, arith}
use Rattle.std.proofs.lemmas.Bool.{cases_lt, cases_Bool, lt-ltb}
use Rattle.std.proofs.lemmas.Bool.Decides.{nat_tests}
use Rattle.deneva_base.specs.declared.keys.Key.{Key}
use Rattle.deneva_base.specs.declared.numbers.Attempt.{Attempt}
use Rattle.deneva_base.specs.declared.numbers.Number.{Number}
use Rattle.deneva_base.specs.declared.keys.Mode.{Mode}
use Rattle.deneva_base.specs.Lists.{IsIn, least_by}
use Rattle.deneva_base.specs.Rows.{Row, Rows}
use Rattle.deneva_base.specs.Modes.{IsReading, reads}
use Rattle.deneva_base.specs.Keys.{key_eq, attempt_eq, number_lt}
use Rattle.deneva_base.specs.declared.causes.Cause.{Cause}
use Rattle.deneva_base.specs.declared.answers.Answer.{Answer}
use Rattle.deneva_base.specs.declared.answers.Answer.TheVariants.{Granted, Waits, Refused}
use Rattle.deneva_base.specs.declared.answers.Vote.{Vote}
use Rattle.deneva_base.specs.declared.answers.Vote.TheVariants.{Yes, No}
use Rattle.deneva_base.specs.declared.causes.Bound.{Bound}
use Rattle.deneva_base.specs.declared.rows.Keyed.{Keyed}
use Rattle.protocol_rules.specs.History.{Ask, Prepare, Commit, Abort, History, Grant, Yea, grants, waits, yeas, decided, IsUnended, Writes}
use Rattle.protocol_rules.specs.Windows.{HasWindow, IsVersion, KeepsWindows}
use Rattle.protocol_rules.specs.Wakes.{KeepsWakes, WakesWaiters}
use Rattle.protocol_rules.specs.Waits.{NothingWaits}
use Rattle.protocol_rules.specs.Rules.{Rule, Obeys}
use Rattle.protocol_rules.specs.Latest.{latest, has_ended, seen}
use Rattle.deneva_base.proofs.Membership.{any_at, and_true, key_decides, attempt_decides, attempt_tells, reading_decides}
use Rattle.protocol_rules.proofs.Unended.{not_ended}
use Rattle.protocol_rules.proofs.Sound.{Sound, sound}
use Rattle.protocol_rules.proofs.Known.{left_wait}
use Rattle.protocol_rules.proofs.VoteLaws.{keeps_wakes, VotesFresh, windows}
use Rattle.protocol_rules.specs.Ranged.{lists, accessed, wrote, past_committed, past_prepared, past, grant_latest, low_of, low, under_prepared, under_committed, high}
use Rattle.protocol_rules.proofs.Timestamps.{top_by, seen_read}

pub bottom_by : {A : Type 0} (f : A → ℕ) (x : A) (xs : List A) → IsIn x xs → least_by f xs ≤ f x
bottom_by f x [] i = absurd i
bottom_by f x (y ∷ xs) i = ⊎_elim (λ e. omega (arith, ap f e)) (λ r. omega (arith, bottom_by f x xs r)) i

pub lists_at : (ws : List Keyed) (w : Keyed) (key : Key) → IsIn w ws → w.key ≡ key → lists ws key ≡ true
lists_at ws w key i e = any_at (λ (x : Keyed). key_eq x.key key) w ws i ((key_decides w.key key).1 e)

pub accessed_at : (h : History) (u : Attempt) (key : Key) (g : Grant) → IsIn g (grants h) → g.who ≡ u → g.key ≡ key → accessed h u key ≡ true
accessed_at h u key g i e k = any_at (λ (x : Grant). attempt_eq x.who u && key_eq x.key key) g (grants h) i (and_true (attempt_eq g.who u) (key_eq g.key key) ((attempt_decides g.who u).1 e) ((key_decides g.key key).1 k))

pub wrote_at : (h : History) (u : Attempt) (key : Key) (row : Row) → Writes h u key row → wrote h u key ≡ true
wrote_at h u key row x = any_at (λ (y : Yea). attempt_eq y.who u && lists y.writes key) x.0 (yeas h) x.2 (and_true (attempt_eq x.0.who u) (lists x.0.writes key) ((attempt_decides x.0.who u).1 x.1) (lists_at x.0.writes (record { key = key; row = row }) key x.3 refl))

pub not_same : (a b : Attempt) → a ≢ b → not (attempt_eq a b) ≡ true
not_same a b ne = ⊎_elim (λ t. absurd (ne t.1)) (λ t. rw t.0) (attempt_tells a b)

-- the window of an attempt that accessed the key ends below what passes the key
pub past_over : (h : History) (r : Attempt) (lo hi : ℕ) (key : Key) (g : Grant) → HasWindow h r lo hi → IsIn g (grants h) → g.who ≡ r → g.key ≡ key → hi < past h key
past_over h r lo hi key g w i e k =
    ⊎_elim
    (λ d. omega (arith, top_by (past_committed h key) d.0 (decided h) d.2, ap (λ b. cond b (suc d.0.number.n) 0) (accessed_at h d.0.who key g i (e ∙ sym d.1) k), d.4))
    (λ y. omega (
      arith,
      top_by (past_prepared h key) y.0 (yeas h) y.2,
      ap (λ b. cond b (suc y.0.hi) 0) (and_true (not (has_ended h y.0.who)) (accessed h y.0.who key) (not_ended h y.0.who (subst (λ a. IsUnended h a) (sym y.1) y.3)) (accessed_at h y.0.who key g i (e ∙ sym y.1) k)),
      y.5,
    ))
    w

-- the lower end is above each version read and past all that accessed a key written
pub low_read : (h : History) (who : Attempt) (bound : Bound) (ws : List Keyed) (g : Grant) → IsIn g (grants h) → g.who ≡ who → IsReading g.mode → g.version.n < low h who bound ws
low_read h who bound ws g i e r =
    omega (
      arith,
      top_by (low_of h who ws) g (grants h) i,
      ap (λ b. cond b (max (cond (reads g.mode) (suc g.version.n) 0) (cond (lists ws g.key) (past h g.key) 0)) 0) ((attempt_decides g.who who).1 e),
      ap (λ b. cond b (suc g.version.n) 0) ((reading_decides g.mode).1 r),
    )

pub low_written : (h : History) (who : Attempt) (bound : Bound) (ws : List Keyed) (g : Grant) (w : Keyed) → IsIn g (grants h) → g.who ≡ who → IsIn w ws → w.key ≡ g.key → past h g.key ≤ low h who bound ws
low_written h who bound ws g w i e j k =
    omega (
      arith,
      top_by (low_of h who ws) g (grants h) i,
      ap (λ b. cond b (max (cond (reads g.mode) (suc g.version.n) 0) (cond (lists ws g.key) (past h g.key) 0)) 0) ((attempt_decides g.who who).1 e),
      ap (λ b. cond b (past h g.key) 0) (lists_at ws w g.key j k),
    )

below_or : (v n : Number) (k : ℕ) → number_lt v n ≡ false → k ≡ n.n → k ≤ v.n
below_or v n k t e = grind (arith, nat_tests, t, e)

-- the upper end is below a writer above the version
pub high_under : (loaded : Rows) (h : History) (who : Attempt) (g : Grant) (u : Attempt) (lo hi : ℕ) (row : Row) → Sound loaded h → IsIn g (grants h) → g.who ≡ who → IsReading g.mode → u ≢ who → HasWindow h u lo hi → Writes h u g.key row → (hi ≤ g.version.n) ⊎ (high h who ≤ lo - 1)
high_under loaded h who g u lo hi row so i e r n w x =
    ⊎_elim
    (λ d.
    ⊎_elim
    (λ (t : number_lt g.version d.0.number ≡ true).
    inr (omega (
      arith,
      bottom_by (λ (z : Grant). least_by (under_committed h who z) (decided h)) g (grants h) i,
      bottom_by (under_committed h who g) d.0 (decided h) d.2,
      ap (λ b. cond b (d.0.number.n - 1) (2 ^ 63))
          (and_true (attempt_eq g.who who) (reads g.mode && (wrote h d.0.who g.key && number_lt g.version d.0.number)) ((attempt_decides g.who who).1 e)
          (and_true (reads g.mode) (wrote h d.0.who g.key && number_lt g.version d.0.number) ((reading_decides g.mode).1 r)
          (and_true (wrote h d.0.who g.key) (number_lt g.version d.0.number) (wrote_at h d.0.who g.key row (x.0, x.1 ∙ sym d.1, x.2, x.3)) t))),
      d.3,
    )))
    (λ (t : number_lt g.version d.0.number ≡ false). inl (below_or g.version d.0.number hi t d.4))
    (cases_Bool (number_lt g.version d.0.number)))
    (λ y.
    let same : x.0 ≡ y.0 = so.one x.0 y.0 x.2 y.2 (x.1 ∙ sym y.1) in
    ⊎_elim
    (λ (t : g.version.n < x.0.hi).
    inr (omega (
      arith,
      bottom_by (λ (z : Grant). least_by (under_prepared h who z) (yeas h)) g (grants h) i,
      bottom_by (under_prepared h who g) x.0 (yeas h) x.2,
      ap (λ b. cond b (x.0.lo - 1) (2 ^ 63))
          (and_true (attempt_eq g.who who) (reads g.mode && (not (attempt_eq x.0.who who) && (not (has_ended h x.0.who) && (lists x.0.writes g.key && ltb g.version.n x.0.hi)))) ((attempt_decides g.who who).1 e)
          (and_true (reads g.mode) (not (attempt_eq x.0.who who) && (not (has_ended h x.0.who) && (lists x.0.writes g.key && ltb g.version.n x.0.hi))) ((reading_decides g.mode).1 r)
          (and_true (not (attempt_eq x.0.who who)) (not (has_ended h x.0.who) && (lists x.0.writes g.key && ltb g.version.n x.0.hi)) (not_same x.0.who who (λ s. n (sym x.1 ∙ s)))
          (and_true (not (has_ended h x.0.who)) (lists x.0.writes g.key && ltb g.version.n x.0.hi) (not_ended h x.0.who (subst (λ a. IsUnended h a) (sym x.1) y.3))
          (and_true (lists x.0.writes g.key) (ltb g.version.n x.0.hi) (lists_at x.0.writes (record { key = g.key; row = row }) g.key x.3 refl) (lt-ltb g.version.n x.0.hi t)))))),
      y.4,
      ap (λ (z : Yea). z.lo) same,
    )))
    (λ (t : x.0.hi ≤ g.version.n). inl (omega (arith, t, y.5, ap (λ (z : Yea). z.hi) same)))
    (cases_lt g.version.n x.0.hi))
    w

module _ (loaded : Rows) where
  -- what each call of a rule by ranges answers
  pub record Ranging (rule : Rule) : Type 0 where
    pub ask : (h : History) (who : Attempt) (stamp : ℕ) (key : Key) (mode : Mode) → (rule.ask h who stamp key mode ≡ grant_latest loaded h key mode) ⊎ ((c : Cause) × (rule.ask h who stamp key mode ≡ Refused c))
    pub vote : (h : History) (who : Attempt) (bound : Bound) (writes appends : List Keyed) (lo hi : ℕ) → Yes lo hi ≡ rule.vote h who bound writes appends → (low h who bound writes ≤ lo) × (hi ≤ high h who) × (lo ≤ high h who)
    pub commit : (h : History) (who : Attempt) (number : Number) → rule.commit h who number ≡ []
    pub abort : (h : History) (who : Attempt) → rule.abort h who ≡ []

  module _ (rule : Rule) (by : Ranging rule) where
    pub wakes_law : (h : History) → Obeys loaded rule h → KeepsWakes h
    wakes_law =
        keeps_wakes loaded rule
        (λ h who number o may. subst (λ w. WakesWaiters h w) (sym (by.commit h who number)) (record { waited = λ w i. absurd i; once = tt }))
        (λ h who o may. subst (λ w. WakesWaiters h w) (sym (by.abort h who)) (record { waited = λ w i. absurd i; once = tt }))

    pub waits_law : (h : History) → Obeys loaded rule h → NothingWaits h
    waits_law [] o a i = i
    waits_law (Ask who stamp key mode answer ∷ h) o a i = go answer o.1 i (waits_law h o.2 a)
      where
        go : (x : Answer) → x ≡ rule.ask h who stamp key mode → IsIn a (waits (Ask who stamp key mode x ∷ h)) → (IsIn a (waits h) → ⊥) → ⊥
        go (Granted row version bound) e i old = old i
        go (Refused c) e i old = old i
        go Waits e i old = ⊎_elim (λ g. cc (e ∙ g)) (λ c. cc (e ∙ c.1)) (by.ask h who stamp key mode)
    waits_law (Prepare who bound writes appends vote ∷ h) o a i = waits_law h o.2 a i
    waits_law (Commit who number woken ∷ h) o a i = waits_law h o.2 a (left_wait loaded woken a (waits h) i)
    waits_law (Abort who woken ∷ h) o a i = waits_law h o.2 a (left_wait loaded woken a (waits h) i)

    -- what was granted to an access that reads stays a version
    pub versions : (h : History) → Obeys loaded rule h → (g : Grant) → IsIn g (grants h) → IsReading g.mode → IsVersion loaded h g.key g.version g.row
    versions [] o g i r = absurd i
    versions (Ask who stamp key mode answer ∷ h) o g i r = go answer o.1 i (versions h o.2 g)
      where
        go : (x : Answer) → x ≡ rule.ask h who stamp key mode → IsIn g (grants (Ask who stamp key mode x ∷ h)) → (IsIn g (grants h) → IsReading g.mode → IsVersion loaded h g.key g.version g.row) → IsVersion loaded h g.key g.version g.row
        go Waits e i old = old i r
        go (Refused c) e i old = old i r
        go (Granted row version bound) e i old =
            ⊎_elim
            (λ (x : g ≡ record { who = who; stamp = stamp; key = key; mode = mode; row = row; version = version }).
            ⊎_elim
            (λ q.
            let s = seen_read mode (latest loaded h key) (subst (λ z. IsReading z.mode) x r) in
            let both : Granted row version bound ≡ grant_latest loaded h key mode = e ∙ q in
            let rows : row ≡ (seen mode (latest loaded h key)).row = cc (both) in
            let numbers : version ≡ (seen mode (latest loaded h key)).number = cc (both) in
            subst (λ z. IsVersion loaded h z.key z.version z.row) (sym x)
            (subst (λ v. IsVersion loaded h key v row) (sym (numbers ∙ ap (λ z. z.number) s))
            (subst (λ v. IsVersion loaded h key (latest loaded h key).number v) (sym (rows ∙ ap (λ z. z.row) s)) ((sound loaded rule h o.2).found key o.0.here.0 o.0.here.1))))
            (λ c. absurd (cc (e ∙ c.1)))
            (by.ask h who stamp key mode))
            (λ t. old t r)
            i
    versions (Prepare who bound writes appends vote ∷ h) o g i r = lift vote (versions h o.2 g i r)
      where
        lift : (v : Vote) → IsVersion loaded h g.key g.version g.row → IsVersion loaded (Prepare who bound writes appends v ∷ h) g.key g.version g.row
        lift (No c) x = x
        lift (Yes lo hi) x = ⊎_elim (λ l. inl l) (λ d. inr (d.0, d.1, d.2, (d.3.0, d.3.1, inr d.3.2, d.3.3))) x
    versions (Commit who number woken ∷ h) o g i r =
        ⊎_elim (λ l. inl l) (λ d. inr (d.0, inr d.1, d.2, d.3)) (versions h o.2 g (subst (λ w. IsIn g (grants (Commit who number w ∷ h))) (o.1 ∙ by.commit h who number) i) r)
    versions (Abort who woken ∷ h) o g i r = versions h o.2 g (subst (λ w. IsIn g (grants (Abort who w ∷ h))) (o.1 ∙ by.abort h who) i) r

    pub fresh : VotesFresh loaded rule
    fresh h who bound writes appends lo hi o ws may law e =
        let v = by.vote h who bound writes appends lo hi e in
        let so = sound loaded rule h o in
        record {
          positive = omega (arith, v.0);
          version = λ g i is r. versions h o g i r;
          above = λ g i is r. omega (arith, low_read h who bound writes g i is r, v.0);
          reads = λ g u lo_u hi_u row i is r n w x.
              ⊎_elim
              (λ c. inl c)
              (λ c. inr (omega (arith, c, v.0, v.1, v.2, low_read h who bound writes g i is r)))
              (high_under loaded h who g u lo_u hi_u row so i is r n w x);
          written = λ g r lo_r hi_r w i is rd n win j key.
              let y = may.held w j in
              inr (omega (arith, v.0, past_over h r lo_r hi_r y.0.key g win i is (sym key ∙ sym y.3), low_written h who bound writes y.0 w y.1 y.2 j (sym y.3)));
          writers = λ u lo_u hi_u w row n win j x.
              let y = may.held w j in
              let z = so.holds x.0 (record { key = w.key; row = row }) x.2 x.3 in
              inl (omega (arith, v.0, past_over h u lo_u hi_u y.0.key z.0 win z.1 (z.2 ∙ x.1) (z.3 ∙ sym y.3), low_written h who bound writes y.0 w y.1 y.2 j (sym y.3)));
        }

    pub windows_law : (h : History) → Obeys loaded rule h → KeepsWindows loaded h
    windows_law h o = windows loaded rule fresh h o (wakes_law h o)
