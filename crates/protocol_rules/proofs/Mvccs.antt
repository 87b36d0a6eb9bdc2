-- MVCC answers by stamps.
use Rattle.std.proofs.Common.{◌≡◌, ℕ, ◌<◌, ◌≤◌, [], ◌∷◌, Bool, true, false, cond, ltb, ◌&&◌, refl, sym, ap, ◌∙◌, subst, inl, inr, ⊎_elim, arith}
use Rattle.std.proofs.lemmas.Bool.{cases_lt}
use Rattle.std.proofs.lemmas.Bool.Decides.{nat_tests}
use Rattle.std.specs.List.{list_any}
use Rattle.deneva_base.specs.declared.keys.Key.{Key}
use Rattle.deneva_base.specs.declared.numbers.TxnId.{TxnId}
use Rattle.deneva_base.specs.declared.numbers.Attempt.{Attempt}
use Rattle.deneva_base.specs.declared.numbers.Number.{Number}
use Rattle.deneva_base.specs.declared.keys.Mode.{Mode}
use Rattle.deneva_base.specs.Lists.{IsIn}
use Rattle.deneva_base.specs.Rows.{Rows, Row}
use Rattle.deneva_base.specs.Modes.{IsReading, reads, IsWriting, writes}
use Rattle.deneva_base.specs.Keys.{key_eq, number_eq}
use Rattle.deneva_base.specs.declared.causes.Cause.TheVariants.{Trimmed, ReadLater}
use Rattle.deneva_base.specs.declared.answers.Answer.TheVariants.{Waits, Refused}
use Rattle.protocol_rules.specs.History.{Ask, Prepare, Commit, Abort, History, Grant, Asked, Decided, asks, grants, decided, Writes}
use Rattle.protocol_rules.specs.Rules.{Rule, Obeys}
use Rattle.protocol_rules.specs.Latest.{seen}
use Rattle.deneva_base.proofs.Membership.{and_true, key_decides, reading_decides}
use Rattle.protocol_rules.proofs.Wakes.{distinct_waits}
use Rattle.protocol_rules.proofs.Sound.{Sound, sound}
use Rattle.protocol_rules.proofs.Known.{Known, known}
use Rattle.protocol_rules.proofs.Traced.{Traced, traced}
use Rattle.protocol_rules.specs.Versions.{below}
use Rattle.protocol_rules.specs.Waiting.{this, holders, granted_with}
use Rattle.protocol_rules.specs.Mvcc.{floor, top_reader, writer_between, mvcc}
use Rattle.protocol_rules.proofs.Belows.{Listed, listed, below_cases, below_decided}
use Rattle.protocol_rules.proofs.Marks.{Marked, marked}
use Rattle.protocol_rules.proofs.Stamped.{State, Safe, Answered}
use Rattle.protocol_rules.proofs.Same.{same_tries}
use Rattle.protocol_rules.proofs.Stamping.{Stamping}
use Rattle.protocol_rules.proofs.Timestamps.{top_by, last_cases, not_below}

-- a committed number has the id of its transaction
pub owned : (loaded : Rows) (rule : Rule) (h : History) → Obeys loaded rule h → (d : Decided) → IsIn d (decided h) → d.number.id ≡ d.who.txn
owned loaded rule [] o d i = absurd i
owned loaded rule (Ask who stamp key mode answer ∷ h) o d i = owned loaded rule h o.2 d i
owned loaded rule (Prepare who bound writes appends vote ∷ h) o d i = owned loaded rule h o.2 d i
owned loaded rule (Commit who number woken ∷ h) o d i = ⊎_elim (λ n. ap (λ z. z.number.id) n ∙ o.0.own ∙ sym (ap (λ z. z.who.txn) n)) (λ t. owned loaded rule h o.2 d t) i
owned loaded rule (Abort who woken ∷ h) o d i = owned loaded rule h o.2 d i

pub number_is : (x y : Number) → x.n ≡ y.n → x.id.0 ≡ y.id.0 → number_eq x y ≡ true
number_is x y e f = grind (arith, nat_tests)

module _ (loaded : Rows) (h : History) (k : Known loaded h) (so : Sound loaded h) (t : Traced h) (m : Marked h) (l : Listed loaded h) (own : (d : Decided) → IsIn d (decided h) → d.number.id ≡ d.who.txn) where
  -- the access by which a committed write was made
  pub writer_of : (d : Decided) (key : Key) (row : Row) → IsIn d (decided h) → Writes h d.who key row → (g : Grant) × (a : Asked) × IsIn g (grants h) × (g.who ≡ d.who) × (g.key ≡ key) × IsWriting g.mode × IsIn a (asks h) × (a.who ≡ d.who) × (a.stamp ≡ g.stamp) × (d.number.n ≡ a.stamp)
  writer_of d key row i w =
      let g = so.holds w.0 (record { key = key; row = row }) w.2 w.3 in
      let a = t.asked g.0 g.1 in
      let is : a.0.who ≡ d.who = a.2 ∙ g.2 ∙ w.1 in
      (g.0, a.0, g.1, g.2 ∙ w.1, g.3, g.4, a.1, is, a.5, m.chosen d a.0 i a.1 is)

  -- two committed writes of one key that have one n have one number
  pub one_number : (d e : Decided) (key : Key) (x y : Row) → IsIn d (decided h) → IsIn e (decided h) → Writes h d.who key x → Writes h e.who key y → d.number.n ≡ e.number.n → number_eq d.number e.number ≡ true
  one_number d e key x y i j v w same =
      let a = writer_of d key x i v in
      let b = writer_of e key y j w in
      let stamps : a.1.stamp ≡ b.1.stamp = omega (arith, a.9, b.9, same) in
      number_is d.number e.number same (ap (λ (z : TxnId). z.0) (own d i ∙ ap (λ z. z.txn) (sym a.7) ∙ k.txn a.1 b.1 a.6 b.6 stamps ∙ ap (λ z. z.txn) b.7 ∙ sym (own e j)))

  pub late : (d : Decided) (key : Key) (row : Row) → IsIn d (decided h) → Writes h d.who key row → 1 ≤ d.number.n
  late d key row i w = let a = writer_of d key row i w in omega (arith, a.9, k.positive a.1 a.6)

  module _ (st : State true loaded h) (stamp : ℕ) (key : Key) where
    -- an access that read another version than the one below the stamp, and has a greater stamp, read a greater version
    passed : (g : Grant) → IsIn g (grants h) → IsReading g.mode → g.key ≡ key → stamp < g.stamp → g.version.n < stamp → number_eq g.version (below loaded h key stamp).number ≡ true
    passed g i r e late_reader under =
        ⊎_elim
        (λ first. ⊎_elim
        (λ at_start. subst (λ z. number_eq z (below loaded h key stamp).number ≡ true) (sym first.0) (subst (λ z. number_eq (record { n = 0; id = record { 0 = 0 } }) z.number ≡ true) (sym at_start) refl))
        (λ c.
        let d = l.of key (below loaded h key stamp) c.0 in
        absurd (between d.0 (below loaded h key stamp).row d.1 d.3 (omega (arith, late d.0 key (below loaded h key stamp).row d.1 d.3, ap (λ z. z.n) first.0)) (omega (arith, ap (λ z. z.n) d.2, c.1))))
        (below_cases loaded h key stamp))
        (λ w.
        let x = subst (λ z. Writes h w.0.who z g.row) e w.3 in
        let low = below_decided loaded h key stamp w.0 g.row l w.1 x (omega (arith, ap (λ z. z.n) w.2, under)) in
        ⊎_elim
        (λ at_start. absurd (zero_not (ap (λ z. z.number.n) at_start) low (late w.0 key g.row w.1 x)))
        (λ c.
        let d = l.of key (below loaded h key stamp) c.0 in
        ⊎_elim
        (λ less. absurd (between d.0 (below loaded h key stamp).row d.1 d.3 (omega (arith, less, ap (λ z. z.n) d.2)) (omega (arith, ap (λ z. z.n) d.2, c.1))))
        (λ same.
        subst (λ z. number_eq z (below loaded h key stamp).number ≡ true) w.2
        (subst (λ z. number_eq w.0.number z ≡ true) d.2 (one_number w.0 d.0 key g.row (below loaded h key stamp).row w.1 d.1 x d.3 (omega (arith, same, low, ap (λ z. z.n) d.2, ap (λ z. z.n) w.2)))))
        (cases_lt g.version.n (below loaded h key stamp).number.n))
        (below_cases loaded h key stamp))
        (st.version g i r)
      where
        zero_not : {a b : ℕ} → a ≡ 0 → b ≤ a → 1 ≤ b → ⊥
        zero_not e f g = omega arith

        -- no committed write stands between what it read and its stamp
        between : (d : Decided) (row : Row) → IsIn d (decided h) → Writes h d.who key row → g.version.n < d.number.n → d.number.n < stamp → ⊥
        between d row j w low high =
            let a = writer_of d key row j w in
            ⊎_elim
            (λ c. omega (arith, c, a.8, a.9, low))
            (λ c. omega (arith, c, a.8, a.9, high, late_reader))
            (st.clean a.0.stamp g i r (inr (a.0, a.2, a.5, a.4 ∙ sym e, refl, inr (d, row, j, sym a.3, subst (λ z. Writes h d.who z row) (sym e) w))))

    safe : (mode : Mode) → (writes mode && ltb stamp (top_reader h key (below loaded h key stamp).number)) ≡ false → Safe true loaded h stamp key mode
    safe mode e w g i r same =
        ⊎_elim
        (λ later. ⊎_elim
        (λ under.
        let v = (below loaded h key stamp).number in
        inr (omega (
          arith,
          not_below mode stamp (top_reader h key v) e w,
          top_by (λ (z : Grant). cond (key_eq z.key key && (reads z.mode && number_eq z.version v)) z.stamp 0) g (grants h) i,
          ap (λ z. cond z g.stamp 0) (and_true (key_eq g.key key) (reads g.mode && number_eq g.version v) ((key_decides g.key key).1 same) (and_true (reads g.mode) (number_eq g.version v) ((reading_decides g.mode).1 r) (passed g i r same later under))),
        )))
        (λ over. inl over)
        (cases_lt g.version.n stamp))
        (λ not_later. inr not_later)
        (cases_lt stamp g.stamp)

module _ (keep : ℕ) (loaded : Rows) where
  answers : (h : History) (who : Attempt) (stamp : ℕ) (key : Key) (mode : Mode) (a b : Bool)
      → ((writes mode && ltb stamp (top_reader h key (below loaded h key stamp).number)) ≡ false → Safe true loaded h stamp key mode)
      → (writes mode && ltb stamp (top_reader h key (below loaded h key stamp).number)) ≡ b
      → Answered true loaded h who stamp key mode
      (cond a (Refused (Trimmed key (floor keep loaded h key)))
      (cond b (Refused (ReadLater key (top_reader h key (below loaded h key stamp).number)))
      (cond (reads mode && list_any (writer_between loaded h (this who stamp key mode)) (holders h)) Waits (granted_with (seen mode (below loaded h key stamp))))))
  answers h who stamp key mode true b s e = tt
  answers h who stamp key mode false true s e = tt
  answers h who stamp key mode false false s e = last_cases true loaded h who stamp key mode (reads mode && list_any (writer_between loaded h (this who stamp key mode)) (holders h)) refl (s e)

  pub stamping : Stamping true loaded (mvcc keep loaded)
  stamping = record {
    ask = λ h who stamp key mode o ws may st.
        answers h who stamp key mode (ltb stamp (floor keep loaded h key)) (writes mode && ltb stamp (top_reader h key (below loaded h key stamp).number))
        (safe loaded h (known loaded (mvcc keep loaded) h o) (sound loaded (mvcc keep loaded) h o) (traced loaded (mvcc keep loaded) h o ws) (marked loaded (mvcc keep loaded) (λ h who bound writes appends. refl) h o) (listed loaded (mvcc keep loaded) h o) (owned loaded (mvcc keep loaded) h o) st stamp key mode)
        refl;
    vote = λ h who bound writes appends. refl;
    commit = λ h who number o. same_tries true loaded h (Commit who number [] ∷ h) who (known loaded (mvcc keep loaded) h o) (distinct_waits loaded (mvcc keep loaded) h o);
    abort = λ h who o. same_tries true loaded h (Abort who [] ∷ h) who (known loaded (mvcc keep loaded) h o) (distinct_waits loaded (mvcc keep loaded) h o);
  }
