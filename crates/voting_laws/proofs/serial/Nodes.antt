-- In a quiet run the rows of the nodes are the rows of the outcome.
use Rattle.std.proofs.Common.{◌≡◌, ◌⊎◌, ℕ, List, [], ◌∷◌, ◌++◌, Bool, true, false, cond, eqb, refl, sym, ap, ◌∙◌, subst, ap₂, inl, inr, ⊎_elim, arith, Option, Some, None, true≢false}
use Rattle.std.proofs.lemmas.Bool.Decides.{nat_tests}
use Rattle.deneva_base.specs.declared.keys.Key.{Key}
use Rattle.deneva_base.specs.declared.numbers.Attempt.{Attempt}
use Rattle.deneva_base.specs.declared.numbers.Number.{Number}
use Rattle.deneva_base.specs.Lists.{IsIn}
use Rattle.deneva_base.specs.Rows.{Row}
use Rattle.deneva_base.specs.Keys.{NumberLt, number_lt}
use Rattle.deneva_base.specs.declared.rows.Keyed.{Keyed}
use Rattle.protocol_rules.specs.History.{Yea, Decided, yeas, decided as decided_in}
use Rattle.protocol_rules.specs.Latest.{Version, row_for}
use Rattle.deneva_base.proofs.Membership.{in_left, in_right, in_cases, in_filter, filter_in, attempt_tells, number_decides}
use Rattle.protocol_rules.proofs.Sound.{row_found, Sound, sound}
use Rattle.server_core.specs.declared.messages.Entry.{Entry}
use Rattle.server_core.specs.Setting.{Setting, loaded_at, rule_at, participants}
use Rattle.deneva_base.specs.Partitions.{partition_of}
use Rattle.server_core.specs.Participant.{calls, node_rows}
use Rattle.server_core.specs.Effects.{written, appended, leaves}
use Rattle.server_core.specs.Coordinator.{effect_of, reads_of}
use Rattle.tpcc_rules.specs.declared.effects.Effect.{Effect}
use Rattle.server_core.specs.Proper.{Valid}
use Rattle.server_core.specs.Runs.{heard}
use Rattle.server_core.specs.declared.outcomes.Decided.{Decided as Line}
use Rattle.server_core.specs.Lines.{lines, replies}
use Rattle.server_core.specs.Outcome.{greatest, rows_of}
use Rattle.protocol_rules.specs.Leaving.{later, row_or, left_in, greatest_at}
use Rattle.server_core.proofs.serial.SerialWords.{txn_of, Wrote}
use Rattle.server_core.proofs.values.Called.{obeys}
use Rattle.voting_laws.proofs.fits.Joins.{decided_heard, heard_decided}
use Rattle.voting_laws.proofs.fits.Account.{Good}
use Rattle.voting_laws.proofs.fits.Every.{atomic, everywhere}
use Rattle.voting_laws.proofs.serial.Lines.{Fact, facts}
use Rattle.voting_laws.proofs.serial.SerialRuns.{complete, same_commit, participates, vote_holds, effect_is, one_row}
use Rattle.server_core.proofs.serial.GreatestWrites.{Top, tops, row_none}

irr : (a b : Number) → NumberLt a b → NumberLt b a → ⊥
irr a b x y = omega (arith, x, y)

trans : (a b c : Number) → NumberLt a b → NumberLt b c → NumberLt a c
trans a b c x y = grind (arith, x, y)

pub left_found : (ys : List Yea) (who : Attempt) (w : Keyed) → IsIn w (left_in ys who) → (y : Yea) × (y.who ≡ who) × IsIn y ys × IsIn w (y.writes ++ y.appends)
left_found [] who w i = absurd i
left_found (y ∷ ys) who w i =
    ⊎_elim
    (λ t. (y, t.1, inl refl, rw t.0 at i))
    (λ t. let n = left_found ys who w (rw t.0 at i) in (n.0, n.1, inr n.2, n.3))
    (attempt_tells y.who who)

left_are : (ys : List Yea) (y : Yea) → ((a b : Yea) → IsIn a ys → IsIn b ys → a.who ≡ b.who → a ≡ b) → IsIn y ys → left_in ys y.who ≡ y.writes ++ y.appends
left_are [] y one i = absurd i
left_are (x ∷ ys) y one i =
    ⊎_elim
    (λ t. rw t.0 (ap (λ (z : Yea). z.writes ++ z.appends) (one x y (inl refl) i t.1)))
    (λ t. rw t.0 (left_are ys y (λ a b j k e. one a b (inr j) (inr k) e) (⊎_elim (λ (e : y ≡ x). absurd (t.1 (ap (λ (z : Yea). z.who) (sym e)))) (λ r. r) i)))
    (attempt_tells x.who y.who)

-- the greatest of a node
record NodeTop (key : Key) (ys : List Yea) (ds : List Decided) (v : Version) : Type 0 where
  is : greatest_at key ys ds ≡ Some v
  by : Decided
  here : IsIn by ds
  number : by.number ≡ v.number
  wrote : IsIn (record { key = key; row = v.row }) (left_in ys by.who)
  most : (d : Decided) (x : Row) → IsIn d ds → IsIn (record { key = key; row = x }) (left_in ys d.who) → NumberLt v.number d.number → ⊥

node_tops : (key : Key) (ys : List Yea) (ds : List Decided) → ((greatest_at key ys ds ≡ None) × ((d : Decided) (x : Row) → IsIn d ds → IsIn (record { key = key; row = x }) (left_in ys d.who) → ⊥)) ⊎ ((v : Version) × NodeTop key ys ds v)
node_tops key ys [] = inl (refl, λ d x i. absurd i)
node_tops key ys (d ∷ ds) = go (row_for key (left_in ys d.who)) refl (node_tops key ys ds)
  where
    go : (r : Option Row) → row_for key (left_in ys d.who) ≡ r → ((greatest_at key ys ds ≡ None) × ((d : Decided) (x : Row) → IsIn d ds → IsIn (record { key = key; row = x }) (left_in ys d.who) → ⊥)) ⊎ ((v : Version) × NodeTop key ys ds v) → ((greatest_at key ys (d ∷ ds) ≡ None) × ((c : Decided) (x : Row) → IsIn c (d ∷ ds) → IsIn (record { key = key; row = x }) (left_in ys c.who) → ⊥)) ⊎ ((v : Version) × NodeTop key ys (d ∷ ds) v)
    go None e ih =
        let none = row_none key (left_in ys d.who) e in
        let skip : greatest_at key ys (d ∷ ds) ≡ greatest_at key ys ds = ap (later (greatest_at key ys ds) d.number) e in
        ⊎_elim
        (λ n. inl (skip ∙ n.0, λ c x i w. ⊎_elim (λ (f : c ≡ d). none x (subst (λ (z : Decided). IsIn (record { key = key; row = x }) (left_in ys z.who)) f w)) (λ j. n.1 c x j w) i))
        (λ t. inr (t.0, record { is = skip ∙ t.1.is; by = t.1.by; here = inr t.1.here; number = t.1.number; wrote = t.1.wrote; most = λ c x i w lt. ⊎_elim (λ (f : c ≡ d). none x (subst (λ (z : Decided). IsIn (record { key = key; row = x }) (left_in ys z.who)) f w)) (λ j. t.1.most c x j w lt) i }))
        ih
    go (Some row) e ih =
        let mine : IsIn (record { key = key; row = row }) (left_in ys d.who) = row_found key (left_in ys d.who) row e in
        ⊎_elim
        (λ n. inr (
          record { number = d.number; row = row },
          record {
            is = ap₂ (λ a b. later a d.number b) n.0 e;
            by = d;
            here = inl refl;
            number = refl;
            wrote = mine;
            most = λ c x i w lt. ⊎_elim (λ (f : c ≡ d). irr d.number d.number (subst (λ (z : Decided). NumberLt d.number z.number) f lt) (subst (λ (z : Decided). NumberLt d.number z.number) f lt)) (λ j. n.1 c x j w) i;
          },
        ))
        (λ t. over t.0 t.1 (number_lt t.0.number d.number) refl mine)
        ih
      where
        over : (v : Version) → NodeTop key ys ds v → (b : Bool) → number_lt v.number d.number ≡ b → IsIn (record { key = key; row = row }) (left_in ys d.who) → ((greatest_at key ys (d ∷ ds) ≡ None) × ((c : Decided) (x : Row) → IsIn c (d ∷ ds) → IsIn (record { key = key; row = x }) (left_in ys c.who) → ⊥)) ⊎ ((v : Version) × NodeTop key ys (d ∷ ds) v)
        over v t true eb mine =
            let lt : NumberLt v.number d.number = (number_decides v.number d.number).0 eb in
            inr (
              record { number = d.number; row = row },
              record {
                is = ap₂ (λ a b. later a d.number b) t.is e ∙ ap (λ b. cond b (Some (record { number = d.number; row = row })) (Some v)) eb;
                by = d;
                here = inl refl;
                number = refl;
                wrote = mine;
                most = λ c x i w m. ⊎_elim (λ (f : c ≡ d). irr d.number d.number (subst (λ (z : Decided). NumberLt d.number z.number) f m) (subst (λ (z : Decided). NumberLt d.number z.number) f m)) (λ j. t.most c x j w (trans v.number d.number c.number lt m)) i;
              },
            )
        over v t false eb mine =
            inr (
              v,
              record {
                is = ap₂ (λ a b. later a d.number b) t.is e ∙ ap (λ b. cond b (Some (record { number = d.number; row = row })) (Some v)) eb;
                by = t.by;
                here = inr t.here;
                number = t.number;
                wrote = t.wrote;
                most = λ c x i w m. ⊎_elim (λ (f : c ≡ d). true≢false (sym ((number_decides v.number d.number).1 (subst (λ (z : Decided). NumberLt v.number z.number) f m)) ∙ eb)) (λ j. t.most c x j w m) i;
              },
            )

module _ (s : Setting) (v : Valid s) (H : List Entry) (g : Good s H []) (key : Key) where
  abbrev p : ℕ
  p = partition_of key s.parts

  abbrev ys : List Yea
  ys = yeas (calls s p (heard p H))

  abbrev ds : List Decided
  ds = decided_in (calls s p (heard p H))

  snd : Sound (loaded_at s p) (calls s p (heard p H))
  snd = sound (loaded_at s p) (rule_at s p) (calls s p (heard p H)) (obeys s p (heard p H) (g.fit p))

  -- what a line leaves under the key stands in a decided vote here
  line_here : (l : Line) (f : Fact s v H [] g l) (row : Row) → Wrote (txn_of s l) key row → IsIn (record { who = f.who; number = l.number }) ds × IsIn (record { key = key; row = row }) (left_in ys f.who)
  line_here l f row w =
      let rs = reads_of (s.accesses f.who.txn) (replies s H f.who) in
      let i = in_cases (record { key = key; row = row }) (written (effect_of s f.who.txn (replies s H f.who))) (appended (effect_of s f.who.txn (replies s H f.who))) (subst (λ (e : Effect). IsIn (record { key = key; row = row }) (leaves e)) (effect_is s v H g l f) w) in
      let q : IsIn p (participants s f.who) = ⊎_elim (λ a. let acc = v.writes f.who.txn rs (record { key = key; row = row }) a in participates s v H g f.who key acc.0 acc.2) (λ b. (v.appends f.who.txn rs (record { key = key; row = row }) b).2) i in
      let y = (atomic s v H [] g).window f.who l.number f.place p f.commit q in
      let h = vote_holds s v H g f.who p y.0 y.1 y.2 in (
        heard_decided s p (heard p H) f.who l.number (everywhere s v H [] g refl f.who l.number f.place p f.commit q),
        subst (λ a. IsIn (record { key = key; row = row }) (left_in ys a)) y.2
            (subst (IsIn (record { key = key; row = row })) (sym (left_are ys y.0 snd.one y.1))
            (⊎_elim
            (λ a. in_left (record { key = key; row = row }) y.0.writes y.0.appends (subst (IsIn (record { key = key; row = row })) (sym h.0) (in_filter (λ (k : Keyed). eqb (partition_of k.key s.parts) p) (record { key = key; row = row }) (written (effect_of s f.who.txn (replies s H f.who))) a (same p))))
            (λ b. in_right (record { key = key; row = row }) y.0.writes y.0.appends (subst (IsIn (record { key = key; row = row })) (sym h.1) (in_filter (λ (k : Keyed). eqb (partition_of k.key s.parts) p) (record { key = key; row = row }) (appended (effect_of s f.who.txn (replies s H f.who))) b (same p))))
            i)),
      )
    where
      same : (n : ℕ) → eqb n n ≡ true
      same n = grind (arith, nat_tests)

  -- and the other way
  here_line : (d : Decided) (row : Row) → IsIn d ds → IsIn (record { key = key; row = row }) (left_in ys d.who) → (l : Line) × IsIn l (lines s H) × (l.number ≡ d.number) × Wrote (txn_of s l) key row
  here_line d row i w =
      let m = decided_heard s p (heard p H) d i in
      let c = complete s v H g d.who d.number p m in
      let f = facts s v H [] g c.0 c.1 in
      let sc = same_commit s v H g c.0 f d.who d.number p c.2 m in
      let y = left_found ys d.who (record { key = key; row = row }) w in
      let h = vote_holds s v H g d.who p y.0 y.2 y.1 in
      let e : Effect = effect_of s d.who.txn (replies s H d.who) in
      let inside : IsIn (record { key = key; row = row }) (leaves e)
      = ⊎_elim
      (λ a. in_left (record { key = key; row = row }) (written e) (appended e) (filter_in (λ (k : Keyed). eqb (partition_of k.key s.parts) p) (record { key = key; row = row }) (written e) (subst (IsIn (record { key = key; row = row })) h.0 a)).0)
      (λ b. in_right (record { key = key; row = row }) (written e) (appended e) (filter_in (λ (k : Keyed). eqb (partition_of k.key s.parts) p) (record { key = key; row = row }) (appended e) (subst (IsIn (record { key = key; row = row })) h.1 b)).0)
      (in_cases (record { key = key; row = row }) y.0.writes y.0.appends y.3) in
      (c.0, c.1, sc.1, subst (λ (z : Effect). IsIn (record { key = key; row = row }) (leaves z)) (sym (effect_is s v H g c.0 f)) (subst (λ (a : Attempt). IsIn (record { key = key; row = row }) (leaves (effect_of s a.txn (replies s H a)))) (sym sc.0) inside))

  pub node_row : node_rows s p (heard p H) key ≡ rows_of s (lines s H) key
  node_row =
      ap (λ o. row_or o (greatest_at key ys ds)) (loaded_same s key)
      ∙ ⊎_elim
      (λ n. ⊎_elim
      (λ m. ap (row_or (s.loaded key)) (n.0 ∙ sym m.0))
      (λ m. let f = facts s v H [] g m.1.line m.1.here in let h = line_here m.1.line f m.0.row m.1.wrote in absurd (n.1 (record { who = f.who; number = m.1.line.number }) m.0.row h.0 h.1))
      (tops s key (lines s H)))
      (λ t. ⊎_elim
      (λ m. let h = here_line t.1.by t.0.row t.1.here t.1.wrote in absurd (m.1 h.0 t.0.row h.1 h.3))
      (λ m. both t.0 t.1 m.0 m.1)
      (tops s key (lines s H)))
      (node_tops key ys ds)
    where
      loaded_same : (s : Setting) (key : Key) → loaded_at s (partition_of key s.parts) key ≡ s.loaded key
      loaded_same s key = rw (same (partition_of key s.parts))
        where
          same : (n : ℕ) → eqb n n ≡ true
          same n = grind (arith, nat_tests)

      number_is : (a b : Number) → (NumberLt a b → ⊥) → (NumberLt b a → ⊥) → a ≡ b
      number_is a b x y = let e : a.n ≡ b.n = grind (arith, x, y) in let f : a.id.0 ≡ b.id.0 = grind (arith, x, y) in λ i. record { n = e i; id = record { 0 = f i } }

      both : (t : Version) → NodeTop key ys ds t → (m : Version) → Top s key (lines s H) m → row_or (s.loaded key) (greatest_at key ys ds) ≡ row_or (s.loaded key) (greatest s key (lines s H))
      both t nt m mt =
          let f = facts s v H [] g mt.line mt.here in
          let h = line_here mt.line f m.row mt.wrote in
          let k = here_line nt.by t.row nt.here nt.wrote in
          let fk = facts s v H [] g k.0 k.1 in
          let same_number : t.number ≡ m.number
          = number_is t.number m.number
          (λ lt. nt.most (record { who = f.who; number = mt.line.number }) m.row h.0 h.1 (subst (NumberLt t.number) (sym mt.number) lt))
          (λ lt. mt.most k.0 t.row k.1 k.3 (subst (NumberLt m.number) (sym nt.number ∙ sym k.2) lt)) in
          let lines_same : k.0.number ≡ mt.line.number = k.2 ∙ nt.number ∙ same_number ∙ sym mt.number in
          let ids : k.0.number.id ≡ mt.line.number.id = ap (λ (z : Number). z.id) lines_same in
          let who_same : fk.who ≡ f.who = (same_commit s v H g k.0 fk f.who mt.line.number f.place (ids ∙ ap (λ (z : Line). z.number.id) f.is) f.commit).0 in
          let rows : t.row ≡ m.row
          = one_row s v H g (lines s H) (λ l i. i) (λ l i. i) mt.line key t.row m.row mt.here
          (subst (λ (z : Effect). IsIn (record { key = key; row = t.row }) (leaves z)) (effect_is s v H g k.0 fk ∙ ap (λ (a : Attempt). effect_of s a.txn (replies s H a)) who_same ∙ sym (effect_is s v H g mt.line f)) k.3)
          mt.wrote in
          ap (row_or (s.loaded key)) nt.is ∙ ap (λ x. Some x) rows ∙ sym (ap (row_or (s.loaded key)) mt.is)
