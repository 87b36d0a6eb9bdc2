-- What a history under the rule says of the versions of a key.
use Rattle.std.proofs.Common.{◌≡◌, ◌≢◌, ℕ, max, ◌≤◌, List, [], ◌∷◌, ◌++◌, filter, Bool, true, false, cond, ltb, refl, sym, ap, ◌∙◌, subst, inl, inr, ⊎_elim, arith, Option, Some, None}
use Rattle.std.proofs.lemmas.Bool.{lt-ltb}
use Rattle.std.proofs.lemmas.Bool.Decides.{nat_tests}
use Rattle.deneva_base.specs.declared.keys.Key.{Key}
use Rattle.deneva_base.specs.declared.numbers.Attempt.{Attempt}
use Rattle.deneva_base.specs.declared.numbers.Number.{Number}
use Rattle.deneva_base.specs.declared.answers.Vote.TheVariants.{Yes, No}
use Rattle.protocol_rules.specs.Conditions.{MayAsk, MayCommit, Distinct}
use Rattle.protocol_rules.specs.History.{Ask, Prepare, Commit, Abort, History, Asked, Yea, Decided, asks, yeas, decided, aborted, ended, Writes}
use Rattle.deneva_base.specs.Keys.{number_lt, loaded_version}
use Rattle.protocol_rules.specs.Latest.{Version, row_for, writes_in, latest, newer}
use Rattle.deneva_base.specs.Lists.{IsIn, greatest_by}
use Rattle.deneva_base.specs.Rows.{Row, Rows}
use Rattle.protocol_rules.specs.Rules.{Rule, Obeys}
use Rattle.protocol_rules.specs.Timestamp.{top_written}
use Rattle.protocol_rules.specs.Versions.{version_of, written, start, greatest, below}
use Rattle.protocol_rules.proofs.Belows.{Listed}
use Rattle.protocol_rules.proofs.Known.{Known}
use Rattle.protocol_rules.proofs.Marks.{Marked, stamps_differ}
use Rattle.protocol_rules.proofs.Sound.{Sound, row_found, writes_found}
use Rattle.protocol_rules.proofs.Timestamps.{top_by}
use Rattle.protocol_rules.proofs.Traced.{Traced}
use Rattle.deneva_base.proofs.Membership.{attempt_tells}

filter_all : {A : Type 0} (p : A → Bool) (xs : List A) → ((x : A) → IsIn x xs → p x ≡ true) → filter p xs ≡ xs
filter_all p [] f = refl
filter_all p (x ∷ xs) f = ap (λ b. cond b (x ∷ filter p xs) (filter p xs)) (f x (inl refl)) ∙ ap (λ l. x ∷ l) (filter_all p xs (λ y i. f y (inr i)))

module _ (loaded : Rows) where
  -- the latest version is the greatest that was written, or the loaded row
  pub latest_is : (h : History) (key : Key) → latest loaded h key ≡ greatest (start loaded key) (written h key)
  latest_is [] key = refl
  latest_is (Ask who stamp k mode answer ∷ h) key = latest_is h key
  latest_is (Prepare who bound writes appends vote ∷ h) key = latest_is h key
  latest_is (Commit who number woken ∷ h) key = go (row_for key (writes_in (yeas h) who)) (latest_is h key)
    where
      go : (r : Option Row) → latest loaded h key ≡ greatest (start loaded key) (written h key) → newer (latest loaded h key) number r ≡ greatest (start loaded key) (version_of number r ++ written h key)
      go None e = e
      go (Some row) e = ap (λ (v : Version). cond (number_lt v.number number) (record { number = number; row = row }) v) e
  latest_is (Abort who woken ∷ h) key = latest_is h key

  newer_n : (v : Version) (number : Number) (row : Row) → (newer v number (Some row)).number.n ≡ max number.n v.number.n
  newer_n v number row = go (number_lt v.number number) refl
    where
      go : (b : Bool) → number_lt v.number number ≡ b → (cond b (record { number = number; row = row }) v).number.n ≡ max number.n v.number.n
      go true e = grind (arith, nat_tests, e)
      go false e = grind (arith, nat_tests, e)

  -- its number
  pub top_is : (h : History) (key : Key) → (latest loaded h key).number.n ≡ top_written h key
  top_is [] key = refl
  top_is (Ask who stamp k mode answer ∷ h) key = top_is h key
  top_is (Prepare who bound writes appends vote ∷ h) key = top_is h key
  top_is (Commit who number woken ∷ h) key = go (row_for key (writes_in (yeas h) who)) (top_is h key)
    where
      go : (r : Option Row) → (latest loaded h key).number.n ≡ top_written h key → (newer (latest loaded h key) number r).number.n ≡ greatest_by (λ (v : Version). v.number.n) (version_of number r ++ written h key)
      go None e = e
      go (Some row) e = newer_n (latest loaded h key) number row ∙ ap (max number.n) e
  top_is (Abort who woken ∷ h) key = top_is h key

  -- at a stamp above all that was written it is the one below
  pub below_latest : (h : History) (key : Key) (stamp : ℕ) → top_written h key ≤ stamp → ((v : Version) → IsIn v (written h key) → v.number.n ≢ stamp) → below loaded h key stamp ≡ latest loaded h key
  below_latest h key stamp top apart =
      ap (greatest (start loaded key)) (filter_all (λ (v : Version). ltb v.number.n stamp) (written h key) (λ v i. let n = apart v i in let t = top_by (λ (x : Version). x.number.n) v (written h key) i in lt-ltb v.number.n stamp (omega (arith, n, t, top))))
      ∙ sym (latest_is h key)

  module _ (h : History) (k : Known loaded h) (so : Sound loaded h) (tr : Traced h) (m : Marked h) (l : Listed loaded h) where
    -- whoever wrote a committed version asked with its number
    asked_by : (d : Decided) (key : Key) (row : Row) → IsIn d (decided h) → Writes h d.who key row → (a : Asked) × IsIn a (asks h) × (a.who ≡ d.who) × (d.number.n ≡ a.stamp) × (a.key ≡ key)
    asked_by d key row i w =
        let g = so.holds w.0 (record { key = key; row = row }) w.2 w.3 in
        let a = tr.asked g.0 g.1 in
        let who : a.0.who ≡ d.who = a.2 ∙ g.2 ∙ w.1 in
        (a.0, a.1, who, m.chosen d a.0 i a.1 who, a.3 ∙ g.3)

    -- no committed version has the stamp of an attempt that asks
    pub ask_apart : (who : Attempt) (stamp : ℕ) (key : Key) → MayAsk loaded h who stamp key → (v : Version) → IsIn v (written h key) → v.number.n ≢ stamp
    ask_apart who stamp key may v i e =
        let d = l.of key v i in
        let a = asked_by d.0 key v.row d.1 d.3 in
        may.own_stamp a.0 a.1
        (λ same. ⊎_elim
        (λ t. may.unended (subst (λ w. IsIn w (ended h)) (sym a.2 ∙ t.1) (so.ends d.0 d.1)))
        (λ f. m.kept d.0 d.1 (subst (λ w. IsIn w (aborted h)) a.2 (may.others a.0 a.1 same f.1)))
        (attempt_tells a.0.who who))
        (sym a.3 ∙ ap (λ (n : Number). n.n) d.2 ∙ e)

    -- whom an attempt that commits has asked as
    pub commits_as : (who : Attempt) (number : Number) → MayCommit h who number → (key : Key) (row : Row) → row_for key (writes_in (yeas h) who) ≡ Some row → (a : Asked) × IsIn a (asks h) × (a.who ≡ who) × (number.n ≡ a.stamp) × (a.key ≡ key)
    commits_as who number may key row e =
        let y = writes_found (yeas h) who (record { key = key; row = row }) (row_found key (writes_in (yeas h) who) row e) in
        let g = so.holds y.0 (record { key = key; row = row }) y.2 y.3 in
        let a = tr.asked g.0 g.1 in
        let mine : a.0.who ≡ who = a.2 ∙ g.2 ∙ y.1 in
        let z = may.inside in
        let s = m.yea z.0 a.0 z.1 a.1 (mine ∙ sym z.2) in
        (a.0, a.1, mine, omega (arith, s.0, s.1, z.3, z.4), a.3 ∙ g.3)

    -- a commit has not the number of the latest version
    pub commit_apart : (who : Attempt) (number : Number) → MayCommit h who number → (key : Key) (row : Row) → row_for key (writes_in (yeas h) who) ≡ Some row → number.n ≢ (latest loaded h key).number.n
    commit_apart who number may key row e same =
        let a = commits_as who number may key row e in
        let here = k.here a.0 a.1 in
        let v = so.found key here.0 (subst (λ q. loaded q ≡ Some here.0) a.4 here.1) in
        ⊎_elim
        (λ (x : ((latest loaded h key).number ≡ loaded_version) × (loaded key ≡ Some (latest loaded h key).row)).
        let p = k.positive a.0 a.1 in let z = ap (λ (n : Number). n.n) x.0 in omega (arith, p, a.3, same, z))
        (λ (x : (d : Decided) × IsIn d (decided h) × (d.number ≡ (latest loaded h key).number) × Writes h d.who key (latest loaded h key).row).
        let b = asked_by x.0 key (latest loaded h key).row x.1 x.3 in
        stamps_differ loaded h k m a.0 b.0 a.1 b.1
        (λ s. may.unended (subst (λ w. IsIn w (ended h)) (sym b.2 ∙ sym s ∙ a.2) (so.ends x.0 x.1)))
        (λ i. may.unended (subst (λ w. IsIn w (ended h)) a.2 (k.stops a.0.who i)))
        (λ i. m.kept x.0 x.1 (subst (λ w. IsIn w (aborted h)) b.2 i))
        (sym a.3 ∙ same ∙ sym (ap (λ (n : Number). n.n) x.2) ∙ b.3))
        v

  -- each vote is for distinct keys
  pub votes_distinct : (rule : Rule) (h : History) → Obeys loaded rule h → (y : Yea) → IsIn y (yeas h) → Distinct y.writes
  votes_distinct rule [] o y i = absurd i
  votes_distinct rule (Ask who stamp key mode answer ∷ h) o y i = votes_distinct rule h o.2 y i
  votes_distinct rule (Prepare who bound writes appends (Yes lo hi) ∷ h) o y i = ⊎_elim (λ (e : y ≡ record { who = who; lo = lo; hi = hi; writes = writes; appends = appends }). subst (λ (z : Yea). Distinct z.writes) (sym e) o.0.distinct) (λ j. votes_distinct rule h o.2 y j) i
  votes_distinct rule (Prepare who bound writes appends (No cause) ∷ h) o y i = votes_distinct rule h o.2 y i
  votes_distinct rule (Commit who number woken ∷ h) o y i = votes_distinct rule h o.2 y i
  votes_distinct rule (Abort who woken ∷ h) o y i = votes_distinct rule h o.2 y i

  pub writes_distinct : (ys : List Yea) (who : Attempt) → ((y : Yea) → IsIn y ys → Distinct y.writes) → Distinct (writes_in ys who)
  writes_distinct [] who f = tt
  writes_distinct (y ∷ ys) who f = ⊎_elim
      (λ t. subst (λ b. Distinct (cond b y.writes (writes_in ys who))) (sym t.0) (f y (inl refl)))
      (λ n. subst (λ b. Distinct (cond b y.writes (writes_in ys who))) (sym n.0) (writes_distinct ys who (λ z i. f z (inr i))))
      (attempt_tells y.who who)
