-- The version that a key has after a history, call by call, is that of the greatest number.
use Rattle.std.proofs.Common.{◌≡◌, ◌≢◌, ◌≤◌, List, [], ◌∷◌, ◌++◌, Bool, true, false, cond, refl, sym, ap, ◌∙◌, subst, inl, inr, ⊎_elim, arith, Option, Some, None, option_map}
use Rattle.std.proofs.lemmas.Bool.Decides.{nat_tests}
use Rattle.deneva_base.specs.declared.keys.Key.{Key}
use Rattle.deneva_base.specs.declared.numbers.Attempt.{Attempt}
use Rattle.deneva_base.specs.declared.numbers.Number.{Number}
use Rattle.deneva_base.specs.declared.rows.Keyed.{Keyed}
use Rattle.deneva_base.specs.declared.answers.Vote.{Vote}
use Rattle.deneva_base.specs.declared.answers.Vote.TheVariants.{Yes, No}
use Rattle.deneva_base.specs.Lists.{IsIn}
use Rattle.deneva_base.specs.Rows.{Row, Rows}
use Rattle.deneva_base.specs.Keys.{key_eq, attempt_eq, number_lt, loaded_version}
use Rattle.protocol_rules.specs.History.{Ask, Prepare, Commit, Abort, History, Yea, Decided, yea, yeas, decided, ended}
use Rattle.protocol_rules.specs.Latest.{Version, row_for, writes_in, latest, newer}
use Rattle.protocol_rules.specs.Rules.{Rule, Obeys}
use Rattle.protocol_rules.specs.Windows.{KeepsWindows}
use Rattle.deneva_base.proofs.Membership.{key_tells, attempt_tells}
use Rattle.protocol_rules.proofs.Sound.{sound}
use Rattle.control_core.specs.Leaving.{last}
use Rattle.protocol_rules.specs.Leaving.{left_in, appends_in, later, greatest_at, row_or, rows_left}

pub left_is : (ys : List Yea) (who : Attempt) → left_in ys who ≡ writes_in ys who ++ appends_in ys who
left_is [] who = refl
left_is (y ∷ ys) who = go (attempt_eq y.who who) (left_is ys who)
  where
    go : (b : Bool) → left_in ys who ≡ writes_in ys who ++ appends_in ys who → cond b (y.writes ++ y.appends) (left_in ys who) ≡ cond b y.writes (writes_in ys who) ++ cond b y.appends (appends_in ys who)
    go true e = refl
    go false e = e

abbrev pub or_row : Option Row → Option Row → Option Row
or_row None y = y
or_row (Some x) y = Some x

pub row_for_both : (key : Key) (xs ys : List Keyed) → row_for key (xs ++ ys) ≡ or_row (row_for key xs) (row_for key ys)
row_for_both key [] ys = refl
row_for_both key (x ∷ xs) ys = go (key_eq x.key key) (row_for_both key xs ys)
  where
    go : (b : Bool) → row_for key (xs ++ ys) ≡ or_row (row_for key xs) (row_for key ys) → cond b (Some x.row) (row_for key (xs ++ ys)) ≡ or_row (cond b (Some x.row) (row_for key xs)) (row_for key ys)
    go true e = refl
    go false e = e

pub row_for_none : (key : Key) (xs : List Keyed) → ((w : Keyed) → IsIn w xs → w.key ≢ key) → row_for key xs ≡ None
row_for_none key [] n = refl
row_for_none key (x ∷ xs) n = ⊎_elim (λ t. absurd (n x (inl refl) t.1)) (λ f. rw f.0 (row_for_none key xs (λ w i. n w (inr i)))) (key_tells x.key key)

lt_irrefl : (n : Number) → number_lt n n ≡ false
lt_irrefl n = grind (arith, nat_tests)

-- a second row under one number changes nothing
pub later_twice : (v : Option Version) (n : Number) (x y : Option Row) → later (later v n x) n y ≡ later v n (or_row x y)
later_twice v n None y = refl
later_twice None n (Some a) None = refl
later_twice None n (Some a) (Some b) = rw (lt_irrefl n) refl
later_twice (Some u) n (Some a) None = refl
later_twice (Some u) n (Some a) (Some b) = go (number_lt u.number n) refl
  where
    go : (t : Bool) → number_lt u.number n ≡ t → later (cond t (Some (record { number = n; row = a })) (Some u)) n (Some b) ≡ cond t (Some (record { number = n; row = a })) (Some u)
    go true e = rw (lt_irrefl n) refl
    go false e = rw e refl

-- the loaded row, where no committed attempt leaves one
abbrev pub or_loaded : Option Row → Option Version → Option Version
or_loaded l None = option_map (λ row. record { number = loaded_version; row = row }) l
or_loaded l (Some v) = Some v

above_loaded : (n : Number) → 1 ≤ n.n → number_lt loaded_version n ≡ true
above_loaded n p = grind (arith, nat_tests)

later_loaded : (l : Option Row) (v : Option Version) (n : Number) (r : Option Row) → 1 ≤ n.n → later (or_loaded l v) n r ≡ or_loaded l (later v n r)
later_loaded l v n None p = refl
later_loaded None None n (Some r) p = refl
later_loaded (Some x) None n (Some r) p = rw (above_loaded n p) refl
later_loaded l (Some v) n (Some r) p = go (number_lt v.number n)
  where
    go : (b : Bool) → cond b (Some (record { number = n; row = r })) (Some v) ≡ or_loaded l (cond b (Some (record { number = n; row = r })) (Some v))
    go true = refl
    go false = refl

-- a vote of an attempt that has not committed
greatest_more : (key : Key) (y : Yea) (ys : List Yea) (ds : List Decided) → ((d : Decided) → IsIn d ds → d.who ≢ y.who) → greatest_at key (y ∷ ys) ds ≡ greatest_at key ys ds
greatest_more key y ys [] n = refl
greatest_more key y ys (d ∷ ds) n = ⊎_elim (λ t. absurd (n d (inl refl) (sym t.1))) (λ f. rw (f.0, greatest_more key y ys ds (λ x i. n x (inr i))) refl) (attempt_tells y.who d.who)

module _ (loaded : Rows) (rule : Rule) (law : (h : History) → Obeys loaded rule h → KeepsWindows loaded h) where
  voted : (key : Key) (h : History) (who : Attempt) (writes appends : List Keyed) (vote : Vote) → ((d : Decided) → IsIn d (decided h) → d.who ≢ who) → greatest_at key (yea who writes appends vote ++ yeas h) (decided h) ≡ greatest_at key (yeas h) (decided h)
  voted key h who writes appends (Yes lo hi) n = greatest_more key (record { who = who; lo = lo; hi = hi; writes = writes; appends = appends }) (yeas h) (decided h) n
  voted key h who writes appends (No cause) n = refl

  pub last_greatest : (h : History) (key : Key) → Obeys loaded rule h → last loaded h key ≡ or_loaded (loaded key) (greatest_at key (yeas h) (decided h))
  last_greatest [] key o = refl
  last_greatest (Ask who stamp k mode answer ∷ h) key o = last_greatest h key o.2
  last_greatest (Prepare who bound writes appends vote ∷ h) key o =
      last_greatest h key o.2 ∙ ap (λ v. or_loaded (loaded key) v) (sym (voted key h who writes appends vote (λ d i e. o.0.unended (subst (λ a. IsIn a (ended h)) e ((sound loaded rule h o.2).ends d i)))))
  last_greatest (Commit who number woken ∷ h) key o =
      let p : 1 ≤ number.n = (law (Commit who number woken ∷ h) o).positive who number.n number.n (inl (record { who = who; number = number }, refl, inl refl, refl, refl)) in
      rw (last_greatest h key o.2) (later_loaded (loaded key) (greatest_at key (yeas h) (decided h)) number (row_for key (left_in (yeas h) who)) p)
  last_greatest (Abort who woken ∷ h) key o = last_greatest h key o.2

  row_last : (l : Option Row) (v : Option Version) → option_map (λ (x : Version). x.row) (or_loaded l v) ≡ row_or l v
  row_last None None = refl
  row_last (Some r) None = refl
  row_last l (Some v) = refl

  -- the rows that the history leaves
  pub last_rows : (h : History) (key : Key) → Obeys loaded rule h → option_map (λ (x : Version). x.row) (last loaded h key) ≡ rows_left loaded h key
  last_rows h key o = rw (last_greatest h key o) (row_last (loaded key) (greatest_at key (yeas h) (decided h)))

module _ (loaded : Rows) (rule : Rule) where
  appended : (ys : List Yea) (who : Attempt) → ((y : Yea) (w : Keyed) → IsIn y ys → IsIn w y.appends → 5 ≤ w.key.table) → (w : Keyed) → IsIn w (appends_in ys who) → 5 ≤ w.key.table
  appended [] who f w i = absurd i
  appended (y ∷ ys) who f w i = go (attempt_eq y.who who) i (appended ys who (λ z v j k. f z v (inr j) k) w)
    where
      go : (b : Bool) → IsIn w (cond b y.appends (appends_in ys who)) → (IsIn w (appends_in ys who) → 5 ≤ w.key.table) → 5 ≤ w.key.table
      go true j rest = f y w (inl refl) j
      go false j rest = rest j

  pub appends_tables : (h : History) → Obeys loaded rule h → (y : Yea) (w : Keyed) → IsIn y (yeas h) → IsIn w y.appends → 5 ≤ w.key.table
  appends_tables [] o y w i j = absurd i
  appends_tables (Ask who stamp k mode answer ∷ h) o y w i j = appends_tables h o.2 y w i j
  appends_tables (Prepare who bound writes appends (Yes lo hi) ∷ h) o y w i j = ⊎_elim (λ (e : y ≡ record { who = who; lo = lo; hi = hi; writes = writes; appends = appends }). (o.0.tables w (subst (λ (z : Yea). IsIn w z.appends) e j)).0) (λ r. appends_tables h o.2 y w r j) i
  appends_tables (Prepare who bound writes appends (No cause) ∷ h) o y w i j = appends_tables h o.2 y w i j
  appends_tables (Commit who number woken ∷ h) o y w i j = appends_tables h o.2 y w i j
  appends_tables (Abort who woken ∷ h) o y w i j = appends_tables h o.2 y w i j

  newer_later : (v : Version) (number : Number) (r : Option Row) → later (Some v) number r ≡ Some (newer v number r)
  newer_later v number None = refl
  newer_later v number (Some r) = go (number_lt v.number number)
    where
      go : (b : Bool) → cond b (Some (record { number = number; row = r })) (Some v) ≡ Some (cond b (record { number = number; row = r }) v)
      go true = refl
      go false = refl

  or_none : (x : Option Row) → or_row x None ≡ x
  or_none None = refl
  or_none (Some x) = refl

  -- of a loaded key it is the greatest committed write
  pub last_latest : (h : History) (key : Key) (row : Row) → Obeys loaded rule h → loaded key ≡ Some row → key.table ≤ 4 → last loaded h key ≡ Some (latest loaded h key)
  last_latest [] key row o e t = rw e refl
  last_latest (Ask who stamp k mode answer ∷ h) key row o e t = last_latest h key row o.2 e t
  last_latest (Prepare who bound writes appends vote ∷ h) key row o e t = last_latest h key row o.2 e t
  last_latest (Commit who number woken ∷ h) key row o e t =
      let none : row_for key (appends_in (yeas h) who) ≡ None = row_for_none key (appends_in (yeas h) who) (λ w i s. omega (arith, t, appended (yeas h) who (appends_tables h o.2) w i, ap (λ (k : Key). k.table) s)) in
      let same : row_for key (left_in (yeas h) who) ≡ row_for key (writes_in (yeas h) who) = ap (row_for key) (left_is (yeas h) who) ∙ row_for_both key (writes_in (yeas h) who) (appends_in (yeas h) who) ∙ ap (or_row (row_for key (writes_in (yeas h) who))) none ∙ or_none (row_for key (writes_in (yeas h) who)) in
      rw (last_latest h key row o.2 e t, same) (newer_later (latest loaded h key) number (row_for key (writes_in (yeas h) who)))
  last_latest (Abort who woken ∷ h) key row o e t = last_latest h key row o.2 e t
