-- The versions of the history after an end are those that the table keeps.
use Rattle.std.proofs.Common.{◌≡◌, ◌≢◌, ◌⊎◌, ℕ, max, ◌≤◌, leb, eqb, List, [], ◌∷◌, ◌++◌, map, filter, reverse, length, Bool, true, false, not, ◌&&◌, ◌||◌, cond, ltb, refl, sym, ap, ap₂, ◌∙◌, subst, inl, inr, ⊎_elim, arith, Option, Some, None, true≢false}
use Rattle.std.proofs.lemmas.Bool.{leb-true}
use Rattle.std.proofs.lemmas.List.{append-nil}
use Rattle.std.proofs.lemmas.List.Elements.{filter-append}
use Rattle.std.specs.List.{list_any}
use Rattle.deneva_base.specs.declared.keys.Key.{Key}
use Rattle.deneva_base.specs.declared.numbers.Attempt.{Attempt}
use Rattle.deneva_base.specs.declared.numbers.Number.{Number}
use Rattle.deneva_base.specs.declared.answers.Wake.{Wake}
use Rattle.deneva_base.specs.Lists.{IsIn, greatest_by}
use Rattle.deneva_base.specs.Rows.{Row, Rows}
use Rattle.deneva_base.specs.Keys.{key_eq, number_lt, number_eq}
use Rattle.deneva_base.specs.Modes.{reads}
use Rattle.protocol_rules.specs.History.{History, Asked, Grant, grants, waits, yeas, is_woken, Writes}
use Rattle.protocol_rules.specs.Latest.{Version, row_for, writes_in}
use Rattle.protocol_rules.specs.Rules.{Obeys}
use Rattle.protocol_rules.specs.Versions.{version_of, written, start, greatest, below}
use Rattle.protocol_rules.specs.Mvcc.{versions, as_great as versions_as_great, nth_greatest, floor, top_reader, mvcc}
use Rattle.deneva_base.proofs.Membership.{in_left, in_right, in_cases, in_filter, filter_in, any_at, any_found, and_true, and_parts, key_decides, reading_decides}
use Rattle.protocol_rules.proofs.Belows.{listed, greatest_le}
use Rattle.protocol_rules.proofs.Mvccs.{stamping}
use Rattle.protocol_rules.proofs.Stamping.{wakes_law, state}
use Rattle.chain_control.specs.declared.requests.Request.{Request}
use Rattle.chain_control.specs.declared.links.ReadVersion.{ReadVersion}
use Rattle.chain_control.specs.Requests.{awaits}
use Rattle.chain_control.specs.Links.{as_great, floor_of}
use Rattle.chain_control.specs.Chains.{unread}
use Rattle.chain_control.specs.Kept.{in_order, awaited, is_kept, kept}
use Rattle.chain_control.specs.Standing.{State, requests_in, link_of, waiter_of, IsOwner, IsWaiter, Tracks}
use Rattle.chain_control.proofs.Lists.{map_same, filter_same}
use Rattle.chain_control.proofs.Apart.{Apart, apart_versions, written_late, more_below, one_n, number_eq_sym}
use Rattle.chain_control.proofs.Floors.{count_append, reverse-cons, nth_order, nth_part, floor_more, in_versions}
use Rattle.chain_control.proofs.Bests.{or_right, floor_keeps}
use Rattle.chain_control.proofs.Answering.{bool_both}
use Rattle.chain_control.proofs.Marking.{greatest_map}

-- what a commit adds to the versions of a key
abbrev pub news : Option Number → Option Row → List Version
news None row = []
news (Some number) row = version_of number row

or_cases : (a b : Bool) → (a || b) ≡ true → (a ≡ true) ⊎ (b ≡ true)
or_cases true b e = inl refl
or_cases false b e = inr e

reverse_both : (number : Option Number) (row : Option Row) (vs : List Version) → reverse (news number row ++ vs) ≡ reverse vs ++ news number row
reverse_both None row vs = sym (append-nil (reverse vs))
reverse_both (Some n) None vs = sym (append-nil (reverse vs))
reverse_both (Some n) (Some row) vs = reverse-cons (record { number = n; row = row }) vs

-- a filter of a filter counts no more
count_filter : (p a : Version → Bool) (xs : List Version) → length (filter p (filter a xs)) ≤ length (filter p xs)
count_filter p a [] = omega arith
count_filter p a (x ∷ xs) = go (a x) (count_filter p a xs)
  where
    go : (b : Bool) → length (filter p (filter a xs)) ≤ length (filter p xs) → length (filter p (cond b (x ∷ filter a xs) (filter a xs))) ≤ length (cond (p x) (x ∷ filter p xs) (filter p xs))
    go true l = two (p x)
      where
        two : (c : Bool) → length (cond c (x ∷ filter p (filter a xs)) (filter p (filter a xs))) ≤ length (cond c (x ∷ filter p xs) (filter p xs))
        two true = omega (arith, l)
        two false = l
    go false l = two (p x)
      where
        two : (c : Bool) → length (filter p (filter a xs)) ≤ length (cond c (x ∷ filter p xs) (filter p xs))
        two true = omega (arith, l)
        two false = l

count_all : (p a : Version → Bool) (xs : List Version) → ((x : Version) → IsIn x xs → p x ≡ true → a x ≡ true) → length (filter p (filter a xs)) ≡ length (filter p xs)
count_all p a [] f = refl
count_all p a (x ∷ xs) f = go (p x) refl (a x) refl (count_all p a xs (λ y i. f y (inr i)))
  where
    go : (c : Bool) → p x ≡ c → (b : Bool) → a x ≡ b → length (filter p (filter a xs)) ≡ length (filter p xs) → length (filter p (cond b (x ∷ filter a xs) (filter a xs))) ≡ length (cond c (x ∷ filter p xs) (filter p xs))
    go true e true g l = ap (λ t. length (cond t (x ∷ filter p (filter a xs)) (filter p (filter a xs)))) e ∙ (omega (arith, l))
    go false e true g l = ap (λ t. length (cond t (x ∷ filter p (filter a xs)) (filter p (filter a xs)))) e ∙ l
    go false e false g l = l
    go true e false g l = absurd (true≢false (sym (f x (inl refl) e) ∙ g))

count_map : {A B : Type 0} (p : B → Bool) (f : A → B) (xs : List A) → length (filter p (map f xs)) ≡ length (filter (λ x. p (f x)) xs)
count_map p f [] = refl
count_map p f (x ∷ xs) = go (p (f x)) (count_map p f xs)
  where
    go : (b : Bool) → length (filter p (map f xs)) ≡ length (filter (λ y. p (f y)) xs) → length (cond b (f x ∷ filter p (map f xs)) (filter p (map f xs))) ≡ length (cond b (x ∷ filter (λ y. p (f y)) xs) (filter (λ y. p (f y)) xs))
    go true e = omega (arith, e)
    go false e = e

-- a list that is filtered again
filter_again : (p q : Version → Bool) (xs : List Version) → ((x : Version) → IsIn x xs → q x ≡ true → p x ≡ true) → filter q (filter p xs) ≡ filter q xs
filter_again p q [] f = refl
filter_again p q (x ∷ xs) f = go (p x) refl (q x) refl (filter_again p q xs (λ y i. f y (inr i)))
  where
    go : (b : Bool) → p x ≡ b → (c : Bool) → q x ≡ c → filter q (filter p xs) ≡ filter q xs → filter q (cond b (x ∷ filter p xs) (filter p xs)) ≡ cond c (x ∷ filter q xs) (filter q xs)
    go true e c g rest = ap₂ (λ t ys. cond t (x ∷ ys) ys) g rest
    go false e true g rest = absurd (true≢false (sym (f x (inl refl) g) ∙ e))
    go false e false g rest = rest

module _ (keep : ℕ) (loaded : Rows) (h h2 : History) (who : Attempt) (number : Option Number) (woken : List Wake) (o : Obeys loaded (mvcc keep loaded) h) (o2 : Obeys loaded (mvcc keep loaded) h2)
    (written_more : (k : Key) → ◌≡◌ {A = List Version} (written h2 k) (news number (row_for k (writes_in (yeas h) who)) ++ written h k))
    (waits_less : waits h2 ≡ filter (λ a. not (is_woken woken a)) (waits h)) where
  abbrev pub new : Key → List Version
  new k = news number (row_for k (writes_in (yeas h) who))

  pub order_is : (k : Key) → in_order loaded h2 k ≡ in_order loaded h k ++ new k
  order_is k = ap (λ (vs : List Version). start loaded k ∷ reverse vs) (written_more k) ∙ ap (λ vs. start loaded k ∷ vs) (reverse_both number (row_for k (writes_in (yeas h) who)) (written h k))

  pub floors : (k : Key) → floor keep loaded h k ≤ floor keep loaded h2 k
  floors k = subst (λ (vs : List Version). floor keep loaded h k ≤ cond (eqb keep 0) 0 (nth_greatest keep (start loaded k ∷ vs))) (sym (written_more k)) (go number (row_for k (writes_in (yeas h) who)))
    where
      go : (n : Option Number) (r : Option Row) → cond (eqb keep 0) 0 (nth_greatest keep (start loaded k ∷ written h k)) ≤ cond (eqb keep 0) 0 (nth_greatest keep (start loaded k ∷ (news n r ++ written h k)))
      go None r = omega arith
      go (Some n) r = floor_more keep loaded h k n r

  still : (a : Asked) → IsIn a (waits h2) → IsIn a (waits h)
  still a i = (filter_in (λ x. not (is_woken woken x)) a (waits h) (subst (λ l. IsIn a l) waits_less i)).0

  -- the version below a stamp stays or is new
  below_more : (k : Key) (stamp : ℕ) → (below loaded h2 k stamp ≡ below loaded h k stamp) ⊎ IsIn (below loaded h2 k stamp) (new k)
  below_more k stamp =
      subst (λ (vs : List Version). (greatest (start loaded k) (filter (λ (v : Version). ltb v.number.n stamp) vs) ≡ below loaded h k stamp) ⊎ IsIn (greatest (start loaded k) (filter (λ (v : Version). ltb v.number.n stamp) vs)) (new k)) (sym (written_more k))
      (go number (row_for k (writes_in (yeas h) who)))
    where
      go : (n : Option Number) (r : Option Row) → (greatest (start loaded k) (filter (λ (v : Version). ltb v.number.n stamp) (news n r ++ written h k)) ≡ below loaded h k stamp) ⊎ IsIn (greatest (start loaded k) (filter (λ (v : Version). ltb v.number.n stamp) (news n r ++ written h k))) (news n r)
      go None r = inl refl
      go (Some n) r = more_below keep loaded h k stamp n r

  -- a new version has another n than those before
  new_apart : (k : Key) (x v : Version) → IsIn x (new k) → IsIn v (versions loaded h k) → v.number.n ≢ x.number.n
  new_apart k x v i j = go number (row_for k (writes_in (yeas h) who)) i (subst (λ (vs : List Version). Apart (start loaded k ∷ vs)) (written_more k) (apart_versions keep loaded h2 k o2))
    where
      go : (n : Option Number) (r : Option Row) → IsIn x (news n r) → Apart (start loaded k ∷ (news n r ++ written h k)) → v.number.n ≢ x.number.n
      go None r i a e = absurd i
      go (Some n) None i a e = absurd i
      go (Some n) (Some row) i a e =
          ⊎_elim
          (λ (is : x ≡ record { number = n; row = row }). ⊎_elim
          (λ s. a.0 (record { number = n; row = row }) (inl refl) (sym (ap (λ (z : Version). z.number.n) is) ∙ sym e ∙ ap (λ (z : Version). z.number.n) s))
          (λ w. a.1.0 v w (e ∙ ap (λ (z : Version). z.number.n) is))
          j)
          (λ b. absurd b)
          i

  -- what is kept afterwards was kept before
  pub kept_before : (k : Key) (v : Version) → IsIn v (in_order loaded h k) → is_kept keep loaded h2 k v ≡ true → is_kept keep loaded h k v ≡ true
  kept_before k v i e = ⊎_elim
      (λ l. let f = floors k in let m = leb-true (floor keep loaded h2 k) v.number.n l in floor_keeps keep loaded h o k v (omega (arith, f, m)))
      (λ w.
      let f = any_found (λ (a : Asked). key_eq a.key k && number_eq v.number (below loaded h2 k a.stamp).number) (waits h2) w in
      let p = and_parts (key_eq f.0.key k) (number_eq v.number (below loaded h2 k f.0.stamp).number) f.2 in
      ⊎_elim
      (λ same. or_right (leb (floor keep loaded h k) v.number.n) (awaited loaded h k (waits h) v)
      (any_at (λ (a : Asked). key_eq a.key k && number_eq v.number (below loaded h k a.stamp).number) f.0 (waits h) (still f.0 f.1)
      (and_true (key_eq f.0.key k) (number_eq v.number (below loaded h k f.0.stamp).number) p.0 (ap (λ (z : Version). number_eq v.number z.number) (sym same) ∙ p.1))))
      (λ x. absurd (new_apart k (below loaded h2 k f.0.stamp) v x (in_versions loaded h k v i) (one_n v.number (below loaded h2 k f.0.stamp).number p.1)))
      (below_more k f.0.stamp))
      (or_cases (leb (floor keep loaded h2 k) v.number.n) (awaited loaded h2 k (waits h2) v) e)

  -- so what is left of what was kept, and of what is new, is what is kept
  pub kept_is : (k : Key) → filter (is_kept keep loaded h2 k) (filter (is_kept keep loaded h k) (in_order loaded h k) ++ new k) ≡ kept keep loaded h2 k
  kept_is k =
      filter-append (is_kept keep loaded h2 k) (filter (is_kept keep loaded h k) (in_order loaded h k)) (new k)
      ∙ ap (λ vs. vs ++ filter (is_kept keep loaded h2 k) (new k)) (filter_again (is_kept keep loaded h k) (is_kept keep loaded h2 k) (in_order loaded h k) (kept_before k))
      ∙ sym (filter-append (is_kept keep loaded h2 k) (in_order loaded h k) (new k))
      ∙ ap (filter (is_kept keep loaded h2 k)) (sym (order_is k))

  -- a new version was granted to nobody
  pub new_unread : (k : Key) (x : Version) → IsIn x (new k) → top_reader h k x.number ≡ 0
  new_unread k x i = zero (top_reader h k x.number) (greatest_le (λ (g : Grant). cond (key_eq g.key k && (reads g.mode && number_eq g.version x.number)) g.stamp 0) 0 (grants h) (λ g j. each g j (key_eq g.key k) refl (reads g.mode) refl (number_eq g.version x.number) refl))
    where
      zero : (n : ℕ) → n ≤ 0 → n ≡ 0
      zero n l = omega (arith, l)

      none : (b : Bool) (n : ℕ) → b ≡ false → cond b n 0 ≤ 0
      none true n e = absurd (true≢false e)
      none false n e = omega arith

      late : 1 ≤ x.number.n
      late = written_late keep loaded h2 k x o2 (subst (λ (vs : List Version). IsIn x vs) (sym (written_more k)) (in_left x (new k) (written h k) i))

      at_zero : (a b : Number) → a.n ≡ 0 → a.n ≡ b.n → 1 ≤ b.n → ⊥
      at_zero a b e f l = omega (arith, e, f, l)

      each : (g : Grant) → IsIn g (grants h) → (a : Bool) → key_eq g.key k ≡ a → (b : Bool) → reads g.mode ≡ b → (c : Bool) → number_eq g.version x.number ≡ c → cond (a && (b && c)) g.stamp 0 ≤ 0
      each g j false e b f c m = omega arith
      each g j true e false f c m = omega arith
      each g j true e true f false m = omega arith
      each g j true e true f true m =
          let by = stamping keep loaded in
          let ws = wakes_law true loaded (mvcc keep loaded) by h o in
          let st = state true loaded (mvcc keep loaded) by h o ws in
          let n = one_n g.version x.number m in
          let here : g.key ≡ k = (key_decides g.key k).0 e in
          absurd (⊎_elim
          (λ s. at_zero g.version x.number (ap (λ (z : Number). z.n) s.0) n late)
          (λ d.
          let l = (listed loaded (mvcc keep loaded) h o).all d.0 k g.row d.1 (subst (λ q. Writes h d.0.who q g.row) here d.3) in
          new_apart k x l.0 i (inr l.1) (ap (λ (z : Number). z.n) (l.2 ∙ d.2) ∙ n))
          (st.version g j ((reading_decides g.mode).0 f)))

  -- the versions with the new ones, as they are kept
  pub links_is : (k : Key) → map (link_of h k) (filter (is_kept keep loaded h k) (in_order loaded h k)) ++ map (λ v. unread v.number v.row) (new k) ≡ map (link_of h k) (filter (is_kept keep loaded h k) (in_order loaded h k) ++ new k)
  links_is k =
      ap (λ ls. map (link_of h k) (filter (is_kept keep loaded h k) (in_order loaded h k)) ++ ls) (map_same (λ v. unread v.number v.row) (link_of h k) (new k) (λ v i. ap (λ n. record { number = v.number; row = v.row; read = n }) (sym (new_unread k v i))))
      ∙ append_map (filter (is_kept keep loaded h k) (in_order loaded h k))
    where
      append_map : (xs : List Version) → map (link_of h k) xs ++ map (link_of h k) (new k) ≡ map (link_of h k) (xs ++ new k)
      append_map [] = refl
      append_map (x ∷ xs) = ap (λ l. link_of h k x ∷ l) (append_map xs)

  -- the floor of these is the floor
  pub floor_is : (k : Key) → floor_of keep (map (link_of h k) (filter (is_kept keep loaded h k) (in_order loaded h k) ++ new k)) ≡ floor keep loaded h2 k
  floor_is k = go (eqb keep 0) refl
    where
      xs : List Version
      xs = filter (is_kept keep loaded h k) (in_order loaded h k) ++ new k

      whole : List Version
      whole = in_order loaded h k ++ new k

      nth_links : greatest_by (λ (l : ReadVersion). cond (leb keep (as_great (map (link_of h k) (filter (is_kept keep loaded h k) (in_order loaded h k) ++ new k)) l.number)) l.number.n 0) (map (link_of h k) (filter (is_kept keep loaded h k) (in_order loaded h k) ++ new k)) ≡ nth_greatest keep (filter (is_kept keep loaded h k) (in_order loaded h k) ++ new k)
      nth_links =
          greatest_map (λ (l : ReadVersion). cond (leb keep (as_great (map (link_of h k) xs) l.number)) l.number.n 0) (link_of h k) xs
          ∙ each (filter (is_kept keep loaded h k) (in_order loaded h k) ++ new k)
        where
          each : (vs : List Version) → greatest_by (λ (v : Version). cond (leb keep (as_great (map (link_of h k) (filter (is_kept keep loaded h k) (in_order loaded h k) ++ new k)) v.number)) v.number.n 0) vs ≡ greatest_by (λ v. cond (leb keep (versions_as_great (filter (is_kept keep loaded h k) (in_order loaded h k) ++ new k) v)) v.number.n 0) vs
          each [] = refl
          each (v ∷ vs) = ap₂ (λ m n. max m n) (ap (λ n. cond (leb keep n) v.number.n 0) (count_map (λ (l : ReadVersion). not (number_lt l.number v.number)) (link_of h k) (filter (is_kept keep loaded h k) (in_order loaded h k) ++ new k))) (each vs)

      nth_whole : nth_greatest keep (in_order loaded h k ++ new k) ≡ nth_greatest keep (versions loaded h2 k)
      nth_whole = ap (nth_greatest keep) (sym (order_is k)) ∙ nth_order keep loaded h2 k

      go : (b : Bool) → eqb keep 0 ≡ b → cond (eqb keep 0) 0 (greatest_by (λ (l : ReadVersion). cond (leb keep (as_great (map (link_of h k) (filter (is_kept keep loaded h k) (in_order loaded h k) ++ new k)) l.number)) l.number.n 0) (map (link_of h k) (filter (is_kept keep loaded h k) (in_order loaded h k) ++ new k))) ≡ cond (eqb keep 0) 0 (nth_greatest keep (versions loaded h2 k))
      go true e = ap (λ b. cond b 0 (greatest_by (λ (l : ReadVersion). cond (leb keep (as_great (map (link_of h k) (filter (is_kept keep loaded h k) (in_order loaded h k) ++ new k)) l.number)) l.number.n 0) (map (link_of h k) (filter (is_kept keep loaded h k) (in_order loaded h k) ++ new k)))) e ∙ sym (ap (λ b. cond b 0 (nth_greatest keep (versions loaded h2 k))) e)
      go false e =
          ap (λ b. cond b 0 (greatest_by (λ (l : ReadVersion). cond (leb keep (as_great (map (link_of h k) (filter (is_kept keep loaded h k) (in_order loaded h k) ++ new k)) l.number)) l.number.n 0) (map (link_of h k) (filter (is_kept keep loaded h k) (in_order loaded h k) ++ new k)))) e
          ∙ nth_links
          ∙ nth_part keep (filter (is_kept keep loaded h k) (in_order loaded h k) ++ new k) (in_order loaded h k ++ new k)
          (λ x i. ⊎_elim (λ j. in_left x (in_order loaded h k) (new k) (filter_in (is_kept keep loaded h k) x (in_order loaded h k) j).0) (λ j. in_right x (in_order loaded h k) (new k) j) (in_cases x (filter (is_kept keep loaded h k) (in_order loaded h k)) (new k) i))
          (λ p. let a = count_append p (filter (is_kept keep loaded h k) (in_order loaded h k)) (new k) in let b = count_append p (in_order loaded h k) (new k) in let c = count_filter p (is_kept keep loaded h k) (in_order loaded h k) in omega (arith, a, b, c))
          (λ x i l. ⊎_elim (λ j. in_left x (filter (is_kept keep loaded h k) (in_order loaded h k)) (new k) (in_filter (is_kept keep loaded h k) x (in_order loaded h k) j (over x l))) (λ j. in_right x (filter (is_kept keep loaded h k) (in_order loaded h k)) (new k) j) (in_cases x (in_order loaded h k) (new k) i))
          (λ p f. let a = count_append p (filter (is_kept keep loaded h k) (in_order loaded h k)) (new k) in let b = count_append p (in_order loaded h k) (new k) in let c = count_all p (is_kept keep loaded h k) (in_order loaded h k) (λ x i t. over x (f x t)) in omega (arith, a, b, c))
          ∙ nth_whole
          ∙ sym (ap (λ b. cond b 0 (nth_greatest keep (versions loaded h2 k))) e)
        where
          over : (x : Version) → nth_greatest keep (in_order loaded h k ++ new k) ≤ x.number.n → is_kept keep loaded h k x ≡ true
          over x l =
              let f = floors k in
              let g : floor keep loaded h2 k ≡ nth_greatest keep (versions loaded h2 k) = ap (λ b. cond b 0 (nth_greatest keep (versions loaded h2 k))) e in
              let n = nth_whole in
              floor_keeps keep loaded h o k x (omega (arith, f, g, n, l))

  -- a key of which no version is new and no waiter is woken
  module _ (k : Key) (old : new k ≡ []) (quiet : (a : Asked) → IsIn a (waits h) → a.key ≡ k → is_woken woken a ≡ false) where
    same_written : ◌≡◌ {A = List Version} (written h2 k) (written h k)
    same_written = written_more k ∙ ap (λ (vs : List Version). vs ++ written h k) old

    pub same_floor : floor keep loaded h2 k ≡ floor keep loaded h k
    same_floor = ap (λ (vs : List Version). cond (eqb keep 0) 0 (nth_greatest keep (start loaded k ∷ vs))) same_written

    same_below : (stamp : ℕ) → ◌≡◌ {A = Version} (below loaded h2 k stamp) (below loaded h k stamp)
    same_below stamp = ap (λ (vs : List Version). greatest (start loaded k) (filter (λ (v : Version). ltb v.number.n stamp) vs)) same_written

    same_awaited : (v : Version) → awaited loaded h2 k (waits h2) v ≡ awaited loaded h k (waits h) v
    same_awaited v = bool_both (awaited loaded h2 k (waits h2) v) (awaited loaded h k (waits h) v)
        (λ e.
        let f = any_found (λ (a : Asked). key_eq a.key k && number_eq v.number (below loaded h2 k a.stamp).number) (waits h2) e in
        any_at (λ (a : Asked). key_eq a.key k && number_eq v.number (below loaded h k a.stamp).number) f.0 (waits h) (still f.0 f.1) (ap (λ (z : Version). key_eq f.0.key k && number_eq v.number z.number) (sym (same_below f.0.stamp)) ∙ f.2))
        (λ e.
        let f = any_found (λ (a : Asked). key_eq a.key k && number_eq v.number (below loaded h k a.stamp).number) (waits h) e in
        let p = and_parts (key_eq f.0.key k) (number_eq v.number (below loaded h k f.0.stamp).number) f.2 in
        any_at (λ (a : Asked). key_eq a.key k && number_eq v.number (below loaded h2 k a.stamp).number) f.0 (waits h2)
        (subst (λ l. IsIn f.0 l) (sym waits_less) (in_filter (λ x. not (is_woken woken x)) f.0 (waits h) f.1 (ap not (quiet f.0 f.1 ((key_decides f.0.key k).0 p.0)))))
        (ap (λ (z : Version). key_eq f.0.key k && number_eq v.number z.number) (same_below f.0.stamp) ∙ f.2))

    pub same_kept : kept keep loaded h2 k ≡ kept keep loaded h k
    same_kept =
        ap (filter (is_kept keep loaded h2 k)) (ap (λ (vs : List Version). start loaded k ∷ reverse vs) same_written)
        ∙ filter_same (is_kept keep loaded h2 k) (is_kept keep loaded h k) (in_order loaded h k) (λ v i. ap₂ (λ n b. leb n v.number.n || b) same_floor (same_awaited v))

  -- what a table with the waiters of the history stays with is what is kept
  pub stays_is : (s : State) → Tracks loaded s h2 → (k : Key) (v : Version) (m : ℕ) (rs : List Request) → m ≡ floor keep loaded h2 k → rs ≡ requests_in (s.chains k) → (leb m v.number.n || list_any (awaits v.number) rs) ≡ is_kept keep loaded h2 k v
  stays_is s t k v m rs e f =
      ap₂ (λ n b. leb n v.number.n || b) e
      (ap (list_any (awaits v.number)) f
      ∙ bool_both (list_any (awaits v.number) (requests_in (s.chains k))) (awaited loaded h2 k (waits h2) v)
      (λ x.
      let y = any_found (awaits v.number) (requests_in (s.chains k)) x in
      ⊎_elim
      (λ (w : IsOwner h2 k y.0). absurd (true≢false (sym y.2 ∙ ap (awaits v.number) w.same)))
      (λ (w : IsWaiter loaded h2 k y.0).
      any_at (λ (a : Asked). key_eq a.key k && number_eq v.number (below loaded h2 k a.stamp).number) w.asked (waits h2) w.there
      (and_true (key_eq w.asked.key k) (number_eq v.number (below loaded h2 k w.asked.stamp).number) ((key_decides w.asked.key k).1 w.here)
      (number_eq_sym v.number (below loaded h2 k w.asked.stamp).number
      ∙ ap (λ q. number_eq (below loaded h2 q w.asked.stamp).number v.number) (sym w.here) ∙ sym (ap (awaits v.number) w.same) ∙ y.2)))
      (t.real k y.0 y.1))
      (λ x.
      let y = any_found (λ (a : Asked). key_eq a.key k && number_eq v.number (below loaded h2 k a.stamp).number) (waits h2) x in
      let p = and_parts (key_eq y.0.key k) (number_eq v.number (below loaded h2 k y.0.stamp).number) y.2 in
      let here : y.0.key ≡ k = (key_decides y.0.key k).0 p.0 in
      any_at (awaits v.number) (waiter_of loaded h2 y.0) (requests_in (s.chains k)) (subst (λ q. IsIn (waiter_of loaded h2 y.0) (requests_in (s.chains q))) here (t.queued y.0 y.1))
      (ap (λ q. number_eq (below loaded h2 q y.0.stamp).number v.number) here ∙ number_eq_sym (below loaded h2 k y.0.stamp).number v.number ∙ p.1)))
