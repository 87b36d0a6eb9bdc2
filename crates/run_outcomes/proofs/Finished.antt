-- Transactions that Calvin finished, by their own messages, and their places in the global order.
use Rattle.std.proofs.Common.{◌≡◌, ◌≢◌, ℕ, zero, suc, ◌+◌, ◌/◌, ◌%◌, ◌<◌, ◌≤◌, List, [], ◌∷◌, ◌++◌, length, map, take, drop, get_or, set, Bool, true, false, cond, ◌&&◌, ◌||◌, eqb, refl, sym, ap, ap₂, ◌∙◌, subst, inl, inr, ⊎_elim, arith}
use Rattle.std.specs.List.{All, filter, list_all}
use Rattle.std.proofs.lemmas.Bool.Decides.{nat_tests, eqb_tells}
use Rattle.std.proofs.lemmas.List.{length-append, map-append, take_more, take-append-drop, drop_more, get_or_default, get_or-set_same, get_or-set_other, length-take}
use Rattle.std.proofs.lemmas.List.Elements.{filter-append, All-take}
use Rattle.deneva_base.specs.Keys.{id_eq}
use Rattle.deneva_base.specs.Lists.{IsIn}
use Rattle.deneva_base.specs.Partitions.{partition_of}
use Rattle.deneva_base.specs.Rows.{row_at}
use Rattle.deneva_base.specs.declared.keys.Access.{Access}
use Rattle.deneva_base.specs.declared.numbers.TxnId.{TxnId}
use Rattle.deneva_base.specs.declared.rows.Keyed.{Keyed}
use Rattle.txn_program.specs.Apart.{DistinctBy}
use Rattle.txn_program.specs.Serial.{all_ids}
use Rattle.txn_program.specs.Transactions.{reading}
use Rattle.txn_program.proofs.Ids.{distinct_ids}
use Rattle.server_core.specs.GlobalOrder.{index_of, numbered}
use Rattle.server_core.specs.CalvinScheduler.{has_finished, rows_from, collected}
use Rattle.server_core.specs.Lines.{decided_as}
use Rattle.server_core.specs.Runs.{heard}
use Rattle.server_core.specs.Setting.{Setting, home}
use Rattle.server_core.specs.declared.messages.Entry.{Entry}
use Rattle.server_core.specs.declared.messages.Msg.{Msg}
use Rattle.server_core.specs.declared.messages.Msg.TheVariants.{Rows, Finished}
use Rattle.server_core.specs.declared.outcomes.Decided.{Decided}
use Rattle.run_outcomes.specs.Counting.{at_home}
use Rattle.run_outcomes.specs.Finishing.{gathered, is_finished, finished_line, finished_lines_of, IsPlace}
use Rattle.run_outcomes.specs.Naming.{is_about}
use Rattle.server_core.specs.Roles.{setting_of}
use Rattle.run_outcomes.specs.Stories.{Tells}
use Rattle.server_core.specs.declared.role.Role.{Role}
use Rattle.run_outcomes.specs.declared.stories.Story.{Story}
use Rattle.run_outcomes.proofs.Locals.{Skips}
use Rattle.run_outcomes.proofs.Telling.{of_messages}

finished_skips : (x : TxnId) (q : ℕ) → Skips (is_about x) (λ ms. has_finished ms x q)
finished_skips x q = record { skip = skip; keep = keep }
  where
    skip : (m : Msg) (ms : List Msg) → is_about x m ≡ false → has_finished (m ∷ ms) x q ≡ has_finished ms x q
    skip (Finished y r n) ms e = ap (λ b. (b && eqb r q) || has_finished ms x q) e
    skip m ms e = refl

    keep : (m : Msg) (ms ks : List Msg) → has_finished ms x q ≡ has_finished ks x q → has_finished (m ∷ ms) x q ≡ has_finished (m ∷ ks) x q
    keep (Finished y r n) ms ks e = ap (λ b. (id_eq y x && eqb r q) || b) e
    keep m ms ks e = e

rows_skip : (x : TxnId) (q : ℕ) → Skips (is_about x) (λ ms. rows_from ms x q)
rows_skip x q = record { skip = skip; keep = keep }
  where
    skip : (m : Msg) (ms : List Msg) → is_about x m ≡ false → rows_from (m ∷ ms) x q ≡ rows_from ms x q
    skip (Rows y r rows) ms e = ap (λ b. cond (b && eqb r q) rows (rows_from ms x q)) e
    skip m ms e = refl

    keep : (m : Msg) (ms ks : List Msg) → rows_from ms x q ≡ rows_from ks x q → rows_from (m ∷ ms) x q ≡ rows_from (m ∷ ks) x q
    keep (Rows y r rows) ms ks e = ap (λ l. cond (id_eq y x && eqb r q) rows l) e
    keep m ms ks e = e

all_same : {A : Type 0} (p q : A → Bool) (xs : List A) → ((x : A) → p x ≡ q x) → list_all p xs ≡ list_all q xs
all_same p q [] same = refl
all_same p q (x ∷ xs) same = ap₂ (λ a b. a && b) (same x) (all_same p q xs same)

each_same : {A B : Type 0} (f g : A → B) (xs : List A) → ((x : A) → f x ≡ g x) → map f xs ≡ map g xs
each_same f g [] same = refl
each_same f g (x ∷ xs) same = ap₂ (λ a b. a ∷ b) (same x) (each_same f g xs same)

module _ (r : Role) (H : List Entry) (t : Story) (k : Tells r H t) where
  abbrev ms : List Msg
  ms = map (λ m. m.now) t.messages.items

  abbrev heard_at_home : List Msg
  heard_at_home = heard (home (setting_of r) t.id) H

  pub finished_told : list_all (has_finished ms t.id) t.participants ≡ is_finished (setting_of r) H t.id
  finished_told =
      all_same (has_finished ms t.id) (has_finished heard_at_home t.id) t.participants (λ q. of_messages r H t k (λ l. has_finished l t.id q) (finished_skips t.id q))
      ∙ ap (list_all (has_finished heard_at_home t.id)) k.participants

  rows_told : gathered r.config.parts ms t.id t.accesses ≡ collected (setting_of r) heard_at_home t.id
  rows_told =
      each_same (λ (a : Access). record { key = a.key; row = row_at (rows_from ms t.id (partition_of a.key r.config.parts)) a.key }) (λ (a : Access). record { key = a.key; row = row_at (rows_from heard_at_home t.id (partition_of a.key r.config.parts)) a.key }) (reading t.accesses)
      (λ a. ap (λ (rows : List Keyed). record { key = a.key; row = row_at rows a.key }) (of_messages r H t k (λ l. rows_from l t.id (partition_of a.key r.config.parts)) (rows_skip t.id (partition_of a.key r.config.parts))))
      ∙ ap (λ l. map (λ (a : Access). record { key = a.key; row = row_at (rows_from heard_at_home t.id (partition_of a.key r.config.parts)) a.key }) (reading l)) k.accesses

  -- the line at this place
  pub line_told : (place n : ℕ) (reads : List Keyed) → IsPlace (setting_of r) t.id place → n ≡ numbered r.config.parts (place / 8) t.home (place % 8) → reads ≡ gathered r.config.parts ms t.id t.accesses → decided_as (setting_of r) t.id n reads ≡ finished_line (setting_of r) H t.id
  line_told place n reads at is are =
      ap₂ (decided_as (setting_of r) t.id)
      (is ∙ ap₂ (λ j q. numbered r.config.parts (j / 8) q (j % 8)) (sym at) k.home)
      (are ∙ rows_told)

-- places among the transactions of one home
pub at_home_few : (q : ℕ) (ts : List Story) → at_home q ts ≤ length ts
at_home_few q [] = omega arith
at_home_few q (t ∷ ts) = go (eqb t.home q) (at_home_few q ts)
  where
    go : (b : Bool) → at_home q ts ≤ length ts → length (cond b (t ∷ filter (λ (t : Story). eqb t.home q) ts) (filter (λ (t : Story). eqb t.home q) ts)) ≤ suc (length ts)
    go true more = omega (arith, more)
    go false more = omega (arith, more)

module _ (ts : List Story) (i : ℕ) (t : Story) (less : i < length ts) (at : t ≡ get_or ts i t) where
  more_taken : take (i + 1) ts ≡ take i ts ++ t ∷ []
  more_taken = take_more ts i t less ∙ ap (λ (x : Story). take i ts ++ x ∷ []) (sym at)

  pub at_home_more : (q : ℕ) → at_home q (take (i + 1) ts) ≡ at_home q (take i ts) + cond (eqb t.home q) 1 0
  at_home_more q =
      ap (at_home q) more_taken ∙ ap length (filter-append (λ (t : Story). eqb t.home q) (take i ts) (t ∷ []))
      ∙ length-append (filter (λ (t : Story). eqb t.home q) (take i ts)) (filter (λ (t : Story). eqb t.home q) (t ∷ []))
      ∙ ap (λ n. at_home q (take i ts) + n) (one (eqb t.home q))
    where
      one : (b : Bool) → length (cond b (t ∷ []) []) ≡ cond b 1 0
      one true = refl
      one false = refl

  -- counters of the homes, by which a place is told
  module _ (places : List ℕ) (parts home place : ℕ) (size : length places ≡ parts) (counts : (q : ℕ) → q < parts → get_or places q 0 ≡ at_home q (take i ts)) (is : home ≡ t.home) (below : t.home < parts) (read : place ≡ get_or places home place) where
    pub place_is : place ≡ at_home t.home (take i ts)
    place_is =
        read ∙ ap (λ q. get_or places q place) is ∙ get_or_default places t.home place 0 (subst (λ n. t.home < n) (sym size) below) ∙ counts t.home below

    pub counts_more : (q : ℕ) → q < parts → get_or (set places home (place + 1)) q 0 ≡ at_home q (take (i + 1) ts)
    counts_more q low =
        ap (λ p. get_or (set places p (place + 1)) q 0) is
        ∙ ⊎_elim
        (λ (e : (eqb t.home q ≡ true) × (t.home ≡ q)).
        ap (λ p. get_or (set places t.home (place + 1)) p 0) (sym e.1)
        ∙ get_or-set_same places t.home (place + 1) 0 (subst (λ n. t.home < n) (sym size) below)
        ∙ ap (λ n. n + 1) (place_is ∙ ap (λ p. at_home p (take i ts)) e.1)
        ∙ ap (λ b. at_home q (take i ts) + cond b 1 0) (sym e.0))
        (λ (e : (eqb t.home q ≡ false) × (t.home ≢ q)).
        get_or-set_other places t.home q (place + 1) 0 (λ f. e.1 (sym f)) ∙ counts q low ∙ add_none (at_home q (take i ts))
        ∙ ap (λ b. at_home q (take i ts) + cond b 1 0) (sym e.0))
        (eqb_tells t.home q)
        ∙ sym (at_home_more q)
      where
        add_none : (n : ℕ) → n ≡ n + 0
        add_none n = omega arith

    pub place_few : length ts ≤ 10000 → place ≤ 10000
    place_few few =
        let at = place_is in
        let low = at_home_few t.home (take i ts) in
        let size = length-take i ts in
        omega (arith, few, at, low, size)

  module _ (r : Role) (H : List Entry) (all : All (Tells r H) ts) (ids : map (λ (t : Story). t.id) ts ≡ all_ids r.work.now) where
    abbrev s : Setting
    s = setting_of r

    abbrev pre : List TxnId
    pre = map (λ (t : Story). t.id) (take i ts)

    abbrev post : List TxnId
    post = map (λ (t : Story). t.id) (drop (i + 1) ts)

    split : all_ids r.work.now ≡ pre ++ t.id ∷ post
    split =
        sym ids ∙ ap (map (λ (t : Story). t.id)) (sym (take-append-drop i ts) ∙ ap (λ l. take i ts ++ l) (drop_more ts i t less ∙ ap (λ (x : Story). x ∷ drop (i + 1) ts) (sym at)))
        ∙ map-append (λ (t : Story). t.id) (take i ts) (t ∷ drop (i + 1) ts)

    counted : (q : ℕ) (us : List Story) → All (Tells r H) us → length (filter (λ x. eqb (home s x) q) (map (λ (t : Story). t.id) us)) ≡ at_home q us
    counted q [] each = refl
    counted q (u ∷ us) each =
        let k : Tells r H u = each zero u (omega arith) in
        go (eqb u.home q) (eqb (home s u.id) q) (ap (λ n. eqb n q) k.home) (counted q us (λ j d low. each (suc j) d (omega (arith, low))))
      where
        go : (a b : Bool) → a ≡ b → length (filter (λ x. eqb (home s x) q) (map (λ (t : Story). t.id) us)) ≡ at_home q us → length (cond b (u.id ∷ filter (λ x. eqb (home s x) q) (map (λ (t : Story). t.id) us)) (filter (λ x. eqb (home s x) q) (map (λ (t : Story). t.id) us))) ≡ length (cond a (u ∷ filter (λ (t : Story). eqb t.home q) us) (filter (λ (t : Story). eqb t.home q) us))
        go true true e more = omega (arith, more)
        go false false e more = more
        go true false e more = absurd (cc (e))
        go false true e more = absurd (cc (e))

    index_after : (f : TxnId → Bool) (x : TxnId) (xs ys : List TxnId) → f x ≡ true → ((y : TxnId) → IsIn y xs → y.0 ≢ x.0) → index_of x (filter f (xs ++ x ∷ ys)) ≡ length (filter f xs)
    index_after f x [] ys passes apart = ap (λ b. index_of x (cond b (x ∷ filter f ys) (filter f ys))) passes ∙ ap (λ b. cond b 0 (suc (index_of x (filter f ys)))) (same x.0)
      where
        same : (n : ℕ) → eqb n n ≡ true
        same n = grind (arith, nat_tests)
    index_after f x (y ∷ xs) ys passes apart = go (f y) (index_after f x xs ys passes (λ z i. apart z (inr i)))
      where
        other : (a b : ℕ) → a ≢ b → eqb a b ≡ false
        other a b ne = grind (arith, nat_tests, ne)

        go : (b : Bool) → index_of x (filter f (xs ++ x ∷ ys)) ≡ length (filter f xs) → index_of x (cond b (y ∷ filter f (xs ++ x ∷ ys)) (filter f (xs ++ x ∷ ys))) ≡ length (cond b (y ∷ filter f xs) (filter f xs))
        go true more = ap (λ b. cond b 0 (suc (index_of x (filter f (xs ++ x ∷ ys))))) (other y.0 x.0 (apart y (inl refl))) ∙ ap suc more
        go false more = more

    distinct_before : (xs : List TxnId) (x : TxnId) (ys : List TxnId) → DistinctBy (λ (y : TxnId). y.0) (xs ++ x ∷ ys) → (y : TxnId) → IsIn y xs → y.0 ≢ x.0
    distinct_before [] x ys d y i = absurd i
    distinct_before (z ∷ xs) x ys d y i =
        ⊎_elim
        (λ (e : y ≡ z). λ same. d.0 x (there xs) (sym same ∙ ap (λ (u : TxnId). u.0) e))
        (λ j. distinct_before xs x ys d.1 y j)
        i
      where
        there : (us : List TxnId) → IsIn x (us ++ x ∷ ys)
        there [] = inl refl
        there (u ∷ us) = inr (there us)

    -- its place is the number of those before it with its home
    pub place_there : IsPlace s t.id (at_home t.home (take i ts))
    place_there =
        let k : Tells r H t = subst (Tells r H) (sym at) (all i t less) in
        let q = home s t.id in
        let apart = distinct_before pre t.id post (subst (DistinctBy (λ (y : TxnId). y.0)) split (distinct_ids r.work.now)) in
        ap (λ l. index_of t.id (filter (λ x. eqb (home s x) q) l)) split
        ∙ index_after (λ x. eqb (home s x) q) t.id pre post (same q) apart
        ∙ counted q (take i ts) (All-take (Tells r H) i ts all)
        ∙ ap (λ p. at_home p (take i ts)) (sym k.home)
      where
        same : (n : ℕ) → eqb n n ≡ true
        same n = grind (arith, nat_tests)

    -- the lines of one story more
    pub lines_more : (list now : List Decided) → list ≡ finished_lines_of s H pre → now ≡ list ++ cond (is_finished s H t.id) (finished_line s H t.id ∷ []) [] → now ≡ finished_lines_of s H (map (λ (t : Story). t.id) (take (i + 1) ts))
    lines_more list now so_far put =
        put ∙ ap (λ l. l ++ cond (is_finished s H t.id) (finished_line s H t.id ∷ []) []) so_far
        ∙ ap (λ l. finished_lines_of s H pre ++ l) (one (is_finished s H t.id))
        ∙ sym (map-append (finished_line s H) (filter (is_finished s H) pre) (filter (is_finished s H) (t.id ∷ [])))
        ∙ ap (map (finished_line s H)) (sym (filter-append (is_finished s H) pre (t.id ∷ [])))
        ∙ ap (λ l. finished_lines_of s H l) (sym (map-append (λ (t : Story). t.id) (take i ts) (t ∷ [])) ∙ ap (map (λ (t : Story). t.id)) (sym more_taken))
      where
        one : (b : Bool) → cond b (finished_line s H t.id ∷ []) [] ≡ map (finished_line s H) (cond b (t.id ∷ []) [])
        one true = refl
        one false = refl
