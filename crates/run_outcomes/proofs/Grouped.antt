-- The groups of entries after one entry more.
use Rattle.std.proofs.Common.{◌≡◌, ◌≢◌, ℕ, zero, suc, ◌+◌, ◌-◌, ◌<◌, ◌≤◌, List, [], ◌∷◌, ◌++◌, length, map, get_or, set, true, false, cond, eqb, Some, None, refl, sym, ap, ◌∙◌, subst, arith, ⊎_elim}
use Rattle.std.proofs.lemmas.Bool.Decides.{nat_tests, eqb_tells}
use Rattle.std.proofs.lemmas.List.{append-nil, map-append, length-append, length-map, length-set, ext_get_or, get_or-set_same, get_or-set_other, map-set, get_or_at, get_or_append_left}
use Rattle.std.proofs.lemmas.List.Elements.{filter-append}
use Rattle.std.proofs.Math.ListN.{get_or-map}
use Rattle.deneva_base.specs.declared.numbers.TxnId.{TxnId}
use Rattle.txn_program.specs.Transactions.{numbers_below}
use Rattle.server_core.specs.declared.messages.Entry.{Entry}
use Rattle.run_outcomes.specs.Naming.{is_id, is_about, entries_of, groups_of}
use Rattle.server_core.specs.Messages.{txn_of}

pub length_below : {A : Type 0} (f : ℕ → A) (n : ℕ) → length (map f (numbers_below n)) ≡ n
length_below f zero = refl
length_below f (suc n) =
    let more = length_below f n in
    ap length (map-append f (numbers_below n) (n ∷ [])) ∙ length-append (map f (numbers_below n)) (f n ∷ []) ∙ omega (arith, more)

pub at_below : {A : Type 0} (f : ℕ → A) (n i : ℕ) (d : A) → i < n → get_or (map f (numbers_below n)) i d ≡ f i
at_below f zero i d less = absurd (omega (arith, less))
at_below f (suc n) i d less =
    ap (λ l. get_or l i d) (map-append f (numbers_below n) (n ∷ []))
    ∙ ⊎_elim
    (λ (t : (eqb i n ≡ true) × (i ≡ n)). ap (λ k. get_or (map f (numbers_below n) ++ f n ∷ []) k d) t.1 ∙ get_or_at (map f (numbers_below n)) (f n) [] d n (length_below f n) ∙ ap f (sym t.1))
    (λ (t : (eqb i n ≡ false) × (i ≢ n)).
    let ne = t.1 in
    let len = length_below f n in
    get_or_append_left (map f (numbers_below n)) (f n ∷ []) d i (omega (arith, less, ne, len)) ∙ at_below f n i d (omega (arith, less, ne)))
    (eqb_tells i n)

-- one value is replaced
pub set_below : {A : Type 0} (f g : ℕ → A) (n p : ℕ) (v : A) → p < n → ((k : ℕ) → k ≢ p → g k ≡ f k) → g p ≡ v → set (map f (numbers_below n)) p v ≡ map g (numbers_below n)
set_below f g n p v less others here =
    let fs = map f (numbers_below n) in
    let size : length (set fs p v) ≡ n = length-set fs p v ∙ length_below f n in
    ext_get_or v (set fs p v) (map g (numbers_below n)) (size ∙ sym (length_below g n))
    (λ i low.
    let in' : i < n = subst (λ m. i < m) size low in
    ⊎_elim
    (λ (t : (eqb i p ≡ true) × (i ≡ p)).
    ap (λ k. get_or (set fs p v) k v) t.1 ∙ get_or-set_same fs p v v (subst (λ m. p < m) (sym (length_below f n)) less) ∙ sym here ∙ ap g (sym t.1) ∙ sym (at_below g n i v in'))
    (λ (t : (eqb i p ≡ false) × (i ≢ p)). get_or-set_other fs p i v v t.1 ∙ at_below f n i v in' ∙ sym (others i t.1) ∙ sym (at_below g n i v in'))
    (eqb_tells i p))

same_below : {A : Type 0} (f g : ℕ → A) (n : ℕ) → ((k : ℕ) → k < n → g k ≡ f k) → map f (numbers_below n) ≡ map g (numbers_below n)
same_below f g zero same = refl
same_below f g (suc n) same =
    map-append f (numbers_below n) (n ∷ [])
    ∙ ap (λ l. l ++ f n ∷ []) (same_below f g n (λ k less. same k (omega (arith, less))))
    ∙ ap (λ a. map g (numbers_below n) ++ a ∷ []) (sym (same n (omega arith)))
    ∙ sym (map-append g (numbers_below n) (n ∷ []))

module _ (H : List Entry) (e : Entry) where
  one_more : (x : TxnId) → entries_of x (H ++ e ∷ []) ≡ entries_of x H ++ cond (is_about x e.msg) (e ∷ []) []
  one_more x = filter-append (λ e. is_about x e.msg) H (e ∷ [])

  not_about : (x : TxnId) → is_about x e.msg ≡ false → entries_of x (H ++ e ∷ []) ≡ entries_of x H
  not_about x other = one_more x ∙ ap (λ b. entries_of x H ++ cond b (e ∷ []) []) other ∙ append-nil (entries_of x H)

  -- an entry of one of the transactions goes to the end of its group
  pub group_more : (n : ℕ) (x : TxnId) (d : List Entry) → txn_of e.msg ≡ Some x → 1 ≤ x.0 → x.0 ≤ n → set (groups_of n H) (x.0 - 1) (get_or (groups_of n H) (x.0 - 1) d ++ e ∷ []) ≡ groups_of n (H ++ e ∷ [])
  group_more n x d is low high =
      let p = x.0 - 1 in
      let less : p < n = omega (arith, low, high) in
      let at : p + 1 ≡ x.0 = omega (arith, low) in
      let own : is_about (record { 0 = p + 1 }) e.msg ≡ true = ap (is_id (record { 0 = p + 1 })) is ∙ same x.0 (p + 1) (sym at) in
      ap (λ g. set (groups_of n H) p (g ++ e ∷ [])) (at_below (λ k. entries_of (record { 0 = k + 1 }) H) n p d less)
      ∙ set_below (λ k. entries_of (record { 0 = k + 1 }) H) (λ k. entries_of (record { 0 = k + 1 }) (H ++ e ∷ [])) n p (entries_of (record { 0 = p + 1 }) H ++ e ∷ []) less
      (λ k ne. not_about (record { 0 = k + 1 }) (ap (is_id (record { 0 = k + 1 })) is ∙ apart x.0 (k + 1) (omega (arith, at, ne))))
      (one_more (record { 0 = p + 1 }) ∙ ap (λ b. entries_of (record { 0 = p + 1 }) H ++ cond b (e ∷ []) []) own)
    where
      same : (a b : ℕ) → a ≡ b → eqb a b ≡ true
      same a b e = grind (arith, nat_tests, e)

      apart : (a b : ℕ) → a ≢ b → eqb a b ≡ false
      apart a b e = grind (arith, nat_tests, e)

  -- an entry of none of them leaves the groups
  pub group_same : (n : ℕ) → ((k : ℕ) → k < n → is_about (record { 0 = k + 1 }) e.msg ≡ false) → groups_of n H ≡ groups_of n (H ++ e ∷ [])
  group_same n none = same_below (λ k. entries_of (record { 0 = k + 1 }) H) (λ k. entries_of (record { 0 = k + 1 }) (H ++ e ∷ [])) n (λ k less. not_about (record { 0 = k + 1 }) (none k less))

  pub about_none : (n : ℕ) → txn_of e.msg ≡ None → groups_of n H ≡ groups_of n (H ++ e ∷ [])
  about_none n is = group_same n (λ k less. ap (is_id (record { 0 = k + 1 })) is)

  pub about_other : (n : ℕ) (x : TxnId) → txn_of e.msg ≡ Some x → (1 ≤ x.0 → x.0 ≤ n → ⊥) → groups_of n H ≡ groups_of n (H ++ e ∷ [])
  about_other n x is out = group_same n (λ k less. ap (is_id (record { 0 = k + 1 })) is ∙ apart x.0 (k + 1) (λ same. out (omega (arith, same)) (omega (arith, same, less))))
    where
      apart : (a b : ℕ) → a ≢ b → eqb a b ≡ false
      apart a b e = grind (arith, nat_tests, e)

module _ {G : Type 0} (view : G → List Entry) (gs : List G) (n : ℕ) (H : List Entry) (are : map view gs ≡ groups_of n H) where
  pub group_count : length gs ≡ n
  group_count = sym (length-map gs view) ∙ ap length are ∙ length_below (λ k. entries_of (record { 0 = k + 1 }) H) n

  -- an entry was put at the end of the group of its transaction
  pub group_pushed : (old new : G) (e : Entry) (x : TxnId) → txn_of e.msg ≡ Some x → 1 ≤ x.0 → x.0 ≤ length gs → old ≡ get_or gs (x.0 - 1) old → view new ≡ view old ++ e ∷ [] → map view (set gs (x.0 - 1) new) ≡ groups_of n (H ++ e ∷ [])
  group_pushed old new e x is low high at put =
      let p = x.0 - 1 in
      map-set view gs p new
      ∙ ap (λ g. set (map view gs) p g) (put ∙ ap (λ g. view g ++ e ∷ []) at ∙ ap (λ g. g ++ e ∷ []) (sym (get_or-map view gs p old)))
      ∙ ap (λ l. set l p (get_or l p (view old) ++ e ∷ [])) are
      ∙ group_more H e n x (view old) is low (subst (λ m. x.0 ≤ m) group_count high)

  -- the group at a place
  pub group_at : (g : G) (k : ℕ) → k < length gs → g ≡ get_or gs k g → view g ≡ entries_of (record { 0 = k + 1 }) H
  group_at g k less at =
      ap view at ∙ sym (get_or-map view gs k g) ∙ ap (λ l. get_or l k (view g)) are
      ∙ at_below (λ k. entries_of (record { 0 = k + 1 }) H) n k (view g) (subst (λ m. k < m) group_count less)
