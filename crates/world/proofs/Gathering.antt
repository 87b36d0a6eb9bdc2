-- Rows of several nodes, each of which has rows of its own keys alone.
use Rattle.std.proofs.Common.{◌≡◌, ◌≢◌, ℕ, zero, suc, ◌+◌, ◌<◌, List, [], ◌∷◌, ◌++◌, length, map, slice_get, Bool, true, false, cond, Some, None, length-append, refl, sym, ap, ap₂, ◌∙◌, subst, inl, inr, ⊎_elim, true≢false, arith}
use Rattle.std.specs.List.{IsDistinct, AllByRecursion}
use Rattle.std.proofs.lemmas.Bool.Decides.{eqb_tells}
use Rattle.std.proofs.lemmas.Map.Keys.{IsDistinct-head, IsDistinct-tail, IsDistinct-cons}
use Rattle.std.proofs.lemmas.Option.{slice_get_within}
use Rattle.std.proofs.lemmas.List.{append-nil}
use Rattle.deneva_base.specs.Keys.{key_eq}
use Rattle.deneva_base.specs.Lists.{IsIn}
use Rattle.deneva_base.specs.Rising.{keys_rise}
use Rattle.deneva_base.specs.Rows.{row_of}
use Rattle.deneva_base.specs.declared.keys.Key.{Key}
use Rattle.deneva_base.specs.declared.rows.Keyed.{Keyed}
use Rattle.deneva_base.proofs.KeyOrder.{key_eq_equivalence}
use Rattle.deneva_base.proofs.SortedRows.{distinct_from_rising}
use Rattle.deneva_base.specs.Partitions.{partition_of}
use Rattle.deneva_base.specs.declared.config.Config.{Config}
use Rattle.deneva_base.specs.declared.config.Protocol.{Protocol}
use Rattle.txn_program.specs.Valid.{IsValid}
use Rattle.txn_program.specs.declared.programs.Workload.{Workload}
use Rattle.server_core.specs.Configs.{IsConfig}
use Rattle.server_core.specs.NodeRows.{rows_of_node}
use Rattle.server_core.specs.Roles.{Role, rows_of_role}
use Rattle.server_core.specs.Runs.{heard}
use Rattle.server_core.specs.Says.{IsRun}
use Rattle.server_core.specs.declared.messages.Entry.{Entry}
use Rattle.server_core.specs.declared.messages.Mail.{Mail}
use Rattle.server_core.specs.declared.messages.Msg.{Msg}
use Rattle.world.specs.Chunks.{joined}
use Rattle.world.specs.Gathered.{Gathered, AreRowsOf}
use Rattle.world.proofs.Delivering.{push_cases}
use Rattle.world.specs.Worlds.{Seen, IsRunning, HasNodes}
use Rattle.world.proofs.Joined.{joined-append}
use Rattle.txn_program.proofs.Participants.{partition_below}

-- a key that the first rows have not is looked for in the others
row_of-right : (a b : List Keyed) (key : Key) → row_of a key ≡ None → row_of (a ++ b) key ≡ row_of b key
row_of-right [] b key none = refl
row_of-right (r ∷ a) b key none = go (key_eq r.key key) none (row_of-right a b key)
  where
    go : (t : Bool) → cond t (Some r.row) (row_of a key) ≡ None → (row_of a key ≡ None → row_of (a ++ b) key ≡ row_of b key) → cond t (Some r.row) (row_of (a ++ b) key) ≡ row_of b key
    go true none rest = cc (none)
    go false none rest = rest none

row_of-left : (a b : List Keyed) (key : Key) → row_of b key ≡ None → row_of (a ++ b) key ≡ row_of a key
row_of-left [] b key none = none
row_of-left (r ∷ a) b key none = ap (cond (key_eq r.key key) (Some r.row)) (row_of-left a b key none)

no_row_apart : (b : List Keyed) (key : Key) → row_of b key ≡ None → AllByRecursion (λ k. key_eq key k ≡ false) (map (λ r. r.key) b)
no_row_apart [] key none = tt
no_row_apart (r ∷ b) key none = go (key_eq r.key key) refl none (no_row_apart b key)
  where
    go : (t : Bool) → key_eq r.key key ≡ t → cond t (Some r.row) (row_of b key) ≡ None → (row_of b key ≡ None → AllByRecursion (λ k. key_eq key k ≡ false) (map (λ q. q.key) b))
        → (key_eq key r.key ≡ false) × AllByRecursion (λ k. key_eq key k ≡ false) (map (λ q. q.key) b)
    go true e none rest = cc (none)
    go false e none rest = (key_eq_equivalence.symm key r.key ∙ e, rest none)

has_row : (a : List Keyed) (r : Keyed) → IsIn r a → row_of a r.key ≡ None → ⊥
has_row [] r i none = i
has_row (q ∷ a) r i none = go (key_eq q.key r.key) refl none i (λ j. has_row a r j)
  where
    go : (t : Bool) → key_eq q.key r.key ≡ t → cond t (Some q.row) (row_of a r.key) ≡ None → IsIn r (q ∷ a) → (IsIn r a → row_of a r.key ≡ None → ⊥) → ⊥
    go true e none i rest = cc (none)
    go false e none i rest = ⊎_elim (λ is. true≢false (sym (key_eq_equivalence.refl r.key) ∙ ap (λ (z : Keyed). key_eq z.key r.key) is ∙ e)) (λ j. rest j none) i

all_append : (P : Key → Type 0) (a b : List Keyed) → AllByRecursion P (map (λ r. r.key) a) → AllByRecursion P (map (λ r. r.key) b) → AllByRecursion P (map (λ r. r.key) (a ++ b))
all_append P [] b h k = k
all_append P (r ∷ a) b h k = (h.0, all_append P a b h.1 k)

distinct_append : (a b : List Keyed) → IsDistinct key_eq (map (λ r. r.key) a) → IsDistinct key_eq (map (λ r. r.key) b) → ((r : Keyed) → IsIn r a → row_of b r.key ≡ None) → IsDistinct key_eq (map (λ r. r.key) (a ++ b))
distinct_append [] b d e apart = e
distinct_append (r ∷ a) b d e apart =
    IsDistinct-cons key_eq r.key (map (λ q. q.key) (a ++ b))
    (all_append (λ k. key_eq r.key k ≡ false) a b (IsDistinct-head key_eq r.key (map (λ q. q.key) a) d) (no_row_apart b r.key (apart r (inl refl))))
    (distinct_append a b (IsDistinct-tail key_eq r.key (map (λ q. q.key) a) d) e (λ q i. apart q (inr i)))

-- each list has keys of its own place alone, counted from `base`
module _ (place : Key → ℕ) where
  abbrev pub AreOwn : ℕ → List (List Keyed) → Type 0
  AreOwn base lists = (p : ℕ) (l : List Keyed) → slice_get lists p ≡ Some l → (key : Key) → place key ≢ base + p → row_of l key ≡ None

  own_rest : (base : ℕ) (l : List Keyed) (lists : List (List Keyed)) → AreOwn base (l ∷ lists) → AreOwn (suc base) lists
  own_rest base l lists own p k at key apart = own (suc p) k at key (λ e. apart (omega (arith, e)))

  joined_none : (base : ℕ) (lists : List (List Keyed)) → AreOwn base lists → (key : Key) → place key < base → row_of (joined lists) key ≡ None
  joined_none base [] own key below = refl
  joined_none base (l ∷ lists) own key below =
      row_of-right l (joined lists) key (own 0 l refl key (λ e. absurd (omega (arith, e, below))))
      ∙ joined_none (suc base) lists (own_rest base l lists own) key (omega (arith, below))

  pub joined_rows : (base : ℕ) (lists : List (List Keyed)) → AreOwn base lists → (p : ℕ) (l : List Keyed) (key : Key) → slice_get lists p ≡ Some l → place key ≡ base + p → row_of (joined lists) key ≡ row_of l key
  joined_rows base [] own zero l key at e = cc (at)
  joined_rows base [] own (suc p) l key at e = cc (at)
  joined_rows base (k ∷ lists) own zero l key at e =
      let is : k ≡ l = cc in
      row_of-left k (joined lists) key (joined_none (suc base) lists (own_rest base k lists own) key (omega (arith, e))) ∙ ap (λ z. row_of z key) is
  joined_rows base (k ∷ lists) own (suc p) l key at e =
      row_of-right k (joined lists) key (own 0 k refl key (λ q. absurd (omega (arith, q, e))))
      ∙ joined_rows (suc base) lists (own_rest base k lists own) p l key at (omega (arith, e))

  pub joined_distinct : (base : ℕ) (lists : List (List Keyed)) → AreOwn base lists → ((p : ℕ) (l : List Keyed) → slice_get lists p ≡ Some l → keys_rise l ≡ true) → IsDistinct key_eq (map (λ r. r.key) (joined lists))
  unfolding IsDistinct
  joined_distinct base [] own rise = tt
  joined_distinct base (l ∷ lists) own rise =
      distinct_append l (joined lists) (distinct_from_rising l (rise 0 l refl)) (joined_distinct (suc base) lists (own_rest base l lists own) (λ p k at. rise (suc p) k at))
      (λ r i. joined_none (suc base) lists (own_rest base l lists own) r.key (here r i))
    where
      here : (r : Keyed) → IsIn r l → place r.key < suc base
      here r i = ⊎_elim (λ t. let e = t.1 in omega (arith, e)) (λ t. absurd (has_row l r i (own 0 l refl r.key (λ e. t.1 (omega (arith, e)))))) (eqb_tells (place r.key) base)

-- the rows of one more node
pub gathered_more : {S : Type 0} (role : S → Role) (stands : S → List Msg → Type 0) (nodes new : List S) (s : S) (rows all more : List Keyed) → new ≡ nodes ++ s ∷ [] → Gathered role stands nodes rows → AreRowsOf role stands s more
    → all ≡ rows ++ more → Gathered role stands new all
gathered_more role stands nodes new s rows all more is g of put = record {
  lists = g.lists ++ more ∷ [];
  all = put ∙ ap₂ (λ (x y : List Keyed). x ++ y) g.all (sym (append-nil more)) ∙ sym (joined-append g.lists (more ∷ []));
  count = let c = g.count in let n = ap length is in omega (arith, c, n, length-append g.lists (more ∷ []), length-append nodes (s ∷ []));
  each = λ p x l at_node at_list.
      let node = push_cases nodes s x p (ap (λ z. slice_get z p) (sym is) ∙ at_node) in
      let list = push_cases g.lists more l p at_list in
      ⊎_elim
      (λ h. ⊎_elim
      (λ k. subst (λ z. AreRowsOf role stands z l) (sym h.1) (subst (λ z. AreRowsOf role stands s z) (sym k.1) of))
      (λ k. absurd (let c = g.count in let a = h.0 in let b = within g.lists p l k in omega (arith, a, b, c)))
      list)
      (λ h. ⊎_elim
      (λ k. absurd (let c = g.count in let a = k.0 in let b = within nodes p x h in omega (arith, a, b, c)))
      (λ k. g.each p x l h k)
      list)
      node;
}
  where
    within : {A : Type 0} (xs : List A) (p : ℕ) (x : A) → slice_get xs p ≡ Some x → p < length xs
    within xs p x e = slice_get_within xs p x e

slice_some : {A : Type 0} (xs : List A) (p : ℕ) → p < length xs → (x : A) × (slice_get xs p ≡ Some x)
slice_some [] p h = absurd (omega (arith, h))
slice_some (x ∷ xs) zero h = (x, refl)
slice_some (x ∷ xs) (suc p) h = slice_some xs p (omega (arith, h))

-- the rows of a world's nodes
module _ {S : Type 0} (role : S → Role) (stands : S → List Msg → Type 0) (protocol : Protocol)
    (keeps_apart : (c : Config) (w : Workload) (H : List Entry) (flight : List Mail) (p : ℕ) (key : Key) → c.protocol ≡ protocol → IsConfig c → IsValid w → IsRun c w H flight → partition_of key c.parts ≢ p → rows_of_node c w p (heard p H) key ≡ None)
    (nodes : List S) (w : Seen) (running : IsRunning protocol w) (has : HasNodes role stands nodes w) (rows : List Keyed) (g : Gathered role stands nodes rows) where
  abbrev place : Key → ℕ
  place key = partition_of key w.config.parts

  node_rows : (p : ℕ) (l : List Keyed) → slice_get g.lists p ≡ Some l → (keys_rise l ≡ true) × ((key : Key) → row_of l key ≡ rows_of_node w.config w.work p (heard p w.progress.entries) key)
  node_rows p l at =
      let s = slice_some nodes p (let c = g.count in let i = slice_get_within g.lists p l at in omega (arith, c, i)) in
      let is = has.each p s.0 s.1 in
      let each = g.each p s.0 l s.1 at in
      (each.order, λ key. each.rows_are (heard p w.progress.entries) is.1 key ∙ ap (λ (r : Role). rows_of_role r (heard p w.progress.entries) key) is.0)

  own : AreOwn place 0 g.lists
  own p l at key apart =
      (node_rows p l at).1 key
      ∙ keeps_apart w.config w.work w.progress.entries w.progress.flight p key running.of_protocol running.ranges running.valid running.run (λ e. apart (omega (arith, e)))

  pub world_distinct : IsDistinct key_eq (map (λ r. r.key) rows)
  world_distinct = subst (λ (l : List Keyed). IsDistinct key_eq (map (λ r. r.key) l)) (sym g.all) (joined_distinct place 0 g.lists own (λ p l at. (node_rows p l at).0))

  pub world_rows : (key : Key) → row_of rows key ≡ rows_of_node w.config w.work (partition_of key w.config.parts) (heard (partition_of key w.config.parts) w.progress.entries) key
  world_rows key =
      let below = partition_below key w.config.parts running.ranges.some_parts in
      let l = slice_some g.lists (place key) (let c = g.count in let n = has.count in omega (arith, c, n, below)) in
      let zero_first : place key ≡ 0 + place key = omega arith in
      ap (λ (r : List Keyed). row_of r key) g.all ∙ joined_rows place 0 g.lists own (place key) l.0 key l.1 zero_first ∙ (node_rows (place key) l.0 l.1).1 key
