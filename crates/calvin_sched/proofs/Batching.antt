-- What a batch brings to a node.
use Rattle.std.proofs.Common.{◌≡◌, ◌≢◌, ℕ, ◌+◌, ◌*◌, ◌<◌, ◌≤◌, List, [], ◌∷◌, ◌++◌, length, map, filter, drop, Bool, true, false, cond, ◌&&◌, ◌||◌, not, eqb, refl, sym, ap, ap₂, ◌∙◌, subst, inl, inr, ⊎_elim, arith, Option, Some, None}
use Rattle.std.specs.Prelude.{slice_set, is_some}
use Rattle.std.specs.List.{flat_map}
use Rattle.std.proofs.lemmas.Grind.{flat_map-append}
use Rattle.std.proofs.lemmas.List.{drop-map, length-map}
use Rattle.deneva_base.specs.declared.numbers.TxnId.{TxnId}
use Rattle.deneva_base.specs.declared.keys.Key.{Key}
use Rattle.deneva_base.specs.Lists.{IsIn}
use Rattle.deneva_base.proofs.Membership.{and_parts, and_true, filter_in, in_filter, in_right}
use Rattle.server_core.specs.ActiveList.{active, became, skip_while, newly_taken}
use Rattle.server_core.specs.Calvin.{became_ready}
use Rattle.server_core.specs.CalvinFits.{AllFit}
use Rattle.server_core.specs.CalvinProper.{Valid}
use Rattle.server_core.specs.GlobalOrder.{Slot, slots, epochs, batch, order, has_id}
use Rattle.server_core.specs.CalvinScheduler.{participates, has_batch, as_far, taken, is_finished, is_ready, unblocked}
use Rattle.server_core.specs.Proper.{ids_in as ids_of}
use Rattle.server_core.specs.Setting.{Setting}
use Rattle.server_core.specs.declared.messages.Msg.TheVariants.{Batch}
use Rattle.server_core.specs.declared.messages.Msg.{Msg}
use Rattle.calvin_laws.proofs.node.ActiveLists.{ready_among, became_active, active_batch}
use Rattle.server_core.proofs.lists.ListTests.{in_has, has_in, is_or_not, not_both, not_true, same_number, id_self}
use Rattle.calvin_laws.proofs.order.Nodes.{number_is, as_far_in}
use Rattle.calvin_laws.proofs.order.Orders.{order_once, ids-append}
use Rattle.deneva_base.specs.Keys.{id_eq}
use Rattle.calvin_laws.proofs.node.Steps.{batch_news}
use Rattle.server_core.proofs.lists.RowFolds.{filter-append}
use Rattle.calvin_sched.specs.Asked.{asked, all_free}
use Rattle.calvin_sched.specs.Batches.{came, ids_in, newly}
use Rattle.calvin_sched.specs.Queues.{for_key}
use Rattle.calvin_sched.specs.Standing.{batch_if, HasBatches}
use Rattle.calvin_sched.specs.declared.batches.Batches.{Batches}
use Rattle.calvin_sched.specs.declared.requests.Request.{Request}
use Rattle.calvin_sched.proofs.Asked.{free_is_first, asked_here, asked-append, for_key-append}
use Rattle.calvin_sched.proofs.Slots.{set_slot}

-- Lists.

as_far-map : {A B : Type 0} (f : B → Bool) (g : A → B) (xs : List A) → as_far f (map g xs) ≡ map g (as_far (λ x. f (g x)) xs)
as_far-map f g [] = refl
as_far-map {A} {B} f g (x ∷ xs) = go (f (g x)) (as_far-map f g xs)
  where
    go : (b : Bool) → as_far f (map g xs) ≡ map g (as_far (λ y. f (g y)) xs) → cond b (g x ∷ as_far f (map g xs)) [] ≡ map g (cond b (x ∷ as_far (λ y. f (g y)) xs) [])
    go true next = ap (λ l. g x ∷ l) next
    go false next = refl

as_far_same : {A : Type 0} (f g : A → Bool) (xs : List A) → ((x : A) → f x ≡ g x) → as_far f xs ≡ as_far g xs
as_far_same f g [] h = refl
as_far_same f g (x ∷ xs) h = ap₂ (λ b l. cond b (x ∷ l) []) (h x) (as_far_same f g xs h)

drop_past : {A : Type 0} (f : A → Bool) (xs : List A) → drop (length (as_far f xs)) xs ≡ skip_while f xs
drop_past f [] = refl
drop_past {A} f (x ∷ xs) = go (f x) (drop_past f xs)
  where
    go : (b : Bool) → drop (length (as_far f xs)) xs ≡ skip_while f xs → drop (length (cond b (x ∷ as_far f xs) [])) (x ∷ xs) ≡ cond b (skip_while f xs) (x ∷ xs)
    go true next = next
    go false next = refl

filter_none : {A : Type 0} (f : A → Bool) (xs : List A) → ((x : A) → IsIn x xs → f x ≡ false) → filter f xs ≡ []
filter_none f [] h = refl
filter_none f (x ∷ xs) h = rw (h x (inl refl)) (filter_none f xs (λ y i. h y (inr i)))

filter_same : {A : Type 0} (f g : A → Bool) (xs : List A) → ((x : A) → IsIn x xs → f x ≡ g x) → filter f xs ≡ filter g xs
filter_same f g [] h = refl
filter_same f g (x ∷ xs) h = ap (λ b. cond b (x ∷ filter f xs) (filter f xs)) (h x (inl refl)) ∙ ap (λ l. cond (g x) (x ∷ l) l) (filter_same f g xs (λ y i. h y (inr i)))

filter_and : {A : Type 0} (f g : A → Bool) (xs : List A) → filter f (filter g xs) ≡ filter (λ x. g x && f x) xs
filter_and f g [] = refl
filter_and {A} f g (x ∷ xs) = go (g x) (filter_and f g xs)
  where
    go : (b : Bool) → filter f (filter g xs) ≡ filter (λ y. g y && f y) xs → filter f (cond b (x ∷ filter g xs) (filter g xs)) ≡ cond (b && f x) (x ∷ filter (λ y. g y && f y) xs) (filter (λ y. g y && f y) xs)
    go true next = ap (λ l. cond (f x) (x ∷ l) l) next
    go false next = next

whole_list : {A : Type 0} (f : A → Bool) (xs : List A) → xs ≡ as_far f xs ++ skip_while f xs
whole_list f [] = refl
whole_list {A} f (x ∷ xs) = go (f x) (whole_list f xs)
  where
    go : (b : Bool) → xs ≡ as_far f xs ++ skip_while f xs → x ∷ xs ≡ cond b (x ∷ as_far f xs) [] ++ cond b (skip_while f xs) (x ∷ xs)
    go true next = ap (λ l. x ∷ l) next
    go false next = refl

some_ids : (x : TxnId) (xs : List TxnId) → IsIn x xs → 1 ≤ ids_of x xs
some_ids x [] i = absurd i
some_ids x (y ∷ xs) i = ⊎_elim (λ (is : x ≡ y). let e : id_eq y x ≡ true = subst (λ z. id_eq z x ≡ true) is (id_self x) in rw e (omega arith)) (λ r. omega (arith, some_ids x xs r)) i

module _ (s : Setting) where
  is_there : (ms : List Msg) (l : Slot) → is_some (batch_if s ms l) ≡ has_batch ms l
  is_there ms l = go (has_batch ms l)
    where
      go : (b : Bool) → is_some (cond b (Some (batch s l)) None) ≡ b
      go true = refl
      go false = refl

  first_there : (ms : List Msg) (ls : List Slot) → as_far is_some (map (batch_if s ms) ls) ≡ map (batch_if s ms) (as_far (has_batch ms) ls)
  first_there ms ls = as_far-map is_some (batch_if s ms) ls ∙ ap (map (batch_if s ms)) (as_far_same (λ l. is_some (batch_if s ms l)) (has_batch ms) ls (is_there ms))

  their_ids : (ms : List Msg) (ls : List Slot) → flat_map ids_in (map (batch_if s ms) (as_far (has_batch ms) ls)) ≡ flat_map (batch s) (as_far (has_batch ms) ls)
  their_ids ms [] = refl
  their_ids ms (l ∷ ls) = go (has_batch ms l) refl (their_ids ms ls)
    where
      go : (b : Bool) → has_batch ms l ≡ b → flat_map ids_in (map (batch_if s ms) (as_far (has_batch ms) ls)) ≡ flat_map (batch s) (as_far (has_batch ms) ls) → flat_map ids_in (map (batch_if s ms) (cond b (l ∷ as_far (has_batch ms) ls) [])) ≡ flat_map (batch s) (cond b (l ∷ as_far (has_batch ms) ls) [])
      go true e next = ap₂ (λ a b. ids_in (cond a (Some (batch s l)) None) ++ b) e next
      go false e next = refl

  module _ (ms : List Msg) (e q : ℕ) (ids : List TxnId) (there : (e < epochs s) × (q < s.parts)) (its : ids ≡ batch s (record { epoch = e; seq = q })) where
    -- the batches that came, with one more at its place
    pub came_more : slice_set (map (batch_if s ms) (slots s)) (e * s.parts + q) (Some ids) ≡ map (batch_if s (Batch e q ids ∷ ms)) (slots s)
    came_more =
        set_slot (batch_if s ms) (batch_if s (Batch e q ids ∷ ms)) (Some ids) s.parts (epochs s) e q there.0 there.1 here other
      where
        here : batch_if s (Batch e q ids ∷ ms) (record { epoch = e; seq = q }) ≡ Some ids
        here = ap (λ b. cond (b || has_batch ms (record { epoch = e; seq = q })) (Some (batch s (record { epoch = e; seq = q }))) None) (and_true (eqb e e) (eqb q q) (same_number e) (same_number q)) ∙ ap (λ l. Some l) (sym its)

        not_its : (l : Slot) → l ≢ record { epoch = e; seq = q } → (eqb e l.epoch && eqb q l.seq) ≡ false
        not_its l ne =
            ⊎_elim
            (λ t. let both = and_parts (eqb e l.epoch) (eqb q l.seq) t in absurd (ne (λ i. record { epoch = sym (number_is e l.epoch both.0) i; seq = sym (number_is q l.seq both.1) i })))
            (λ f. f)
            (is_or_not (eqb e l.epoch && eqb q l.seq))

        other : (l : Slot) → l ≢ record { epoch = e; seq = q } → batch_if s (Batch e q ids ∷ ms) l ≡ batch_if s ms l
        other l ne = ap (λ b. cond (b || has_batch ms l) (Some (batch s l)) None) (not_its l ne)

    -- those that are taken with it
    pub newly_are : (b : Batches) → HasBatches s b ms → newly (e * s.parts + q) ids (came b) ≡ newly_taken s (Batch e q ids) ms
    newly_are b has =
        let m : Msg = Batch e q ids in
        ap (λ l. newly (e * s.parts + q) ids l) has.came
        ∙ ap (λ l. flat_map ids_in (as_far is_some (drop (length (as_far is_some (map (batch_if s ms) (slots s)))) l))) came_more
        ∙ ap {B = List TxnId} (λ n. flat_map ids_in (as_far is_some (drop n (map (batch_if s (m ∷ ms)) (slots s))))) (ap {B = ℕ} (λ (l : List (Option (List TxnId))). length l) (first_there ms (slots s)) ∙ length-map (as_far (has_batch ms) (slots s)) (batch_if s ms))
        ∙ ap (λ l. flat_map ids_in (as_far is_some l)) (drop-map (batch_if s (m ∷ ms)) (length (as_far (has_batch ms) (slots s))) (slots s))
        ∙ ap (λ l. flat_map ids_in (as_far is_some (map (batch_if s (m ∷ ms)) l))) (drop_past (has_batch ms) (slots s))
        ∙ ap (flat_map ids_in) (first_there (m ∷ ms) (skip_while (has_batch ms) (slots s)))
        ∙ their_ids (m ∷ ms) (skip_while (has_batch ms) (slots s))

module _ (s : Setting) (v : Valid s) (p : ℕ) (ms : List Msg) (fit : AllFit s p ms) (e q : ℕ) (ids : List TxnId) where
  abbrev with_it : List Msg
  with_it = Batch e q ids ∷ ms

  abbrev fresh : List TxnId
  fresh = newly_taken s (Batch e q ids) ms

  -- the queues after its transactions asked
  pub queues_more : (key : Key) → for_key key (asked s p (active s p ms)) ++ for_key key (asked s p fresh) ≡ for_key key (asked s p (active s p with_it))
  queues_more key =
      sym (for_key-append key (asked s p (active s p ms)) (asked s p fresh))
      ∙ ap (λ l. for_key key (asked s p (active s p ms) ++ l)) (asked_here s p fresh)
      ∙ ap (for_key key) (sym (asked-append s p (active s p ms) (filter (λ x. participates s x p) fresh)))
      ∙ ap (λ l. for_key key (asked s p l)) (sym (active_batch s v p e q ids ms fit))

  module _ (now : AllFit s p with_it) (queue : Key → List Request) (has : (key : Key) → queue key ≡ for_key key (asked s p (active s p with_it))) where
    -- no active transaction becomes ready
    none_old : filter (became s p (Batch e q ids) ms) (active s p ms) ≡ []
    none_old =
        filter_none (became s p (Batch e q ids) ms) (active s p ms) (λ x i.
        ⊎_elim
        (λ t.
        let b = and_parts (is_ready s p with_it x) (not (is_ready s p ms x)) t in
        let taken_before = (filter_in (λ y. participates s y p && not (is_finished s ms y)) x (taken s ms) i).0 in
        absurd (not_both (has_id x (taken s ms)) (in_has x (taken s ms) taken_before) (batch_news s p e q ids ms x b.0 (not_true (is_ready s p ms x) b.1))))
        (λ f. f)
        (is_or_not (became s p (Batch e q ids) ms x)))

    -- those that become ready are those of its transactions that are free
    pub ready_with : became_ready s p (Batch e q ids) ms ≡ filter (λ x. participates s x p && all_free s p queue x None) fresh
    ready_with =
        became_active s v p (Batch e q ids) ms now
        ∙ ap (filter (became s p (Batch e q ids) ms)) (active_batch s v p e q ids ms fit)
        ∙ filter-append (became s p (Batch e q ids) ms) (active s p ms) (filter (λ x. participates s x p) fresh)
        ∙ ap (λ l. l ++ filter (became s p (Batch e q ids) ms) (filter (λ x. participates s x p) fresh)) none_old
        ∙ filter_and (became s p (Batch e q ids) ms) (λ x. participates s x p) fresh
        ∙ filter_same (λ x. participates s x p && became s p (Batch e q ids) ms x) (λ x. participates s x p && all_free s p queue x None) fresh one
      where
        not_before : (x : TxnId) → IsIn x fresh → is_ready s p ms x ≡ false
        not_before x i =
            ⊎_elim
            (λ t.
            let old : IsIn x (taken s ms) = has_in x (taken s ms) (and_parts (has_id x (taken s ms)) (participates s x p && unblocked s p ms x) t).0 in
            let rest : List TxnId = flat_map (batch s) (skip_while (has_batch ms) (slots s)) in
            let whole : order s ≡ taken s ms ++ rest = ap (flat_map (batch s)) (whole_list (has_batch ms) (slots s)) ∙ flat_map-append (batch s) (as_far (has_batch ms) (slots s)) (skip_while (has_batch ms) (slots s)) in
            let later : IsIn x rest = as_far_in s (has_batch with_it) x (skip_while (has_batch ms) (slots s)) i in
            let once = order_once s v x in
            let sum = ap {B = ℕ} (λ l. ids_of x l) whole ∙ ids-append x (taken s ms) rest in
            let one = some_ids x (taken s ms) old in
            let two = some_ids x rest later in
            absurd (omega (arith, once, sum, one, two)))
            (λ f. f)
            (is_or_not (is_ready s p ms x))

        one : (x : TxnId) → IsIn x fresh → (participates s x p && became s p (Batch e q ids) ms x) ≡ (participates s x p && all_free s p queue x None)
        one x i =
            ⊎_elim
            (λ t.
            let here : IsIn x (active s p with_it) = subst (λ l. IsIn x l) (sym (active_batch s v p e q ids ms fit)) (in_right x (active s p ms) (filter (λ y. participates s y p) fresh) (in_filter (λ y. participates s y p) x fresh i t)) in
            ap (λ b. b && became s p (Batch e q ids) ms x) t
            ∙ ap (λ b. is_ready s p with_it x && not b) (not_before x i)
            ∙ and_is (is_ready s p with_it x)
            ∙ ready_among s v p with_it x here
            ∙ sym (free_is_first s p queue (active s p with_it) has x)
            ∙ ap (λ b. b && all_free s p queue x None) (sym t))
            (λ f. ap (λ b. b && became s p (Batch e q ids) ms x) f ∙ ap (λ b. b && all_free s p queue x None) (sym f))
            (is_or_not (participates s x p))
          where
            and_is : (b : Bool) → (b && true) ≡ b
            and_is true = refl
            and_is false = refl
