-- Ready by the definition of the node is ready by the rule.
use Rattle.std.proofs.Common.{◌≡◌, ◌≢◌, ℕ, List, [], ◌∷◌, ◌++◌, Bool, true, false, cond, ◌&&◌, ◌||◌, not, refl, sym, ap, ◌∙◌, subst, ⊎_elim}
use Rattle.std.specs.List.{flat_map}
use Rattle.std.proofs.lemmas.Grind.{flat_map-append}
use Rattle.deneva_base.specs.declared.numbers.TxnId.{TxnId}
use Rattle.deneva_base.specs.Lists.{IsIn}
use Rattle.deneva_base.proofs.Membership.{and_parts, and_true}
use Rattle.server_core.specs.declared.messages.Msg.{Msg}
use Rattle.server_core.specs.Setting.{Setting}
use Rattle.server_core.specs.CalvinScheduler.{participates, clash, has_batch, as_far, taken, is_finished, unblocked, is_ready}
use Rattle.server_core.specs.GlobalOrder.{slots, batch, order, before, has_id}
use Rattle.deneva_base.specs.Keys.{id_eq}
use Rattle.server_core.specs.CalvinProper.{Valid}
use Rattle.server_core.specs.Ready.{IsReady}
use Rattle.server_core.proofs.lists.ListTests.{or_left, or_right, not_both, is_or_not, all_from, has_in, in_has, id_tells}
use Rattle.calvin_laws.proofs.order.Orders.{order_in, before_in}
use Rattle.calvin_laws.proofs.order.Nodes.{as_far_in, ready_is}
use Rattle.calvin_laws.proofs.order.OrderNumbers.{before_is}

pub as_far_splits : {A : Type 0} (f : A → Bool) (xs : List A) → (ys : List A) × (xs ≡ as_far f xs ++ ys)
as_far_splits f [] = ([], refl)
as_far_splits {A} f (x ∷ xs) = go (f x) (as_far_splits f xs)
  where
    go : (b : Bool) → (ys : List A) × (xs ≡ as_far f xs ++ ys) → (ys : List A) × (x ∷ xs ≡ cond b (x ∷ as_far f xs) [] ++ ys)
    go true n = (n.0, ap (λ l. x ∷ l) n.1)
    go false n = (x ∷ xs, refl)

before_here : (x : TxnId) (xs ys : List TxnId) → IsIn x xs → before x (xs ++ ys) ≡ before x xs
before_here x [] ys i = absurd i
before_here x (z ∷ xs) ys i =
    ⊎_elim
    (λ (t : (id_eq z x ≡ true) × (z ≡ x)). rw t.0 refl)
    (λ (t : (id_eq z x ≡ false) × (z ≢ x)). rw t.0 (ap (λ l. z ∷ l) (before_here x xs ys (⊎_elim (λ is. absurd (t.1 (sym is))) (λ r. r) i))))
    (id_tells z x)

module _ (s : Setting) (v : Valid s) (p : ℕ) (ms : List Msg) (x : TxnId) where
  -- the batches taken are a first part of the order
  pub taken_first : IsIn x (taken s ms) → (y : TxnId) → IsIn y (before x (order s)) → IsIn y (taken s ms)
  taken_first i y j =
      let sp = as_far_splits (has_batch ms) (slots s) in
      let whole : order s ≡ taken s ms ++ flat_map (batch s) sp.0 = ap (flat_map (batch s)) sp.1 ∙ flat_map-append (batch s) (as_far (has_batch ms) (slots s)) sp.0 in
      before_in x y (taken s ms) (subst (λ l. IsIn y l) (ap (before x) whole ∙ before_here x (taken s ms) (flat_map (batch s) sp.0) i) j)

  pub first_taken : IsIn x (taken s ms) → (y : TxnId) → IsIn y (before x (taken s ms)) → IsIn y (before x (order s))
  first_taken i y j =
      let sp = as_far_splits (has_batch ms) (slots s) in
      let whole : order s ≡ taken s ms ++ flat_map (batch s) sp.0 = ap (flat_map (batch s)) sp.1 ∙ flat_map-append (batch s) (as_far (has_batch ms) (slots s)) sp.0 in
      subst (λ l. IsIn y l) (sym (ap (before x) whole ∙ before_here x (taken s ms) (flat_map (batch s) sp.0) i)) j

  pub taken_before : IsIn x (taken s ms) → (y : TxnId) → IsIn y (before x (order s)) → IsIn y (before x (taken s ms))
  taken_before i y j =
      let sp = as_far_splits (has_batch ms) (slots s) in
      let whole : order s ≡ taken s ms ++ flat_map (batch s) sp.0 = ap (flat_map (batch s)) sp.1 ∙ flat_map-append (batch s) (as_far (has_batch ms) (slots s)) sp.0 in
      subst (λ l. IsIn y l) (ap (before x) whole ∙ before_here x (taken s ms) (flat_map (batch s) sp.0) i) j

  pub ready_by_rule : is_ready s p ms x ≡ true → IsReady s p ms x
  ready_by_rule h =
      let r = ready_is s p ms x h in
      let i : IsIn x s.ids = order_in s x r.ordered in
      record {
        was_taken = has_in x (taken s ms) (and_parts (has_id x (taken s ms)) (participates s x p && unblocked s p ms x) h).0;
        here = r.here;
        free = λ y j less un. ⊎_elim (λ d. absurd (not_both (is_finished s ms y) d un)) (λ c. c) (r.free y ((before_is s v x y i).1 (order_in s y (as_far_in s (has_batch ms) y (slots s) j)) less));
      }

  pub rule_ready : IsReady s p ms x → is_ready s p ms x ≡ true
  rule_ready r =
      let i : IsIn x s.ids = order_in s x (as_far_in s (has_batch ms) x (slots s) r.was_taken) in
      and_true (has_id x (taken s ms)) (participates s x p && unblocked s p ms x) (in_has x (taken s ms) r.was_taken)
      (and_true (participates s x p) (unblocked s p ms x) r.here
      (all_from (λ y. is_finished s ms y || not (clash s p x y)) (before x (order s))
      (λ y j. ⊎_elim
      (λ d. or_left (is_finished s ms y) (not (clash s p x y)) d)
      (λ un. or_right (is_finished s ms y) (not (clash s p x y)) (ap not (r.free y (taken_first r.was_taken y j) ((before_is s v x y i).0 j).1 un)))
      (is_or_not (is_finished s ms y)))))
