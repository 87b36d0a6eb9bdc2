-- In a quiet run each transaction is decided or given up, once.
use Rattle.std.proofs.Common.{◌≡◌, ◌⊎◌, List, [], ◌∷◌, ◌++◌, map, Bool, true, false, cond, refl, sym, ap, ap₂, ◌∙◌, subst, inl, inr, ⊎_elim, Option, Some, None}
use Rattle.std.specs.List.{flat_map}
use Rattle.std.specs.Prelude.{IsPermutation}
use Rattle.std.proofs.lemmas.List.{map-append}
use Rattle.std.proofs.lemmas.List.Sorted.{IsPermutation-refl, IsPermutation-sym, IsPermutation-trans, IsPermutation-cons, IsPermutation-middle, IsPermutation-append_left}
use Rattle.deneva_base.specs.Keys.{number_lt}
use Rattle.deneva_base.specs.Lists.{IsIn}
use Rattle.deneva_base.specs.declared.numbers.Attempt.{Attempt}
use Rattle.deneva_base.specs.declared.numbers.TxnId.{TxnId}
use Rattle.server_core.specs.AttemptEnds.{attempt, all_done, all_undone, done_turn}
use Rattle.server_core.specs.Lines.{line_of, line_if, lines, giveups_of, put_line, sort_lines}
use Rattle.server_core.specs.Proper.{Valid}
use Rattle.server_core.specs.Setting.{Setting}
use Rattle.server_core.specs.declared.messages.Entry.{Entry}
use Rattle.server_core.specs.declared.outcomes.Decided.{Decided as Line}
use Rattle.server_core.specs.declared.outcomes.Giveup.{Giveup}
use Rattle.server_core.proofs.serial.SerialWords.{IsDecidedIn, IsGivenUpIn}
use Rattle.server_core.proofs.serial.SortedLines.{sorted_in, in_sorted}
use Rattle.server_core.proofs.values.Closed.{flat_in, in_flat}
use Rattle.voting_laws.proofs.fits.Account.{Good}
use Rattle.voting_laws.proofs.serial.Lines.{done_turn_is}
use Rattle.voting_laws.proofs.serial.SerialOutcomes.{never_both}

abbrev id_of : Line → TxnId
id_of l = l.number.id

abbrev given_id : Giveup → TxnId
given_id g = g.id

-- sorted lines have the ids of the lines
pub sorted_ids : (ls : List Line) → IsPermutation (map id_of ls) (map id_of (sort_lines ls))
sorted_ids [] = IsPermutation-refl []
sorted_ids (l ∷ ls) = IsPermutation-trans _ _ _ (IsPermutation-cons (id_of l) _ _ (sorted_ids ls)) (put_ids l (sort_lines ls))
  where
    put_ids : (l : Line) (ms : List Line) → IsPermutation (id_of l ∷ map id_of ms) (map id_of (put_line l ms))
    put_ids l [] = IsPermutation-refl _
    put_ids l (m ∷ ms) = go (number_lt m.number l.number) (put_ids l ms)
      where
        go : (b : Bool) → IsPermutation (id_of l ∷ map id_of ms) (map id_of (put_line l ms)) → IsPermutation (id_of l ∷ id_of m ∷ map id_of ms) (map id_of (cond b (m ∷ put_line l ms) (l ∷ m ∷ ms)))
        go true next = IsPermutation-trans _ _ _ (IsPermutation-sym _ _ (IsPermutation-middle (id_of m ∷ []) (id_of l) (map id_of ms))) (IsPermutation-cons (id_of m) _ _ next)
        go false next = IsPermutation-refl _

module _ (s : Setting) (H : List Entry) where
  abbrev lines_for : TxnId → List Line
  lines_for x = line_if s H (done_turn s H x s.attempts)

  abbrev giveups_for : TxnId → List Giveup
  giveups_for x = cond (all_undone s H (attempt x s.attempts)) (record { id = x; turns = s.attempts } ∷ []) []

  -- it has a line among the decided, or among the given-up
  abbrev HasOne : TxnId → Type 0
  HasOne x = ((map id_of (lines_for x) ≡ x ∷ []) × (giveups_for x ≡ [])) ⊎ ((lines_for x ≡ []) × (map given_id (giveups_for x) ≡ x ∷ []))

  abbrev ids_listed : List TxnId → List TxnId
  ids_listed xs = map id_of (flat_map lines_for xs) ++ map given_id (flat_map giveups_for xs)

  each_listed : (xs : List TxnId) → ((x : TxnId) → IsIn x xs → HasOne x) → IsPermutation xs (ids_listed xs)
  each_listed [] one = IsPermutation-refl []
  each_listed (x ∷ xs) one = go (one x (inl refl)) (each_listed xs (λ y i. one y (inr i)))
    where
      ds : List TxnId
      ds = map id_of (flat_map lines_for xs)

      gs : List TxnId
      gs = map given_id (flat_map giveups_for xs)

      split : ids_listed (x ∷ xs) ≡ (map id_of (lines_for x) ++ ds) ++ (map given_id (giveups_for x) ++ gs)
      split = ap₂ (λ a b. a ++ b) (map-append id_of (lines_for x) (flat_map lines_for xs)) (map-append given_id (giveups_for x) (flat_map giveups_for xs))

      go : HasOne x → IsPermutation xs (ds ++ gs) → IsPermutation (x ∷ xs) (ids_listed (x ∷ xs))
      go (inl h) next =
          subst (IsPermutation (x ∷ xs)) (sym (split ∙ ap₂ (λ a b. (a ++ ds) ++ (map given_id b ++ gs)) h.0 h.1))
          (IsPermutation-cons x _ _ next)
      go (inr h) next =
          subst (IsPermutation (x ∷ xs)) (sym (split ∙ ap₂ (λ a b. (map id_of a ++ ds) ++ (b ++ gs)) h.0 h.1))
          (IsPermutation-trans _ _ _ (IsPermutation-cons x _ _ next) (IsPermutation-sym _ _ (IsPermutation-middle ds x gs)))

module _ (s : Setting) (v : Valid s) (H : List Entry) (g : Good s H []) where
  line_id : (x y : TxnId) (l : Line) → IsIn l (lines_for s H y) → l.number.id ≡ x → x ≡ y
  line_id x y l i e = go (done_turn s H y s.attempts) (done_turn_is s H y s.attempts) i
    where
      go : (o : Option Attempt) → ((who : Attempt) → o ≡ Some who → (who.txn ≡ y) × (all_done s H who ≡ true)) → IsIn l (line_if s H o) → x ≡ y
      go None h j = absurd j
      go (Some who) h j = ⊎_elim (λ (is : l ≡ line_of s H who). sym e ∙ ap id_of is ∙ (h who refl).0) (λ n. absurd n) j

  giveup_id : (x y : TxnId) (k : Giveup) → IsIn k (giveups_for s H y) → k.id ≡ x → x ≡ y
  giveup_id x y k i e = go (all_undone s H (attempt y s.attempts)) i
    where
      go : (b : Bool) → IsIn k (cond b (record { id = y; turns = s.attempts } ∷ []) []) → x ≡ y
      go true j = ⊎_elim (λ is. sym e ∙ ap given_id is) (λ n. absurd n) j
      go false j = absurd j

  has_one : (x : TxnId) → IsIn x s.ids → IsDecidedIn (sort_lines (lines s H)) x ⊎ IsGivenUpIn (giveups_of s H) x → HasOne s H x
  has_one x i all = go (done_turn s H x s.attempts) refl (all_undone s H (attempt x s.attempts)) refl
    where
      decided_in : (who : Attempt) → done_turn s H x s.attempts ≡ Some who → IsDecidedIn (sort_lines (lines s H)) x
      decided_in who e = (line_of s H who, in_sorted (line_of s H who) (lines s H) (flat_in (lines_for s H) s.ids x (line_of s H who) i (subst (λ o. IsIn (line_of s H who) (line_if s H o)) (sym e) (inl refl))), (done_turn_is s H x s.attempts who e).0)

      given_in : all_undone s H (attempt x s.attempts) ≡ true → IsGivenUpIn (giveups_of s H) x
      given_in f =
          let k : Giveup = record { id = x; turns = s.attempts } in
          (k, flat_in (giveups_for s H) s.ids x k i (subst (λ b. IsIn k (cond b (k ∷ []) [])) (sym f) (inl refl)), refl)

      none : done_turn s H x s.attempts ≡ None → all_undone s H (attempt x s.attempts) ≡ false → ⊥
      none e f =
          ⊎_elim
          (λ d. let y = in_flat (lines_for s H) s.ids d.0 (sorted_in d.0 (lines s H) d.1) in
          subst (λ o. IsIn d.0 (line_if s H o)) e (subst (λ z. IsIn d.0 (lines_for s H z)) (sym (line_id x y.0 d.0 y.2 d.2)) y.2))
          (λ u. let y = in_flat (giveups_for s H) s.ids u.0 u.1 in
          subst (λ b. IsIn u.0 (cond b (record { id = x; turns = s.attempts } ∷ []) [])) f (subst (λ z. IsIn u.0 (giveups_for s H z)) (sym (giveup_id x y.0 u.0 y.2 u.2)) y.2))
          all

      go : (o : Option Attempt) → done_turn s H x s.attempts ≡ o → (b : Bool) → all_undone s H (attempt x s.attempts) ≡ b → HasOne s H x
      go (Some who) e true f = absurd (never_both s v H [] g x (decided_in who e) (given_in f))
      go (Some who) e false f = inl (ap (λ o. map id_of (line_if s H o)) e ∙ ap (λ y. y ∷ []) (done_turn_is s H x s.attempts who e).0, ap (λ b. cond b (record { id = x; turns = s.attempts } ∷ []) []) f)
      go None e true f = inr (ap (line_if s H) e, ap (λ b. map given_id (cond b (record { id = x; turns = s.attempts } ∷ []) [])) f)
      go None e false f = absurd (none e f)

  -- the decided and the given-up are the transactions of the workload, each once
  pub each_once : ((x : TxnId) → IsIn x s.ids → IsDecidedIn (sort_lines (lines s H)) x ⊎ IsGivenUpIn (giveups_of s H) x) → IsPermutation s.ids (map id_of (sort_lines (lines s H)) ++ map given_id (giveups_of s H))
  each_once all =
      IsPermutation-trans _ _ _
      (each_listed s H s.ids (λ x i. has_one x i (all x i)))
      (IsPermutation-append_left (map given_id (giveups_of s H)) _ _ (sorted_ids (lines s H)))
