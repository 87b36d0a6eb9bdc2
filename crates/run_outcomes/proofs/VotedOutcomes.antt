-- What the outcome of a voting protocol has of each transaction.
use Rattle.std.proofs.Common.{◌≡◌, ℕ, ◌+◌, ◌<◌, ◌≤◌, List, [], ◌∷◌, ◌++◌, map, Bool, true, false, cond, ◌||◌, eqb, Option, Some, None, is_some, option_map, refl, sym, ap, ◌∙◌, subst, inl, inr, ⊎_elim, arith}
use Rattle.std.specs.List.{flat_map, IsDistinct}
use Rattle.std.proofs.lemmas.Bool.Decides.{nat_tests}
use Rattle.std.proofs.lemmas.Map.Keys.{IsDistinct-cons}
use Rattle.deneva_base.specs.Keys.{id_eq}
use Rattle.deneva_base.specs.Lists.{IsIn}
use Rattle.deneva_base.specs.declared.config.Config.{Config}
use Rattle.deneva_base.specs.declared.numbers.Attempt.{Attempt}
use Rattle.deneva_base.specs.declared.numbers.TxnId.{TxnId}
use Rattle.txn_program.specs.Serial.{ids_from, all_ids}
use Rattle.txn_program.specs.declared.programs.Program.{Program}
use Rattle.txn_program.specs.declared.programs.Workload.{Workload}
use Rattle.protocol_rules.specs.Protocols.{IsVoting}
use Rattle.server_core.specs.AttemptEnds.{attempt, done_turn, all_undone}
use Rattle.server_core.specs.IsSerial.{IsDecided, IsGivenUp}
use Rattle.server_core.specs.Lines.{line_of, line_if, lines, sort_lines, giveups_of}
use Rattle.server_core.specs.Outcome.{outcome, outcome_in, outcome_with}
use Rattle.server_core.specs.Aborts.{aborts_of}
use Rattle.server_core.specs.Setting.{Setting, setting}
use Rattle.server_core.specs.declared.messages.Entry.{Entry}
use Rattle.server_core.specs.declared.outcomes.Decided.{Decided}
use Rattle.server_core.specs.declared.outcomes.Giveup.{Giveup}
use Rattle.server_core.specs.declared.outcomes.Outcome.{Outcome}
use Rattle.server_core.proofs.configured.Families.{family_votes}
use Rattle.server_core.proofs.values.Closed.{flat_in, in_flat}
use Rattle.voting_laws.proofs.serial.Lines.{done_turn_is}
use Rattle.server_core.proofs.serial.SortedLines.{in_sorted}
use Rattle.run_outcomes.specs.ByTransaction.{lines_for, giveups_for}
use Rattle.run_outcomes.specs.Outcomes.{IsOver}
use Rattle.run_outcomes.proofs.NumberOrder.{HaveDistinctIds, apart_from, sorted_in}

module _ (s : Setting) (H : List Entry) where
  line_id : (x : TxnId) (l : Decided) → IsIn l (lines_for s H x) → l.number.id ≡ x
  line_id x l i = go (done_turn s H x s.attempts) refl i
    where
      go : (o : Option Attempt) → done_turn s H x s.attempts ≡ o → IsIn l (line_if s H o) → l.number.id ≡ x
      go None e i = absurd i
      go (Some who) e i = ⊎_elim (λ (is : l ≡ line_of s H who). ap (λ (z : Decided). z.number.id) is ∙ (done_turn_is s H x s.attempts who e).0) (λ n. absurd n) i

  id_after : (n : ℕ) (ps : List Program) (y : TxnId) → IsIn y (ids_from n ps) → n ≤ y.0
  id_after n [] y i = absurd i
  id_after n (p ∷ ps) y i = ⊎_elim (λ (e : y ≡ record { 0 = n }). let same = ap (λ (z : TxnId). z.0) e in omega (arith, same)) (λ r. let more = id_after (n + 1) ps y r in omega (arith, more)) i

  -- no two lines are of one transaction
  pub apart : (n : ℕ) (ps : List Program) → HaveDistinctIds (flat_map (lines_for s H) (ids_from n ps))
  unfolding IsDistinct
  apart n [] = tt
  apart n (p ∷ ps) = go (done_turn s H (record { 0 = n }) s.attempts) refl (apart (n + 1) ps)
    where
      later : (l : Decided) → IsIn l (flat_map (lines_for s H) (ids_from (n + 1) ps)) → n < l.number.id.0
      later l i =
          let f = in_flat (lines_for s H) (ids_from (n + 1) ps) l i in
          let low = id_after (n + 1) ps f.0 f.1 in
          let is = ap (λ (z : TxnId). z.0) (line_id f.0 l f.2) in
          omega (arith, low, is)

      other : (a b : ℕ) → a < b → eqb a b ≡ false
      other a b less = grind (arith, nat_tests, less)

      go : (o : Option Attempt) → done_turn s H (record { 0 = n }) s.attempts ≡ o → HaveDistinctIds (flat_map (lines_for s H) (ids_from (n + 1) ps)) → HaveDistinctIds (line_if s H o ++ flat_map (lines_for s H) (ids_from (n + 1) ps))
      go None e more = more
      go (Some who) e more =
          let is = ap (λ (z : TxnId). z.0) (done_turn_is s H (record { 0 = n }) s.attempts who e).0 in
          let rest = flat_map (lines_for s H) (ids_from (n + 1) ps) in
          IsDistinct-cons id_eq who.txn (map (λ (l : Decided). l.number.id) rest) (apart_from who.txn rest (λ l i. let low = later l i in other who.txn.0 l.number.id.0 (omega (arith, low, is)))) more

-- what the outcome has of a transaction, by its own attempts
module _ (c : Config) (w : Workload) (votes : IsVoting c.protocol) (H : List Entry) (x : TxnId) where
  abbrev s : Setting
  s = setting c w

  at_outcome : (P : Outcome → Type 0) → P (outcome_with c w (sort_lines (lines s H)) (giveups_of s H) (aborts_of s H)) → P (outcome c w H)
  at_outcome P = subst P (sym (ap (λ f. outcome_in f c w H) (family_votes c.protocol votes)))

  from_outcome : (P : Outcome → Type 0) → P (outcome c w H) → P (outcome_with c w (sort_lines (lines s H)) (giveups_of s H) (aborts_of s H))
  from_outcome P = subst P (ap (λ f. outcome_in f c w H) (family_votes c.protocol votes))

  decided_there : IsIn x (all_ids w) → (who : Attempt) → done_turn s H x s.attempts ≡ Some who → IsDecided (outcome c w H) x
  decided_there i who e =
      let l = line_of s H who in
      let here : IsIn l (lines_for s H x) = subst (λ o. IsIn l (line_if s H o)) (sym e) (inl refl) in
      at_outcome (λ o. IsDecided o x) (l, in_sorted l (lines s H) (flat_in (lines_for s H) s.ids x l i here), (done_turn_is s H x s.attempts who e).0)

  decided_here : IsDecided (outcome c w H) x → is_some (done_turn s H x s.attempts) ≡ true
  decided_here d =
      let k = from_outcome (λ o. IsDecided o x) d in
      let f = in_flat (lines_for s H) s.ids k.0 (sorted_in k.0 (lines s H) k.1) in
      let same : f.0 ≡ x = sym (line_id s H f.0 k.0 f.2) ∙ k.2 in
      some k.0 (done_turn s H x s.attempts) (subst (λ y. IsIn k.0 (lines_for s H y)) same f.2)
    where
      some : (l : Decided) (o : Option Attempt) → IsIn l (line_if s H o) → is_some o ≡ true
      some l None i = absurd i
      some l (Some who) i = refl

  given_there : IsIn x (all_ids w) → all_undone s H (attempt x s.attempts) ≡ true → IsGivenUp (outcome c w H) x
  given_there i e =
      let g : Giveup = record { id = x; turns = s.attempts } in
      let here : IsIn g (giveups_for s H x) = subst (λ b. IsIn g (cond b (g ∷ []) [])) (sym e) (inl refl) in
      at_outcome (λ o. IsGivenUp o x) (g, flat_in (giveups_for s H) s.ids x g i here, refl)

  given_here : IsGivenUp (outcome c w H) x → all_undone s H (attempt x s.attempts) ≡ true
  given_here d =
      let k = from_outcome (λ o. IsGivenUp o x) d in
      let f = in_flat (giveups_for s H) s.ids k.0 k.1 in
      let own = one k.0 f.0 (all_undone s H (attempt f.0 s.attempts)) f.2 in
      let same : f.0 ≡ x = own.1 ∙ k.2 in
      subst (λ y. all_undone s H (attempt y s.attempts) ≡ true) same own.0
    where
      one : (g : Giveup) (y : TxnId) (b : Bool) → IsIn g (cond b (record { id = y; turns = s.attempts } ∷ []) []) → (b ≡ true) × (y ≡ g.id)
      one g y true i = ⊎_elim (λ e. (refl, sym (ap (λ (z : Giveup). z.id) e))) (λ n. absurd n) i
      one g y false i = absurd i

  -- it is decided or given up exactly where one of its attempts is, or its last one is undone
  pub over_there : IsIn x (all_ids w) → (is_some (done_turn s H x s.attempts) || all_undone s H (attempt x s.attempts)) ≡ true → IsOver (outcome c w H) x
  over_there i = go (done_turn s H x s.attempts) refl
    where
      go : (o : Option Attempt) → done_turn s H x s.attempts ≡ o → (is_some o || all_undone s H (attempt x s.attempts)) ≡ true → IsOver (outcome c w H) x
      go None e h = inr (given_there i h)
      go (Some who) e h = inl (decided_there i who e)

  pub over_here : IsOver (outcome c w H) x → (is_some (done_turn s H x s.attempts) || all_undone s H (attempt x s.attempts)) ≡ true
  over_here d = ⊎_elim (λ l. ap (λ a. a || all_undone s H (attempt x s.attempts)) (decided_here l)) (λ g. or_true (is_some (done_turn s H x s.attempts)) (given_here g)) d
    where
      or_true : (a : Bool) {b : Bool} → b ≡ true → (a || b) ≡ true
      or_true true e = refl
      or_true false e = e

pub still_some : {A B : Type 0} (f : A → B) (o : Option A) → is_some (option_map f o) ≡ is_some o
still_some f None = refl
still_some f (Some a) = refl
