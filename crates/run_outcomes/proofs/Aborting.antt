-- The entries at which aborts were found, by the entries of their transaction.
use Rattle.std.proofs.Common.{◌≡◌, ℕ, suc, ◌+◌, List, [], ◌∷◌, ◌++◌, append_assoc, arith, map, Bool, true, false, cond, ◌&&◌, ltb, eqb, Option, Some, None, option_map, Bor, refl, sym, ap, ap₂, ◌∙◌}
use Rattle.std.specs.List.{find}
use Rattle.deneva_base.specs.Keys.{key_eq}
use Rattle.deneva_base.specs.declared.causes.Cause.{Cause}
use Rattle.deneva_base.specs.declared.keys.Key.{Key}
use Rattle.deneva_base.specs.declared.numbers.Attempt.{Attempt}
use Rattle.deneva_base.specs.declared.numbers.TxnId.{TxnId}
use Rattle.server_core.specs.Aborts.{Refusal, is_ask_of, is_prepare_of, is_vote_of, newest, line_at, refusal_for, apart_of, vote_abort, abort_lines, turns}
use Rattle.server_core.specs.Coordinator.{first_no, greatest_lo, least_hi}
use Rattle.server_core.specs.AttemptEnds.{attempt, at_home}
use Rattle.server_core.specs.Received.{votes_for, started_for, all_voted}
use Rattle.server_core.specs.declared.ballots.Ballot.{Ballot}
use Rattle.server_core.specs.Setting.{Setting, home}
use Rattle.server_core.specs.declared.messages.Entry.{Entry}
use Rattle.server_core.specs.declared.messages.Msg.{Msg}
use Rattle.server_core.specs.declared.messages.Msg.TheVariants.{Ask, Prepare, Yes, No}
use Rattle.server_core.specs.declared.outcomes.AbortLine.{AbortLine}
use Rattle.run_outcomes.specs.Naming.{is_about}
use Rattle.server_core.specs.Roles.{setting_of}
use Rattle.run_outcomes.specs.Stories.{Tells}
use Rattle.server_core.specs.declared.role.Role.{Role}
use Rattle.run_outcomes.specs.declared.stories.Story.{Story}
use Rattle.run_outcomes.proofs.Locals.{newest_skips, other, refusal_skips, started_skips, votes_skip}
use Rattle.run_outcomes.proofs.Telling.{of_messages, of_entries}

-- the first that passes is the newest
found : {R : Type 0} (now : R → Entry) (t : Entry → Bool) (rs : List R) → option_map now (find (λ r. t (now r)) rs) ≡ newest t (map now rs)
found now t [] = refl
found now t (r ∷ rs) = go (t (now r)) (found now t rs)
  where
    go : (b : Bool) → option_map now (find (λ r. t (now r)) rs) ≡ newest t (map now rs) → option_map now (cond b (Some r) (find (λ r. t (now r)) rs)) ≡ cond b (Some (now r)) (newest t (map now rs))
    go true h = refl
    go false h = h

pub found_in : (t : Entry → Bool) (rs items : List (Bor Entry)) (o : Option (Bor Entry)) → o ≡ find (λ e. t e.now) rs → rs ≡ items → option_map (λ e. e.now) o ≡ newest t (map (λ e. e.now) items)
found_in t rs items o is same = ap (option_map (λ e. e.now)) (is ∙ ap (find (λ e. t e.now)) same) ∙ found (λ (e : Bor Entry). e.now) t items

module _ (who : Attempt) where
  own_ask : (key : Key) (m : Msg) → is_about who.txn m ≡ false → is_ask_of who key m ≡ false
  own_ask key (Ask x stamp k mode) e = ap (λ b. b && key_eq k key) (other who x e)
  own_ask key m e = refl

  own_prepare : (m : Msg) → is_about who.txn m ≡ false → is_prepare_of who m ≡ false
  own_prepare (Prepare x bound writes appends) e = other who x e
  own_prepare m e = refl

  own_vote : (m : Msg) → is_about who.txn m ≡ false → is_vote_of who m ≡ false
  own_vote (Yes x part lo hi) e = other who x e
  own_vote (No x part cause) e = other who x e
  own_vote m e = refl

  and_false : (a b : Bool) → b ≡ false → (a && b) ≡ false
  and_false true b e = e
  and_false false b e = refl

module _ (r : Role) (H : List Entry) (t : Story) (k : Tells r H t) (turn : ℕ) where
  abbrev who' : Attempt
  who' = attempt t.id turn

  abbrev es : List Entry
  es = map (λ e. e.now) t.entries.items

  ask_told : (key : Key) → newest (λ e. is_ask_of who' key e.msg) es ≡ newest (λ e. is_ask_of who' key e.msg) H
  ask_told key = of_entries r H t k (newest (λ e. is_ask_of who' key e.msg)) (newest_skips t.id (λ e. is_ask_of who' key e.msg) (λ e not. own_ask who' key e.msg not))

  prepare_told : (p : ℕ) → newest (λ e. eqb e.node p && is_prepare_of who' e.msg) es ≡ newest (λ e. eqb e.node p && is_prepare_of who' e.msg) H
  prepare_told p = of_entries r H t k (newest (λ e. eqb e.node p && is_prepare_of who' e.msg)) (newest_skips t.id (λ e. eqb e.node p && is_prepare_of who' e.msg) (λ e not. and_false who' (eqb e.node p) (is_prepare_of who' e.msg) (own_prepare who' e.msg not)))

  vote_told : (p : ℕ) → newest (λ e. eqb e.node p && is_vote_of who' e.msg) es ≡ newest (λ e. eqb e.node p && is_vote_of who' e.msg) H
  vote_told p = of_entries r H t k (newest (λ e. eqb e.node p && is_vote_of who' e.msg)) (newest_skips t.id (λ e. eqb e.node p && is_vote_of who' e.msg) (λ e not. and_false who' (eqb e.node p) (is_vote_of who' e.msg) (own_vote who' e.msg not)))

  -- an access was refused
  pub refusal_told : (o : Option Entry) (f : Refusal) → o ≡ newest (λ e. is_ask_of who' f.key e.msg) es → line_at who' f.cause o ≡ abort_lines (setting_of r) H who' (Some f)
  refusal_told o f is = ap (line_at who' f.cause) (is ∙ ask_told f.key)

  -- a participant said No
  pub no_told : (o : Option Entry) (bs : List Ballot) (refused : ℕ × Cause) → first_no None bs ≡ Some refused → o ≡ newest (λ e. eqb e.node refused.0 && is_prepare_of who' e.msg) es → line_at who' refused.1 o ≡ vote_abort (setting_of r) H who' bs (first_no None bs)
  no_told o bs refused first is = ap (line_at who' refused.1) (is ∙ prepare_told refused.0) ∙ ap (vote_abort (setting_of r) H who' bs) (sym first)

  -- the windows do not meet
  pub apart_told : (o : Option Entry) (bs : List Ballot) (p : ℕ) → first_no None bs ≡ None → ltb (least_hi bs) (greatest_lo bs) ≡ true → p ≡ t.home → o ≡ newest (λ e. eqb e.node p && is_vote_of who' e.msg) es → line_at who' (apart_of bs) o ≡ vote_abort (setting_of r) H who' bs (first_no None bs)
  apart_told o bs p first over at is =
      ap (line_at who' (apart_of bs)) (is ∙ vote_told p ∙ ap (λ q. newest (λ e. eqb e.node q && is_vote_of who' e.msg) H) (at ∙ k.home))
      ∙ ap (λ b. cond b (line_at who' (apart_of bs) (newest (λ e. eqb e.node (home (setting_of r) t.id) && is_vote_of who' e.msg) H)) []) (sym over)
      ∙ ap (vote_abort (setting_of r) H who' bs) (sym first)

  pub none_told : (bs : List Ballot) → first_no None bs ≡ None → ltb (least_hi bs) (greatest_lo bs) ≡ false → [] ≡ vote_abort (setting_of r) H who' bs (first_no None bs)
  none_told bs first over =
      ap (λ b. cond b (line_at who' (apart_of bs) (newest (λ e. eqb e.node (home (setting_of r) t.id) && is_vote_of who' e.msg) H)) []) (sym over)
      ∙ ap (vote_abort (setting_of r) H who' bs) (sym first)

  pub refusals_told : refusal_for who' (map (λ m. m.now) t.messages.items) ≡ refusal_for who' (at_home (setting_of r) H who')
  refusals_told = of_messages r H t k (refusal_for who') (refusal_skips who')

  -- the votes as they are known of the transaction
  pub voted_told : (bs : List Ballot) (begun voted : Bool) → begun ≡ started_for who' (map (λ m. m.now) t.messages.items) → bs ≡ votes_for who' (map (λ m. m.now) t.messages.items) → voted ≡ all_voted bs t.participants → cond (begun && voted) (vote_abort (setting_of r) H who' bs (first_no None bs)) [] ≡ abort_lines (setting_of r) H who' None
  voted_told bs begun voted st are all =
      let votes = are ∙ of_messages r H t k (votes_for who') (votes_skip who') in
      ap₂ (λ b l. cond b (vote_abort (setting_of r) H who' l (first_no None l)) [])
      (ap₂ (λ a b. a && b) (st ∙ of_messages r H t k (started_for who') (started_skips who')) (all ∙ ap₂ all_voted votes k.participants))
      votes

-- the lines of one turn more
pub turn_more : (s : Setting) (H : List Entry) (x : TxnId) (n : ℕ) (before lines more now : List AbortLine) → lines ≡ before ++ turns s H x n → now ≡ lines ++ more → more ≡ abort_lines s H (attempt x (n + 1)) (refusal_for (attempt x (n + 1)) (at_home s H (attempt x (n + 1)))) → now ≡ before ++ turns s H x (n + 1)
turn_more s H x n before lines more now so_far put is =
    let next : n + 1 ≡ suc n = omega arith in
    put ∙ ap₂ (λ a b. a ++ b) so_far (is ∙ ap (λ m. abort_lines s H (attempt x m) (refusal_for (attempt x m) (at_home s H (attempt x m)))) next)
    ∙ append_assoc before (turns s H x n) (abort_lines s H (attempt x (suc n)) (refusal_for (attempt x (suc n)) (at_home s H (attempt x (suc n)))))
    ∙ ap (λ m. before ++ turns s H x m) (sym next)
