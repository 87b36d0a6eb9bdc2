-- How many appended rows are promised, before and after an attempt ends.
use Rattle.std.proofs.Common.{◌≡◌, ◌≢◌, ◌+◌, List, [], ◌∷◌, Bool, true, false, not, length, refl, sym, ap, ◌∙◌, subst, inl, inr, ⊎_elim, arith, true≢false}
use Rattle.std.specs.List.{list_any}
use Rattle.deneva_base.specs.declared.numbers.Attempt.{Attempt}
use Rattle.deneva_base.specs.declared.answers.Vote.TheVariants.{Yes, No}
use Rattle.deneva_base.specs.Lists.{IsIn}
use Rattle.deneva_base.specs.Rows.{Rows}
use Rattle.deneva_base.specs.Keys.{attempt_eq}
use Rattle.protocol_rules.specs.History.{Ask, Prepare, Commit, Abort, History, Yea, yeas, ended, closed, IsUnended}
use Rattle.protocol_rules.specs.Latest.{has_ended}
use Rattle.protocol_rules.specs.Leaving.{appends_in}
use Rattle.protocol_rules.specs.Rules.{Rule, Obeys}
use Rattle.deneva_base.proofs.Membership.{attempt_tells}
use Rattle.protocol_rules.proofs.Unended.{not_ended}
use Rattle.protocol_rules.proofs.Sound.{sound}
use Rattle.shelf.specs.Keeps.{promised_in, Apart}

pub unended_test : (h : History) (who : Attempt) → IsUnended h who → has_ended h who ≡ false
unended_test h who u = flip (has_ended h who) (not_ended h who u)
  where
    flip : (b : Bool) → not b ≡ true → b ≡ false
    flip true e = absurd (true≢false (sym e))
    flip false e = refl

pub votes_apart : (loaded : Rows) (rule : Rule) (h : History) → Obeys loaded rule h → Apart (yeas h)
votes_apart loaded rule [] o = tt
votes_apart loaded rule (Ask who stamp key mode answer ∷ h) o = votes_apart loaded rule h o.2
votes_apart loaded rule (Prepare who bound ws as' (Yes lo hi) ∷ h) o = ((λ z i e. o.0.opened (subst (λ a. IsIn a (closed h)) e ((sound loaded rule h o.2).closes z i))), votes_apart loaded rule h o.2)
votes_apart loaded rule (Prepare who bound ws as' (No cause) ∷ h) o = votes_apart loaded rule h o.2
votes_apart loaded rule (Commit who number woken ∷ h) o = votes_apart loaded rule h o.2
votes_apart loaded rule (Abort who woken ∷ h) o = votes_apart loaded rule h o.2

-- an end leaves out what the attempt was promised
promised_none : (h h' : History) (who : Attempt) (ys : List Yea) → ended h' ≡ who ∷ ended h → ((z : Yea) → IsIn z ys → z.who ≢ who) → (promised_in h' ys ≡ promised_in h ys) × (appends_in ys who ≡ [])
promised_none h h' who [] e n = (refl, refl)
promised_none h h' who (y ∷ ys) e n =
    let rest = promised_none h h' who ys e (λ z i. n z (inr i)) in
    let f = ⊎_elim (λ t. absurd (n y (inl refl) t.1)) (λ f. f.0) (attempt_tells y.who who) in
    let same : has_ended h' y.who ≡ has_ended h y.who = ap (λ l. list_any (attempt_eq y.who) l) e ∙ rw f refl in
    (rw (same, rest.0) refl, rw f rest.1)

pub promised_less : (h h' : History) (who : Attempt) (ys : List Yea) → ended h' ≡ who ∷ ended h → IsUnended h who → Apart ys → promised_in h' ys + length (appends_in ys who) ≡ promised_in h ys
promised_less h h' who [] e u a = refl
promised_less h h' who (y ∷ ys) e u a = ⊎_elim
    (λ t.
    let none = promised_none h h' who ys e (λ z i s. a.0 z i (s ∙ sym t.1)) in
    let now : has_ended h' y.who ≡ true = ap (λ l. list_any (attempt_eq y.who) l) e ∙ rw t.0 refl in
    let before : has_ended h y.who ≡ false = ap (has_ended h) t.1 ∙ unended_test h who u in
    rw (now, before, t.0, none.0) (omega arith))
    (λ f.
    let rest = promised_less h h' who ys e u a.1 in
    let same : has_ended h' y.who ≡ has_ended h y.who = ap (λ l. list_any (attempt_eq y.who) l) e ∙ rw f.0 refl in
    rw (same, f.0) (omega (arith, rest)))
    (attempt_tells y.who who)
