-- Where each vote is the stamp of its attempt: windows are stamps, and two that are not aborted differ in them.
use Rattle.std.proofs.Common.{◌≡◌, ◌≢◌, ℕ, List, [], ◌∷◌, refl, sym, ap, ◌∙◌, subst, inl, inr, ⊎_elim, arith}
use Rattle.deneva_base.specs.declared.numbers.Attempt.{Attempt}
use Rattle.deneva_base.specs.Lists.{IsIn}
use Rattle.deneva_base.specs.Rows.{Rows}
use Rattle.deneva_base.specs.declared.answers.Vote.{Vote}
use Rattle.deneva_base.specs.declared.answers.Vote.TheVariants.{Yes, No}
use Rattle.deneva_base.specs.declared.causes.Bound.{Bound}
use Rattle.deneva_base.specs.declared.rows.Keyed.{Keyed}
use Rattle.protocol_rules.specs.History.{Ask, Prepare, Commit, Abort, History, Asked, Yea, Decided, asks, yeas, decided, aborted, ended, closed, stamp_of}
use Rattle.protocol_rules.specs.Windows.{HasWindow}
use Rattle.protocol_rules.specs.Rules.{Rule, Obeys}
use Rattle.deneva_base.proofs.Membership.{attempt_tells}
use Rattle.protocol_rules.proofs.Sound.{sound}
use Rattle.protocol_rules.proofs.Known.{Known, known}

pub stamp_is : (as' : List Asked) (a : Asked) → ((x y : Asked) → IsIn x as' → IsIn y as' → x.who ≡ y.who → x.stamp ≡ y.stamp) → IsIn a as' → stamp_of as' a.who ≡ a.stamp
stamp_is [] a same i = absurd i
stamp_is (x ∷ as') a same i =
    ⊎_elim
    (λ t. rw t.0 (same x a (inl refl) i t.1))
    (λ f. rw f.0 (⊎_elim (λ e. absurd (f.1 (sym (ap (λ z. z.who) e)))) (λ r. stamp_is as' a (λ y z j k e. same y z (inr j) (inr k) e) r) i))
    (attempt_tells x.who a.who)

pub record Marked (h : History) : Type 0 where
  pub yea : (y : Yea) (a : Asked) → IsIn y (yeas h) → IsIn a (asks h) → a.who ≡ y.who → (y.lo ≡ a.stamp) × (y.hi ≡ a.stamp)
  pub chosen : (d : Decided) (a : Asked) → IsIn d (decided h) → IsIn a (asks h) → a.who ≡ d.who → d.number.n ≡ a.stamp
  pub kept : (d : Decided) → IsIn d (decided h) → IsIn d.who (aborted h) → ⊥

module _ (loaded : Rows) (rule : Rule) (votes : (h : History) (who : Attempt) (bound : Bound) (writes appends : List Keyed) → rule.vote h who bound writes appends ≡ Yes (stamp_of (asks h) who) (stamp_of (asks h) who)) where
  pub marked : (h : History) → Obeys loaded rule h → Marked h
  marked [] o = record { yea = λ y a i j e. absurd i; chosen = λ d a i j e. absurd i; kept = λ d i j. i }
  marked (Ask who stamp key mode answer ∷ h) o =
      let m = marked h o.2 in
      let s = sound loaded rule h o.2 in
      record {
        yea = λ y a i j e. ⊎_elim (λ n. absurd (o.0.opened (subst (λ z. IsIn z (closed h)) (sym e ∙ ap (λ z. z.who) n) (s.closes y i)))) (λ t. m.yea y a i t e) j;
        chosen = λ d a i j e. ⊎_elim (λ n. absurd (o.0.unended (subst (λ z. IsIn z (ended h)) (sym e ∙ ap (λ z. z.who) n) (s.ends d i)))) (λ t. m.chosen d a i t e) j;
        kept = m.kept;
      }
  marked (Prepare who bound writes appends vote ∷ h) o = go vote (o.1 ∙ votes h who bound writes appends) (marked h o.2)
    where
      go : (v : Vote) → v ≡ Yes (stamp_of (asks h) who) (stamp_of (asks h) who) → Marked h → Marked (Prepare who bound writes appends v ∷ h)
      go (No cause) e m = absurd (cc (e))
      go (Yes lo hi) e m =
          let k = known loaded rule h o.2 in
          record {
            yea = λ y a i j f. ⊎_elim
                (λ (n : y ≡ record { who = who; lo = lo; hi = hi; writes = writes; appends = appends }).
                let is : a.who ≡ who = f ∙ ap (λ z. z.who) n in
                let s : stamp_of (asks h) who ≡ a.stamp = subst (λ z. stamp_of (asks h) z ≡ a.stamp) is (stamp_is (asks h) a k.stamp j) in
                let l : lo ≡ stamp_of (asks h) who = cc in
                let r : hi ≡ stamp_of (asks h) who = cc in
                (ap (λ z. z.lo) n ∙ l ∙ s, ap (λ z. z.hi) n ∙ r ∙ s))
                (λ t. m.yea y a t j f)
                i;
            chosen = m.chosen;
            kept = m.kept;
          }
  marked (Commit who number woken ∷ h) o =
      let m = marked h o.2 in
      record {
        yea = m.yea;
        chosen = λ d a i j e. ⊎_elim
            (λ (n : d ≡ record { who = who; number = number }).
            let y = o.0.inside in
            let p = m.yea y.0 a y.1 j (e ∙ ap (λ z. z.who) n ∙ sym y.2) in
            omega (arith, p.0, p.1, y.3, y.4, ap (λ z. z.number.n) n))
            (λ t. m.chosen d a t j e)
            i;
        kept = λ d i j. ⊎_elim (λ n. o.0.unended (subst (λ z. IsIn z (ended h)) (ap (λ z. z.who) n) ((known loaded rule h o.2).stops d.who j))) (λ t. m.kept d t j) i;
      }
  marked (Abort who woken ∷ h) o =
      let m = marked h o.2 in
      record {
        yea = m.yea;
        chosen = m.chosen;
        kept = λ d i j. ⊎_elim (λ n. o.0.unended (subst (λ z. IsIn z (ended h)) n ((sound loaded rule h o.2).ends d i))) (λ t. m.kept d i t) j;
      }

module _ (loaded : Rows) (h : History) (k : Known loaded h) (m : Marked h) where
  -- a window is the stamp
  pub window_is : (u : Attempt) (lo hi : ℕ) (a : Asked) → HasWindow h u lo hi → IsIn a (asks h) → a.who ≡ u → (lo ≡ a.stamp) × (hi ≡ a.stamp)
  window_is u lo hi a w i e =
      ⊎_elim
      (λ c. let s = m.chosen c.0 a c.2 i (e ∙ sym c.1) in (c.3 ∙ s, c.4 ∙ s))
      (λ c. let s = m.yea c.0 a c.2 i (e ∙ sym c.1) in (c.4 ∙ s.0, c.5 ∙ s.1))
      w

  pub not_aborted : (u : Attempt) (lo hi : ℕ) → HasWindow h u lo hi → IsIn u (aborted h) → ⊥
  not_aborted u lo hi w i =
      ⊎_elim
      (λ c. m.kept c.0 c.2 (subst (λ z. IsIn z (aborted h)) (sym c.1) i))
      (λ c. c.3 (k.stops u i))
      w

  -- two that are not aborted differ in their stamps
  pub stamps_differ : (a b : Asked) → IsIn a (asks h) → IsIn b (asks h) → a.who ≢ b.who → (IsIn a.who (aborted h) → ⊥) → (IsIn b.who (aborted h) → ⊥) → a.stamp ≢ b.stamp
  stamps_differ a b i j n x y e = ⊎_elim n (λ c. ⊎_elim x y c) (k.last a b i j (k.txn a b i j e))
