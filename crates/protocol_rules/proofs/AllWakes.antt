-- Each access that was told to wait is woken once, or waits still, whatever the rule, where each call wakes waiting accesses.
use Rattle.std.proofs.Common.{◌≡◌, ◌≢◌, ◌⊎◌, ℕ, List, [], ◌∷◌, ◌++◌, filter, Bool, true, false, not, refl, sym, ap, ◌∙◌, inl, inr, ⊎_elim, true≢false}
use Rattle.deneva_base.specs.declared.keys.Key.{Key}
use Rattle.deneva_base.specs.declared.numbers.Attempt.{Attempt}
use Rattle.deneva_base.specs.declared.keys.Mode.{Mode}
use Rattle.deneva_base.specs.Lists.{IsIn}
use Rattle.deneva_base.specs.Rows.{Rows}
use Rattle.deneva_base.specs.Keys.{attempt_eq, key_eq}
use Rattle.deneva_base.specs.declared.answers.Answer.{Answer}
use Rattle.deneva_base.specs.declared.answers.Answer.TheVariants.{Granted, Waits, Refused}
use Rattle.deneva_base.specs.declared.answers.Wake.{Wake}
use Rattle.protocol_rules.specs.History.{Call, Ask, Prepare, Commit, Abort, History, Asked, asks, waits, is_woken, wakes_this}
use Rattle.protocol_rules.specs.Wakes.{Once, WakesWaiters, CallWakes, KeepsWakes, told_to_wait, all_wakes, WakesOnce}
use Rattle.protocol_rules.specs.Conditions.{MayAsk, MayCall}
use Rattle.protocol_rules.specs.Rules.{Rule, Obeys}
use Rattle.deneva_base.proofs.Membership.{in_left, in_right, in_cases, in_filter, filter_in, any_at, any_found, and_parts, attempt_decides, key_decides}
use Rattle.protocol_rules.proofs.Traced.{wakes_this_true}

once_joined : (xs ys : List Wake) → Once xs → Once ys → ((x y : Wake) → IsIn x xs → IsIn y ys → y.who ≡ x.who → y.key ≢ x.key) → Once (xs ++ ys)
once_joined [] ys o p cross = p
once_joined (x ∷ xs) ys o p cross = ((λ y i e. ⊎_elim (λ j. o.0 y j e) (λ j. cross x y (inl refl) j e) (in_cases y xs ys i)), once_joined xs ys o.1 p (λ z y i j e. cross z y (inr i) j e))

-- what holds so far, with the asks
record Told (h : History) : Type 0 where
  pub asked : (a : Asked) → IsIn a (told_to_wait h) → IsIn a (asks h)
  pub told : (a : Asked) → IsIn a (waits h) → IsIn a (told_to_wait h)
  pub wakes : WakesOnce h

module _ (loaded : Rows) where
  told_ask : (h : History) (who : Attempt) (stamp : ℕ) (key : Key) (mode : Mode) (answer : Answer) → MayAsk loaded h who stamp key → Told h → Told (Ask who stamp key mode answer ∷ h)
  told_ask h who stamp key mode (Granted row version bound) may t = record {
    asked = λ a i. inr (t.asked a i);
    told = t.told;
    wakes = record { waited = t.wakes.waited; once = t.wakes.once; rest = t.wakes.rest; gone = t.wakes.gone };
  }
  told_ask h who stamp key mode (Refused cause) may t = record {
    asked = λ a i. inr (t.asked a i);
    told = t.told;
    wakes = record { waited = t.wakes.waited; once = t.wakes.once; rest = t.wakes.rest; gone = t.wakes.gone };
  }
  told_ask h who stamp key mode Waits may t = record {
    asked = λ a i. ⊎_elim (λ e. inl e) (λ x. inr (t.asked a x)) i;
    told = λ a i. ⊎_elim (λ e. inl e) (λ x. inr (t.told a x)) i;
    wakes = record {
      waited = λ w i. let a = t.wakes.waited w i in (a.0, inr a.1, a.2, a.3);
      once = t.wakes.once;
      rest = λ a i. ⊎_elim (λ e. inl (inl e)) (λ x. ⊎_elim (λ y. inl (inr y)) (λ w. inr w) (t.wakes.rest a x)) i;
      gone = λ a w i j e f.
          ⊎_elim
          (λ same.
          let b = t.wakes.waited w j in may.once b.0 (t.asked b.0 b.1) (b.2 ∙ e ∙ ap (λ z. z.who) same) (b.3 ∙ f ∙ ap (λ z. z.key) same))
          (λ old. t.wakes.gone a w old j e f)
          i;
    };
  }

  told_woken : (h : History) (woken : List Wake) → WakesWaiters h woken → Told h → ((w : Wake) → IsIn w (woken ++ all_wakes h) → (a : Asked) × IsIn a (told_to_wait h) × (a.who ≡ w.who) × (a.key ≡ w.key)) × Once (woken ++ all_wakes h) × ((a : Asked) → IsIn a (told_to_wait h) → IsIn a (filter (λ x. not (is_woken woken x)) (waits h)) ⊎ ((w : Wake) × IsIn w (woken ++ all_wakes h) × (w.who ≡ a.who) × (w.key ≡ a.key))) × ((a : Asked) (w : Wake) → IsIn a (filter (λ x. not (is_woken woken x)) (waits h)) → IsIn w (woken ++ all_wakes h) → w.who ≡ a.who → w.key ≢ a.key)
  told_woken h woken ws t = (
    (λ w i. ⊎_elim (λ j. let a = ws.waited w j in (a.0, t.told a.0 a.1, a.2, a.3)) (λ j. t.wakes.waited w j) (in_cases w woken (all_wakes h) i)),
    once_joined woken (all_wakes h) ws.once t.wakes.once (λ x y i j e f. let a = ws.waited x i in t.wakes.gone a.0 y a.1 j (e ∙ sym a.2) (f ∙ sym a.3)),
    (λ a i. ⊎_elim (λ j. split a j (is_woken woken a) refl) (λ w. inr (w.0, in_right w.0 woken (all_wakes h) w.1, w.2, w.3)) (t.wakes.rest a i)),
    (λ a w i j e f.
        let x = filter_in (λ z. not (is_woken woken z)) a (waits h) i in
        ⊎_elim
        (λ y. true≢false (sym x.1 ∙ ap not (any_at (λ v. wakes_this v a) w woken y (wakes_this_true w a e f))))
        (λ y. t.wakes.gone a w x.0 y e f)
        (in_cases w woken (all_wakes h) j)),
  )
    where
      split : (a : Asked) → IsIn a (waits h) → (b : Bool) → is_woken woken a ≡ b → IsIn a (filter (λ x. not (is_woken woken x)) (waits h)) ⊎ ((w : Wake) × IsIn w (woken ++ all_wakes h) × (w.who ≡ a.who) × (w.key ≡ a.key))
      split a i false e = inl (in_filter (λ x. not (is_woken woken x)) a (waits h) i (ap not e))
      split a i true e =
          let w = any_found (λ v. wakes_this v a) woken e in
          let p = and_parts (attempt_eq w.0.who a.who) (key_eq w.0.key a.key) w.2 in
          inr (w.0, in_left w.0 woken (all_wakes h) w.1, (attempt_decides w.0.who a.who).0 p.0, (key_decides w.0.key a.key).0 p.1)

  told_more : (h : History) (c : Call) → MayCall loaded h c → CallWakes h c → Told h → Told (c ∷ h)
  told_more h (Ask who stamp key mode answer) may ws t = told_ask h who stamp key mode answer may t
  told_more h (Prepare who bound writes appends vote) may ws t = record {
    asked = t.asked;
    told = t.told;
    wakes = record { waited = t.wakes.waited; once = t.wakes.once; rest = t.wakes.rest; gone = t.wakes.gone };
  }
  told_more h (Commit who number woken) may ws t =
      let p = told_woken h woken ws t in
      record {
        asked = t.asked;
        told = λ a i. t.told a (filter_in (λ x. not (is_woken woken x)) a (waits h) i).0;
        wakes = record { waited = p.0; once = p.1; rest = p.2; gone = p.3 };
      }
  told_more h (Abort who woken) may ws t =
      let p = told_woken h woken ws t in
      record {
        asked = t.asked;
        told = λ a i. t.told a (filter_in (λ x. not (is_woken woken x)) a (waits h) i).0;
        wakes = record { waited = p.0; once = p.1; rest = p.2; gone = p.3 };
      }

  told : (rule : Rule) (h : History) → Obeys loaded rule h → KeepsWakes h → Told h
  told rule [] o ws = record {
    asked = λ a i. i;
    told = λ a i. i;
    wakes = record { waited = λ w i. absurd i; once = tt; rest = λ a i. absurd i; gone = λ a w i j e. absurd i };
  }
  told rule (c ∷ h) o ws = told_more h c o.0 ws.0 (told rule h o.2 ws.1)

  pub wakes_once : (rule : Rule) (h : History) → Obeys loaded rule h → KeepsWakes h → WakesOnce h
  wakes_once rule h o ws = (told rule h o ws).wakes
