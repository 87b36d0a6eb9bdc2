-- Grants and asks, where each wake is of an access that waited.
use Rattle.std.proofs.Common.{◌≡◌, ◌≢◌, ◌⊎◌, ℕ, List, [], ◌∷◌, ◌++◌, map, filter, true, not, refl, sym, ap, ◌∙◌, subst, inl, inr, ⊎_elim, arith, true≢false}
use Rattle.deneva_base.specs.declared.keys.Key.{Key}
use Rattle.deneva_base.specs.declared.numbers.Attempt.{Attempt}
use Rattle.deneva_base.specs.declared.keys.Mode.{Mode}
use Rattle.deneva_base.specs.Lists.{IsIn}
use Rattle.deneva_base.specs.Rows.{Rows}
use Rattle.deneva_base.specs.Keys.{key_eq, attempt_eq}
use Rattle.deneva_base.specs.declared.answers.Answer.{Answer}
use Rattle.deneva_base.specs.declared.answers.Answer.TheVariants.{Granted, Waits, Refused}
use Rattle.deneva_base.specs.declared.answers.Wake.{Wake}
use Rattle.protocol_rules.specs.History.{Call, Ask, Prepare, Commit, Abort, History, Asked, Grant, asks, waits, grants, grant_of, grant_of_wake, asked_as, wakes_this, is_woken, IsUnended, IsOpen}
use Rattle.protocol_rules.specs.Wakes.{Once, WakesWaiters, CallWakes, KeepsWakes}
use Rattle.protocol_rules.specs.Conditions.{MayAsk, MayCall}
use Rattle.protocol_rules.specs.Rules.{Rule, Obeys}
use Rattle.deneva_base.proofs.Membership.{in_cases, in_map_from, filter_in, any_at, and_true, attempt_decides, key_decides, attempt_tells, key_tells}
use Rattle.protocol_rules.proofs.Known.{Known, known, left_wait}

pub record Traced (h : History) : Type 0 where
  -- each granted access was asked for so
  pub asked : (g : Grant) → IsIn g (grants h) → (a : Asked) × IsIn a (asks h) × (a.who ≡ g.who) × (a.key ≡ g.key) × (a.mode ≡ g.mode) × (a.stamp ≡ g.stamp)
  -- and does not wait
  pub not_both : (g : Grant) (a : Asked) → IsIn g (grants h) → IsIn a (waits h) → g.who ≡ a.who → g.key ≢ a.key
  -- and is granted once
  pub one : (a b : Grant) → IsIn a (grants h) → IsIn b (grants h) → a.who ≡ b.who → a.key ≡ b.key → a ≡ b

pub wakes_this_true : (w : Wake) (a : Asked) → w.who ≡ a.who → w.key ≡ a.key → wakes_this w a ≡ true
wakes_this_true w a e f = and_true (attempt_eq w.who a.who) (key_eq w.key a.key) ((attempt_decides w.who a.who).1 e) ((key_decides w.key a.key).1 f)

-- the ask of a woken access
pub asked_found : (as' : List Asked) (w : Wake) (a : Asked) → ((x y : Asked) → IsIn x as' → IsIn y as' → x.who ≡ y.who → x.key ≡ y.key → x ≡ y) → IsIn a as' → a.who ≡ w.who → a.key ≡ w.key → asked_as as' w ≡ a
asked_found [] w a pair i e f = absurd i
asked_found (x ∷ as') w a pair i e f = grind (arith, attempt_tells w.who x.who, key_tells w.key x.key, asked_found as' w a, pair x a)

once_same : (woken : List Wake) (v w : Wake) → Once woken → IsIn v woken → IsIn w woken → v.who ≡ w.who → v.key ≡ w.key → v ≡ w
once_same [] v w o i j e f = absurd i
once_same (x ∷ woken) v w o i j e f =
    ⊎_elim
    (λ (s : v ≡ x). ⊎_elim (λ (t : w ≡ x). s ∙ sym t) (λ t. absurd (o.0 w t (sym e ∙ ap (λ z. z.who) s) (sym f ∙ ap (λ z. z.key) s))) j)
    (λ s. ⊎_elim (λ (t : w ≡ x). absurd (o.0 v s (e ∙ ap (λ z. z.who) t) (f ∙ ap (λ z. z.key) t))) (λ t. once_same woken v w o.1 s t e f) j)
    i

module _ (loaded : Rows) where
  -- what the wakes of one call add to the grants of h, and leave of its waiting accesses
  pub record Wakened (h : History) (woken : List Wake) : Type 0 where
    pub asked : (g : Grant) → IsIn g (map (grant_of_wake h) woken ++ grants h) → (a : Asked) × IsIn a (asks h) × (a.who ≡ g.who) × (a.key ≡ g.key) × (a.mode ≡ g.mode) × (a.stamp ≡ g.stamp)
    pub not_both : (g : Grant) (a : Asked) → IsIn g (map (grant_of_wake h) woken ++ grants h) → IsIn a (filter (λ x. not (is_woken woken x)) (waits h)) → g.who ≡ a.who → g.key ≢ a.key
    pub one : (a b : Grant) → IsIn a (map (grant_of_wake h) woken ++ grants h) → IsIn b (map (grant_of_wake h) woken ++ grants h) → a.who ≡ b.who → a.key ≡ b.key → a ≡ b

  -- a grant is that of a wake, or stood before
  pub wake_cases : (h : History) (woken : List Wake) (g : Grant) → Known loaded h → WakesWaiters h woken → IsIn g (map (grant_of_wake h) woken ++ grants h) → ((w : Wake) × (a : Asked) × IsIn w woken × IsIn a (waits h) × (a.who ≡ w.who) × (a.key ≡ w.key) × (g ≡ grant_of w a)) ⊎ IsIn g (grants h)
  wake_cases h woken g k ws i =
      ⊎_elim
      (λ m.
      let w = in_map_from (grant_of_wake h) g woken m in
      let a = ws.waited w.0 w.1 in
      inl (w.0, a.0, w.1, a.1, a.2, a.3, w.2 ∙ ap (grant_of w.0) (asked_found (asks h) w.0 a.0 k.pair (k.asked a.0 a.1) a.2 a.3)))
      (λ t. inr t)
      (in_cases g (map (grant_of_wake h) woken) (grants h) i)

  pub wakened : (h : History) (woken : List Wake) → Known loaded h → WakesWaiters h woken → Traced h → Wakened h woken
  wakened h woken k ws t = record {
    asked = λ g i.
        ⊎_elim
        (λ c. (c.1, k.asked c.1 c.3, c.4 ∙ sym (ap (λ z. z.who) c.6), c.5 ∙ sym (ap (λ z. z.key) c.6), sym (ap (λ z. z.mode) c.6), sym (ap (λ z. z.stamp) c.6)))
        (λ old. t.asked g old)
        (wake_cases h woken g k ws i);
    not_both = λ g a i j e f.
        ⊎_elim
        (λ c.
        true≢false (sym (filter_in (λ x. not (is_woken woken x)) a (waits h) j).1 ∙ ap not
        (any_at (λ w. wakes_this w a) c.0 woken c.2 (wakes_this_true c.0 a (sym (ap (λ z. z.who) c.6) ∙ e) (sym (ap (λ z. z.key) c.6) ∙ f)))))
        (λ old. t.not_both g a old (left_wait loaded woken a (waits h) j) e f)
        (wake_cases h woken g k ws i);
    one = λ a b i j e f.
        ⊎_elim
        (λ x. ⊎_elim
        (λ y.
        let same : x.0 ≡ y.0 = once_same woken x.0 y.0 ws.once x.2 y.2 (sym (ap (λ z. z.who) x.6) ∙ e ∙ ap (λ z. z.who) y.6) (sym (ap (λ z. z.key) x.6) ∙ f ∙ ap (λ z. z.key) y.6) in
        let asks : x.1 ≡ y.1 = k.alone x.1 y.1 x.3 y.3 (x.4 ∙ ap (λ z. z.who) same ∙ sym y.4) in
        x.6 ∙ ap (λ w. grant_of w x.1) same ∙ ap (grant_of y.0) asks ∙ sym y.6)
        (λ old. absurd (t.not_both b x.1 old x.3 (sym e ∙ ap (λ z. z.who) x.6 ∙ sym x.4) (sym f ∙ ap (λ z. z.key) x.6 ∙ sym x.5)))
        (wake_cases h woken b k ws j))
        (λ old. ⊎_elim
        (λ y. absurd (t.not_both a y.1 old y.3 (e ∙ ap (λ z. z.who) y.6 ∙ sym y.4) (f ∙ ap (λ z. z.key) y.6 ∙ sym y.5)))
        (λ new. t.one a b old new e f)
        (wake_cases h woken b k ws j))
        (wake_cases h woken a k ws i);
  }

  traced_ask : (h : History) (who : Attempt) (stamp : ℕ) (key : Key) (mode : Mode) (answer : Answer) → MayAsk loaded h who stamp key → Traced h → Traced (Ask who stamp key mode answer ∷ h)
  traced_ask h who stamp key mode (Refused cause) may t = record {
    asked = λ g i. let a = t.asked g i in (a.0, inr a.1, a.2, a.3, a.4, a.5);
    not_both = t.not_both;
    one = t.one;
  }
  traced_ask h who stamp key mode Waits may t = record {
    asked = λ g i. let a = t.asked g i in (a.0, inr a.1, a.2, a.3, a.4, a.5);
    not_both = λ g a i j e f. ⊎_elim (λ new. let x = t.asked g i in may.once x.0 x.1 (x.2 ∙ e ∙ ap (λ z. z.who) new) (x.3 ∙ f ∙ ap (λ z. z.key) new)) (λ old. t.not_both g a i old e f) j;
    one = t.one;
  }
  traced_ask h who stamp key mode (Granted row version bound) may t = record {
    asked = λ g i.
        ⊎_elim
        (λ new. (record { who = who; stamp = stamp; key = key; mode = mode }, inl refl, sym (ap (λ z. z.who) new), sym (ap (λ z. z.key) new), sym (ap (λ z. z.mode) new), sym (ap (λ z. z.stamp) new)))
        (λ old. let a = t.asked g old in (a.0, inr a.1, a.2, a.3, a.4, a.5))
        i;
    not_both = λ g a i j e f. ⊎_elim (λ new. may.nowhere a j (sym e ∙ ap (λ z. z.who) new)) (λ old. t.not_both g a old j e f) i;
    one = λ a b i j e f.
        ⊎_elim
        (λ x. ⊎_elim (λ y. x ∙ sym y) (λ old. let n = t.asked b old in absurd (may.once n.0 n.1 (n.2 ∙ sym e ∙ ap (λ z. z.who) x) (n.3 ∙ sym f ∙ ap (λ z. z.key) x))) j)
        (λ old. ⊎_elim (λ y. let n = t.asked a old in absurd (may.once n.0 n.1 (n.2 ∙ e ∙ ap (λ z. z.who) y) (n.3 ∙ f ∙ ap (λ z. z.key) y))) (λ new. t.one a b old new e f) j)
        i;
  }

  pub traced_more : (h : History) (c : Call) → MayCall loaded h c → CallWakes h c → Known loaded h → Traced h → Traced (c ∷ h)
  traced_more h (Ask who stamp key mode answer) may ws k t = traced_ask h who stamp key mode answer may t
  traced_more h (Prepare who bound writes appends vote) may ws k t = record { asked = t.asked; not_both = t.not_both; one = t.one }
  traced_more h (Commit who number woken) may ws k t = let w = wakened h woken k ws t in record { asked = w.asked; not_both = w.not_both; one = w.one }
  traced_more h (Abort who woken) may ws k t = let w = wakened h woken k ws t in record { asked = w.asked; not_both = w.not_both; one = w.one }

  pub traced : (rule : Rule) (h : History) → Obeys loaded rule h → KeepsWakes h → Traced h
  traced rule [] o ws = record { asked = λ g i. absurd i; not_both = λ g a i j e. absurd i; one = λ a b i j e f. absurd i }
  traced rule (c ∷ h) o ws = traced_more h c o.0 ws.0 (known loaded rule h o.2) (traced rule h o.2 ws.1)

  -- whom a call wakes has neither voted nor ended
  pub idle : (h : History) (woken : List Wake) → Known loaded h → WakesWaiters h woken → (w : Wake) → IsIn w woken → IsUnended h w.who × IsOpen h w.who
  idle h woken k ws w i = let a = ws.waited w i in (subst (λ z. IsUnended h z) a.2 (k.unended a.0 a.1), subst (λ z. IsOpen h z) a.2 (k.opened a.0 a.1))
