-- The calls that a partition's messages make: they obey the rule, and what waits.
use Rattle.std.proofs.Common.{◌≡◌, ℕ, ◌+◌, ◌≤◌, List, [], ◌∷◌, filter, Bool, true, false, cond, not, ◌&&◌, refl, sym, ap, ◌∙◌, subst, inl, inr, ⊎_elim, arith, true≢false}
use Rattle.deneva_base.specs.declared.keys.Key.{Key}
use Rattle.deneva_base.specs.declared.numbers.Attempt.{Attempt}
use Rattle.deneva_base.specs.declared.keys.Mode.{Mode}
use Rattle.deneva_base.specs.Lists.{IsIn}
use Rattle.deneva_base.specs.Rows.{Rows}
use Rattle.deneva_base.specs.Keys.{attempt_eq, key_eq}
use Rattle.deneva_base.specs.declared.answers.Answer.TheVariants.{Granted as Gives, Waits, Refused as Refuses}
use Rattle.deneva_base.specs.declared.answers.Wake.{Wake}
use Rattle.protocol_rules.specs.History.{Ask as Asked', Prepare as Prepared, Commit as Committed, Abort as Aborted, History, Asked, Grant, asks, grants, waits, wakes_this, is_woken}
use Rattle.protocol_rules.specs.Wakes.{Once, WakesWaiters, KeepsWakes}
use Rattle.protocol_rules.specs.Rules.{Rule, Obeys}
use Rattle.deneva_base.proofs.Membership.{filter_in, any_at, any_found, and_true, and_parts, attempt_decides, key_decides, attempt_tells, key_tells}
use Rattle.protocol_rules.proofs.Known.{Known, known}
use Rattle.protocol_rules.proofs.Traced.{Traced, traced}
use Rattle.server_core.specs.declared.messages.Msg.{Msg}
use Rattle.server_core.specs.declared.messages.Msg.TheVariants.{Start, Ask, Prepare, Commit, Abort}
use Rattle.server_core.specs.Setting.{Setting, loaded_at, rule_at}
use Rattle.deneva_base.specs.Partitions.{partition_of}
use Rattle.server_core.specs.Participant.{calls}
use Rattle.server_core.specs.VotingFits.{AllFit}
use Rattle.server_core.specs.Proper.{Valid}

pub obeys : (s : Setting) (p : ℕ) (ms : List Msg) → AllFit s p ms → Obeys (loaded_at s p) (rule_at s p) (calls s p ms)
obeys s p [] fit = tt
obeys s p (Ask x st k m ∷ ms) fit = (fit.0.1.3, refl, obeys s p ms fit.1)
obeys s p (Prepare x b w a ∷ ms) fit = (fit.0.1.1, refl, obeys s p ms fit.1)
obeys s p (Commit x n ∷ ms) fit = (fit.0.1.1, refl, obeys s p ms fit.1)
obeys s p (Abort x ∷ ms) fit = (fit.0.1.1, refl, obeys s p ms fit.1)
obeys s p (Start x ∷ ms) fit = obeys s p ms fit.1
obeys s p (m ∷ ms) fit = obeys s p ms fit.1

pub knows : (s : Setting) (p : ℕ) (ms : List Msg) → AllFit s p ms → Known (loaded_at s p) (calls s p ms)
knows s p ms fit = known (loaded_at s p) (rule_at s p) (calls s p ms) (obeys s p ms fit)

pub wakers : (s : Setting) (v : Valid s) (p : ℕ) (ms : List Msg) → AllFit s p ms → KeepsWakes (calls s p ms)
wakers s v p ms fit = v.rule.wakes (loaded_at s p) (calls s p ms) (obeys s p ms fit)

pub traces : (s : Setting) (v : Valid s) (p : ℕ) (ms : List Msg) → AllFit s p ms → Traced (calls s p ms)
traces s v p ms fit = traced (loaded_at s p) (rule_at s p) (calls s p ms) (obeys s p ms fit) (wakers s v p ms fit)

-- what was asked is an access at its partition
pub access_of : (s : Setting) (p : ℕ) (ms : List Msg) (a : Asked) → AllFit s p ms → IsIn a (asks (calls s p ms)) → (partition_of a.key s.parts ≡ p) × IsIn (record { key = a.key; mode = a.mode }) (s.accesses a.who.txn)
access_of s p [] a fit i = absurd i
access_of s p (Ask x st k m ∷ ms) a fit i =
    ⊎_elim
    (λ (e : a ≡ record { who = x; stamp = st; key = k; mode = m }). subst (λ (z : Asked). (partition_of z.key s.parts ≡ p) × IsIn (record { key = z.key; mode = z.mode }) (s.accesses z.who.txn)) (sym e) (fit.0.1.1, fit.0.1.2))
    (λ t. access_of s p ms a fit.1 t)
    i
access_of s p (Start x ∷ ms) a fit i = access_of s p ms a fit.1 i
access_of s p (m ∷ ms) a fit i = access_of s p ms a fit.1 i

-- so is what was granted
pub grant_access : (s : Setting) (v : Valid s) (p : ℕ) (ms : List Msg) (g : Grant) → AllFit s p ms → IsIn g (grants (calls s p ms)) → (partition_of g.key s.parts ≡ p) × IsIn (record { key = g.key; mode = g.mode }) (s.accesses g.who.txn)
grant_access s v p ms g fit i =
    let a = (traces s v p ms fit).asked g i in
    let h = access_of s p ms a.0 fit a.1 in
    (ap (λ k. partition_of k s.parts) (sym a.3) ∙ h.0, subst (λ (z : Attempt × Key × Mode). IsIn (record { key = z.1; mode = z.2 }) (s.accesses z.0.txn)) (λ j. (a.2 j, a.3 j, a.4 j)) h.1)

pub ask_heard : (s : Setting) (p : ℕ) (ms : List Msg) (a : Asked) → IsIn a (asks (calls s p ms)) → IsIn (Ask a.who a.stamp a.key a.mode) ms
ask_heard s p [] a i = absurd i
ask_heard s p (Ask x st k m ∷ ms) a i = ⊎_elim (λ (e : a ≡ record { who = x; stamp = st; key = k; mode = m }). inl (ap (λ (z : Asked). Ask z.who z.stamp z.key z.mode) e)) (λ t. inr (ask_heard s p ms a t)) i
ask_heard s p (Start x ∷ ms) a i = inr (ask_heard s p ms a i)
ask_heard s p (m ∷ ms) a i = inr (ask_heard s p ms a i)

-- how often an access waits
abbrev pub waiting : Attempt → Key → List Asked → ℕ
waiting who key [] = 0
waiting who key (a ∷ as') = cond (attempt_eq a.who who && key_eq a.key key) 1 0 + waiting who key as'

abbrev pub wakings : Attempt → Key → List Wake → ℕ
wakings who key [] = 0
wakings who key (w ∷ ws) = cond (attempt_eq w.who who && key_eq w.key key) 1 0 + wakings who key ws

pub waiting_in : (who : Attempt) (key : Key) (ws : List Asked) (a : Asked) → IsIn a ws → a.who ≡ who → a.key ≡ key → 1 ≤ waiting who key ws
waiting_in who key [] a i e f = absurd i
waiting_in who key (b ∷ ws) a i e f =
    ⊎_elim
    (λ (is : a ≡ b).
    let t : (attempt_eq b.who who && key_eq b.key key) ≡ true = and_true (attempt_eq b.who who) (key_eq b.key key) ((attempt_decides b.who who).1 (sym (ap (λ z. z.who) is) ∙ e)) ((key_decides b.key key).1 (sym (ap (λ z. z.key) is) ∙ f)) in
    rw t (omega arith))
    (λ r. omega (arith, waiting_in who key ws a r e f))
    i

pub in_waiting : (who : Attempt) (key : Key) (ws : List Asked) → 1 ≤ waiting who key ws → (a : Asked) × IsIn a ws × (a.who ≡ who) × (a.key ≡ key)
in_waiting who key [] h = absurd (omega arith)
in_waiting who key (b ∷ ws) h = go (attempt_eq b.who who && key_eq b.key key) refl (in_waiting who key ws)
  where
    go : (t : Bool) → (attempt_eq b.who who && key_eq b.key key) ≡ t → (1 ≤ waiting who key ws → (a : Asked) × IsIn a ws × (a.who ≡ who) × (a.key ≡ key)) → (a : Asked) × IsIn a (b ∷ ws) × (a.who ≡ who) × (a.key ≡ key)
    go true e next = let both = and_parts (attempt_eq b.who who) (key_eq b.key key) e in (b, inl refl, (attempt_decides b.who who).0 both.0, (key_decides b.key key).0 both.1)
    go false e next =
        let h' : 1 ≤ 0 + waiting who key ws = subst (λ z. 1 ≤ cond z 1 0 + waiting who key ws) e h in
        let n = next (omega arith) in
        (n.0, inr n.1, n.2, n.3)

in_wakings : (who : Attempt) (key : Key) (ws : List Wake) → 1 ≤ wakings who key ws → (w : Wake) × IsIn w ws × (w.who ≡ who) × (w.key ≡ key)
in_wakings who key [] h = absurd (omega arith)
in_wakings who key (b ∷ ws) h = go (attempt_eq b.who who && key_eq b.key key) refl (in_wakings who key ws)
  where
    go : (t : Bool) → (attempt_eq b.who who && key_eq b.key key) ≡ t → (1 ≤ wakings who key ws → (w : Wake) × IsIn w ws × (w.who ≡ who) × (w.key ≡ key)) → (w : Wake) × IsIn w (b ∷ ws) × (w.who ≡ who) × (w.key ≡ key)
    go true e next = let both = and_parts (attempt_eq b.who who) (key_eq b.key key) e in (b, inl refl, (attempt_decides b.who who).0 both.0, (key_decides b.key key).0 both.1)
    go false e next =
        let h' : 1 ≤ 0 + wakings who key ws = subst (λ z. 1 ≤ cond z 1 0 + wakings who key ws) e h in
        let n = next (omega arith) in
        (n.0, inr n.1, n.2, n.3)

wakings_once : (who : Attempt) (key : Key) (ws : List Wake) → Once ws → wakings who key ws ≤ 1
wakings_once who key [] o = omega arith
wakings_once who key (w ∷ ws) o =
    ⊎_elim
    (λ t. ⊎_elim
    (λ u.
    let none : 1 ≤ wakings who key ws → ⊥ = λ (h : 1 ≤ wakings who key ws). let x = in_wakings who key ws h in o.0 x.0 x.1 (x.2 ∙ sym t.1) (x.3 ∙ sym u.1) in
    rw (t.0, u.0) (omega (arith, zero_of (wakings who key ws) none)))
    (λ u. rw (t.0, u.0) (omega (arith, wakings_once who key ws o.1)))
    (key_tells w.key key))
    (λ t. rw t.0 (omega (arith, wakings_once who key ws o.1)))
    (attempt_tells w.who who)
  where
    zero_of : (n : ℕ) → (1 ≤ n → ⊥) → n ≡ 0
    zero_of n h = grind (arith, h)

filter_less : (who : Attempt) (key : Key) (p : Asked → Bool) (ws : List Asked) → waiting who key (filter p ws) ≤ waiting who key ws
filter_less who key p [] = omega arith
filter_less who key p (a ∷ ws) = grind (arith, filter_less who key p ws)

-- an access waits once
pub waiting_once : (loaded : Rows) (rule : Rule) (who : Attempt) (key : Key) (h : History) → Obeys loaded rule h → waiting who key (waits h) ≤ 1
waiting_once loaded rule who key [] o = omega arith
waiting_once loaded rule who key (Asked' x st k m Waits ∷ h) o =
    ⊎_elim
    (λ t.
    let none : waiting who key (waits h) ≡ 0 = zero_of (waiting who key (waits h)) (λ (one : 1 ≤ waiting who key (waits h)). let a = in_waiting who key (waits h) one in o.0.nowhere a.0 a.1 (a.2 ∙ sym t.1)) in
    at_most (attempt_eq x who && key_eq k key) none)
    (λ t. rw t.0 (omega (arith, waiting_once loaded rule who key h o.2)))
    (attempt_tells x who)
  where
    zero_of : (n : ℕ) → (1 ≤ n → ⊥) → n ≡ 0
    zero_of n h = grind (arith, h)

    at_most : (b : Bool) → waiting who key (waits h) ≡ 0 → cond b 1 0 + waiting who key (waits h) ≤ 1
    at_most true e = omega (arith, e)
    at_most false e = omega (arith, e)
waiting_once loaded rule who key (Asked' x st k m (Gives r w b) ∷ h) o = waiting_once loaded rule who key h o.2
waiting_once loaded rule who key (Asked' x st k m (Refuses c) ∷ h) o = waiting_once loaded rule who key h o.2
waiting_once loaded rule who key (Prepared x b w a vote ∷ h) o = waiting_once loaded rule who key h o.2
waiting_once loaded rule who key (Committed x n woken ∷ h) o = omega (arith, filter_less who key (λ a. not (is_woken woken a)) (waits h), waiting_once loaded rule who key h o.2)
waiting_once loaded rule who key (Aborted x woken ∷ h) o = omega (arith, filter_less who key (λ a. not (is_woken woken a)) (waits h), waiting_once loaded rule who key h o.2)

-- what a call wakes waited, and waits no more
pub wake_balance : (who : Attempt) (key : Key) (woken : List Wake) (h : History) → WakesWaiters h woken → waiting who key (waits h) ≤ 1 → wakings who key woken + waiting who key (filter (λ a. not (is_woken woken a)) (waits h)) ≡ waiting who key (waits h)
wake_balance who key woken h ws one = go (wakings who key woken) refl
  where
    all_left : (as' : List Asked) → (1 ≤ wakings who key woken → ⊥) → waiting who key (filter (λ a. not (is_woken woken a)) as') ≡ waiting who key as'
    all_left [] none = refl
    all_left (a ∷ as') none = go (is_woken woken a) refl (all_left as' none)
      where
        wakings_in : (ws : List Wake) (w : Wake) → IsIn w ws → w.who ≡ who → w.key ≡ key → 1 ≤ wakings who key ws
        wakings_in [] w i e f = absurd i
        wakings_in (b ∷ ws) w i e f =
            ⊎_elim
            (λ (is : w ≡ b).
            let t : (attempt_eq b.who who && key_eq b.key key) ≡ true = and_true (attempt_eq b.who who) (key_eq b.key key) ((attempt_decides b.who who).1 (sym (ap (λ z. z.who) is) ∙ e)) ((key_decides b.key key).1 (sym (ap (λ z. z.key) is) ∙ f)) in
            rw t (omega arith))
            (λ r. omega (arith, wakings_in ws w r e f))
            i

        off : (b : Bool) → (attempt_eq a.who who && key_eq a.key key) ≡ b → is_woken woken a ≡ true → b ≡ false
        off false e f = refl
        off true e f =
            let x = any_found (λ w. wakes_this w a) woken f in
            let b = and_parts (attempt_eq a.who who) (key_eq a.key key) e in
            let c = and_parts (attempt_eq x.0.who a.who) (key_eq x.0.key a.key) x.2 in
            absurd (none (wakings_in woken x.0 x.1 ((attempt_decides x.0.who a.who).0 c.0 ∙ (attempt_decides a.who who).0 b.0) ((key_decides x.0.key a.key).0 c.1 ∙ (key_decides a.key key).0 b.1)))

        go : (b : Bool) → is_woken woken a ≡ b → waiting who key (filter (λ a. not (is_woken woken a)) as') ≡ waiting who key as' → waiting who key (filter (λ a. not (is_woken woken a)) (a ∷ as')) ≡ waiting who key (a ∷ as')
        go false e ih = rw e (omega (arith, ih))
        go true e ih = let f : (attempt_eq a.who who && key_eq a.key key) ≡ false = off (attempt_eq a.who who && key_eq a.key key) refl e in rw (e, f) (omega (arith, ih))

    none_left : (w : Wake) → IsIn w woken → w.who ≡ who → w.key ≡ key → waiting who key (filter (λ a. not (is_woken woken a)) (waits h)) ≡ 0
    none_left w i e f = zero_of (waiting who key (filter (λ a. not (is_woken woken a)) (waits h))) (λ more.
        let a = in_waiting who key (filter (λ a. not (is_woken woken a)) (waits h)) more in
        let t : is_woken woken a.0 ≡ true = any_at (λ x. wakes_this x a.0) w woken i (and_true (attempt_eq w.who a.0.who) (key_eq w.key a.0.key) ((attempt_decides w.who a.0.who).1 (e ∙ sym a.2)) ((key_decides w.key a.0.key).1 (f ∙ sym a.3))) in
        true≢false (sym (filter_in (λ x. not (is_woken woken x)) a.0 (waits h) a.1).1 ∙ ap not t))
      where
        zero_of : (n : ℕ) → (1 ≤ n → ⊥) → n ≡ 0
        zero_of n h = grind (arith, h)

    go : (n : ℕ) → wakings who key woken ≡ n → wakings who key woken + waiting who key (filter (λ a. not (is_woken woken a)) (waits h)) ≡ waiting who key (waits h)
    go ℕ.zero e = omega (arith, e, all_left (waits h) (λ (m : 1 ≤ wakings who key woken). omega (arith, m, e)))
    go (ℕ.suc n) e =
        let x = in_wakings who key woken (omega (arith, e)) in
        let a = ws.waited x.0 x.1 in
        omega (arith, e, wakings_once who key woken ws.once, none_left x.0 x.1 x.2 x.3, waiting_in who key (waits h) a.0 a.1 (a.2 ∙ x.2) (a.3 ∙ x.3), one)
