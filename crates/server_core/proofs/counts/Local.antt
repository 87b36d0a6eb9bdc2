-- The same count for one sender and one receiver, by what the two have handled.
use Rattle.std.proofs.Common.{◌≡◌, ◌≢◌, ℕ, ◌+◌, List, [], ◌∷◌, Bool, true, false, cond, ◌&&◌, eqb, refl, ap, ◌∙◌, subst, ⊎_elim, arith}
use Rattle.std.proofs.lemmas.Bool.Decides.{nat_tests, eqb_tells}
use Rattle.server_core.specs.declared.messages.Msg.{Msg}
use Rattle.server_core.specs.declared.messages.Mail.{Mail}
use Rattle.server_core.specs.declared.messages.Entry.{Entry}
pub use Rattle.server_core.specs.Counts.{count_msgs}
use Rattle.server_core.specs.Runs.{Saying, heard, Reaches}
use Rattle.server_core.specs.Counts.{all_said, count}
use Rattle.server_core.proofs.counts.Conserved.{count-append, handled, said_in, conserved}

-- mails to q whose message passes
abbrev pub sent_to : ℕ → (Msg → Bool) → Mail → Bool
sent_to q t x = t x.msg && eqb x.to q

pub heard_counts : (t : Msg → Bool) (q : ℕ) (H : List Entry) → count (sent_to q t) (handled H) ≡ count_msgs t (heard q H)
heard_counts t q [] = refl
heard_counts t q (e ∷ H) = grind (arith, nat_tests, heard_counts t q H)

said_here : (says : Saying) (t : Mail → Bool) (r : ℕ) (e : Entry) (H : List Entry) → e.node ≡ r → count t (all_said says r (heard r (e ∷ H))) ≡ count t (says e.node (e.msg ∷ heard e.node H)) + count t (all_said says r (heard r H))
said_here says t r e H is =
    let own : count t (all_said says e.node (heard e.node (e ∷ H))) ≡ count t (says e.node (e.msg ∷ heard e.node H)) + count t (all_said says e.node (heard e.node H))
    = ap (λ b. count t (all_said says e.node (cond b (e.msg ∷ heard e.node H) (heard e.node H)))) (same e.node) ∙ count-append t (says e.node (e.msg ∷ heard e.node H)) (all_said says e.node (heard e.node H)) in
    subst (λ x. count t (all_said says x (heard x (e ∷ H))) ≡ count t (says e.node (e.msg ∷ heard e.node H)) + count t (all_said says x (heard x H))) is own
  where
    same : (x : ℕ) → eqb x x ≡ true
    same x = grind (arith, nat_tests)

said_there : (says : Saying) (t : Mail → Bool) (r : ℕ) (e : Entry) (H : List Entry) → e.node ≢ r → count t (all_said says r (heard r (e ∷ H))) ≡ count t (all_said says r (heard r H))
said_there says t r e H ne = ap (λ b. count t (all_said says r (cond b (e.msg ∷ heard r H) (heard r H)))) off
  where
    off : eqb e.node r ≡ false
    off = grind (arith, nat_tests)

-- where all other nodes say no such mail, what was said is what p said
pub said_by : (says : Saying) (t : Mail → Bool) (p : ℕ) (H : List Entry) → ((r : ℕ) → r ≢ p → count t (all_said says r (heard r H)) ≡ 0) → count t (said_in says H) ≡ count t (all_said says p (heard p H))
said_by says t p [] none = refl
said_by says t p (e ∷ H) none =
    let rest : (r : ℕ) → r ≢ p → count t (all_said says r (heard r H)) ≡ 0
    = λ r ne. ⊎_elim
    (λ x. omega (arith, said_here says t r e H x.1, none r ne))
    (λ x. omega (arith, said_there says t r e H x.1, none r ne))
    (eqb_tells e.node r) in
    let ih = said_by says t p H rest in
    let whole = count-append t (says e.node (e.msg ∷ heard e.node H)) (said_in says H) in
    ⊎_elim
    (λ x. omega (arith, said_here says t p e H x.1, ih, whole))
    (λ x. omega (arith, said_here says t e.node e H refl, none e.node x.1, said_there says t p e H x.1, ih, whole))
    (eqb_tells e.node p)

-- in flight and handled, of the opening and what the one sender said
pub ledger : (says : Saying) (opening : List Mail) (t : Msg → Bool) (p q : ℕ) (H : List Entry) (flight : List Mail) → Reaches says opening H flight → ((r : ℕ) → r ≢ p → count (sent_to q t) (all_said says r (heard r H)) ≡ 0) → count (sent_to q t) flight + count_msgs t (heard q H) ≡ count (sent_to q t) opening + count (sent_to q t) (all_said says p (heard p H))
ledger says opening t p q H flight run none = omega (arith, conserved says opening (sent_to q t) H flight run, heard_counts t q H, said_by says (sent_to q t) p H none)
