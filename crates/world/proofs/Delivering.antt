-- One delivery.
use Rattle.std.proofs.Common.{◌≡◌, ◌≢◌, ◌⊎◌, ℕ, zero, suc, ◌<◌, List, [], ◌∷◌, ◌++◌, length, reverse, slice_get, Option, Some, None, cond, refl, sym, ap, ap₂, ◌∙◌, subst, inl, inr, ⊎_elim, arith}
use Rattle.std.specs.Prelude.{slice_set}
use Rattle.std.specs.List.{remove}
use Rattle.std.proofs.lemmas.Bool.Decides.{eqb_tells}
use Rattle.std.proofs.lemmas.List.{length-set, append-nil, reverse-append, length-reverse}
use Rattle.deneva_base.specs.Lists.{IsIn}
use Rattle.deneva_base.specs.declared.config.Config.{Config}
use Rattle.deneva_base.specs.declared.config.Protocol.{Protocol}
use Rattle.txn_program.specs.Valid.{IsValid}
use Rattle.txn_program.specs.declared.programs.Workload.{Workload}
use Rattle.server_core.specs.Picks.{Progress, deliver, delivered}
use Rattle.server_core.specs.Configs.{IsConfig}
use Rattle.server_core.specs.Fits.{Fits, AllFitting}
use Rattle.server_core.specs.Roles.{Role, FitsRole, said_by}
use Rattle.server_core.specs.Runs.{entry_of, heard}
use Rattle.server_core.specs.Says.{says, IsRun}
use Rattle.server_core.specs.Setting.{take_first, drop_first}
use Rattle.server_core.specs.declared.messages.Entry.{Entry}
use Rattle.server_core.specs.declared.messages.Mail.{Mail}
use Rattle.server_core.specs.declared.messages.Msg.{Msg}
use Rattle.world.specs.Worlds.{Seen, IsRunning, HasNodes, role_in, in_line}
use Rattle.world.proofs.AnyRuns.{deliver_run}

pub in_at : {A : Type 0} (xs : List A) (k : ℕ) (x : A) → slice_get xs k ≡ Some x → IsIn x xs
in_at [] zero x e = cc (e)
in_at [] (suc k) x e = cc (e)
in_at (y ∷ xs) zero x e = let is : y ≡ x = cc in inl (sym is)
in_at (y ∷ xs) (suc k) x e = inr (in_at xs k x e)

-- the two words for a list without its k-th
pub taken_out : {A : Type 0} (xs : List A) (k : ℕ) → remove xs k ≡ take_first k xs ++ drop_first (suc k) xs
taken_out [] zero = refl
taken_out [] (suc k) = refl
taken_out (x ∷ xs) zero = refl
taken_out (x ∷ xs) (suc k) = ap (λ t. x ∷ t) (taken_out xs k)

-- what stands where after one was replaced
pub set_cases : {A : Type 0} (xs : List A) (i p : ℕ) (x y s : A) → slice_get xs i ≡ Some x → slice_get (slice_set xs i y) p ≡ Some s → ((p ≡ i) × (s ≡ y)) ⊎ ((p ≢ i) × (slice_get xs p ≡ Some s))
set_cases [] zero p x y s at e = cc (at)
set_cases [] (suc i) p x y s at e = cc (at)
set_cases (z ∷ xs) zero zero x y s at e = let is : y ≡ s = cc in inl (refl, sym is)
set_cases (z ∷ xs) zero (suc p) x y s at e = inr (λ q. absurd (omega (arith, q)), e)
set_cases (z ∷ xs) (suc i) zero x y s at e = inr (λ q. absurd (omega (arith, q)), e)
set_cases (z ∷ xs) (suc i) (suc p) x y s at e =
    ⊎_elim (λ h. inl (ap suc h.0, h.1)) (λ h. inr (λ q. h.0 (omega (arith, q)), h.1)) (set_cases xs i p x y s at e)

-- a delivery takes the mail, and puts what its node says at the end
pub step_is : (c : Config) (w : Workload) (k : ℕ) (p : Progress) (m : Mail) (H : List Entry) (flight : List Mail) → slice_get p.flight k ≡ Some m → H ≡ entry_of (length p.entries) m ∷ p.entries
    → flight ≡ remove p.flight k ++ says c w m.to (m.msg ∷ heard m.to p.entries) → record { entries = H; flight = flight } ≡ deliver (says c w) k p
step_is c w k p m H flight at history line =
    (λ i. record { entries = history i; flight = (line ∙ ap (λ l. l ++ says c w m.to (m.msg ∷ heard m.to p.entries)) (taken_out p.flight k)) i })
    ∙ ap (delivered (says c w) k p) (sym at)

module _ {S : Type 0} (role : S → Role) (stands : S → List Msg → Type 0) (nodes : List S) (w : Seen) (has : HasNodes role stands nodes w) (i : ℕ) (s new : S) (at : slice_get nodes i ≡ Some s) (same : role new ≡ role s) where
  -- a node that stands for the same
  pub nodes_same : ((ms : List Msg) → stands s ms → stands new ms) → HasNodes role stands (slice_set nodes i new) w
  nodes_same keeps = record {
    count = length-set nodes i new ∙ has.count;
    each = λ p x e. ⊎_elim
        (λ h.
        let was = has.each i s at in
        subst (λ q. (role x ≡ role_in w q) × stands x (heard q w.progress.entries)) (sym h.0)
        (subst (λ y. (role y ≡ role_in w i) × stands y (heard i w.progress.entries)) (sym h.1) (same ∙ was.0, keeps (heard i w.progress.entries) was.1)))
        (λ h. has.each p x h.1)
        (set_cases nodes i p s new x at e);
  }

  -- a node that has handled one more
  pub nodes_more : (m : Mail) (place : ℕ) (flight : List Mail) → m.to ≡ i → stands new (m.msg ∷ heard i w.progress.entries)
      → HasNodes role stands (slice_set nodes i new) (record { config = w.config; work = w.work; progress = record { entries = entry_of place m ∷ w.progress.entries; flight = flight } })
  nodes_more m place flight to stand = record {
    count = length-set nodes i new ∙ has.count;
    each = λ p x e. ⊎_elim
        (λ h.
        let was = has.each i s at in
        subst (λ q. (role x ≡ role_in w q) × stands x (heard q (entry_of place m ∷ w.progress.entries))) (sym h.0)
        (subst (λ y. (role y ≡ role_in w i) × stands y (heard i (entry_of place m ∷ w.progress.entries))) (sym h.1) (same ∙ was.0, subst (stands new) (here i to) stand)))
        (λ h. let was = has.each p x h.1 in (was.0, subst (stands x) (other p (λ q. h.0 (sym q ∙ to))) was.1))
        (set_cases nodes i p s new x at e);
  }
    where
      here : (q : ℕ) → m.to ≡ q → m.msg ∷ heard q w.progress.entries ≡ heard q (entry_of place m ∷ w.progress.entries)
      here q is = ⊎_elim (λ t. ap (λ b. cond b (m.msg ∷ heard q w.progress.entries) (heard q w.progress.entries)) (sym t.0)) (λ t. absurd (t.1 is)) (eqb_tells m.to q)

      other : (q : ℕ) → m.to ≢ q → heard q w.progress.entries ≡ heard q (entry_of place m ∷ w.progress.entries)
      other q apart = ⊎_elim (λ t. absurd (apart t.1)) (λ t. ap (λ b. cond b (m.msg ∷ heard q w.progress.entries) (heard q w.progress.entries)) (sym t.0)) (eqb_tells m.to q)

-- once all has settled, the flight is the line
pub line_is : (flight line : List Mail) (held : Option Mail) (said : List Mail) → in_line flight held said ≡ line → held ≡ None → said ≡ [] → flight ≡ line
line_is flight line held said all none empty = sym (append-nil flight) ∙ sym (ap₂ (λ (h : Option Mail) (l : List Mail). in_line flight h l) none empty) ∙ all

-- and what was said since stands behind it
pub line_after : (flight more : List Mail) (held : Option Mail) (said : List Mail) → held ≡ None → said ≡ more → in_line flight held said ≡ flight ++ more
line_after flight more held said none is = ap₂ (λ (h : Option Mail) (l : List Mail). in_line flight h l) none is

-- the mail at a place fits its node
pub fits_at : {S : Type 0} (role : S → Role) (stands : S → List Msg → Type 0) (protocol : Protocol)
    (fits : (c : Config) (w : Workload) (H : List Entry) (flight : List Mail) → c.protocol ≡ protocol → IsConfig c → IsValid w → IsRun c w H flight → AllFitting c w H flight)
    (nodes : List S) (w : Seen) (running : IsRunning protocol w) (has : HasNodes role stands nodes w) (k i : ℕ) (m : Mail) (s : S)
    → slice_get w.progress.flight k ≡ Some m → m.to ≡ i → slice_get nodes i ≡ Some s
    → stands s (heard i w.progress.entries) × FitsRole (role s) m.from m.msg (heard i w.progress.entries)
fits_at role stands protocol fits nodes w running has k i m s at to here =
    let was = has.each i s here in
    let fit = fits w.config w.work w.progress.entries w.progress.flight running.of_protocol running.ranges running.valid running.run m (in_at w.progress.flight k m at) in
    (was.1, subst (λ (r : Role). FitsRole r m.from m.msg (heard i w.progress.entries)) (sym was.0) (subst (λ q. Fits w.config w.work q m.from m.msg (heard q w.progress.entries)) to fit))

-- what the node says
pub said_is : (w : Seen) (i : ℕ) (m : Mail) (r : Role) (old new : List Mail) → r ≡ role_in w i → m.to ≡ i → old ≡ [] → new ≡ old ++ said_by r (m.msg ∷ heard i w.progress.entries)
    → new ≡ says w.config w.work m.to (m.msg ∷ heard m.to w.progress.entries)
said_is w i m r old new is to none e =
    e ∙ ap (λ l. l ++ said_by r (m.msg ∷ heard i w.progress.entries)) none ∙ ap (λ (z : Role). said_by z (m.msg ∷ heard i w.progress.entries)) is
    ∙ ap (λ q. says w.config w.work q (m.msg ∷ heard q w.progress.entries)) (sym to)

-- one more entry, at the end of the history
pub history_is : (history new : List Entry) (m : Mail) (place : ℕ) → new ≡ history ++ entry_of place m ∷ [] → place ≡ length history → reverse new ≡ entry_of (length (reverse history)) m ∷ reverse history
history_is history new m place e at =
    ap reverse e ∙ reverse-append history (entry_of place m ∷ []) ∙ ap (λ n. entry_of n m ∷ reverse history) (at ∙ sym (length-reverse history))

-- after a delivery it is a run, and each node stands for what it has handled
pub after : {S : Type 0} (role : S → Role) (stands : S → List Msg → Type 0) (protocol : Protocol) (nodes : List S) (w : Seen) (running : IsRunning protocol w) (has : HasNodes role stands nodes w)
    (k i : ℕ) (m : Mail) (s new : S) (p : Progress) → slice_get w.progress.flight k ≡ Some m → m.to ≡ i → slice_get nodes i ≡ Some s → role new ≡ role s → stands new (m.msg ∷ heard i w.progress.entries)
    → p ≡ deliver (says w.config w.work) k w.progress
    → IsRunning protocol (record { config = w.config; work = w.work; progress = p }) × HasNodes role stands (slice_set nodes i new) (record { config = w.config; work = w.work; progress = p })
after role stands protocol nodes w running has k i m s new p at to here same stand is =
    let step : deliver (says w.config w.work) k w.progress ≡ delivered (says w.config w.work) k w.progress (Some m) = ap (delivered (says w.config w.work) k w.progress) at in (
      record {
        ranges = running.ranges;
        valid = running.valid;
        of_protocol = running.of_protocol;
        run = subst (λ (q : Progress). IsRun w.config w.work q.entries q.flight) (sym is) (deliver_run w.config w.work running.ranges running.valid k w.progress running.run);
      },
      subst (λ (q : Progress). HasNodes role stands (slice_set nodes i new) (record { config = w.config; work = w.work; progress = q })) (sym (is ∙ step))
          (nodes_more role stands nodes w has i s new here same m (length w.progress.entries) (delivered (says w.config w.work) k w.progress (Some m)).flight to stand),
    )

-- and there is one
pub lands_at : {S : Type 0} (role : S → Role) (stands : S → List Msg → Type 0) (protocol : Protocol)
    (lands : (c : Config) (w : Workload) (H : List Entry) (flight : List Mail) (x : Mail) → c.protocol ≡ protocol → IsConfig c → IsValid w → IsRun c w H flight → IsIn x flight → x.to < c.parts)
    (nodes : List S) (w : Seen) (running : IsRunning protocol w) (has : HasNodes role stands nodes w) (k i : ℕ) (m : Mail)
    → slice_get w.progress.flight k ≡ Some m → m.to ≡ i → i < length nodes
lands_at role stands protocol lands nodes w running has k i m at to =
    let land = lands w.config w.work w.progress.entries w.progress.flight m running.of_protocol running.ranges running.valid running.run (in_at w.progress.flight k m at) in
    let count = has.count in
    omega (arith, land, count, to)

-- what stands where after one was put at the end
pub push_cases : {A : Type 0} (xs : List A) (y s : A) (p : ℕ) → slice_get (xs ++ y ∷ []) p ≡ Some s → ((p ≡ length xs) × (s ≡ y)) ⊎ (slice_get xs p ≡ Some s)
push_cases [] y s zero e = let is : y ≡ s = cc in inl (refl, sym is)
push_cases [] y s (suc p) e = cc (e)
push_cases (x ∷ xs) y s zero e = inr e
push_cases (x ∷ xs) y s (suc p) e = ⊎_elim (λ h. let at = h.0 in inl (omega (arith, at), h.1)) (λ h. inr h) (push_cases xs y s p e)

-- one more node that has handled nothing
pub one_node : {S : Type 0} (role : S → Role) (stands : S → List Msg → Type 0) (of : ℕ → Role) (nodes new : List S) (y : S) (n : ℕ)
    → ((p : ℕ) (s : S) → slice_get nodes p ≡ Some s → (role s ≡ of p) × stands s []) → length nodes ≡ n → new ≡ nodes ++ y ∷ [] → role y ≡ of n → stands y []
    → (p : ℕ) (s : S) → slice_get new p ≡ Some s → (role s ≡ of p) × stands s []
one_node role stands of nodes new y n each len is part stand p s e =
    ⊎_elim
    (λ h. (ap role h.1 ∙ part ∙ ap of (sym (h.0 ∙ len)), subst (λ z. stands z []) (sym h.1) stand))
    (λ h. each p s h)
    (push_cases nodes y s p (ap (λ l. slice_get l p) (sym is) ∙ e))

pub none_at : {A : Type 0} (p : ℕ) (s : A) {o : Option A} → o ≡ slice_get [] p → o ≡ Some s → ⊥
none_at p s e f = cc (e, f)
