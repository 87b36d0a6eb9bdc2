-- Transactions by their ids, and entries one after another.
use Rattle.std.proofs.Common.{◌≡◌, ℕ, zero, suc, ◌+◌, ◌<◌, List, [], ◌∷◌, ◌++◌, length, get_or, map, reverse, take, Bool, true, false, cond, eqb, refl, sym, ap, ◌∙◌, arith}
use Rattle.std.specs.List.{filter}
use Rattle.std.proofs.lemmas.List.{append-nil, map-append, reverse-append, take_more}
use Rattle.std.proofs.lemmas.List.Elements.{filter-append}
use Rattle.deneva_base.specs.Lists.{IsIn}
use Rattle.deneva_base.specs.declared.numbers.TxnId.{TxnId}
use Rattle.txn_program.specs.Serial.{ids_from, all_ids}
use Rattle.txn_program.specs.declared.programs.Program.{Program}
use Rattle.txn_program.specs.declared.programs.Workload.{Workload}
use Rattle.txn_program.proofs.Ids.{id_for_each, id_from_between}
use Rattle.server_core.specs.Runs.{heard}
use Rattle.server_core.specs.declared.messages.Entry.{Entry}
use Rattle.run_outcomes.specs.Naming.{is_about, entries_of}

-- the id at a place
from_at : (n : ℕ) (ps : List Program) (k : ℕ) (d : TxnId) → k < length ps → get_or (ids_from n ps) k d ≡ record { 0 = n + k }
from_at n [] k d less = absurd (omega (arith, less))
from_at n (p ∷ ps) zero d less = ap (λ (i : ℕ). record { 0 = i }) (omega arith)
from_at n (p ∷ ps) (suc k) d less = from_at (n + 1) ps k d (omega (arith, less)) ∙ ap (λ (i : ℕ). record { 0 = i }) (omega arith)

module _ (work : Workload) where
  module _ (k : ℕ) (less : k < length work.programs) where
    abbrev it : TxnId
    it = record { 0 = k + 1 }

    pub id_at : get_or (all_ids work) k it ≡ it
    id_at = from_at 1 work.programs k it less ∙ ap (λ (i : ℕ). record { 0 = i }) (omega arith)

    within : k < length (all_ids work)
    within = omega (arith, less, id_for_each work)

    pub id_there : IsIn it (all_ids work)
    id_there = id_from_between work it (omega arith) (omega (arith, less))

    pub ids_more : take (k + 1) (all_ids work) ≡ take k (all_ids work) ++ it ∷ []
    ids_more = take_more (all_ids work) k it within ∙ ap (λ (i : TxnId). take k (all_ids work) ++ i ∷ []) id_at

heard-append : (p : ℕ) (H K : List Entry) → heard p (H ++ K) ≡ heard p H ++ heard p K
heard-append p [] K = refl
heard-append p (e ∷ H) K = go (eqb e.node p) (heard-append p H K)
  where
    go : (b : Bool) → heard p (H ++ K) ≡ heard p H ++ heard p K → cond b (e.msg ∷ heard p (H ++ K)) (heard p (H ++ K)) ≡ cond b (e.msg ∷ heard p H) (heard p H) ++ heard p K
    go true h = ap (λ l. e.msg ∷ l) h
    go false h = h

pub heard_more : (p : ℕ) (H : List Entry) (e : Entry) → heard p (H ++ e ∷ []) ≡ heard p H ++ cond (eqb e.node p) (e.msg ∷ []) []
heard_more p H e = heard-append p H (e ∷ [])

pub entries_reversed : (x : TxnId) (H : List Entry) → reverse (entries_of x H) ≡ entries_of x (reverse H)
entries_reversed x H = filter_reversed (λ e. is_about x e.msg) H
  where
    filter_reversed : {A : Type 0} (p : A → Bool) (xs : List A) → reverse (filter p xs) ≡ filter p (reverse xs)
    filter_reversed p [] = refl
    filter_reversed p (a ∷ xs) =
        go (p a) refl (filter_reversed p xs)
        ∙ sym (filter-append p (reverse xs) (a ∷ []))
        ∙ ap (filter p) (sym (reverse-append (a ∷ []) xs))
      where
        go : (b : Bool) → p a ≡ b → reverse (filter p xs) ≡ filter p (reverse xs) → reverse (cond b (a ∷ filter p xs) (filter p xs)) ≡ filter p (reverse xs) ++ filter p (a ∷ [])
        go true e h = reverse-append (a ∷ []) (filter p xs) ∙ ap (λ l. l ++ a ∷ []) h ∙ ap (λ b. filter p (reverse xs) ++ cond b (a ∷ []) []) (sym e)
        go false e h = h ∙ sym (append-nil (filter p (reverse xs))) ∙ ap (λ b. filter p (reverse xs) ++ cond b (a ∷ []) []) (sym e)

pub map-reverse : {A B : Type 0} (f : A → B) (xs : List A) → map f (reverse xs) ≡ reverse (map f xs)
map-reverse f [] = refl
map-reverse f (x ∷ xs) =
    ap (map f) (reverse-append (x ∷ []) xs) ∙ map-append f (reverse xs) (x ∷ []) ∙ ap (λ l. l ++ f x ∷ []) (map-reverse f xs) ∙ sym (reverse-append (f x ∷ []) (map f xs))
