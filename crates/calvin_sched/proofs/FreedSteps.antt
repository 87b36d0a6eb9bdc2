-- The number of an id, the transactions that take part, and the numbers of those that become ready.
use Rattle.std.proofs.Common.{◌≡◌, ◌<◌, ◌+◌, ◌-◌, ℕ, zero, suc, List, [], ◌∷◌, ◌++◌, length, map, filter, take, get_or, slice_get, Bool, true, false, cond, not, ◌&&◌, ◌||◌, ◌==◌, eqb, Some, refl, sym, ap, ◌∙◌, subst, inl, inr, ⊎_elim, arith}
use Rattle.std.specs.BTreeSet.{insert_key}
use Rattle.std.specs.List.{list_any, flat_map}
use Rattle.std.proofs.lemmas.Bool.Decides.{nat_tests}
use Rattle.std.proofs.lemmas.Grind.{common_steps}
use Rattle.std.proofs.lemmas.List.{get_or-map}
use Rattle.std.proofs.lemmas.Option.{get_or_from_slice_get, slice_get_within}
use Rattle.deneva_base.specs.Keys.{id_eq, number_cmp}
use Rattle.deneva_base.specs.Lists.{IsIn}
use Rattle.deneva_base.specs.Modes.{writes}
use Rattle.deneva_base.specs.Partitions.{partition_of}
use Rattle.deneva_base.specs.declared.keys.Access.{Access}
use Rattle.deneva_base.specs.declared.keys.Key.{Key}
use Rattle.deneva_base.specs.declared.numbers.Number.{Number}
use Rattle.deneva_base.specs.declared.numbers.TxnId.{TxnId}
use Rattle.deneva_base.proofs.Membership.{in_map_from, filter_in}
use Rattle.txn_program.specs.Serial.{all_ids, ids_from}
use Rattle.txn_program.specs.declared.programs.Program.{Program}
use Rattle.txn_program.specs.declared.programs.Workload.{Workload}
use Rattle.txn_program.proofs.Ids.{id_between, id_for_each}
use Rattle.server_core.specs.GlobalOrder.{number}
use Rattle.server_core.specs.CalvinScheduler.{participates}
use Rattle.server_core.specs.Setting.{Setting}
use Rattle.server_core.proofs.lists.ListTests.{flat_in}
use Rattle.server_core.specs.Roles.{setting_of, accesses_at}
use Rattle.server_core.specs.declared.role.Role.{Role}
use Rattle.calvin_sched.specs.Asked.{all_free}
use Rattle.calvin_sched.specs.Freed.{freed_on, freed_by, put_numbers}
use Rattle.calvin_sched.specs.Known.{AreKnown}
use Rattle.calvin_sched.specs.Queues.{heads}
use Rattle.calvin_sched.specs.Tables.{queue_at}
use Rattle.calvin_sched.specs.declared.locks.LockTable.{LockTable}
use Rattle.calvin_sched.specs.declared.requests.Request.{Request}
use Rattle.calvin_sched.proofs.Numbers.{put_cases}

from_at : (n k : ℕ) (ps : List Program) → k < length ps → slice_get (ids_from n ps) k ≡ Some (record { 0 = n + k })
from_at n k [] h = absurd (omega (arith, h))
from_at n zero (p ∷ ps) h = let e : n + 0 ≡ n = omega arith in rw e refl
from_at n (suc k) (p ∷ ps) h =
    let e : n + suc k ≡ n + 1 + k = omega arith in
    from_at (n + 1) k ps (omega (arith, h)) ∙ ap {A = ℕ} (λ i. Some (record { 0 = i })) (sym e)

-- an id stands at its place
pub id_at : (w : Workload) (x : TxnId) → IsIn x (all_ids w) → slice_get (all_ids w) (x.0 - 1) ≡ Some x
id_at w x i =
    let b = id_between w x i in
    let e : 1 + (x.0 - 1) ≡ x.0 = omega (arith, b.0) in
    from_at 1 (x.0 - 1) w.programs (omega (arith, b.0, b.1, id_for_each w)) ∙ ap {A = ℕ} (λ k. Some (record { 0 = k })) e

-- what stands at the place of an id is its own
pub own_at : {A : Type 0} (w : Workload) (f : TxnId → A) (ns : List A) (x : TxnId) (n : A) → ns ≡ map f (all_ids w) → IsIn x (all_ids w) → n ≡ get_or ns (x.0 - 1) n → n ≡ f x
own_at w f ns x n e i at =
    let b = id_between w x i in
    at
    ∙ ap (λ l. get_or l (x.0 - 1) n) e
    ∙ get_or-map f (all_ids w) (x.0 - 1) x n (omega (arith, b.0, b.1))
    ∙ ap f (get_or_from_slice_get (all_ids w) (x.0 - 1) x x (id_at w x i))

-- what stands in a list is one of it

pub in_at : {A : Type 0} (i : ℕ) (xs : List A) (d : A) → i < length xs → IsIn (get_or xs i d) xs
in_at i [] d h = absurd (omega (arith, h))
in_at zero (x ∷ xs) d h = inl refl
in_at (suc i) (x ∷ xs) d h = inr (in_at i xs d (omega (arith, h)))

pub in_place : {A : Type 0} (xs : List A) (i : ℕ) (x : A) → slice_get xs i ≡ Some x → IsIn x xs
in_place xs i x e =
    subst (λ y. IsIn y xs) (get_or_from_slice_get xs i x x e) (in_at i xs x (slice_get_within xs i x e))

-- none passes a test where those that pass it are none
pub any_or_none : {A : Type 0} (f : A → Bool) (xs : List A) → list_any f xs ≡ not (length (filter f xs) == 0)
any_or_none f [] = refl
any_or_none f (x ∷ xs) = go (f x) (any_or_none f xs)
  where
    go : (b : Bool) → list_any f xs ≡ not (length (filter f xs) == 0) → (b || list_any f xs) ≡ not (length (cond b (x ∷ filter f xs) (filter f xs)) == 0)
    go true e = grind (arith, nat_tests)
    go false e = e

-- a transaction takes part where it has accesses
pub takes : (s : Setting) (p : ℕ) (x : TxnId) (l : List Access) (b : Bool) → l ≡ accesses_at s p x → b ≡ (length l == 0) → participates s x p ≡ not b
takes s p x l b e f = any_or_none (λ (a : Access). eqb (partition_of a.key s.parts) p) (s.accesses x) ∙ ap not (ap (λ k. length k == 0) (sym e) ∙ sym f)

-- the numbers that a queue frees
abbrev pub freed_from : Setting → ℕ → (Key → List Request) → TxnId → Access → List Request → List Number
freed_from s p queue ended a rs = map (λ (r : Request). number s r.id) (filter (λ (r : Request). (r.writes || writes a.mode) && all_free s p queue r.id (Some ended)) (heads ended rs))

-- one more list at the end
flat_map_next : {A B : Type 0} (f : A → List B) (xs : List A) (i : ℕ) (d : A) → i < length xs → flat_map f (take (i + 1) xs) ≡ flat_map f (take i xs) ++ f (get_or xs i d)
flat_map_next f xs i d h = grind (arith, common_steps)

-- numbers are put one list after another
pub put-append : (ns as' bs : List Number) → put_numbers ns (as' ++ bs) ≡ put_numbers (put_numbers ns as') bs
put-append ns [] bs = refl
put-append ns (a ∷ as') bs = put-append (insert_key number_cmp ns a) as' bs

-- and those of one more element at the end
pub put_more : {A : Type 0} (f : A → List Number) (ns : List Number) (xs : List A) (i : ℕ) (d : A) (old new : List Number) → i < length xs → old ≡ put_numbers ns (flat_map f (take i xs)) → new ≡ put_numbers old (f (get_or xs i d)) → new ≡ put_numbers ns (flat_map f (take (i + 1) xs))
put_more f ns xs i d old new h e g =
    g
    ∙ ap (λ o. put_numbers o (f (get_or xs i d))) e
    ∙ sym (put-append ns (flat_map f (take i xs)) (f (get_or xs i d)))
    ∙ ap (put_numbers ns) (sym (flat_map_next f xs i d h))

-- the first requests are requests of the queue
heads_in : (ended : TxnId) (r : Request) (rs : List Request) → IsIn r (heads ended rs) → IsIn r rs
heads_in ended r [] i = i
heads_in ended r (q ∷ rs) i = go (id_eq q.id ended) q.writes (λ j. heads_in ended r rs j) i
  where
    go : (b w : Bool) → (IsIn r (heads ended rs) → IsIn r rs) → IsIn r (cond b (heads ended rs) (q ∷ cond w [] (heads ended rs))) → IsIn r (q ∷ rs)
    go true w next j = inr (next j)
    go false true next j = ⊎_elim (λ e. inl e) (λ a. absurd a) j
    go false false next j = ⊎_elim (λ e. inl e) (λ a. inr (next a)) j

-- those that become ready are transactions of the workload
pub freed_known : (a : Role) (locks : LockTable) (ended : TxnId) (accesses : List Access) (n : Number) → AreKnown a locks → IsIn n (put_numbers [] (freed_by (setting_of a) a.part (queue_at locks) ended accesses)) → IsIn n.id (all_ids a.work.now)
freed_known a locks ended accesses n known i =
    let new : IsIn n (freed_by (setting_of a) a.part (queue_at locks) ended accesses) = ⊎_elim (λ z. absurd z) (λ y. y) (put_cases n [] (freed_by (setting_of a) a.part (queue_at locks) ended accesses) i) in
    let at = flat_in (freed_on (setting_of a) a.part (queue_at locks) ended) n accesses new in
    let queue : List Request = queue_at locks at.0.key in
    let test : Request → Bool = λ (r : Request). (r.writes || writes at.0.mode) && all_free (setting_of a) a.part (queue_at locks) r.id (Some ended) in
    let m = in_map_from (λ (r : Request). number (setting_of a) r.id) n (filter test (heads ended queue)) at.2 in
    let there : IsIn m.0 queue = heads_in ended m.0 queue (filter_in test m.0 (heads ended queue) m.1).0 in
    subst (λ (x : TxnId). IsIn x (all_ids a.work.now)) (sym (ap (λ (k : Number). k.id) m.2)) (known at.0.key m.0 there)
