-- A change at one key of the table of locks, and one step of the loops over it.
use Rattle.std.proofs.Common.{◌≡◌, ◌≢◌, ◌⊎◌, ℕ, suc, ◌+◌, ◌<◌, ◌≤◌, List, [], ◌∷◌, ◌++◌, take, drop, length, get_or, Bool, true, false, cond, Some, refl, sym, ap, ⊎_elim, ◌∙◌, arith, append_assoc, append-nil}
use Rattle.std.specs.Map.{lookup}
use Rattle.std.proofs.Math.Seq.{drop-cons}
use Rattle.std.proofs.lemmas.List.{take_more, drop_more, take-append-drop, length-append}
use Rattle.std.proofs.lemmas.List.Elements.{filter_more, filter-append}
use Rattle.deneva_base.specs.Keys.{key_eq}
use Rattle.deneva_base.specs.declared.keys.Key.{Key}
use Rattle.deneva_base.specs.declared.keys.Access.{Access}
use Rattle.deneva_base.specs.declared.numbers.TxnId.{TxnId}
use Rattle.deneva_base.proofs.Membership.{key_tells}
use Rattle.row_store.proofs.Tables.{same_key-key_eq}
use Rattle.calvin_sched.specs.Queues.{for_key, without_first, left_by}
use Rattle.calvin_sched.specs.Tables.{same_key, queue_in, queue_at, SetsQueue}
use Rattle.calvin_sched.specs.declared.locks.LockTable.{LockTable}
use Rattle.calvin_sched.specs.declared.requests.Queue.{Queue}
use Rattle.calvin_sched.specs.declared.requests.Request.{Request}

pub same_tells : (a b : Key) → ((same_key a b ≡ true) × (a ≡ b)) ⊎ ((same_key a b ≡ false) × (a ≢ b))
same_tells a b = rw (same_key-key_eq a b) (key_tells a b)

-- a table that has this at the key
pub set_queue : (es fs : List (Key × Queue)) (key : Key) (new : Queue) → ((other : Key) → lookup (same_key other) fs ≡ cond (same_key key other) (Some new) (lookup (same_key other) es)) → (other : Key) → queue_in (lookup (same_key other) fs) ≡ cond (same_key key other) new.requests.items (queue_in (lookup (same_key other) es))
set_queue es fs key new h other = ap queue_in (h other) ∙ go (same_key key other)
  where
    go : (b : Bool) → queue_in (cond b (Some new) (lookup (same_key other) es)) ≡ cond b new.requests.items (queue_in (lookup (same_key other) es))
    go true = refl
    go false = refl

-- or has what it had
pub keep_queue : (es fs : List (Key × Queue)) (key : Key) (new : Queue) → new.requests.items ≡ queue_in (lookup (same_key key) es) → ((other : Key) → lookup (same_key other) fs ≡ cond (same_key key other) (Some new) (lookup (same_key other) es)) → (other : Key) → queue_in (lookup (same_key other) fs) ≡ queue_in (lookup (same_key other) es)
keep_queue es fs key new is h other = set_queue es fs key new h other ∙ ⊎_elim (λ t. rw t.0 (is ∙ ap (λ k. queue_in (lookup (same_key k) es)) t.1)) (λ f. rw f.0 refl) (same_tells key other)

-- the next access is gone through
pub leave_step : (id : TxnId) (xs : List Access) (i : ℕ) (d : Access) (L : Key → List Request) (other : Key) (l : List Request) → i < length xs → l ≡ cond (same_key (get_or xs i d).key other) (without_first id (L (get_or xs i d).key)) (L other) → left_by id (drop (i + 1) xs) other l ≡ left_by id (drop i xs) other (L other)
leave_step id xs i d L other l less e =
    let next : i + 1 ≡ suc i = omega arith in
    rw next (ap (λ x. left_by id (drop (suc i) xs) other x) (e ∙ here) ∙ sym (ap (λ x. left_by id x other (L other)) (drop-cons xs i d less)))
  where
    here : cond (same_key (get_or xs i d).key other) (without_first id (L (get_or xs i d).key)) (L other) ≡ cond (key_eq (get_or xs i d).key other) (without_first id (L other)) (L other)
    here = rw (same_key-key_eq (get_or xs i d).key other) (⊎_elim (λ t. ap (λ x. cond (key_eq (get_or xs i d).key other) (without_first id (L x)) (L other)) t.1) (λ f. rw f.0 refl) (key_tells (get_or xs i d).key other))

-- the next request is put at the end of its queue
pub ask_step : (asked : List Request) (i : ℕ) (d : Request) (L M : Key → List Request) (other : Key) (l : List Request) → i < length asked → ((key : Key) → M key ≡ L key ++ for_key key (take i asked)) → l ≡ cond (same_key (get_or asked i d).key other) (M (get_or asked i d).key ++ get_or asked i d ∷ []) (M other) → l ≡ L other ++ for_key other (take (i + 1) asked)
ask_step asked i d L M other l less h e =
    e ∙ ⊎_elim
    (λ t. rw t.0 (ap (λ k. M k ++ r ∷ []) t.1 ∙ ap (λ x. x ++ r ∷ []) (h other) ∙ append_assoc (L other) (for_key other (take i asked)) (r ∷ []) ∙ ap (λ x. L other ++ x) (sym (more true (sym (same_key-key_eq r.key other) ∙ t.0)))))
    (λ f. rw f.0 (h other ∙ ap (λ x. L other ++ x) (sym (append-nil (for_key other (take i asked))) ∙ sym (more false (sym (same_key-key_eq r.key other) ∙ f.0)))))
    (same_tells r.key other)
  where
    r : Request
    r = get_or asked i d

    more : (b : Bool) → key_eq r.key other ≡ b → for_key other (take (i + 1) asked) ≡ for_key other (take i asked) ++ cond b (r ∷ []) []
    more b is = filter_more (λ x. key_eq x.key other) asked i d less ∙ ap (λ b. for_key other (take i asked) ++ cond b (r ∷ []) []) is

-- no more of the requests that are left are for a key
for_key_rest : (key : Key) (i : ℕ) (rs : List Request) → length (for_key key (drop i rs)) ≤ length (for_key key rs)
for_key_rest key i rs =
    let all : for_key key (take i rs ++ drop i rs) ≡ for_key key rs = ap (for_key key) (take-append-drop i rs) in
    let parts = ap length (filter-append (λ r. key_eq r.key key) (take i rs) (drop i rs)) in
    let sum = length-append (for_key key (take i rs)) (for_key key (drop i rs)) in
    omega (arith, ap length all, parts, sum)

key_refl : (k : Key) → key_eq k k ≡ true
key_refl k = ⊎_elim (λ t. t.0) (λ f. absurd (f.1 refl)) (key_tells k k)

-- the request that is taken back is the last of its queue
pub take_back_step : (asked : List Request) (i : ℕ) (d : Request) (before : Key → List Request) (old new : LockTable) → i < length asked → ((key : Key) → queue_at old key ≡ before key ++ take (length (for_key key (drop i asked))) (for_key key asked)) → ((rest : List Request) (last : Request) → queue_at old (get_or asked i d).key ≡ rest ++ last ∷ [] → SetsQueue old (get_or asked i d).key rest new) → (key : Key) → queue_at new key ≡ before key ++ take (length (for_key key (drop (i + 1) asked))) (for_key key asked)
take_back_step asked i d before old new less h e other =
    set ∙ ⊎_elim (λ t. rw t.0 (same t.1)) (λ f. rw f.0 (h other ∙ ap (λ n. before other ++ take (length n) (for_key other asked)) (rest other false (sym (same_key-key_eq r.key other) ∙ f.0)))) (same_tells r.key other)
  where
    r : Request
    r = get_or asked i d

    m : ℕ
    m = length (for_key r.key (drop (i + 1) asked))

    rest : (key : Key) (b : Bool) → key_eq r.key key ≡ b → for_key key (drop i asked) ≡ cond b (r ∷ for_key key (drop (i + 1) asked)) (for_key key (drop (i + 1) asked))
    rest key b is = ap (for_key key) (drop_more asked i d less) ∙ ap (λ b. cond b (r ∷ for_key key (drop (i + 1) asked)) (for_key key (drop (i + 1) asked))) is

    count : length (for_key r.key (drop i asked)) ≡ m + 1
    count = let e : length (for_key r.key (drop i asked)) ≡ suc m = ap length (rest r.key true (key_refl r.key)) in omega (arith, e)

    less_m : m < length (for_key r.key asked)
    less_m = let n = for_key_rest r.key i asked in omega (arith, n, count)

    last : Request
    last = get_or (for_key r.key asked) m d

    front : queue_at old r.key ≡ (before r.key ++ take m (for_key r.key asked)) ++ last ∷ []
    front = h r.key ∙ ap (λ n. before r.key ++ take n (for_key r.key asked)) count ∙ ap (λ x. before r.key ++ x) (take_more (for_key r.key asked) m d less_m) ∙ sym (append_assoc (before r.key) (take m (for_key r.key asked)) (last ∷ []))

    set : queue_at new other ≡ cond (same_key r.key other) (before r.key ++ take m (for_key r.key asked)) (queue_at old other)
    set = e (before r.key ++ take m (for_key r.key asked)) last front other

    same : r.key ≡ other → before r.key ++ take m (for_key r.key asked) ≡ before other ++ take (length (for_key other (drop (i + 1) asked))) (for_key other asked)
    same is = ap (λ k. before k ++ take (length (for_key k (drop (i + 1) asked))) (for_key k asked)) is
