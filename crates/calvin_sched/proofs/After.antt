-- What a node keeps and reads after Rows.
use Rattle.std.proofs.Common.{◌≡◌, ◌≤◌, ℕ, List, [], ◌∷◌, ◌++◌, map, filter, Bool, true, false, cond, ◌&&◌, not, eqb, Option, Some, None, refl, sym, ap, ◌∙◌, subst, inl, inr, arith}
use Rattle.std.specs.Prelude.{option_map}
use Rattle.std.specs.List.{flat_map}
use Rattle.std.proofs.lemmas.Grind.{flat_map-append}
use Rattle.deneva_base.specs.declared.config.Config.{Config}
use Rattle.deneva_base.specs.declared.keys.Access.{Access}
use Rattle.deneva_base.specs.declared.keys.Key.{Key}
use Rattle.deneva_base.specs.declared.numbers.Number.{Number}
use Rattle.deneva_base.specs.declared.numbers.TxnId.{TxnId}
use Rattle.deneva_base.specs.declared.rows.Keyed.{Keyed}
use Rattle.deneva_base.specs.Keys.{key_eq}
use Rattle.deneva_base.specs.Lists.{IsIn}
use Rattle.deneva_base.specs.Modes.{reads}
use Rattle.deneva_base.specs.Partitions.{partition_of}
use Rattle.deneva_base.specs.Rows.{Row, row_of, row_or_empty}
use Rattle.deneva_base.proofs.Membership.{filter_in, in_map_from}
use Rattle.txn_program.specs.Transactions.{reading}
use Rattle.txn_program.specs.Valid.{IsValid}
use Rattle.txn_program.specs.declared.programs.Workload.{Workload}
use Rattle.row_store.specs.Stores.{Seen, row_in, version_at}
use Rattle.row_store.specs.declared.versions.Version.{Version}
use Rattle.server_core.specs.ActiveList.{active}
use Rattle.server_core.specs.Calvin.{says, became_ready, rows_mails, finished_mail, ready_mails}
use Rattle.server_core.specs.CalvinFits.{Suits, AllFit}
use Rattle.server_core.specs.CalvinProper.{Valid}
use Rattle.server_core.specs.Configs.{IsConfig}
use Rattle.server_core.specs.Coordinator.{to_all}
use Rattle.server_core.specs.GlobalOrder.{slots, batch, order, number}
use Rattle.server_core.specs.CalvinScheduler.{participates, reading_at, has_batch, as_far, taken, is_finished, is_ready, applied, now}
use Rattle.server_core.specs.Proper.{ids_in}
use Rattle.server_core.specs.Setting.{Setting, setting, participants_for}
use Rattle.server_core.specs.declared.messages.Msg.{Msg}
use Rattle.server_core.specs.declared.messages.Msg.TheVariants.{Rows}
use Rattle.calvin_laws.proofs.node.ActiveLists.{active_finish, active_same}
use Rattle.server_core.proofs.configured.CalvinSettings as calvin
use Rattle.server_core.proofs.lists.ListTests.{not_both, not_true, flat_in}
use Rattle.calvin_laws.proofs.order.Nodes.{number_is, as_far_in}
use Rattle.calvin_laws.proofs.node.Steps.{owned, rows_news}
use Rattle.calvin_laws.proofs.order.Orders.{order_once, order_in, ids-append, ids_filtered}
use Rattle.calvin_laws.proofs.node.StoredRows.{now_finish}
use Rattle.calvin_laws.proofs.order.TakenBatches.{as_far_splits}
use Rattle.server_core.specs.Roles.{setting_of, accesses_at}
use Rattle.server_core.specs.declared.role.Role.{Role}
use Rattle.calvin_sched.specs.Asked.{asked, requests_of, request_of}
use Rattle.calvin_sched.specs.Freed.{freed_by, put_numbers}
use Rattle.calvin_sched.specs.Queues.{for_key, left_by}
use Rattle.calvin_sched.specs.Reading.{first_of, row_after, mails_after}
use Rattle.calvin_sched.specs.Standing.{HasBatches, HasLocks, HasVersions}
use Rattle.calvin_sched.specs.Tables.{queue_at}
use Rattle.calvin_sched.specs.Versions.{offered, version}
use Rattle.calvin_sched.specs.declared.batches.Batches.{Batches}
use Rattle.calvin_sched.specs.declared.locks.LockTable.{LockTable}
use Rattle.calvin_sched.specs.declared.requests.Request.{Request}
use Rattle.calvin_sched.proofs.Asked.{left_is_asked}
use Rattle.calvin_sched.proofs.Coming.{unfinished}
use Rattle.calvin_sched.proofs.Finishing.{ready_are}
use Rattle.calvin_sched.proofs.Versions.{over, put_distinct, applied_distinct, versions_are_rows, version_finish, version_same, elsewhere}

filter_swap : {A : Type 0} (f g : A → Bool) (xs : List A) → filter f (filter g xs) ≡ filter g (filter f xs)
filter_swap f g [] = refl
filter_swap {A} f g (x ∷ xs) = go (f x) refl (g x) refl (filter_swap f g xs)
  where
    go : (a : Bool) → f x ≡ a → (b : Bool) → g x ≡ b → filter f (filter g xs) ≡ filter g (filter f xs) → filter f (cond b (x ∷ filter g xs) (filter g xs)) ≡ filter g (cond a (x ∷ filter f xs) (filter f xs))
    go true e true h next = rw (e, h) (ap (λ l. x ∷ l) next)
    go true e false h next = rw h next
    go false e true h next = rw e next
    go false e false h next = next

-- what a node knows of its run
pub valid_at : (a : Role) → Valid (setting_of a)
valid_at a = calvin.valid a.config a.work.now a.valid a.ranges

nothing_in : {A : Type 0} (xs : List A) → ((x : A) → IsIn x xs → ⊥) → xs ≡ []
nothing_in [] h = refl
nothing_in (x ∷ xs) h = absurd (h x (inl refl))

over_first : (a b : Option Row) → first_of a b ≡ over a b
over_first None b = refl
over_first (Some row) b = refl

module _ (s : Setting) (v : Valid s) (p : ℕ) (ms : List Msg) where
  -- no transaction is active twice
  active_once : (x : TxnId) → ids_in x (active s p ms) ≤ 1
  active_once x =
      let sp = as_far_splits (has_batch ms) (slots s) in
      let more : List TxnId = flat_map (batch s) sp.0 in
      let whole : order s ≡ taken s ms ++ more = ap (flat_map (batch s)) sp.1 ∙ flat_map-append (batch s) (as_far (has_batch ms) (slots s)) sp.0 in
      omega (arith, ids_filtered x (λ y. participates s y p && not (is_finished s ms y)) (taken s ms), order_once s v x, ap (ids_in x) whole, ids-append x (taken s ms) more)

  -- each request is of a transaction of the workload
  pub known : (locks : LockTable) → HasLocks s p locks ms → (key : Key) (r : Request) → IsIn r (queue_at locks key) → IsIn r.id s.ids
  known locks has key r i =
      let f = filter_in (λ (k : Request). key_eq k.key key) r (asked s p (active s p ms)) (subst (λ l. IsIn r l) (has key) i) in
      let x = flat_in (requests_of s p) r (active s p ms) f.0 in
      let m = in_map_from (request_of x.0) r (accesses_at s p x.0) x.2 in
      let t = filter_in (λ y. participates s y p && not (is_finished s ms y)) x.0 (taken s ms) x.1 in
      subst (λ y. IsIn y s.ids) (sym (ap (λ (k : Request). k.id) m.2)) (order_in s x.0 (as_far_in s (has_batch ms) x.0 (slots s) t.0))

  module _ (fit : AllFit s p ms) (x : TxnId) (q : ℕ) (rows : List Keyed) (suits : Suits s p q (Rows x q rows) ms) where
    -- Rows bring no batch
    pub batches_kept : (b : Batches) → HasBatches s b ms → HasBatches s b (Rows x q rows ∷ ms)
    batches_kept b has = record { came = has.came; taken = has.taken }

    module _ (done : is_finished s (Rows x q rows ∷ ms) x ≡ true) where
      -- the one that finishes leaves the queues
      pub locks_left : (old new : LockTable) → HasLocks s p old ms → ((key : Key) → queue_at new key ≡ left_by x (accesses_at s p x) key (queue_at old key)) → HasLocks s p new (Rows x q rows ∷ ms)
      locks_left old new has leaves key =
          leaves key
          ∙ ap (λ l. left_by x (accesses_at s p x) key l) (has key)
          ∙ left_is_asked s p key x (active s p ms) (active_once x)
          ∙ sym (ap (λ l. for_key key (asked s p l)) (active_finish s v p x q rows ms done))

      -- what it leaves is offered at each key
      pub versions_offered : (old new : Seen) → HasVersions s p old ms → ((key : Key) → version_at new key ≡ offered (version_at old key) (number s x) (row_of (applied s p (Rows x q rows ∷ ms) x) key)) → HasVersions s p new (Rows x q rows ∷ ms)
      versions_offered old new has offers key = offers key ∙ ap (λ u. offered u (number s x) (row_of (applied s p (Rows x q rows ∷ ms) x) key)) (has key) ∙ go (eqb (partition_of key s.parts) p) refl
        where
          go : (b : Bool) → eqb (partition_of key s.parts) p ≡ b → offered (cond b (version s p ms key) None) (number s x) (row_of (applied s p (Rows x q rows ∷ ms) x) key) ≡ cond b (version s p (Rows x q rows ∷ ms) key) None
          go true e = sym (version_finish s p v x q rows ms key done (unfinished s p ms fit x q rows suits) suits.1)
          go false e = ap (λ r. offered None (number s x) r) (elsewhere s p (Rows x q rows ∷ ms) x key e)

    module _ (un : is_finished s (Rows x q rows ∷ ms) x ≡ false) where
      as_before : is_finished s (Rows x q rows ∷ ms) x ≡ is_finished s ms x
      as_before = un ∙ sym (unfinished s p ms fit x q rows suits)

      -- where it is not finished nothing is said
      pub says_nothing : says s p (Rows x q rows ∷ ms) ≡ []
      says_nothing =
          let none : became_ready s p (Rows x q rows) ms ≡ []
          = nothing_in (became_ready s p (Rows x q rows) ms)
          (λ z i.
          let f = filter_in (λ y. is_ready s p (Rows x q rows ∷ ms) y && not (is_ready s p ms y)) z (order s) i in
          let b = parts (is_ready s p (Rows x q rows ∷ ms) z) (is_ready s p ms z) f.1 in
          not_both (is_finished s (Rows x q rows ∷ ms) x) (rows_news s p x q rows ms z b.0 b.1).0 un)
          in
          ap (λ b. cond (b && not (is_finished s ms x)) (finished_mail s p x ∷ []) [] ++ ready_mails s p (Rows x q rows) ms) un ∙ ap (λ l. flat_map (rows_mails s p (Rows x q rows ∷ ms)) l) none
        where
          parts : (a b : Bool) → (a && not b) ≡ true → (a ≡ true) × (b ≡ false)
          parts true b e = (refl, not_true b e)
          parts false b e = absurd (not_both false e refl)

      pub locks_kept : (locks : LockTable) → HasLocks s p locks ms → HasLocks s p locks (Rows x q rows ∷ ms)
      locks_kept locks has key = has key ∙ sym (ap (λ l. for_key key (asked s p l)) (active_same s v p x q rows ms as_before))

      pub versions_kept : (store : Seen) → HasVersions s p store ms → HasVersions s p store (Rows x q rows ∷ ms)
      versions_kept store has key = has key ∙ sym (ap (λ u. cond (eqb (partition_of key s.parts) p) u None) (version_same s p x q rows ms key as_before un))

-- what is read after the one that finishes left its rows

module _ (c : Config) (w : Workload) (config : IsConfig c) (good : IsValid w) (p : ℕ) (ms : List Msg) (fit : AllFit (setting c w) p ms) (x : TxnId) (q : ℕ) (rows : List Keyed) (suits : Suits (setting c w) p q (Rows x q rows) ms) (done : is_finished (setting c w) (Rows x q rows ∷ ms) x ≡ true) (store : Seen) (has : HasVersions (setting c w) p store ms) where
  abbrev s : Setting
  s = setting c w

  abbrev left : List Keyed
  left = applied s p (Rows x q rows ∷ ms) x

  valid : Valid s
  valid = calvin.valid c w good config

  row_now : (z : TxnId) (a : Access) → IsIn z s.ids → IsIn a (s.accesses z) → eqb (partition_of a.key s.parts) p ≡ true → row_after (row_in store) left a.key ≡ now s p (Rows x q rows ∷ ms) a.key
  row_now z a iz ia at =
      ap (λ o. first_of (row_of left a.key) (option_map (λ (u : Version). u.row) o)) (has a.key ∙ ap (λ b. cond b (version s p ms a.key) None) at)
      ∙ ap (λ o. first_of (row_of left a.key) o) (versions_are_rows c w p ms a.key config good)
      ∙ over_first (row_of left a.key) (now s p ms a.key)
      ∙ sym (put_distinct (now s p ms) left a.key (applied_distinct c w p (Rows x q rows ∷ ms) a.key config good x))
      ∙ sym (now_finish s valid p ms (owned s p ms fit) x q rows done (unfinished s p ms fit x q rows suits) a.key z a suits.1 iz ia refl (number_is (partition_of a.key s.parts) p at))

  -- each reads what it reads after these messages
  pub mails_are : (z : TxnId) → IsIn z s.ids → mails_after s p (row_after (row_in store) left) z ≡ rows_mails s p (Rows x q rows ∷ ms) z
  mails_are z iz =
      ap (λ l. to_all p (Rows z p l) (participants_for s z))
      (ap (λ l. map {B = Keyed} (λ (a : Access). record { key = a.key; row = row_or_empty (row_after (row_in store) left a.key) }) l) (filter_swap (λ (a : Access). reads a.mode) (λ (a : Access). eqb (partition_of a.key s.parts) p) (s.accesses z))
      ∙ go (reading_at s p z) (λ a i. let f = filter_in (λ (b : Access). eqb (partition_of b.key s.parts) p) a (reading (s.accesses z)) i in row_now z a iz (filter_in (λ (b : Access). reads b.mode) a (s.accesses z) f.0).0 f.1))
    where
      go : (as' : List Access) → ((a : Access) → IsIn a as' → row_after (row_in store) left a.key ≡ now s p (Rows x q rows ∷ ms) a.key) → map {B = Keyed} (λ (a : Access). record { key = a.key; row = row_or_empty (row_after (row_in store) left a.key) }) as' ≡ map {B = Keyed} (λ (a : Access). record { key = a.key; row = row_or_empty (now s p (Rows x q rows ∷ ms) a.key) }) as'
      go [] h = refl
      go (a ∷ as') h =
          ap (λ r. record { key = a.key; row = row_or_empty r } ∷ map {B = Keyed} (λ (b : Access). record { key = b.key; row = row_or_empty (row_after (row_in store) left b.key) }) as') (h a (inl refl))
          ∙ ap (λ l. record { key = a.key; row = row_or_empty (now s p (Rows x q rows ∷ ms) a.key) } ∷ l) (go as' (λ b i. h b (inr i)))

  -- what is said where it is finished
  pub says_finish : (locks : LockTable) → HasLocks s p locks ms → says s p (Rows x q rows ∷ ms) ≡ finished_mail s p x ∷ flat_map (λ n. mails_after s p (row_after (row_in store) left) n.id) (put_numbers [] (freed_by s p (queue_at locks) x (accesses_at s p x)))
  says_finish locks queues =
      let un : is_finished s ms x ≡ false = unfinished s p ms fit x q rows suits in
      ap (λ b. cond (b && not (is_finished s ms x)) (finished_mail s p x ∷ []) [] ++ ready_mails s p (Rows x q rows) ms) done
      ∙ ap (λ b. cond (not b) (finished_mail s p x ∷ []) [] ++ ready_mails s p (Rows x q rows) ms) un
      ∙ ap (λ l. finished_mail s p x ∷ l)
      (same (became_ready s p (Rows x q rows) ms) (λ z i. order_in s z (filter_in (λ y. is_ready s p (Rows x q rows ∷ ms) y && not (is_ready s p ms y)) z (order s) i).0)
      ∙ ap (λ l. flat_map (mails_after s p (row_after (row_in store) left)) l) (ready_are s valid p ms fit x q rows suits done (queue_at locks) queues)
      ∙ of_ids (put_numbers [] (freed_by s p (queue_at locks) x (accesses_at s p x))))
    where
      same : (zs : List TxnId) → ((z : TxnId) → IsIn z zs → IsIn z s.ids) → flat_map (rows_mails s p (Rows x q rows ∷ ms)) zs ≡ flat_map (mails_after s p (row_after (row_in store) left)) zs
      same [] h = refl
      same (z ∷ zs) h = ap (λ l. l ++ flat_map (rows_mails s p (Rows x q rows ∷ ms)) zs) (sym (mails_are z (h z (inl refl)))) ∙ ap (λ l. mails_after s p (row_after (row_in store) left) z ++ l) (same zs (λ y i. h y (inr i)))

      of_ids : (ns : List Number) → flat_map (mails_after s p (row_after (row_in store) left)) (map (λ n. n.id) ns) ≡ flat_map (λ n. mails_after s p (row_after (row_in store) left) n.id) ns
      of_ids [] = refl
      of_ids (n ∷ ns) = ap (λ l. mails_after s p (row_after (row_in store) left) n.id ++ l) (of_ids ns)
