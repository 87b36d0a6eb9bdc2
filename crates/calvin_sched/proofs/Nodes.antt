-- What a node stands for, message by message.
use Rattle.std.proofs.Common.{◌≡◌, ℕ, ◌+◌, ◌*◌, ◌<◌, List, [], ◌∷◌, ◌++◌, length, map, filter, replicate, Bool, true, false, cond, ◌&&◌, not, eqb, Option, Some, None, refl, sym, ap, ap₂, ◌∙◌, subst}
use Rattle.std.specs.Prelude.{slice_set, option_map}
use Rattle.std.specs.List.{flat_map}
use Rattle.deneva_base.specs.Lists.{IsIn}
use Rattle.deneva_base.specs.Partitions.{partition_of}
use Rattle.deneva_base.specs.declared.config.Protocol.{Protocol}
use Rattle.deneva_base.specs.declared.keys.Key.{Key}
use Rattle.deneva_base.specs.declared.numbers.Number.{Number}
use Rattle.deneva_base.specs.declared.numbers.TxnId.{TxnId}
use Rattle.deneva_base.specs.declared.rows.Keyed.{Keyed}
use Rattle.row_store.specs.Stores.{Seen, version_at, loaded, row_in}
use Rattle.server_core.specs.ActiveList.{newly_taken, skip_while}
use Rattle.server_core.specs.Calvin.{says, became_ready}
use Rattle.server_core.specs.CalvinFits.{Suits, AllFit}
use Rattle.server_core.specs.CalvinProper.{Valid}
use Rattle.server_core.specs.Family.{Family}
use Rattle.server_core.specs.GlobalOrder.{slots, epochs, batch, number}
use Rattle.server_core.specs.CalvinScheduler.{participates, as_far, has_batch, is_finished}
use Rattle.server_core.specs.Roles.{FitsRole, said_by}
use Rattle.server_core.specs.Setting.{Setting, loaded_at}
use Rattle.server_core.specs.declared.messages.Msg.{Msg}
use Rattle.server_core.specs.declared.messages.Msg.TheVariants.{Tick, Batch, Rows, Finished}
use Rattle.server_core.proofs.configured.CalvinSettings as calvin
use Rattle.server_core.proofs.configured.Families.{family_orders}
use Rattle.server_core.proofs.lists.ListTests.{flat_in}
use Rattle.calvin_laws.proofs.order.Orders.{batch_in}
use Rattle.std.proofs.lemmas.List.{length-map}
use Rattle.server_core.specs.Roles.{role_of, setting_of}
use Rattle.calvin_sched.specs.Arrivals.{arrivals_at}
use Rattle.calvin_sched.specs.Asked.{asked, all_free}
use Rattle.calvin_sched.specs.Batches.{came, AreTaken, newly}
use Rattle.calvin_sched.specs.Queues.{for_key}
use Rattle.calvin_sched.specs.Reading.{mails_after}
use Rattle.calvin_sched.specs.Standing.{CalvinStands, HasBatches, HasLocks, HasArrivals, HasVersions, batch_if}
use Rattle.calvin_sched.specs.Tables.{queue_at}
use Rattle.calvin_sched.specs.Versions.{version}
use Rattle.calvin_sched.specs.declared.arrivals.Arrivals.{Arrivals}
use Rattle.calvin_sched.specs.declared.batches.Batches.{Batches}
use Rattle.calvin_sched.specs.declared.locks.LockTable.{LockTable}
use Rattle.calvin_sched.specs.declared.node.CalvinNode.{CalvinNode}
use Rattle.calvin_sched.proofs.Batching.{came_more, newly_are, queues_more, ready_with}
use Rattle.calvin_sched.proofs.NowRows.{all_mails_now}
use Rattle.calvin_sched.proofs.Slots.{slots_length, place_below}
use Rattle.calvin_sched.proofs.Versions.{version_first}

-- Under Calvin a message fits by its rules, and the node says what they tell.

pub suits_of : (n : CalvinNode) (ms : List Msg) (f : ℕ) (m : Msg) → CalvinStands n ms → FitsRole (role_of n.role) f m ms → Suits (setting_of n.role) n.role.part f m ms
suits_of n ms f m stands fits = subst (λ (k : Family). k.suits (setting_of n.role) n.role.part f m ms) (family_orders n.role.config.protocol stands.ordered) fits.suits

pub said_is : (n : CalvinNode) (ms more : List Msg) → CalvinStands n ms → says (setting_of n.role) n.role.part more ≡ said_by (role_of n.role) more
said_is n ms more stands = sym (ap (λ (k : Family). k.says (setting_of n.role) n.role.part more) (family_orders n.role.config.protocol stands.ordered))

-- A Tick and a Finished leave the node as it was.

pub stands_tick : (n : CalvinNode) (ms : List Msg) (e : ℕ) → CalvinStands n ms → ((f : ℕ) × Suits (setting_of n.role) n.role.part f (Tick e) ms) → CalvinStands n (Tick e ∷ ms)
stands_tick n ms e h fit = record {
  ordered = h.ordered;
  sequencer = h.sequencer;
  fit = (fit, h.fit);
  numbers = h.numbers;
  counts = h.counts;
  batches = record { came = h.batches.came; taken = h.batches.taken };
  locks = h.locks;
  arrivals = h.arrivals;
  versions = h.versions;
}

pub stands_told : (n : CalvinNode) (ms : List Msg) (x : TxnId) (q : ℕ) (number : Number) → CalvinStands n ms → ((f : ℕ) × Suits (setting_of n.role) n.role.part f (Finished x q number) ms) → CalvinStands n (Finished x q number ∷ ms)
stands_told n ms x q number h fit = record {
  ordered = h.ordered;
  sequencer = h.sequencer;
  fit = (fit, h.fit);
  numbers = h.numbers;
  counts = h.counts;
  batches = record { came = h.batches.came; taken = h.batches.taken };
  locks = h.locks;
  arrivals = h.arrivals;
  versions = h.versions;
}

-- A node that has handled nothing.

none_far : {A : Type 0} (xs : List A) → as_far (λ x. false) xs ≡ []
none_far [] = refl
none_far (x ∷ xs) = refl

map_none : {A B : Type 0} (x : B) (xs : List A) → map (λ a. x) xs ≡ replicate (length xs) x
map_none x [] = refl
map_none x (a ∷ xs) = ap (λ l. x ∷ l) (map_none x xs)

either_way : {A : Type 0} (b : Bool) (x : A) → cond b x x ≡ x
either_way true x = refl
either_way false x = refl

module _ (s : Setting) (v : Valid s) (p : ℕ) where
  pub batches_first : (b : Batches) → came b ≡ replicate (epochs s * s.parts) None → AreTaken b → HasBatches s b []
  batches_first b e t = record {
    came = e ∙ ap (λ n. replicate n None) (sym (slots_length s.parts (epochs s))) ∙ sym (map_none None (slots s));
    taken = t;
  }

  pub locks_first : (locks : LockTable) → ((key : Key) → queue_at locks key ≡ []) → HasLocks s p locks []
  locks_first locks none key = none key ∙ sym (ap (λ l. for_key key (asked s p (filter (λ x. participates s x p && is_unfinished x) (flat_map (batch s) l)))) (none_far (slots s)))
    where
      is_unfinished : TxnId → Bool
      is_unfinished x = not (is_finished s [] x)

  pub arrivals_first : (arrivals : Arrivals) → ((x : TxnId) → arrivals_at arrivals x ≡ []) → HasArrivals s arrivals []
  arrivals_first arrivals none x i = none x ∙ sym (either_way (is_finished s [] x) [])

  pub versions_first : (store : Seen) → ((key : Key) → version_at store key ≡ option_map loaded (loaded_at s p key)) → HasVersions s p store []
  versions_first store has key = has key ∙ go (eqb (partition_of key s.parts) p)
    where
      go : (b : Bool) → option_map loaded (cond b (s.loaded key) None) ≡ cond b (version s p [] key) None
      go true = sym (version_first s p v key)
      go false = refl

-- What a batch brings.

module _ (s : Setting) (v : Valid s) (p : ℕ) (ms : List Msg) (fit : AllFit s p ms) (e q : ℕ) (ids : List TxnId) (suits : Suits s p q (Batch e q ids) ms) where
  pub batches_more : (old new : Batches) → HasBatches s old ms → came new ≡ slice_set (came old) (e * s.parts + q) (Some ids) → AreTaken new → HasBatches s new (Batch e q ids ∷ ms)
  batches_more old new has set taken' = record {
    came = set ∙ ap (λ l. slice_set l (e * s.parts + q) (Some ids)) has.came ∙ came_more s ms e q ids (suits.3, suits.4) suits.2;
    taken = taken';
  }

  pub fresh_are : (b : Batches) (fresh : List TxnId) → HasBatches s b ms → fresh ≡ newly (e * s.parts + q) ids (came b) → fresh ≡ newly_taken s (Batch e q ids) ms
  fresh_are b fresh has is = is ∙ newly_are s ms e q ids (suits.3, suits.4) suits.2 b has

  pub locks_more : (old new : LockTable) (fresh : List TxnId) → fresh ≡ newly_taken s (Batch e q ids) ms → HasLocks s p old ms → ((key : Key) → queue_at new key ≡ queue_at old key ++ for_key key (asked s p fresh)) → HasLocks s p new (Batch e q ids ∷ ms)
  locks_more old new fresh is has asks key =
      asks key
      ∙ ap₂ (λ a b. a ++ for_key key (asked s p b)) (has key) is
      ∙ queues_more s v p ms fit e q ids key

-- What is said on it.

module _ (n : CalvinNode) (ms : List Msg) (stands : CalvinStands n ms) (e q : ℕ) (ids : List TxnId) (suits : Suits (setting_of n.role) n.role.part q (Batch e q ids) ms) where
  pub says_batch : (locks : LockTable) (fresh : List TxnId) → fresh ≡ newly_taken (setting_of n.role) (Batch e q ids) ms → HasLocks (setting_of n.role) n.role.part locks (Batch e q ids ∷ ms) → flat_map (mails_after (setting_of n.role) n.role.part (row_in n.store)) (filter (λ x. participates (setting_of n.role) x n.role.part && all_free (setting_of n.role) n.role.part (queue_at locks) x None) fresh) ≡ says (setting_of n.role) n.role.part (Batch e q ids ∷ ms)
  says_batch locks fresh is has =
      let s : Setting = setting_of n.role in
      let p : ℕ = n.role.part in
      let v : Valid s = calvin.valid n.role.config n.role.work.now n.role.valid n.role.ranges in
      ap (λ l. flat_map (mails_after s p (row_in n.store)) (filter (λ x. participates s x p && all_free s p (queue_at locks) x None) l)) is
      ∙ ap (flat_map (mails_after s p (row_in n.store))) (sym (ready_with s v p ms stands.fit e q ids ((q, suits), stands.fit) (queue_at locks) has))
      ∙ all_mails_now n.role.config n.role.work.now n.role.ranges n.role.valid p (Batch e q ids ∷ ms) n.store stands.versions (became_ready s p (Batch e q ids) ms)

-- The place of a batch, and its transactions.

module _ (n : CalvinNode) (ms : List Msg) (stands : CalvinStands n ms) (e q : ℕ) (ids : List TxnId) (suits : Suits (setting_of n.role) n.role.part q (Batch e q ids) ms) where
  pub place_in : e * n.role.config.parts + q < length (came n.batches)
  place_in =
      let s : Setting = setting_of n.role in
      let low = place_below s.parts (epochs s) e q suits.3 suits.4 in
      let many : length (came n.batches) ≡ epochs s * s.parts = ap {B = ℕ} (λ (l : List (Option (List TxnId))). length l) stands.batches.came ∙ length-map (slots s) (batch_if s ms) ∙ slots_length s.parts (epochs s) in
      subst (λ k. e * n.role.config.parts + q < k) (sym many) low

  pub fresh_at : (k : ℕ) (l fresh : List TxnId) → fresh ≡ newly k l (came n.batches) → k ≡ e * n.role.config.parts + q → l ≡ ids → fresh ≡ newly_taken (setting_of n.role) (Batch e q ids) ms
  fresh_at k l fresh is at its =
      is ∙ ap₂ (λ (i : ℕ) (j : List TxnId). newly i j (came n.batches)) at its
      ∙ newly_are (setting_of n.role) ms e q ids (suits.3, suits.4) suits.2 n.batches stands.batches

  pub fresh_known : (x : TxnId) → IsIn x (newly_taken (setting_of n.role) (Batch e q ids) ms) → IsIn x (setting_of n.role).ids
  fresh_known x i =
      let s : Setting = setting_of n.role in
      let f = flat_in (batch s) x (as_far (has_batch (Batch e q ids ∷ ms)) (skip_while (has_batch ms) (slots s))) i in
      (batch_in s f.0 x f.2).0

  pub stands_batch : (batches : Batches) (locks : LockTable) (fresh : List TxnId) → fresh ≡ newly_taken (setting_of n.role) (Batch e q ids) ms → ((key : Key) → queue_at locks key ≡ queue_at n.locks key ++ for_key key (asked (setting_of n.role) n.role.part fresh)) → came batches ≡ slice_set (came n.batches) (e * n.role.config.parts + q) (Some ids) → AreTaken batches → CalvinStands (record { role = n.role; sequencer = n.sequencer; numbers = n.numbers; counts = n.counts; batches = batches; locks = locks; arrivals = n.arrivals; store = n.store }) (Batch e q ids ∷ ms)
  stands_batch batches locks fresh is asks set taken' =
      let s : Setting = setting_of n.role in
      let v : Valid s = calvin.valid n.role.config n.role.work.now n.role.valid n.role.ranges in
      record {
        ordered = stands.ordered;
        sequencer = stands.sequencer;
        fit = ((q, suits), stands.fit);
        numbers = stands.numbers;
        counts = stands.counts;
        batches = batches_more s v n.role.part ms stands.fit e q ids suits n.batches batches stands.batches set taken';
        locks = locks_more s v n.role.part ms stands.fit e q ids suits n.locks locks fresh is stands.locks asks;
        arrivals = stands.arrivals;
        versions = stands.versions;
      }

-- Where there was no memory, and the queues are as they were.
pub stands_back : (n : CalvinNode) (ms : List Msg) (locks : LockTable) → CalvinStands n ms → ((key : Key) → queue_at locks key ≡ queue_at n.locks key) → CalvinStands (record { role = n.role; sequencer = n.sequencer; numbers = n.numbers; counts = n.counts; batches = n.batches; locks = locks; arrivals = n.arrivals; store = n.store }) ms
stands_back n ms locks stands same = record {
  ordered = stands.ordered;
  sequencer = stands.sequencer;
  fit = stands.fit;
  numbers = stands.numbers;
  counts = stands.counts;
  batches = stands.batches;
  locks = λ key. same key ∙ stands.locks key;
  arrivals = stands.arrivals;
  versions = stands.versions;
}

-- Other messages that fit are Finished, on which nothing is said.
pub told_only : (n : CalvinNode) (ms : List Msg) (f : ℕ) (m : Msg) → CalvinStands n ms → Suits (setting_of n.role) n.role.part f m ms → ((e : ℕ) → m ≡ Tick e → ⊥) → ((e q : ℕ) (ids : List TxnId) → m ≡ Batch e q ids → ⊥) → ((x : TxnId) (q : ℕ) (rows : List Keyed) → m ≡ Rows x q rows → ⊥) → (says (setting_of n.role) n.role.part (m ∷ ms) ≡ []) × CalvinStands n (m ∷ ms)
told_only n ms f (Tick e) stands suits no_tick no_batch no_rows = absurd (no_tick e refl)
told_only n ms f (Batch e q ids) stands suits no_tick no_batch no_rows = absurd (no_batch e q ids refl)
told_only n ms f (Rows x q rows) stands suits no_tick no_batch no_rows = absurd (no_rows x q rows refl)
told_only n ms f (Finished x q number) stands suits no_tick no_batch no_rows = (refl, stands_told n ms x q number stands (f, suits))
told_only n ms f m stands suits no_tick no_batch no_rows = absurd suits
