-- What a transaction reads at a node.
use Rattle.std.proofs.Common.{◌≡◌, ℕ, List, [], ◌∷◌, map, filter, Bool, true, false, cond, eqb, None, refl, ap, ◌∙◌, inl, inr}
use Rattle.std.specs.Prelude.{option_map}
use Rattle.std.specs.List.{flat_map}
use Rattle.deneva_base.specs.declared.config.Config.{Config}
use Rattle.deneva_base.specs.declared.keys.Access.{Access}
use Rattle.deneva_base.specs.declared.keys.Key.{Key}
use Rattle.deneva_base.specs.declared.numbers.TxnId.{TxnId}
use Rattle.deneva_base.specs.declared.rows.Keyed.{Keyed}
use Rattle.deneva_base.specs.Lists.{IsIn}
use Rattle.deneva_base.specs.Modes.{reads}
use Rattle.deneva_base.specs.Partitions.{partition_of}
use Rattle.deneva_base.specs.Rows.{Rows as Table, row_or_empty}
use Rattle.deneva_base.proofs.Membership.{filter_in}
use Rattle.txn_program.specs.Transactions.{reading}
use Rattle.txn_program.specs.Valid.{IsValid}
use Rattle.txn_program.specs.declared.programs.Workload.{Workload}
use Rattle.row_store.specs.Stores.{Seen, row_in}
use Rattle.row_store.specs.declared.versions.Version.{Version}
use Rattle.server_core.specs.Calvin.{rows_mails}
use Rattle.server_core.specs.Configs.{IsConfig}
use Rattle.server_core.specs.Coordinator.{to_all}
use Rattle.server_core.specs.CalvinScheduler.{reading_at, now}
use Rattle.server_core.specs.Setting.{Setting, setting, participants_for}
use Rattle.server_core.specs.declared.messages.Msg.{Msg}
use Rattle.server_core.specs.declared.messages.Msg.TheVariants.{Rows}
use Rattle.calvin_sched.specs.Reading.{reads_after, mails_after}
use Rattle.calvin_sched.specs.Standing.{HasVersions}
use Rattle.calvin_sched.specs.Versions.{version}
use Rattle.calvin_sched.proofs.Versions.{versions_are_rows}

filter_swap : {A : Type 0} (f g : A → Bool) (xs : List A) → filter f (filter g xs) ≡ filter g (filter f xs)
filter_swap f g [] = refl
filter_swap {A} f g (x ∷ xs) = go (f x) refl (g x) refl (filter_swap f g xs)
  where
    go : (a : Bool) → f x ≡ a → (b : Bool) → g x ≡ b → filter f (filter g xs) ≡ filter g (filter f xs) → filter f (cond b (x ∷ filter g xs) (filter g xs)) ≡ filter g (cond a (x ∷ filter f xs) (filter f xs))
    go true e true h next = rw (e, h) (ap (λ l. x ∷ l) next)
    go true e false h next = rw h next
    go false e true h next = rw e next
    go false e false h next = next

-- the rows that are read are those at the keys of the accesses that read
pub reads_are : (s : Setting) (p : ℕ) (rows now' : Table) (z : TxnId) → ((a : Access) → IsIn a (reading_at s p z) → rows a.key ≡ now' a.key) → reads_after s p rows z ≡ map (λ (a : Access). record { key = a.key; row = row_or_empty (now' a.key) }) (reading_at s p z)
reads_are s p rows now' z same =
    ap (λ l. map {B = Keyed} (λ (a : Access). record { key = a.key; row = row_or_empty (rows a.key) }) l) (filter_swap (λ (a : Access). reads a.mode) (λ (a : Access). eqb (partition_of a.key s.parts) p) (s.accesses z))
    ∙ go (reading_at s p z) same
  where
    go : (as' : List Access) → ((a : Access) → IsIn a as' → rows a.key ≡ now' a.key) → map {B = Keyed} (λ (a : Access). record { key = a.key; row = row_or_empty (rows a.key) }) as' ≡ map {B = Keyed} (λ (a : Access). record { key = a.key; row = row_or_empty (now' a.key) }) as'
    go [] h = refl
    go (a ∷ as') h =
        ap (λ r. record { key = a.key; row = row_or_empty r } ∷ map {B = Keyed} (λ (b : Access). record { key = b.key; row = row_or_empty (rows b.key) }) as') (h a (inl refl))
        ∙ ap (λ l. record { key = a.key; row = row_or_empty (now' a.key) } ∷ l) (go as' (λ b i. h b (inr i)))

module _ (c : Config) (w : Workload) (config : IsConfig c) (good : IsValid w) (p : ℕ) (ms : List Msg) (store : Seen) (has : HasVersions (setting c w) p store ms) where
  abbrev s : Setting
  s = setting c w

  -- the store has the rows of its partition's keys
  pub row_now : (key : Key) → eqb (partition_of key s.parts) p ≡ true → row_in store key ≡ now s p ms key
  row_now key at =
      ap (λ o. option_map (λ (u : Version). u.row) o) (has key ∙ ap (λ b. cond b (version s p ms key) None) at)
      ∙ versions_are_rows c w p ms key config good

  -- each reads the rows of the store
  pub mails_now : (z : TxnId) → mails_after s p (row_in store) z ≡ rows_mails s p ms z
  mails_now z =
      ap (λ l. to_all p (Rows z p l) (participants_for s z))
      (reads_are s p (row_in store) (now s p ms) z (λ a i. row_now a.key (filter_in (λ (b : Access). eqb (partition_of b.key s.parts) p) a (reading (s.accesses z)) i).1))

  pub all_mails_now : (zs : List TxnId) → flat_map (mails_after s p (row_in store)) zs ≡ flat_map (rows_mails s p ms) zs
  all_mails_now [] = refl
  all_mails_now (z ∷ zs) = rw (mails_now z, all_mails_now zs) refl
