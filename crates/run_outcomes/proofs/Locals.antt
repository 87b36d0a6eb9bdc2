-- What came for a transaction is told by its own messages and entries.
use Rattle.std.proofs.Common.{◌≡◌, ℕ, List, [], ◌∷◌, filter, Bool, true, false, cond, ◌&&◌, ◌||◌, ◌==◌, eqb, Some, refl, sym, ap, ◌∙◌}
use Rattle.deneva_base.specs.Keys.{id_eq, attempt_eq}
use Rattle.deneva_base.specs.declared.answers.Vote.TheVariants.{Yes as VotesYes, No as VotesNo}
use Rattle.deneva_base.specs.declared.numbers.Attempt.{Attempt}
use Rattle.deneva_base.specs.declared.numbers.TxnId.{TxnId}
use Rattle.server_core.specs.Aborts.{refusal_for, newest}
use Rattle.server_core.specs.AttemptEnds.{dones_for, undones_for}
use Rattle.server_core.specs.Lines.{n_in, committed_n}
use Rattle.server_core.specs.Received.{grants_for, votes_for, refused_for, started_for}
use Rattle.server_core.specs.Runs.{heard}
use Rattle.server_core.specs.declared.messages.Entry.{Entry}
use Rattle.server_core.specs.declared.messages.Msg.{Msg}
use Rattle.server_core.specs.declared.messages.Msg.TheVariants.{Start, Granted, Refused, Yes, No, Commit, Done, Undone}
use Rattle.run_outcomes.specs.Naming.{is_about, entries_of}

-- f of a list passes over the items that fail the test
pub record Skips {A B : Type 0} (t : A → Bool) (f : List A → B) : Type 0 where
  pub skip : (a : A) (as' : List A) → t a ≡ false → f (a ∷ as') ≡ f as'
  pub keep : (a : A) (as' bs : List A) → f as' ≡ f bs → f (a ∷ as') ≡ f (a ∷ bs)

pub skipped : {A B : Type 0} (t : A → Bool) (f : List A → B) → Skips t f → (as' : List A) → f (filter t as') ≡ f as'
skipped t f s [] = refl
skipped t f s (a ∷ as') = go (t a) refl (skipped t f s as')
  where
    go : (b : Bool) → t a ≡ b → f (filter t as') ≡ f as' → f (cond b (a ∷ filter t as') (filter t as')) ≡ f (a ∷ as')
    go true e h = s.keep a (filter t as') as' h
    go false e h = h ∙ sym (s.skip a as' e)

-- what a node heard of a transaction
pub heard_of : (p : ℕ) (x : TxnId) (H : List Entry) → heard p (entries_of x H) ≡ filter (is_about x) (heard p H)
heard_of p x [] = refl
heard_of p x (e ∷ H) = go (is_about x e.msg) refl (eqb e.node p) refl (heard_of p x H)
  where
    go : (a : Bool) → is_about x e.msg ≡ a → (n : Bool) → eqb e.node p ≡ n → heard p (entries_of x H) ≡ filter (is_about x) (heard p H) → heard p (cond a (e ∷ entries_of x H) (entries_of x H)) ≡ filter (is_about x) (cond n (e.msg ∷ heard p H) (heard p H))
    go true is true at h = ap (λ b. cond b (e.msg ∷ heard p (entries_of x H)) (heard p (entries_of x H))) at ∙ ap (λ l. e.msg ∷ l) h ∙ ap (λ b. cond b (e.msg ∷ filter (is_about x) (heard p H)) (filter (is_about x) (heard p H))) (sym is)
    go true is false at h = ap (λ b. cond b (e.msg ∷ heard p (entries_of x H)) (heard p (entries_of x H))) at ∙ h
    go false is true at h = h ∙ ap (λ b. cond b (e.msg ∷ filter (is_about x) (heard p H)) (filter (is_about x) (heard p H))) (sym is)
    go false is false at h = h

module _ (who : Attempt) where
  pub other : (x : Attempt) → id_eq x.txn who.txn ≡ false → attempt_eq x who ≡ false
  other x e = ap (λ b. b && (x.turn == who.turn)) e

  pub started_skips : Skips (is_about who.txn) (started_for who)
  started_skips = record { skip = skip; keep = keep }
    where
      skip : (m : Msg) (ms : List Msg) → is_about who.txn m ≡ false → started_for who (m ∷ ms) ≡ started_for who ms
      skip (Start x) ms e = ap (λ b. b || started_for who ms) (other x e)
      skip m ms e = refl

      keep : (m : Msg) (ms ks : List Msg) → started_for who ms ≡ started_for who ks → started_for who (m ∷ ms) ≡ started_for who (m ∷ ks)
      keep (Start x) ms ks e = ap (λ b. attempt_eq x who || b) e
      keep m ms ks e = e

  pub refused_skips : Skips (is_about who.txn) (refused_for who)
  refused_skips = record { skip = skip; keep = keep }
    where
      skip : (m : Msg) (ms : List Msg) → is_about who.txn m ≡ false → refused_for who (m ∷ ms) ≡ refused_for who ms
      skip (Refused x key cause) ms e = ap (λ b. b || refused_for who ms) (other x e)
      skip m ms e = refl

      keep : (m : Msg) (ms ks : List Msg) → refused_for who ms ≡ refused_for who ks → refused_for who (m ∷ ms) ≡ refused_for who (m ∷ ks)
      keep (Refused x key cause) ms ks e = ap (λ b. attempt_eq x who || b) e
      keep m ms ks e = e

  pub refusal_skips : Skips (is_about who.txn) (refusal_for who)
  refusal_skips = record { skip = skip; keep = keep }
    where
      skip : (m : Msg) (ms : List Msg) → is_about who.txn m ≡ false → refusal_for who (m ∷ ms) ≡ refusal_for who ms
      skip (Refused x key cause) ms e = ap (λ b. cond b (Some (record { key = key; cause = cause })) (refusal_for who ms)) (other x e)
      skip m ms e = refl

      keep : (m : Msg) (ms ks : List Msg) → refusal_for who ms ≡ refusal_for who ks → refusal_for who (m ∷ ms) ≡ refusal_for who (m ∷ ks)
      keep (Refused x key cause) ms ks e = ap (λ r. cond (attempt_eq x who) (Some (record { key = key; cause = cause })) r) e
      keep m ms ks e = e

  pub grants_skip : Skips (is_about who.txn) (grants_for who)
  grants_skip = record { skip = skip; keep = keep }
    where
      skip : (m : Msg) (ms : List Msg) → is_about who.txn m ≡ false → grants_for who (m ∷ ms) ≡ grants_for who ms
      skip (Granted x key row version bound) ms e = ap (λ b. cond b (record { row = row; bound = bound; key = key } ∷ grants_for who ms) (grants_for who ms)) (other x e)
      skip m ms e = refl

      keep : (m : Msg) (ms ks : List Msg) → grants_for who ms ≡ grants_for who ks → grants_for who (m ∷ ms) ≡ grants_for who (m ∷ ks)
      keep (Granted x key row version bound) ms ks e = ap (λ l. cond (attempt_eq x who) (record { row = row; bound = bound; key = key } ∷ l) l) e
      keep m ms ks e = e

  pub votes_skip : Skips (is_about who.txn) (votes_for who)
  votes_skip = record { skip = skip; keep = keep }
    where
      skip : (m : Msg) (ms : List Msg) → is_about who.txn m ≡ false → votes_for who (m ∷ ms) ≡ votes_for who ms
      skip (Yes x part lo hi) ms e = ap (λ b. cond b (record { part = part; vote = VotesYes lo hi } ∷ votes_for who ms) (votes_for who ms)) (other x e)
      skip (No x part cause) ms e = ap (λ b. cond b (record { part = part; vote = VotesNo cause } ∷ votes_for who ms) (votes_for who ms)) (other x e)
      skip m ms e = refl

      keep : (m : Msg) (ms ks : List Msg) → votes_for who ms ≡ votes_for who ks → votes_for who (m ∷ ms) ≡ votes_for who (m ∷ ks)
      keep (Yes x part lo hi) ms ks e = ap (λ l. cond (attempt_eq x who) (record { part = part; vote = VotesYes lo hi } ∷ l) l) e
      keep (No x part cause) ms ks e = ap (λ l. cond (attempt_eq x who) (record { part = part; vote = VotesNo cause } ∷ l) l) e
      keep m ms ks e = e

  pub dones_skip : Skips (is_about who.txn) (dones_for who)
  dones_skip = record { skip = skip; keep = keep }
    where
      skip : (m : Msg) (ms : List Msg) → is_about who.txn m ≡ false → dones_for who (m ∷ ms) ≡ dones_for who ms
      skip (Done x part) ms e = ap (λ b. cond b (part ∷ dones_for who ms) (dones_for who ms)) (other x e)
      skip m ms e = refl

      keep : (m : Msg) (ms ks : List Msg) → dones_for who ms ≡ dones_for who ks → dones_for who (m ∷ ms) ≡ dones_for who (m ∷ ks)
      keep (Done x part) ms ks e = ap (λ l. cond (attempt_eq x who) (part ∷ l) l) e
      keep m ms ks e = e

  pub undones_skip : Skips (is_about who.txn) (undones_for who)
  undones_skip = record { skip = skip; keep = keep }
    where
      skip : (m : Msg) (ms : List Msg) → is_about who.txn m ≡ false → undones_for who (m ∷ ms) ≡ undones_for who ms
      skip (Undone x part) ms e = ap (λ b. cond b (part ∷ undones_for who ms) (undones_for who ms)) (other x e)
      skip m ms e = refl

      keep : (m : Msg) (ms ks : List Msg) → undones_for who ms ≡ undones_for who ks → undones_for who (m ∷ ms) ≡ undones_for who (m ∷ ks)
      keep (Undone x part) ms ks e = ap (λ l. cond (attempt_eq x who) (part ∷ l) l) e
      keep m ms ks e = e

  -- the number of the attempt's Commit, by all entries
  pub number_skips : Skips (λ (e : Entry). is_about who.txn e.msg) (committed_n who)
  number_skips = record { skip = λ a H e. skip a.msg (committed_n who H) e; keep = λ a H K e. ap (λ n. n_in who n a.msg) e }
    where
      skip : (m : Msg) (n : ℕ) → is_about who.txn m ≡ false → n_in who n m ≡ n
      skip (Commit x number) n e = ap (λ b. cond b number.n n) (other x e)
      skip m n e = refl

-- the newest entry of a transaction that passes a test
pub newest_skips : (x : TxnId) (t : Entry → Bool) → ((e : Entry) → is_about x e.msg ≡ false → t e ≡ false) → Skips (λ (e : Entry). is_about x e.msg) (newest t)
newest_skips x t own = record { skip = λ a H e. ap (λ b. cond b (Some a) (newest t H)) (own a e); keep = λ a H K e. ap (λ o. cond (t a) (Some a) o) e }
