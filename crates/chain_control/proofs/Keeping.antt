-- The table keeps the versions of the history with one more Ask.
use Rattle.std.proofs.Common.{◌≡◌, ◌≢◌, ◌⊎◌, ℕ, max, ◌≤◌, leb, List, ◌∷◌, map, Bool, true, false, cond, ◌&&◌, ◌||◌, refl, sym, ap, ◌∙◌, subst, ⊎_elim, arith, Option, Some, None, option_map}
use Rattle.std.proofs.lemmas.Bool.{le-leb}
use Rattle.deneva_base.specs.declared.keys.Key.{Key}
use Rattle.deneva_base.specs.declared.keys.Mode.{Mode}
use Rattle.deneva_base.specs.declared.numbers.Attempt.{Attempt}
use Rattle.deneva_base.specs.declared.numbers.Number.{Number}
use Rattle.deneva_base.specs.declared.causes.Cause.{Cause}
use Rattle.deneva_base.specs.declared.answers.Answer.TheVariants.{Granted, Waits, Refused}
use Rattle.deneva_base.specs.Rows.{Row, Rows}
use Rattle.deneva_base.specs.Keys.{key_eq, number_eq}
use Rattle.deneva_base.specs.Modes.{reads}
use Rattle.protocol_rules.specs.History.{Ask, History, waits}
use Rattle.protocol_rules.specs.Latest.{Version}
use Rattle.protocol_rules.specs.Versions.{below}
use Rattle.protocol_rules.specs.Mvcc.{floor, top_reader}
use Rattle.deneva_base.proofs.Membership.{key_tells}
use Rattle.row_store.specs.declared.versions.Version.{Version as StoredVersion}
use Rattle.row_store.specs.Stores.{version_at}
use Rattle.chain_control.specs.declared.requests.Request.{Request}
use Rattle.chain_control.specs.declared.links.ReadVersion.{ReadVersion}
use Rattle.chain_control.specs.declared.table.Table.{Table}
use Rattle.chain_control.specs.Links.{read_by}
use Rattle.chain_control.specs.Chains.{Chain, with_request, with_grant, marked}
use Rattle.chain_control.specs.Changes.{Grants, Waiting, opened_with}
use Rattle.chain_control.specs.Kept.{in_order, awaited, is_kept, kept}
use Rattle.chain_control.specs.Standing.{State, state_of, links_in, floor_in, link_of, Keeps}
use Rattle.chain_control.proofs.Lists.{map_same, map_both, filter_same}
use Rattle.chain_control.proofs.Apart.{number_eq_sym, one_n}
use Rattle.key_table.specs.Keys.{same_key}
use Rattle.key_table.proofs.Places.{same_tells, at_place}

pub opened_some : (v : Option StoredVersion) (c : Chain) → opened_with v (Some c) ≡ Some c
opened_some None c = refl
opened_some (Some v) c = refl

-- a version with another mark
abbrev pub mark : Version → ℕ → ReadVersion
mark v n = record { number = v.number; row = v.row; read = n }

max_zero : (n : ℕ) → max 0 n ≡ n
max_zero n = omega arith

module _ (h : History) (who : Attempt) (stamp : ℕ) (key : Key) (mode : Mode) (row : Row) (version : Number) (bound : ℕ) where
  abbrev after : History
  after = Ask who stamp key mode (Granted row version bound) ∷ h

  -- a grant marks the version that it reads
  pub mark_read : (v : Version) → reads mode ≡ true → read_by version stamp (link_of h key v) ≡ link_of after key v
  mark_read v r = ap (mark v) (go (key_eq key key) (reads mode) (number_eq v.number version) (number_eq version v.number) yes r (number_eq_sym v.number version))
    where
      yes : key_eq key key ≡ true
      yes = ⊎_elim (λ t. t.0) (λ f. absurd (f.1 refl)) (key_tells key key)

      go : (a b c d : Bool) → a ≡ true → b ≡ true → c ≡ d → cond c (max (top_reader h key v.number) stamp) (top_reader h key v.number) ≡ max (cond (a && (b && d)) stamp 0) (top_reader h key v.number)
      go true true true true e f g = omega arith
      go true true false false e f g = omega arith
      go true true true false e f g = absurd (cc g)
      go true true false true e f g = absurd (cc g)
      go true false c d e f g = absurd (cc f)
      go false b c d e f g = absurd (cc e)

  -- and no other
  pub mark_other : (k : Key) (v : Version) → key ≢ k → link_of h k v ≡ link_of after k v
  mark_other k v n = ap (mark v) (go (key_eq key k) (⊎_elim (λ t. absurd (n t.1)) (λ f. f.0) (key_tells key k)))
    where
      go : (a : Bool) → a ≡ false → top_reader h k v.number ≡ max (cond (a && (reads mode && number_eq version v.number)) stamp 0) (top_reader h k v.number)
      go true e = absurd (cc e)
      go false e = omega arith

  pub mark_none : (v : Version) → reads mode ≡ false → link_of h key v ≡ link_of after key v
  mark_none v r = ap (mark v) (go (key_eq key key) (reads mode) r)
    where
      go : (a b : Bool) → b ≡ false → top_reader h key v.number ≡ max (cond (a && (b && number_eq version v.number)) stamp 0) (top_reader h key v.number)
      go a true e = absurd (cc e)
      go true false e = omega arith
      go false false e = omega arith

module _ (keep : ℕ) (loaded : Rows) (h : History) (who : Attempt) (stamp : ℕ) (key : Key) (mode : Mode) where
  pub granted_keeps : (row : Row) (version : Number) (bound : ℕ) (c : Chain) (old new : Table) → Keeps keep loaded (state_of old) h → (state_of old).chains key ≡ Some c → Grants key version (record { who = who; stamp = stamp; mode = mode; waits = None }) old new → Keeps keep loaded (state_of new) (Ask who stamp key mode (Granted row version bound) ∷ h)
  granted_keeps row version bound c old new k there g = record {
    links = λ q r e. ⊎_elim
        (λ x. here q r e x.0 x.1 (reads mode) refl)
        (λ x. ap links_in (same q x.1) ∙ k.links q r e ∙ map_same (link_of h q) (link_of (after h who stamp key mode row version bound) q) (kept keep loaded h q) (λ v i. mark_other h who stamp key mode row version bound q v x.0))
        (cases q);
    floor = λ q r e. ⊎_elim
        (λ x. ap floor_in (ap (opened_with (version_at s'.shelf.store q)) x.1 ∙ ap (λ z. opened_with (version_at s'.shelf.store q) (option_map (with_grant version asked) z)) there ∙ opened_some (version_at s'.shelf.store q) (with_grant version asked c)) ∙ floor_grant (reads mode) ∙ sym (ap floor_in (opened q x.0)) ∙ k.floor q r e)
        (λ x. ap floor_in (same q x.1) ∙ k.floor q r e)
        (cases q);
  }
    where
      s : State
      s = state_of old

      s' : State
      s' = state_of new

      asked : Request
      asked = record { who = who; stamp = stamp; mode = mode; waits = None }

      cases : (q : Key) → ((key ≡ q) × (s'.chains q ≡ option_map (with_grant version asked) (s.chains key))) ⊎ ((key ≢ q) × (s'.chains q ≡ s.chains q))
      cases q = at_place same_key same_tells key q (s'.chains q) (option_map (with_grant version asked) (s.chains key)) (s.chains q) (g.lines q)

      same : (q : Key) → s'.chains q ≡ s.chains q → opened_with (version_at s'.shelf.store q) (s'.chains q) ≡ opened_with (version_at s.shelf.store q) (s.chains q)
      same q e = ap (λ x. opened_with (version_at x q) (s'.chains q)) g.shelf.store ∙ ap (opened_with (version_at s.shelf.store q)) e

      opened : (q : Key) → key ≡ q → opened_with (version_at s.shelf.store q) (s.chains q) ≡ Some c
      opened q e = ap (λ z. opened_with (version_at s.shelf.store q) (s.chains z)) (sym e) ∙ ap (opened_with (version_at s.shelf.store q)) there ∙ opened_some (version_at s.shelf.store q) c

      floor_grant : (b : Bool) → (cond b (marked version stamp (with_request asked c)) (with_request asked c)).floor ≡ c.floor
      floor_grant true = refl
      floor_grant false = refl

      here : (q : Key) (r : Row) → loaded q ≡ Some r → key ≡ q → s'.chains q ≡ option_map (with_grant version asked) (s.chains key) → (b : Bool) → reads mode ≡ b → links_in (opened_with (version_at s'.shelf.store q) (s'.chains q)) ≡ map (link_of (after h who stamp key mode row version bound) q) (kept keep loaded h q)
      here q r e same_key is b f =
          let old_links : c.links ≡ map (link_of h q) (kept keep loaded h q) = sym (ap links_in (opened q same_key)) ∙ k.links q r e in
          ap links_in (ap (opened_with (version_at s'.shelf.store q)) is ∙ ap (λ z. opened_with (version_at s'.shelf.store q) (option_map (with_grant version asked) z)) there ∙ opened_some (version_at s'.shelf.store q) (with_grant version asked c))
          ∙ pick b f old_links
        where
          pick : (b : Bool) → reads mode ≡ b → c.links ≡ map (link_of h q) (kept keep loaded h q) → (with_grant version asked c).links ≡ map (link_of (after h who stamp key mode row version bound) q) (kept keep loaded h q)
          pick true f l =
              ap (λ z. (cond z (marked version stamp (with_request asked c)) (with_request asked c)).links) f
              ∙ ap (map (read_by version stamp)) l
              ∙ map_both (read_by version stamp) (link_of h q) (link_of (after h who stamp key mode row version bound) q) (kept keep loaded h q)
              (λ v i. subst (λ z. read_by version stamp (link_of h z v) ≡ link_of (after h who stamp key mode row version bound) z v) same_key (mark_read h who stamp key mode row version bound v f))
          pick false f l =
              ap (λ z. (cond z (marked version stamp (with_request asked c)) (with_request asked c)).links) f
              ∙ l
              ∙ map_same (link_of h q) (link_of (after h who stamp key mode row version bound) q) (kept keep loaded h q)
              (λ v i. subst (λ z. link_of h z v ≡ link_of (after h who stamp key mode row version bound) z v) same_key (mark_none h who stamp key mode row version bound v f))

  -- the version that a waiter is to read is kept without it
  waiting_kept : (q : Key) (v : Version) → floor keep loaded h key ≤ (below loaded h key stamp).number.n → is_kept keep loaded h q v ≡ is_kept keep loaded (Ask who stamp key mode Waits ∷ h) q v
  waiting_kept q v passes = go (key_eq key q) refl (number_eq v.number (below loaded h q stamp).number) refl
    where
      or_one : (b c : Bool) → b ≡ true → (b || c) ≡ (b || (true || c))
      or_one true c e = refl
      or_one false c e = absurd (cc e)

      go : (a : Bool) → key_eq key q ≡ a → (b : Bool) → number_eq v.number (below loaded h q stamp).number ≡ b → (leb (floor keep loaded h q) v.number.n || awaited loaded h q (waits h) v) ≡ (leb (floor keep loaded h q) v.number.n || ((a && b) || awaited loaded h q (waits h) v))
      go false e b f = refl
      go true e false f = refl
      go true e true f =
          let here : key ≡ q = ⊎_elim (λ t. t.1) (λ n. absurd (cc (sym e ∙ n.0))) (key_tells key q) in
          let n = one_n v.number (below loaded h q stamp).number f in
          let l : floor keep loaded h q ≤ (below loaded h q stamp).number.n = subst (λ z. floor keep loaded h z ≤ (below loaded h z stamp).number.n) here passes in
          or_one (leb (floor keep loaded h q) v.number.n) (awaited loaded h q (waits h) v) (le-leb (floor keep loaded h q) v.number.n (omega (arith, n, l)))

  pub waiting_keeps : (asked : Request) (c : Chain) (old new : Table) → Keeps keep loaded (state_of old) h → floor keep loaded h key ≤ (below loaded h key stamp).number.n → (state_of old).chains key ≡ Some c → Waiting key asked old new → Keeps keep loaded (state_of new) (Ask who stamp key mode Waits ∷ h)
  waiting_keeps asked c old new k passes there g = record {
    links = λ q r e. ap links_in_virtual (virtual q) ∙ k.links q r e ∙ ap (map (link_of h q)) (filter_same (is_kept keep loaded h q) (is_kept keep loaded (Ask who stamp key mode Waits ∷ h) q) (in_order loaded h q) (λ v i. waiting_kept q v passes));
    floor = λ q r e. ap (λ (z : List ReadVersion × ℕ). z.1) (virtual q) ∙ k.floor q r e;
  }
    where
      s : State
      s = state_of old

      s' : State
      s' = state_of new

      links_in_virtual : List ReadVersion × ℕ → List ReadVersion
      links_in_virtual z = z.0

      both : Option Chain → List ReadVersion × ℕ
      both x = (links_in x, floor_in x)

      virtual : (q : Key) → ◌≡◌ {A = List ReadVersion × ℕ} (links_in (opened_with (version_at s'.shelf.store q) (s'.chains q)), floor_in (opened_with (version_at s'.shelf.store q) (s'.chains q))) (links_in (opened_with (version_at s.shelf.store q) (s.chains q)), floor_in (opened_with (version_at s.shelf.store q) (s.chains q)))
      virtual q = ⊎_elim
          (λ x.
          ap both (ap (opened_with (version_at s'.shelf.store q)) x.1 ∙ ap (λ z. opened_with (version_at s'.shelf.store q) (option_map (with_request asked) z)) there ∙ opened_some (version_at s'.shelf.store q) (with_request asked c))
          ∙ sym (ap both (ap (λ z. opened_with (version_at s.shelf.store q) (s.chains z)) (sym x.0) ∙ ap (opened_with (version_at s.shelf.store q)) there ∙ opened_some (version_at s.shelf.store q) c)))
          (λ x. ap both (ap (λ y. opened_with (version_at y q) (s'.chains q)) g.shelf.store ∙ ap (opened_with (version_at s.shelf.store q)) x.1))
          (at_place same_key same_tells key q (s'.chains q) (option_map (with_request asked) (s.chains key)) (s.chains q) (g.lines q))

  pub refused_keeps : (cause : Cause) (s : State) → Keeps keep loaded s h → Keeps keep loaded s (Ask who stamp key mode (Refused cause) ∷ h)
  refused_keeps cause s k = record { links = k.links; floor = k.floor }
