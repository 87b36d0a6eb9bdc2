-- What is kept of a key after a change for each of a list.
use Rattle.std.proofs.Common.{◌≡◌, ◌≢◌, ℕ, List, [], ◌∷◌, map, filter, Bool, true, false, not, ◌||◌, cond, refl, sym, ap, ◌∙◌, ⊎_elim, arith, Option, Some, None, option_map, true≢false}
use Rattle.std.proofs.lemmas.Bool.Decides.{nat_tests}
use Rattle.deneva_base.specs.declared.keys.Key.{Key}
use Rattle.deneva_base.specs.declared.numbers.Attempt.{Attempt}
use Rattle.deneva_base.specs.declared.numbers.Number.{Number}
use Rattle.deneva_base.specs.declared.rows.Keyed.{Keyed}
use Rattle.deneva_base.specs.declared.rows.Cell.{Cell}
use Rattle.deneva_base.specs.Lists.{IsIn}
use Rattle.deneva_base.specs.Keys.{key_eq, key_lt, attempt_eq}
use Rattle.protocol_rules.specs.Latest.{row_for}
use Rattle.deneva_base.proofs.Membership.{key_tells}
use Rattle.std.proofs.lemmas.List.{map-id}
use Rattle.shelf.proofs.Counting.{map_two}
use Rattle.chain_control.specs.declared.requests.Request.{Request}
use Rattle.chain_control.specs.declared.requests.Waiter.{Waiter}
use Rattle.chain_control.specs.declared.links.ReadVersion.{ReadVersion}
use Rattle.chain_control.specs.Requests.{has_request, overtaken, grants_to}
use Rattle.chain_control.specs.Links.{read_by}
use Rattle.chain_control.specs.Chains.{Chain, overwritten, committed, granted, trimmed}
use Rattle.key_table.specs.Keys.{same_key}
use Rattle.key_table.specs.Tables.{changed}
use Rattle.chain_control.specs.Tables.{key_of, row_key, waiter_key, commits_at, wakes_at, trims_at}
use Rattle.chain_control.specs.Changes.{commits_left}
use Rattle.chain_control.specs.Standing.{requests_in}
use Rattle.shelf.specs.Keeps.{Rising}
use Rattle.key_table.proofs.Places.{same_tells, changed_none}

pub changed_nothing : {X : Type 0} (key : X → Key) (f : X → Option Chain → Option Chain) (xs : List X) (at : Key) → ((x : X) → f x None ≡ None) → changed same_key key f xs at None ≡ None
changed_nothing key f [] at n = refl
changed_nothing key f (x ∷ xs) at n = go (same_key (key x) at) (changed_nothing key f xs at n)
  where
    go : (b : Bool) → changed same_key key f xs at None ≡ None → changed same_key key f xs at (cond b (f x None) None) ≡ None
    go true e = ap (changed same_key key f xs at) (n x) ∙ e
    go false e = e

key_irrefl : (k : Key) → key_lt k k ≡ false
key_irrefl k = grind (arith, nat_tests)

pub changed_once : (f : Key → Option Chain → Option Chain) (ks : List Key) (at : Key) (c : Option Chain) → Rising ks → IsIn at ks → changed same_key key_of f ks at c ≡ f at c
changed_once f [] at c r i = absurd i
changed_once f (k ∷ ks) at c r i = ⊎_elim
    (λ t.
    ap (λ b. changed same_key key_of f ks at (cond b (f k c) c)) t.0
    ∙ changed_none same_key same_tells key_of f ks at (f k c) (λ q j e. true≢false (sym (r.0 q j) ∙ ap (key_lt k) (e ∙ sym t.1) ∙ key_irrefl k))
    ∙ ap (λ q. f q c) t.1)
    (λ n. ap (λ b. changed same_key key_of f ks at (cond b (f k c) c)) n.0 ∙ changed_once f ks at c r.1 (⊎_elim (λ e. absurd (n.1 (sym e))) (λ j. j) i))
    (same_tells k at)

-- the rows of a commit: the first one of the key is written
abbrev pub commit_row : ℕ → Attempt → Number → Option (List Cell) → Chain → Chain
commit_row keep who number None c = c
commit_row keep who number (Some row) c = committed keep who number row c

none_left : (who : Attempt) (number : Number) (rs : List Request) → has_request who (map (overtaken number) (filter (λ r. not (attempt_eq r.who who)) rs)) ≡ false
none_left who number [] = refl
none_left who number (r ∷ rs) = go (attempt_eq r.who who) refl (none_left who number rs)
  where
    go : (b : Bool) → attempt_eq r.who who ≡ b → has_request who (map (overtaken number) (filter (λ x. not (attempt_eq x.who who)) rs)) ≡ false → has_request who (map (overtaken number) (cond (not b) (r ∷ filter (λ x. not (attempt_eq x.who who)) rs) (filter (λ x. not (attempt_eq x.who who)) rs))) ≡ false
    go true e rest = rest
    go false e rest = ap (λ b. b || has_request who (map (overtaken number) (filter (λ x. not (attempt_eq x.who who)) rs))) e ∙ rest

module _ (keep : ℕ) (who : Attempt) (number : Number) (at : Key) where
  commits_stay : (rows : List Keyed) (c : Chain) → has_request who c.requests ≡ false → changed same_key row_key (commits_at keep who number) rows at (Some c) ≡ Some c
  commits_stay [] c n = refl
  commits_stay (r ∷ rows) c n = go (same_key r.key at) (commits_stay rows c n)
    where
      go : (b : Bool) → changed same_key row_key (commits_at keep who number) rows at (Some c) ≡ Some c → changed same_key row_key (commits_at keep who number) rows at (cond b (Some (committed keep who number r.row c)) (Some c)) ≡ Some c
      go true e = ap (λ x. changed same_key row_key (commits_at keep who number) rows at (Some (cond x (overwritten keep who number r.row c) c))) n ∙ e
      go false e = e

  pub commits_is : (rows : List Keyed) (c : Chain) → changed same_key row_key (commits_at keep who number) rows at (Some c) ≡ Some (commit_row keep who number (row_for at rows) c)
  commits_is [] c = refl
  commits_is (r ∷ rows) c = ⊎_elim
      (λ t.
      ap (λ b. changed same_key row_key (commits_at keep who number) rows at (cond b (Some (committed keep who number r.row c)) (Some c))) t.0
      ∙ go (has_request who c.requests) refl
      ∙ ap (λ b. Some (commit_row keep who number (cond b (Some r.row) (row_for at rows)) c)) (sym (yes t.1)))
      (λ n.
      ap (λ b. changed same_key row_key (commits_at keep who number) rows at (cond b (Some (committed keep who number r.row c)) (Some c))) n.0
      ∙ commits_is rows c
      ∙ ap (λ b. Some (commit_row keep who number (cond b (Some r.row) (row_for at rows)) c)) (sym (no n.1)))
      (same_tells r.key at)
    where
      yes : r.key ≡ at → key_eq r.key at ≡ true
      yes e = ⊎_elim (λ t. t.0) (λ f. absurd (f.1 e)) (key_tells r.key at)

      no : r.key ≢ at → key_eq r.key at ≡ false
      no n = ⊎_elim (λ t. absurd (n t.1)) (λ f. f.0) (key_tells r.key at)

      go : (b : Bool) → has_request who c.requests ≡ b → changed same_key row_key (commits_at keep who number) rows at (Some (committed keep who number r.row c)) ≡ Some (committed keep who number r.row c)
      go true e =
          ap (λ x. changed same_key row_key (commits_at keep who number) rows at (Some (cond x (overwritten keep who number r.row c) c))) e
          ∙ commits_stay rows (overwritten keep who number r.row c) (none_left who number c.requests)
          ∙ ap (λ x. Some (cond x (overwritten keep who number r.row c) c)) (sym e)
      go false e =
          ap (λ x. changed same_key row_key (commits_at keep who number) rows at (Some (cond x (overwritten keep who number r.row c) c))) e
          ∙ commits_stay rows c e
          ∙ ap (λ x. Some (cond x (overwritten keep who number r.row c) c)) (sym e)

-- what an end leaves of a key: where there is a number, its row is written
abbrev pub end_row : ℕ → Attempt → Option Number → Option (List Cell) → Chain → Chain
end_row keep who None row c = c
end_row keep who (Some number) row c = commit_row keep who number row c

pub ends_is : (keep : ℕ) (who : Attempt) (number : Option Number) (rows : List Keyed) (at : Key) (c : Chain) → commits_left keep who number rows at (Some c) ≡ Some (end_row keep who number (row_for at rows) c)
ends_is keep who None rows at c = refl
ends_is keep who (Some number) rows at c = commits_is keep who number at rows c

pub ends_nothing : (keep : ℕ) (who : Attempt) (number : Option Number) (rows : List Keyed) (at : Key) → commits_left keep who number rows at None ≡ None
ends_nothing keep who None rows at = refl
ends_nothing keep who (Some number) rows at = changed_nothing row_key (commits_at keep who number) rows at (λ x. refl)

-- a request after these are granted, and a version
abbrev pub granted_by : List Waiter → Key → Request → Request
granted_by [] key r = r
granted_by (w ∷ ws) key r = granted_by ws key (cond (same_key w.key key) (grants_to w.who r) r)

abbrev pub reads_by : List Waiter → Key → ReadVersion → ReadVersion
reads_by [] key l = l
reads_by (w ∷ ws) key l = reads_by ws key (cond (same_key w.key key) (read_by w.version w.stamp l) l)

-- what is kept of a key once these are granted
pub wakes_is : (ws : List Waiter) (key : Key) (c : Chain) → changed same_key waiter_key wakes_at ws key (Some c) ≡ Some (record { requests = map (granted_by ws key) c.requests; links = map (reads_by ws key) c.links; floor = c.floor })
wakes_is [] key c = λ i. Some (record { requests = sym (map-id c.requests) i; links = sym (map-id c.links) i; floor = c.floor })
wakes_is (w ∷ ws) key c = go (same_key w.key key) (λ d. wakes_is ws key d)
  where
    go : (b : Bool) → ((d : Chain) → changed same_key waiter_key wakes_at ws key (Some d) ≡ Some (record { requests = map (granted_by ws key) d.requests; links = map (reads_by ws key) d.links; floor = d.floor })) → changed same_key waiter_key wakes_at ws key (cond b (Some (granted w.who w.version w.stamp c)) (Some c)) ≡ Some (record { requests = map (λ r. granted_by ws key (cond b (grants_to w.who r) r)) c.requests; links = map (λ l. reads_by ws key (cond b (read_by w.version w.stamp l) l)) c.links; floor = c.floor })
    go true rest = rest (granted w.who w.version w.stamp c) ∙ (λ i. Some (record { requests = map_two (granted_by ws key) (grants_to w.who) c.requests i; links = map_two (reads_by ws key) (read_by w.version w.stamp) c.links i; floor = c.floor }))
    go false rest = rest c

pub wakes_nothing : (ws : List Waiter) (key : Key) → changed same_key waiter_key wakes_at ws key None ≡ None
wakes_nothing ws key = changed_nothing waiter_key wakes_at ws key (λ x. refl)

pub wakes_requests : (ws : List Waiter) (key : Key) (x : Option Chain) → requests_in (changed same_key waiter_key wakes_at ws key x) ≡ map (granted_by ws key) (requests_in x)
wakes_requests ws key None = ap requests_in (wakes_nothing ws key)
wakes_requests ws key (Some c) = ap requests_in (wakes_is ws key c)

pub trims_requests : (ks : List Key) (at : Key) (x : Option Chain) → requests_in (changed same_key key_of trims_at ks at x) ≡ requests_in x
trims_requests [] at x = refl
trims_requests (k ∷ ks) at x = go (same_key k at) x (λ y. trims_requests ks at y)
  where
    go : (b : Bool) (x : Option Chain) → ((y : Option Chain) → requests_in (changed same_key key_of trims_at ks at y) ≡ requests_in y) → requests_in (changed same_key key_of trims_at ks at (cond b (option_map trimmed x) x)) ≡ requests_in x
    go false x rest = rest x
    go true None rest = rest None
    go true (Some c) rest = rest (Some (trimmed c))
