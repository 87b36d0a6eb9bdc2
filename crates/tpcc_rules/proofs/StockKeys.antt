-- The keys of stock rows, each once.
use Rattle.std.proofs.Common.{◌≡◌, ◌∙◌, ℕ, zero, suc, ◌+◌, ◌<◌, List, [], ◌∷◌, ◌++◌, map, Bool, true, false, not, cond, ◌&&◌, ◌||◌, length, get_or, take, All, Option, Some, None, refl, sym, ap, subst, arith}
use Rattle.std.specs.Prelude.{option_map, is_some, ⊤, ◌==◌}
use Rattle.std.specs.List.{filter, list_any}
use Rattle.std.proofs.Math.Seq.{take-suc}
use Rattle.std.proofs.lemmas.Bool.{false≢true}
use Rattle.std.proofs.lemmas.List.Elements.{filter-append}
use Rattle.std.proofs.lemmas.List.Folds.{list_any-append}
use Rattle.std.proofs.lemmas.Map.Views.{any-filter_same}
use Rattle.deneva_base.specs.Keys.{key_eq}
use Rattle.deneva_base.specs.declared.keys.Key.{Key}
use Rattle.deneva_base.proofs.KeyOrder.{Decides-key_eq, key_eq_equivalence}
use Rattle.tpcc_rules.specs.Items.{has_item, item_numbered}
use Rattle.tpcc_rules.specs.NewOrders.{is_loaded, once, stock_of, stocks}
use Rattle.tpcc_rules.specs.declared.programs.Item.{Item}
use Rattle.tpcc_rules.specs.declared.programs.Line.{Line}

-- an item is found where one has the number

is_some_if : (b : Bool) (i : Item) (o : Option Item) → is_some (cond b (Some i) o) ≡ (b || is_some o)
is_some_if true i o = refl
is_some_if false i o = refl

is_some-numbered : (items : List Item) (n : ℕ) → is_some (item_numbered items n) ≡ has_item items n
is_some-numbered [] n = refl
is_some-numbered (i ∷ items) n = is_some_if (i.number == n) i (item_numbered items n) ∙ ap (λ b. (i.number == n) || b) (is_some-numbered items n)

is_some-map : {A : Type 0} (f : A → Item) (o : Option A) → is_some o ≡ is_some (option_map f o)
is_some-map f None = refl
is_some-map f (Some a) = refl

pub has_found : {A : Type 0} (f : A → Item) (o : Option A) (items : List Item) (n : ℕ) → option_map f o ≡ item_numbered items n → is_some o ≡ has_item items n
has_found f o items n e = is_some-map f o ∙ ap is_some e ∙ is_some-numbered items n

-- a key is among those taken once where it is among them

module _ (k : Key) where
  abbrev is_it : Key → Bool
  is_it q = key_eq q k

  -- keys that are k are not x, where x is not k
  kept : (x : Key) → is_it x ≡ false → (y : Key) → is_it y ≡ true → not (key_eq y x) ≡ true
  kept x other y e = ap not (key_eq_equivalence.symm y x ∙ ap (key_eq x) ((Decides-key_eq y k).0 e) ∙ other)

  any_once : (keys : List Key) → list_any is_it (once keys) ≡ list_any is_it keys
  any_once [] = refl
  any_once (x ∷ keys) = go (is_it x) refl (any_once keys)
    where
      go : (b : Bool) → is_it x ≡ b → list_any is_it (once keys) ≡ list_any is_it keys → (is_it x || list_any is_it (filter (λ q. not (key_eq q x)) (once keys))) ≡ (is_it x || list_any is_it keys)
      go true e more = rw e refl
      go false e more = ap (λ b. is_it x || b) (any-filter_same is_it (λ q. not (key_eq q x)) true (kept x e) (once keys) ∙ more)

  filter_last : (x : Key) (keys : List Key) (b : Bool) → not (key_eq k x) ≡ b → filter (λ q. not (key_eq q x)) (keys ++ k ∷ []) ≡ filter (λ q. not (key_eq q x)) keys ++ cond b (k ∷ []) []
  filter_last x keys b e = filter-append (λ q. not (key_eq q x)) keys (k ∷ []) ∙ ap (λ c. filter (λ q. not (key_eq q x)) keys ++ cond c (k ∷ []) []) e

  or_none : (a b : Bool) → (a || b) ≡ false → (a ≡ false) × (b ≡ false)
  or_none true b h = absurd (false≢true (sym h))
  or_none false b h = (refl, h)

  -- a new key comes last
  once_new : (keys : List Key) → list_any is_it keys ≡ false → once (keys ++ k ∷ []) ≡ once keys ++ k ∷ []
  once_new [] h = refl
  once_new (x ∷ keys) h =
      let parts = or_none (is_it x) (list_any is_it keys) h in
      ap (λ qs. x ∷ filter (λ q. not (key_eq q x)) qs) (once_new keys parts.1)
      ∙ ap (λ qs. x ∷ qs) (filter_last x (once keys) true (ap not (key_eq_equivalence.symm k x ∙ parts.0)))

  append_none : (keys : List Key) → keys ++ [] ≡ keys
  append_none [] = refl
  append_none (x ∷ keys) = ap (λ qs. x ∷ qs) (append_none keys)

  -- and one that was there changes nothing
  once_again : (keys : List Key) → list_any is_it keys ≡ true → once (keys ++ k ∷ []) ≡ once keys
  once_again [] h = absurd (false≢true h)
  once_again (x ∷ keys) h = go (list_any is_it keys) refl (is_it x) refl (once_again keys)
    where
      go : (b : Bool) → list_any is_it keys ≡ b → (c : Bool) → is_it x ≡ c → (list_any is_it keys ≡ true → once (keys ++ k ∷ []) ≡ once keys) → once (x ∷ keys ++ k ∷ []) ≡ once (x ∷ keys)
      go true e c f more = ap (λ qs. x ∷ filter (λ q. not (key_eq q x)) qs) (more e)
      go false e true f more =
          ap (λ qs. x ∷ filter (λ q. not (key_eq q x)) qs) (once_new keys e)
          ∙ ap (λ qs. x ∷ qs) (filter_last x (once keys) false (ap not (key_eq_equivalence.symm k x ∙ f)) ∙ append_none (filter (λ q. not (key_eq q x)) (once keys)))
      go false e false f more = absurd (false≢true (sym (ap (λ b. b || list_any is_it keys) f ∙ e) ∙ h))

-- one more line

module _ (items : List Item) (lines : List Line) (i : ℕ) (d : Line) (within : i < length lines) where
  abbrev line : Line
  line = get_or lines i d

  abbrev before : List Key
  before = map stock_of (filter (is_loaded items) (take i lines))

  one_more : stocks items (take (i + 1) lines) ≡ once (map stock_of (filter (is_loaded items) (take i lines ++ line ∷ [])))
  one_more = ap (stocks items) (let next : i + 1 ≡ suc i = omega arith in ap (λ n. take n lines) next ∙ take-suc lines i d within)

  map_last : (xs : List Line) (l : Line) → map stock_of (xs ++ l ∷ []) ≡ map stock_of xs ++ stock_of l ∷ []
  map_last [] l = refl
  map_last (x ∷ xs) l = ap (λ ks. stock_of x ∷ ks) (map_last xs l)

  no_more : (ls : List Line) → ls ++ [] ≡ ls
  no_more [] = refl
  no_more (x ∷ ls) = ap (λ qs. x ∷ qs) (no_more ls)

  filtered : (b : Bool) → is_loaded items line ≡ b → filter (is_loaded items) (take i lines ++ line ∷ []) ≡ filter (is_loaded items) (take i lines) ++ cond b (line ∷ []) []
  filtered b e = filter-append (is_loaded items) (take i lines) (line ∷ []) ∙ ap (λ c. filter (is_loaded items) (take i lines) ++ cond c (line ∷ []) []) e

  loaded : is_loaded items line ≡ true → stocks items (take (i + 1) lines) ≡ once (before ++ stock_of line ∷ [])
  loaded e = one_more ∙ ap (λ ls. once (map stock_of ls)) (filtered true e) ∙ ap once (map_last (filter (is_loaded items) (take i lines)) line)

  pub unloaded : is_loaded items line ≡ false → stocks items (take i lines) ≡ stocks items (take (i + 1) lines)
  unloaded e = sym (one_more ∙ ap (λ ls. once (map stock_of ls)) (filtered false e ∙ no_more (filter (is_loaded items) (take i lines))))

  module _ (keys : List Key) (key : Key) (those : keys ≡ stocks items (take i lines)) (its : key ≡ stock_of line) (there : is_loaded items line ≡ true) where
    among : list_any (λ k. key_eq k key) keys ≡ list_any (λ k. key_eq k (stock_of line)) before
    among = ap (λ ks. list_any (λ k. key_eq k key) ks) those ∙ ap (λ q. list_any (λ k. key_eq k q) (once before)) its ∙ any_once (stock_of line) before

    pub taken_first : list_any (λ k. key_eq k key) keys ≡ false → keys ++ key ∷ [] ≡ stocks items (take (i + 1) lines)
    taken_first new =
        ap (λ ks. ks ++ key ∷ []) those ∙ ap (λ k. once before ++ k ∷ []) its
        ∙ sym (loaded there ∙ once_new (stock_of line) before (sym among ∙ new))

    pub taken_again : list_any (λ k. key_eq k key) keys ≡ true → keys ≡ stocks items (take (i + 1) lines)
    taken_again old = those ∙ sym (loaded there ∙ once_again (stock_of line) before (sym among ∙ old))

-- all are keys of STOCK

abbrev InStock : List Key → Type 0
InStock [] = ⊤
InStock (k ∷ keys) = (k.table ≡ 4) × InStock keys

in_stock-map : (lines : List Line) → InStock (map stock_of lines)
in_stock-map [] = tt
in_stock-map (l ∷ lines) = (refl, in_stock-map lines)

in_stock-filter : (p : Key → Bool) (keys : List Key) → InStock keys → InStock (filter p keys)
in_stock-filter p [] h = tt
in_stock-filter p (k ∷ keys) h = go (p k) (in_stock-filter p keys h.1)
  where
    go : (b : Bool) → InStock (filter p keys) → InStock (cond b (k ∷ filter p keys) (filter p keys))
    go true more = (h.0, more)
    go false more = more

in_stock-once : (keys : List Key) → InStock keys → InStock (once keys)
in_stock-once [] h = tt
in_stock-once (k ∷ keys) h = (h.0, in_stock-filter (λ q. not (key_eq q k)) (once keys) (in_stock-once keys h.1))

by_place : (keys : List Key) → InStock keys → All (λ k. k.table ≡ 4) keys
by_place [] h i d within = absurd (omega arith)
by_place (k ∷ keys) h zero d within = h.0
by_place (k ∷ keys) h (suc i) d within = by_place keys h.1 i d (omega arith)

pub stocks_in_stock : (items : List Item) (lines : List Line) → All (λ k. k.table ≡ 4) (stocks items lines)
stocks_in_stock items lines = by_place (stocks items lines) (in_stock-once _ (in_stock-map (filter (is_loaded items) lines)))
