-- The stocks of an order, each once.
use Rattle.std.proofs.Common.{◌≡◌, ◌≤◌, List, [], ◌∷◌, map, length, Bool, cond, not, true, false, sym, ap, ◌∙◌, inl, inr, ⊎_elim, arith}
use Rattle.std.specs.List.{filter}
use Rattle.std.proofs.lemmas.Bool.{true≢false, not-true}
use Rattle.std.proofs.lemmas.List.{length-map}
use Rattle.std.proofs.lemmas.List.Sums.{length-filter, count_by-le-length}
use Rattle.deneva_base.specs.Keys.{key_eq}
use Rattle.deneva_base.specs.Lists.{IsIn}
use Rattle.deneva_base.specs.declared.keys.Key.{Key}
use Rattle.deneva_base.proofs.KeyOrder.{Decides-key_eq}
use Rattle.tpcc_rules.specs.NewOrders.{once, stocks, stock_of, is_loaded}
use Rattle.tpcc_rules.specs.declared.programs.Item.{Item}
use Rattle.tpcc_rules.specs.declared.programs.Line.{Line}
use Rattle.txn_program.specs.Apart.{DistinctBy}
use Rattle.txn_program.proofs.Members.{in_map_from, in_filter_from}

pub filter_shorter : {A : Type 0} (p : A → Bool) (xs : List A) → length (filter p xs) ≤ length xs
filter_shorter p xs = omega (arith, length-filter p xs, count_by-le-length p xs)

pub in_once : (key : Key) (keys : List Key) → IsIn key (once keys) → IsIn key keys
in_once key [] i = i
in_once key (k ∷ keys) i = ⊎_elim (λ e. inl e) (λ j. inr (in_once key keys (in_filter_from (λ q. not (key_eq q k)) key (once keys) j).0)) i

once_shorter : (keys : List Key) → length (once keys) ≤ length keys
once_shorter [] = omega arith
once_shorter (key ∷ keys) = omega (arith, filter_shorter (λ k. not (key_eq k key)) (once keys), once_shorter keys)

distinct_filter : {A B : Type 0} (f : A → B) (p : A → Bool) (xs : List A) → DistinctBy f xs → DistinctBy f (filter p xs)
distinct_filter f p [] d = tt
distinct_filter f p (x ∷ xs) d = go (p x) (distinct_filter f p xs d.1)
  where
    go : (b : Bool) → DistinctBy f (filter p xs) → DistinctBy f (cond b (x ∷ filter p xs) (filter p xs))
    go true more = (λ y i. d.0 y (in_filter_from p y xs i).0, more)
    go false more = more

distinct_once : (keys : List Key) → DistinctBy (λ (k : Key). k) (once keys)
distinct_once [] = tt
distinct_once (key ∷ keys) = (
  λ y i e. true≢false (sym ((Decides-key_eq y key).1 e) ∙ not-true _ (in_filter_from (λ k. not (key_eq k key)) y (once keys) i).1),
  distinct_filter (λ (k : Key). k) (λ k. not (key_eq k key)) (once keys) (distinct_once keys),
)

module _ (items : List Item) (lines : List Line) where
  pub few_stocks : length (stocks items lines) ≤ length lines
  few_stocks = omega (arith, once_shorter (map stock_of (filter (is_loaded items) lines)), length-map (filter (is_loaded items) lines) stock_of, filter_shorter (is_loaded items) lines)

  pub distinct_stocks : DistinctBy (λ (k : Key). k) (stocks items lines)
  distinct_stocks = distinct_once (map stock_of (filter (is_loaded items) lines))

  pub stock_table : (key : Key) → IsIn key (stocks items lines) → key.table ≡ 4
  stock_table key i = ap (λ (k : Key). k.table) (in_map_from stock_of key (filter (is_loaded items) lines) (in_once key _ i)).2
