-- The entries of a `BTreeMap` from numbers to sales, as items in the order of their numbers.
use Rattle.std.proofs.Common.{◌≡◌, ℕ, List, [], ◌∷◌, refl, ap, arith, Bool, true, false, ◌||◌, cond, Option, Some, eqb}
use Rattle.std.specs.Prelude.{is_some}
use Rattle.std.specs.declared.cmp.Ordering.{Ordering}
use Rattle.std.specs.declared.cmp.Ordering.TheVariants.{Less, Equal, Greater}
use Rattle.std.specs.Ordering.{is_eq, nat_cmp, match_ordering}
use Rattle.std.specs.BTreeMap.{insert_entry, is_at}
use Rattle.std.specs.Map.{lookup}
use Rattle.std.proofs.lemmas.Bool.Decides.{nat_tests}
use Rattle.tpcc_rules.specs.Items.{has_item}
use Rattle.tpcc_rules.specs.declared.programs.Item.{Item}
use Rattle.workload_text.specs.SortedItems.{put_item, numbered, items_in}
use Rattle.workload_text.specs.declared.reading.Sale.{Sale}

nat_cmp_eq : (m n : ℕ) → is_eq (nat_cmp m n) ≡ eqb n m
nat_cmp_eq m n = grind (arith, nat_tests)

nat_cmp_same : (m n : ℕ) → nat_cmp m n ≡ Equal → m ≡ n
nat_cmp_same m n = grind (arith, nat_tests)

has_step : (b c d : Bool) (sale : Sale) (rest : Option Sale) → c ≡ b → d ≡ is_some rest → b || d ≡ is_some (cond c (Some sale) rest)
has_step true c d sale rest e h = rw e refl
has_step false c d sale rest e h = rw (e, h) refl

pub has_item-entries : (es : List (ℕ × Sale)) (n : ℕ) → has_item (items_in es) n ≡ is_some (lookup (is_at (nat_cmp n)) es)
has_item-entries [] n = refl
has_item-entries (e ∷ es) n =
    has_step (eqb e.0 n) (is_at (nat_cmp n) e.0) (has_item (items_in es) n) e.1 (lookup (is_at (nat_cmp n)) es) (nat_cmp_eq n e.0) (has_item-entries es n)

put_step : (e : ℕ × Sale) (es more : List (ℕ × Sale)) (n : ℕ) (sale : Sale) (rest : List Item) (o : Ordering)
    → (o ≡ Equal → n ≡ e.0) → rest ≡ items_in more
    → match_ordering o (numbered (n, sale) ∷ items_in (e ∷ es)) (numbered (n, sale) ∷ items_in es) (numbered e ∷ rest)
    ≡ items_in (match_ordering o ((n, sale) ∷ e ∷ es) ((e.0, sale) ∷ es) (e ∷ more))
put_step e es more n sale rest Less same ih = refl
put_step e es more n sale rest Equal same ih = ap (λ (m : ℕ). numbered (m, sale) ∷ items_in es) (same refl)
put_step e es more n sale rest Greater same ih = ap (λ (l : List Item). numbered e ∷ l) ih

pub put_item-entries : (es : List (ℕ × Sale)) (n : ℕ) (sale : Sale) → put_item (items_in es) (numbered (n, sale)) ≡ items_in (insert_entry nat_cmp es n sale)
put_item-entries [] n sale = refl
put_item-entries (e ∷ es) n sale =
    put_step e es (insert_entry nat_cmp es n sale) n sale (put_item (items_in es) (numbered (n, sale))) (nat_cmp n e.0) (nat_cmp_same n e.0) (put_item-entries es n sale)
