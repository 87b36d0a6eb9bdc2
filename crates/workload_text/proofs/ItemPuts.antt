-- An item put among items in the order of their numbers.
use Rattle.std.proofs.Common.{◌≡◌, ℕ, ◌+◌, ◌==◌, Bool, true, false, ◌||◌, List, [], ◌∷◌, length, refl, sym, ap, ◌∙◌, arith}
use Rattle.std.specs.List.{fold}
use Rattle.std.specs.Ordering.{nat_cmp, match_ordering}
use Rattle.std.specs.declared.cmp.Ordering.{Ordering}
use Rattle.std.specs.declared.cmp.Ordering.TheVariants.{Less, Equal, Greater}
use Rattle.std.proofs.lemmas.Bool.{or_parts, true≢false, eq-eqb}
use Rattle.std.proofs.lemmas.Map.Lookups.{exact_unsigned}
use Rattle.tpcc_rules.specs.Items.{has_item}
use Rattle.tpcc_rules.specs.declared.programs.Item.{Item}
use Rattle.workload_text.specs.SortedItems.{put_item}
use Rattle.workload_text.proofs.Puts.{or_twice, or_swap}

-- equal numbers compare as equal, and no others
same_number : (a b : ℕ) → nat_cmp a b ≡ Equal → a ≡ b
same_number a b e = exact_unsigned a b e

-- the item of a number that no item had is one more
length_at : (o : Ordering) (i j : Item) (items rest : List Item) → nat_cmp i.number j.number ≡ o → (j.number == i.number) ≡ false
    → length rest ≡ length items + 1 → length (match_ordering o (i ∷ j ∷ items) (i ∷ items) (j ∷ rest)) ≡ length (j ∷ items) + 1
length_at Less i j items rest e new h = omega arith
length_at Equal i j items rest e new h =
    absurd (true≢false (sym (eq-eqb j.number i.number (sym (same_number i.number j.number e))) ∙ new))
length_at Greater i j items rest e new h = omega arith

pub length-put_item : (items : List Item) (i : Item) → has_item items i.number ≡ false → length (put_item items i) ≡ length items + 1
length-put_item [] i h = refl
length-put_item (j ∷ items) i h =
    length_at (nat_cmp i.number j.number) i j items (put_item items i) refl (or_parts _ _ h).0 (length-put_item items i (or_parts _ _ h).1)

-- the numbers are those that were there and the new one
has_at : (o : Ordering) (i j : Item) (n : ℕ) (items rest : List Item) → nat_cmp i.number j.number ≡ o
    → has_item rest n ≡ ((i.number == n) || has_item items n)
    → has_item (match_ordering o (i ∷ j ∷ items) (i ∷ items) (j ∷ rest)) n ≡ ((i.number == n) || ((j.number == n) || has_item items n))
has_at Less i j n items rest e h = refl
has_at Equal i j n items rest e h =
    or_twice (i.number == n) (has_item items n)
    ∙ ap (λ q. (i.number == n) || ((q == n) || has_item items n)) (same_number i.number j.number e)
has_at Greater i j n items rest e h =
    ap (λ b. (j.number == n) || b) h ∙ or_swap (i.number == n) (j.number == n) (has_item items n)

pub has_item-put_item : (items : List Item) (i : Item) (n : ℕ) → has_item (put_item items i) n ≡ ((i.number == n) || has_item items n)
has_item-put_item [] i n = refl
has_item-put_item (j ∷ items) i n =
    has_at (nat_cmp i.number j.number) i j n items (put_item items i) refl (has_item-put_item items i n)

pub or_move : (a b c : Bool) → ((a || b) || c) ≡ (b || (a || c))
or_move true true c = refl
or_move true false c = refl
or_move false b c = refl

pub or_none : (t : Bool) → t ≡ (t || false)
or_none true = refl
or_none false = refl

-- and so after any number of them
pub has_item-puts : (items more : List Item) (n : ℕ) → has_item (fold put_item items more) n ≡ (has_item items n || has_item more n)
has_item-puts items [] n = or_none (has_item items n)
has_item-puts items (i ∷ more) n =
    has_item-puts (put_item items i) more n ∙ ap (λ t. t || has_item more n) (has_item-put_item items i n)
    ∙ or_move (i.number == n) (has_item items n) (has_item more n)
