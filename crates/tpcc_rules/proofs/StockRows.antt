-- Stock rows after lines: a number that leaves 64 bits stays outside, since lines only raise it.
use Rattle.std.proofs.Common.{◌≡◌, ◌≢◌, ◌∙◌, ◌≤◌, ◌^◌, ◌-◌, ℕ, zero, suc, ◌+◌, ◌<◌, List, [], ◌∷◌, set, Bool, true, false, not, cond, ◌&&◌, ◌||◌, length, get_or, drop, Option, Some, None, refl, sym, ap, subst, arith, ℤ, pos, negsuc, ◌+ℤ◌}
use Rattle.std.specs.Prelude.{nat_le, slice_get, if◌then◌else◌}
use Rattle.std.specs.List.{filter, fold}
use Rattle.std.proofs.Math.Seq.{drop-cons}
use Rattle.std.proofs.lemmas.Bool.{and_parts, false≢true, leb-true, false_from_ne_true}
use Rattle.deneva_base.specs.Keys.{key_eq}
use Rattle.deneva_base.specs.Rows.{Row}
use Rattle.deneva_base.specs.declared.keys.Key.{Key}
use Rattle.deneva_base.specs.declared.rows.Cell.{Cell}
use Rattle.deneva_base.specs.declared.rows.Cell.TheVariants.{Num, Text}
use Rattle.tpcc_rules.specs.Columns.{fits, fits_all, number_64, number_at, number_of}
use Rattle.tpcc_rules.specs.Effects.{raised, whole}
use Rattle.tpcc_rules.specs.NewOrders.{after_lines, is_great, is_past, is_remote, left_after, stock_of, supplied}
use Rattle.tpcc_rules.specs.Tables.{columns, is_table}
use Rattle.tpcc_rules.specs.declared.programs.Line.{Line}
use Rattle.tpcc_rules.proofs.Past.{held, set_other}

-- a great number stays one

great_more : (z : ℤ) (d : ℕ) → is_great z ≡ true → is_great (z +ℤ pos d) ≡ true
great_more (pos n) d h = let low = leb-true (2 ^ 63) n h in grind (arith, low)
great_more (negsuc n) d h = absurd (false≢true h)

great_kept : (row : Row) (j k d : ℕ) → is_great (number_at row k) ≡ true → is_great (number_at (raised j (pos d) row) k) ≡ true
great_kept [] j k d h = h
great_kept (x ∷ row) zero zero d h = great_more (number_of (Some x)) d h
great_kept (x ∷ row) zero (suc k) d h = h
great_kept (x ∷ row) (suc j) zero d h = h
great_kept (x ∷ row) (suc j) (suc k) d h = great_kept row j k d h

great_if : (b : Bool) (k : ℕ) (x y : Row) → is_great (number_at x k) ≡ true → is_great (number_at y k) ≡ true → is_great (number_at (if b then x else y) k) ≡ true
great_if true k x y h g = h
great_if false k x y h g = g

module _ (w : ℕ) (row : Row) (line : Line) where
  abbrev taken : Row
  taken = set row 0 (Num (pos (left_after (whole (number_at row 0)) line.quantity)))

  abbrev sold : Row
  sold = raised 2 (pos 1) (raised 1 (pos line.quantity) taken)

  great_supplied : (k : ℕ) → k ≢ 0 → is_great (number_at row k) ≡ true → is_great (number_at (supplied w row line) k) ≡ true
  great_supplied k ne h =
      let first : is_great (number_at taken k) ≡ true = ap (λ o. is_great (number_of o)) (set_other row 0 k _ ne) ∙ h in
      let more : is_great (number_at sold k) ≡ true = great_kept (raised 1 (pos line.quantity) taken) 2 k 1 (great_kept taken 1 k line.quantity first) in
      great_if (is_remote w line) k (raised 3 (pos 1) sold) sold (great_kept sold 3 k 1 more) more

  -- a number that has left 64 bits on the way
  first_of : (x y z : Bool) → x ≡ true → (x || y || z) ≡ true
  first_of true y z e = refl
  first_of false y z e = absurd (false≢true e)

  second_of : (x y z : Bool) → y ≡ true → (x || y || z) ≡ true
  second_of true y z e = refl
  second_of false true z e = refl
  second_of false false z e = absurd (false≢true e)

  third_of : (x y z : Bool) → z ≡ true → (x || y || z) ≡ true
  third_of true y z e = refl
  third_of false true z e = refl
  third_of false false z e = e

  pub past_ytd : is_great (number_at (raised 1 (pos line.quantity) taken) 1) ≡ true → is_past (supplied w row line) ≡ true
  past_ytd h =
      let more : is_great (number_at sold 1) ≡ true = great_kept (raised 1 (pos line.quantity) taken) 2 1 1 h in
      first_of _ _ _ (great_if (is_remote w line) 1 (raised 3 (pos 1) sold) sold (great_kept sold 3 1 1 more) more)

  pub past_orders : is_great (number_at sold 2) ≡ true → is_past (supplied w row line) ≡ true
  past_orders h = second_of _ _ _ (great_if (is_remote w line) 2 (raised 3 (pos 1) sold) sold (great_kept sold 3 2 1 h) h)

  pub past_remotes : is_remote w line ≡ true → is_great (number_at (raised 3 (pos 1) sold) 3) ≡ true → is_past (supplied w row line) ≡ true
  past_remotes e h = third_of (is_great (number_at (supplied w row line) 1)) (is_great (number_at (supplied w row line) 2)) _ (ap (λ b. is_great (number_at (if b then raised 3 (pos 1) sold else sold) 3)) e ∙ h)

  or_kept : (a b c x y z : Bool) → (a ≡ true → x ≡ true) → (b ≡ true → y ≡ true) → (c ≡ true → z ≡ true) → (a || b || c) ≡ true → (x || y || z) ≡ true
  or_kept true b c true y z f g h e = refl
  or_kept true b c false y z f g h e = absurd (false≢true (f refl))
  or_kept false true c true y z f g h e = refl
  or_kept false true c false true z f g h e = refl
  or_kept false true c false false z f g h e = absurd (false≢true (g refl))
  or_kept false false true true y z f g h e = refl
  or_kept false false true false true z f g h e = refl
  or_kept false false true false false z f g h e = h refl
  or_kept false false false x y z f g h e = absurd (false≢true e)

  past_supplied : is_past row ≡ true → is_past (supplied w row line) ≡ true
  past_supplied =
      or_kept _ _ _ _ _ _ (great_supplied 1 (λ e. omega (arith, e))) (great_supplied 2 (λ e. omega (arith, e))) (great_supplied 3 (λ e. omega (arith, e)))

past_fold : (w : ℕ) (lines : List Line) (row : Row) → is_past row ≡ true → is_past (fold (supplied w) row lines) ≡ true
past_fold w [] row h = h
past_fold w (line ∷ lines) row h = past_fold w lines (supplied w row line) (past_supplied w row line h)

pub past_after : (w : ℕ) (lines : List Line) (key : Key) (row : Row) → is_past row ≡ true → is_past (after_lines w lines key row) ≡ true
past_after w lines key row h = past_fold w (filter (λ line. key_eq (stock_of line) key) lines) row h

-- and a row with one is none of STOCK

not_great : (x : Cell) → fits number_64 x ≡ true → is_great (number_of (Some x)) ≡ false
not_great (Num (pos n)) h = let b : n ≤ 2 ^ 63 - 1 = leb-true n (2 ^ 63 - 1) (and_parts true (nat_le n (2 ^ 63 - 1)) h).1 in grind (arith, b)
not_great (Num (negsuc n)) h = refl
not_great (Text t) h = absurd (false≢true h)

small_at : (row : Row) (k : ℕ) → slice_get (columns 4) k ≡ Some number_64 → fits_all (columns 4) row ≡ true → is_great (number_at row k) ≡ false
small_at row k c h = let there = held (columns 4) row k number_64 c h in ap (λ o. is_great (number_of o)) there.1 ∙ not_great there.0 there.2

unfit : (row : Row) → is_past row ≡ true → fits_all (columns 4) row ≡ false
unfit row past =
    false_from_ne_true (fits_all (columns 4) row) (λ h. false≢true (sym (rw (small_at row 1 refl h, small_at row 2 refl h, small_at row 3 refl h) refl) ∙ past))

pub past_unfit : (table : ℕ) (row : Row) → table ≡ 4 → is_past row ≡ true → not (is_table table && fits_all (columns table) row) ≡ true
past_unfit table row e past = ap (λ t. not (is_table t && fits_all (columns t) row)) e ∙ ap not (unfit row past)

-- the lines from one on

module _ (w : ℕ) (lines : List Line) (key : Key) (row : Row) (i : ℕ) (d : Line) (within : i < length lines) where
  abbrev line : Line
  line = get_or lines i d

  from_here : after_lines w (drop i lines) key row ≡ after_lines w (line ∷ drop (i + 1) lines) key row
  from_here = ap (λ ls. after_lines w ls key row) (let next : suc i ≡ i + 1 = omega arith in drop-cons lines i d within ∙ ap (λ n. line ∷ drop n lines) next)

  pub after_own : key_eq (stock_of line) key ≡ true → after_lines w (drop i lines) key row ≡ after_lines w (drop (i + 1) lines) key (supplied w row line)
  after_own e = from_here ∙ ap (λ b. fold (supplied w) row (cond b (line ∷ filter (λ l. key_eq (stock_of l) key) (drop (i + 1) lines)) (filter (λ l. key_eq (stock_of l) key) (drop (i + 1) lines)))) e

  pub after_other : key_eq (stock_of line) key ≡ false → after_lines w (drop i lines) key row ≡ after_lines w (drop (i + 1) lines) key row
  after_other e = from_here ∙ ap (λ b. fold (supplied w) row (cond b (line ∷ filter (λ l. key_eq (stock_of l) key) (drop (i + 1) lines)) (filter (λ l. key_eq (stock_of l) key) (drop (i + 1) lines)))) e
