-- The greatest committed write of a key, told in several ways.
use Rattle.std.proofs.Common.{◌≡◌, ℕ, ◌<◌, ◌≤◌, List, [], ◌∷◌, ◌++◌, filter, Bool, true, ltb, refl, sym, ap, ◌∙◌, inl, inr, ⊎_elim, arith, Option, Some, None}
use Rattle.std.proofs.lemmas.Bool.{lt-ltb}
use Rattle.deneva_base.specs.declared.keys.Key.{Key}
use Rattle.deneva_base.specs.declared.numbers.Number.{Number}
use Rattle.deneva_base.specs.Lists.{IsIn}
use Rattle.deneva_base.specs.Rows.{Row, Rows}
use Rattle.protocol_rules.specs.History.{Ask, Prepare, Commit, Abort, History, yeas}
use Rattle.protocol_rules.specs.Latest.{Version, row_for, writes_in, newer, latest}
use Rattle.protocol_rules.specs.Versions.{version_of, written, start, greatest, below}
use Rattle.protocol_rules.specs.Timestamp.{top_written}
use Rattle.protocol_rules.proofs.Belows.{greatest_in, greatest_over, greatest_le, not_above}
use Rattle.protocol_rules.proofs.Timestamps.{top_by}

one_more : (v : Version) (vs : List Version) (number : Number) (r : Option Row) → newer (greatest v vs) number r ≡ greatest v (version_of number r ++ vs)
one_more v vs number None = refl
one_more v vs number (Some row) = refl

all_pass : {A : Type 0} (p : A → Bool) (xs : List A) → ((x : A) → IsIn x xs → p x ≡ true) → filter p xs ≡ xs
all_pass p [] f = refl
all_pass p (x ∷ xs) f = rw (f x (inl refl)) (ap (λ ys. x ∷ ys) (all_pass p xs (λ y i. f y (inr i))))

module _ (loaded : Rows) where
  pub latest_greatest : (h : History) (key : Key) → latest loaded h key ≡ greatest (start loaded key) (written h key)
  latest_greatest [] key = refl
  latest_greatest (Ask who stamp k mode answer ∷ h) key = latest_greatest h key
  latest_greatest (Prepare who bound writes appends vote ∷ h) key = latest_greatest h key
  latest_greatest (Commit who number woken ∷ h) key =
      ap (λ v. newer v number (row_for key (writes_in (yeas h) who))) (latest_greatest h key) ∙ one_more (start loaded key) (written h key) number (row_for key (writes_in (yeas h) who))
  latest_greatest (Abort who woken ∷ h) key = latest_greatest h key

  pub latest_top : (h : History) (key : Key) → (latest loaded h key).number.n ≡ top_written h key
  latest_top h key = ap (λ v. v.number.n) (latest_greatest h key) ∙ omega (arith, at_most, at_least)
    where
      top : Version
      top = greatest (start loaded key) (written h key)

      at_most : top.number.n ≤ top_written h key
      at_most = ⊎_elim (λ e. omega (arith, ap (λ v. v.number.n) e)) (λ i. top_by (λ v. v.number.n) top (written h key) i) (greatest_in (start loaded key) (written h key))

      at_least : top_written h key ≤ top.number.n
      at_least = greatest_le (λ v. v.number.n) top.number.n (written h key) (λ x i. not_above top.number x.number (greatest_over (start loaded key) (written h key) x (inr i)))

  pub below_latest : (h : History) (key : Key) (stamp : ℕ) → ((v : Version) → IsIn v (written h key) → v.number.n < stamp) → below loaded h key stamp ≡ latest loaded h key
  below_latest h key stamp f = ap (greatest (start loaded key)) (all_pass (λ v. ltb v.number.n stamp) (written h key) (λ v i. lt-ltb v.number.n stamp (f v i))) ∙ sym (latest_greatest h key)
