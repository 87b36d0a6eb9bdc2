-- The row that a history leaves is that of the greatest number.
use Rattle.std.proofs.Common.{◌≡◌, ◌⊎◌, List, [], ◌∷◌, Bool, true, false, cond, refl, sym, ap, ◌∙◌, subst, inl, inr, ⊎_elim, arith, Option, Some, None}
use Rattle.std.proofs.lemmas.Bool.Decides.{nat_tests}
use Rattle.deneva_base.specs.declared.keys.Key.{Key}
use Rattle.deneva_base.specs.declared.numbers.Number.{Number}
use Rattle.deneva_base.specs.Keys.{number_lt}
use Rattle.deneva_base.specs.Lists.{IsIn}
use Rattle.deneva_base.specs.Rows.{Row, Rows}
use Rattle.protocol_rules.specs.History.{History, Yea, Decided, yeas, decided}
use Rattle.protocol_rules.specs.Latest.{Version, row_for}
use Rattle.protocol_rules.specs.Leaving.{later, left_in, greatest_at, row_or, rows_left}
use Rattle.protocol_rules.specs.Left.{Leaves, IsGreatestLeft}

not_over : (n : Number) → number_lt n n ≡ false
not_over n = grind (arith, nat_tests)

over_all : (v d e : Number) → number_lt v d ≡ true → number_lt v e ≡ false → number_lt d e ≡ false
over_all v d e f g = grind (arith, nat_tests)

module _ (key : Key) (ys : List Yea) where
  abbrev left : Decided → Option Row
  left d = row_for key (left_in ys d.who)

  -- this version is that of one of them, and none of them has a greater number
  abbrev IsTop : List Decided → Version → Type 0
  IsTop ds v = ((d : Decided) × IsIn d ds × (d.number ≡ v.number) × (left d ≡ Some v.row)) × ((e : Decided) (r : Row) → IsIn e ds → left e ≡ Some r → number_lt v.number e.number ≡ false)

  abbrev Told : List Decided → Option Version → Type 0
  Told ds o = ((v : Version) × (o ≡ Some v) × IsTop ds v) ⊎ ((o ≡ None) × ((d : Decided) (r : Row) → IsIn d ds → left d ≡ Some r → ⊥))

  -- one more that leaves nothing
  skip : (d : Decided) (ds : List Decided) (o : Option Version) → left d ≡ None → Told ds o → Told (d ∷ ds) o
  skip d ds o n t =
      ⊎_elim
      (λ s. inl (s.0, s.1, ((s.2.0.0, inr s.2.0.1, s.2.0.2, s.2.0.3), (λ e r i l. ⊎_elim (λ same. absurd (cc (sym n ∙ ap left (sym same) ∙ l))) (λ j. s.2.1 e r j l) i))))
      (λ s. inr (s.0, (λ e r i l. ⊎_elim (λ same. cc (sym n ∙ ap left (sym same) ∙ l)) (λ j. s.1 e r j l) i)))
      t

  -- or a row
  more : (d : Decided) (ds : List Decided) (o : Option Version) (row : Row) → left d ≡ Some row → Told ds o → Told (d ∷ ds) (later o d.number (Some row))
  more d ds None row n t =
      inl (
        record { number = d.number; row = row },
        refl,
        (
          (d, inl refl, refl, n),
          (λ e r i l. ⊎_elim (λ same. subst (λ (z : Decided). number_lt d.number z.number ≡ false) (sym same) (not_over d.number)) (λ j. ⊎_elim (λ s. absurd (cc (s.1))) (λ s. absurd (s.1 e r j l)) t) i),
        ),
      )
  more d ds (Some v) row n t = go (number_lt v.number d.number) refl
    where
      top : IsTop ds v
      top = ⊎_elim (λ s. let same : s.0 ≡ v = cc (s.1) in subst (IsTop ds) same s.2) (λ s. absurd (cc (s.0))) t

      go : (b : Bool) → number_lt v.number d.number ≡ b → Told (d ∷ ds) (cond b (Some (record { number = d.number; row = row })) (Some v))
      go true f =
          inl (
            record { number = d.number; row = row },
            refl,
            (
              (d, inl refl, refl, n),
              (λ e r i l. ⊎_elim (λ same. subst (λ (z : Decided). number_lt d.number z.number ≡ false) (sym same) (not_over d.number)) (λ j. over_all v.number d.number e.number f (top.1 e r j l)) i),
            ),
          )
      go false f =
          inl (
            v,
            refl,
            (
              (top.0.0, inr top.0.1, top.0.2, top.0.3),
              (λ e r i l. ⊎_elim (λ same. subst (λ (z : Decided). number_lt v.number z.number ≡ false) (sym same) f) (λ j. top.1 e r j l) i),
            ),
          )

  told : (ds : List Decided) → Told ds (greatest_at key ys ds)
  told [] = inr (refl, (λ d r i l. i))
  told (d ∷ ds) = go (left d) refl (told ds)
    where
      go : (o : Option Row) → left d ≡ o → Told ds (greatest_at key ys ds) → Told (d ∷ ds) (later (greatest_at key ys ds) d.number o)
      go None e t = skip d ds (greatest_at key ys ds) e t
      go (Some row) e t = more d ds (greatest_at key ys ds) row e t

pub left_greatest : (loaded : Rows) (h : History) (key : Key) → ((row : Row) × IsGreatestLeft h key row × (rows_left loaded h key ≡ Some row)) ⊎ (((d : Decided) (r : Row) → Leaves h key d r → ⊥) × (rows_left loaded h key ≡ loaded key))
left_greatest loaded h key =
    ⊎_elim
    (λ s.
    let top = s.2 in
    inl (
      s.0.row,
      (top.0.0, (top.0.1, top.0.3), (λ e r l. subst (λ n. number_lt n e.number ≡ false) (sym top.0.2) (top.1 e r l.0 l.1))),
      ap (row_or (loaded key)) s.1,
    ))
    (λ s. inr ((λ d r l. s.1 d r l.0 l.1), ap (row_or (loaded key)) s.0))
    (told key (yeas h) (decided h))
