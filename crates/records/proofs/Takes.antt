-- How much of a text a record takes.
use Rattle.std.proofs.Common.{◌≤◌, ◌≡◌, ◌⊎◌, ◌<◌, ℕ, List, [], ◌∷◌, ◌++◌, length, Bool, true, false, ◌==◌, ◌||◌, Some, refl, sym, ap, subst, inl, inr, arith}
use Rattle.std.specs.Prelude.{if◌then◌else◌}
use Rattle.std.proofs.lemmas.Bool.{cases_Bool}
use Rattle.std.proofs.lemmas.Option.{same_Some}
use Rattle.csv.specs.Machine.{Read, next_record, step, is_end, ends_at_end, fields_after, field_after, in_field, start_field, start_record}
use Rattle.csv.specs.Reading.{default_config}
use Rattle.std.proofs.lemmas.List.{length-append}
use Rattle.csv.specs.declared.parser.Action.{Action}
use Rattle.csv.specs.declared.parser.Action.TheVariants as act
use Rattle.csv.specs.declared.parser.State.{State}
use Rattle.csv.specs.declared.parser.State.TheVariants as st

-- a state that stands between two records
abbrev pub Between : State → Type 0
Between s = ends_at_end s ≡ false

crlf-end : (c : ℕ) → Between (if◌then◌else◌ (c == 13) st.AfterCr st.StartRecord)
crlf-end c = elim (cases_Bool (c == 13)) [ inl h ↦ rw h refl | inr h ↦ rw h refl ]

in-field-end : (c : ℕ) → is_end (in_field default_config c).1 ≡ true → Between (in_field default_config c).0
in-field-end c e = elim (cases_Bool (c == 44)) [
  | inl h ↦ cc (sym (rw h at e))
  | inr h ↦ elim (cases_Bool ((c == 13) || (c == 10))) [
    | inl k ↦ rw (h, k) (crlf-end c)
    | inr k ↦ cc (sym (rw (h, k) at e))
  ]
]

start-field-end : (c : ℕ) → is_end (start_field default_config c).1 ≡ true → Between (start_field default_config c).0
start-field-end c e = elim (cases_Bool (c == 34)) [
  | inl h ↦ cc (sym (rw h at e))
  | inr h ↦ rw h (in-field-end c (rw h at e))
]

start-record-go : (b : Bool) (c : ℕ) → is_end (if◌then◌else◌ b (st.StartRecord, act.Skip) (start_field default_config c)).1 ≡ true
    → Between (if◌then◌else◌ b (st.StartRecord, act.Skip) (start_field default_config c)).0
start-record-go true c e = refl
start-record-go false c e = start-field-end c e

start-record-end : (c : ℕ) → is_end (start_record default_config c).1 ≡ true → Between (start_record default_config c).0
start-record-end c e = start-record-go ((c == 13) || (c == 10)) c e

after-cr-go : (b : Bool) (c : ℕ) → is_end (if◌then◌else◌ b (st.StartRecord, act.Skip) (start_record default_config c)).1 ≡ true
    → Between (if◌then◌else◌ b (st.StartRecord, act.Skip) (start_record default_config c)).0
after-cr-go true c e = refl
after-cr-go false c e = start-record-end c e

step-end : (s : State) (c : ℕ) → is_end (step default_config s c).1 ≡ true → Between (step default_config s c).0
step-end st.StartRecord c e = start-record-end c e
step-end st.StartField c e = start-field-end c e
step-end st.InField c e = in-field-end c e
step-end st.InQuoted c e = elim (cases_Bool (c == 34)) [ inl h ↦ cc (sym (rw h at e)) | inr h ↦ cc (sym (rw h at e)) ]
step-end st.InEscape c e = cc (sym e)
step-end st.AfterQuote c e = elim (cases_Bool (c == 34)) [ inl h ↦ cc (sym (rw h at e)) | inr h ↦ rw h (in-field-end c (rw h at e)) ]
step-end st.InComment c e = elim (cases_Bool (c == 10)) [ inl h ↦ cc (sym (rw h at e)) | inr h ↦ cc (sym (rw h at e)) ]
step-end st.AfterCr c e = after-cr-go (c == 10) c e

-- a record takes at least one byte of a text that has one, and leaves a state between two records
pub record-takes : (xs : List ℕ) (s : State) (f : List (List ℕ)) (p : List ℕ) (r : Read) → next_record default_config s f p xs ≡ Some r
    → (((xs ≡ []) × (r.2 ≡ [])) ⊎ (length r.2 < length xs)) × Between r.1
unfolding next_record
record-takes [] s f p r e = elim (cases_Bool (ends_at_end s)) [
  | inl h ↦ let q = same_Some _ _ (rw h at e) in (inl (refl, ap (λ (w : Read). w.2) (sym q)), subst (λ (w : Read). Between w.1) q refl)
  | inr h ↦ cc (rw h at e)
]
record-takes (c ∷ rest) s f p r e = elim (cases_Bool (is_end (step default_config s c).1)) [
  | inl h ↦
      let q = same_Some _ _ (rw h at e) in
      (inr (subst (λ (w : Read). length w.2 < length (c ∷ rest)) q (omega arith)), subst (λ (w : Read). Between w.1) q (step-end s c h))
  | inr h ↦
      let more = record-takes rest (step default_config s c).0 (fields_after (step default_config s c).1 f p) (field_after (step default_config s c).1 c p) r (rw h at e) in (
        elim more.0 [
          | inl none ↦ inr (rw none.1 (omega arith))
          | inr less ↦ inr (omega (arith, less))
        ],
        more.1,
      )
]

pub no-more : (s : State) (p : Read) → Between s → next_record default_config s [] [] [] ≡ Some p → ⊥
unfolding next_record
no-more s p b e = cc (rw b at e)

-- a record has a field

some-field : (fields : List (List ℕ)) (field : List ℕ) → 1 ≤ length (fields ++ field ∷ [])
some-field fields field = omega (arith, length-append fields (field ∷ []))

ends-field : (a : Action) (fields : List (List ℕ)) (field : List ℕ) → is_end a ≡ true → 1 ≤ length (fields_after a fields field)
ends-field act.EndRecord fields field e = some-field fields field
ends-field act.Skip fields field e = cc (sym e)
ends-field act.Copy fields field e = cc (sym e)
ends-field act.EndField fields field e = cc (sym e)

pub has-field : (xs : List ℕ) (s : State) (f : List (List ℕ)) (p : List ℕ) (r : Read) → next_record default_config s f p xs ≡ Some r → 1 ≤ length r.0
unfolding next_record
has-field [] s f p r e = elim (cases_Bool (ends_at_end s)) [
  | inl h ↦ subst (λ (w : Read). 1 ≤ length w.0) (same_Some _ _ (rw h at e)) (some-field f p)
  | inr h ↦ cc (rw h at e)
]
has-field (c ∷ rest) s f p r e = elim (cases_Bool (is_end (step default_config s c).1)) [
  | inl h ↦ subst (λ (w : Read). 1 ≤ length w.0) (same_Some _ _ (rw h at e)) (ends-field (step default_config s c).1 f p h)
  | inr h ↦ has-field rest (step default_config s c).0 (fields_after (step default_config s c).1 f p) (field_after (step default_config s c).1 c p) r (rw h at e)
]
