-- What a read takes of the records that a reader has left.
use Rattle.std.proofs.Common.{◌≡◌, ◌<◌, ◌≤◌, ◌+◌, ℕ, zero, suc, List, [], ◌∷◌, length, Bool, true, false, Option, Some, None, IsSome, refl, sym, ap, ◌∙◌, inl, inr, arith, add-one}
use Rattle.std.specs.Prelude.{if◌then◌else◌}
use Rattle.csv.specs.Machine.{Read, next_record}
use Rattle.csv.specs.Reading.{NextIs, ReadRecord, ReadsNext, default_config, has_failed, is_bom, pending_of, records_from, records_next, strip_bom}
use Rattle.csv.specs.declared.parser.State.{State}
use Rattle.csv.specs.declared.parser.State.TheVariants as st
use Rattle.records.specs.Records.{records_of}
use Rattle.records.specs.Reading.{TextReader, Stands, bytes_left, records_from_bytes, records_left}
use Rattle.records.proofs.Takes.{Between, has-field, no-more, record-takes}

-- a record leaves fewer bytes than it found, from a state between two records
fewer-left : (s : State) (xs : List ℕ) (p : Read) → Between s → next_record default_config s [] [] xs ≡ Some p → length p.2 < length xs
fewer-left s xs p b e =
    let takes = record-takes xs s [] [] p e in
    elim takes.0 [
      | inl none ↦ absurd (no-more s p b (rw none.0 at e))
      | inr fewer ↦ fewer
    ]

-- turns beyond the length of the text add no record
enough-next : (n m : ℕ) (s : State) (xs : List ℕ) (o : Option Read) → next_record default_config s [] [] xs ≡ o
    → ((t : State) (ys : List ℕ) → Between t → length ys < n → length ys < m → records_from default_config n t ys ≡ records_from default_config m t ys)
    → Between s → length xs < suc n → length xs < suc m
    → records_next (records_from default_config n) o ≡ records_next (records_from default_config m) o
enough-next n m s xs None e more b h k = refl
enough-next n m s xs (Some p) e more b h k =
    let less = fewer-left s xs p b e in
    let takes = record-takes xs s [] [] p e in
    ap (λ t. p.0 ∷ t) (more p.1 p.2 takes.1 (omega (arith, less, h)) (omega (arith, less, k)))

enough : (n m : ℕ) (s : State) (xs : List ℕ) → Between s → length xs < n → length xs < m
    → records_from default_config n s xs ≡ records_from default_config m s xs
unfolding records_from
enough zero m s xs b h k = absurd (omega (arith, h))
enough (suc n) zero s xs b h k = absurd (omega (arith, k))
enough (suc n) (suc m) s xs b h k = enough-next n m s xs (next_record default_config s [] [] xs) refl (enough n m) b h k

-- at the end of a text nothing is left
none-left : (s : State) (n : ℕ) → Between s → records_from default_config n s [] ≡ []
unfolding records_from next_record
none-left s zero b = refl
none-left s (suc n) b = rw b refl

after-record : (s : State) (xs : List ℕ) (p : Read) → next_record default_config s [] [] xs ≡ Some p
    → records_from default_config (length xs) p.1 p.2 ≡ records_from default_config (length p.2 + 1) p.1 p.2
after-record s xs p e =
    let takes = record-takes xs s [] [] p e in
    elim takes.0 [
      | inl none ↦ rw none.1 (none-left p.1 (length xs) takes.1 ∙ sym (none-left p.1 1 takes.1))
      | inr fewer ↦ enough (length xs) (length p.2 + 1) p.1 p.2 takes.1 fewer (omega arith)
    ]

turn : (s : State) (xs : List ℕ) → records_from default_config (length xs + 1) s xs ≡ records_next (records_from default_config (length xs)) (next_record default_config s [] [] xs)
unfolding records_from
turn s xs = rw (add-one (length xs)) refl

-- what a read of a record takes of the records left, by what the machine says of it
step-next : (a b : State) (y z : List ℕ) (f : List (List ℕ)) (found : Bool) (o : Option Read) → next_record default_config a [] [] y ≡ o → NextIs o found f b z
    → records_from default_config (length y + 1) a y ≡ (if found then f ∷ records_from default_config (length z + 1) b z else [])
step-next a b y z f found None e n = rw n (turn a y ∙ ap (records_next (records_from default_config (length y))) e)
step-next a b y z f found (Some p) e n =
    rw (n.0, n.1, n.2, n.3) (turn a y ∙ ap (records_next (records_from default_config (length y))) e ∙ ap (λ t. p.0 ∷ t) (after-record a y p e))

step-left : (a b : State) (y : List ℕ) (k : Option (List ℕ)) (f : List (List ℕ)) (found : Bool) → ReadsNext default_config a (Some y) k found f b
    → records_from_bytes a (Some y) ≡ (if found then f ∷ records_from_bytes b k else [])
step-left a b y None f found r = absurd r
step-left a b y (Some z) f found r = step-next a b y z f found (next_record default_config a [] [] y) refl r

known-left : (a b : State) (bytes k : Option (List ℕ)) (f : List (List ℕ)) (found : Bool) → IsSome bytes → ReadsNext default_config a bytes k found f b
    → records_from_bytes a bytes ≡ (if found then f ∷ records_from_bytes b k else [])
known-left a b None k f found some r = cc (sym some)
known-left a b (Some y) k f found some r = step-left a b y k f found r

-- a reader that failed has no record left
pub failed_left : (reader : TextReader) → has_failed reader ≡ true → records_left reader ≡ []
failed_left reader failed = rw failed refl

-- a read of a reader that stands
pub read_left : (a b : TextReader) (f : List (List ℕ)) (found : Bool) → Stands a → ReadRecord (λ text. Some text.now) a b found f
    → records_left a ≡ (if found then f ∷ records_left b else [])
read_left a b f found stands r =
    rw r.1 (known-left a.state b.state (bytes_left a) (pending_of (Some b.rdr.now) b) f found stands.4 (rw stands.2 at r.0))

-- what a read found has a field

next-field : (found : Bool) (o : Option Read) (a b : State) (y z : List ℕ) (f : List (List ℕ)) → next_record default_config a [] [] y ≡ o → NextIs o found f b z
    → found ≡ true → 1 ≤ length f
next-field found None a b y z f e n is = cc (n, is)
next-field found (Some p) a b y z f e n is = rw n.1 (has-field y a [] [] p e)

known-field : (found : Bool) (a b : State) (bytes k : Option (List ℕ)) (f : List (List ℕ)) → IsSome bytes → ReadsNext default_config a bytes k found f b → found ≡ true → 1 ≤ length f
known-field found a b None k f some r is = cc (sym some)
known-field found a b (Some y) None f some r is = absurd r
known-field found a b (Some y) (Some z) f some r is = next-field found (next_record default_config a [] [] y) a b y z f refl r is

pub read_field : (a b : TextReader) (f : List (List ℕ)) (found : Bool) → Stands a → ReadRecord (λ text. Some text.now) a b found f → found ≡ true → 1 ≤ length f
read_field a b f found stands r is =
    known-field found a.state b.state (bytes_left a) (pending_of (Some b.rdr.now) b) f stands.4 (rw stands.2 at r.0) is

-- a text has no more records than bytes

counted-next : (n : ℕ) (s : State) (xs : List ℕ) (o : Option Read) → next_record default_config s [] [] xs ≡ o
    → ((t : State) (ys : List ℕ) → Between t → length (records_from default_config n t ys) ≤ length ys)
    → Between s → length (records_next (records_from default_config n) o) ≤ length xs
counted-next n s xs None e more b = omega arith
counted-next n s xs (Some p) e more b =
    omega (arith, more p.1 p.2 (record-takes xs s [] [] p e).1, fewer-left s xs p b e)

counted : (n : ℕ) (s : State) (xs : List ℕ) → Between s → length (records_from default_config n s xs) ≤ length xs
unfolding records_from
counted zero s xs b = omega arith
counted (suc n) s xs b = counted-next n s xs (next_record default_config s [] [] xs) refl (counted n) b

unmarked : (t : Bool) (a b c : ℕ) (rest : List ℕ) → length (if t then rest else a ∷ b ∷ c ∷ rest) ≤ length (a ∷ b ∷ c ∷ rest)
unmarked true a b c rest = omega arith
unmarked false a b c rest = omega arith

without-mark : (xs : List ℕ) → length (strip_bom xs) ≤ length xs
unfolding strip_bom
without-mark [] = omega arith
without-mark (a ∷ []) = omega arith
without-mark (a ∷ b ∷ []) = omega arith
without-mark (a ∷ b ∷ c ∷ rest) = unmarked (is_bom a b c) a b c rest

pub records_counted : (xs : List ℕ) → length (records_of xs) ≤ length xs
records_counted xs = omega (arith, counted (length (strip_bom xs) + 1) st.StartRecord (strip_bom xs) refl, without-mark xs)
