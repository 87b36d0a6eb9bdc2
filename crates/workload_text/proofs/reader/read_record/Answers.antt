use Rattle.std.proofs.Common.{◌≡◌, ◌≤◌, ℕ, List, map, length, ap, arith}
use denote.Ref.{Bor}
use Rattle.std.proofs.lemmas.List.{length-map}
use Rattle.csv.specs.Records.{fields_of}
use Rattle.workload_text.proofs.reader.read_record.Goals as goal

-- a record has as many fields as were taken of it
same_count : (fields : List (Bor (List ℕ))) (r : List (List ℕ)) → map (λ f. f.now) fields ≡ r → 1 ≤ length r → 1 ≤ length fields
same_count fields r e some = omega (arith, ap length e, length-map fields (λ (f : Bor (List ℕ)). f.now), some)

pub meaning-requires-clause-word : goal.meaning-requires-clause-word
meaning-requires-clause-word c =
    rw c.deref.ensures.value (same_count c.in_ok-fields.fields.items (fields_of c.args.current.now) c.in_ok-fields.ensures c.requires.word)
