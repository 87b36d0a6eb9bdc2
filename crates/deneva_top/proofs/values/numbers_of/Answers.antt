use Rattle.std.proofs.Common.{◌≡◌, ◌∙◌, ◌<◌, ◌≤◌, ◌==◌, ℕ, List, map, length, get_or, true, false, Option, Some, None, refl, ap, sym, lit<, arith}
use Rattle.std.specs.Prelude.{nat_le, if◌then◌else◌}
use Rattle.std.specs.List.{slice_split}
use Rattle.std.specs.Result.{result_ok}
use Rattle.std.proofs.lemmas.Bool.{le-leb}
use Rattle.std.proofs.lemmas.Bool.Decides.{nat_tests}
use Rattle.std.proofs.lemmas.List.{length_push}
use Rattle.std.proofs.lemmas.Iterator.Consumers.{YieldsList-turn, YieldsList-end}
use Rattle.std.proofs.lemmas.Iterator.Splits.{YieldsList-from_str_split}
use Rattle.deneva_top.specs.Words.{all_of, number, numbers_of}
use Rattle.deneva_top.proofs.ListedNumbers.{one_more, one_fails, all_done}
use Rattle.deneva_top.proofs.values.numbers_of.Goals as goal

abbrev partitions_of : List ℕ → List (List ℕ)
partitions_of text = slice_split (λ b. b == 46) text

abbrev read : List ℕ → Option ℕ
read part = number 0 4294967295 part

one_refused : (text : List ℕ) → all_of (map read (partitions_of text)) ≡ None → None ≡ numbers_of text
one_refused text none = elim (nat_le (length (partitions_of text)) 1000) as (λ t. None ≡ (if◌then◌else◌ t (all_of (map read (partitions_of text))) None)) [ true ↦ sym none | false ↦ refl ]

too_many : (text : List ℕ) → 1000 < length (partitions_of text) → None ≡ numbers_of text
too_many text many = let t : nat_le (length (partitions_of text)) 1000 ≡ false = grind (arith, nat_tests) in rw t refl

few_read : (text : List ℕ) (numbers : List ℕ) → length (partitions_of text) ≤ 1000 → all_of (map read (partitions_of text)) ≡ Some numbers → Some numbers ≡ numbers_of text
few_read text numbers few is = let t = le-leb (length (partitions_of text)) 1000 few in rw (t, is) refl

pub returns-in_default : goal.returns-in_default
returns-in_default c =
    let turn = YieldsList-turn (YieldsList-from_str_split 46 c.args.text.now (lit< tt) (cc) (cc) (cc)) c.loop-part.yielded _ c.loop-part.yielded_by _ _ c.in-Some.part c.in-Some.is c.next.ensures.steps in
    let fails : read (get_or (partitions_of c.args.text.now) (length c.loop-part.yielded) c.in-Some.part.now) ≡ None = ap read (sym turn.1 ∙ sym c.as_bytes.ensures.value) ∙ ap result_ok (sym c.in_default.ensures.number) in
    one_refused c.args.text.now (sym c.loop-part.invariant.whole ∙ one_fails read c.loop-part.numbers (partitions_of c.args.text.now) _ _ turn.0 fails)

pub returns-then-len-eq-MOST_LISTED : goal.returns-then-len-eq-MOST_LISTED
returns-then-len-eq-MOST_LISTED c =
    let turn = YieldsList-turn (YieldsList-from_str_split 46 c.args.text.now (lit< tt) (cc) (cc) (cc)) c.loop-part.yielded _ c.loop-part.yielded_by _ _ c.in-Some.part c.in-Some.is c.next.ensures.steps in
    let len = c.len.ensures.len in
    let full = c.if-len-eq-MOST_LISTED.true in
    too_many c.args.text.now (omega (arith, turn.0, c.loop-part.invariant.as_many))

pub loop-part-preserved : goal.loop-part-preserved
loop-part-preserved c =
    let turn = YieldsList-turn (YieldsList-from_str_split 46 c.args.text.now (lit< tt) (cc) (cc) (cc)) c.loop-part.yielded _ c.loop-part.yielded_by _ _ c.in-Some.part c.in-Some.is c.next.ensures.steps in
    let reads : read (get_or (partitions_of c.args.text.now) (length c.loop-part.yielded) c.in-Some.part.now) ≡ Some c.in-Ok.number = ap read (sym turn.1 ∙ sym c.as_bytes.ensures.value) ∙ ap result_ok (sym c.in-Ok.ensures.number) in
    let len = c.len.ensures.len in
    let room = c.if-len-eq-MOST_LISTED.false in
    let pushed = c.in_ok-push.ensures.ok in
    let longer = ap length pushed ∙ length_push c.loop-part.numbers c.in-Ok.number in
    let one = length_push c.loop-part.yielded c.in-Some.part in
    record {
      as_many = omega (arith, c.loop-part.invariant.as_many);
      few = omega (arith, c.loop-part.invariant.few);
      whole = rw (pushed, one) (sym (one_more read c.loop-part.numbers (partitions_of c.args.text.now) _ _ _ turn.0 reads) ∙ c.loop-part.invariant.whole);
    }

pub returns : goal.returns
returns c =
    let end = YieldsList-end (YieldsList-from_str_split 46 c.args.text.now (lit< tt) (cc) (cc) (cc)) c.loop-part.yielded _ c.loop-part.yielded_by _ _ c.in-None.is c.next.ensures.steps in
    few_read c.args.text.now c.loop-part.numbers
    (omega (arith, end.1, c.loop-part.invariant.as_many, c.loop-part.invariant.few))
    (sym c.loop-part.invariant.whole ∙ all_done read c.loop-part.numbers (partitions_of c.args.text.now) _ (omega (arith, end.1)))
