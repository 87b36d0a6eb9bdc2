use Rattle.std.proofs.Common.{◌≡◌, ◌+◌, ◌<◌, ℕ, suc, [], ◌∷◌, ◌++◌, Bool, true, false, cond, get_or, ◌==◌, sym, ap, ◌∙◌, arith}
use Rattle.std.specs.List.{filter, list_any}
use Rattle.std.proofs.lemmas.List.{append-nil, get_or_read_under}
use Rattle.std.proofs.lemmas.List.Elements.{filter-append}
use Rattle.deneva_base.specs.Partitions.{partition_of}
use Rattle.deneva_base.specs.declared.keys.Access.{Access}
use Rattle.txn_program.specs.Transactions.{numbers_below}
use Rattle.txn_program.proofs.partitions.partitions_of.Goals as goal
use Rattle.txn_program.proofs.partitions.partitions_of.Goals.{then-index+in_ok-push, else-index}

-- one number more
more : (is_marked : ℕ → Bool) (n : ℕ) (b : Bool) → b ≡ is_marked n → filter is_marked (numbers_below n) ++ cond b (n ∷ []) [] ≡ filter is_marked (numbers_below (n + 1))
more is_marked n b is =
    let next : n + 1 ≡ suc n = omega arith in
    let kept = filter is_marked (numbers_below n) in
    rw next (ap (λ a. kept ++ cond a (n ∷ []) []) is ∙ sym (filter-append is_marked (numbers_below n) (n ∷ [])))

pub loop-part-preserved : goal.loop-part-preserved
loop-part-preserved c =
    let n = c.loop-part.part in
    let there : ℕ → Bool = λ p. list_any (λ (a : Access). partition_of a.key c.args.parts == p) c.args.accesses.now in
    let less : n < c.args.parts = omega (arith, c.loop-part-test.true) in
    let marks = c.in_ok-marks.marks.items in
    let read = get_or_read_under marks c.from.result c.args.parts c.index.result.now false c.index.ensures (omega (arith, less)) (sym c.in_ok-marks.ensures.size) in
    let mark : c.index.result.now ≡ there n = read ∙ ap (λ i. get_or marks i false) (omega arith) ∙ c.in_ok-marks.ensures.marked n less in
    elim c.if-index.branch [
      | then-index+in_ok-push w ↦ w.found-is ∙ w.in_ok-push.ensures.ok ∙ ap (λ l. l ++ n ∷ []) c.loop-part.invariant ∙ more there n true (sym w.if-index.true ∙ mark)
      | else-index w ↦ w.found-is ∙ c.loop-part.invariant ∙ sym (append-nil (filter there (numbers_below n))) ∙ more there n false (sym w.if-index.false ∙ mark)
    ]
