use Rattle.std.proofs.Common.{◌≡◌, ℕ, List, [], ◌∷◌, ◌++◌, rules, append_assoc}
use Rattle.std.specs.Prelude.{codes, decimal}
use Rattle.std.proofs.lemmas.Result.{IfOk-equal}
use Rattle.records.specs.Records.{Record}
use Rattle.report.specs.ReportText.{key_text, attempt_text, cause_fields}
use Rattle.report.proofs.aborts.push_cause.Goals as goal

-- five fields behind others
five : (line : Record) (word lo key hi by : List ℕ) → ((((line ++ word ∷ []) ++ lo ∷ []) ++ key ∷ []) ++ hi ∷ []) ++ by ∷ [] ≡ line ++ word ∷ lo ∷ key ∷ hi ∷ by ∷ []
five line word lo key hi by = search (rules, append_assoc)

pub returns-in_ok-push_number-in-EmptyRange-2 : goal.returns-in_ok-push_number-in-EmptyRange-2
returns-in_ok-push_number-in-EmptyRange-2 c =
    let same : c.push_number-in-EmptyRange-2.new.self ++ attempt_text c.in-EmptyRange.hi_by ∷ [] ≡ c.args.line.now ++ cause_fields c.args.cause =
    rw (c.in_ok-push_number-in-EmptyRange-2.ensures, c.in_ok-push_key-in-EmptyRange.ensures, c.in_ok-push_number-in-EmptyRange.ensures, c.in_ok-push-in-EmptyRange.ensures, c.in-EmptyRange.is)
    (five c.args.line.now (codes "emptyrange") (decimal c.in-EmptyRange.lo) (key_text c.in-EmptyRange.lo_key) (decimal c.in-EmptyRange.hi) (attempt_text c.in-EmptyRange.hi_by)) in
    IfOk-equal c.push_attempt-in-EmptyRange.result _ _ _ c.push_attempt-in-EmptyRange.ensures same
