use Rattle.std.proofs.Common.{rules, map, decimal, append_assoc}
use Rattle.std.proofs.lemmas.Result.{IfOk-equal}
use Rattle.report.proofs.Lines.{joined}
use Rattle.report.proofs.fields.extend_participants.Goals as goal

pub returns : goal.returns
returns c =
    rw (c.in-Some.ensures.cases.0, joined 46 (decimal c.in-Some.first.now) (map decimal c.in-Some.others.now))
    (search (rules, IfOk-equal, append_assoc))
