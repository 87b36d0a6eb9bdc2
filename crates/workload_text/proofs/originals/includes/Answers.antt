use Rattle.std.proofs.Common.{◌∙◌, sym}
use Rattle.tpcc_rules.proofs.OrderRows.{includes_here}
use Rattle.workload_text.proofs.originals.includes.Goals as goal

pub returns : goal.returns
returns c =
    includes_here c.args.needle.now c.loop-rest.rest.now (sym c.starts_with.ensures.value ∙ c.loop-rest-test.false) ∙ c.loop-rest.invariant
