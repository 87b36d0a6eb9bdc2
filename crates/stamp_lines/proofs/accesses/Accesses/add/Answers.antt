use Rattle.std.proofs.Common.{refl, ap, arith}
use Rattle.stamp_lines.specs.Tables.{line_at}
use Rattle.stamp_lines.proofs.Puts.{undone}
use Rattle.stamp_lines.proofs.accesses.Accesses.add.Goals as goal

pub returns-in-Err-clause-err : goal.returns-in-Err-clause-err
returns-in-Err-clause-err c =
    let same = c.in-Err.ensures.err in
    record {
      shelf = record { versions = ap (λ x. x.versions) same.store; holds = same.holds; promised = same.promised; room = omega (arith, ap (λ x. x.spare) same.store) };
      lines = undone c.args.key c.args.request (line_at c.args.self.now.lines) (line_at c.add.new.self) (line_at c.end.new.self) c.requires.once c.in_ok-add.ensures.ok c.end.ensures;
      waiting = refl;
    }
