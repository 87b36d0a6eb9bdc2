use Rattle.std.proofs.Common.{rules, arith}
use Rattle.deneva_base.specs.Keys.{attempt_eq}
use Rattle.key_table.proofs.Places.{sets_to}
use Rattle.shelf.specs.Held.{nothing}
use Rattle.shelf.proofs.shelf.Shelf.keep.Goals as goal

pub returns-in-Ok-clause-ok : goal.returns-in-Ok-clause-ok
returns-in-Ok-clause-ok c =
    record {
      versions = c.reserve.ensures.versions;
      holds = sets_to attempt_eq nothing c.args.self.now.holdings (c.slot.follows.lender c.promise.new.self) c.args.who c.promise.new.self _ (search rules) ((c.slot.follows.holds c.promise.new.self) (search rules));
      promised = search (rules, arith);
      room = search (rules, arith);
    }
