use Rattle.std.proofs.Common.{rules}
use Rattle.stamp_control.proofs.Places.{other_past}
use Rattle.stamp_control.proofs.pasts.Pasts.trim.Goals as goal

pub returns-in-Some-clause-there : goal.returns-in-Some-clause-there
returns-in-Some-clause-there c other n = other_past c.args.self.now.pasts.entries (c.get_mut.follows.lender c.trim.new.self).entries c.args.key c.trim.new.self ((c.get_mut.follows.holds c.trim.new.self).3 (search rules)).0 other n
