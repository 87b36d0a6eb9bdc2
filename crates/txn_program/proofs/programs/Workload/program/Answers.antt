use Rattle.std.proofs.Common.{◌-◌, sym, [], arith}
use Rattle.std.proofs.lemmas.Option.{get_or_from_slice_get}
use Rattle.txn_program.specs.declared.programs.Program.TheVariants.{Ycsb}
use Rattle.txn_program.proofs.Ids.{id_between, id_for_each}
use Rattle.txn_program.proofs.programs.Workload.program.Goals as goal

pub overflow_sub-id : goal.overflow_sub-id
overflow_sub-id c = (id_between c.args.self.now c.args.id c.requires).0

pub get-requires : goal.get-requires
get-requires c = let b = id_between c.args.self.now c.args.id c.requires in omega (arith, b.0, b.1, id_for_each c.args.self.now)

pub returns : goal.returns
returns c = sym (get_or_from_slice_get c.args.self.now.programs (c.args.id.0 - 1) c.get.result.now (Ycsb []) c.get.ensures)
