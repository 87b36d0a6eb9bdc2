use Rattle.std.proofs.Common.{◌≡◌, true, subst, sym, ap, ◌∙◌}
use Rattle.txn_program.proofs.Ids.{valid_id}
use Rattle.txn_program.specs.Serial.{program_of}
use Rattle.txn_program.specs.Transactions.{home_of}
use Rattle.txn_program.specs.Valid.{is_valid_program}
use Rattle.txn_program.specs.declared.programs.Program.{Program}
use Rattle.server_core.proofs.roles.Homes.{home_is}
use Rattle.server_core.proofs.role.Role.home.Goals as goal

pub home-requires-clause-valid : goal.home-requires-clause-valid
home-requires-clause-valid c =
    let w = c.args.self.now.work.now in
    subst (λ (p : Program). is_valid_program w.load p ≡ true) (sym c.program.ensures) (valid_id w c.args.id c.args.self.now.valid c.requires)

pub returns-clause-home : goal.returns-clause-home
returns-clause-home c =
    let w = c.args.self.now.work.now in
    let parts = c.args.self.now.config.parts in
    c.home.ensures.home
    ∙ ap (λ (p : Program). home_of w.load p parts) c.program.ensures
    ∙ sym (home_is w.load (program_of w c.args.id) parts c.args.self.now.ranges.some_parts)
