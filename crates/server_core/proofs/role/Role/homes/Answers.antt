use Rattle.std.proofs.Common.{eqb, ap, ◌∙◌, arith, append-nil}
use Rattle.std.specs.List.{filter}
use Rattle.std.proofs.lemmas.List.{take_all}
use Rattle.std.proofs.lemmas.Grind.{common_steps}
use Rattle.std.proofs.lemmas.Bool.Decides.{nat_tests}
use Rattle.txn_program.specs.Serial.{all_ids}
use Rattle.txn_program.proofs.Ids.{id_for_each}
use Rattle.server_core.specs.Roles.{setting_of}
use Rattle.server_core.specs.Setting.{home}
use Rattle.server_core.proofs.roles.Homes.{is_id, ids_more}
use Rattle.server_core.proofs.role.Role.homes.Goals as goal

pub home-requires : goal.home-requires
home-requires c = is_id c.args.self.now.work.now c.loop-at.at (omega (arith, c.loop-at-test.true))

pub loop-at-preserved : goal.loop-at-preserved
loop-at-preserved c =
    let r = c.args.self.now in
    grind (arith, common_steps, nat_tests, append-nil, c.home.ensures.home, ids_more r.work.now c.loop-at.at (omega (arith, c.loop-at-test.true)) (λ x. eqb (home (setting_of r) x) r.part))

pub returns : goal.returns
returns c =
    let r = c.args.self.now in
    c.loop-at.invariant
    ∙ ap (filter (λ x. eqb (home (setting_of r) x) r.part)) (take_all c.loop-at.at (all_ids r.work.now) (omega (arith, id_for_each r.work.now)))
