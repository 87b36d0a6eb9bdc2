use Rattle.std.proofs.Common.{◌≡◌, [], ap, sym, ◌∙◌, subst}
use Rattle.protocol_rules.specs.Protocols.{chosen}
use Rattle.deneva_base.specs.Rows.{Rows}
use Rattle.protocol_rules.specs.Protocols.{IsVoting}
use Rattle.deneva_base.specs.declared.config.Config.{Config}
use Rattle.server_core.specs.Roles.{role_of}
use Rattle.server_core.specs.Setting.{chosen_or_none}
use Rattle.node_core.proofs.node.NodeServer.begin.Goals as goal

pub returns-clause-stands : goal.returns-clause-stands
returns-clause-stands g c =
    let same = ap (λ (k : Config). k.protocol) c.new-role.ensures.config in
    let role : role_of c.new-role.result ≡ record { config = c.args.config; work = c.args.work.now; part = c.args.part } = λ i. record { config = c.new-role.ensures.config i; work = c.new-role.ensures.work i; part = c.new-role.ensures.part i } in
    record {
      role = c.in_ok-coord.ensures.role ∙ sym role;
      coord = c.in_ok-coord.ensures.stands;
      participant = record {
        votes = subst IsVoting (sym (same ∙ c.requires.protocol)) g.met.C.Chosen.voting;
        rule_is = ap (λ o. (chosen_or_none o).rule) (ap chosen (same ∙ c.requires.protocol) ∙ g.met.C.Chosen.choice);
        fit = tt;
        calls = subst (λ (loaded : Rows). g.C.Control.stands c.in_ok-control.control loaded []) c.in_ok-store_of.ensures.rows c.in_ok-control.ensures.stands;
      };
    }
