use Rattle.std.proofs.Common.{◌≡◌, sym, subst, rules}
use Rattle.std.specs.List.{filter}
use Rattle.deneva_base.specs.Rows.{rows_in}
use Rattle.tpcc_rules.specs.Names.{is_customer}
use Rattle.workload_text.specs.LastNames.{HasMiddles}
use Rattle.workload_text.proofs.LastNames.{of_customers, number_in}
use Rattle.workload_text.proofs.loaded.Loaded.customer_named.Goals as goal
use Rattle.workload_text.proofs.loaded.Loaded.customer_named.Goals.{in-Some, in-None+in_ok-customers-in-None+in_ok-middles-in-None}

pub invariant_of-self-2 : goal.invariant_of-self-2
invariant_of-self-2 c =
    let rows = rows_in c.self.inside.rows.entries in
    elim c.match-take.branch [
      | in-Some w ↦ search rules
      | in-None+in_ok-customers-in-None+in_ok-middles-in-None w ↦
          let list : w.as_slice.result.now ≡ filter is_customer rows = search rules in
          subst (λ m. HasMiddles m rows) (sym w.middles-is)
          (of_customers w.in_ok-middles-in-None.middles rows (subst (HasMiddles w.in_ok-middles-in-None.middles) list w.in_ok-middles-in-None.ensures))
    ]

pub returns-clause-number : goal.returns-clause-number
returns-clause-number c =
    number_in c.match-take.middles c.args.self.now c.in_ok-name.name c.args.w c.args.d c.args.last.now
    (subst (HasMiddles c.match-take.middles) c.self.view_is (invariant_of-self-2 c))
    c.in_ok-name.ensures.0 c.in_ok-name.ensures.1 c.in_ok-name.ensures.2 (search rules)
