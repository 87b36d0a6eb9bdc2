use Rattle.std.proofs.Common.{◌≡◌, ◌++◌, drop}
use Rattle.std.specs.Prelude.{map, filter}
use Rattle.deneva_base.specs.Modes.{reads}
use Rattle.deneva_base.specs.Rows.{row_or_empty}
use Rattle.deneva_base.specs.declared.keys.Access.{Access}
use Rattle.deneva_base.specs.declared.rows.Keyed.{Keyed}
use Rattle.row_store.specs.Stores.{row_in}
use Rattle.calvin_sched.specs.Reading.{row_after}
use Rattle.calvin_sched.proofs.node.CalvinNode.reads.Given as goal

-- those so far and those of what is left are those of all
abbrev pub invariant-loop-access : goal.invariant-loop-access
invariant-loop-access l =
    let read : Access → Keyed = λ a. record { key = a.key; row = row_or_empty (row_after (row_in l.self.store) l.left a.key) } in
    l.rows ++ map read (filter (λ a. reads a.mode) (drop l.access-index l.access-items)) ≡ map read (filter (λ a. reads a.mode) l.access-items)
