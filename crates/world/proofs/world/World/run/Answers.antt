use Rattle.std.proofs.Common.{◌≡◌, ◌<◌, suc, length, refl, ap, ◌∙◌, arith, rules}
use Rattle.std.proofs.lemmas.List.{nil_from_length}
use Rattle.server_core.specs.Picks.{position}
use Rattle.world.proofs.AnyRuns.{deliver_run}
use Rattle.world.proofs.Running.{ran_more, ran_all, fewer_left, on_err_from}
use Rattle.world.proofs.world.World.run.Goals as goal

pub loop-picker-init : goal.loop-picker-init
loop-picker-init g c = (0, record { config = refl; work = refl; turn = c.new-picker.ensures; progress = refl; entries = omega arith })

pub returns-then-count-eq0-clause-config : goal.returns-then-count-eq0-clause-config
returns-then-count-eq0-clause-config g c = c.loop-picker.invariant.1.config

pub returns-then-count-eq0-clause-work : goal.returns-then-count-eq0-clause-work
returns-then-count-eq0-clause-work g c = c.loop-picker.invariant.1.work

pub returns-then-count-eq0-clause-ok : goal.returns-then-count-eq0-clause-ok
returns-then-count-eq0-clause-ok g c =
    let w = c.loop-picker.self in
    let inv = c.loop-picker.invariant in
    let r = c.in_flight-count.ensures.run in
    let laws = g.met.S.Handles in
    let none : length w.progress.flight ≡ 0 = search rules in
    ran_all c.args.schedule.now c.args.self.now w c.loop-picker.picker inv.0 inv.1 (nil_from_length w.progress.flight none)
    (laws.ends w.config w.work w.progress.entries w.progress.flight r.of_protocol r.ranges r.valid r.run)

pub deliver-requires : goal.deliver-requires
deliver-requires g c =
    let below = c.next-k.ensures.below in
    let count = c.in_flight-count.ensures.count in
    let in_flight : c.next-k.result < length c.loop-picker.self.progress.flight = omega (arith, below, count) in
    λ lifetimes. ((refl, tt), in_flight)

pub loop-picker-smaller : goal.loop-picker-smaller
loop-picker-smaller g c =
    let w = c.loop-picker.self in
    let r = c.in_flight-count.ensures.run in
    let laws = g.met.S.Handles in
    let below = c.next-k.ensures.below in
    let count = c.in_flight-count.ensures.count in
    let k = c.next-k.result in
    let in_flight : k < length w.progress.flight = omega (arith, below, count) in
    let said = c.deliver.ensures in
    let step = c.in_ok-deliver.ensures.ok in
    let run = deliver_run w.config w.work r.ranges r.valid k w.progress r.run in
    fewer_left w c.deliver.new.self k said.config said.work step in_flight (laws.ends w.config w.work _ _ r.of_protocol r.ranges r.valid run)

pub loop-picker-preserved : goal.loop-picker-preserved
loop-picker-preserved g c =
    let w = c.loop-picker.self in
    let inv = c.loop-picker.invariant in
    let below = c.next-k.ensures.below in
    let count = c.in_flight-count.ensures.count in
    let k = c.next-k.result in
    let in_flight : k < length w.progress.flight = omega (arith, below, count) in
    let at : k ≡ position c.args.schedule.now inv.0 (length w.progress.flight) = c.next-k.ensures.picked c.args.schedule.now inv.0 inv.1.turn ∙ ap (position c.args.schedule.now inv.0) count in (
      suc inv.0,
      ran_more c.args.schedule.now c.args.self.now w c.deliver.new.self c.loop-picker.picker c.next-k.new.self inv.0 k inv.1 at in_flight
          (c.next-k.ensures.turn c.args.schedule.now inv.0 inv.1.turn) c.deliver.ensures.config c.deliver.ensures.work c.in_ok-deliver.ensures.ok,
    )

pub returns-in_err-deliver-clause-config : goal.returns-in_err-deliver-clause-config
returns-in_err-deliver-clause-config g c = c.deliver.ensures.config ∙ c.loop-picker.invariant.1.config

pub returns-in_err-deliver-clause-work : goal.returns-in_err-deliver-clause-work
returns-in_err-deliver-clause-work g c = c.deliver.ensures.work ∙ c.loop-picker.invariant.1.work

pub returns-in_err-deliver-clause-err : goal.returns-in_err-deliver-clause-err
returns-in_err-deliver-clause-err g c =
    let inv = c.loop-picker.invariant in
    on_err_from c.from_residual.result (inv.0, c.in_err-deliver.ensures.err ∙ inv.1.progress)
