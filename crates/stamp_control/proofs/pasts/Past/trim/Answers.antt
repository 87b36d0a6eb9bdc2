use Rattle.std.proofs.Common.{rules, ◌<◌, length, refl, sym, ap, ◌∙◌, arith}
use Rattle.row_store.specs.declared.versions.Version.{Version}
use Rattle.stamp_control.specs.Picks.{is_needed}
use Rattle.stamp_control.specs.Pasts.{past_of}
use Rattle.stamp_control.proofs.Trims.{trims_more, trims_one, needed_more, needed_removed}
use Rattle.stamp_control.proofs.pasts.Past.trim.Goals as goal

pub loop-place-preserved-then-is_needed : goal.loop-place-preserved-then-is_needed
loop-place-preserved-then-is_needed c =
    let less : c.loop-place.place < length c.loop-place.self.kept.items = search rules in
    record {
      needed = needed_more c.args.requests.now c.loop-place.self.kept.items c.loop-place.place c.index.result.now less
          (ap (λ (v : Version). is_needed c.args.requests.now c.loop-place.self.kept.items v.number) (sym c.index.ensures) ∙ sym c.is_needed.ensures ∙ c.if-is_needed.true)
          c.loop-place.invariant.needed;
      rest = c.loop-place.invariant.rest;
    }

pub loop-place-preserved : goal.loop-place-preserved
loop-place-preserved c =
    let less : c.loop-place.place < length c.loop-place.self.kept.items = search rules in
    let r = c.remove.ensures in
    record {
      needed = needed_removed c.args.requests.now c.loop-place.self.kept.items c.remove.new.self.items c.loop-place.place c.index.result.now less r.by_index.2 c.loop-place.invariant.needed;
      rest =
          trims_more c.args.requests.now (past_of c.args.self.now) (past_of c.loop-place.self) (past_of (record { read = c.loop-place.self.read; kept = c.remove.new.self })) c.loop-place.invariant.rest
          (trims_one c.args.requests.now (past_of c.loop-place.self) (past_of (record { read = c.loop-place.self.read; kept = c.remove.new.self })) c.loop-place.place c.index.result.now less
          (ap (λ (v : Version). is_needed c.args.requests.now c.loop-place.self.kept.items v.number) (sym c.index.ensures) ∙ sym c.is_needed.ensures ∙ c.if-is_needed.false)
          refl refl (omega (arith, r.capacity, r.len)) r.by_index.2);
    }
