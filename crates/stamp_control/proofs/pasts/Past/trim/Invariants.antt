use Rattle.std.proofs.Common.{◌≡◌, ◌-◌, true, take, length}
use Rattle.deneva_base.specs.Lists.{IsIn}
use Rattle.row_store.specs.declared.versions.Version.{Version}
use Rattle.stamp_control.specs.Picks.{is_needed}
use Rattle.stamp_control.specs.Pasts.{Trims, past_of}
use Rattle.stamp_control.proofs.pasts.Past.trim.Given as goal

-- those so far would be read, and at most what nobody would read is gone
abbrev pub invariant-loop-place : goal.invariant-loop-place
invariant-loop-place l =
    record {
      needed : (v : Version) → IsIn v (take l.place l.self.kept.items) → is_needed l.requests l.self.kept.items v.number ≡ true;
      rest : Trims l.requests (past_of l.fn.self) (past_of l.self);
    }

abbrev pub decreases-loop-place : goal.decreases-loop-place
decreases-loop-place l = length l.self.kept.items - l.place
