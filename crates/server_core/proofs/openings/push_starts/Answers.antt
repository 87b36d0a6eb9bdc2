use Rattle.std.proofs.Common.{◌≡◌, ◌<◌, ◌+◌, ◌++◌, ◌∷◌, [], length, sym, ap, ◌∙◌, inl, inr, arith}
use Rattle.server_core.specs.Setting.{setting, home}
use Rattle.server_core.proofs.flight.OpeningMails.{valid_at, home_at, passed, begun}
use Rattle.server_core.proofs.openings.push_starts.Goals as goal
use Rattle.server_core.proofs.openings.push_starts.Goals.{then-lives_at-node+then-room-gt0+in_ok-push, else-lives_at-node, else-lives_at-node-via-then-lives_at-node+else-room-gt0, else-lives_at-node-via-else-lives_at-node}

pub home-lives_at-requires-clause-valid : goal.home-lives_at-requires-clause-valid
home-lives_at-requires-clause-valid c =
    let len = c.len-place-end.ensures.len in
    valid_at c.args.work.now c.requires.valid c.loop-place.place c.get.result.now (omega (arith, len, c.loop-place-test.true)) c.get.ensures

pub loop-place-preserved : goal.loop-place-preserved
loop-place-preserved c =
    let len = c.len-place-end.ensures.len in
    let place = c.loop-place.place in
    let work = c.args.work.now in
    let inside : place < length work.programs = omega (arith, len, c.loop-place-test.true) in
    let some = c.requires.config.some_parts in
    let lives : home (setting c.args.config work) (record { 0 = place + 1 }) ≡ c.home-lives_at.result = home_at c.args.config work some place c.get.result.now c.get.ensures ∙ sym c.home-lives_at.ensures.home in
    let mails = c.loop-place.mails in
    let room = c.loop-place.room in
    elim c.if-lives_at-node.branch [
      | then-lives_at-node+then-room-gt0+in_ok-push w ↦
          let pushed = w.mails-is ∙ w.in_ok-push.ensures.ok ∙ ap (λ x. mails ++ x ∷ []) w.first_start.ensures in
          begun c.args.config work some c.args.node place inside mails _ _ room _ (lives ∙ w.if-lives_at-node.true) w.if-room-gt0.true pushed w.room-is c.loop-place.invariant
      | else-lives_at-node w ↦ elim w.else-lives_at-node.branch [
        | else-lives_at-node-via-then-lives_at-node+else-room-gt0 w' ↦
            let full : room ≡ 0 = omega (arith, w'.if-room-gt0.false) in
            passed c.args.config work some c.args.node place inside mails _ _ room _ (inr full) w.mails-is w.room-is c.loop-place.invariant
        | else-lives_at-node-via-else-lives_at-node w' ↦
            passed c.args.config work some c.args.node place inside mails _ _ room _ (inl (λ e. w'.if-lives_at-node.false (sym lives ∙ e))) w.mails-is w.room-is c.loop-place.invariant
      ]
    ]
