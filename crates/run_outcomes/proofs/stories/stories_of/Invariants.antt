use Rattle.std.proofs.Common.{◌≡◌, map, reverse, take}
use Rattle.std.specs.List.{All}
use Rattle.txn_program.specs.Serial.{all_ids}
use Rattle.run_outcomes.specs.Stories.{Tells}
use Rattle.run_outcomes.proofs.stories.stories_of.Given as goal

-- the stories of the transactions so far
abbrev pub invariant-loop-place : goal.invariant-loop-place
invariant-loop-place l =
    record {
      ids : map (λ t. t.id) l.stories.items ≡ take l.place (all_ids l.role.work.now);
      stories : All (λ t. Tells l.role (reverse l.history) t) l.stories.items;
    }
