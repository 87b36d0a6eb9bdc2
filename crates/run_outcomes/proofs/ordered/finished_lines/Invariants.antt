use Rattle.std.proofs.Common.{◌≡◌, ◌<◌, ℕ, List, map, take, length, get_or}
use Rattle.std.specs.List.{All}
use Rattle.txn_program.specs.Serial.{all_ids}
use Rattle.server_core.specs.declared.messages.Entry.{Entry}
use Rattle.run_outcomes.specs.Counting.{at_home}
use Rattle.run_outcomes.specs.Finishing.{finished_lines_of}
use Rattle.server_core.specs.Roles.{setting_of}
use Rattle.run_outcomes.specs.Stories.{Tells}
use Rattle.run_outcomes.proofs.ordered.finished_lines.Given as goal

-- how many transactions so far have their home at each node, and the lines of those that are finished
abbrev pub invariant-loop-story : goal.invariant-loop-story
invariant-loop-story l =
    record {
      size : length l.places.items ≡ l.role.config.parts;
      counts : (q : ℕ) → q < l.role.config.parts → get_or l.places.items q 0 ≡ at_home q (take l.story-index l.stories);
      lines : (H : List Entry) → All (Tells l.role H) l.stories → map (λ t. t.id) l.stories ≡ all_ids l.role.work.now → l.list ≡ finished_lines_of (setting_of l.role) H (map (λ t. t.id) (take l.story-index l.stories));
    }
