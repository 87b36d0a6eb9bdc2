use Rattle.std.proofs.Common.{map, reverse, ap, ◌∙◌}
use Rattle.server_core.specs.Runs.{heard}
use Rattle.run_outcomes.proofs.Places.{entries_reversed, map-reverse}
use Rattle.run_outcomes.proofs.stories.story_of.Goals as goal

pub returns-clause-tells : goal.returns-clause-tells
returns-clause-tells c H are =
    let entries = ap (map (λ e. e.now)) c.in_ok-entries.ensures ∙ map-reverse (λ e. e.now) c.args.entries.now ∙ ap reverse are ∙ entries_reversed c.args.id H in
    record {
      known = c.requires;
      program = c.program-program.ensures;
      home = c.home-home.ensures.home;
      accesses = c.in_ok-accesses.ensures;
      participants = c.in_ok-participants.ensures;
      entries = entries;
      messages = c.in_ok-messages.ensures ∙ ap (heard c.home-home.result) (ap (map (λ e. e.now)) c.deref.ensures.value ∙ entries);
    }
