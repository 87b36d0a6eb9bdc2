use Rattle.run_outcomes.proofs.stories.Story.+done_turn.Given as goal

abbrev pub decreases-done_turn : goal.decreases-done_turn
decreases-done_turn l = l.turns
