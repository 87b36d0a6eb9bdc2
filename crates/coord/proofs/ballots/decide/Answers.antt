use Rattle.std.proofs.Common.{◌≡◌, leb, true, false, sym, ◌∙◌, refl, arith}
use Rattle.std.specs.List.{list_any}
use Rattle.std.proofs.lemmas.Bool.Decides.{leb_tells}
use Rattle.server_core.specs.Coordinator.{greatest_lo, least_hi}
use Rattle.coord.specs.Ballots.{says_no}
use Rattle.coord.proofs.Deciding.{decides}
use Rattle.coord.proofs.ballots.decide.Goals as goal

pub returns-then-any_says_no : goal.returns-then-any_says_no
returns-then-any_says_no c who =
    let no : list_any says_no c.args.ballots.now ≡ true = sym c.any_says_no.ensures ∙ c.if-any_says_no.true in
    decides who c.args.ballots.now ∙ rw no refl

pub returns-then-lo-least_hi : goal.returns-then-lo-least_hi
returns-then-lo-least_hi c who =
    let none : list_any says_no c.args.ballots.now ≡ false = sym c.any_says_no.ensures ∙ c.if-any_says_no.false in
    let meets : leb (greatest_lo c.args.ballots.now) (least_hi c.args.ballots.now) ≡ true = grind (arith, leb_tells, c.if-lo-least_hi.true, c.least_hi.ensures, c.greatest_lo-lo.ensures) in
    decides who c.args.ballots.now ∙ rw (none, meets, ← c.greatest_lo-lo.ensures) refl

pub returns-else-lo-least_hi : goal.returns-else-lo-least_hi
returns-else-lo-least_hi c who =
    let none : list_any says_no c.args.ballots.now ≡ false = sym c.any_says_no.ensures ∙ c.if-any_says_no.false in
    let apart : leb (greatest_lo c.args.ballots.now) (least_hi c.args.ballots.now) ≡ false = grind (arith, leb_tells, c.if-lo-least_hi.false, c.least_hi.ensures, c.greatest_lo-lo.ensures) in
    decides who c.args.ballots.now ∙ rw (none, apart) refl
