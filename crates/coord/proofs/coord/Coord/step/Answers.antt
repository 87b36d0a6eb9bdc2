use Rattle.std.proofs.Common.{refl}
use Rattle.std.proofs.lemmas.Result.{on_ok_weaker}
use Rattle.coord.specs.Open.{state_at}
use Rattle.coord.proofs.Messages.{stamps_few, next_few, start_id, start_says, start_stands_for, granted_id, granted_says, granted_stands, refused_small, refused_more, refused_says, refused_stands, yes_says, yes_stands, no_says, no_stands, done_says, done_stands, undone_says, undone_stands}
use Rattle.coord.proofs.Passing.{other_kind, quiet_says, quiet_stands}
use Rattle.coord.proofs.coord.Coord.step.Goals as goal

pub start-requires-clause-id : goal.start-requires-clause-id
start-requires-clause-id c =
    let f = c.requires.fits in start_id c.args.self.now f.1.0 f.1.1 c.args.msg.now f.0 f.1.2 c.in-Start.who c.in-Start.is

pub start-requires-clause-counter : goal.start-requires-clause-counter
start-requires-clause-counter c =
    let f = c.requires.fits in stamps_few c.args.self.now f.1.0 f.1.1 c.args.msg.now f.0 f.1.2

pub hear_grant-requires : goal.hear_grant-requires
hear_grant-requires c =
    let f = c.requires.fits in granted_id c.args.self.now f.1.0 f.1.1 c.args.msg.now f.0 f.1.2 c.in-Granted.who c.in-Granted.key c.in-Granted.row c.in-Granted.version c.in-Granted.bound c.in-Granted.is

pub hear_refusal-requires-clause-small : goal.hear_refusal-requires-clause-small
hear_refusal-requires-clause-small c =
    let f = c.requires.fits in refused_small c.args.self.now f.1.0 f.1.1 c.args.msg.now f.0 f.1.2 c.in-Refused.who c.in-Refused.key c.in-Refused.cause c.in-Refused.is

pub hear_refusal-requires-clause-more : goal.hear_refusal-requires-clause-more
hear_refusal-requires-clause-more c =
    let f = c.requires.fits in refused_more c.args.self.now f.1.0 f.1.1 c.args.msg.now f.0 f.1.2 c.in-Refused.who c.in-Refused.key c.in-Refused.cause c.in-Refused.is

pub hear_done-requires : goal.hear_done-requires
hear_done-requires c =
    let f = c.requires.fits in record { next = next_few c.args.self.now f.1.0 f.1.1 c.args.msg.now f.0 f.1.2 }

pub hear_undone-requires : goal.hear_undone-requires
hear_undone-requires c =
    let f = c.requires.fits in record { next = next_few c.args.self.now f.1.0 f.1.1 c.args.msg.now f.0 f.1.2 }

pub returns-in-Start-clause-says : goal.returns-in-Start-clause-says
returns-in-Start-clause-says c =
    on_ok_weaker c.start.result (λ e from ms co fits. start_says c.args.self.now ms co c.args.msg.now from fits c.in-Start.who c.in-Start.is c.args.out.now.mails c.start.new.out.mails e) c.start.ensures.said

pub returns-in-Start-clause-stands : goal.returns-in-Start-clause-stands
returns-in-Start-clause-stands c =
    on_ok_weaker c.start.result (λ e from ms co fits. start_stands_for c.args.self.now ms co c.args.msg.now from fits c.in-Start.who c.in-Start.is c.start.new.self e) c.start.ensures.ok

pub returns-in-Granted-clause-says : goal.returns-in-Granted-clause-says
returns-in-Granted-clause-says c =
    on_ok_weaker c.hear_grant.result (λ e from ms co fits. granted_says c.args.self.now ms co c.args.msg.now from fits c.in-Granted.who c.in-Granted.key c.in-Granted.row c.in-Granted.version c.in-Granted.bound c.in-Granted.is c.args.out.now.mails c.hear_grant.new.out.mails e) c.hear_grant.ensures.said

pub returns-in-Granted-clause-stands : goal.returns-in-Granted-clause-stands
returns-in-Granted-clause-stands c =
    on_ok_weaker c.hear_grant.result (λ e from ms co fits. granted_stands c.args.self.now ms co c.args.msg.now from fits c.in-Granted.who c.in-Granted.key c.in-Granted.row c.in-Granted.version c.in-Granted.bound c.in-Granted.is (state_at c.hear_grant.new.self) e) c.hear_grant.ensures.ok

pub returns-in-Refused-clause-says : goal.returns-in-Refused-clause-says
returns-in-Refused-clause-says c =
    on_ok_weaker c.hear_refusal.result (λ e from ms co fits. refused_says c.args.self.now ms co c.args.msg.now from fits c.in-Refused.who c.in-Refused.key c.in-Refused.cause c.in-Refused.is c.args.out.now.mails c.hear_refusal.new.out.mails e) c.hear_refusal.ensures.said

pub returns-in-Refused-clause-stands : goal.returns-in-Refused-clause-stands
returns-in-Refused-clause-stands c =
    on_ok_weaker c.hear_refusal.result (λ e from ms co fits. refused_stands c.args.self.now ms co c.args.msg.now from fits c.in-Refused.who c.in-Refused.key c.in-Refused.cause c.in-Refused.is c.hear_refusal.new.self e) c.hear_refusal.ensures.ok

pub returns-in-Yes-clause-says : goal.returns-in-Yes-clause-says
returns-in-Yes-clause-says c =
    on_ok_weaker c.hear_vote.result (λ e from ms co fits. yes_says c.args.self.now ms co c.args.msg.now from fits c.in-Yes.who c.in-Yes.part c.in-Yes.lo c.in-Yes.hi c.in-Yes.is c.args.out.now.mails c.hear_vote.new.out.mails e) c.hear_vote.ensures.said

pub returns-in-Yes-clause-stands : goal.returns-in-Yes-clause-stands
returns-in-Yes-clause-stands c =
    on_ok_weaker c.hear_vote.result (λ e from ms co fits. yes_stands c.args.self.now ms co c.args.msg.now from fits c.in-Yes.who c.in-Yes.part c.in-Yes.lo c.in-Yes.hi c.in-Yes.is (state_at c.hear_vote.new.self) e) c.hear_vote.ensures.ok

pub returns-in-No-clause-says : goal.returns-in-No-clause-says
returns-in-No-clause-says c =
    on_ok_weaker c.hear_vote-in-No.result (λ e from ms co fits. no_says c.args.self.now ms co c.args.msg.now from fits c.in-No.who c.in-No.part c.in-No.cause c.in-No.is c.args.out.now.mails c.hear_vote-in-No.new.out.mails e) c.hear_vote-in-No.ensures.said

pub returns-in-No-clause-stands : goal.returns-in-No-clause-stands
returns-in-No-clause-stands c =
    on_ok_weaker c.hear_vote-in-No.result (λ e from ms co fits. no_stands c.args.self.now ms co c.args.msg.now from fits c.in-No.who c.in-No.part c.in-No.cause c.in-No.is (state_at c.hear_vote-in-No.new.self) e) c.hear_vote-in-No.ensures.ok

pub returns-in-Done-clause-says : goal.returns-in-Done-clause-says
returns-in-Done-clause-says c =
    on_ok_weaker c.hear_done.result (λ e from ms co fits. done_says c.args.self.now ms co c.args.msg.now from fits c.in-Done.who c.in-Done.part c.in-Done.is c.args.out.now.mails c.hear_done.new.out.mails e) c.hear_done.ensures.said

pub returns-in-Done-clause-stands : goal.returns-in-Done-clause-stands
returns-in-Done-clause-stands c =
    on_ok_weaker c.hear_done.result (λ e from ms co fits. done_stands c.args.self.now ms co c.args.msg.now from fits c.in-Done.who c.in-Done.part c.in-Done.is c.hear_done.new.self e) c.hear_done.ensures.ok

pub returns-in-Undone-clause-says : goal.returns-in-Undone-clause-says
returns-in-Undone-clause-says c =
    on_ok_weaker c.hear_undone.result (λ e from ms co fits. undone_says c.args.self.now ms co c.args.msg.now from fits c.in-Undone.who c.in-Undone.part c.in-Undone.is c.args.out.now.mails c.hear_undone.new.out.mails e) c.hear_undone.ensures.said

pub returns-in-Undone-clause-stands : goal.returns-in-Undone-clause-stands
returns-in-Undone-clause-stands c =
    on_ok_weaker c.hear_undone.result (λ e from ms co fits. undone_stands c.args.self.now ms co c.args.msg.now from fits c.in-Undone.who c.in-Undone.part c.in-Undone.is c.hear_undone.new.self e) c.hear_undone.ensures.ok

pub returns-in_default : goal.returns-in_default
returns-in_default c =
    let e = other_kind c.args.msg.now c.in_default.not-Start c.in_default.not-Granted c.in_default.not-Refused c.in_default.not-Yes c.in_default.not-No c.in_default.not-Done c.in_default.not-Undone in
    record {
      role = refl;
      says = λ from ms co fits. quiet_says c.args.self.now ms c.args.msg.now e c.args.out.now.mails;
      stands = λ from ms co fits. quiet_stands c.args.self.now ms c.args.msg.now e from co fits;
      same_mails = tt;
      same = tt;
    }
