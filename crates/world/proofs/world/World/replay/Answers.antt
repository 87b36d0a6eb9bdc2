use Rattle.std.proofs.Common.{◌<◌, length, reverse, refl, sym, ap, ◌∙◌, subst}
use Rattle.std.proofs.lemmas.Option.{slice_get_read, slice_get_within}
use Rattle.server_core.specs.Picks.{Progress, deliver}
use Rattle.server_core.specs.Says.{says, opening_mails}
use Rattle.world.specs.Worlds.{Seen}
use Rattle.world.proofs.Replaying.{next_there, replayed, run_of}
use Rattle.world.proofs.world.World.replay.Goals as goal

pub deliver-requires : goal.deliver-requires
deliver-requires g c =
    let found = rw c.in-Some.is at c.in_ok-k.ensures.some in
    let within = slice_get_within c.loop-entry.self.progress.flight c.in-Some.k found.mail found.here in
    let same = c.find.ensures.same in
    λ lifetimes. ((refl, tt), subst (λ (x : Seen). c.in-Some.k < length x.progress.flight) (sym same) within)

pub unreachable-requires : goal.unreachable-requires
unreachable-requires g c =
    let w = c.loop-entry.self in
    let inv = c.loop-entry.invariant in
    let history = c.args.history.now in
    let i = c.loop-entry.entry-index in
    let e = c.entry-item.result in
    let at = slice_get_read history (length history) i e refl c.loop-entry-test.true c.entry-item.is in
    let run = run_of w.config c.args.self.now.config w.work c.args.self.now.work (reverse history) (reverse history) c.requires.run.0 inv.config inv.work refl c.requires.run.1 in
    let there = next_there (says w.config w.work) (opening_mails w.config w.work) history i e c.requires.run.0 at run w.progress inv.entries c.find.ensures.run.run in
    let none = rw c.in-None.is at c.in_ok-k.ensures.none in
    none there.0 there.1 there.2 there.3

pub loop-entry-preserved : goal.loop-entry-preserved
loop-entry-preserved g c =
    let w = c.loop-entry.self in
    let inv = c.loop-entry.invariant in
    let history = c.args.history.now in
    let i = c.loop-entry.entry-index in
    let e = c.entry-item.result in
    let at = slice_get_read history (length history) i e refl c.loop-entry-test.true c.entry-item.is in
    let run = run_of w.config c.args.self.now.config w.work c.args.self.now.work (reverse history) (reverse history) c.requires.run.0 inv.config inv.work refl c.requires.run.1 in
    let found = rw c.in-Some.is at c.in_ok-k.ensures.some in
    let same = c.find.ensures.same in
    record {
      config = c.deliver.ensures.config ∙ ap (λ (x : Seen). x.config) same ∙ inv.config;
      work = c.deliver.ensures.work ∙ ap (λ (x : Seen). x.work) same ∙ inv.work;
      entries =
          ap (λ (p : Progress). p.entries) (c.in_ok-deliver-in-Some.ensures.ok ∙ ap (λ (x : Seen). deliver (says x.config x.work) c.in-Some.k x.progress) same)
          ∙ replayed (says w.config w.work) (opening_mails w.config w.work) history i e c.requires.run.0 at run w.progress inv.entries c.find.ensures.run.run c.in-Some.k found.mail found.here found.gives;
    }
