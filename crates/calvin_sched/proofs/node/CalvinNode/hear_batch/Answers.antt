use Rattle.std.proofs.Common.{◌≡◌, ◌<◌, ◌+◌, ◌*◌, ◌++◌, ℕ, List, Some, length, sym, ap, ap₂, ◌∙◌, subst}
use Rattle.std.specs.Prelude.{slice_set}
use Rattle.deneva_base.specs.Lists.{IsIn}
use Rattle.deneva_base.specs.declared.keys.Key.{Key}
use Rattle.deneva_base.specs.declared.numbers.TxnId.{TxnId}
use Rattle.server_core.specs.ActiveList.{newly_taken}
use Rattle.server_core.specs.CalvinProper.{Valid}
use Rattle.server_core.specs.Setting.{Setting}
use Rattle.server_core.specs.declared.messages.Msg.TheVariants.{Batch}
use Rattle.server_core.proofs.configured.CalvinSettings as calvin
use Rattle.server_core.specs.Roles.{setting_of}
use Rattle.calvin_sched.specs.Asked.{asked}
use Rattle.calvin_sched.specs.Batches.{came}
use Rattle.calvin_sched.specs.Queues.{for_key}
use Rattle.calvin_sched.specs.Tables.{queue_at}
use Rattle.calvin_sched.proofs.Nodes.{place_in, fresh_at, fresh_known, locks_more, says_batch, stands_batch, stands_back}
use Rattle.calvin_sched.proofs.node.CalvinNode.hear_batch.Goals as goal

pub fresh_ids-requires-clause-place : goal.fresh_ids-requires-clause-place
fresh_ids-requires-clause-place c =
    let n = c.args.self.now in
    let f = c.requires.fits in
    let at : c.args.epoch * c.from.result + c.from-2.result ≡ c.args.epoch * n.role.config.parts + c.args.seq = ap₂ (λ (a b : ℕ). c.args.epoch * a + b) c.from.ensures c.from-2.ensures in
    subst (λ (k : ℕ). k < length (came n.batches)) (sym at) (place_in n f.0 f.1 c.args.epoch c.args.seq c.args.ids.now f.2)

pub requests_of-requires : goal.requests_of-requires
requests_of-requires c =
    let n = c.args.self.now in
    let f = c.requires.fits in
    let at : c.args.epoch * c.from.result + c.from-2.result ≡ c.args.epoch * n.role.config.parts + c.args.seq = ap₂ (λ (a b : ℕ). c.args.epoch * a + b) c.from.ensures c.from-2.ensures in
    let fresh : c.in_ok-fresh.fresh.items ≡ newly_taken (setting_of n.role) (Batch c.args.epoch c.args.seq c.args.ids.now) f.0
    = fresh_at n f.0 f.1 c.args.epoch c.args.seq c.args.ids.now f.2 _ _ c.in_ok-fresh.fresh.items c.in_ok-fresh.ensures at c.as_slice.ensures in
    record { ids = λ x i. fresh_known n f.0 f.1 c.args.epoch c.args.seq c.args.ids.now f.2 x (subst (λ (l : List TxnId). IsIn x l) (c.deref.ensures.value ∙ fresh) i) }

pub say_ready-requires : goal.say_ready-requires
say_ready-requires c =
    let n = c.args.self.now in
    let f = c.requires.fits in
    let at : c.args.epoch * c.from.result + c.from-2.result ≡ c.args.epoch * n.role.config.parts + c.args.seq = ap₂ (λ (a b : ℕ). c.args.epoch * a + b) c.from.ensures c.from-2.ensures in
    let fresh : c.in_ok-fresh.fresh.items ≡ newly_taken (setting_of n.role) (Batch c.args.epoch c.args.seq c.args.ids.now) f.0
    = fresh_at n f.0 f.1 c.args.epoch c.args.seq c.args.ids.now f.2 _ _ c.in_ok-fresh.fresh.items c.in_ok-fresh.ensures at c.as_slice.ensures in
    record { ids = λ x i. fresh_known n f.0 f.1 c.args.epoch c.args.seq c.args.ids.now f.2 x (subst (λ (l : List TxnId). IsIn x l) (c.deref-3.ensures.value ∙ fresh) i) }

pub keep-requires-clause-place : goal.keep-requires-clause-place
keep-requires-clause-place c =
    let n = c.args.self.now in
    let f = c.requires.fits in
    let at : c.args.epoch * c.from.result + c.from-2.result ≡ c.args.epoch * n.role.config.parts + c.args.seq = ap₂ (λ (a b : ℕ). c.args.epoch * a + b) c.from.ensures c.from-2.ensures in
    subst (λ (k : ℕ). k < length (came n.batches)) (sym at) (place_in n f.0 f.1 c.args.epoch c.args.seq c.args.ids.now f.2)

pub returns-in-Ok-clause-says : goal.returns-in-Ok-clause-says
returns-in-Ok-clause-says c ms stands suits =
    let n = c.args.self.now in
    let s : Setting = setting_of n.role in
    let v : Valid s = calvin.valid n.role.config n.role.work.now n.role.valid n.role.ranges in
    let at : c.args.epoch * c.from.result + c.from-2.result ≡ c.args.epoch * n.role.config.parts + c.args.seq = ap₂ (λ (a b : ℕ). c.args.epoch * a + b) c.from.ensures c.from-2.ensures in
    let fresh : c.in_ok-fresh.fresh.items ≡ newly_taken s (Batch c.args.epoch c.args.seq c.args.ids.now) ms
    = fresh_at n ms stands c.args.epoch c.args.seq c.args.ids.now suits _ _ c.in_ok-fresh.fresh.items c.in_ok-fresh.ensures at c.as_slice.ensures in
    let asks : (key : Key) → queue_at c.ask_all.new.self key ≡ queue_at n.locks key ++ for_key key (asked s n.role.part c.in_ok-fresh.fresh.items)
    = λ key. c.in_ok-ask_all.ensures.ok key ∙ ap (λ l. queue_at n.locks key ++ for_key key l) (c.deref-2.ensures.value ∙ c.in_ok-requests.ensures ∙ ap (asked s n.role.part) c.deref.ensures.value) in
    let locks = locks_more s v n.role.part ms stands.fit c.args.epoch c.args.seq c.args.ids.now suits n.locks c.ask_all.new.self c.in_ok-fresh.fresh.items fresh stands.locks asks in
    c.in-Ok.ensures.ok
    ∙ ap (λ l. c.args.out.now.mails ++ l) (says_batch n ms stands c.args.epoch c.args.seq c.args.ids.now suits c.ask_all.new.self c.deref-3.result.now (c.deref-3.ensures.value ∙ fresh) locks)

pub returns-in-Ok-clause-stands : goal.returns-in-Ok-clause-stands
returns-in-Ok-clause-stands c ms stands suits =
    let n = c.args.self.now in
    let s : Setting = setting_of n.role in
    let at : c.args.epoch * c.from.result + c.from-2.result ≡ c.args.epoch * n.role.config.parts + c.args.seq = ap₂ (λ (a b : ℕ). c.args.epoch * a + b) c.from.ensures c.from-2.ensures in
    let fresh : c.in_ok-fresh.fresh.items ≡ newly_taken s (Batch c.args.epoch c.args.seq c.args.ids.now) ms
    = fresh_at n ms stands c.args.epoch c.args.seq c.args.ids.now suits _ _ c.in_ok-fresh.fresh.items c.in_ok-fresh.ensures at c.as_slice.ensures in
    let asks : (key : Key) → queue_at c.ask_all.new.self key ≡ queue_at n.locks key ++ for_key key (asked s n.role.part c.in_ok-fresh.fresh.items)
    = λ key. c.in_ok-ask_all.ensures.ok key ∙ ap (λ l. queue_at n.locks key ++ for_key key l) (c.deref-2.ensures.value ∙ c.in_ok-requests.ensures ∙ ap (asked s n.role.part) c.deref.ensures.value) in
    stands_batch n ms stands c.args.epoch c.args.seq c.args.ids.now suits c.keep.new.self c.ask_all.new.self c.in_ok-fresh.fresh.items fresh asks (c.keep.ensures.came ∙ ap₂ (λ (k : ℕ) (l : List TxnId). slice_set (came n.batches) k (Some l)) at c.in_ok-kept.ensures) c.keep.ensures.taken

pub returns-in-Err-clause-same : goal.returns-in-Err-clause-same
returns-in-Err-clause-same c ms stands =
    let n = c.args.self.now in
    stands_back n ms c.take_back.new.self stands
    (c.take_back.ensures (queue_at n.locks) (λ key. c.in_ok-ask_all.ensures.ok key ∙ ap (λ l. queue_at n.locks key ++ for_key key l) (c.deref-2.ensures.value ∙ sym c.deref-in-Err.ensures.value)))
