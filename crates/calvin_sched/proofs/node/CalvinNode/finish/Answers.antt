use Rattle.std.proofs.Common.{◌≡◌, ◌++◌, ◌∷◌, [], List, true, sym, ap, ◌∙◌}
use Rattle.std.specs.FinMap.{get}
use Rattle.std.specs.List.{flat_map}
use Rattle.deneva_base.specs.declared.rows.Keyed.{Keyed}
use Rattle.deneva_base.specs.Rows.{row_of}
use Rattle.row_store.specs.Stores.{row_in, version_at}
use Rattle.server_core.specs.Calvin.{finished_mail}
use Rattle.server_core.specs.CalvinProper.{Valid}
use Rattle.server_core.specs.GlobalOrder.{number}
use Rattle.server_core.specs.CalvinScheduler.{is_finished, applied}
use Rattle.server_core.specs.Setting.{Setting}
use Rattle.server_core.specs.declared.messages.Msg.TheVariants.{Rows}
use Rattle.server_core.specs.Roles.{setting_of, accesses_at}
use Rattle.server_core.specs.declared.role.Role.{Role}
use Rattle.calvin_sched.specs.Arrivals.{arrivals_at}
use Rattle.calvin_sched.specs.Freed.{freed_by, put_numbers}
use Rattle.calvin_sched.specs.Queues.{left_by}
use Rattle.calvin_sched.specs.Reading.{row_after, mails_after, rows_with, collected_from, left_at}
use Rattle.calvin_sched.specs.Tables.{queue_at}
use Rattle.calvin_sched.specs.Versions.{offered}
use Rattle.calvin_sched.proofs.After.{valid_at, known, batches_kept, locks_left, versions_offered, says_finish}
use Rattle.calvin_sched.proofs.Coming.{complete_is, collected_is, arrivals_forgotten}
use Rattle.calvin_sched.proofs.node.CalvinNode.finish.Goals as goal

pub last_mails-requires-clause-known : goal.last_mails-requires-clause-known
last_mails-requires-clause-known c =
    let n = c.args.self.now in
    let f = c.requires.fits in
    known (setting_of n.role) (valid_at n.role) n.role.part f.0 n.locks f.1.locks

pub returns-clause-says : goal.returns-clause-says
returns-clause-says c = λ ms stands suits.
    let n = c.args.self.now in
    let a : Role = n.role in
    let s : Setting = setting_of a in
    let x = c.args.id in
    let q = c.args.part in
    let rows : List Keyed = c.args.rows.now in
    let done : is_finished s (Rows x q rows ∷ ms) x ≡ true = sym (complete_is s a.part ms stands.fit x q rows suits n.arrivals stands.arrivals) ∙ c.requires.complete in
    let left : c.in_ok-left.left ≡ applied s a.part (Rows x q rows ∷ ms) x = c.in_ok-left.ensures ∙ ap (λ l. left_at s a.part x (collected_from s (rows_with (arrivals_at n.arrivals x) q l) x)) c.as_slice.ensures ∙ ap (left_at s a.part x) (collected_is s a.part ms stands.fit x q rows suits n.arrivals stands.arrivals) in
    let said = says_finish a.config a.work.now a.ranges a.valid a.part ms stands.fit x q rows suits done n.store stands.versions n.locks stands.locks in
    c.append_all.ensures.mails
    ∙ ap (λ l. l ++ c.in_ok-mails.mails) c.in_ok-reserve-2.ensures.mails
    ∙ ap (λ l. c.args.out.now.mails ++ l)
    (c.in_ok-mails.ensures
    ∙ ap (λ l. finished_mail s a.part x ∷ flat_map (λ m. mails_after s a.part (row_after (row_in n.store) c.as_slice-3.result.now) m.id) (put_numbers [] (freed_by s a.part (queue_at n.locks) x l))) (c.as_slice-2.ensures ∙ c.in_ok-here.ensures)
    ∙ ap (λ l. finished_mail s a.part x ∷ flat_map (λ m. mails_after s a.part (row_after (row_in n.store) l) m.id) (put_numbers [] (freed_by s a.part (queue_at n.locks) x (accesses_at s a.part x)))) (c.as_slice-3.ensures ∙ left)
    ∙ sym said)

pub returns-clause-stands : goal.returns-clause-stands
returns-clause-stands c = λ ms stands suits.
    let n = c.args.self.now in
    let a : Role = n.role in
    let s : Setting = setting_of a in
    let v : Valid s = valid_at a in
    let x = c.args.id in
    let q = c.args.part in
    let rows : List Keyed = c.args.rows.now in
    let done : is_finished s (Rows x q rows ∷ ms) x ≡ true = sym (complete_is s a.part ms stands.fit x q rows suits n.arrivals stands.arrivals) ∙ c.requires.complete in
    let left : c.in_ok-left.left ≡ applied s a.part (Rows x q rows ∷ ms) x = c.in_ok-left.ensures ∙ ap (λ l. left_at s a.part x (collected_from s (rows_with (arrivals_at n.arrivals x) q l) x)) c.as_slice.ensures ∙ ap (left_at s a.part x) (collected_is s a.part ms stands.fit x q rows suits n.arrivals stands.arrivals) in
    record {
      ordered = stands.ordered;
      sequencer = stands.sequencer;
      fit = ((q, suits), stands.fit);
      numbers = stands.numbers;
      counts = stands.counts;
      batches = batches_kept s v a.part ms stands.fit x q rows suits n.batches stands.batches;
      locks = locks_left s v a.part ms stands.fit x q rows suits done n.locks c.leave.new.self stands.locks (λ key. c.leave.ensures key ∙ ap (λ l. left_by x l key (queue_at n.locks key)) (c.as_slice-4.ensures ∙ c.in_ok-here.ensures));
      arrivals = arrivals_forgotten s a.part ms stands.fit x q rows suits n.arrivals stands.arrivals c.forget.new.self c.forget.ensures done;
      versions = versions_offered s v a.part ms stands.fit x q rows suits done n.store c.put_rows.new.store stands.versions
          (λ key. c.put_rows.ensures key
          ∙ ap (λ m. offered m c.number-number.result (row_of c.in_ok-left.left key)) (ap (λ f. get f key) c.in_ok-reserve.ensures.versions)
          ∙ ap (λ m. offered (version_at n.store key) m (row_of c.in_ok-left.left key)) c.number-number.ensures
          ∙ ap (λ l. offered (version_at n.store key) (number s x) (row_of l key)) left);
    }
