use Rattle.std.proofs.Common.{◌∙◌, ap, sym}
use Rattle.deneva_base.specs.Rows.{put, rows_in}
use Rattle.deneva_base.proofs.Entries.{put-entries}
use Rattle.workload_text.proofs.loaded.Loaded.insert.Goals as goal

pub returns : goal.returns
returns c =
    ap rows_in c.in_ok-insert.ensures.entries ∙ sym (put-entries c.self.inside.rows.entries c.args.key c.args.row)
    ∙ ap (λ rows. put rows (record { key = c.args.key; row = c.args.row })) c.self.view_is
