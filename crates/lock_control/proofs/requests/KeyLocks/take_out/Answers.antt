use Rattle.std.proofs.Common.{rules, ◌∙◌, ap, List}
use Rattle.std.proofs.lemmas.Fn.{filter_same}
use Rattle.lock_control.specs.declared.requests.Request.{Request}
use Rattle.lock_control.specs.Locks.{without}
use Rattle.lock_control.proofs.requests.KeyLocks.take_out.Goals as goal

pub returns : goal.returns
returns c =
    ap (λ (rs : List Request). record { requests = rs; accessed = c.self.inside.accessed; written = c.self.inside.written }) (filter_same _ _ _ (λ x b f' k. search rules) _ _ c.retain.ensures.filtered)
    ∙ ap (without c.args.who) c.self.view_is
