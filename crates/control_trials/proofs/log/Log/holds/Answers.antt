use Rattle.std.proofs.Common.{rules, ◌≡◌, true, false, not, ◌&&◌}
use Rattle.std.specs.List.{list_any}
use Rattle.deneva_base.specs.Keys.{key_eq, attempt_eq}
use Rattle.deneva_base.specs.Modes.{writes}
use Rattle.control_trials.specs.Logs.{is_at}
use Rattle.control_trials.proofs.Logs.{held}
use Rattle.control_trials.proofs.log.Log.holds.Goals as goal

pub returns : goal.returns
returns c t h f =
    let log = c.args.self.now in
    let who = c.args.who in
    let key = c.args.key in
    let r : list_any (λ a. attempt_eq a.who who && (key_eq a.key key && not (writes a.mode))) log.asks ≡ false = search rules in
    let g : list_any (is_at who key) log.grants ≡ true = search rules in
    held log h f who key r g
