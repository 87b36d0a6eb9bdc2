use Rattle.std.proofs.Common.{◌≡◌, ℕ, List, length, drop, Option, Some, None, true, false, sym, subst, Bor, refl}
use Rattle.std.specs.Prelude.{nat_eq, option_map, if◌then◌else◌, MatchOption}
use Rattle.std.specs.List.{starts_with}
use Rattle.std.specs.Str.{IsCharBoundary}
use Rattle.std.specs.Str.Pattern.{FindsTextPrefix, StripsPrefix}
use Rattle.std.proofs.lemmas.Str.Pattern.{starts_text}
use Rattle.deneva_top.proofs.values.after.Goals as goal

rest_of : (prefix word : List ℕ) (r : Option (Bor (List ℕ)))
    → MatchOption r (FindsTextPrefix prefix word None) (λ x. StripsPrefix (FindsTextPrefix prefix) word x.now)
    → option_map (λ t. t.now) r ≡ (if starts_with nat_eq word prefix then Some (drop (length prefix) word) else None)
rest_of prefix word None lacks = let test = starts_text false prefix word lacks in rw (← test) refl
rest_of prefix word (Some x) (n, finds, is, len) =
    let test = starts_text true prefix word (n, finds, subst (λ (k : ℕ). IsCharBoundary word k) (sym finds.0) finds.2) in
    rw (← test, is, finds.0) refl

pub returns : goal.returns
returns c = rest_of c.args.prefix.now c.args.word.now c.strip_prefix.result c.strip_prefix.ensures.cases
