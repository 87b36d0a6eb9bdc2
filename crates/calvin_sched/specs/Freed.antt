-- Which transactions become ready when one finishes, by the queues of the keys that it accessed.
use Rattle.std.specs.Prelude.{⊤, ℕ, List, [], ◌∷◌, map, filter, ◌&&◌, ◌||◌, Some}
use Rattle.std.specs.List.{flat_map}
use Rattle.std.specs.BTreeSet.{insert_key}
use Rattle.deneva_base.specs.Keys.{NumberLt, number_cmp}
use Rattle.deneva_base.specs.Lists.{IsIn}
use Rattle.deneva_base.specs.Modes.{writes}
use Rattle.deneva_base.specs.declared.keys.Access.{Access}
use Rattle.deneva_base.specs.declared.keys.Key.{Key}
use Rattle.deneva_base.specs.declared.numbers.Number.{Number}
use Rattle.deneva_base.specs.declared.numbers.TxnId.{TxnId}
use Rattle.server_core.specs.GlobalOrder.{number}
use Rattle.server_core.specs.Setting.{Setting}
use Rattle.calvin_sched.specs.Asked.{all_free}
use Rattle.calvin_sched.specs.Queues.{heads}
use Rattle.calvin_sched.specs.declared.requests.Request.{Request}

-- their numbers, at one access of the one that ends
abbrev pub freed_on : Setting → ℕ → (Key → List Request) → TxnId → Access → List Number
freed_on s p queue ended a = map (λ r. number s r.id) (filter (λ r. (r.writes || writes a.mode) && all_free s p queue r.id (Some ended)) (heads ended (queue a.key)))

-- at several of its accesses
abbrev pub freed_by : Setting → ℕ → (Key → List Request) → TxnId → List Access → List Number
freed_by s p queue ended accesses = flat_map (freed_on s p queue ended) accesses

-- numbers in rising order, with these
abbrev pub put_numbers : List Number → List Number → List Number
put_numbers ns [] = ns
put_numbers ns (n ∷ more) = put_numbers (insert_key number_cmp ns n) more

-- each number is below all that follow
abbrev pub RisingNumbers : List Number → Type 0
RisingNumbers [] = ⊤
RisingNumbers (n ∷ ns) = ((m : Number) → IsIn m ns → NumberLt n m) × RisingNumbers ns
