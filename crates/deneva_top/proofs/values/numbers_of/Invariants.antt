use Rattle.std.proofs.Common.{◌≡◌, ◌==◌, ◌≤◌, length, map, drop}
use Rattle.std.specs.List.{slice_split}
use Rattle.deneva_top.specs.Words.{all_of, number}
use Rattle.deneva_top.proofs.ListedNumbers.{onto}
use Rattle.deneva_top.proofs.values.numbers_of.Given as goal

-- the numbers so far are of the first parts
abbrev pub invariant-loop-part : goal.invariant-loop-part
invariant-loop-part l =
    let parts = slice_split (λ b. b == 46) l.text in
    record {
      as_many : length l.numbers ≡ length l.yielded;
      few : length l.numbers ≤ 1000;
      whole : onto (number 0 4294967295) l.numbers (drop (length l.yielded) parts) ≡ all_of (map (number 0 4294967295) parts);
    }
