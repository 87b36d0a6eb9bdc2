use Rattle.std.proofs.Common.{◌≡◌, ◌<◌, ◌^◌, take}
use Rattle.workload_text.specs.Numbers.{value_of}
use Rattle.workload_text.proofs.numbers.value.Given as goal

-- what the digits so far spell
abbrev pub invariant-loop-b : goal.invariant-loop-b
invariant-loop-b l =
    record {
      is : l.n ≡ value_of (take l.b-index l.digits);
      fits : l.n < 2 ^ 64;
    }
