use Rattle.tools.proofs.Cited.{◌≡◌, ◌≤◌, drop, base_of, digits_on, within}
use Rattle.tools.proofs.number.value.Given as goal

abbrev pub invariant-loop-byte : goal.invariant-loop-byte
invariant-loop-byte l =
    record {
      small : l.value ≤ 128000;
      base : l.base ≡ base_of l.hexadecimal;
      same : within 0 128000 (digits_on l.hexadecimal l.value (drop l.byte-index l.digits)) ≡ within 0 128000
          (digits_on l.hexadecimal 0 l.digits);
    }
