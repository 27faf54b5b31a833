use Rattle.std.proofs.Common.{◌≡◌, ◌++◌, map, take, string_bytes}
use Rattle.bus_cases.proofs.case.add_each.Given as goal

abbrev pub invariant-loop-word : goal.invariant-loop-word
invariant-loop-word l =
    map string_bytes l.words.items ≡ map string_bytes l.fn.words.items ++ map string_bytes (take l.word-index l.others)
