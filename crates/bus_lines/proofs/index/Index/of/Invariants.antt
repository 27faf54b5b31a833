use Rattle.bus_lines.proofs.Cited.{◌≡◌, ◌≤◌, ℕ, [], get_or, length, vec_capacity, lists_of}
use Rattle.bus_lines.proofs.index.Index.of.Given as goal

-- so many addresses have nobody yet
abbrev pub invariant-loop : goal.invariant-loop
invariant-loop l = record {
  count : length l.at.items ≡ l.counter;
  room : 128 ≤ vec_capacity l.at;
  none : (a : ℕ) → get_or (lists_of l.at.items) a [] ≡ [];
}
