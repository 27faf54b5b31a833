use Rattle.bus_lines.proofs.Cited.{◌≡◌, ℕ, ◌<◌, true, is_among}
use Rattle.bus_lines.proofs.numbers.TargetNumbers.add_all.Given as goal

-- so many are among them
abbrev pub invariant-loop-number : goal.invariant-loop-number
invariant-loop-number l = record {
  room : l.self.room ≡ l.fn.self.room;
  among : (k : ℕ) → k < l.number → is_among l.self.items k ≡ true;
}
