use Rattle.bus_lines.proofs.Cited.{◌≡◌, ◌<◌, ℕ, [], get_or, length, take, NO_ADDRESS, lists_of, numbers_at}
use Rattle.bus_lines.proofs.index.add_each.Given as goal

-- those of so many
abbrev pub invariant-loop-number : goal.invariant-loop-number
invariant-loop-number l = record {
  all : length l.at.items ≡ NO_ADDRESS;
  listed : (a : ℕ) → a < NO_ADDRESS → get_or (lists_of l.at.items) a [] ≡ numbers_at (take l.number l.targets) a;
}
