use Rattle.bus_lines.proofs.Cited.{◌≡◌, ℕ, ◌||◌, ◌&&◌, take, joined_at, is_among}
use Rattle.bus_lines.proofs.message.add_joined.Given as goal

-- so many were looked at
abbrev pub invariant-loop-number : goal.invariant-loop-number
invariant-loop-number l = record {
  room : l.list.room ≡ l.fn.list.room;
  among : (k : ℕ) → is_among l.list.items k ≡ (is_among l.fn.list.items k
      || (is_among (take l.number-index l.numbers) k && joined_at l.targets k));
}
