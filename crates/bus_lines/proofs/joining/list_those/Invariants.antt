use Rattle.bus_lines.proofs.Cited.{◌≡◌, ℕ, ◌&&◌, length, drop, take, joins_by, states_on, is_among}
use Rattle.bus_lines.proofs.KnownLemmas.{read_those}
use Rattle.bus_lines.proofs.joining.list_those.Given as goal

-- what is left to be read comes to what all comes to; those that were read and are joined are listed
abbrev pub invariant-loop-number : goal.invariant-loop-number
invariant-loop-number l =
    let joins = joins_by l.places (states_on l.fn.targets) in
    record {
      count : length l.targets ≡ length l.fn.targets;
      states : states_on l.targets ≡ states_on l.fn.targets;
      targets : read_those joins (drop l.number-index l.numbers) l.targets ≡ read_those joins l.numbers l.fn.targets;
      room : l.list.room ≡ l.fn.list.room;
      among : (k : ℕ) → is_among l.list.items k ≡ (is_among (take l.number-index l.numbers) k && joins k);
    }
