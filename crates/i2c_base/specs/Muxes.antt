-- What is so of every mux of a kind: one row for each, in the order of the board file's table. A new kind is a row.
use Rattle.std.specs.Prelude.{⊤, ℕ, ◌≤◌, true, false, Some, None}
use Rattle.i2c_base.specs.declared.board.MuxKind.{MuxKind}
use Rattle.i2c_base.specs.declared.board.MuxKind.TheVariants.{Pca9548, Pca9546, Pca9544, Pca9541, Gpio}
use Rattle.i2c_base.specs.declared.mux_facts.MuxFacts.{MuxFacts}
use Rattle.i2c_base.specs.declared.mux_facts.ChannelCode.{ChannelCode}
use Rattle.i2c_base.specs.declared.mux_facts.ChannelCode.TheVariants.{Bits, Number, Alone, Level}

-- a mux has at most eight channels, so no number of one has more than three bits
abbrev pub IsNarrowCode : ChannelCode → Type 0
IsNarrowCode Bits = ⊤
IsNarrowCode (Number bit) = bit ≤ 3
IsNarrowCode Alone = ⊤
IsNarrowCode Level = ⊤

-- a switch of so many channels, a bit of its control byte for each (NXP PCA9546A, PCA9548A: control register)
abbrev pub switch_of : ℕ → MuxFacts
switch_of n = record { channels = Some n; bits = n; code = Bits; by_line = false; asks = false; wants_parent = false; may_stay = true }

-- the PCA9544 has an enable bit above the number of its channel (NXP PCA9544A: control register); the arbitrator is
-- only after the PCA9541; a mux switched by a line has as many channels as its board says. The last two are
-- parent-locked (Linux i2c-topology), and disconnect when idle
abbrev pub facts_of : MuxKind → MuxFacts
facts_of Pca9548 = switch_of 8
facts_of Pca9546 = switch_of 4
facts_of Pca9544 = record {
  channels = Some 4;
  bits = 3;
  code = Number 2;
  by_line = false;
  asks = false;
  wants_parent = false;
  may_stay = true;
}
facts_of Pca9541 = record { channels = Some 1; bits = 1; code = Alone; by_line = false; asks = true; wants_parent = true; may_stay = false }
facts_of Gpio = record { channels = None; bits = 0; code = Level; by_line = true; asks = false; wants_parent = true; may_stay = false }
