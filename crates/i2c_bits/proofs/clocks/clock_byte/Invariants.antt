use Rattle.std.proofs.Common.{◌≡◌, ◌<◌, IsTrue, ◌-◌, ◌^◌, ◌≤◌}
use Rattle.wire_spec.specs.Wires.{bits}
use Rattle.wire_spec.specs.Bus.{bit_steps}
use Rattle.i2c_bits.specs.Wiring.{the_table, mask_at}
use Rattle.i2c_bits.proofs.clocks.clock_byte.Given as goal

-- the bits that are left come to what all of them come to
abbrev pub invariant-loop-left : goal.invariant-loop-left
invariant-loop-left g l =
    let bus = g.L.Lines.bus in
    let mask = mask_at (g.L.Lines.board l.fn.lines) in
    record {
      board : g.L.Lines.board l.lines ≡ g.L.Lines.board l.fn.lines;
      bus : IsTrue g.L.Lines.tells → bit_steps the_table mask l.read (bits l.left l.byte) (bus l.lines)
          ≡ bit_steps the_table mask 0 (bits 8 l.byte) (bus l.fn.lines);
      few : l.left ≤ 8;
      fits : l.read < 2 ^ (8 - l.left);
      slow : (g.L.Lines.wire l.lines).slow ≡ (g.L.Lines.wire l.fn.lines).slow;
    }

abbrev pub decreases-loop-left : goal.decreases-loop-left
decreases-loop-left g l = l.left
