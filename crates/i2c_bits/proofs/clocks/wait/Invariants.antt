use Rattle.std.proofs.Common.{◌≡◌, ℕ, IsTrue, ◌≤◌, ◌-◌}
use Rattle.wire_spec.specs.Bus.{await}
use Rattle.i2c_bits.specs.Wiring.{the_table}
use Rattle.i2c_bits.proofs.Looks.{Counted}
use Rattle.i2c_bits.proofs.clocks.wait.Given as goal

-- the looks that are left come to what all of them come to
abbrev pub invariant-loop-left : goal.invariant-loop-left
invariant-loop-left g l =
    let bus = g.L.Lines.bus in
    let wire = g.L.Lines.wire in
    record {
      board : g.L.Lines.board l.lines ≡ g.L.Lines.board l.fn.lines;
      bus : IsTrue g.L.Lines.tells → (v : ℕ) → await the_table v l.left (bus l.lines) ≡ await the_table v l.looks (bus l.fn.lines);
      few : l.left ≤ l.looks;
      scl : (wire l.lines).scl ≡ (wire l.fn.lines).scl;
      sda : (wire l.lines).sda ≡ (wire l.fn.lines).sda;
      pulses : (wire l.lines).pulses ≡ (wire l.fn.lines).pulses;
      counted : Counted (l.looks - l.left) (wire l.fn.lines) (wire l.lines);
    }

abbrev pub decreases-loop-left : goal.decreases-loop-left
decreases-loop-left g l = l.left
