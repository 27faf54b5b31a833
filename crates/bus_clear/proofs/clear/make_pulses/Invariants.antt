use Rattle.bus_clear.proofs.Cited.{◌-◌, ◌≡◌, ◌≤◌, IsTrue, more_pulses, MOST_PULSES, clear_from, the_table, mask_at}
use Rattle.i2c_bits.specs.Wiring.{AreLetGo}
use Rattle.bus_clear.proofs.clear.make_pulses.Given as goal

-- the pulses that are left come to what all of them come to
abbrev pub invariant-loop-high : goal.invariant-loop-high
invariant-loop-high g l =
    let bus = g.L.Lines.bus in
    let wire = g.L.Lines.wire in
    let mask = mask_at (g.L.Lines.board l.fn.lines) in
    record {
      board : g.L.Lines.board l.lines ≡ g.L.Lines.board l.fn.lines;
      bus : IsTrue g.L.Lines.tells → clear_from the_table mask l.high (MOST_PULSES - l.pulses) l.pulses (bus l.lines)
          ≡ clear_from the_table mask l.level MOST_PULSES 0 (bus l.fn.lines);
      let_go : AreLetGo (wire l.lines);
      seen : (wire l.lines).sda_high ≡ l.high;
      pulses : (wire l.lines).pulses ≡ more_pulses l.pulses (wire l.fn.lines).pulses;
      stuck : (wire l.lines).stuck ≡ (wire l.fn.lines).stuck;
      few : l.pulses ≤ MOST_PULSES;
    }

abbrev pub decreases-loop-high : goal.decreases-loop-high
decreases-loop-high g l = MOST_PULSES - l.pulses
