use Rattle.bus_clear.proofs.Cited.{◌-◌, ◌≡◌, ◌≤◌, IsTrue, start_pulls, cut_clocks, the_table, mask_at}
use Rattle.bus_clear.proofs.cut.cut_read.Given as goal

-- the clocks that are left come to what all of them come to
abbrev pub invariant-loop-number : goal.invariant-loop-number
invariant-loop-number g l =
    let bus = g.L.Lines.bus in
    let mask = mask_at (g.L.Lines.board l.fn.lines) in
    record {
      board : g.L.Lines.board l.lines ≡ g.L.Lines.board l.fn.lines;
      bus : IsTrue g.L.Lines.tells → cut_clocks the_table mask l.byte l.number (l.cut - l.number) (bus l.lines)
          ≡ cut_clocks the_table mask l.byte 1 (l.cut - 1) (start_pulls the_table mask (bus l.fn.lines));
      some : 1 ≤ l.number;
      few : l.number ≤ l.cut;
    }

abbrev pub decreases-loop-number : goal.decreases-loop-number
decreases-loop-number g l = l.cut - l.number
