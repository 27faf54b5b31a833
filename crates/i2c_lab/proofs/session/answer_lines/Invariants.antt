use Rattle.std.proofs.Common.{◌≤◌}
use Rattle.i2c_session.specs.Inputs.{lines_in}
use Rattle.i2c_lab.proofs.SessionLemmas.{HasSaidSoFar}
use Rattle.i2c_lab.proofs.session.answer_lines.Given as goal

abbrev pub decreases-loop-line : goal.decreases-loop-line
decreases-loop-line g l = l.input.left

abbrev pub invariant-loop-line : goal.invariant-loop-line
invariant-loop-line g l =
    record {
      sink : g.K.Sink.faults l.fn.sink ≤ g.K.Sink.faults l.sink;
      input : l.fn.input.faults ≤ l.input.faults;
      said : HasSaidSoFar l.fn.board (lines_in (g.R.Read.remaining l.fn.input.reader)) (lines_in (g.R.Read.remaining l.input.reader))
          g.K.Sink.tells l.session (g.K.Sink.bytes l.fn.sink) (g.K.Sink.bytes l.sink);
    }
