use Rattle.i2c_top.proofs.Cited.{◌≡◌, ◌≤◌, ◌++◌, take, IsTrue, lines_of}
use Rattle.i2c_top.proofs.write.write_journals.Given as goal

abbrev pub invariant-loop-journal : goal.invariant-loop-journal
invariant-loop-journal g l =
    record {
      later : g.K.Sink.faults l.fn.sink ≤ g.K.Sink.faults l.sink;
      written : IsTrue g.K.Sink.tells → g.K.Sink.bytes l.sink ≡ g.K.Sink.bytes l.fn.sink ++ lines_of (take l.journal-index l.journals);
    }
