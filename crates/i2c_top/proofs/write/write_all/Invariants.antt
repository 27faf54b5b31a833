use Rattle.i2c_top.proofs.Cited.{◌≡◌, ◌++◌, ◌≤◌, ◌-◌, take, length, IsTrue}
use Rattle.i2c_top.proofs.write.write_all.Given as goal

abbrev pub decreases-loop-done : goal.decreases-loop-done
decreases-loop-done g l = length l.text - l.done

abbrev pub invariant-loop-done : goal.invariant-loop-done
invariant-loop-done g l =
    record {
      within : l.done ≤ length l.text;
      later : g.K.Sink.faults l.initial.sink ≤ g.K.Sink.faults l.sink;
      written : IsTrue g.K.Sink.tells → g.K.Sink.bytes l.sink ≡ g.K.Sink.bytes l.initial.sink ++ take l.done l.text;
    }
