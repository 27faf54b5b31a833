use Rattle.std.proofs.Common.{sym, arith}
use Rattle.i2c_base.specs.Replies.{reply_by}
use Rattle.i2c_drivers.proofs.SensorLemmas.{fits_at, line_next, lines_done}
use Rattle.i2c_drivers.proofs.sensors.push_lines.Goals as goal

pub push_line-requires-clause-fits : goal.push_line-requires-clause-fits
push_line-requires-clause-fits c =
    fits_at c.args.sensors.now c.args.replies.now c.loop-place.place c.index-sensors-place.result
    (reply_by c.in-Some.head c.in-Some.bytes.now) c.requires.fit c.loop-place-test.true c.index-sensors-place.is
    (sym c.in-Some.ensures)

pub returns-in-None-clause-bytes : goal.returns-in-None-clause-bytes
returns-in-None-clause-bytes c =
    lines_done c.args.sensors.now c.args.replies.now c.loop-place.place _ _ (sym c.in-None.ensures) c.loop-place.invariant.same

pub loop-place-preserved : goal.loop-place-preserved
loop-place-preserved c = record {
  same = line_next c.args.sensors.now c.args.replies.now c.loop-place.place _ c.loop-place.out.bytes c.push_line.new.out.bytes
      c.index-sensors-place.result (reply_by c.in-Some.head c.in-Some.bytes.now) c.loop-place-test.true c.index-sensors-place.is
      (sym c.in-Some.ensures) c.push_line.ensures.bytes c.loop-place.invariant.same;
  room = omega (arith, c.push_line.ensures.room, c.loop-place.invariant.room);
}
