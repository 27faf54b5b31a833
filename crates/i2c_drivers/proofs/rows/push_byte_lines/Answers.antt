use Rattle.std.proofs.Common.{arith}
use Rattle.i2c_drivers.proofs.RowLemmas.{many_next, same_next, some_ended, none_ended}
use Rattle.i2c_drivers.proofs.rows.push_byte_lines.Goals as goal

pub loop-place-preserved : goal.loop-place-preserved
loop-place-preserved c =
    let rs = c.args.replies.now in
    let k = c.loop-place.place in
    record {
      many = many_next rs c.args.out.now.bytes k c.loop-place.next c.push_cells-next.result c.bytes_at.result.now c.bytes_at.ensures
          c.push_cells-next.ensures.behind c.loop-place.invariant.many;
      same = same_next rs c.args.out.now.bytes k c.loop-place.next c.push_cells-next.result c.bytes_at.result.now c.loop-place.out.bytes
          c.push_cells-next.new.out.bytes c.bytes_at.ensures c.push_cells-next.ensures.behind c.push_cells-next.ensures.bytes
          c.loop-place.invariant.same;
      room = omega (arith, c.loop-place.invariant.room, c.push_cells-next.ensures.room, c.push_cells-next.ensures.behind);
    }

pub returns-then-next-gt0-clause-bytes : goal.returns-then-next-gt0-clause-bytes
returns-then-next-gt0-clause-bytes c =
    some_ended c.args.replies.now c.args.out.now.bytes c.loop-place.place c.loop-place.next c.loop-place.out.bytes _
    (omega (arith, c.loop-place-test.false, c.count-place-end.ensures)) c.loop-place.invariant.many c.if-next-gt0.true
    c.loop-place.invariant.same c.push_byte.ensures.bytes

pub returns-else-next-gt0-clause-bytes : goal.returns-else-next-gt0-clause-bytes
returns-else-next-gt0-clause-bytes c =
    none_ended c.args.replies.now c.args.out.now.bytes c.loop-place.place c.loop-place.next c.loop-place.out.bytes
    (omega (arith, c.loop-place-test.false, c.count-place-end.ensures)) c.loop-place.invariant.many c.if-next-gt0.false
    c.loop-place.invariant.same
