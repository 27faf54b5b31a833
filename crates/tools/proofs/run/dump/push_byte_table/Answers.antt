use Rattle.tools.proofs.Cited.{◌++◌, codes, sym, ap, ◌∙◌, refl, arith, byte_line, heading}
use Rattle.tools.proofs.TableLemmas.{lines_none, line_next}
use Rattle.tools.proofs.run.dump.push_byte_table.Goals as goal

pub loop-row-init : goal.loop-row-init
loop-row-init c = record {
  same = c.push.ensures.bytes
      ∙ ap (λ t. c.args.out.now.bytes ++ t)
      (sym (lines_none (heading ++ codes "    0123456789abcdef") (byte_line c.args.dump.now c.args.replies.now)));
  room = omega (arith, c.push.ensures.room);
}

pub loop-row-preserved : goal.loop-row-preserved
loop-row-preserved c = record {
  same = line_next c.args.out.now.bytes (heading ++ codes "    0123456789abcdef") _ c.loop-row.out.bytes _
      (byte_line c.args.dump.now c.args.replies.now) c.loop-row.row refl c.loop-row.invariant.same c.push_byte_row.ensures.bytes;
  room = omega (arith, c.push_byte_row.ensures.room, c.loop-row.invariant.room);
}
