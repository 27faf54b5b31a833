use Rattle.tools.proofs.Cited.{sym, refl, append-nil, arith, word_line}
use Rattle.tools.proofs.TableLemmas.{parts_none, rows_next}
use Rattle.tools.proofs.run.dump.push_word_table.Goals as goal

pub loop-row-init : goal.loop-row-init
loop-row-init c = record {
  same = rw (parts_none (word_line c.args.dump.now c.args.replies.now)) (sym (append-nil c.args.out.now.bytes));
  room = omega arith;
}

pub loop-row-preserved : goal.loop-row-preserved
loop-row-preserved c = record {
  same = rows_next c.args.out.now.bytes _ c.loop-row.out.bytes _ (word_line c.args.dump.now c.args.replies.now) c.loop-row.row refl
      c.loop-row.invariant.same c.push_word_row.ensures.bytes;
  room = omega (arith, c.push_word_row.ensures.room, c.loop-row.invariant.room);
}
