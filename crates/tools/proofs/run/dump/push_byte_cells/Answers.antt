use Rattle.tools.proofs.Cited.{◌≡◌, List, ℕ, ◌++◌, ◌∷◌, [], take, sym, ap, ◌∙◌, append_assoc, arith, take-length, dump_cell, dump_sign}
use Rattle.tools.proofs.Cited.{parts, in_row}
use Rattle.std.proofs.lemmas.List.{length-set, take_more_set}
use Rattle.tools.proofs.TableLemmas.{parts_more}
use Rattle.tools.proofs.run.dump.push_byte_cells.Goals as goal

pub loop-column-preserved : goal.loop-column-preserved
loop-column-preserved c =
    let l = c.loop-column in
    let cell : ℕ → List ℕ = in_row (dump_cell c.args.dump.now c.args.replies.now) c.args.row in
    let sign : ℕ → List ℕ = in_row (dump_sign c.args.dump.now c.args.replies.now) c.args.row in
    record {
      same = c.push_byte_cell.ensures.bytes ∙ ap (λ t. t ++ cell l.column) l.invariant.same
          ∙ append_assoc c.args.out.now.bytes (parts cell l.column) (cell l.column)
          ∙ ap (λ t. c.args.out.now.bytes ++ t) (sym (parts_more cell l.column));
      signs = rw c.from.ensures (take_more_set l.signs l.column c.push_byte_cell.result
          (omega (arith, l.invariant.wide, c.loop-column-test.true))
          ∙ ap (λ t. t ++ c.push_byte_cell.result ∷ []) l.invariant.signs
          ∙ ap (λ t. parts sign l.column ++ t) (sym c.push_byte_cell.ensures.sign) ∙ sym (parts_more sign l.column));
      wide = rw c.from.ensures (length-set l.signs l.column c.push_byte_cell.result ∙ l.invariant.wide);
      room = omega (arith, c.push_byte_cell.ensures.room, l.invariant.room);
    }

pub returns-clause-signs : goal.returns-clause-signs
returns-clause-signs c =
    let l = c.loop-column in
    let last : l.column ≡ 16 = omega (arith, c.loop-column-test.false, l.auto.column-end) in
    let whole : take 16 l.signs ≡ l.signs = ap (λ n. take n l.signs) (sym l.invariant.wide) ∙ take-length l.signs in
    sym whole ∙ rw last at l.invariant.signs
