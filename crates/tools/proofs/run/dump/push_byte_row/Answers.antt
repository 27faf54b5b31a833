use Rattle.tools.proofs.Cited.{◌≡◌, List, ℕ, ◌++◌, codes, ap, ◌∙◌, append_assoc, dump_cell, dump_sign, parts, in_row}
use Rattle.tools.proofs.TableLemmas.{row_ended}
use Rattle.tools.proofs.run.dump.push_byte_row.Goals as goal

pub returns-clause-bytes : goal.returns-clause-bytes
returns-clause-bytes c =
    let cells : List ℕ = parts (in_row (dump_cell c.args.dump.now c.args.replies.now) c.args.row) 16 in
    let signs : List ℕ = parts (in_row (dump_sign c.args.dump.now c.args.replies.now) c.args.row) 16 in
    let whole : c.push-2.new.self.bytes ≡ c.push_row_front.new.out.bytes ++ (cells ++ (codes "    " ++ signs)) =
    c.push-2.ensures.bytes
    ∙ ap (λ t. c.push.new.self.bytes ++ t) c.push_byte_cells-signs.ensures.signs
    ∙ ap (λ t. t ++ signs) (c.push.ensures.bytes ∙ ap (λ t. t ++ codes "    ") c.push_byte_cells-signs.ensures.bytes)
    ∙ append_assoc (c.push_row_front.new.out.bytes ++ cells) (codes "    ") signs
    ∙ append_assoc c.push_row_front.new.out.bytes cells (codes "    " ++ signs) in
    row_ended _ _ _ _ _ _ c.args.row c.push_row_front.ensures.bytes whole c.trim.ensures.bytes c.push_byte.ensures.bytes
