use Rattle.bus_journal.proofs.Cited.{ℕ, List, ◌++◌, ap, ◌∙◌, codes, joined, two_digits, direction_text}
use Rattle.bus_journal.proofs.Behind.{put_behind, seven_pieces}
use Rattle.bus_journal.proofs.line.push_data.Goals as goal

pub returns-clause-text : goal.returns-clause-text
returns-clause-text c =
    let was = c.args.room.now in
    let out = c.args.out.now.items in
    let way = direction_text c.args.reading in
    let digits = two_digits c.args.addr in
    let bytes = joined c.args.bytes.now in
    let front = was ++ (way ++ (codes " 0x" ++ (digits ++ codes " ["))) in
    let behind = c.in_ok-push_joined.ensures.text ∙ ap (λ (xs : List ℕ). out ++ (xs ++ bytes)) c.put_address.ensures.text in
    put_behind out c.push_joined.new.out.items c.push_joined.new.room c.put.new.room (front ++ bytes) (codes "] ") behind c.put.ensures
    ∙ ap (λ (xs : List ℕ). out ++ xs) (seven_pieces was way (codes " 0x") digits (codes " [") bytes (codes "] "))
