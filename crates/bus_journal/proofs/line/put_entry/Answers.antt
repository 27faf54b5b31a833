use Rattle.bus_journal.proofs.Cited.{◌≡◌, ℕ, List, ◌++◌, sym, ap, ◌∙◌, place_text, part_text, data_text, result_text, entry_line, entry_by}
use Rattle.bus_journal.proofs.Cited.{Head}
use Rattle.bus_journal.proofs.Behind.{put_behind, four_pieces}
use Rattle.bus_journal.proofs.line.put_entry.Goals as goal

pub returns-in_ok-push_data-in-Message-clause-text : goal.returns-in_ok-push_data-in-Message-clause-text
returns-in_ok-push_data-in-Message-clause-text c =
    let m = c.in-Message in
    let out = c.args.out.now.items in
    let place = place_text m.caller m.bus in
    let part = part_text m.purpose m.part m.parts in
    let told = data_text m.addr m.reading c.args.entry.now.bytes.now in
    let result = result_text m.heard m.end in
    let parted : c.put_message_front.new.room ≡ place ++ part =
    c.put_message_front.ensures.text ∙ ap (λ (xs : List ℕ). xs ++ (place ++ part)) c.requires in
    let front : c.push_data.new.out.items ++ c.push_data.new.room ≡ out ++ ((place ++ part) ++ told) =
    c.in_ok-push_data-in-Message.ensures.text ∙ ap (λ (xs : List ℕ). out ++ (xs ++ told)) parted in
    put_behind out c.push_data.new.out.items c.push_data.new.room c.put_result.new.room ((place ++ part) ++ told) result front
    c.put_result.ensures.text
    ∙ (ap (λ (xs : List ℕ). out ++ xs) (four_pieces place part told result)
    ∙ ap (λ (h : Head). out ++ entry_line (entry_by h c.args.entry.now.bytes.now)) (sym m.is))
