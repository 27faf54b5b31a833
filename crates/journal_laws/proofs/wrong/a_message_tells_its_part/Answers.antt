use Rattle.journal_laws.proofs.Cited.{◌≡◌, [], Some, ap, arith, messages_of, Call, Send, steps_in}
use Rattle.journal_laws.proofs.past.Follow.{Head, transfers-follow, head-told}
use Rattle.bus_spec.specs.Rows as row
use Rattle.journal_laws.specs.Wrong.{silent_asks, another_part}
use Rattle.journal_laws.proofs.wrong.a_message_tells_its_part.Goals as goal

pub returns : goal.returns
returns c = λ callers legal.
    (let steps = transfers-follow row.one_device (silent_asks 0) [] (steps_in row.one_device silent_asks 0 another_part) (legal.walks 0) in
    let told = steps.1.0 in
    let f : 7 ≡ 1 = ap (λ (h : Head). h.part)
    (head-told _ _ (Some (Send (Call 0 (messages_of (row.read 0 0x21 5))) 1)) told.0 told.1 _ told.2 told.3) in
    absurd (omega (arith, f)))
