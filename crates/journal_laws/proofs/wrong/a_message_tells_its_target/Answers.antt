use Rattle.journal_laws.proofs.Cited.{◌≡◌, [], Some, ap, arith, messages_of, Call, Send, steps_in, one_asks}
use Rattle.journal_laws.proofs.past.Follow.{Head, transfers-follow, head-told}
use Rattle.bus_spec.specs.Rows as row
use Rattle.journal_laws.specs.Wrong.{another_target, neighbours}
use Rattle.journal_laws.proofs.wrong.a_message_tells_its_target.Goals as goal

pub returns : goal.returns
returns c = λ callers legal.
    (let steps = transfers-follow neighbours (one_asks 0) [] (steps_in neighbours one_asks 0 another_target) (legal.walks 0) in
    let told = steps.1.0 in
    let f : 0x21 ≡ 0x20 = ap (λ (h : Head). h.addr)
    (head-told _ _ (Some (Send (Call 0 (messages_of (row.read 0 0x20 5))) 1)) told.0 told.1 _ told.2 told.3) in
    absurd (omega (arith, f)))
