use Rattle.journal_laws.proofs.Cited.{◌≡◌, true, false, [], Some, ap, arith, Pca9548, Select, Send, steps_in, two_asks}
use Rattle.bus_spec.specs.Rows as row
use Rattle.journal_laws.specs.Wrong.{mark_forgotten}
use Rattle.journal_laws.proofs.past.Follow.{Head, transfers-follow, head-told}
use Rattle.journal_laws.proofs.wrong.a_forgotten_mark.Goals as goal

pub returns : goal.returns
returns c = λ callers legal.
    (let steps = transfers-follow row.parent_locked (two_asks 0) [] (steps_in row.parent_locked two_asks 0 mark_forgotten)
    (legal.walks 0) in
    let called = steps.1.1.1.1.1.1.1.1.1.1.1.1.0 in
    let selects = Some (Send (Select (record { bus = 2; mux = 0; channel = 1; on = 0; parent = true; stays = false; kind = Pca9548 })) 0) in
    let f : 2 ≡ 0 = ap (λ (h : Head). h.bus) (head-told _ _ selects called.0 called.1 _ called.2 called.3) in
    absurd (omega (arith, f)))
