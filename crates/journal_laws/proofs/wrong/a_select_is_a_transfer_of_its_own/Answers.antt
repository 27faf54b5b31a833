use Rattle.journal_laws.proofs.Cited.{false, ◌≡◌, true, [], Some, ap, arith, Pca9548, Select, Send, steps_in, deep_asks}
use Rattle.journal_laws.proofs.past.Follow.{Head, transfers-follow, head-told}
use Rattle.bus_spec.specs.Rows as row
use Rattle.journal_laws.specs.Wrong.{select_joined}
use Rattle.journal_laws.proofs.wrong.a_select_is_a_transfer_of_its_own.Goals as goal

pub returns : goal.returns
returns c = λ callers legal.
    (let steps = transfers-follow row.parent_locked (deep_asks 0) [] (steps_in row.parent_locked deep_asks 0 select_joined)
    (legal.walks 0) in
    let told = steps.1.1.0 in
    let f : 3 ≡ 1 = ap (λ (h : Head). h.parts)
    (head-told _ _ (Some (Send (Select (record { bus = 1; mux = 0; channel = 0; on = 0; parent = true; stays = false; kind = Pca9548 }))
    0)) told.0 told.1 _ told.2 told.3) in
    absurd (omega (arith, f)))
