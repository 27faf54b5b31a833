use Rattle.journal_laws.proofs.Cited.{◌≡◌, true, [], Some, ap, Pca9548, steps_in, Select, Send, kept_board, keep_asks}
use Rattle.i2c_base.specs.declared.entry.Purpose.TheVariants as purpose
use Rattle.journal_laws.proofs.past.Follow.{Head, transfers-follow, head-told}
use Rattle.journal_laws.specs.Wrong.{select_left_out}
use Rattle.journal_laws.proofs.wrong.another_channel_is_selected_first.Goals as goal

pub returns : goal.returns
returns c = λ callers legal.
    (let steps = transfers-follow kept_board (keep_asks 0) [] (steps_in kept_board keep_asks 0 select_left_out) (legal.walks 0) in
    let told = steps.1.1.1.1.1.1.1.1.1.1.1.1.1.1.1.1.1.0 in
    let next = Some (Send (Select (record { bus = 1; mux = 0; channel = 0; on = 0; parent = true; stays = true; kind = Pca9548 })) 0) in
    let f : purpose.Call ≡ purpose.Control 0 = ap (λ (h : Head). h.purpose) (head-told _ _ next told.0 told.1 _ told.2 told.3) in cc)
