use Rattle.journal_laws.proofs.Cited.{◌≡◌, true, [], Some, ap, Pca9548, steps_in, Select, SwitchOff, Close, Send, kept_board, keep_asks}
use Rattle.i2c_base.specs.declared.entry.Purpose.TheVariants as purpose
use Rattle.journal_laws.proofs.past.Follow.{Head, transfers-follow, head-told}
use Rattle.journal_laws.specs.Wrong.{kept_over_the_mark, kept_over_the_close}
use Rattle.journal_laws.proofs.wrong.a_failed_select_forgets_what_was_kept.Goals as goal

pub returns : goal.returns
returns c =
    record {
      mark = λ callers legal.
          (let steps = transfers-follow kept_board (keep_asks 0) [] (steps_in kept_board keep_asks 0 kept_over_the_mark) (legal.walks 0) in
          let told = steps.1.1.1.1.1.1.1.1.1.1.1.1.1.1.1.1.0 in
          let next = Some (Send (SwitchOff (Close 0 0 Pca9548)) 0) in
          let f : purpose.Call ≡ purpose.Control 0 = ap (λ (h : Head). h.purpose) (head-told _ _ next told.0 told.1 _ told.2 told.3) in cc);
      close = λ callers legal.
          (let steps = transfers-follow kept_board (keep_asks 0) [] (steps_in kept_board keep_asks 0 kept_over_the_close) (legal.walks 0) in
          let told = steps.1.1.1.1.1.1.1.1.1.1.1.1.1.1.1.1.1.0 in
          let next = Some (Send (Select (record { bus = 1; mux = 0; channel = 0; on = 0; parent = true; stays = true; kind = Pca9548 })) 0)
          in
          let f : purpose.Call ≡ purpose.Control 0 = ap (λ (h : Head). h.purpose) (head-told _ _ next told.0 told.1 _ told.2 told.3) in cc);
    }
