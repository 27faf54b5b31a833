use Rattle.journal_laws.proofs.Cited.{◌≡◌, [], Some, ap, steps_in, messages_of, Call, Send, Free, kept_board}
use Rattle.i2c_base.specs.declared.entry.Purpose.TheVariants as purpose
use Rattle.journal_laws.proofs.past.Follow.{Head, transfers-follow, head-told}
use Rattle.i2c_base.specs.declared.ids.LockId.TheVariants as lock
use Rattle.bus_spec.specs.Rows as row
use Rattle.journal_laws.specs.Wrong.{same_asks, selected_again, deselected}
use Rattle.journal_laws.proofs.wrong.a_mux_that_stays_is_left_alone.Goals as goal

pub returns : goal.returns
returns c =
    record {
      again = λ callers legal.
          (let steps = transfers-follow kept_board (same_asks 0) [] (steps_in kept_board same_asks 0 selected_again) (legal.walks 0) in
          let told = steps.1.1.1.1.1.1.1.1.1.1.0 in
          let next = Some (Send (Call 1 (messages_of (row.read 1 0x30 0))) 1) in
          let f : purpose.Control 0 ≡ purpose.Call = ap (λ (h : Head). h.purpose) (head-told _ _ next told.0 told.1 _ told.2 told.3) in cc);
      deselected = λ callers legal.
          (let steps = transfers-follow kept_board (same_asks 0) [] (steps_in kept_board same_asks 0 deselected) (legal.walks 0) in
          let told = steps.1.1.1.1.1.1.0 in
          let f : Some (Free (lock.Bus 0)) ≡ Some (Send told.0 told.1) = told.2 in cc);
    }
