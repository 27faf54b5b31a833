use Rattle.journal_laws.proofs.Cited.{◌≡◌, [], Some, messages_of, Call, Send, Free, steps_in, one_asks}
use Rattle.i2c_base.specs.declared.ids.LockId.TheVariants as lock
use Rattle.journal_laws.proofs.past.Follow.{transfers-follow}
use Rattle.bus_spec.specs.Rows as row
use Rattle.journal_laws.specs.Wrong.{unlocked_early}
use Rattle.journal_laws.proofs.wrong.the_lock_is_held_through_a_transfer.Goals as goal

pub returns : goal.returns
returns c = λ callers legal.
    (let steps = transfers-follow row.one_device (one_asks 0) [] (steps_in row.one_device one_asks 0 unlocked_early) (legal.walks 0) in
    let told = steps.1.1.0 in
    let f : Some (Send (Call 0 (messages_of (row.read 0 0x20 5))) 0) ≡ Some (Free (lock.Bus 0)) = told in cc)
