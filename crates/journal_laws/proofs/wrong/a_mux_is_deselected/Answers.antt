use Rattle.journal_laws.proofs.Cited.{◌≡◌, [], Some, SwitchOff, Deselect, Send, Free, steps_in, deep_asks}
use Rattle.journal_laws.specs.WalkRows.{hop}
use Rattle.i2c_base.specs.declared.ids.LockId.TheVariants as lock
use Rattle.bus_spec.specs.Rows as row
use Rattle.journal_laws.specs.Wrong.{not_deselected}
use Rattle.journal_laws.proofs.past.Follow.{transfers-follow}
use Rattle.journal_laws.proofs.wrong.a_mux_is_deselected.Goals as goal

pub returns : goal.returns
returns c =
    record {
      legal = λ callers legal.
          (let steps = transfers-follow row.parent_locked (deep_asks 0) [] (steps_in row.parent_locked deep_asks 0 not_deselected)
          (legal.walks 0) in
          let freed = steps.1.1.1.1.1.1.0 in
          let f : Some (Send (SwitchOff (Deselect hop)) 0) ≡ Some (Free (lock.Bus 0)) = freed in cc);
      stepwise = λ callers steps. (let f : Some (Send (SwitchOff (Deselect hop)) 0) ≡ Some (Free (lock.Bus 0)) = steps.0.2 in cc);
    }
