use Rattle.journal_laws.proofs.Cited.{◌≡◌, [], Some, Send, Free, steps_in, deep_asks}
use Rattle.i2c_base.specs.declared.ids.LockId.TheVariants as lock
use Rattle.journal_laws.proofs.past.Follow.{transfers-follow}
use Rattle.bus_spec.specs.Rows as row
use Rattle.journal_laws.specs.Wrong.{held_as_parent_locked}
use Rattle.journal_laws.proofs.wrong.a_mux_locked_mux_frees_its_root.Goals as goal

pub returns : goal.returns
returns c = λ callers legal.
    (let steps = transfers-follow row.mux_locked (deep_asks 0) [] (steps_in row.mux_locked deep_asks 0 held_as_parent_locked)
    (legal.walks 0) in
    let told = steps.1.1.1.0 in
    let f : Some (Free (lock.Bus 0)) ≡ Some (Send told.0 told.1) = told.2 in cc)
