use Rattle.journal_laws.proofs.Cited.{◌≡◌, [], ◌∷◌, Some, arith, Pca9548, SwitchOff, Close, Send, now, steps_in, two_asks}
use Rattle.i2c_base.specs.declared.entry.End.TheVariants as end
use Rattle.bus_spec.specs.Rows as row
use Rattle.journal_laws.specs.Wrong.{behind_a_failed_deselect, select_over_the_mark}
use Rattle.journal_laws.proofs.past.Follow.{transfers-follow, bytes-told}
use Rattle.journal_laws.proofs.wrong.no_select_before_the_close.Goals as goal

pub returns : goal.returns
returns c = λ callers byte some legal.
    (let steps = transfers-follow row.parent_locked (two_asks 0) [] (steps_in row.parent_locked two_asks 0 (select_over_the_mark byte))
    (legal.walks 0) in
    let sent = steps.1.1.1.1.1.1.1.1.1.1.1.0 in
    let closes : byte ∷ [] ≡ 0 ∷ [] =
    bytes-told row.parent_locked (now row.parent_locked two_asks behind_a_failed_deselect) end.Ok
    (Some (Send (SwitchOff (Close 0 0 Pca9548)) 0)) sent.0 sent.1 (byte ∷ []) sent.2 sent.3.bytes_told in
    let zero_byte : byte ≡ 0 = cc in
    absurd (omega (arith, some, zero_byte)))
