use Rattle.journal_laws.proofs.Cited.{◌≡◌, true, false, [], ◌∷◌, refl}
use Rattle.bus_spec.specs.Rows as row
use Rattle.journal_laws.specs.Wrong.{asks_register, reads_byte}
use Rattle.journal_laws.proofs.wrong.another_message_stands_outside.Goals as goal

pub returns : goal.returns
returns c = λ callers asks legal.
    (let f : false ≡ true = (legal.whole.between 0 0 [] (asks_register 1 0 0x20 5 0 ∷ []) (row.take_bus 0 ∷ []) (asks_register 0 0 0x20 5 0)
    (reads_byte 0 0 0x20 0x7e 0) refl refl refl refl).0 refl in cc)
