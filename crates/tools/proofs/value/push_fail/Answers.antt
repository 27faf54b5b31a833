use Rattle.tools.proofs.Cited.{◌++◌, codes, sym, ap, ◌∙◌, byte_word, fail_text}
use Rattle.tools.proofs.value.push_fail.Goals as goal
use Rattle.bus_journal.proofs.Behind.{five_pieces}

pub returns-in-Pec-clause-bytes : goal.returns-in-Pec-clause-bytes
returns-in-Pec-clause-bytes c =
    c.push_hex_byte-in-Pec.ensures.bytes
    ∙ ap (λ t. t ++ byte_word c.in-Pec.want) (c.push-in-Pec.ensures.bytes
    ∙ ap (λ t. t ++ codes " want ") (c.push_hex_byte.ensures.bytes ∙ ap (λ t. t ++ byte_word c.in-Pec.got) c.push.ensures.bytes))
    ∙ five_pieces c.args.out.now.bytes (codes "EBADMSG got ") (byte_word c.in-Pec.got) (codes " want ") (byte_word c.in-Pec.want)
    ∙ ap (λ f. c.args.out.now.bytes ++ fail_text f) (sym c.in-Pec.is)
