use Rattle.std.proofs.Common.{rules}
use Rattle.bus_journal.proofs.Messages.{message_in_parts}
use Rattle.bus_journal.proofs.guess.read_message.Goals as goal

pub returns-clause-read : goal.returns-clause-read
returns-clause-read c = λ is.
    message_in_parts _ _ _ _ _ _ _ _ _ _ _ _ _ _ _ _ _ _ _ _ _ _ _ _ _ _
    c.small-caller.ensures.number c.small-caller.ensures.rest c.skip.ensures
    c.number.ensures.number c.number.ensures.rest c.skip-2.ensures
    c.read_purpose-purpose.ensures.purpose c.read_purpose-purpose.ensures.rest
    c.small-part.ensures.number c.small-part.ensures.rest c.skip-3.ensures
    c.small-parts.ensures.number c.small-parts.ensures.rest c.skip-4.ensures
    (search rules) c.skip-5.ensures
    c.in_ok-hex.ensures.some c.in_ok-addr.ensures.value c.skip-6.ensures
    c.read_list.ensures.bytes c.read_list.ensures.rest c.skip-7.ensures
    c.read_heard-heard.ensures.heard c.read_heard-heard.ensures.rest c.read_end-end.ensures
