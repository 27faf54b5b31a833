use Rattle.bus_clear.proofs.Cited.{◌∙◌, sym}
use Rattle.bus_clear.proofs.LawLemmas.{ack_world}
use Rattle.bus_clear.proofs.reading.receive.Goals as goal

pub returns-in-Ok-Ack-clause-world : goal.returns-in-Ok-Ack-clause-world
returns-in-Ok-Ack-clause-world g c tells limit =
    ack_world c.args.port.now.world c.start.new.self.world c.end_read.new.port.world c.args.addr limit
    (sym c.in-Ok-Ack.field-0-is ∙ c.in-Ok-Ack.ensures.answer tells)
    (c.in-Ok-Ack.ensures.world tells) (c.end_read.ensures.world tells)
