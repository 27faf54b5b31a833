use Rattle.bus_lines.proofs.Cited.{Bool, Option, subst, not}
use Rattle.bus_lines.specs.LinesViews.{IsAddressed}
use Rattle.bus_lines.proofs.EnterLemmas.{address_is, came_ack, came_nack}
use Rattle.bus_lines.proofs.bus_lines.BusLinesByteLines.address_byte.Goals.{then-acked, else-acked}
use Rattle.bus_lines.proofs.bus_lines.BusLinesByteLines.address_byte.Goals as goal

pub returns-after-acked-clause-bus : goal.returns-after-acked-clause-bus
returns-after-acked-clause-bus c tells =
    let acked = c.in-Some.acked in
    let is = subst (λ (o : Option Bool). IsAddressed c.args.byte o c.self.inside.targets c.address.new.self) c.in-Some.is
    c.address.ensures in
    let e = address_is c.an_address_byte_is_one_event.ensures c.self.inside.targets c.address.new.self c.self.inside.wire c.nine.new.self
    c.args.self.now c.self.view_is c.args.byte c.ranges.byte.fits (c.requires.stands tells) acked is (not acked) c.nine.ensures in
    elim c.if-acked.branch [
      | then-acked w ↦ came_ack _ _ _ acked c.if-acked.result e w.if-acked.true w.result-is
      | else-acked w ↦ came_nack _ _ _ acked c.if-acked.result e w.if-acked.false w.result-is
    ]
