use Rattle.tools.proofs.Cited.{◌≡◌, Ok, combined, texts, one_at}
use Rattle.tools.specs.Combined.{combined_bus}
use Rattle.tools.specs.Options.{bus_number}
use Rattle.tools.proofs.CombinedLemmas.{messages_read, messages_refused}
use Rattle.tools.proofs.command.transfer.read_bus.Goals as goal

pub returns-in-Ok : goal.returns-in-Ok
unfolding combined_bus
returns-in-Ok c =
    let is : one_at bus_number.of (texts c.args.words.now) c.args.at ≡ Ok c.in_ok-bus.bus = cc (c.bus_at.ensures, c.in_ok-bus.was) in
    messages_read bus_number (λ bus. combined c.args.force bus) (texts c.args.words.now) c.args.at c.in_ok-bus.bus is _
    (rw c.in-Ok.is at c.read_descs.ensures)

pub returns-in-Err : goal.returns-in-Err
unfolding combined_bus
returns-in-Err c =
    let is : one_at bus_number.of (texts c.args.words.now) c.args.at ≡ Ok c.in_ok-bus.bus = cc (c.bus_at.ensures, c.in_ok-bus.was) in
    messages_refused bus_number (λ bus. combined c.args.force bus) (texts c.args.words.now) c.args.at c.in_ok-bus.bus is _
    (rw c.in-Err.is at c.read_descs.ensures)
