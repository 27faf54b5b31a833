use Rattle.targets.proofs.OpenLemmas.{has_place, opened-is}
use Rattle.targets.proofs.device.eeprom.Eeprom.open.Goals as goal

pub invariant_of-result : goal.invariant_of-result
invariant_of-result c = (c.in_ok-filled.ensures.count, c.in_ok-empty_page.ensures.count, has_place c.args.size)

pub returns : goal.returns
returns c =
    opened-is c.args.size c.args.fill c.args.busy c.args.wp c.args.set.now c.in_ok-filled.field-0.items c.in_ok-empty_page.field-0.items
    c.in_ok-filled.ensures.value c.in_ok-empty_page.ensures.value
