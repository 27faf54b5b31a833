use Rattle.bus_laws.proofs.device.Grant.{granted-leads}
use Rattle.bus_laws.proofs.devices.an_address_leads_to_the_granted_device.Goals as goal

pub returns : goal.returns
returns c = granted-leads
