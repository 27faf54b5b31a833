use Rattle.bus_clear.proofs.Cited.{chip_table, state_table}
use Rattle.i2c_spec.specs.Chips.{chip_opening}
use Rattle.i2c_spec.specs.Targets.{opening_state}
use Rattle.bus_clear.proofs.LawLemmas.{quiet_all}
use Rattle.bus_clear.proofs.laws.an_opening_world_is_quiet.Goals as goal

pub returns : goal.returns
returns c b r = record {
  chips = quiet_all chip_table chip_opening c.openings_are_quiet.ensures.chips b.muxes;
  devices = quiet_all state_table opening_state c.openings_are_quiet.ensures.devices b.devices;
}
