use Rattle.i2c_boardtext.proofs.Cited.{table_view}
use Rattle.i2c_boardtext.proofs.KeepLemmas.{device_bus}
use Rattle.i2c_boardtext.proofs.device.device_value.Goals as goal

pub bus-requires-clause-fits : goal.bus-requires-clause-fits
bus-requires-clause-fits c = device_bus c.args.buses c.args.name (table_view c.args.table.now) c.requires.keeps
