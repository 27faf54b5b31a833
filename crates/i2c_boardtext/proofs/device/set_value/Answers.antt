use Rattle.i2c_boardtext.proofs.Cited.{sym, ◌∙◌, table_view}
use Rattle.i2c_boardtext.proofs.KeepLemmas.{device_set}
use Rattle.i2c_boardtext.proofs.device.set_value.Goals as goal

pub runs-requires-clause-fits : goal.runs-requires-clause-fits
runs-requires-clause-fits c =
    device_set c.args.buses c.args.name c.in-Some.size (table_view c.args.table.now) (sym c.memory.ensures ∙ c.in-Some.is) c.requires.keeps
