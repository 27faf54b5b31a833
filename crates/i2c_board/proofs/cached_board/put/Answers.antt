use Rattle.i2c_board.proofs.Cited.{Some}
use Rattle.i2c_board.proofs.KnownLemmas.{all_set}
use Rattle.i2c_board.specs.Grants.{AreKnown}
use Rattle.i2c_board.proofs.cached_board.put.Goals as goal

pub returns-clause-kept : goal.returns-clause-kept
returns-clause-kept c b e all =
    all_set (AreKnown b) c.args.known.now.items c.args.place
    (Some (record { bus = c.args.bus; addr = c.args.addr; force = c.args.force; grant = c.args.grant })) e all
