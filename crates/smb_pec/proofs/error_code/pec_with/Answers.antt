use Rattle.std.proofs.Common.{arith}
use Rattle.smb_pec.proofs.TableLemmas.{table_with}
use Rattle.smb_pec.proofs.error_code.pec_with.Goals as goal

pub returns : goal.returns
returns c =
    table_with c.args.code c.args.byte c.from.result (omega (arith, c.ranges.code.fits)) (omega (arith, c.ranges.byte.fits)) c.from.ensures
