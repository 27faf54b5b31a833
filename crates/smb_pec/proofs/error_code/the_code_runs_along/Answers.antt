use Rattle.smb_pec.proofs.DivisionLemmas.{pec_more}
use Rattle.smb_pec.proofs.TableLemmas.{code_is_byte}
use Rattle.smb_pec.proofs.error_code.the_code_runs_along.Goals as goal

pub returns-clause-along : goal.returns-clause-along
returns-clause-along c = pec_more

pub returns-clause-byte : goal.returns-clause-byte
returns-clause-byte c = code_is_byte
