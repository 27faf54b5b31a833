use Rattle.i2c_top.proofs.FileLemmas.{own_grammar, own_text, script_in}
use Rattle.i2c_top.proofs.files.script_in.Goals as goal

pub returns-clause-opened : goal.returns-clause-opened
returns-clause-opened g c = own_text _ _ c.script_of.result c.script_of.ensures.opened

pub returns-clause-grammar : goal.returns-clause-grammar
returns-clause-grammar g c = own_grammar _ _ c.script_of.result c.script_of.ensures.opened c.script_of.ensures.read

pub returns-clause-script : goal.returns-clause-script
returns-clause-script g c =
    λ t. script_in _ _ _ _ c.script_of.result (c.in_ok-text.ensures.bytes t) c.script_of.ensures.opened c.script_of.ensures.read
