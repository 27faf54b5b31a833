use Rattle.i2c_boardtext.proofs.Cited.{◌∙◌}
use Rattle.i2c_boardtext.proofs.RuleLemmas.{is_listed-rules}
use Rattle.i2c_boardtext.proofs.rule.is_listed.Goals as goal

pub returns : goal.returns
returns c = c.some_is_for.ensures ∙ is_listed-rules c.args.key.now c.args.rules.now
