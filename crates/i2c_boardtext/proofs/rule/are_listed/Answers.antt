use Rattle.i2c_boardtext.proofs.Cited.{◌∙◌, map, key_rule}
use Rattle.i2c_boardtext.proofs.RuleLemmas.{are_listed-entries}
use Rattle.i2c_boardtext.proofs.rule.are_listed.Goals as goal

pub returns : goal.returns
returns c = c.each_is_listed.ensures ∙ are_listed-entries (map key_rule c.args.rules.now) c.args.table.now.entries
