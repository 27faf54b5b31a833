use Rattle.i2c_boardtext.proofs.Cited.{◌∙◌, sym, list_all-map, table_view, key_rule, is_there}
use Rattle.i2c_boardtext.proofs.rule.are_there.Goals as goal

pub returns : goal.returns
returns c = c.each_is_there.ensures ∙ sym (list_all-map (is_there (table_view c.args.table.now)) key_rule c.args.rules.now)
