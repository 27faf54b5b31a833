use Rattle.i2c_boardtext.proofs.Cited.{◌∙◌, sym, list_all-map, view}
use Rattle.i2c_boardtext.specs.Rules.{is_pair}
use Rattle.i2c_boardtext.proofs.fits.all_are_pairs.Goals as goal

pub returns : goal.returns
returns c = c.each_is_pair.ensures ∙ sym (list_all-map (is_pair c.args.low c.args.high) view c.args.values.now)
