use Rattle.i2c_boardtext.proofs.Cited.{◌∙◌, sym, list_all-map, view, is_in}
use Rattle.i2c_boardtext.proofs.fits.are_bytes.Goals as goal

pub returns : goal.returns
returns c = c.each_is_byte.ensures ∙ sym (list_all-map (is_in 0 255) view c.args.values.now)
