use Rattle.i2c_spec.proofs.AddressLemmas.{tree_of}
use Rattle.i2c_spec.proofs.laws.an_accepted_board_is_a_tree.Goals as goal

pub returns : goal.returns
returns c = tree_of
