use Rattle.i2c_gen.proofs.BoardLemmas.{meets_rules, plain_board}
use Rattle.i2c_gen.proofs.board.made_board.Goals as goal

pub new-requires : goal.new-requires
new-requires c =
    rw (c.in_ok-all_roots.ensures, c.in_ok-muxes.ensures, c.in_ok-devices.ensures)
    (plain_board c.args.roots c.requires.some c.requires.most)

pub seal-requires : goal.seal-requires
seal-requires c =
    rw (c.in_ok-new.ensures, c.in_ok-all_roots.ensures, c.in_ok-muxes.ensures, c.in_ok-devices.ensures)
    (meets_rules c.args.roots c.requires.some c.requires.most)
