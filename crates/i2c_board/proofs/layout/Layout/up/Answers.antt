use Rattle.i2c_board.proofs.Cited.{sym, ◌∙◌, board_of}
use Rattle.i2c_board.proofs.WayLemmas.{way_ends, way_first, first_falls}
use Rattle.i2c_board.proofs.layout.Layout.up.Goals as goal

pub returns : goal.returns
returns c =
    let b = board_of c.args.self.now in
    record {
      first = way_first b c.requires c.args.seg c.over.result c.over.ensures;
      falls = first_falls b c.requires c.args.seg c.over.result c.over.ensures;
      root = λ none. way_ends b c.requires c.args.seg (sym c.over.ensures ∙ none);
    }
