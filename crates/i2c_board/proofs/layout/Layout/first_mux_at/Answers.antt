use Rattle.i2c_board.proofs.Cited.{sym, ◌∙◌}
use Rattle.i2c_board.proofs.RuleLemmas.{NoneAfter_more}
use Rattle.i2c_board.proofs.layout.Layout.first_mux_at.Goals as goal

pub loop-mux-preserved : goal.loop-mux-preserved
loop-mux-preserved c = NoneAfter_more _ _ _ c.loop-mux.invariant (sym c.is_mux_at.ensures ∙ c.if-is_mux_at.false)
