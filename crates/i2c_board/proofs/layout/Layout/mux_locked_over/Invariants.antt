use Rattle.i2c_board.proofs.Cited.{◌≡◌, not, take, filter, last_mux}
use Rattle.i2c_board.proofs.layout.Layout.mux_locked_over.Given as goal

abbrev pub invariant-loop-hop : goal.invariant-loop-hop
invariant-loop-hop l = l.nearest_root ≡ last_mux (filter (λ h. not h.parent) (take l.hop-index l.hop-items))
