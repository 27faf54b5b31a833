use Rattle.i2c_board.proofs.Cited.{◌≡◌, ◌∷◌, take}
use Rattle.std.proofs.Common.{map}
use Rattle.i2c_board.proofs.layout.Layout.path.Given as goal

abbrev pub invariant-loop-hop : goal.invariant-loop-hop
invariant-loop-hop l = l.path.items ≡ l.fn.seg ∷ map (λ h. h.on) (take l.hop-index l.hop-items)
