-- What a port asks of a call that switches a mux by its line.
use Rattle.std.specs.Prelude.{◌≡◌, ℕ, ◌≤◌, true, false}
use Rattle.i2c_base.specs.Muxes.{facts_of}
use Rattle.i2c_spec.specs.Tree.{of_mux, root_of, home_of_mux}
use Rattle.i2c_spec.specs.World.{World}

-- the mux is switched by a line and stands on this root, and the level is one of its own
pub record HasLine (w : World) (m level : ℕ) : Type 0 where
  pub by_line : of_mux (λ x. (facts_of x.kind).by_line) false w.board m ≡ true
  pub on_root : root_of w.board (home_of_mux w.board m) ≡ w.root
  pub within : level ≤ of_mux (λ x. x.channels) 0 w.board m
