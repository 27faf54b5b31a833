-- What a journal tells of the chips, where each mux's open channel is told by itself.
use Rattle.std.specs.Prelude.{◌≡◌, ℕ, ◌≤◌, true, false, ◌⊎◌, length, Option, Some, None, slice_get}
use Rattle.i2c_base.specs.Board.{BoardView}
use Rattle.i2c_base.specs.Limits.{POLLS}
use Rattle.i2c_spec.specs.Tree.{Hop, root_of, home_of_mux, is_absent, is_held, of_mux}
use Rattle.i2c_spec.specs.Chips.{ChipView, is_open, is_free}
use Rattle.i2c_spec.specs.World.{World}
use Rattle.bus_spec.specs.Slots.{Slots, At, Marked, Polled, Found}

-- the state of a mux's chip: that in the world of its root
abbrev pub chip_in : BoardView → (ℕ → World) → ℕ → Option ChipView
chip_in b ws m = slice_get (ws (root_of b (home_of_mux b m))).chips m

-- an open channel is the one that its mux keeps, or the mux is marked
abbrev pub Explains : At → ℕ → ℕ → Type 0
Explains x m c = (x.kept m ≡ Some c) ⊎ (x.slot ≡ Marked m)

-- a chip between two messages: of the kind that the board says, with no byte that waits; an arbitrator is found with
-- its other controller at most as often as the board says
pub record IsChipOf (b : BoardView) (m : ℕ) (x : ChipView) : Type 0 where
  pub kind : of_mux (λ s. Some s.kind) None b m ≡ Some x.kind
  pub foreign : of_mux (λ s. s.foreign) 0 b m ≡ x.foreign
  pub left : x.left ≤ x.foreign
  pub waiting : x.waiting ≡ None

-- what is known of the buses is so, of the chips as they stand: `chips` gives the state of each mux's chip
pub record ChipsTold (b : BoardView) (v : Slots) (chips : ℕ → Option ChipView) : Type 0 where
  pub kept : (m : ℕ) (x : ChipView) → chips m ≡ Some x → IsChipOf b m x
  -- a channel that is kept is open, and its mux is there and isn't held
  pub opened : (m c : ℕ) → (v (home_of_mux b m)).kept m ≡ Some c
      → (x : ChipView) × (chips m ≡ Some x) × (is_open x c ≡ true) × (is_absent b m ≡ false) × (is_held b m ≡ false)
  pub polled : (p : ℕ) (h : Hop) (n : ℕ) (x : ChipView) → (v p).slot ≡ Polled h n → chips h.mux ≡ Some x
      → (x.left ≤ n) ⊎ (x.foreign ≡ POLLS)
  pub found : (p : ℕ) (h : Hop) (x : ChipView) → (v p).slot ≡ Found h → chips h.mux ≡ Some x → is_free x ≡ true
  pub asked : (p : ℕ) (h : Hop) (n : ℕ) → (v p).slot ≡ Polled h n → home_of_mux b h.mux ≡ p
  pub free : (p : ℕ) (h : Hop) → (v p).slot ≡ Found h → home_of_mux b h.mux ≡ p
  -- and no other channel is open
  pub only : (m c : ℕ) (x : ChipView) → chips m ≡ Some x → is_open x c ≡ true → Explains (v (home_of_mux b m)) m c
  pub absent : (m c : ℕ) (x : ChipView) → is_absent b m ≡ true → chips m ≡ Some x → is_open x c ≡ false

pub record WorldTold (b : BoardView) (v : Slots) (ws : ℕ → World) : Type 0 where
  pub board : (r : ℕ) → (ws r).board ≡ b
  pub root : (r : ℕ) → (ws r).root ≡ r
  pub count : (r : ℕ) → length (ws r).chips ≡ length b.muxes
  -- no byte waits in a chip, nor in one of another root
  pub rest : (r i : ℕ) (x : ChipView) → slice_get (ws r).chips i ≡ Some x → x.waiting ≡ None
  pub told : ChipsTold b v (chip_in b ws)
