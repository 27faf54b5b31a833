-- i2cset: its call is within the limits, and what it prints is a line of a section.
use Rattle.tools.proofs.Cited.{ℕ, ◌<◌, List, [], ◌∷◌, Option, Some, None, arith, slice_index_or, IsByte, LARGEST_BLOCK, HasValues}
use Rattle.tools.proofs.Cited.{block_room, SetMode}
use Rattle.tools.specs.Sets.{AreOfMode, IsOneBelow, IsSetInRange, set_callee, mode_of_set, set_op, set_run}
use Rattle.tools.specs.declared.command.set.Set.{Set}
use Rattle.tools.specs.declared.command.set.SetMode.TheVariants as mode
use Rattle.tools.proofs.FormLemmas.{AsksWithin, HasSectionLines, IsHeld, call_asks_within, call_lines}

-- the one value that is below a bound
first_below : (high : ℕ) (vs : List ℕ) → IsOneBelow high vs → slice_index_or vs 0 0 < high
first_below high [] is = absurd is
first_below high (v ∷ []) is = is
first_below high (v ∷ w ∷ vs) is = absurd is

-- the values are those of the mode, also of one that isn't named
pub of_mode : (limit : ℕ) (s : Set) → IsSetInRange limit s → AreOfMode LARGEST_BLOCK (mode_of_set s) s.values
of_mode limit s range = by s.mode s.values range.values
  where
    named : (m : SetMode) (vs : List ℕ) → AreOfMode (block_room limit) m vs → AreOfMode LARGEST_BLOCK m vs
    named mode.Send vs is = is
    named mode.Byte vs is = is
    named mode.Word vs is = is
    named mode.Block vs is = (is.0, is.1, omega (arith, is.2))
    named mode.I2cBlock vs is = is

    by : (m : Option SetMode) (vs : List ℕ) → HasValues limit m vs
        → AreOfMode LARGEST_BLOCK (mode_of_set (record s { mode = m; values = vs })) vs
    by (Some m) vs is = named m vs is
    by None [] is = is
    by None (v ∷ vs) is = is

set_held : (s : Set) (m : SetMode) → IsByte s.reg → AreOfMode LARGEST_BLOCK m s.values → IsHeld (set_op s m)
set_held s mode.Send reg is = reg
set_held s mode.Byte reg is = (reg, first_below 256 s.values is)
set_held s mode.Word reg is = (reg, first_below 65536 s.values is)
set_held s mode.Block reg is = (reg, (is.0, (is.1, is.2)))
set_held s mode.I2cBlock reg is = (reg, (is.0, (is.1, is.2)))

pub set_asks : (limit : ℕ) (s : Set) → IsSetInRange limit s → AsksWithin (set_run s)
set_asks limit s range =
    call_asks_within (set_callee s) range.addr (set_op s (mode_of_set s)) (set_held s (mode_of_set s) range.reg (of_mode limit s range))

pub set_lines : (s : Set) → HasSectionLines (set_run s)
set_lines s = call_lines (record { to = set_callee s; op = set_op s (mode_of_set s) })
