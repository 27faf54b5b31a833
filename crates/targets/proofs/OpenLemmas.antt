-- An EEPROM at its opening: there is a byte at place 0, and its parts make the state.
use Rattle.std.proofs.Common.{◌≡◌, ℕ, ◌<◌, Bool, List, Option, replicate, ◌∙◌, ap, arith}
use Rattle.i2c_base.specs.declared.board.Size.{Size}
use Rattle.i2c_base.specs.declared.board.Size.TheVariants.{C02, C32, C256}
use Rattle.i2c_base.specs.Board.{RunView}
use Rattle.i2c_spec.specs.Targets.EepromDevice.{EepromView, Idle, none_waiting, size_of_eeprom, eeprom_opening}
use Rattle.i2c_spec.specs.Targets.RegsDevice.{write_runs}

pub has_place : (size : Size) → 0 < size_of_eeprom size
has_place C02 = omega arith
has_place C32 = omega arith
has_place C256 = omega arith

pub opened-is : (size : Size) (fill busy : ℕ) (wp : Bool) (set : List RunView) (memory : List ℕ) (waiting : List (Option ℕ))
    → memory ≡ write_runs (replicate (size_of_eeprom size) fill) set → waiting ≡ none_waiting size
    → record { size = size; phase = Idle; pointer = 0; memory = memory; waiting = waiting; left = 0; busy = busy; wp = wp }
    ≡ eeprom_opening size fill busy wp set
opened-is size fill busy wp set memory waiting filled none =
    ap (λ (bytes : List ℕ). with_parts bytes waiting) filled
    ∙ ap (λ (places : List (Option ℕ)). with_parts (write_runs (replicate (size_of_eeprom size) fill) set) places) none
  where
    with_parts : List ℕ → List (Option ℕ) → EepromView
    with_parts bytes places = record {
      size = size;
      phase = Idle;
      pointer = 0;
      memory = bytes;
      waiting = places;
      left = 0;
      busy = busy;
      wp = wp;
    }
