-- What a table says, where nothing is wrong with it: a missing key has its default.
use Rattle.std.specs.Prelude.{ℕ, Bool, false, List, [], ◌∷◌, map, codes, Option, Some, None, unwrap_or, option_and_then, if◌then◌else◌}
use Rattle.toml.specs.Data.{Data, Members, get_member}
use Rattle.i2c_base.specs.Board.{RunView, DeviceView}
use Rattle.i2c_base.specs.Muxes.{facts_of}
use Rattle.i2c_base.specs.declared.board.Idle.TheVariants.{Disconnect}
use Rattle.i2c_base.specs.declared.board.LockMode.TheVariants.{Parent}
use Rattle.i2c_base.specs.declared.board.MuxKind.{MuxKind}
use Rattle.i2c_base.specs.declared.board.MuxSpec.{MuxSpec}
use Rattle.i2c_base.specs.declared.board.RootSpec.{RootSpec}
use Rattle.i2c_spec.specs.Numbers.{address_key, channels_key, foreign_key, version_key}
use Rattle.i2c_boardtext.specs.Devices.{device_row, memory_of}
use Rattle.i2c_boardtext.specs.Items.{elements, members_in, number, named_in, flag_in}
use Rattle.i2c_boardtext.specs.Names.{offers_named, lock_named, idle_named}
use Rattle.i2c_boardtext.specs.Numbers.{number_or, number_at}
use Rattle.i2c_boardtext.specs.declared.devices.DeviceName.{DeviceName}

-- what a known text stands for
abbrev pub word_or : {X : Type 0} → (List ℕ → Option X) → X → Option Data → X
word_or named default d = unwrap_or (option_and_then (named_in named) d) default

-- a run: its start, then its bytes
abbrev pub memory_run : List Data → RunView
memory_run [] = record { start = 0; bytes = [] }
memory_run (start ∷ bytes) = record { start = number start; bytes = map number bytes }

-- the elements of the array at a key, none where it is missing
abbrev pub elements_in : Option Data → List Data
elements_in None = []
elements_in (Some d) = elements d

abbrev pub runs_in : Option Data → List RunView
runs_in d = map (λ run. memory_run (elements run)) (elements_in d)

abbrev pub tables_in : Option Data → List Members
tables_in d = map members_in (elements_in d)

-- the version and the three arrays of the top
pub record TopView : Type 0 where
  pub version : ℕ
  pub roots : List Members
  pub muxes : List Members
  pub devices : List Members

abbrev pub top_value : Members → TopView
top_value ms = record {
  version = number_at version_key ms;
  roots = tables_in (get_member (codes "root") ms);
  muxes = tables_in (get_member (codes "mux") ms);
  devices = tables_in (get_member (codes "device") ms);
}

abbrev pub root_value : Members → RootSpec
root_value ms = record { smbus_only = word_or offers_named false (get_member (codes "offers") ms) }

-- the kind fixes the number of channels, or the board says it
abbrev pub channels_value : MuxKind → Members → ℕ
channels_value k ms = unwrap_or (facts_of k).channels (number_at channels_key ms)

-- a mux that is switched by a line has no chip, so no address, and none that could be absent
abbrev pub chip_value : MuxKind → Members → Option ℕ
chip_value k ms = if (facts_of k).by_line then None else Some (number_at address_key ms)

abbrev pub absent_value : MuxKind → Members → Bool
absent_value k ms = if (facts_of k).by_line then false else flag_in (get_member (codes "absent") ms)

-- only an arbitrator has another controller
abbrev pub foreign_value : MuxKind → Members → ℕ
foreign_value k ms = if (facts_of k).asks then number_at foreign_key ms else 0

-- the bus, a required key
abbrev pub bus_in : Members → ℕ
bus_in ms = number_or 0 (get_member (codes "bus") ms)

abbrev pub mux_value : MuxKind → Members → MuxSpec
mux_value kind ms =
    record {
      bus = bus_in ms;
      kind = kind;
      addr = chip_value kind ms;
      channels = channels_value kind ms;
      lock = word_or lock_named Parent (get_member (codes "lock") ms);
      absent = absent_value kind ms;
      foreign = foreign_value kind ms;
      idle = word_or idle_named Disconnect (get_member (codes "idle") ms);
    }

-- a kind without memory has no runs
abbrev pub set_value : Option ℕ → Members → List RunView
set_value None ms = []
set_value (Some size) ms = runs_in (get_member (codes "set") ms)

abbrev pub device_value : DeviceName → Members → DeviceView
device_value name ms =
    record {
      bus = bus_in ms;
      addr = number_at address_key ms;
      bound = flag_in (get_member (codes "bound") ms);
      kind = (device_row name).says ms;
      set = set_value (memory_of name) ms;
    }
