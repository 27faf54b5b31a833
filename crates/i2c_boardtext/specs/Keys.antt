-- The keys of each table of a board file.
use Rattle.std.specs.Prelude.{ℕ, ◌-◌, List, [], ◌∷◌, ◌++◌, codes, Option, Some, None, if◌then◌else◌}
use Rattle.i2c_base.specs.declared.board.MuxKind.{MuxKind}
use Rattle.i2c_base.specs.Muxes.{facts_of}
use Rattle.i2c_spec.specs.Numbers.{address_key, channels_key, foreign_key, version_key}
use Rattle.i2c_boardtext.specs.Devices.{device_row, memory_of}
use Rattle.i2c_boardtext.specs.Numbers.{may_say, has_to_say}
use Rattle.i2c_boardtext.specs.Rules.{KeyRule, needs, may_have}
use Rattle.i2c_boardtext.specs.declared.devices.DeviceName.{DeviceName}
use Rattle.i2c_boardtext.specs.declared.rule.Test.TheVariants.{Kind, Range, Flag, Offers, Lock, Idle, Runs, Tables}

abbrev pub top_rules : List KeyRule
top_rules =
    has_to_say version_key
    ∷ may_have (codes "root") Tables
    ∷ may_have (codes "mux") Tables
    ∷ may_have (codes "device") Tables
    ∷ []

abbrev pub root_rules : List KeyRule
root_rules = may_have (codes "offers") Offers ∷ []

-- the bus is one of the buses so far, of which there is at least one
abbrev pub bus_rule : ℕ → KeyRule
bus_rule buses = needs (codes "bus") (Range 0 (buses - 1))

abbrev pub address_rule : KeyRule
address_rule = has_to_say address_key

abbrev pub kind_rule : KeyRule
kind_rule = needs (codes "kind") Kind

abbrev pub every_mux : ℕ → List KeyRule
every_mux buses = bus_rule buses ∷ kind_rule ∷ may_have (codes "lock") Lock ∷ may_have (codes "idle") Idle ∷ []

-- a mux with a chip
abbrev pub chip_mux : ℕ → List KeyRule
chip_mux buses = every_mux buses ++ address_rule ∷ may_have (codes "absent") Flag ∷ []

abbrev pub arbitrator_mux : ℕ → List KeyRule
arbitrator_mux buses = chip_mux buses ++ may_say foreign_key ∷ []

-- a mux that is switched by a line
abbrev pub gpio_mux_keys : ℕ → List KeyRule
gpio_mux_keys buses = every_mux buses ++ has_to_say channels_key ∷ []

abbrev pub mux_rules : ℕ → MuxKind → List KeyRule
mux_rules buses k =
    if (facts_of k).by_line then gpio_mux_keys buses
    else if (facts_of k).asks then arbitrator_mux buses
    else chip_mux buses

abbrev pub every_device : ℕ → List KeyRule
every_device buses = bus_rule buses ∷ kind_rule ∷ address_rule ∷ may_have (codes "bound") Flag ∷ []

-- the runs that are written into a memory, where there is one
abbrev pub set_rule : ℕ → KeyRule
set_rule size = may_have (codes "set") (Runs size)

abbrev pub set_rules : Option ℕ → List KeyRule
set_rules None = []
set_rules (Some size) = set_rule size ∷ []

abbrev pub device_rules : ℕ → DeviceName → List KeyRule
device_rules buses name = every_device buses ++ set_rules (memory_of name) ++ (device_row name).keys
