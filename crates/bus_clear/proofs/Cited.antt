-- The names that several proofs of this crate cite, passed on from one place. Declares nothing.
pub use Rattle.std.proofs.Common.{◌≡◌, ℕ, zero, suc, ◌+◌, ◌-◌, ◌/◌, ◌<◌, ◌≤◌, Bool, true, false, cond, List, [], ◌∷◌, map, refl, ap, sym}
pub use Rattle.std.proofs.Common.{◌∙◌, arith, subst, ◌*◌, ◌%◌, IsTrue}
pub use Rattle.std.proofs.lemmas.Bool.Decides.{nat_tests}
pub use Rattle.std.specs.List.{AllByRecursion}
pub use Rattle.std.specs.Prelude.{not, ◌==◌, ◌&&◌, nat_lt, if◌then◌else◌, Result}
pub use mathlib.Core.List.{map-id}
pub use Rattle.i2c_base.specs.Board.{BoardView}
pub use Rattle.i2c_base.specs.Bytes.{IsByte}
pub use Rattle.i2c_base.specs.Table.{Table}
pub use Rattle.i2c_spec.specs.Chips.{ChipView, chip_table}
pub use Rattle.i2c_spec.specs.Targets.{IsFairTable, TargetState, state_table, HoldsBytes, KeepsBytes, IsQuiet}
pub use Rattle.i2c_spec.specs.World.{is_ack, World, after, answer}
pub use Rattle.wire_spec.proofs.AckClock.{waiting, wait_bus, seen_by}
pub use Rattle.wire_spec.proofs.Address.{call_sda}
pub use Rattle.wire_spec.proofs.Calm.{looks_up, goes_down, sets_data, risen, IsCalm}
pub use Rattle.wire_spec.proofs.Roots.{map_step, map_map, some_map, no_one, free_sda}
pub use Rattle.wire_spec.proofs.StartClocks.{stays_free, call_calm}
pub use Rattle.wire_spec.proofs.StartLaws.{released_out}
pub use Rattle.wire_spec.proofs.Stops.{stop_run}
pub use Rattle.wire_spec.specs.Bus.{Seen, Level, Started, Stopped, Mask, Bus, Came, holds_line, scl_level, sda_level, each, rises}
pub use Rattle.wire_spec.specs.Bus.{pulled, await, bus_of, came_up, gave_up}
pub use Rattle.wire_spec.specs.Calls.{released, rejoin, free, STOP_LOOKS, start_pulls}
pub use Rattle.wire_spec.specs.Roots.{some_one, pulls_line, sda, where_joined, at, stop_site, sent_by, and_all, get_site, hearing}
pub use Rattle.wire_spec.specs.Sites.{NodeState, node_table, both, AreSites, mask_of}
pub use Rattle.wire_spec.specs.Started.{calling, started, stays, answers_so}
pub use Rattle.wire_spec.specs.Wires.{Site, Bit, site_of, shifted, fall, tick, begin, is_named, is_reading, stands, value, rise, hears}
pub use Rattle.wire_spec.specs.Wires.{other, bit}
pub use Rattle.wire_spec.specs.WorldLaws.{PartsOfBoth, StartOnSites, GetOnSites, StopOnSites}
pub use Rattle.wire_spec.specs.declared.mode.Mode.TheVariants.{Out, Give}
pub use Rattle.ports.specs.Causes.{counted}
pub use Rattle.i2c_bits.specs.Stands.{IsFree, chips_on, devices_on, world_at}
pub use Rattle.i2c_bits.specs.Wiring.{Rooted, the_table, mask_at}
pub use Rattle.bus_clear.specs.Clears.{ClearIs, more_pulses}
pub use Rattle.bus_clear.specs.Cuts.{MOST_PULSES, IsQuietWorld, level_by, level_at, low_rises, pulses_of, is_heard, given_byte}
pub use Rattle.bus_clear.specs.Cuts.{cleared_world}
pub use Rattle.bus_clear.specs.Pulls.{cut_rise, cut_level, cut_clock, cut_clocks, clearing, clear_pulls, cut_pulls, Clearing, start_stop}
pub use Rattle.bus_clear.specs.Pulls.{clear_from}
pub use Rattle.bus_clear.specs.declared.cleared.Cleared.{Cleared}
pub use Rattle.bus_clear.specs.declared.cleared.Cleared.TheVariants.{Free, SclHeld}
