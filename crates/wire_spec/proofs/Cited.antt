-- The names that several proofs of this crate cite, passed on from one place. Declares nothing.
pub use Rattle.std.proofs.Common.{◌≡◌, ℕ, zero, suc, ◌+◌, ◌-◌, ◌/◌, Bool, true, false, cond, List, [], ◌∷◌, map, refl, ap, sym, ◌∙◌, arith}
pub use Rattle.std.proofs.Common.{◌%◌, length, ◌<◌, ◌≤◌, ◌++◌, subst, Option, Some, None, inl, inr}
pub use Rattle.std.proofs.lemmas.Bool.{and_right}
pub use Rattle.std.proofs.lemmas.Bool.Decides.{nat_tests}
pub use Rattle.std.specs.List.{AllByRecursion}
pub use Rattle.std.specs.Option.{option_map_or}
pub use Rattle.std.specs.Prelude.{◌==◌, ◌||◌, not, replicate, ◌&&◌, slice_get, if◌then◌else◌, nat_lt}
pub use mathlib.Core.Bool.{not-not, and-true}
pub use Rattle.i2c_base.specs.Board.{BoardView}
pub use Rattle.i2c_base.specs.Bytes.{IsByte}
pub use Rattle.i2c_base.specs.Table.{Table}
pub use Rattle.i2c_base.specs.declared.event.Answer.{Answer}
pub use Rattle.i2c_base.specs.declared.event.Answer.TheVariants.{Nothing}
pub use Rattle.i2c_base.specs.declared.event.Event.TheVariants.{Start}
pub use Rattle.i2c_base.specs.declared.ids.Node.{Node}
pub use Rattle.i2c_spec.specs.Chips.{ChipView, chip_table}
pub use Rattle.i2c_spec.specs.Targets.{TargetState, state_table, IsFairTable, IsQuiet}
pub use Rattle.i2c_spec.specs.World.{is_slow, is_ack, takes, gives, World, joins_chip, joins_device, has_heard, some_answer, start_chips}
pub use Rattle.i2c_spec.specs.World.{start_devices}
pub use Rattle.wire_spec.specs.Bus.{Mask, Seen, Level, Started, Stopped, with_levels, Bus, Came, holds_line, scl_level, sda_level, each, rises, await, closed, bus_of}
pub use Rattle.wire_spec.specs.Bus.{came_up, bit_step, bit_steps, then_bits, edge, gave_up, finishes}
pub use Rattle.wire_spec.specs.Calls.{byte_seen, last_low, within, within_address, sent_byte, free, rejoin, released, stopped, slow_stop}
pub use Rattle.wire_spec.specs.Calls.{joined_from}
pub use Rattle.wire_spec.specs.Laws.{StopFreesTheLines}
pub use Rattle.wire_spec.specs.Roots.{some_one, pulls_line, sda, where_joined, at, start_site, run, clock_all, put_site, acks, sent_by}
pub use Rattle.wire_spec.specs.Roots.{and_all, get_site, stop_site, levels, hearing}
pub use Rattle.wire_spec.specs.Sites.{NodeState, Chip, Device, node_table, site_with, both, mask_of, AreSites, world_by, names_of}
pub use Rattle.wire_spec.specs.Sites.{states_of, Tells, HaveAddresses, devices_in}
pub use Rattle.wire_spec.specs.Started.{stays_if, stays, rose, calling, started, answers_so, answer_by, entered_by, late_if, late, late_bus}
pub use Rattle.wire_spec.specs.Wires.{site_of, Site, shifted, rise, fall, tick, hears, other, stretch, next_of, is_named, is_reading}
pub use Rattle.wire_spec.specs.Wires.{acks_start, stands, Bit, value, called, bit, bits, clock, LOOKS, puts, gets, begin, finish, holds}
pub use Rattle.wire_spec.specs.declared.mode.Mode.{Mode}
pub use Rattle.wire_spec.specs.declared.mode.Mode.TheVariants.{In, Answered, Give, Out, Gave}
