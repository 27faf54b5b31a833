-- The names that several proofs of this crate cite, passed on from one place. Declares nothing.
pub use Rattle.std.proofs.Common.{◌≡◌, ℕ, suc, ◌/◌, ◌==◌, ◌<◌, Bool, true, false, ◌&&◌, ◌||◌, cond, List, [], ◌∷◌, map, get_or, Some, refl}
pub use Rattle.std.proofs.Common.{sym, ap, ◌∙◌, subst, ◌⊎◌, inl, inr, arith, zero, ◌+◌, length, drop, set, bit_and, ◌-◌, count_by, ◌++◌}
pub use Rattle.std.proofs.Common.{Option, None, Ok, ◌≤◌, take, length-set, vec_capacity, ◌^◌}
pub use Rattle.std.proofs.lemmas.Bool.{or_parts, ne_eqb}
pub use Rattle.std.proofs.lemmas.Bool.Decides.{eqb_tells, nat_tests}
pub use Rattle.std.proofs.lemmas.List.{drop_more, length-map, length-append, take_more}
pub use Rattle.std.specs.Int.Bits.{and_self}
pub use Rattle.std.specs.List.{list_all, list_any, AllByRecursion}
pub use Rattle.std.specs.Option.{option_map_or}
pub use Rattle.std.specs.Prelude.{slice_get, IsSome, if◌then◌else◌, replicate, not, is_some}
pub use mathlib.Core.Bool.{or-true, and-false, or-false}
pub use Rattle.i2c_base.proofs.Booleans.{or_regroup}
pub use Rattle.i2c_base.proofs.ListLemmas.{map_map, map_at, map_from, there, drop_all}
pub use Rattle.i2c_base.specs.Board.{BoardView, DeviceView}
pub use Rattle.i2c_base.specs.Muxes.{facts_of}
pub use Rattle.i2c_base.specs.declared.board.MuxSpec.{MuxSpec}
pub use Rattle.i2c_spec.specs.Chips.{ChipView}
pub use Rattle.i2c_spec.specs.Plain.{IsPlainBoard}
pub use Rattle.i2c_spec.specs.Targets.{TargetState, Silent, opening_state, IsFairTable, IsQuiet}
pub use Rattle.i2c_spec.specs.Targets.RegsDevice.{is_too_long}
pub use Rattle.i2c_spec.specs.Tree.{root_of, Hop}
pub use Rattle.i2c_board.specs.Layouts.{board_of}
pub use Rattle.wire_spec.proofs.WorldLemmas.{eq_self}
pub use Rattle.wire_spec.specs.Bus.{holds_line, rejoin_from, rejoined, Seen, Level, Started, Stopped, Bus, bus_of, came_up}
pub use Rattle.wire_spec.specs.Calls.{released, free, byte_seen, within, sent_byte}
pub use Rattle.wire_spec.specs.Roots.{where_joined, some_one, pulls_line, and_all, at}
pub use Rattle.wire_spec.specs.Sites.{NodeState, NO_ADDRESS, node_table, Chip, Device, site_with, both, chip_by, chips_in, states_of}
pub use Rattle.wire_spec.specs.Sites.{world_of, mask_of}
pub use Rattle.wire_spec.specs.Started.{calling}
pub use Rattle.wire_spec.specs.Wires.{Bit, stands, called, other, is_named, is_reading, shifted, rise, fall, tick, begin, Site, site_of}
pub use Rattle.wire_spec.specs.Wires.{finish, named}
pub use Rattle.wire_spec.specs.WorldLaws.{PartsOfBoth}
pub use Rattle.wire_spec.specs.declared.mode.Mode.{Mode}
pub use Rattle.wire_spec.specs.declared.mode.Mode.TheVariants.{Out, In, Answered, Give, Gave}
pub use Rattle.i2c_bits.specs.Stands.{StandsIn, chips_on, devices_on, world_at}
pub use Rattle.i2c_bits.specs.Wiring.{Rooted, node_level, levelled_bits, Wire, mask_at}
pub use Rattle.bus_lines.specs.Aparts.{apart_of, world_apart, device_of, ApartView}
pub use Rattle.bus_lines.specs.Away.{is_wired, opened_at, rested, whole_at, whole_on, kept_device, kept_bits, device_at}
pub use Rattle.bus_lines.specs.Edges.{seen, joined_at, slow_at, acks_enter, address_in, gives_get, acks_put}
pub use Rattle.bus_lines.specs.Joins.{PlaceView, states_on, joins_by, mux_place, device_place, places_of, is_chip, kinds_of, opens_at}
pub use Rattle.bus_lines.specs.Joins.{joins, read_anew, at_node_level, node_opens}
pub use Rattle.bus_lines.specs.Known.{known, knows, known_on, known_of, AreKnown}
pub use Rattle.bus_lines.specs.LinesViews.{TargetsView, LinesView, lines_of, wire_nine, AreTargets, targets_of}
pub use Rattle.bus_lines.specs.Numbers.{is_among, NumbersView, AreNumbers, numbers_of}
pub use Rattle.bus_lines.specs.Opens.{chip_bit, device_bit, bits_of}
pub use Rattle.bus_lines.specs.Owned.{is_own, own_device, without}
pub use Rattle.bus_lines.specs.Units.{by_number, to_those, shared, addressed, IsCalm, IsUnit, AreUnits, and_by, given_by, RegisterView}
pub use Rattle.bus_lines.specs.Units.{some_by, of_those, numbers_at, lists_of, IsIndex}
pub use Rattle.bus_lines.specs.declared.edges.Edge.{Edge}
pub use Rattle.bus_lines.specs.declared.edges.Edge.TheVariants.{Leave, Address, Enter, Get, Finish, Other, Rise, Fall, Tick, Put}
