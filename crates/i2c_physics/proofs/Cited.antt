-- The names that several proofs of this crate cite, passed on from one place. Declares nothing.
pub use Rattle.std.proofs.Common.{◌≡◌, ℕ, ◌<◌, List, [], ◌∷◌, length, get_or, set, refl, ap, ◌∙◌, arith, ◌+◌, ◌++◌, map, take, Bool, true}
pub use Rattle.std.proofs.Common.{false, cond, append-nil, sym, ◌&&◌, ◌||◌, None, subst, inl, inr, ◌≢◌, zero, suc, ◌≤◌, Some, ◌-◌, drop}
pub use Rattle.std.proofs.Common.{Option, add-zero, zero-add, append_assoc, bit_and, vec_len, Vec, Result, rules, vec_capacity, slice_index}
pub use Rattle.std.proofs.lemmas.Bool.{cases_Bool, and_parts, ne_eqb}
pub use Rattle.std.proofs.lemmas.Bool.Decides.{eqb_tells}
pub use Rattle.std.proofs.lemmas.List.{map-append, length-map, length-set, length-append, get_or-map, take_all, take_more, with_items_is}
pub use Rattle.std.proofs.lemmas.List.Elements.{filter_more, All-head, All-tail}
pub use Rattle.std.proofs.lemmas.List.FromFn.{length-range_with_len}
pub use Rattle.std.proofs.lemmas.Option.{slice_get-map, slice_get_cases, slice_get-get_or, slice_get_past}
pub use Rattle.std.proofs.lemmas.Result.{IfOk-weaker}
pub use Rattle.std.proofs.lemmas.Simd.{splat_is_map}
pub use Rattle.std.specs.List.{filter, range_with_len, list_all}
pub use Rattle.std.specs.Option.{option_map, option_map_or}
pub use Rattle.std.specs.Prelude.{◌==◌, not, if◌then◌else◌, slice_get, is_some, All, IsSome, unwrap_or, option_to_list, IfOk}
pub use Rattle.std.specs.Vec.{with_items}
pub use Rattle.i2c_base.proofs.ListLemmas.{one-made, AreMade, few-made, nil_by_length}
pub use Rattle.i2c_base.specs.Board.{BoardView, DeviceView}
pub use Rattle.i2c_base.specs.Table.{Table}
pub use Rattle.i2c_base.specs.declared.event.Answer.{Answer}
pub use Rattle.i2c_base.specs.declared.event.Answer.TheVariants.{Nothing}
pub use Rattle.i2c_base.specs.declared.event.Event.{Event}
pub use Rattle.i2c_base.specs.declared.ids.Node.{Node}
pub use Rattle.i2c_base.specs.declared.port.Phase.{Phase}
pub use Rattle.i2c_spec.proofs.FeedLemmas.{feed-same}
pub use Rattle.i2c_spec.specs.Chips.{ChipView, chip_table, chip_opening}
pub use Rattle.i2c_spec.specs.Grant.{has_address}
pub use Rattle.i2c_spec.specs.Plain.{IsPlainBoard}
pub use Rattle.i2c_spec.specs.Targets.{TargetState, IsQuiet, state_table, Silent}
pub use Rattle.i2c_spec.specs.Tree.{root_of}
pub use Rattle.i2c_spec.specs.World.{feed, answers, World, after, answer, sent_on, to_chips, to_devices, chip_start, device_start}
pub use Rattle.i2c_spec.specs.World.{start_chips, start_devices, start_event, stop_event, joins_chip, joins_device, hearers, has_heard}
pub use Rattle.i2c_spec.specs.World.{opening_world, answer_with, given, openings, AreWorldsOf, devices_of}
pub use Rattle.i2c_board.specs.Layouts.{board_of}
pub use Rattle.wire_spec.proofs.WorldLemmas.{eq_self}
pub use Rattle.i2c_bits.specs.PortViews.{BitPortView}
pub use Rattle.bus_lines.specs.Owned.{is_own, owns, own_device, without}
pub use Rattle.i2c_physics.specs.Answering.{wired_and_of, chips_say, devices_say}
pub use Rattle.i2c_physics.specs.BitRigs.{wired, opening_wired, parted, edges_of}
pub use Rattle.i2c_physics.specs.FailPorts.{fails_on, opening_fails}
pub use Rattle.i2c_physics.specs.Heard.{numbers_of, nodes_of}
pub use Rattle.i2c_physics.specs.Places.{PlaceView, mux_place, device_place, event_if, joins}
pub use Rattle.i2c_physics.specs.Reach.{to_those, is_among, AreRising, joins_at, has_at, addressed, others, union_of, IsReach, wired_at}
pub use Rattle.i2c_physics.specs.SimPorts.{PortView, opening_port}
pub use Rattle.i2c_physics.specs.SimRigs.{device_of, state_at, states_from, IsThere, taken_out, none_of, unset}
pub use Rattle.i2c_physics.specs.SimWorlds.{seen_on, opened_on}
pub use Rattle.i2c_physics.specs.Sites.{numbers_at, numbers_below}
pub use Rattle.i2c_physics.specs.declared.wired_and.WiredAnd.{WiredAnd}
