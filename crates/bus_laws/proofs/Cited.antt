-- The names that several proofs of this crate cite, passed on from one place. Declares nothing.
pub use Rattle.std.proofs.Common.{◌≡◌, ℕ, zero, suc, ◌+◌, Bool, true, false, cond, not, ◌&&◌, ◌||◌, List, [], ◌∷◌, Option, Some, None, eqb}
pub use Rattle.std.proofs.Common.{refl, sym, ◌∙◌, ap, subst, ◌⊎◌, inl, inr, arith, add-zero, zero-add, ◌++◌, map, ◌-◌, length, ltb, ◌≤◌}
pub use Rattle.std.proofs.Common.{length-append, ◌<◌, ◌*◌, append-nil}
pub use Rattle.std.proofs.Math.Bool.{or-true, or-false}
pub use Rattle.std.proofs.Math.Path.{fun_ext}
pub use Rattle.std.proofs.lemmas.Bool.{eqb-true, eq-eqb, ne_eqb, ltb-true, or_parts, eqb-false, cases_lt, ltb-false}
pub use Rattle.std.proofs.lemmas.Bool.Decides.{eqb_tells}
pub use Rattle.std.proofs.lemmas.List.{reverse-append, append_assoc}
pub use Rattle.std.proofs.lemmas.Map.Keys.{any_passes_from_place}
pub use Rattle.std.proofs.lemmas.Option.{same_Some, slice_get_within}
pub use Rattle.std.specs.List.{list_any, list_all, AllByRecursion}
pub use Rattle.std.specs.Option.{option_map, option_map_or}
pub use Rattle.std.specs.Prelude.{slice_get, unwrap_or, bit_and, is_some, reverse, MatchBool, ◌==◌, drop, take}
pub use Rattle.i2c_base.proofs.Booleans.{and_first, and_last}
pub use Rattle.i2c_base.proofs.MuxLemmas.{line_row}
pub use Rattle.i2c_base.specs.Board.{BoardView, DeviceView}
pub use Rattle.i2c_base.specs.Bytes.{IsByte, AreBytes}
pub use Rattle.i2c_base.specs.Fitting.{FitsReads, count_of}
pub use Rattle.i2c_base.specs.Muxes.{facts_of}
pub use Rattle.i2c_base.specs.Table.{Table}
pub use Rattle.i2c_base.specs.Transfer.{TransferView, is_read, written_of}
pub use Rattle.i2c_base.specs.declared.board.MuxKind.{MuxKind}
pub use Rattle.i2c_base.specs.declared.board.MuxKind.TheVariants.{Pca9548}
pub use Rattle.i2c_base.specs.declared.board.MuxSpec.{MuxSpec}
pub use Rattle.i2c_base.specs.declared.entry.End.{End}
pub use Rattle.i2c_base.specs.declared.entry.Entry.{Entry}
pub use Rattle.i2c_base.specs.declared.entry.Purpose.{Purpose}
pub use Rattle.i2c_base.specs.declared.errno.Errno.{Errno}
pub use Rattle.i2c_base.specs.declared.event.Answer.{Answer}
pub use Rattle.i2c_base.specs.declared.event.Event.{Event}
pub use Rattle.i2c_base.specs.declared.ids.LockId.{LockId}
pub use Rattle.i2c_base.specs.declared.ids.Node.{Node}
pub use Rattle.i2c_base.specs.declared.mux_facts.ChannelCode.{ChannelCode}
pub use Rattle.i2c_base.specs.declared.mux_facts.ChannelCode.TheVariants.{Level}
pub use Rattle.i2c_base.specs.declared.port.PortCall.{PortCall}
pub use Rattle.i2c_base.specs.declared.reply.Cut.{Cut}
pub use Rattle.i2c_base.specs.declared.reply.Reply.{Reply}
pub use Rattle.i2c_base.specs.declared.transfer.Msg.{Msg}
pub use Rattle.i2c_base.specs.declared.tree.Grant.{Grant}
pub use Rattle.i2c_spec.proofs.MessageLemmas.{IsFollowing, IsLater, length-messages}
pub use Rattle.i2c_spec.specs.Chips.{ChipView, chip_table, is_open, is_free, taken, looked, select_by, select_value, close_value, at_level}
pub use Rattle.i2c_spec.specs.Chips.{chip_sends}
pub use Rattle.i2c_spec.specs.Conversation.{world_listener, talk, is_it, Listener, Said, TalkTold, silence, say, with_byte, told, call_then}
pub use Rattle.i2c_spec.specs.Conversation.{ended, puts, gets, gets_counted, by_answer}
pub use Rattle.i2c_spec.specs.Flat.{granted_on, answer_of, block_limit, FlatListener, is_member, put_named, flat_start, to_current}
pub use Rattle.i2c_spec.specs.Flat.{to_named, flat_after, flat_listener, idle, refusal}
pub use Rattle.i2c_spec.specs.Grant.{has_address, some_chip, some_device, grant_of, named_of, is_busy}
pub use Rattle.i2c_spec.specs.History.{Asks, changed_at}
pub use Rattle.i2c_spec.specs.Messages.{MessageView, messages_of, messages_from, bytes_most, write_byte, read_byte}
pub use Rattle.i2c_spec.specs.Plain.{IsPlainBoard, IsPlainMux, IsChip}
pub use Rattle.i2c_spec.specs.Rules.{MeetsRules, wants_parent}
pub use Rattle.i2c_spec.specs.Targets.{TargetState, state_table, state_answer, HoldsBytes, IsQuiet}
pub use Rattle.i2c_spec.specs.Tree.{Hop, hops, root_of, of_device, is_below, is_on_path, is_aside, Crosses, IsAmongHops, IsOver, IsAlong}
pub use Rattle.i2c_spec.specs.Tree.{MayJoin, addr_of_mux, is_absent, home_of_mux, is_left_open, buses, of_mux, locks_of, is_parent, is_held}
pub use Rattle.i2c_spec.specs.TreeFacts.{IsTree, home_of, addr_of, IsHop}
pub use Rattle.i2c_spec.specs.World.{World, opens_hop, is_joined, joins_device, given, feed, answers, answer_with, has_heard, heard_of}
pub use Rattle.i2c_spec.specs.World.{some_answer, start_event, device_start, start_devices, hearers, is_ack, is_slow, start_chips, is_chip}
pub use Rattle.i2c_spec.specs.World.{is_device, to_chips, to_devices, takes, and_of, gives, stop_event, after, opening_world, has_chip}
pub use Rattle.i2c_spec.specs.World.{chip_start, joins_chip, stopped}
pub use Rattle.bus_spec.specs.Grammar.{first_act, rest_of, walk_for, seen, is_over, first_note, settled, over, by_go, messages, Doer, aside}
pub use Rattle.bus_spec.specs.Grammar.{with_mark, if_sent, if_good, kind_of, closing, left_behind, opened, chosen, crossed, behind, plain}
pub use Rattle.bus_spec.specs.Grammar.{locked, part, inner, at_bus, walk_by, keeps}
pub use Rattle.bus_spec.specs.Legal.{starts, by_purpose, is_stepping}
pub use Rattle.bus_spec.specs.Past.{Now, current, now, talk_of, cut_of, begun, opening, step, sent_by, lined_by, got_after, kept_channel}
pub use Rattle.bus_spec.specs.Past.{is_on, is_due, with_due, moved, without, line_call}
pub use Rattle.bus_spec.specs.Readings.{message_cut, MessageEntry, replies, holder, caller_of, cut_told, rank, is_lock}
pub use Rattle.bus_spec.specs.Schedule.{Turn, is_ready, past_after, FollowsWords, turns}
pub use Rattle.bus_spec.specs.Slots.{after_job, Slots, answer_to, At, MuxSlot, Clean, Marked, Polled, Found, mark_in, turned, set_marks}
pub use Rattle.bus_spec.specs.Slots.{polled_slot, turned_at, select_told, after_select, after_off}
pub use Rattle.bus_spec.specs.Stepwise.{IsNext, IsStepwise, May, reply_by, IsBelow}
pub use Rattle.bus_spec.specs.Tells.{heard_list, TellsMessage}
pub use Rattle.bus_spec.specs.Walk.{Job, Call, Select, SwitchOff, Off, off_bus, off_mux, off_kind, Act, Send, Shift, Settle, ActOutcome}
pub use Rattle.bus_spec.specs.Walk.{Sent, Lined, Note, WalkTree, Then, job_bus, job_purpose, message_of, chip_address, job_outcome}
pub use Rattle.bus_spec.specs.Walk.{verdict_of, decides, Mark, is_gpio, Take, Free, Passed, Ends, Look, line_mux, line_level, first_byte}
pub use Rattle.bus_spec.specs.Walk.{is_line, goes, Ask, MarkOf, KeptOf, ask_bus, is_arbitrator, JobOutcome, Good, Refused, Failed, Go, On}
pub use Rattle.bus_spec.specs.Walk.{Last, Over, sent_outcome, Deselect, Close, Unsent, more_of, nth_message}
pub use Rattle.bus_laws.specs.Alike.{LeadsTo, listening, IsControl, IsOf, Same, ToldAlike}
pub use Rattle.bus_laws.specs.Calls.{CallsOf, IsAsked, FirstCalls}
pub use Rattle.bus_laws.specs.Coming.{IsTurn, Comes}
pub use Rattle.bus_laws.specs.Costs.{weight_at, IsWithin}
pub use Rattle.bus_laws.specs.Holds.{IsMarkOn, HoldsLocks}
pub use Rattle.bus_laws.specs.Jobs.{EachJob}
pub use Rattle.bus_laws.specs.Lines.{LinesAreLocked}
pub use Rattle.bus_laws.specs.Others.{ahead, CallerTold}
pub use Rattle.bus_laws.specs.Reach.{AsksForMessages}
pub use Rattle.bus_laws.specs.Ready.{IsStuck}
pub use Rattle.bus_laws.specs.Runs.{InLocks, IsCall, CanSend, MaySend, Runs, IsOpenOn, IsMuxOf, IsGranted, MayFail, MayShift, Finds, RestOf}
pub use Rattle.bus_laws.specs.Runs.{taken_slots, IsRest, LeavesShut, CanShift, IsOfMux, FindsOpen, FindsSelect, Owns, CanSelect}
pub use Rattle.bus_laws.specs.Runs.{CanGoThrough, HeadsMarks, IsUnmarked, IsShut, FindsPoll}
pub use Rattle.bus_laws.specs.Settles.{EndsJob, IsDecided, GoesOn, Settles, IsBefore, NoSettle}
pub use Rattle.bus_laws.specs.Stands.{CallerStands, Stands, StandsIn, IsOnce}
pub use Rattle.bus_laws.specs.Told.{WorldTold, IsChipOf, chip_in, Explains, ChipsTold}
