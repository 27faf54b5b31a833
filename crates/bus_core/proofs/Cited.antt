-- The names that several proofs of this crate cite, passed on from one place. Declares nothing.
pub use Rattle.std.proofs.Common.{◌≡◌, ℕ, Option, Some, None, refl, subst, ◌<◌, true, IsTrue, length, reverse, sym, ◌∙◌, ap, arith, inl}
pub use Rattle.std.proofs.Common.{inr, ◌⊎◌, suc, ◌+◌, ◌≤◌, Bool, false, List, [], ◌∷◌, get_or, set, ◌++◌, zero, ◌-◌, map, rules}
pub use Rattle.std.proofs.lemmas.Bool.{ltb-true}
pub use Rattle.std.proofs.lemmas.Bool.Decides.{eqb_tells}
pub use Rattle.std.proofs.lemmas.List.{length-map, length-set, map-set, reverse-append, append_assoc, length-append, reverse-reverse}
pub use Rattle.std.proofs.lemmas.List.Elements.{All-get_or}
pub use Rattle.std.proofs.lemmas.Option.{slice_get_within, get_or_from_slice_get, slice_get-get_or}
pub use Rattle.std.specs.List.{All}
pub use Rattle.std.specs.Option.{option_map_or}
pub use Rattle.std.specs.Prelude.{slice_get, if◌then◌else◌, drop, take, sum_by, vec_len, vec_capacity}
pub use Rattle.std.specs.Vec.Iter.{into_iter_items, into_iter_len}
pub use Rattle.i2c_base.proofs.ListLemmas.{there, map_from, map_at}
pub use Rattle.i2c_base.specs.Board.{BoardView}
pub use Rattle.i2c_base.specs.Fitting.{FitsReads, Fits}
pub use Rattle.i2c_base.specs.Limits.{MOST_CALLERS}
pub use Rattle.i2c_base.specs.Need.{bytes_given, Covers}
pub use Rattle.i2c_base.specs.Transfer.{IsTransfer, TransferView, written_of}
pub use Rattle.i2c_base.specs.declared.entry.Entry.{Entry}
pub use Rattle.i2c_base.specs.declared.entry.Purpose.{Purpose}
pub use Rattle.i2c_base.specs.declared.errno.Errno.{Errno}
pub use Rattle.i2c_base.specs.declared.ids.LockId.{LockId}
pub use Rattle.i2c_base.specs.declared.reply.Cut.{Cut}
pub use Rattle.i2c_base.specs.declared.reply.Reply.{Reply}
pub use Rattle.i2c_spec.specs.Messages.{MessageView, bytes_most}
pub use Rattle.i2c_spec.specs.Plain.{IsPlainBoard}
pub use Rattle.i2c_spec.specs.Rules.{MeetsRules}
pub use Rattle.i2c_spec.specs.Tree.{buses, root_of, depth}
pub use Rattle.i2c_spec.specs.World.{World}
pub use Rattle.bus_spec.specs.Grammar.{is_over, first_note, seen, first_act, rest_of, walk_for}
pub use Rattle.bus_spec.specs.Past.{got_after, now, begun, current}
pub use Rattle.bus_spec.specs.Readings.{message_cut, caller_of}
pub use Rattle.bus_spec.specs.Schedule.{is_settle}
pub use Rattle.bus_spec.specs.Stepwise.{reply_by, IsStepwise}
pub use Rattle.bus_spec.specs.Walk.{Job, Act, Take, Free, Send, Shift, Settle, line_mux, line_level, WalkTree, Call, Select, SwitchOff}
pub use Rattle.bus_spec.specs.Walk.{job_purpose, Passed, ActOutcome, Ends, Look, Then, Sent, Lined}
pub use Rattle.bus_laws.proofs.past.StandsFacts.{over_ends}
pub use Rattle.bus_laws.specs.Following.{GoesOnBy}
pub use Rattle.bus_laws.specs.Jobs.{IsJobOf}
pub use Rattle.bus_laws.specs.Others.{CallerTold}
pub use Rattle.bus_laws.specs.Ready.{IsStuck}
pub use Rattle.bus_laws.specs.Waiting.{IsHeldUp}
pub use Rattle.seg_locks.specs.Locks.{LocksView, holder_in, IsLockIn, with_holder, opened, IsDepth}
pub use Rattle.mux_plan.proofs.MuxUpdates.{tells-after, on-after}
pub use Rattle.mux_plan.specs.Looks.{IsLooked}
pub use Rattle.mux_plan.specs.Marks.{MayMark}
pub use Rattle.mux_plan.specs.Plans.{action_of, slots_of, SeenView, RouteView, is_call_through}
pub use Rattle.mux_plan.specs.declared.marks.MuxUpdate.{MuxUpdate}
pub use Rattle.mux_plan.specs.declared.task.Action.{Action}
pub use Rattle.mux_plan.specs.declared.task.NextMsg.{NextMsg}
pub use Rattle.bus_message.proofs.PortLemmas.{call-through, socket-here, socket-is}
pub use Rattle.bus_message.specs.Cursors.{CursorView}
pub use Rattle.bus_message.specs.Ports.{root_port, root_ports, RootPort, MayShift, Shifted}
pub use Rattle.bus_message.specs.declared.message.MsgResult.{MsgResult}
pub use Rattle.core_laws.proofs.Core.{lone_act, not_over, locks-here, owes-here, stands-here, set_same, at_set}
pub use Rattle.core_laws.proofs.Laws.{kept-after, length-applied_kept, held-wants, room-one, going-asks, take-wants, settle-errs, next-same}
pub use Rattle.core_laws.specs.Behind.{with_place, begun_with}
pub use Rattle.core_laws.specs.Core.{Place, Run, Whole, has_reply, IsFairRun, CoreKept, spot_of, IsLone}
pub use Rattle.core_laws.specs.Opens.{AreDepths}
pub use Rattle.core_laws.specs.Seats.{IsLeft, IsDecided}
pub use Rattle.core_laws.specs.Sends.{IsMessageOf, gone_after}
pub use Rattle.core_laws.specs.Spots.{seen_of, turned_to}
pub use Rattle.core_laws.specs.Steps.{next_of, AreMarked, behind_of}
pub use Rattle.core_laws.specs.Wants.{WantsIn}
pub use Rattle.bus_journal.specs.View.{JournalView}
pub use Rattle.bus_core.specs.Answers.{HasAdded, WaitsFor, HasUsedUp, IsLeast, IsOverIn}
pub use Rattle.bus_core.specs.Kept.{asks_in, run_of, whole_of, IsKept, ArePlaced, HasStepped, HasTurn, roots_of, IsSeated, HasMessage}
pub use Rattle.bus_core.specs.Kept.{ComesAt, IsCore, HasCome}
pub use Rattle.bus_core.specs.Looks.{IsLookedAt, AreLooked}
pub use Rattle.bus_core.specs.Marks.{AreHeld, words_after}
pub use Rattle.bus_core.specs.Opening.{IsSetUp, HasRoot}
pub use Rattle.bus_core.specs.Opens.{callers_scripts, MayOpen, IsSeatOf, AreSeated, IsFreshSeat}
pub use Rattle.bus_core.specs.Places.{walk_left, place_of, script_of, scripts_of, got_by, owed_by, places_of, script_at, asks_of}
pub use Rattle.bus_core.specs.Ready.{IsHeldUpAt, AreHeldUpBelow, HasPlace}
pub use Rattle.bus_core.specs.Replies.{RepliesView, reply_decided}
pub use Rattle.bus_core.specs.Runs.{HasMade, HasWaited, KeepsSchedule}
pub use Rattle.bus_core.specs.Seats.{HasSpoken, updates_of, HasHeard, MaySettle, IsSettledIn, HasSettled, WentOn, got_heard, MayEnd}
pub use Rattle.bus_core.specs.Seats.{HasFreed, HasEnded, IsOn, updates_ahead, MayRefuse, IsRefusedIn, cut_of_line}
pub use Rattle.bus_core.specs.State.{AllThrough, state_of, CoreState, CoreTold, has_caller, logs_of, roots_in}
pub use Rattle.bus_core.specs.Steps.{IsBlockedAt, HasEndedAt}
pub use Rattle.bus_core.specs.declared.parts.CoreInside.{CoreInside}
pub use Rattle.bus_core.specs.declared.replies.Decided.{Decided}
pub use Rattle.bus_core.specs.declared.seat.Seat.{Seat}
pub use Rattle.bus_core.specs.declared.steps.StepAnswer.{StepAnswer}
