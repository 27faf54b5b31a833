-- The names that several proofs of this crate cite, passed on from one place. Declares nothing.
pub use Rattle.std.proofs.Common.{◌≡◌, ℕ, List, [], ◌∷◌, ◌++◌, set, Option, Some, None, true, false, refl, sym, ◌∙◌, ap, subst, zero, suc}
pub use Rattle.std.proofs.Common.{◌+◌, ◌*◌, ◌<◌, ◌≤◌, IsTrue, length, get_or, ◌⊎◌, inl, inr, arith, ◌-◌, Bool, cond, eqb}
pub use Rattle.std.proofs.lemmas.Bool.{eq-eqb}
pub use Rattle.std.proofs.lemmas.Bool.Decides.{eqb_tells, leb_tells}
pub use Rattle.std.proofs.lemmas.List.{get_or-set_other, length-set, append-nil, get_or_past}
pub use Rattle.std.proofs.lemmas.List.Sums.{sum_by-set}
pub use Rattle.std.proofs.lemmas.Option.{slice_get_within, slice_get-get_or}
pub use Rattle.std.specs.Prelude.{slice_get, slice_index_or, not, take, is_some}
pub use Rattle.i2c_base.proofs.ListLemmas.{map_from, set_elsewhere, map_at}
pub use Rattle.i2c_base.specs.Board.{BoardView}
pub use Rattle.i2c_base.specs.Fitting.{Fits, FitsReads}
pub use Rattle.i2c_base.specs.Need.{bytes_given}
pub use Rattle.i2c_base.specs.Phases.{MayStart}
pub use Rattle.i2c_base.specs.Transfer.{TransferView}
pub use Rattle.i2c_base.specs.declared.entry.End.{End}
pub use Rattle.i2c_base.specs.declared.entry.Entry.{Entry}
pub use Rattle.i2c_base.specs.declared.entry.Purpose.{Purpose}
pub use Rattle.i2c_base.specs.declared.errno.Errno.{Errno}
pub use Rattle.i2c_base.specs.declared.ids.LockId.{LockId}
pub use Rattle.i2c_base.specs.declared.port.Phase.{Phase}
pub use Rattle.i2c_base.specs.declared.port.Phase.TheVariants.{Idle}
pub use Rattle.i2c_base.specs.declared.port.PortCall.{PortCall}
pub use Rattle.i2c_base.specs.declared.reply.Reply.{Reply}
pub use Rattle.i2c_spec.proofs.MessageLemmas.{length-messages}
pub use Rattle.i2c_spec.specs.Cost.{cost_of}
pub use Rattle.i2c_spec.specs.Flat.{refusal, block_limit}
pub use Rattle.i2c_spec.specs.History.{changed_at, Asks}
pub use Rattle.i2c_spec.specs.Messages.{MessageView, messages_of, bytes_most}
pub use Rattle.i2c_spec.specs.Plain.{IsPlainBoard}
pub use Rattle.i2c_spec.specs.Tree.{home_of_mux, root_of, Hop, buses}
pub use Rattle.i2c_spec.specs.TreeFacts.{IsTree}
pub use Rattle.i2c_spec.specs.World.{World, hearers, has_heard, answer}
pub use Rattle.bus_spec.specs.Grammar.{seen, first_note, is_over, first_act, rest_of, walk_for, walk_by}
pub use Rattle.bus_spec.specs.Past.{begun, line_call, got_after, now, Now, current, step, is_due}
pub use Rattle.bus_spec.specs.Readings.{cut_told, message_cut, rank, is_lock, caller_of}
pub use Rattle.bus_spec.specs.Slots.{Slots, mark_in, At, MuxSlot, Clean, Marked, turned_at, turned, set_marks, polled_slot, select_told}
pub use Rattle.bus_spec.specs.Slots.{after_job}
pub use Rattle.bus_spec.specs.Stepwise.{reply_by, IsBelow, IsNext, IsStepwise}
pub use Rattle.bus_spec.specs.Tells.{HearsIn, heard_list}
pub use Rattle.bus_spec.specs.Walk.{Mark, Job, Call, Select, SwitchOff, off_bus, off_mux, Act, ActOutcome, Passed, Sent, Lined, Note}
pub use Rattle.bus_spec.specs.Walk.{MarkOf, KeptOf, WalkTree, Ends, Look, Then, Settle, Free, Send, Shift, job_bus, Take, is_last, Off}
pub use Rattle.bus_spec.specs.Walk.{job_purpose, message_of, line_mux, line_level}
pub use Rattle.bus_laws.proofs.past.Bytes.{got-grows, given-few}
pub use Rattle.bus_laws.proofs.past.StandsEntries.{first_is}
pub use Rattle.bus_laws.proofs.past.StandsFacts.{over_ends}
pub use Rattle.bus_laws.proofs.past.StandsStep.{at_same}
pub use Rattle.bus_laws.proofs.tree.Slots.{changed-same, changed-other}
pub use Rattle.bus_laws.proofs.walk.Next.{quiet-next, within-next, seen-first, call-goes-on, settles-sent, job-shifted}
pub use Rattle.bus_laws.proofs.walk.Waits.{holds_seen}
pub use Rattle.bus_laws.specs.Costs.{weight_at}
pub use Rattle.bus_laws.specs.Holds.{IsMarkOn, OwnHeld, MarksHeld, HoldsLocks, IsLockOf, SendsIn}
pub use Rattle.bus_laws.specs.Jobs.{IsJobOf}
pub use Rattle.bus_laws.specs.Lines.{LinesAreLocked}
pub use Rattle.bus_laws.specs.Next.{chip_where, who_hears}
pub use Rattle.bus_laws.specs.Others.{ahead}
pub use Rattle.bus_laws.specs.Reach.{AsksForMessages}
pub use Rattle.bus_laws.specs.Runs.{InLocks, IsCall}
pub use Rattle.bus_laws.specs.Settles.{Settles, NoSettle}
pub use Rattle.bus_laws.specs.Stands.{IsOnce}
pub use Rattle.bus_laws.specs.Waiting.{IsHeldUp}
pub use Rattle.seg_locks.specs.Locks.{holder_in, LocksView, with_holder, rank_in}
pub use Rattle.mux_plan.proofs.Openings.{mark_slot}
pub use Rattle.mux_plan.specs.Marks.{marked, all_marked, updates_of_job, updates_after, applied_kept}
pub use Rattle.mux_plan.specs.Plans.{SeenView, mark_on, kept_of, slots_of, TellsMarks, slots_after, ends_with}
pub use Rattle.mux_plan.specs.declared.marks.MuxUpdate.{MuxUpdate}
pub use Rattle.mux_plan.specs.declared.task.NextMsg.{NextMsg}
pub use Rattle.bus_message.specs.Ports.{RootPort}
pub use Rattle.bus_message.specs.Sends.{IsHeard, message_for}
pub use Rattle.bus_message.specs.declared.message.MsgResult.{MsgResult}
pub use Rattle.core_laws.specs.Behind.{with_place, settled_with, message_entry}
pub use Rattle.core_laws.specs.Core.{Place, Run, Whole, numbers_of, CoreKept, spot_of, trees_of, spots_of, pending, has_reply, IsLone}
pub use Rattle.core_laws.specs.Core.{StandsAt, IsGoing, SeatKept, IsFairRun, IsSent}
pub use Rattle.core_laws.specs.Owed.{total, OwesUpTo, message_most}
pub use Rattle.core_laws.specs.Ports.{PortKept, HoldsAt, IsInside}
pub use Rattle.core_laws.specs.Seats.{IsLeft, IsDecided}
pub use Rattle.core_laws.specs.Sends.{gone_after, IsMessageOf}
pub use Rattle.core_laws.specs.Spots.{seen_of, Spot, IsTold, AreNumbered, AreRooted, turned_to, TellsKept, SpotTold}
pub use Rattle.core_laws.specs.Steps.{next_of, behind_of, IsLined, IsSaid, AreMarked}
pub use Rattle.core_laws.specs.Table.{AreDistinct, TableKept}
pub use Rattle.core_laws.specs.Wants.{WantsIn}
