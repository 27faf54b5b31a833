-- The names that several proofs of this crate cite, passed on from one place. Declares nothing.
pub use Rattle.std.proofs.Common.{◌≡◌, ℕ, zero, suc, ◌-◌, ◌<◌, Bool, true, false, cond, List, [], ◌∷◌, ◌++◌, length, Option, Some, None}
pub use Rattle.std.proofs.Common.{eqb, refl, sym, ◌∙◌, ap, subst, inl, inr, arith, ◌+◌, ◌&&◌, zero-add, ◌⊎◌, add-zero, append-nil, map}
pub use Rattle.std.proofs.Common.{append_assoc, reverse}
pub use Rattle.std.proofs.lemmas.Bool.{ne_eqb, eq-eqb}
pub use Rattle.std.proofs.lemmas.Bool.Decides.{eqb_tells}
pub use Rattle.std.proofs.lemmas.List.{map_push}
pub use Rattle.std.proofs.lemmas.Option.{same_Some}
pub use Rattle.std.specs.List.{AllByRecursion}
pub use Rattle.std.specs.Option.{option_map, option_map_or, option_and_then}
pub use Rattle.std.specs.Prelude.{slice_get, unwrap_or}
pub use Rattle.i2c_base.specs.Board.{BoardView, DeviceView}
pub use Rattle.i2c_base.specs.Bytes.{AreBytes}
pub use Rattle.i2c_base.specs.Transfer.{TransferView}
pub use Rattle.i2c_base.specs.declared.entry.End.{End}
pub use Rattle.i2c_base.specs.declared.entry.Entry.{Entry}
pub use Rattle.i2c_base.specs.declared.entry.Purpose.{Purpose}
pub use Rattle.i2c_base.specs.declared.errno.Errno.{Errno}
pub use Rattle.i2c_base.specs.declared.ids.LockId.{LockId}
pub use Rattle.i2c_base.specs.declared.port.PortCall.{PortCall}
pub use Rattle.i2c_base.specs.declared.reply.Cut.{Cut}
pub use Rattle.i2c_base.specs.declared.reply.Reply.{Reply}
pub use Rattle.i2c_spec.proofs.MessageLemmas.{length-messages}
pub use Rattle.i2c_spec.specs.Conversation.{TalkTold, world_listener, talk, is_good, AllTold, talk_all, is_empty, with_read, Listener}
pub use Rattle.i2c_spec.specs.Flat.{FlatTold, idle, refusal, granted_on, block_limit, errno_of, or_done, flat, FlatListener, flat_start}
pub use Rattle.i2c_spec.specs.Flat.{to_current, to_named, flat_after, flat_listener, cut_in, barred, flat_by, flat_messages}
pub use Rattle.i2c_spec.specs.History.{Asks, History, changed_at, with_told, one_more, opening_history, history}
pub use Rattle.i2c_spec.specs.Messages.{MessageView, messages_of}
pub use Rattle.i2c_spec.specs.Plain.{IsPlainBoard}
pub use Rattle.i2c_spec.specs.Targets.{TargetState, state_table}
pub use Rattle.i2c_spec.specs.Tree.{hops, root_of, Hop, locks_of}
pub use Rattle.i2c_spec.specs.TreeFacts.{IsTree}
pub use Rattle.i2c_spec.specs.World.{World}
pub use Rattle.bus_spec.specs.ByTree.{Step, deed_next, step_next, replies_in, steps_in, TellsAct, AreTold, AreTransfers, no_more, under_way}
pub use Rattle.bus_spec.specs.Grammar.{first_act, first_note, rest_of, walk_by, seen, is_over, walk_for, locked, inner, plain}
pub use Rattle.bus_spec.specs.Legal.{KeepsReplies, IsComplete, IsLegal}
pub use Rattle.bus_spec.specs.Past.{Now, begun, current, now, is_on, is_due, sent, with_due, moved, talk_of, cut_of, inside_after}
pub use Rattle.bus_spec.specs.Past.{got_after, step, sent_by, lined_by}
pub use Rattle.bus_spec.specs.Places.{outcome_of}
pub use Rattle.bus_spec.specs.Readings.{MessageEntry, message_cut, cut_told, order, is_call, holder, caller_of}
pub use Rattle.bus_spec.specs.Slots.{answer_to}
pub use Rattle.bus_spec.specs.Stepwise.{IsNext, IsStepwise, May, reply_by}
pub use Rattle.bus_spec.specs.Tells.{TellsMessage, Tells}
pub use Rattle.bus_spec.specs.Walk.{Job, Call, Act, Send, Settle, Sent, WalkTree, goes, verdict_of, message_of, Select, SwitchOff, Take}
pub use Rattle.bus_spec.specs.Walk.{Free, Passed, Lined, job_bus, Shift, job_purpose, Ends, ActOutcome, Note, Then, more_of, Look}
pub use Rattle.bus_spec.specs.WalkRule.{Deed, without_marks, PathStep, Saw, Did, deed_of}
pub use Rattle.bus_laws.proofs.device.Past.{DecidesNext}
pub use Rattle.bus_laws.proofs.past.Asked.{settled-told}
pub use Rattle.bus_laws.proofs.past.Known.{message_entry}
pub use Rattle.bus_laws.proofs.past.Laws.{past-stands, holder-told}
pub use Rattle.bus_laws.proofs.past.Placed.{no_settle, past-due}
pub use Rattle.bus_laws.proofs.past.StandsEntries.{first_is}
pub use Rattle.bus_laws.proofs.past.StandsStep.{at_same, at_other}
pub use Rattle.bus_laws.proofs.past.Whole.{goes_on_from, call_goes, other_caller, own_call, past-inside}
pub use Rattle.bus_laws.proofs.walk.VerdictLaw.{LetThrough, bars-flat}
pub use Rattle.bus_laws.proofs.world.LineFacts.{lines-locked}
pub use Rattle.bus_laws.specs.Alike.{IsOf, Same, LeadsTo, EndsTransfer, ToldAlike}
pub use Rattle.bus_laws.specs.Lines.{LinesAreLocked}
pub use Rattle.bus_laws.specs.Reach.{AsksForMessages, AsksWithinLimits}
pub use Rattle.bus_laws.specs.Runs.{InLocks, Runs}
pub use Rattle.bus_laws.specs.Settles.{NoSettle, Settles}
pub use Rattle.bus_laws.specs.Stands.{CallerStands, Stands}
pub use Rattle.flat_laws.specs.Led.{Leads, AreWalks, none, whole, front, AreAllWalks}
pub use Rattle.flat_laws.specs.Left.{said_so_far, calls_behind}
pub use Rattle.flat_laws.specs.Parts.{talk_part, GrowsAlike}
pub use Rattle.flat_laws.specs.Paths.{deed_by, IsPath}
