-- The names that several proofs of this crate cite, passed on from one place. Declares nothing.
pub use Rattle.std.proofs.Common.{◌≡◌, ℕ, zero, suc, ◌+◌, ◌*◌, ◌-◌, ◌<◌, ◌≤◌, Bool, true, false, cond, List, [], ◌∷◌, ◌++◌, length, Option}
pub use Rattle.std.proofs.Common.{Some, refl, sym, ◌∙◌, ap, subst, ◌⊎◌, inl, inr, arith, ◌&&◌, eqb, reverse, ◌||◌, None, append_assoc}
pub use Rattle.std.proofs.Common.{nat_lt, not, length-append, append-nil, ◌≢◌, rules}
pub use Rattle.std.proofs.lemmas.Bool.{eq-eqb, ne_eqb, and_parts, ltb-true}
pub use Rattle.std.proofs.lemmas.Bool.Decides.{eqb_tells, leb_tells}
pub use Rattle.std.proofs.lemmas.List.{reverse-append, length-reverse}
pub use Rattle.std.proofs.lemmas.Option.{same_Some}
pub use Rattle.std.specs.List.{AllByRecursion, range_with_len, list_all}
pub use Rattle.std.specs.Option.{option_map_or}
pub use Rattle.std.specs.Prelude.{take, slice_get}
pub use Rattle.i2c_base.specs.Board.{BoardView}
pub use Rattle.i2c_base.specs.Fitting.{Fits}
pub use Rattle.i2c_base.specs.Transfer.{TransferView, is_read, IsTransfer}
pub use Rattle.i2c_base.specs.declared.board.MuxKind.{MuxKind}
pub use Rattle.i2c_base.specs.declared.board.MuxKind.TheVariants.{Pca9548}
pub use Rattle.i2c_base.specs.declared.board.MuxSpec.{MuxSpec}
pub use Rattle.i2c_base.specs.declared.entry.End.{End}
pub use Rattle.i2c_base.specs.declared.entry.Entry.{Entry}
pub use Rattle.i2c_base.specs.declared.entry.Purpose.{Purpose}
pub use Rattle.i2c_base.specs.declared.errno.Errno.{Errno}
pub use Rattle.i2c_base.specs.declared.errno.Errno.TheVariants.{Eremoteio}
pub use Rattle.i2c_base.specs.declared.event.Answer.{Answer}
pub use Rattle.i2c_base.specs.declared.ids.LockId.{LockId}
pub use Rattle.i2c_base.specs.declared.ids.Node.{Node}
pub use Rattle.i2c_base.specs.declared.port.PortCall.{PortCall}
pub use Rattle.i2c_base.specs.declared.reply.Cut.{Cut}
pub use Rattle.i2c_base.specs.declared.reply.Reply.{Reply}
pub use Rattle.i2c_base.specs.declared.transfer.Msg.{Msg}
pub use Rattle.i2c_spec.proofs.BlockLemmas.{is_block_limit}
pub use Rattle.i2c_spec.proofs.MessageLemmas.{is_it-some}
pub use Rattle.i2c_spec.specs.Conversation.{world_listener, talk, Listener, Said, TalkTold, is_it, silence, say, with_byte, told, call_then}
pub use Rattle.i2c_spec.specs.Conversation.{ended, puts, gets, gets_counted, by_answer, is_good}
pub use Rattle.i2c_spec.specs.Cost.{cost_of}
pub use Rattle.i2c_spec.specs.Flat.{block_limit, refusal}
pub use Rattle.i2c_spec.specs.History.{Asks, changed_at}
pub use Rattle.i2c_spec.specs.Messages.{MessageView, messages_of}
pub use Rattle.i2c_spec.specs.Plain.{IsPlainBoard}
pub use Rattle.i2c_spec.specs.Rules.{MeetsRules}
pub use Rattle.i2c_spec.specs.Tree.{root_of, home_of_mux, buses, Hop, hops, IsAmongHops}
pub use Rattle.i2c_spec.specs.TreeFacts.{IsTree, IsHop}
pub use Rattle.i2c_spec.specs.World.{World, hearers}
pub use Rattle.bus_spec.specs.ByTree.{Step, replies_in, AreTransfers, deed_next, step_next, steps_in}
pub use Rattle.bus_spec.specs.Faults.{faults_in, count_if}
pub use Rattle.bus_spec.specs.Grammar.{walk_for, seen, first_act, first_note, rest_of, walk_by, is_over}
pub use Rattle.bus_spec.specs.Legal.{IsLegal, IsComplete, IsPlaced, SettleAt, KeepsSettles}
pub use Rattle.bus_spec.specs.Past.{calls_of, Now, current, now, step, talk_of, cut_of, got_after, sent_by, lined_by, line_call, begun}
pub use Rattle.bus_spec.specs.Past.{is_due, kept_channel, mark}
pub use Rattle.bus_spec.specs.Places.{is_cut, outcome_of, walk_left, transfer_at, channel_opened, channel_written, switches, kept_left}
pub use Rattle.bus_spec.specs.Places.{mark_among, mark_after, mark_sent, mark_lined, mark_by}
pub use Rattle.bus_spec.specs.Play.{played, Failing, transfers_of}
pub use Rattle.bus_spec.specs.Readings.{caller_of, last_cut, cut_told, replies, OfMessage, MessageEntry, holder, Everywhere}
pub use Rattle.bus_spec.specs.Report.{report_of}
pub use Rattle.bus_spec.specs.Ruled.{IsRuled}
pub use Rattle.bus_spec.specs.Schedule.{Turn, turns, turn_of, is_ready, is_settle, past_after, FollowsRest, FollowsWords, Follows}
pub use Rattle.bus_spec.specs.Slots.{Slots, At, MuxSlot, Clean, Marked, turned, set_marks, polled_slot, after_job, mark_in}
pub use Rattle.bus_spec.specs.Stand.{Stand}
pub use Rattle.bus_spec.specs.Stepwise.{May, IsNext, IsStepwise, reply_by, TellsNext}
pub use Rattle.bus_spec.specs.Tells.{TellsMessage, Tells, heard_list, HearsIn}
pub use Rattle.bus_spec.specs.Walk.{Job, Call, Select, SwitchOff, Act, ActOutcome, Take, Free, Send, Shift, Settle, Passed, Sent, Lined}
pub use Rattle.bus_spec.specs.Walk.{WalkTree, job_bus, message_of, is_last, nth_message, Note, Ends, Look, Then, goes, verdict_of}
pub use Rattle.bus_spec.specs.Walk.{job_purpose, Deselect, Close, job_outcome, decides, is_line, part_of, parts_of, line_mux, line_level}
pub use Rattle.bus_spec.specs.Walk.{off_mux, Mark, Off, off_bus, is_arbitrator}
pub use Rattle.bus_spec.specs.WalkRule.{Deed}
pub use Rattle.bus_laws.proofs.device.Past.{settles_next}
pub use Rattle.bus_laws.proofs.past.Asked.{settles_seen, current-asked, past-asked, settled-told}
pub use Rattle.bus_laws.proofs.past.Known.{never, Does, does-next, entry_known}
pub use Rattle.bus_laws.proofs.past.Laws.{sends, shifts, holder-told, past-stands}
pub use Rattle.bus_laws.proofs.past.Next.{call-reaches, control-switches}
pub use Rattle.bus_laws.proofs.past.Others.{IsUntouched, entry-elsewhere}
pub use Rattle.bus_laws.proofs.past.Placed.{starts_seen, no_settle, past-due, cut-told, IsDueBehind, due-made, settles-kept}
pub use Rattle.bus_laws.proofs.past.Ready.{takes-below}
pub use Rattle.bus_laws.proofs.past.StandsEntries.{first_is}
pub use Rattle.bus_laws.proofs.past.StandsFacts.{over_ends}
pub use Rattle.bus_laws.proofs.past.StandsStep.{at_same, at_other}
pub use Rattle.bus_laws.proofs.walk.Next.{settles-taken, settles-freed, settles-sent, settles-shifted, settles-settled}
pub use Rattle.bus_laws.proofs.walk.SettleLaw.{walk-settles, walk-starts}
pub use Rattle.bus_laws.proofs.world.LineFacts.{lines-locked}
pub use Rattle.bus_laws.proofs.world.TalkLaws.{IsOwnEnd}
pub use Rattle.bus_laws.proofs.world.TalkThrough.{talk-writes}
pub use Rattle.bus_laws.specs.Calls.{CallsOf, IsAsked}
pub use Rattle.bus_laws.specs.Coming.{IsTurn, Comes, after_all}
pub use Rattle.bus_laws.specs.Lines.{LinesAreLocked}
pub use Rattle.bus_laws.specs.Next.{who_hears, chip_where}
pub use Rattle.bus_laws.specs.Others.{ahead}
pub use Rattle.bus_laws.specs.Reach.{AsksForMessages, AsksWithinLimits}
pub use Rattle.bus_laws.specs.Ready.{CanGoOn}
pub use Rattle.bus_laws.specs.Runs.{IsCall, InLocks, IsOfMux, FindsSelect, MayFail, MaySend, MayShift}
pub use Rattle.bus_laws.specs.Settles.{Settles, NoSettle, IsDecided, GoesOn}
pub use Rattle.flat_laws.proofs.device.Law.{replies-kept}
pub use Rattle.flat_laws.proofs.past.Legal.{legal-with}
pub use Rattle.flat_laws.proofs.past.Through.{complete-through}
pub use Rattle.flat_laws.proofs.past.Walks.{reply_at, replies_first}
pub use Rattle.flat_laws.proofs.walk.Rule.{transfers-walks, walks-led, walk-path, front-path, path-walk}
pub use Rattle.flat_laws.specs.Ends.{IsDone}
pub use Rattle.flat_laws.specs.Led.{Leads, AreWalks, none, whole, front}
pub use Rattle.journal_laws.specs.Counts.{failed_on, failures, remotes, is_failed}
pub use Rattle.journal_laws.specs.Faulty.{KeepsCuts}
pub use Rattle.journal_laws.specs.Spent.{bytes_in, calls_for, KeepsFits, Count, one_entry, its_bytes, its_calls, of_caller, cost_at}
pub use Rattle.journal_laws.specs.Spent.{cost_from, IsWithinCost}
pub use Rattle.journal_laws.specs.Wrong.{kept_board, keep_asks, two_asks, one_asks, deep_asks}
