-- The names that several proofs of this crate cite, passed on from one place. Declares nothing.
pub use Rattle.std.proofs.Common.{◌≡◌, ℕ, ◌+◌, ◌<◌, ◌≤◌, true, false, cond, List, [], ◌∷◌, length, Option, Some, None, Result, Ok, Err}
pub use Rattle.std.proofs.Common.{refl, subst, arith, ◌++◌, ap, sym, ◌∙◌, inl, inr, zero, suc, ◌^◌, Bool, codes, nat_lt, ◌-◌, ◌&&◌, ◌||◌}
pub use Rattle.std.proofs.Common.{map, take, drop, append-nil, length-drop, add-one, append_assoc, get_or, slice_set, ◌*◌}
pub use Rattle.std.proofs.lemmas.Bool.Decides.{leb_tells, eqb_tells}
pub use Rattle.std.proofs.lemmas.Grind.{flat_map-append, common_steps}
pub use Rattle.std.proofs.lemmas.List.{drop-append-le, take_all, map-append, take_more, drop-drop}
pub use Rattle.std.proofs.lemmas.List.Elements.{All-nil, All-cons, All-head, All-tail, All-drop, All-append}
pub use Rattle.std.proofs.lemmas.List.Folds.{list_any-append}
pub use Rattle.std.proofs.lemmas.List.Sums.{sum_by-cons}
pub use Rattle.std.proofs.lemmas.Option.{same_Some, none-some, slice_get_within, slice_get-get_or}
pub use Rattle.std.specs.Fmt.{decimal}
pub use Rattle.std.specs.Int.{bit_at}
pub use Rattle.std.specs.List.{fold, list_any, range_with_len, flat_map}
pub use Rattle.std.specs.Option.{option_map_or}
pub use Rattle.std.specs.Prelude.{All, IfSome, ◌==◌, slice_get, sum_by}
pub use Rattle.i2c_base.specs.Board.{BoardView, DeviceView}
pub use Rattle.i2c_base.specs.Fitting.{Fits}
pub use Rattle.i2c_base.specs.Limits.{MOST_BYTES}
pub use Rattle.i2c_base.specs.Replies.{reply_by}
pub use Rattle.i2c_base.specs.Transfer.{TransferView}
pub use Rattle.i2c_base.specs.declared.reply.Reply.{Reply}
pub use Rattle.i2c_base.specs.declared.reply.ReplyHead.{ReplyHead}
pub use Rattle.packed.specs.View.{PackedView}
pub use Rattle.i2c_spec.specs.Cost.{cost_of}
pub use Rattle.i2c_spec.specs.Flat.{block_limit}
pub use Rattle.i2c_spec.specs.Tree.{buses, root_of, root_named}
pub use Rattle.i2c_board.specs.Bills.{IsBill}
pub use Rattle.dev_handle.specs.Handles.{HandlesView}
pub use Rattle.bus_journal.proofs.LineFeeds.{line-append, decimal-line}
pub use Rattle.bus_journal.specs.Reports.{IsSectionLine, IsLine}
pub use Rattle.tools.proofs.TransferLemmas.{IsAsk}
pub use Rattle.tools.specs.Commands.{IsInRange}
pub use Rattle.tools.specs.Dialogues.{place_after, is_over, Dialogue, next_place, AreReplies, transfers_of}
pub use Rattle.tools.specs.Lines.{line_read}
pub use Rattle.tools.specs.Replies.{most_brought, replies_of}
pub use Rattle.tools.specs.Splits.{words_of, lines_of, joined_words}
pub use Rattle.tools.specs.View.{TextView}
pub use Rattle.tools.specs.declared.command.Cmd.{Cmd}
pub use Rattle.tools.specs.declared.lists.Desc.{Desc}
pub use Rattle.caller_core.specs.Kept.{IsCaller, HasRoom, KeptReply}
pub use Rattle.caller_core.specs.Reach.{addrs_of, commands_in, stands_at, writes_device, AreMarked, HasReach, HasReachedOn}
pub use Rattle.caller_core.specs.Roots.{names_root, command_names, HasRoots, HasBits}
pub use Rattle.caller_core.specs.Runs.{handles_behind, command_dialogue, command_run}
pub use Rattle.caller_core.specs.ScriptSteps.{IsStep, IsRefused}
pub use Rattle.caller_core.specs.Scripts.{Place, command_of, at_most, lines_read, behind_commands, behind_line_read, commands_or_none}
pub use Rattle.caller_core.specs.Scripts.{text_read, commands_of, asked_by, cost_of_script, command_text, quiet_text, section_text}
pub use Rattle.caller_core.specs.Scripts.{front_room, room_of}
pub use Rattle.caller_core.specs.Turns.{Progress, command_talk, quiet_front, turn_to, over_with, replied_to, replied, progress, next_of}
pub use Rattle.caller_core.specs.Turns.{asked_at, Answered, quiet, IsAt, sum_of, sum_left}
pub use Rattle.caller_core.specs.View.{CommandView, ScriptView, CallerView}
pub use Rattle.caller_core.specs.declared.reach.Reach.{Reach}
pub use Rattle.caller_core.specs.declared.run.CommandRun.{CommandRun}
pub use Rattle.caller_core.specs.declared.totals.Totals.{Totals}
