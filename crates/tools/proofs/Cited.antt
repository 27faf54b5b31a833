-- The names that several proofs of this crate cite, passed on from one place. Declares nothing.
pub use Rattle.std.proofs.Common.{◌≡◌, ℕ, zero, suc, ◌+◌, ◌-◌, ◌<◌, ◌≤◌, true, false, List, [], ◌∷◌, ◌++◌, length, Result, Ok, Err, refl}
pub use Rattle.std.proofs.Common.{sym, ap, ◌∙◌, arith, Bool, cond, take, drop, get_or, Some, subst, length-drop, ◌%◌, Option, None, map}
pub use Rattle.std.proofs.Common.{codes, ◌*◌, ◌/◌, ◌&&◌, nat_le, ◌^◌, add-one, inl, inr, append_assoc, append-nil, rules}
pub use Rattle.std.proofs.Math.Seq.{take-length}
pub use Rattle.std.proofs.lemmas.Bool.{and_parts, or_parts}
pub use Rattle.std.proofs.lemmas.Bool.Decides.{nat_tests}
pub use Rattle.std.proofs.lemmas.Grind.{common_steps}
pub use Rattle.std.proofs.lemmas.List.{length-append, length-map}
pub use Rattle.std.proofs.lemmas.List.Elements.{All-nil, All-cons, All-append, All-head, All-tail}
pub use Rattle.std.proofs.lemmas.List.Sums.{sum_by-cons}
pub use Rattle.std.specs.List.{sum_by, range_with_len, flat_map, list_any}
pub use Rattle.std.specs.Option.{option_map}
pub use Rattle.std.specs.Prelude.{◌==◌, slice_get, All, IfSome, slice_index_or, option_and_then, not, ◌||◌, nat_lt}
pub use Rattle.std.specs.Str.{bytes_eq}
pub use Rattle.i2c_base.proofs.Booleans.{and_first}
pub use Rattle.i2c_base.specs.Addr.{IsTargetAddress}
pub use Rattle.i2c_base.specs.Board.{BoardView}
pub use Rattle.i2c_base.specs.Bytes.{AreBytes, IsByte}
pub use Rattle.i2c_base.specs.Fitting.{Fits}
pub use Rattle.i2c_base.specs.Limits.{LARGEST_BLOCK}
pub use Rattle.i2c_base.specs.Replies.{reply_by}
pub use Rattle.i2c_base.specs.Transfer.{IsMessage, size_of, written_of, TransferView}
pub use Rattle.i2c_base.specs.declared.errno.Errno.{Errno}
pub use Rattle.i2c_base.specs.declared.reply.Reply.{Reply}
pub use Rattle.i2c_spec.specs.SmbusCalls.{low_byte_first}
pub use Rattle.bus_spec.specs.Lines.{errno_text, two_digits}
pub use Rattle.smb_emul.specs.Calls.{messages_of_call, call_row, is_coded, write_messages, read_messages, bytes_sent, IsBlockLength}
pub use Rattle.smb_emul.specs.declared.call.SmbCall.{SmbCall}
pub use Rattle.smb_emul.specs.declared.call.SmbOp.{SmbOp}
pub use Rattle.bus_journal.proofs.LineFeeds.{line-append, two_digits-line}
pub use Rattle.bus_journal.specs.Reports.{IsLine, IsSectionLine, line_ended}
pub use Rattle.tools.specs.At24Lines.{page_written}
pub use Rattle.tools.specs.ByteLists.{some_bytes}
pub use Rattle.tools.specs.Calls.{call_to, call_text}
pub use Rattle.tools.specs.Chains.{chains}
pub use Rattle.tools.specs.Combined.{counted, datum_word, by_datum, head_of, bytes_asked, desc_of, message_at, first_place, some_descs}
pub use Rattle.tools.specs.Combined.{bytes_of, length_of, IsOpInRange, combined, IsDescInRange, IsCombinedInRange}
pub use Rattle.tools.specs.Commands.{IsInRange, MOST_WORDS}
pub use Rattle.tools.specs.Detects.{bus_lines, bus_line}
pub use Rattle.tools.specs.Dialogues.{Dialogue, AreReplies, next_place}
pub use Rattle.tools.specs.DumpTables.{dump_call, dump_cell, dump_sign, byte_line, dump_word, word_line}
pub use Rattle.tools.specs.Dumps.{IsDumpInRange}
pub use Rattle.tools.specs.Grammars.{Class, class, read_at, Grammar, maybe, word}
pub use Rattle.tools.specs.HandleLines.{handle_number}
pub use Rattle.tools.specs.LineSets.{Word, LineSet, nothing, node, IsWithin, Begins, goes_on, or_refused, follow_words}
pub use Rattle.tools.specs.Lines.{is_command}
pub use Rattle.tools.specs.Numbers.{number_in, base_of, digits_on, within}
pub use Rattle.tools.specs.Options.{byte}
pub use Rattle.tools.specs.Readers.{◌>>=◌, one_at, is_past, FaultIs, is_at, texts}
pub use Rattle.tools.specs.Scans.{is_no_bus, scan_cell, scan_line}
pub use Rattle.tools.specs.Sets.{block_room, HasValues, block_mode, is_short, block_piece}
pub use Rattle.tools.specs.Splits.{is_blank, words_of}
pub use Rattle.tools.specs.Tables.{parts, heading, in_row, trimmed}
pub use Rattle.tools.specs.Transfers.{desc_message, count_read_by, own_lines}
pub use Rattle.tools.specs.Values.{call_result_text, byte_words, byte_word, spaced_word, fail_text}
pub use Rattle.tools.specs.Words.{begins_with_word, onto_first, behind_gaps, gap_at, words_between}
pub use Rattle.tools.specs.declared.command.Cmd.{Cmd}
pub use Rattle.tools.specs.declared.command.Cmd.TheVariants.{Handle}
pub use Rattle.tools.specs.declared.command.detect.Detect.{Detect}
pub use Rattle.tools.specs.declared.command.detect.Probe.{Probe}
pub use Rattle.tools.specs.declared.command.dump.Dump.{Dump}
pub use Rattle.tools.specs.declared.command.set.SetMode.{SetMode}
pub use Rattle.tools.specs.declared.command.transfer.Combined.{Combined}
pub use Rattle.tools.specs.declared.command.transfer.Datum.{Datum}
pub use Rattle.tools.specs.declared.fault.LineFault.{LineFault}
pub use Rattle.tools.specs.declared.lists.Desc.{Desc}
pub use Rattle.tools.specs.declared.run.call.Callee.{Callee}
pub use Rattle.tools.specs.declared.run.chain.Chain.{Chain}
