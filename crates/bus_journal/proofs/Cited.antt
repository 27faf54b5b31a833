-- The names that several proofs of this crate cite, passed on from one place. Declares nothing.
pub use Rattle.std.proofs.Common.{◌≡◌, ℕ, List, ◌++◌, append_assoc, sym, ap, ◌∙◌, ◌+◌, ◌^◌, ◌<◌, ◌≤◌, ◌/◌, ◌%◌, [], ◌∷◌, length, arith}
pub use Rattle.std.proofs.Common.{get_or, refl, zero, suc, ◌==◌, Bool, true, false, take, drop, cond, ◌-◌, ◌*◌, subst}
pub use Rattle.memchr.specs.Find.{IsFirstByte, is_byte}
pub use Rattle.std.proofs.lemmas.Bool.{or_parts}
pub use Rattle.std.proofs.lemmas.Bool.Decides.{nat_tests}
pub use Rattle.std.proofs.lemmas.Fmt.{decimal_digit}
pub use Rattle.std.proofs.lemmas.Grind.{flat_map-append, common_steps}
pub use Rattle.std.proofs.lemmas.List.{length-append, append-nil, take_all, drop_at}
pub use Rattle.std.proofs.lemmas.List.Elements.{All-head, All-tail, All-nil}
pub use Rattle.std.specs.Fmt.{decimal}
pub use Rattle.std.specs.List.{list_any, flat_map, All}
pub use Rattle.std.specs.Prelude.{codes, Option, Some, None}
pub use Rattle.i2c_base.specs.declared.entry.End.{End}
pub use Rattle.i2c_base.specs.declared.entry.Entry.{Entry}
pub use Rattle.i2c_base.specs.declared.entry.Purpose.{Purpose}
pub use Rattle.i2c_base.specs.declared.errno.Errno.{Errno}
pub use Rattle.i2c_base.specs.declared.errno.Errno.TheVariants.{Eio, Enxio, Ebadf, Ebusy, Enodev, Einval, Eproto, Ebadmsg, Eopnotsupp}
pub use Rattle.i2c_base.specs.declared.errno.Errno.TheVariants.{Etimedout, Eremoteio}
pub use Rattle.i2c_base.specs.declared.ids.LockId.{LockId}
pub use Rattle.i2c_base.specs.declared.ids.Node.{Node}
pub use Rattle.i2c_base.specs.declared.reply.Cut.{Cut}
pub use Rattle.i2c_base.specs.declared.reply.Reply.{Reply}
pub use Rattle.bus_spec.specs.Lines.{hex_digit, two_digits, spaced_digits, spaced, joined, lock_text, purpose_text, direction_text}
pub use Rattle.bus_spec.specs.Lines.{heard_text, end_text, errno_text, reply_text, cut_text, level_end, place_text, part_text, data_text}
pub use Rattle.bus_spec.specs.Lines.{result_text, entry_line}
pub use Rattle.bus_spec.specs.Report.{ended_line}
pub use Rattle.bus_journal.specs.Borrowed.{entry_by}
pub use Rattle.bus_journal.specs.Guess.{byte_at, is_hex, bytes_of, number_from, behind_number, is_digit, hex_value, entry_of}
pub use Rattle.bus_journal.specs.Ranges.{IsLock, IsReply, IsCut, IsEntry}
pub use Rattle.bus_journal.specs.Reports.{IsLine}
pub use Rattle.bus_journal.specs.Tallies.{plus, Fits}
pub use Rattle.bus_journal.specs.Told.{entries_of, IsTextOf}
pub use Rattle.bus_journal.specs.View.{JournalView}
pub use Rattle.bus_journal.specs.declared.borrowed.Head.{Head}
pub use Rattle.bus_journal.specs.declared.tally.Tally.{Tally}
