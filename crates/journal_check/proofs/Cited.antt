-- The names that several proofs of this crate cite, passed on from one place. Declares nothing.
pub use Rattle.std.proofs.Common.{◌≡◌, ◌⊎◌, ℕ, zero, suc, ◌+◌, Bool, true, false, List, [], ◌∷◌, ◌++◌, length, length-append, append_assoc}
pub use Rattle.std.proofs.Common.{append-nil, All, drop, take, map, reverse, Some, refl, sym, ◌∙◌, ap, subst, arith, inl, inr, ◌-◌, ◌<◌}
pub use Rattle.std.proofs.Common.{◌≤◌, Option, None, cond, get_or}
pub use Rattle.memchr.specs.Find.{IsFirstByte, is_byte}
pub use Rattle.std.proofs.lemmas.Bool.{or_parts, eqb-true}
pub use Rattle.std.proofs.lemmas.Grind.{flat_map-append}
pub use Rattle.std.proofs.lemmas.List.{reverse-append, take-append-le, take_all}
pub use Rattle.std.proofs.lemmas.List.Elements.{All-nil, All-cons, All-head, All-tail}
pub use Rattle.std.proofs.lemmas.List.Prefix.{front_rest}
pub use Rattle.std.proofs.lemmas.Slice.Eq.{bytes_eq-Decides}
pub use Rattle.std.specs.Fmt.{decimal}
pub use Rattle.std.specs.List.{flat_map, range_with_len, list_any}
pub use Rattle.std.specs.Prelude.{codes, slice_get, MatchBool, ◌==◌}
pub use Rattle.std.specs.Str.{bytes_eq}
pub use Rattle.i2c_base.specs.Board.{BoardView}
pub use Rattle.i2c_base.specs.Limits.{MOST_CALLERS}
pub use Rattle.i2c_base.specs.Transfer.{TransferView}
pub use Rattle.i2c_base.specs.declared.entry.Entry.{Entry}
pub use Rattle.i2c_base.specs.declared.port.PortCall.{PortCall}
pub use Rattle.i2c_base.specs.declared.reply.Reply.{Reply}
pub use Rattle.i2c_spec.specs.World.{World}
pub use Rattle.bus_spec.specs.Grammar.{seen, first_act}
pub use Rattle.bus_spec.specs.Legal.{IsLegal, IsComplete}
pub use Rattle.bus_spec.specs.Lines.{entry_line}
pub use Rattle.bus_spec.specs.Readings.{caller_of}
pub use Rattle.bus_spec.specs.Report.{ended_line}
pub use Rattle.bus_spec.specs.Stepwise.{IsStepwise}
pub use Rattle.bus_spec.specs.Walk.{WalkTree}
pub use Rattle.bus_laws.proofs.past.Known.{callers-known}
pub use Rattle.bus_laws.specs.Ready.{IsStuck}
pub use Rattle.i2c_physics.specs.SimPorts.{PortView}
pub use Rattle.bus_core.specs.Answers.{IsLeast, IsOverIn, IsStuckIn}
pub use Rattle.bus_core.specs.Opening.{Opening, HasRoot}
pub use Rattle.bus_core.specs.Places.{asks_of}
pub use Rattle.bus_core.specs.State.{CoreState, CoreTold, has_caller, roots_in, asks_in_state}
pub use Rattle.bus_journal.proofs.LineFeeds.{entry-line}
pub use Rattle.bus_journal.proofs.ReportLemmas.{entries-text}
pub use Rattle.bus_journal.proofs.Told.{entries_of-lines}
pub use Rattle.bus_journal.proofs.Whole.{entry-read}
pub use Rattle.bus_journal.specs.Guess.{entry_of}
pub use Rattle.bus_journal.specs.Ranges.{IsEntry}
pub use Rattle.bus_journal.specs.Reports.{IsLine, line_ended, IsSectionLine}
pub use Rattle.bus_journal.specs.Told.{entries_of}
pub use Rattle.bus_journal.specs.View.{JournalView}
pub use Rattle.check_laws.specs.Failed.{FailedBy, gaps_told}
pub use Rattle.check_laws.specs.Wrong.{IsFirstWrong, first_step}
pub use Rattle.journal_check.specs.Faults.{IsFirstLeft}
pub use Rattle.journal_check.specs.Forms.{Line, Stage, Sections, Entries, Over, FirstOffence, IsEntryLine, lines_of, last_line}
pub use Rattle.journal_check.specs.Gaps.{AreGapsOf, root_told, IsGapsOf}
pub use Rattle.journal_check.specs.Steps.{AreLines, asks_on, MadeAnother, Differs, IsSteady}
pub use Rattle.journal_check.specs.Texts.{FirstOther, GoesOn, GoesOtherwise}
pub use Rattle.journal_check.specs.declared.gaps.RootGaps.{RootGaps}
pub use Rattle.journal_check.specs.declared.steps.JournalPlace.{JournalPlace}
