-- The names that several proofs of this crate cite, passed on from one place. Declares nothing.
pub use Rattle.std.proofs.Common.{◌≡◌, ℕ, Bool, true, false, if◌then◌else◌, List, Some, refl, ◌⊎◌, inl, inr, length, Result, Ok, Err, sym}
pub use Rattle.std.proofs.Common.{◌∙◌, ap, subst, ◌+◌, ◌<◌, ◌≤◌, IsTrue, arith, [], ◌∷◌, map, Option, None, sum_by, IsSome, zero, suc, ◌++◌}
pub use Rattle.std.proofs.Common.{reverse, All, zero-add, ◌==◌, ◌^◌, append_assoc, append-nil, cond, drop, get_or, take, ◌&&◌, flat_map}
pub use Rattle.std.proofs.Common.{codes, ◌-◌, rules}
pub use Rattle.std.proofs.Crossing.{crosses}
pub use Rattle.std.proofs.lemmas.Bool.{cases_lt, and_parts}
pub use Rattle.std.proofs.lemmas.Grind.{common_steps}
pub use Rattle.std.proofs.lemmas.List.{take_all, length-map, drop_more, length-append, take_more, length-take, length-drop}
pub use Rattle.std.proofs.lemmas.List.Elements.{All-head, All-map, All-tail, All-push}
pub use Rattle.std.proofs.lemmas.List.FromFn.{length-enumerate_from, get_or-range_with_len, length-range_with_len}
pub use Rattle.std.proofs.lemmas.List.FromFn.{length-map-range_with_len, get_or-map-range_with_len}
pub use Rattle.std.proofs.lemmas.List.Sums.{sum_by-cons}
pub use Rattle.std.proofs.lemmas.Option.{slice_get-get_or, slice_get-map, slice_get_past, get_or_from_slice_get}
pub use Rattle.std.proofs.lemmas.Result.{IfOk-weaker}
pub use Rattle.std.specs.List.{AllZip, enumerate_from, range_with_len, list_all}
pub use Rattle.std.specs.Option.{option_map, option_map_or}
pub use Rattle.std.specs.Prelude.{IfOk, OnOk, IfErr, slice_get, unwrap_or, is_some, vec_len, vec_capacity, string_bytes}
pub use Rattle.std.specs.Vec.Iter.{into_iter_items, into_iter_len}
pub use denote.Param.Send.{sendable}
pub use Rattle.i2c_base.proofs.ListLemmas.{all_at, map_map, map_from}
pub use Rattle.i2c_base.specs.Board.{BoardView}
pub use Rattle.i2c_base.specs.Limits.{MOST_CALLERS, MOST_CALLS}
pub use Rattle.i2c_base.specs.Transfer.{IsTransfer, TransferView}
pub use Rattle.i2c_base.specs.declared.entry.Entry.{Entry}
pub use Rattle.i2c_base.specs.declared.port.Phase.TheVariants.{Idle}
pub use Rattle.i2c_base.specs.declared.port.PortCall.{PortCall}
pub use Rattle.i2c_base.specs.declared.reply.Reply.{Reply}
pub use Rattle.i2c_spec.proofs.AddressLemmas.{tree_of}
pub use Rattle.i2c_spec.specs.Fair.{IsFairCaller}
pub use Rattle.i2c_spec.specs.History.{Asks}
pub use Rattle.i2c_spec.specs.Plain.{IsPlainBoard}
pub use Rattle.i2c_spec.specs.Rules.{MeetsRules, TellsBroken}
pub use Rattle.i2c_spec.specs.Targets.{TargetState}
pub use Rattle.i2c_spec.specs.Tree.{root_of}
pub use Rattle.i2c_spec.specs.World.{World, opening_world, AreWorldsOf, devices_of}
pub use Rattle.bus_spec.specs.Faults.{faults_in}
pub use Rattle.bus_spec.specs.Legal.{KeepsReplies, IsComplete, IsLegal}
pub use Rattle.bus_spec.specs.Past.{now, world_at, calls_of}
pub use Rattle.bus_spec.specs.Report.{report_of, ended_line, report_lines, sections, text_of}
pub use Rattle.bus_spec.specs.Schedule.{Follows}
pub use Rattle.bus_spec.specs.Stepwise.{IsStepwise}
pub use Rattle.bus_spec.specs.Walk.{Ends}
pub use Rattle.bus_laws.specs.Reach.{AsksForMessages, AsksWithinLimits}
pub use Rattle.i2c_board.proofs.BrokenLemmas.{broken_breaks, one_broken}
pub use Rattle.ports.specs.Causes.{Rose, counted}
pub use Rattle.bus_core.specs.Kept.{roots_of}
pub use Rattle.bus_core.specs.Opening.{Opening}
pub use Rattle.bus_core.specs.Opens.{MayOpen, callers_scripts}
pub use Rattle.bus_core.specs.Places.{script_at, scripts_of, asks_of}
pub use Rattle.bus_core.specs.State.{AllThrough, CoreState, has_caller, logs_of, roots_in, taken_of, worlds_of}
pub use Rattle.bus_core.specs.declared.bus.ClosedCore.{ClosedCore}
pub use Rattle.bus_core.specs.declared.seat.Seat.{Seat}
pub use Rattle.bus_groups.proofs.ShareLemmas.{zip-length, zip-more}
pub use Rattle.bus_groups.specs.Rounds.{one_of, HaveRun}
pub use Rattle.bus_groups.specs.declared.together.Ran.{Ran}
pub use Rattle.bus_journal.specs.Ranges.{IsEntry}
pub use Rattle.bus_journal.specs.Told.{entries_of}
pub use Rattle.bus_journal.specs.View.{JournalView}
pub use Rattle.journal_check.specs.Faults.{CanBeChecked, Checked, IsFaultIn, IsVerified}
pub use Rattle.journal_check.specs.Gaps.{gaps_by}
pub use Rattle.journal_check.specs.Texts.{FirstOther, IsWhole}
pub use Rattle.journal_check.specs.declared.fault.CheckFault.{CheckFault}
pub use Rattle.caller_core.proofs.FairLemmas.{left_at_first, scripts_fair}
pub use Rattle.caller_core.specs.Callers.{IsOpened, ScriptsAreFair, board_of}
pub use Rattle.caller_core.specs.Reach.{IsReachOf}
pub use Rattle.caller_core.specs.Roots.{HasRoots}
pub use Rattle.caller_core.specs.Scripts.{commands_of, cost_of_script, section_text, left_of, asked_by, script_read}
pub use Rattle.caller_core.specs.Sections.{SectionsHaveNoJournalLine}
pub use Rattle.caller_core.specs.View.{CallerView, script_on, ScriptView}
pub use Rattle.caller_core.specs.declared.reach.Reach.{Reach}
pub use Rattle.addr_atr.specs.Callers.{AtrCallerView}
pub use Rattle.addr_atr.specs.Lowering.{lowered}
pub use Rattle.addr_atr.specs.MapTexts.{IsMapOf}
pub use Rattle.addr_atr.specs.Maps.{MapView}
pub use Rattle.addr_atr.specs.declared.fault.MapFault.{MapFault}
pub use Rattle.reg_cache.specs.Cacheable.{AreReaches, cacheable_devices}
pub use Rattle.reg_cache.specs.Cached.{CachedScript, CachedView, cached_asked}
pub use Rattle.i2c_top.specs.Boards.{HasAccepted, IsAccepted, IsRejected, HasRejected, IsSpelled}
pub use Rattle.i2c_top.specs.Callers.{asks_in, printed_in, scripts_in, AreReady, left_in, HasRunOfAny, IsRunBy, HasRunBy, callers_in}
pub use Rattle.i2c_top.specs.Callers.{IsOver}
pub use Rattle.i2c_top.specs.Checked.{checked_on}
pub use Rattle.i2c_top.specs.Cores.{IsCoreOf, IsLeftOf, HaveJournal, AreFresh, MayRun}
pub use Rattle.i2c_top.specs.Endings.{CameToRefusal, CameToSuccess, HasEndedAs, name_in, IsRefusalWritten}
pub use Rattle.i2c_top.specs.Faults.{AccountsForFaults, AreCounted}
pub use Rattle.i2c_top.specs.Files.{Files, IsAnyName}
pub use Rattle.i2c_top.specs.Form.{DecidesOnce, TellsItsFiles, KeepsShelf, Form, own_of, KeepsSkipped}
pub use Rattle.i2c_top.specs.MapFiles.{HasAtrRun}
pub use Rattle.i2c_top.specs.Numbers.{is_numeral}
pub use Rattle.i2c_top.specs.Readings.{AreScriptsIn, IsAcceptedIn, IsRejectedIn, IsRefusedAt, IsRefusedScript, IsScheduleIn}
pub use Rattle.i2c_top.specs.Readings.{IsBadBoard, IsTooDear, HasRead, HasReadSome, IsOrderIn, IsBadScript, IsFileRefusal}
pub use Rattle.i2c_top.specs.Readings.{HasReadSomeJournal}
pub use Rattle.i2c_top.specs.Runs.{MOST_COST, cost_of_texts, texts_of, AreOpened, asks_by, printed_by, script_row, section_of, HasRunTold}
pub use Rattle.i2c_top.specs.Runs.{IsOfGroups, HasRun}
pub use Rattle.i2c_top.specs.Schedules.{schedule_read, behind_callers, callers_from}
pub use Rattle.i2c_top.specs.Scripts.{HasBadSchedule, HasScripts, script_name, HasBadScript, texts_in, IsInGrammar, HasScript}
pub use Rattle.i2c_top.specs.Status.{Class, Done, Misused, Refused, Unread, NoRig, Silent, class_of}
pub use Rattle.i2c_top.specs.Traces.{ShelfView, RigView, Outside, KeepsBut, IsAtMostOnce, IsUntouched, IsRunOver, shelf_view, outside}
pub use Rattle.i2c_top.specs.Written.{HasFront, lines_of}
pub use Rattle.i2c_top.specs.declared.status.BoardRefusal.{BoardRefusal}
pub use Rattle.i2c_top.specs.declared.status.Status.{Status}
pub use Rattle.i2c_top.specs.forms.{HasEnded}
pub use Rattle.i2c_top.specs.forms.Atrs.{behind_of}
pub use Rattle.i2c_top.specs.forms.Caches.{cached_form, HasCachedRun, IsCachedAnswer, cached_scripts}
pub use Rattle.i2c_top.specs.forms.Checks.{accepted_text, check_form}
pub use Rattle.i2c_top.specs.forms.Clears.{clear_form}
pub use Rattle.i2c_top.specs.forms.Generations.{summary_of, gen_form}
pub use Rattle.i2c_top.specs.forms.Replays.{HasScriptsBefore, Names, names_of, HasTexts, cost_in, IsPlaceIn, IsSkipped, HasFiles}
pub use Rattle.i2c_top.specs.forms.Replays.{replay_form, IsReplayAnswer, names_told}
pub use Rattle.i2c_top.specs.forms.Verifies.{VerifyNames, as_replayed, verify_form, verify_told}
