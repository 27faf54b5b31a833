-- The names that several proofs of this crate cite, passed on from one place. Declares nothing.
pub use Rattle.std.proofs.Common.{ℕ, ◌<◌, List, length, ◌≡◌, suc, ◌≤◌, Bool, true, false, ◌&&◌, [], ◌∷◌, map, reverse, Some, None, refl}
pub use Rattle.std.proofs.Common.{sym, ◌∙◌, ap, subst, arith, Option}
pub use Rattle.std.proofs.lemmas.List.{reverse-reverse}
pub use Rattle.std.proofs.lemmas.List.Elements.{All-nil, All-cons}
pub use Rattle.std.proofs.lemmas.List.FromFn.{length-map-range_with_len}
pub use Rattle.std.proofs.lemmas.Option.{slice_get-get_or}
pub use Rattle.std.specs.List.{range_with_len}
pub use Rattle.std.specs.Prelude.{All, slice_get}
pub use Rattle.i2c_base.specs.Board.{BoardView}
pub use Rattle.i2c_base.specs.declared.entry.Entry.{Entry}
pub use Rattle.i2c_base.specs.declared.port.PortCall.{PortCall}
pub use Rattle.i2c_base.specs.declared.reply.Reply.{Reply}
pub use Rattle.i2c_spec.specs.History.{Asks, History, history}
pub use Rattle.i2c_spec.specs.Plain.{IsPlainBoard}
pub use Rattle.i2c_spec.specs.Targets.{TargetState}
pub use Rattle.i2c_spec.specs.Tree.{root_of, home_of_mux}
pub use Rattle.i2c_spec.specs.TreeFacts.{IsTree}
pub use Rattle.bus_spec.specs.Faults.{faults_in}
pub use Rattle.bus_spec.specs.Legal.{IsLegal}
pub use Rattle.bus_spec.specs.Past.{now, calls_of}
pub use Rattle.bus_spec.specs.Readings.{order, replies}
pub use Rattle.bus_spec.specs.Report.{text_of}
pub use Rattle.bus_spec.specs.Schedule.{Follows}
pub use Rattle.bus_spec.specs.Stepwise.{IsStepwise}
pub use Rattle.bus_laws.proofs.world.LineFacts.{lines-locked}
pub use Rattle.bus_laws.specs.Lines.{LinesAreLocked}
pub use Rattle.bus_laws.specs.Reach.{AsksForMessages, AsksWithinLimits}
pub use Rattle.journal_laws.specs.Counts.{failures, remotes}
pub use Rattle.caller_core.specs.Scripts.{commands_of}
pub use Rattle.caller_core.specs.View.{script_on}
pub use Rattle.i2c_gen.specs.Boards.{made_board}
pub use Rattle.i2c_gen.specs.Scripts.{schedule_of, scripts_of}
pub use Rattle.i2c_top.specs.Callers.{IsRunBy}
pub use Rattle.i2c_top.specs.Faults.{FaultAt}
pub use Rattle.i2c_top.specs.Runs.{asks_by, HasRunTold, HasRun, printed_by, report_by}
pub use Rattle.i2c_top.specs.Scripts.{texts_in}
pub use Rattle.run_laws.specs.Alike.{FaultsAlike, steps_of}
