-- The names that several proofs of this crate cite, passed on from one place. Declares nothing.
pub use Rattle.std.proofs.Common.{◌≡◌, ℕ, List, [], ◌∷◌, drop, refl, sym, subst, length, Option, Some, None, zero, suc, ◌==◌, Bool, true}
pub use Rattle.std.proofs.Common.{false, ◌∙◌, arith, inl, inr, ◌+◌, cond, not, ap, ◌<◌, ◌≤◌, ◌-◌, reverse}
pub use Rattle.std.specs.List.{list_any, All}
pub use Rattle.i2c_base.specs.Board.{BoardView}
pub use Rattle.i2c_base.specs.Transfer.{TransferView}
pub use Rattle.i2c_spec.proofs.MessageLemmas.{length-messages}
pub use Rattle.i2c_spec.specs.Messages.{messages_of}
pub use Rattle.i2c_spec.specs.Plain.{IsPlainBoard}
pub use Rattle.i2c_spec.specs.Tree.{Hop, locks_of, hops}
pub use Rattle.bus_spec.specs.Grammar.{first_act, first_note, locked, inner, over, part, messages, at_bus, keeps, behind, seen, rest_of}
pub use Rattle.bus_spec.specs.Grammar.{is_over}
pub use Rattle.bus_spec.specs.Slots.{Slots, mark_in}
pub use Rattle.bus_spec.specs.Walk.{ActOutcome, JobOutcome, Job, Note, WalkTree, Then, is_line, more_of}
pub use Rattle.mux_plan.specs.Marks.{updates_after}
pub use Rattle.mux_plan.specs.Plans.{RouteView, job_of, note_of, tree_of, hop_at, part_task, SeenView, mark_on, kept_of, select_tasks}
pub use Rattle.mux_plan.specs.Plans.{wait_tasks, is_deselect, slots_of, crossed_tasks, came_of, outcome_of, WalkView, looked_of}
pub use Rattle.mux_plan.specs.Rooms.{IsStep, IsReady, IsNarrow, IsPlanned}
pub use Rattle.mux_plan.specs.declared.task.Task.{Task}
pub use Rattle.mux_plan.specs.declared.task.Task.TheVariants.{Enter, Lock, Free, Rest, Line, Settle, AwaitClose, Pass, AwaitSelect}
pub use Rattle.mux_plan.specs.declared.task.Task.TheVariants.{AwaitWork, AwaitDeselect}
pub use Rattle.mux_plan.specs.declared.task.Work.{Work}
