-- What the line of a handle is as it runs, which is known where a script is opened, and the handles after it (Linux i2c-dev).
use Rattle.std.specs.Prelude.{⊤, ℕ, Bool, List, [], ◌∷◌, ◌++◌, None, Result, Ok, Err, codes}
use Rattle.std.specs.Fmt.{decimal}
use Rattle.bus_spec.specs.Lines.{errno_text}
use Rattle.i2c_base.specs.Board.{BoardView}
use Rattle.dev_handle.specs.Handles.{HandlesView, answer_by_handle, changed, open_answer, opened, bus_and_force, slave_answer, slaved, target_of, with_pec}
use Rattle.dev_handle.specs.declared.fault.HandleFault.{HandleFault}
use Rattle.dev_handle.specs.declared.fault.HandleFault.TheVariants as fault
use Rattle.dev_handle.specs.declared.handle.Slave.{Slave}
use Rattle.tools.specs.declared.command.handle.HandleCmd.{HandleCmd}
use Rattle.tools.specs.declared.command.handle.HandleCmd.TheVariants as handle
use Rattle.tools.specs.declared.lists.Desc.{Desc}
use Rattle.tools.specs.declared.lists.DescOp.{DescOp}
use Rattle.tools.specs.declared.lists.DescOp.TheVariants as op
use Rattle.tools.specs.declared.run.ToolRun.{ToolRun}
use Rattle.tools.specs.declared.run.ToolRun.TheVariants as run
use Rattle.tools.specs.declared.run.call.Callee.{Callee}
use Rattle.tools.specs.declared.run.call.HeldOp.{HeldOp}
use Rattle.tools.specs.declared.run.call.HeldOp.TheVariants as held

-- ---- answers, which are known at once

-- why there is none; the handles of a script never want memory where it is read
abbrev pub fault_text : HandleFault → List ℕ
fault_text (fault.Errno e) = errno_text e
fault_text fault.Memory = []

abbrev pub done_text : Result ⊤ HandleFault → List ℕ
done_text (Ok x) = codes "ok"
done_text (Err f) = fault_text f

abbrev pub number_text : Result ℕ HandleFault → List ℕ
number_text (Ok n) = codes "handle " ++ decimal n
number_text (Err f) = fault_text f

abbrev pub says_line : List ℕ → ToolRun
says_line line = run.Says (line ∷ [])

-- ---- transfers

-- what is asked for by an answer, or why nothing is
abbrev pub run_by_answer : {X : Type 0} → (X → ToolRun) → Result X HandleFault → ToolRun
run_by_answer f (Ok x) = f x
run_by_answer f (Err e) = says_line (fault_text e)

-- messages on the bus of a handle
abbrev pub messages_at : List Desc → ℕ × Bool → ToolRun
messages_at ms place = run.Transfers (record { force = place.1; bus = place.0; messages = ms })

-- one message to whom a handle reaches, and an SMBus call to him
abbrev pub message_by_handle : DescOp → Slave → ToolRun
message_by_handle o s = messages_at (record { addr = s.addr; op = o } ∷ []) (s.bus, s.force)

abbrev pub callee_of : Slave → Callee
callee_of s = record { bus = s.bus; addr = s.addr; force = s.force; pec = s.pec }

abbrev pub call_by_handle : HeldOp → Slave → ToolRun
call_by_handle o s = run.Calls (record { to = callee_of s; op = o })

-- ---- a line, with the handles before it

-- how it runs
abbrev pub handle_run : BoardView → HandlesView → HandleCmd → ToolRun
handle_run b v (handle.Open bus) = says_line (number_text (open_answer b v bus))
handle_run b v (handle.Slave h addr force) = says_line (done_text (answer_by_handle v h (slave_answer b addr force)))
handle_run b v (handle.Pec h on) = says_line (done_text (answer_by_handle v h (λ x. Ok tt)))
handle_run b v (handle.Read h n) = run_by_answer (message_by_handle (op.Read n)) (answer_by_handle v h target_of)
handle_run b v (handle.Write h bytes) = run_by_answer (message_by_handle (op.Write bytes)) (answer_by_handle v h target_of)
handle_run b v (handle.Rdwr h ms) = run_by_answer (messages_at ms) (answer_by_handle v h bus_and_force)
handle_run b v (handle.Proc h reg word) = run_by_answer (call_by_handle (held.ProcCall reg word)) (answer_by_handle v h target_of)
handle_run b v (handle.Bproc h reg bytes) = run_by_answer (call_by_handle (held.BlockProc reg bytes)) (answer_by_handle v h target_of)
handle_run b v (handle.Close h) = says_line (done_text (answer_by_handle v h (λ x. Ok tt)))

-- the handles after it
abbrev pub handles_after : BoardView → HandlesView → HandleCmd → HandlesView
handles_after b v (handle.Open bus) = opened b v bus
handles_after b v (handle.Slave h addr force) = changed v h (slaved b addr force)
handles_after b v (handle.Pec h on) = changed v h (with_pec on)
handles_after b v (handle.Read h n) = v
handles_after b v (handle.Write h bytes) = v
handles_after b v (handle.Rdwr h ms) = v
handles_after b v (handle.Proc h reg word) = v
handles_after b v (handle.Bproc h reg bytes) = v
handles_after b v (handle.Close h) = changed v h (λ x. None)
