-- Worked examples of the walk rule: lists of steps that keep it, and lists that break it in one place.
use Rattle.std.specs.Prelude.{ℕ, Bool, false, true, List, [], ◌∷◌, ◌++◌, Option, Some, None}
use Rattle.i2c_base.specs.declared.board.MuxKind.TheVariants.{Pca9548, Pca9546, Pca9541, Gpio}
use Rattle.i2c_base.specs.declared.ids.LockId.{LockId}
use Rattle.i2c_base.specs.declared.ids.LockId.TheVariants as lock
use Rattle.i2c_base.specs.declared.errno.Errno.{Errno}
use Rattle.i2c_base.specs.declared.errno.Errno.TheVariants.{Enxio, Enodev, Etimedout, Eremoteio}
use Rattle.i2c_base.specs.declared.entry.End.{End}
use Rattle.i2c_base.specs.declared.entry.End.TheVariants as end
use Rattle.i2c_base.specs.Transfer.{TransferView}
use Rattle.i2c_spec.specs.Tree.{Hop}
use Rattle.i2c_spec.specs.Messages.{messages_of}
use Rattle.bus_spec.specs.Walk.{Mark, Job, Call, Select, SwitchOff, Deselect, Close, Take, Free, Send, Shift, Settle, Passed, Sent, Lined, MarkOf, KeptOf}
use Rattle.bus_spec.specs.WalkRule.{PathStep, Saw, Did, without_marks, for_jobs}
use Rattle.bus_spec.specs.Rows as row

-- steps, shortly
abbrev pub did_take : LockId → PathStep
did_take l = Did (without_marks (Take l)) Passed

abbrev pub did_free : LockId → PathStep
did_free l = Did (without_marks (Free l)) Passed

abbrev pub did_send : Job → ℕ → End → List ℕ → PathStep
did_send job left e bytes = Did (for_jobs (Send job left) (job ∷ [])) (Sent e bytes)

abbrev pub did_settle : Option Errno → PathStep
did_settle verdict = Did (without_marks (Settle verdict)) Passed

abbrev pub sees : Option ℕ → PathStep
sees mark = Saw (MarkOf 0) mark

-- no channel is kept
abbrev pub shut : PathStep
shut = Saw (KeptOf 0 0) None

-- a register behind the first channel of the board's mux, parent-locked and mux-locked
abbrev pub deep : TransferView
deep = row.read 1 0x30 0

abbrev pub hop : Hop
hop = record { bus = 1; mux = 0; channel = 0; on = 0; parent = true; stays = false; kind = Pca9548 }

abbrev pub loose_hop : Hop
loose_hop = record { bus = 1; mux = 0; channel = 0; on = 0; parent = false; stays = false; kind = Pca9548 }

abbrev pub call : Job
call = Call 1 (messages_of deep)

abbrev pub deselect : Job
deselect = SwitchOff (Deselect hop)

abbrev pub close : Job
close = SwitchOff (Close 0 0 Pca9548)

abbrev pub both_taken : List PathStep
both_taken = did_take (lock.Mux 0) ∷ did_take (lock.Bus 0) ∷ []

abbrev pub both_freed : List PathStep
both_freed = did_free (lock.Bus 0) ∷ did_free (lock.Mux 0) ∷ []

abbrev pub both_read : List PathStep
both_read = did_send call 1 end.Ok (0 ∷ []) ∷ did_send call 0 end.Ok (0x11 ∷ []) ∷ did_settle None ∷ []

abbrev pub selected_once : PathStep
selected_once = did_send (Select hop) 0 end.Ok (1 ∷ [])

abbrev pub deselected_once : PathStep
deselected_once = did_send deselect 0 end.Ok (0 ∷ [])

-- THESE KEEP IT. The four parts but the close, between the locks
abbrev pub whole_walk : List PathStep
whole_walk = both_taken ++ sees None ∷ shut ∷ selected_once ∷ both_read ++ deselected_once ∷ both_freed

-- on the bus of a mux-locked mux each part takes the root's lock anew
abbrev pub parts_walk : List PathStep
parts_walk =
    did_take (lock.Mux 0) ∷ sees None ∷ shut ∷ did_take (lock.Bus 0) ∷ did_send (Select loose_hop) 0 end.Ok (1 ∷ []) ∷ did_free (lock.Bus 0)
    ∷ did_take (lock.Bus 0) ∷ both_read ++ did_free (lock.Bus 0)
    ∷ did_take (lock.Bus 0) ∷ did_send (SwitchOff (Deselect loose_hop)) 0 end.Ok (0 ∷ []) ∷ did_free (lock.Bus 0)
    ∷ did_free (lock.Mux 0) ∷ []

-- the marked mux is closed first, also where nobody acknowledges it
abbrev pub closed_walk : List PathStep
closed_walk = both_taken ++ sees (Some 0) ∷ did_send close 0 end.Nack [] ∷ shut ∷ selected_once ∷ both_read ++ deselected_once ∷ both_freed

-- a close that failed by the port leaves out all that would follow it
abbrev pub unclosed_walk : List PathStep
unclosed_walk = both_taken ++ sees (Some 0) ∷ did_send close 0 (end.Cut 0) [] ∷ did_settle (Some Eremoteio) ∷ both_freed

-- a select that is refused leaves out the job and the deselect
abbrev pub unselected_walk : List PathStep
unselected_walk = both_taken ++ sees None ∷ shut ∷ did_send (Select hop) 0 end.Nack [] ∷ did_settle (Some Enxio) ∷ both_freed

-- a deselect follows a job that failed, and fails nothing by itself
abbrev pub deselected_walk : List PathStep
deselected_walk = both_taken ++ sees None ∷ shut ∷ selected_once ∷ did_send call 1 end.Nack [] ∷ did_settle
    (Some Enxio) ∷ did_send deselect 0 (end.Cut 2) (0 ∷ []) ∷ both_freed

-- a transfer to a bus that isn't there is one settle
abbrev pub nowhere : TransferView
nowhere = row.read 40 0x30 0

abbrev pub refused_walk : List PathStep
refused_walk = did_settle (Some Enodev) ∷ []

-- THESE BREAK IT. The root's lock is taken first; it is freed between the messages; it is freed last
abbrev pub root_first : List PathStep
root_first = did_take (lock.Bus 0) ∷ did_take (lock.Mux 0) ∷ sees None ∷ shut ∷ selected_once ∷ both_read ++ deselected_once ∷ both_freed

abbrev pub unlocked_between : List PathStep
unlocked_between =
    both_taken ++ sees None ∷ shut ∷ selected_once ∷ did_send call 1 end.Ok (0 ∷ []) ∷ did_free (lock.Bus 0) ∷ did_take (lock.Bus 0)
    ∷ did_send call 0 end.Ok (0x11 ∷ []) ∷ did_settle None ∷ deselected_once ∷ both_freed

abbrev pub freed_in_order : List PathStep
freed_in_order = both_taken ++ sees None ∷ shut ∷ selected_once ∷ both_read ++ deselected_once ∷ did_free (lock.Mux 0) ∷ did_free
    (lock.Bus 0) ∷ []

-- the close is left out; the select follows a close that failed
abbrev pub close_left_out : List PathStep
close_left_out = both_taken ++ sees (Some 0) ∷ selected_once ∷ both_read ++ deselected_once ∷ both_freed

abbrev pub over_a_failed_close : List PathStep
over_a_failed_close = both_taken ++ sees (Some 0) ∷ did_send close 0 (end.Cut 0) [] ∷ did_settle
    (Some Eremoteio) ∷ selected_once ∷ deselected_once ∷ both_freed

-- a deselect follows a select that was refused; it is left out behind a job
abbrev pub deselect_of_none : List PathStep
deselect_of_none =
    both_taken ++ sees None ∷ shut ∷ did_send (Select hop) 0 end.Nack [] ∷ did_settle (Some Enxio) ∷ deselected_once ∷ both_freed

abbrev pub deselect_left_out : List PathStep
deselect_left_out = both_taken ++ sees None ∷ shut ∷ selected_once ∷ both_read ++ both_freed

-- the second message follows one that nobody acknowledged; the settle comes a step late
abbrev pub over_a_nack : List PathStep
over_a_nack = both_taken ++ sees None ∷ shut ∷ selected_once ∷ did_send call 1 end.Nack [] ∷ did_send call 0 end.Ok
    (0x11 ∷ []) ∷ did_settle None ∷ deselected_once ∷ both_freed

abbrev pub settle_moved : List PathStep
settle_moved = both_taken ++ sees None ∷ shut ∷ selected_once ∷ did_send call 1 end.Ok (0 ∷ []) ∷ did_send call 0 end.Ok
    (0x11 ∷ []) ∷ deselected_once ∷ did_settle None ∷ both_freed

-- ANOTHER WAY TO SWITCH. An arbitrator is asked until it is found free, and then switched; after eight polls it is given up
abbrev pub polled_hop : Hop
polled_hop = record { bus = 1; mux = 0; channel = 0; on = 0; parent = true; stays = false; kind = Pca9541 }

abbrev pub behind_arbitrator : TransferView
behind_arbitrator = row.read 1 0x20 5

abbrev pub finds : ℕ → ℕ → PathStep
finds left byte = did_send (Select polled_hop) left end.Ok (byte ∷ [])

abbrev pub polled_walk : List PathStep
polled_walk =
    both_taken ++ sees None ∷ shut ∷ finds 8 1 ∷ finds 7 0 ∷ finds 0 1
    ∷ did_send (Call 1 (messages_of behind_arbitrator)) 1 end.Ok (5 ∷ []) ∷ did_send (Call 1 (messages_of behind_arbitrator)) 0 end.Ok
    (0x7e ∷ []) ∷ did_settle None
    ∷ did_send (SwitchOff (Deselect polled_hop)) 0 end.Ok (0 ∷ []) ∷ both_freed

abbrev pub given_up_walk : List PathStep
given_up_walk =
    both_taken ++ sees None ∷ shut ∷ finds 8 1 ∷ finds 7 1 ∷ finds 6 1 ∷ finds 5 1 ∷ finds 4 1 ∷ finds 3 1 ∷ finds 2 1 ∷ finds 1 1
    ∷ did_settle (Some Etimedout) ∷ both_freed

-- it is switched though the poll found it taken
abbrev pub switched_while_taken : List PathStep
switched_while_taken = both_taken ++ sees None ∷ shut ∷ finds 8 1 ∷ finds 0 1 ∷ did_settle None ∷ both_freed

-- a gpio mux is switched by its line; the messages follow a line step that failed
abbrev pub line_hop : Hop
line_hop = record { bus = 2; mux = 0; channel = 1; on = 0; parent = true; stays = false; kind = Gpio }

abbrev pub behind_gpio : TransferView
behind_gpio = row.read 2 0x20 5

abbrev pub shifted : Job → Bool → PathStep
shifted job failed = Did (for_jobs (Shift job) (job ∷ [])) (Lined failed)

abbrev pub line_reads : List PathStep
line_reads =
    did_send (Call 2 (messages_of behind_gpio)) 1 end.Ok (5 ∷ []) ∷ did_send (Call 2 (messages_of behind_gpio)) 0 end.Ok
    (0x7e ∷ []) ∷ did_settle None ∷ []

abbrev pub line_deselected : PathStep
line_deselected = shifted (SwitchOff (Deselect line_hop)) false

abbrev pub line_walk : List PathStep
line_walk = both_taken ++ sees None ∷ shut ∷ shifted (Select line_hop) false ∷ line_reads ++ line_deselected ∷ both_freed

abbrev pub over_a_failed_line : List PathStep
over_a_failed_line = both_taken ++ sees None ∷ shut ∷ shifted (Select line_hop) true ∷ line_reads ++ line_deselected ∷ both_freed

-- MARKS. A bus behind two muxes: mux 1 stands on bus 1, which is a channel of mux 0
abbrev pub near : Hop
near = record { bus = 1; mux = 0; channel = 0; on = 0; parent = true; stays = false; kind = Pca9548 }

abbrev pub far : Hop
far = record { bus = 9; mux = 1; channel = 0; on = 1; parent = true; stays = false; kind = Pca9546 }

abbrev pub behind_both : TransferView
behind_both = row.read 9 0x50 0

abbrev pub far_call : Job
far_call = Call 9 (messages_of behind_both)

abbrev pub near_mark : Mark
near_mark = record { on = 0; mux = 0 }

abbrev pub far_mark : Mark
far_mark = record { on = 1; mux = 1 }

-- a step that failed by the port, and marked these
abbrev pub failed_marking : Job → List Mark → PathStep
failed_marking job marks = Did (record { act = Send job 0; marks = marks }) (Sent (end.Cut 0) [])

-- one that went through, for another job
abbrev pub did_for : Job → Job → Job → PathStep
did_for job other last = Did (for_jobs (Send job 0) (job ∷ other ∷ last ∷ [])) (Sent end.Ok [])

abbrev pub all_taken : List PathStep
all_taken = did_take (lock.Mux 1) ∷ did_take (lock.Mux 0) ∷ did_take (lock.Bus 0) ∷ Saw (MarkOf 1) None ∷ Saw (KeptOf 1 1) None ∷ []

abbrev pub all_freed : List PathStep
all_freed = did_free (lock.Bus 0) ∷ did_free (lock.Mux 0) ∷ did_free (lock.Mux 1) ∷ []

-- the select of the near mux fails, on the way of the far one's: it marks both
abbrev pub marks_both : List PathStep
marks_both = all_taken ++ sees None ∷ shut ∷ failed_marking (Select near) (near_mark ∷ far_mark ∷ []) ∷ did_settle
    (Some Eremoteio) ∷ all_freed

-- the far mux is selected
abbrev pub far_selected : List PathStep
far_selected =
    sees None ∷ shut ∷ did_for (Select near) (Select far) far_call ∷ Did (for_jobs (Send (Select far) 0) (Select far ∷ far_call ∷ []))
    (Sent end.Ok []) ∷ did_for (SwitchOff (Deselect near)) (Select far) far_call ∷ []

-- .. and its deselect is what the select of the near mux fails for: it marks both, and is no cut
abbrev pub marks_to_the_deselect : List PathStep
marks_to_the_deselect =
    all_taken ++ far_selected ++ sees None ∷ shut ∷ Did (for_jobs (Send (Select near) 0) (Select near ∷ far_call ∷ [])) (Sent end.Ok [])
    ∷ did_send far_call 1 end.Nack [] ∷ did_settle (Some Enxio) ∷ Did (for_jobs (Send (SwitchOff (Deselect near)) 0)
    (SwitchOff (Deselect near) ∷ far_call ∷ [])) (Sent end.Ok [])
    ∷ sees None ∷ shut ∷ failed_marking (Select near) (near_mark ∷ far_mark ∷ []) ∷ all_freed

-- the deselect of the near mux fails, after the select of the far one: it marks the near one alone. The close that comes next
-- fails, and then again, for the deselect of the far one
abbrev pub marks_none_beyond_by : List Mark → List PathStep
marks_none_beyond_by marks =
    all_taken ++ sees None ∷ shut ∷ did_for (Select near) (Select far) far_call ∷ Did (for_jobs (Send (Select far) 0)
    (Select far ∷ far_call ∷ [])) (Sent end.Ok []) ∷ failed_marking (SwitchOff (Deselect near)) marks
    ∷ sees (Some 0) ∷ failed_marking close (near_mark ∷ []) ∷ did_settle (Some Eremoteio)
    ∷ sees (Some 0) ∷ failed_marking close (near_mark ∷ far_mark ∷ []) ∷ all_freed
