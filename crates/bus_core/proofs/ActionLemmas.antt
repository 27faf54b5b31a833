-- The step of a walk that an action tells.
use Rattle.bus_core.proofs.Cited.{◌≡◌, ℕ, Option, Some, None, refl, subst, LockId, Errno, Job, Act, Take, Free, Send, Shift, Settle}
use Rattle.bus_core.proofs.Cited.{line_mux, line_level, action_of, Action, NextMsg, IsMessageOf}
use Rattle.mux_plan.specs.Plans.{next_msg}
use Rattle.mux_plan.specs.declared.task.Action.TheVariants as action

abbrev sending : Job → ℕ → Action
sending job left = action.Send (next_msg job left)

pub take-of : (o : Option Act) (l : LockId) → action_of o ≡ action.Take l → o ≡ Some (Take l)
take-of None l e = absurd (let f : action.Done ≡ action.Take l = e in cc)
take-of (Some (Take k)) l e = (let f : action.Take k ≡ action.Take l = e in cc)
take-of (Some (Free k)) l e = absurd (let f : action.Free k ≡ action.Take l = e in cc)
take-of (Some (Send job left)) l e = absurd (let f : sending job left ≡ action.Take l = e in cc)
take-of (Some (Shift job)) l e = absurd (let f : action.Line (line_mux job) (line_level job) ≡ action.Take l = e in cc)
take-of (Some (Settle v)) l e = absurd (let f : action.Settle v ≡ action.Take l = e in cc)

pub free-of : (o : Option Act) (l : LockId) → action_of o ≡ action.Free l → o ≡ Some (Free l)
free-of None l e = absurd (let f : action.Done ≡ action.Free l = e in cc)
free-of (Some (Take k)) l e = absurd (let f : action.Take k ≡ action.Free l = e in cc)
free-of (Some (Free k)) l e = (let f : action.Free k ≡ action.Free l = e in cc)
free-of (Some (Send job left)) l e = absurd (let f : sending job left ≡ action.Free l = e in cc)
free-of (Some (Shift job)) l e = absurd (let f : action.Line (line_mux job) (line_level job) ≡ action.Free l = e in cc)
free-of (Some (Settle v)) l e = absurd (let f : action.Settle v ≡ action.Free l = e in cc)

pub settle-of : (o : Option Act) (verdict : Option Errno) → action_of o ≡ action.Settle verdict → o ≡ Some (Settle verdict)
settle-of None v e = absurd (let f : action.Done ≡ action.Settle v = e in cc)
settle-of (Some (Take k)) v e = absurd (let f : action.Take k ≡ action.Settle v = e in cc)
settle-of (Some (Free k)) v e = absurd (let f : action.Free k ≡ action.Settle v = e in cc)
settle-of (Some (Send job left)) v e = absurd (let f : sending job left ≡ action.Settle v = e in cc)
settle-of (Some (Shift job)) v e = absurd (let f : action.Line (line_mux job) (line_level job) ≡ action.Settle v = e in cc)
settle-of (Some (Settle w)) v e = (let f : action.Settle w ≡ action.Settle v = e in cc)

pub line-of : (o : Option Act) (mux level : ℕ) → action_of o ≡ action.Line mux level
    → (job : Job) × (o ≡ Some (Shift job)) × (line_mux job ≡ mux) × (line_level job ≡ level)
line-of None m level e = absurd (let f : action.Done ≡ action.Line m level = e in cc)
line-of (Some (Take k)) m level e = absurd (let f : action.Take k ≡ action.Line m level = e in cc)
line-of (Some (Free k)) m level e = absurd (let f : action.Free k ≡ action.Line m level = e in cc)
line-of (Some (Send job left)) m level e = absurd (let f : sending job left ≡ action.Line m level = e in cc)
line-of (Some (Shift job)) m level e = (let f : action.Line (line_mux job) (line_level job) ≡ action.Line m level = e in
    (job, refl, cc, cc))
line-of (Some (Settle w)) m level e = absurd (let f : action.Settle w ≡ action.Line m level = e in cc)

-- the message that comes next
pub send-of : (o : Option Act) (next : NextMsg) → action_of o ≡ action.Send next
    → (job : Job) × (left : ℕ) × (o ≡ Some (Send job left)) × IsMessageOf job left next
send-of None n e = absurd (let f : action.Done ≡ action.Send n = e in cc)
send-of (Some (Take k)) n e = absurd (let f : action.Take k ≡ action.Send n = e in cc)
send-of (Some (Free k)) n e = absurd (let f : action.Free k ≡ action.Send n = e in cc)
send-of (Some (Send job left)) n e =
    let f : sending job left ≡ action.Send n = e in
    let is : next_msg job left ≡ n = cc in (
      job,
      left,
      refl,
      subst (λ (m : NextMsg). IsMessageOf job left m) is
          (record { on_bus = refl; for_purpose = refl; as_part = refl; of_parts = refl; with_byte = refl }),
    )
send-of (Some (Shift job)) n e = absurd (let f : action.Line (line_mux job) (line_level job) ≡ action.Send n = e in cc)
send-of (Some (Settle w)) n e = absurd (let f : action.Settle w ≡ action.Send n = e in cc)

-- where an action is told there is a step, and where none is told there is none
pub some-act : (o : Option Act) → (action_of o ≡ action.Done → ⊥) → (act : Act) × (o ≡ Some act)
some-act None not = absurd (not refl)
some-act (Some act) not = (act, refl)

pub none-of : (o : Option Act) → action_of o ≡ action.Done → o ≡ None
none-of None e = refl
none-of (Some (Take k)) e = absurd (let f : action.Take k ≡ action.Done = e in cc)
none-of (Some (Free k)) e = absurd (let f : action.Free k ≡ action.Done = e in cc)
none-of (Some (Send job left)) e = absurd (let f : sending job left ≡ action.Done = e in cc)
none-of (Some (Shift job)) e = absurd (let f : action.Line (line_mux job) (line_level job) ≡ action.Done = e in cc)
none-of (Some (Settle w)) e = absurd (let f : action.Settle w ≡ action.Done = e in cc)
