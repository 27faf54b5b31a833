-- The marks that a step changes tell what is known of the buses behind it, and are of buses that are held.
use Rattle.mux_plan.proofs.Cited.{◌≡◌, ℕ, List, [], ◌∷◌, length, Option, Some, None, zero, suc, ◌==◌, Bool, true, false, refl, sym, ◌∙◌}
use Rattle.mux_plan.proofs.Cited.{subst, arith, inl, inr, Hop, Job, ActOutcome, Note, Slots, mark_in, updates_after}
use Rattle.std.proofs.Common.{◌++◌, set, if◌then◌else◌}
use Rattle.std.specs.List.{AllByRecursion}
use Rattle.std.proofs.lemmas.Bool.Decides.{eqb_tells}
use Rattle.std.proofs.lemmas.List.{length-set, get_or-set_other}
use Rattle.std.proofs.lemmas.Grind.{get_or-set_at}
use Rattle.i2c_base.specs.declared.entry.End.TheVariants as end
use Rattle.i2c_spec.specs.History.{changed_at}
use Rattle.bus_spec.specs.Walk.{Mark, Call, Select, SwitchOff, off_bus, off_mux, Act, Passed, Sent, Lined, first_byte}
use Rattle.bus_spec.specs.Walk as walk
use Rattle.bus_spec.specs.Slots.{MuxSlot, Clean, Marked, Polled, Found, At, turned_at, turned, set_marks, polled_slot, select_told}
use Rattle.bus_spec.specs.Slots.{after_select, after_off, after_job}
use Rattle.mux_plan.specs.declared.marks.MuxUpdate.{MuxUpdate}
use Rattle.mux_plan.specs.Marks.{marked, all_marked, left_open, updates_on, updates_of_job, applied, IsSwitchedOn, MayMark, AreOn}
use Rattle.mux_plan.specs.Plans.{TellsMarks, slots_after}

applied-push : (ds : List MuxUpdate) (d : MuxUpdate) (marks : List (Option ℕ))
    → applied (ds ++ d ∷ []) marks ≡ set (applied ds marks) d.on d.mark
applied-push [] d marks = refl
applied-push (x ∷ xs) d marks = applied-push xs d (set marks x.on x.mark)

tells-set : (v : Slots) (marks : List (Option ℕ)) (on : ℕ) (mark : Option ℕ) (x : At) → mark_in x.slot ≡ mark → TellsMarks v marks
    → TellsMarks (changed_at v on x) (set marks on mark)
tells-set v marks on mark x is told = record {
  at = λ p low.
      let all : length (set marks on mark) ≡ length marks = length-set marks on mark in
      elim (eqb_tells p on) [
        | inl e ↦ rw (e.0) (is ∙ sym (get_or-set_at marks on p mark None e.1 (omega (arith, low, all, e.1))))
        | inr e ↦ rw (e.0) (told.at p (omega (arith, low, all)) ∙ sym (get_or-set_other marks on p mark None e.1))
      ];
}

tells_due : (ds : List MuxUpdate) (d : MuxUpdate) (marks : List (Option ℕ)) (v : Slots) (x : At) → mark_in x.slot ≡ d.mark
    → TellsMarks v (applied ds marks)
    → TellsMarks (changed_at v d.on x) (applied (ds ++ d ∷ []) marks)
tells_due ds d marks v x is told =
    subst (λ (xs : List (Option ℕ)). TellsMarks (changed_at v d.on x) xs) (sym (applied-push ds d marks))
    (tells-set v (applied ds marks) d.on d.mark x is told)

-- a poll that goes through leaves no mark
no-mark : (h : Hop) (left : ℕ) (bytes : List ℕ) → mark_in (polled_slot h left bytes) ≡ None
no-mark h zero bytes = by (first_byte bytes == 0)
  where
    by : (free : Bool) → mark_in (if free then Found h else Clean) ≡ None
    by true = refl
    by false = refl
no-mark h (suc left) bytes = by (first_byte bytes == 0)
  where
    by : (free : Bool) → mark_in (if free then Found h else Polled h left) ≡ None
    by true = refl
    by false = refl

tells-all : (ms : List Mark) (marks : List (Option ℕ)) (v : Slots) → TellsMarks v marks
    → TellsMarks (set_marks ms v) (applied (all_marked ms) marks)
tells-all [] marks v told = told
tells-all (m ∷ ms) marks v told = tells_due (all_marked ms) (marked m) marks (set_marks ms v)
    (turned_at (v m.on) m.mux (Marked m.mux) None) refl (tells-all ms marks v told)

tells-one : (v : Slots) (marks : List (Option ℕ)) (on mux : ℕ) (slot : MuxSlot) (c : Option ℕ) → mark_in slot ≡ None → TellsMarks v marks
    → TellsMarks (turned v on mux slot c) (set marks on None)
tells-one v marks on mux slot c none told = tells-set v marks on None (turned_at (v on) mux slot c) none told

tells-through : (h : Hop) (left : ℕ) (bytes : List ℕ) (v : Slots) (marks : List (Option ℕ)) → TellsMarks v marks
    → TellsMarks (select_told h left bytes v) (set marks h.on None)
tells-through h zero bytes v marks told = tells-one v marks h.on h.mux Clean (Some h.channel) refl told
tells-through h (suc left) bytes v marks told = tells-one v marks h.on h.mux (polled_slot h left bytes) None (no-mark h left bytes) told

tells-select : (h : Hop) (left : ℕ) (ms : List Mark) (out : ActOutcome) (v : Slots) (marks : List (Option ℕ)) → TellsMarks v marks
    → TellsMarks (after_select h left ms out v) (applied (updates_on h.on h.mux (left_open h left out) ms out) marks)
tells-select h left ms Passed v marks told = told
tells-select h left ms (Sent end.Ok bytes) v marks told = tells-through h left bytes v marks told
tells-select h left ms (Sent end.Nack bytes) v marks told = tells-one v marks h.on h.mux Clean None refl told
tells-select h left ms (Sent end.Slow bytes) v marks told = tells-one v marks h.on h.mux Clean None refl told
tells-select h left ms (Sent end.Refused bytes) v marks told = tells-one v marks h.on h.mux Clean None refl told
tells-select h left ms (Sent end.Proto bytes) v marks told = tells-one v marks h.on h.mux Clean None refl told
tells-select h left ms (Sent (end.Cut q) bytes) v marks told = tells-all ms marks v told
tells-select h left ms (Lined true) v marks told = tells-all ms marks v told
tells-select h left ms (Lined false) v marks told = tells-one v marks h.on h.mux Clean (Some h.channel) refl told

tells-off : (on mux : ℕ) (ms : List Mark) (out : ActOutcome) (v : Slots) (marks : List (Option ℕ)) → TellsMarks v marks
    → TellsMarks (after_off on mux ms out v) (applied (updates_on on mux None ms out) marks)
tells-off on mux ms Passed v marks told = told
tells-off on mux ms (Sent end.Ok bytes) v marks told = tells-one v marks on mux Clean None refl told
tells-off on mux ms (Sent end.Nack bytes) v marks told = tells-one v marks on mux Clean None refl told
tells-off on mux ms (Sent end.Slow bytes) v marks told = tells-one v marks on mux Clean None refl told
tells-off on mux ms (Sent end.Refused bytes) v marks told = tells-one v marks on mux Clean None refl told
tells-off on mux ms (Sent end.Proto bytes) v marks told = tells-one v marks on mux Clean None refl told
tells-off on mux ms (Sent (end.Cut q) bytes) v marks told = tells-all ms marks v told
tells-off on mux ms (Lined true) v marks told = tells-all ms marks v told
tells-off on mux ms (Lined false) v marks told = tells-one v marks on mux Clean None refl told

tells-job : (job : Job) (left : ℕ) (ms : List Mark) (out : ActOutcome) (v : Slots) (marks : List (Option ℕ)) → TellsMarks v marks
    → TellsMarks (after_job job left ms out v) (applied (updates_of_job job left ms out) marks)
tells-job (Call bus messages) left ms out v marks told = told
tells-job (Select h) left ms out v marks told = tells-select h left ms out v marks told
tells-job (SwitchOff off) left ms out v marks told = tells-off (off_bus off) (off_mux off) ms out v marks told

pub tells-after : (act : Option Act) (note : Note) (out : ActOutcome) (v : Slots) (marks : List (Option ℕ)) → TellsMarks v marks
    → TellsMarks (slots_after act note out v) (applied (updates_after act note out) marks)
tells-after None note out v marks told = told
tells-after (Some (walk.Take l)) note out v marks told = told
tells-after (Some (walk.Free l)) note out v marks told = told
tells-after (Some (walk.Send job left)) note out v marks told = tells-job job left note.marks out v marks told
tells-after (Some (walk.Shift job)) note out v marks told = tells-job job zero note.marks out v marks told
tells-after (Some (walk.Settle verdict)) note out v marks told = told

on-due : (held : ℕ → Bool) (ds : List MuxUpdate) (d : MuxUpdate) → held d.on ≡ true → AreOn held ds → AreOn held (ds ++ d ∷ [])
on-due held [] d on all = (on, all)
on-due held (x ∷ xs) d on all = (all.0, on-due held xs d on all.1)

on-all : (held : ℕ → Bool) (ms : List Mark) → AllByRecursion (λ m. held m.on ≡ true) ms → AreOn held (all_marked ms)
on-all held [] all = all
on-all held (m ∷ ms) all = on-due held (all_marked ms) (marked m) all.0 (on-all held ms all.1)

on-switch : (held : ℕ → Bool) (on mux : ℕ) (c : Option ℕ) (ms : List Mark) (out : ActOutcome) → held on ≡ true
    → AllByRecursion (λ m. held m.on ≡ true) ms → AreOn held (updates_on on mux c ms out)
on-switch held on mux c ms Passed is all = tt
on-switch held on mux c ms (Sent end.Ok bytes) is all = (is, tt)
on-switch held on mux c ms (Sent end.Nack bytes) is all = (is, tt)
on-switch held on mux c ms (Sent end.Slow bytes) is all = (is, tt)
on-switch held on mux c ms (Sent end.Refused bytes) is all = (is, tt)
on-switch held on mux c ms (Sent end.Proto bytes) is all = (is, tt)
on-switch held on mux c ms (Sent (end.Cut q) bytes) is all = on-all held ms all
on-switch held on mux c ms (Lined true) is all = on-all held ms all
on-switch held on mux c ms (Lined false) is all = (is, tt)

on-job : (held : ℕ → Bool) (job : Job) (left : ℕ) (ms : List Mark) (out : ActOutcome) → IsSwitchedOn held job
    → AllByRecursion (λ m. held m.on ≡ true) ms → AreOn held (updates_of_job job left ms out)
on-job held (Call bus messages) left ms out is all = tt
on-job held (Select h) left ms out is all = on-switch held h.on h.mux (left_open h left out) ms out is all
on-job held (SwitchOff off) left ms out is all = on-switch held (off_bus off) (off_mux off) None ms out is all

pub on-after : (held : ℕ → Bool) (act : Option Act) (note : Note) (out : ActOutcome) → MayMark held act note
    → AreOn held (updates_after act note out)
on-after held None note out may = tt
on-after held (Some (walk.Take l)) note out may = tt
on-after held (Some (walk.Free l)) note out may = tt
on-after held (Some (walk.Send job left)) note out may = on-job held job left note.marks out may.0 may.1
on-after held (Some (walk.Shift job)) note out may = on-job held job zero note.marks out may.0 may.1
on-after held (Some (walk.Settle verdict)) note out may = tt
