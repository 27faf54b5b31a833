use Rattle.bus_core.proofs.Cited.{◌≡◌, ◌<◌, ℕ, Some, refl, sym, ◌∙◌, ap, subst, LockId, holder_in, HasStepped, CoreInside}
use Rattle.mux_plan.specs.declared.task.Action.TheVariants as action
use Rattle.bus_core.specs.Kept.{IsResting}
use Rattle.bus_core.specs.declared.steps.StepAnswer.TheVariants as answer
use Rattle.bus_core.proofs.Nexts.{TellsNext, tells-next, take-there, comes-take, comes-free, comes-settle, comes-message, comes-shift}
use Rattle.bus_core.proofs.SeatLemmas.{there_read}
use Rattle.bus_core.proofs.steps.step.Given.{Over}
use Rattle.bus_core.proofs.steps.step.Goals.{After-next-next, in-Take+in_default, in-Free, in-Send, in-Line, in-Settle}
use Rattle.bus_core.proofs.steps.step.Goals as goal

pub index-requires : goal.index-requires
index-requires g c = subst (λ (n : ℕ). c.args.place < n) (sym c.args.parts.now.seats.ok.0) c.requires.there

pub next-next-requires : goal.next-next-requires
next-next-requires g c =
    let x = c.args.parts.now in
    let here = there_read x.seats.items c.args.place c.index.result.now c.requires.there c.index.ensures in
    (c.requires.rests.looked c.args.place c.index.result.now here).step

pub returns-in-Done-clause-finished : goal.returns-in-Done-clause-finished
returns-in-Done-clause-finished g c is =
    let x = c.args.parts.now in
    let here = there_read x.seats.items c.args.place c.index.result.now c.requires.there c.index.ensures in
    (refl, record { seat = c.index.result.now; here = here; over = c.next-next.ensures.over c.in-Done.is })

-- what comes next of the caller at the place
next : (g : Over) (c : After-next-next g) → TellsNext c.args.parts.now c.args.place c.next-next.result
next g c = tells-next c.args.parts.now c.args.place c.requires.rests.looked c.requires.there c.index.ensures c.next-next.ensures.first

pub holder-requires : goal.holder-requires
holder-requires g c =
    take-there c.requires.rests.kept (comes-take (next g (goal.at.holder-requires g c).After-next-next) c.in-Take.lock c.in-Take.is)

pub returns-in-Some-clause-blocked : goal.returns-in-Some-clause-blocked
returns-in-Some-clause-blocked g c l h e =
    let lock : c.in-Take.lock ≡ l = (let f : answer.Blocked c.in-Take.lock c.in-Some.holder ≡ answer.Blocked l h = e in cc) in
    let who : c.in-Some.holder ≡ h = (let f : answer.Blocked c.in-Take.lock c.in-Some.holder ≡ answer.Blocked l h = e in cc) in (
      refl,
      record {
        comes = comes-take (next g (goal.at.returns-in-Some-clause-blocked g c).After-next-next) l
            (c.in-Take.is ∙ ap (λ (k : LockId). action.Take k) lock);
        held = ap (holder_in c.args.parts.now.locks) (sym lock) ∙ sym c.holder.ensures ∙ c.in-Some.is ∙ ap Some who;
      },
    )

pub take-requires-clause-next : goal.take-requires-clause-next
take-requires-clause-next g c κs within =
    comes-take (next g (goal.at.take-requires-clause-next g c).After-next-next) c.in-Take.lock c.in-Take.is

pub free-requires-clause-next : goal.free-requires-clause-next
free-requires-clause-next g c κs within =
    comes-free (next g (goal.at.free-requires-clause-next g c).After-next-next) c.in-Free.lock c.in-Free.is

pub send_and_record-requires-clause-next : goal.send_and_record-requires-clause-next
send_and_record-requires-clause-next g c κs within =
    comes-message (next g (goal.at.send_and_record-requires-clause-next g c).After-next-next) _ c.in-Send.is

pub switch-requires-clause-next : goal.switch-requires-clause-next
switch-requires-clause-next g c κs within =
    comes-shift (next g (goal.at.switch-requires-clause-next g c).After-next-next) c.in-Line.mux c.in-Line.level c.in-Line.is

pub refuse-requires-clause-next : goal.refuse-requires-clause-next
refuse-requires-clause-next g c κs within =
    comes-settle (next g (goal.at.refuse-requires-clause-next g c).After-next-next) c.in-Settle.verdict c.in-Settle.is

pub returns-clause-stepped : goal.returns-clause-stepped
returns-clause-stepped g c is =
    let x = c.args.parts.now in
    elim c.match-next.branch [
      | in-Take+in_default w ↦ subst (λ (y : CoreInside _ _). HasStepped g.P.Port g.C.Caller c.args.place x y)
          (sym w.parts-is) w.take.ensures.stepped
      | in-Free w ↦ subst (λ (y : CoreInside _ _). HasStepped g.P.Port g.C.Caller c.args.place x y) (sym w.parts-is) w.free.ensures.stepped
      | in-Send w ↦ subst (λ (y : CoreInside _ _). HasStepped g.P.Port g.C.Caller c.args.place x y)
          (sym w.parts-is) w.send_and_record.ensures.stepped
      | in-Line w ↦ subst (λ (y : CoreInside _ _). HasStepped g.P.Port g.C.Caller c.args.place x y)
          (sym w.parts-is) w.switch.ensures.stepped
      | in-Settle w ↦ subst (λ (y : CoreInside _ _). HasStepped g.P.Port g.C.Caller c.args.place x y)
          (sym w.parts-is) w.refuse.ensures.stepped
    ]

pub returns-clause-rests : goal.returns-clause-rests
returns-clause-rests g c =
    elim c.match-next.branch [
      | in-Take+in_default w ↦ subst (λ (y : CoreInside _ _). IsResting g.P.Port g.C.Caller y) (sym w.parts-is) w.take.ensures.rests
      | in-Free w ↦ subst (λ (y : CoreInside _ _). IsResting g.P.Port g.C.Caller y) (sym w.parts-is) w.free.ensures.rests
      | in-Send w ↦ subst (λ (y : CoreInside _ _). IsResting g.P.Port g.C.Caller y) (sym w.parts-is) w.send_and_record.ensures.rests
      | in-Line w ↦ subst (λ (y : CoreInside _ _). IsResting g.P.Port g.C.Caller y) (sym w.parts-is) w.switch.ensures.rests
      | in-Settle w ↦ subst (λ (y : CoreInside _ _). IsResting g.P.Port g.C.Caller y) (sym w.parts-is) w.refuse.ensures.rests
    ]
