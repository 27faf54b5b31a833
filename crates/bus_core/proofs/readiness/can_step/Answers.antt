use Rattle.bus_core.proofs.Cited.{◌≡◌, ◌<◌, ℕ, Some, sym, ◌∙◌, ap, subst, inl, inr, Act, Take, action_of, holder_in}
use Rattle.std.proofs.Common.{not}
use Rattle.bus_core.proofs.ActionLemmas.{some-act, none-of}
use Rattle.bus_core.proofs.Nexts.{TellsNext, tells-next, take-there, comes-take}
use Rattle.bus_core.proofs.SeatLemmas.{none-told, some-told, there_read}
use Rattle.bus_core.proofs.readiness.can_step.Given.{Over}
use Rattle.bus_core.proofs.readiness.can_step.Goals.{After-next}
use Rattle.bus_core.proofs.readiness.can_step.Goals as goal

pub index-requires : goal.index-requires
index-requires g c = subst (λ (n : ℕ). c.args.place < n) (sym c.args.parts.now.seats.ok.0) c.requires.there

pub next-requires : goal.next-requires
next-requires g c =
    let x = c.args.parts.now in
    let here = there_read x.seats.items c.args.place c.index.result.now c.requires.there c.index.ensures in
    (c.requires.rests.looked c.args.place c.index.result.now here).step

-- what comes next of the caller at the place
ahead : (g : Over) (c : After-next g) → TellsNext c.args.parts.now c.args.place c.next.result
ahead g c = tells-next c.args.parts.now c.args.place c.requires.rests.looked c.requires.there c.index.ensures c.next.ensures.first

pub holder-requires : goal.holder-requires
holder-requires g c =
    let next = ahead g (goal.at.holder-requires g c).After-next in
    take-there c.requires.rests.kept (comes-take next c.in-Take.lock c.in-Take.is)

pub returns-in-Done-clause-held_up : goal.returns-in-Done-clause-held_up
returns-in-Done-clause-held_up g c is =
    let next = ahead g (goal.at.returns-in-Done-clause-held_up g c).After-next in
    record { seat = next.seat; here = next.here; waits = inl (none-of _ (next.tells ∙ c.in-Done.is)) }

pub returns-in-Take-clause-can : goal.returns-in-Take-clause-can
returns-in-Take-clause-can g c is =
    let next = ahead g (goal.at.returns-in-Take-clause-can g c).After-next in
    let x = c.args.parts.now in
    let comes = comes-take next c.in-Take.lock c.in-Take.is in
    record {
      seat = comes.seat;
      here = comes.here;
      act = Take c.in-Take.lock;
      next = comes.next;
      free = λ l e. let same : c.in-Take.lock ≡ l = (let f : Take c.in-Take.lock ≡ Take l = e in cc) in ap (holder_in x.locks) (sym same)
          ∙ sym c.holder.ensures ∙ none-told c.holder.result (c.is_none.ensures ∙ ap not is);
    }

pub returns-in-Take-clause-held_up : goal.returns-in-Take-clause-held_up
returns-in-Take-clause-held_up g c is =
    let next = ahead g (goal.at.returns-in-Take-clause-held_up g c).After-next in
    let comes = comes-take next c.in-Take.lock c.in-Take.is in
    let who = some-told c.holder.result (c.is_none.ensures ∙ ap not is) in
    record { seat = comes.seat; here = comes.here; waits = inr (c.in-Take.lock, who.0, comes.next, sym c.holder.ensures ∙ who.1) }

pub returns-in_default-clause-can : goal.returns-in_default-clause-can
returns-in_default-clause-can g c is =
    let next = ahead g (goal.at.returns-in_default-clause-can g c).After-next in
    let acts = some-act _ (λ e. c.in_default.not-Done (sym next.tells ∙ e)) in
    record {
      seat = next.seat;
      here = next.here;
      act = acts.0;
      next = acts.1;
      free = λ l e. absurd (c.in_default.not-Take l (sym next.tells ∙ ap action_of (acts.1 ∙ ap (λ (a : Act). Some a) e)));
    }
