use Rattle.bus_lines.proofs.Cited.{false, refl, ap, ◌∷◌, begin, Started, NumbersView}
use Rattle.bus_lines.proofs.KeptLemmas.{begin_kept, begin_seen}
use Rattle.bus_lines.proofs.RootLemmas.{rooted, seen_after, listed}
use Rattle.bus_lines.proofs.root_targets.RootTargets.start_condition.Goals as goal

pub invariant_of-self : goal.invariant_of-self
invariant_of-self c =
    let i = c.self.inside in
    let l = c.leave in
    listed i c.self.invariant i.called
    (begin_kept (rooted i) i.places.items i.held i.address i.live i.started i.at i.bits.items c.self.invariant.kept l.new.bits.items
    l.new.live l.ensures.live l.ensures.bits c.whole-self-inside.result c.whole-self-inside.ensures false refl)
    refl (ap (λ (v : NumbersView). v.room) l.ensures.live)

pub returns : goal.returns
returns c =
    let i = c.self.inside in
    let l = c.leave in
    seen_after i begin (λ s. Started ∷ s)
    (begin_seen (rooted i) i.places.items i.held i.address i.live i.started i.at i.bits.items c.self.invariant.kept l.new.bits.items
    l.new.live l.ensures.live l.ensures.bits c.whole-self-inside.result c.whole-self-inside.ensures)
    c.add_start.ensures c.self.view_is
