use Rattle.bus_lines.proofs.Cited.{false, map, refl, sym, ap, ◌∙◌, finish, where_joined, ◌∷◌, Stopped, rejoin_from, rejoined, node_table}
use Rattle.bus_lines.proofs.Cited.{mask_of, joins_by, states_on, TargetsView, NumbersView, RegisterView}
use Rattle.bus_lines.proofs.InvariantLemmas.{seen_as}
use Rattle.bus_lines.proofs.KeptLemmas.{missed_kept, missed_seen, reached_kept, reached_seen}
use Rattle.bus_lines.proofs.RootLemmas.{rooted, listed}
use Rattle.bus_lines.proofs.root_targets.RootTargets.stop_condition.Goals as goal

pub invariant_of-self : goal.invariant_of-self
invariant_of-self c =
    let i = c.self.inside in
    let s = c.stop in
    listed i c.self.invariant i.called
    (reached_kept (rooted i) i.places.items i.held i.address i.live i.started i.at i.bits.items c.self.invariant.kept
    s.new.live s.new.started s.ensures.live s.ensures.started s.new.bits.items s.ensures.bits
    c.none-self-inside.result (ap (λ (r : RegisterView). r.left) c.none-self-inside.ensures)
    (sym s.ensures.result ∙ c.if-stop.true) false refl)
    refl (ap (λ (v : NumbersView). v.room) s.ensures.live)

pub invariant_of-self-else-stop : goal.invariant_of-self-else-stop
invariant_of-self-else-stop c =
    let i = c.self.inside in
    let s = c.stop in
    let j = c.rejoin-self-inside in
    listed i c.self.invariant i.called
    (missed_kept (rooted i) i.places.items i.held i.address i.live i.started i.at i.bits.items c.self.invariant.kept
    s.new.live s.new.started s.ensures.live s.ensures.started s.new.bits.items s.ensures.bits
    c.none-self-inside.result (ap (λ (r : RegisterView). r.left) c.none-self-inside.ensures) j.new.targets.items
    (j.ensures.targets ∙ ap (λ qs. rejoin_from (joins_by qs (states_on s.new.bits.items)) 0 s.new.bits.items) c.as_slice.ensures.value)
    j.result j.ensures.held)
    refl (ap (λ (v : NumbersView). v.room) s.ensures.live)

pub returns-then-stop : goal.returns-then-stop
returns-then-stop c =
    let i = c.self.inside in
    let s = c.stop in
    seen_as (rooted i)
    (reached_seen (rooted i) i.places.items i.held i.address i.live i.started i.at i.bits.items c.self.invariant.kept
    s.new.live s.new.started s.ensures.live s.ensures.started s.new.bits.items s.ensures.bits
    c.none-self-inside.result (ap (λ (r : RegisterView). r.left) c.none-self-inside.ensures) (sym s.ensures.result ∙ c.if-stop.true))
    c.add_stop.ensures
    ∙ ap (λ (v : TargetsView). record v {
      bits = rejoined (mask_of v.rooted.board v.rooted.root) (map (where_joined (finish node_table)) v.bits);
      shown = Stopped ∷ v.shown;
    }) c.self.view_is

pub returns-else-stop : goal.returns-else-stop
returns-else-stop c =
    let i = c.self.inside in
    let s = c.stop in
    let j = c.rejoin-self-inside in
    seen_as (rooted i)
    (missed_seen (rooted i) i.places.items i.held i.address i.live i.started i.at i.bits.items c.self.invariant.kept
    s.new.live s.new.started s.ensures.live s.ensures.started s.new.bits.items s.ensures.bits
    c.none-self-inside.result (ap (λ (r : RegisterView). r.left) c.none-self-inside.ensures) j.new.targets.items
    (j.ensures.targets ∙ ap (λ qs. rejoin_from (joins_by qs (states_on s.new.bits.items)) 0 s.new.bits.items) c.as_slice.ensures.value))
    c.add_stop.ensures
    ∙ ap (λ (v : TargetsView). record v {
      bits = rejoined (mask_of v.rooted.board v.rooted.root) (map (where_joined (finish node_table)) v.bits);
      shown = Stopped ∷ v.shown;
    }) c.self.view_is
