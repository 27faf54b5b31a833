use Rattle.bus_lines.proofs.Cited.{List, ap, ◌∙◌, Bit, rejoined, NodeState, mask_of, levelled_bits, TargetsView, targets_of}
use Rattle.bus_lines.proofs.RootLemmas.{rooted, line_listed, line_viewed}
use Rattle.bus_lines.proofs.root_targets.RootTargets.set_line.Goals as goal

pub invariant_of-self : goal.invariant_of-self
invariant_of-self c =
    let s = c.spread in
    let j = c.rejoin-self-inside in
    line_listed c.self.inside c.self.invariant _ c.as_slice.ensures.value _ c.refresh_all.ensures s.new.live s.new.started
    s.ensures.live s.ensures.started s.ensures.live_room s.ensures.started_room _ _ c.args.mux c.args.level s.ensures.bits
    c.set_level.ensures s.new.address s.ensures.address _ c.as_slice-2.ensures.value _ j.ensures.targets j.result j.ensures.held

pub returns : goal.returns
returns c =
    let i = c.self.inside in
    let s = c.spread in
    ap (λ (xs : List (Bit NodeState)). targets_of (rooted i) xs i.counter)
    (line_viewed i c.self.invariant _ c.as_slice.ensures.value _ c.refresh_all.ensures s.new.live s.new.started s.ensures.live
    s.ensures.started s.ensures.live_room s.ensures.started_room _ _ c.args.mux c.args.level s.ensures.bits c.set_level.ensures
    s.new.address s.ensures.address _ c.as_slice-2.ensures.value _ c.rejoin-self-inside.ensures.targets)
    ∙ ap (λ (v : TargetsView). record v {
      bits = rejoined (mask_of v.rooted.board v.rooted.root) (levelled_bits c.args.mux c.args.level v.bits);
    }) c.self.view_is
