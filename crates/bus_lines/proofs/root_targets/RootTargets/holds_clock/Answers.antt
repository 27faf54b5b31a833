use Rattle.bus_lines.proofs.Cited.{ap, ◌∙◌, some_one, holds_line, TargetsView}
use Rattle.bus_lines.proofs.RiseLemmas.{held_as}
use Rattle.bus_lines.proofs.RootLemmas.{rooted, bits_in}
use Rattle.bus_lines.proofs.root_targets.RootTargets.holds_clock.Goals as goal

pub returns : goal.returns
returns c =
    let i = c.self.inside in
    held_as i.board.value (rooted i) i.places.items i.held i.address i.live i.started i.at (bits_in i) c.self.invariant.kept.are
    ∙ ap (λ (t : TargetsView). some_one holds_line t.bits) c.self.view_is
