use Rattle.bus_lines.proofs.Cited.{◌≡◌, false, List, sym, ap, ◌∙◌, list_any, Bit, some_one, pulls_line, NodeState, node_table}
use Rattle.bus_lines.proofs.Cited.{TargetsView}
use Rattle.std.specs.Prelude.{◌&&◌}
use Rattle.wire_spec.specs.Wires.{pulls}
use Rattle.bus_lines.specs.Edges.{pulls_at}
use Rattle.bus_lines.proofs.AwayLemmas.{units_away, whole_some}
use Rattle.bus_lines.proofs.InvariantLemmas.{pulls_coming}
use Rattle.bus_lines.proofs.KnownLemmas.{any_known}
use Rattle.bus_lines.proofs.Cited.{inl, inr}
use Rattle.bus_lines.proofs.RootLemmas.{bits_in, whole_in, told_either}
use Rattle.bus_lines.proofs.StopLemmas.{any_of_those}
use Rattle.bus_lines.proofs.TargetsLemmas.{seen_alone}
use Rattle.bus_lines.proofs.UnitLemmas.{pulls_none}
use Rattle.bus_lines.proofs.root_targets.RootTargets.pulls_data.Goals as goal

nobody : (b : Bit NodeState) → b.site.joined ≡ false → (pulls_line node_table) b ≡ false
nobody b apart = ap (λ j. j && pulls node_table b) apart

pub returns : goal.returns
returns c =
    let i = c.self.inside in
    let ps = i.places.items in
    let kept = c.self.invariant.kept in
    c.some_pulls.ensures
    ∙ ap (λ (xs : List (Bit NodeState)). list_any (pulls_at xs) c.told.result.now) c.as_slice.ensures.value
    ∙ elim (told_either i.address.left c.told.result.now i.live.items c.told.ensures.value) [
      | inl x ↦ ap (list_any (pulls_at i.bits.items)) x.1
          ∙ any_known (pulls_line node_table) ps i.bits.items i.live.items kept.in_message
          ∙ any_of_those (pulls_line node_table) (bits_in i) i.live.items (λ n b here out. pulls_none b ((kept.are.units n b here).out out))
          ∙ ap (some_one (pulls_line node_table)) (sym (seen_alone i.address.left i.address.value (bits_in i) x.0))
          ∙ whole_some i.board.value ps (pulls_line node_table) nobody i.address.left i.address.value (bits_in i)
          (units_away ps i.address.left i.live.items i.started.items i.at (bits_in i) kept.are.units)
      | inr x ↦ ap (list_any (pulls_at i.bits.items)) x.1 ∙ sym (pulls_coming i.address.left i.address.value (whole_in i) x.0)
    ]
    ∙ ap (λ (t : TargetsView). some_one (pulls_line node_table) t.bits) c.self.view_is
