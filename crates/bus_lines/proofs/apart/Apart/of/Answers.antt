use Rattle.bus_lines.proofs.Cited.{count_by, length, ap, ◌∙◌, Bit, NodeState, is_chip}
use Rattle.bus_lines.proofs.ApartLemmas.{chips_counted}
use Rattle.bus_lines.proofs.apart.Apart.of.Goals as goal

pub invariant_of-result : goal.invariant_of-result
invariant_of-result c =
    let b = c.args.board.value in
    record {
      count = c.chips_among.ensures ∙ ap (count_by (λ (t : Bit NodeState). is_chip t.site.state)) c.as_slice.ensures.value
          ∙ chips_counted c.args.bits.items (length b.muxes) (length b.devices) c.requires.kinds;
      places = c.requires.places;
      kinds = c.requires.kinds;
    }
