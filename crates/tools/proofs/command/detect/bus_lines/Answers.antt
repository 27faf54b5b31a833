use Rattle.tools.proofs.Cited.{◌≡◌, ℕ, List, [], ◌∷◌, ◌++◌, sym, ap, subst, ◌∙◌, IsLine, bus_line}
use Rattle.tools.proofs.DetectLemmas.{is_line, lines_next}
use Rattle.tools.proofs.command.detect.bus_lines.Goals as goal

pub push-requires : goal.push-requires
push-requires c =
    let b = c.args.board.now in
    let same : c.as_slice.result.now ≡ bus_line b c.loop-bus.bus = cc
    (c.as_slice.ensures.value, c.in_ok-push_bus.ensures, c.clear.ensures.items) in
    subst IsLine (sym same) (is_line b c.loop-bus.bus)

pub loop-bus-preserved : goal.loop-bus-preserved
loop-bus-preserved c =
    let b = c.args.board.now in
    let same : c.as_slice.result.now ≡ bus_line b c.loop-bus.bus = cc
    (c.as_slice.ensures.value, c.in_ok-push_bus.ensures, c.clear.ensures.items) in
    c.in_ok-push.ensures ∙ ap (λ line. c.loop-bus.lines ++ line ∷ []) same
    ∙ ap (λ (lines : List (List ℕ)). lines ++ bus_line b c.loop-bus.bus ∷ []) c.loop-bus.invariant ∙ sym (lines_next b c.loop-bus.bus)
