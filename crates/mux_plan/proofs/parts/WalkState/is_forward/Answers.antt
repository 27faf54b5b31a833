use Rattle.mux_plan.proofs.Cited.{not, reverse, sym, ◌∙◌, ap, list_any, is_deselect}
use Rattle.std.proofs.lemmas.List.Sorted.{list_any-IsPermutation, IsPermutation-reverse}
use Rattle.mux_plan.proofs.Openings.{note_of-forward}
use Rattle.mux_plan.proofs.parts.WalkState.is_forward.Goals as goal

pub returns : goal.returns
returns c =
    ap not (c.has_deselect.ensures
    ∙ list_any-IsPermutation is_deselect c.items.result.now (reverse c.items.result.now) (IsPermutation-reverse c.items.result.now)
    ∙ ap (list_any is_deselect) c.items.ensures)
    ∙ sym (note_of-forward c.args.self.now.route c.args.self.now.stack)
