use Rattle.run_laws.proofs.Cited.{List, reverse, ◌∙◌, ap, slice_get, order, TargetState, asks_by}
use Rattle.run_laws.proofs.Others.{others-stay}
use Rattle.run_laws.proofs.runs.a_run_behind_translators_changes_no_other_device.Goals as goal

pub returns : goal.returns
returns c =
    λ m texts words x logs states counts plain rules is_map behind run d unnamed.
    let low = run.is_run.rules in
    ap (λ (xs : List TargetState). slice_get xs d) run.is_run.left
    ∙ others-stay m.board m.translators (asks_by m.board texts) behind d
    (λ t r at paired xs cut away. c.a_translated_transfer_does_the_same.ensures.others m.board m.translators plain rules is_map low t r at
    paired xs cut d away)
    unnamed (order (reverse run.journal)) run.is_run.legal.replies_kept.told run.is_run.legal.replies_kept.defined
    ∙ ap (λ (xs : List TargetState). slice_get xs d) (c.a_lowered_board_opens_the_same.ensures.opened m.board m.translators plain rules
    is_map)
