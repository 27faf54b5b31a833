use Rattle.run_laws.proofs.Cited.{reverse, sym, ◌∙◌, order, asks_by}
use Rattle.run_laws.proofs.runs.a_run_behind_translators_is_one_of_the_board_as_written.Goals as goal

pub returns : goal.returns
returns c =
    λ m texts words x logs states counts plain rules is_map behind run. (
      sym (c.a_history_behind_translators_is_the_same.ensures m.board m.translators plain rules is_map run.is_run.rules
          (asks_by m.board texts)
          behind (order (reverse run.journal)))
          ∙ run.is_run.legal.replies_kept.defined,
      run.is_run.left,
    )
