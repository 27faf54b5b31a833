use Rattle.i2c_top.proofs.Cited.{ap, sym, ◌∙◌, Some, IfOk-weaker}
use Rattle.std.proofs.lemmas.Result.{IfErr-weaker}
use Rattle.i2c_top.specs.forms.Extras.{row_of}
use Rattle.i2c_top.proofs.ExtraLemmas.{extra_there, never_unread, text_in_file, text_in_word}
use Rattle.i2c_top.proofs.extra.extra_in.Goals as goal

pub returns-then-in_word-clause-file : goal.returns-then-in_word-clause-file
returns-then-in_word-clause-file g c =
    IfErr-weaker c.read.result _ _ (λ e told same. absurd (never_unread (row_of g.E.ExtraFile) c.requires.row c.args.board.now
    c.as_bytes.result.now e told same)) c.read.ensures.refused

pub returns-then-in_word-clause-spelled : goal.returns-then-in_word-clause-spelled
returns-then-in_word-clause-spelled g c =
    IfOk-weaker c.read.result _ _ (λ v h. record { text = c.as_bytes.result.now; spells = h }) c.read.ensures.spelled

pub returns-then-in_word-clause-extra : goal.returns-then-in_word-clause-extra
returns-then-in_word-clause-extra g c =
    λ t. extra_there (row_of g.E.ExtraFile) _ _ _ _ c.read.result
    (text_in_word (row_of g.E.ExtraFile) (g.S.Shelf.file c.args.shelf.now) c.args.name.now (sym c.in_word.ensures ∙ c.if-in_word.true)
    ∙ ap (λ x. Some x) (sym c.as_bytes.ensures.value)) c.read.ensures.spelled

pub returns-clause-spelled : goal.returns-clause-spelled
returns-clause-spelled g c =
    IfOk-weaker c.read-2.result _ _ (λ v h. record { text = c.as_slice.result.now; spells = h }) c.read-2.ensures.spelled

pub returns-clause-extra : goal.returns-clause-extra
returns-clause-extra g c =
    λ t. extra_there (row_of g.E.ExtraFile) _ _ _ _ c.read-2.result
    (text_in_file (row_of g.E.ExtraFile) (g.S.Shelf.file c.args.shelf.now) c.args.name.now (sym c.in_word.ensures ∙ c.if-in_word.false)
    ∙ c.in_ok-text.ensures.bytes t ∙ ap (λ x. Some x) (sym c.as_slice.ensures.value)) c.read-2.ensures.spelled
