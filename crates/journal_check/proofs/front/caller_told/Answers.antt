use Rattle.journal_check.proofs.Cited.{◌∙◌, ap, append_assoc, [], ◌∷◌, entry_line, caller_of, entry_of, entry-line, entry-read}
use Rattle.journal_check.proofs.front.caller_told.Goals as goal

pub returns : goal.returns
returns c =
    λ e more is text.
    c.caller_of_line.ensures
    ∙ ap (λ line. caller_of (entry_of line)) (c.first_line.ensures (entry_line e) more (entry-line e)
    (text ∙ append_assoc (entry_line e) (10 ∷ []) more))
    ∙ ap caller_of (entry-read e is)
