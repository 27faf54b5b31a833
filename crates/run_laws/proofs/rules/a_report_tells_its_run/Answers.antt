use Rattle.run_laws.proofs.Cited.{length, map, sym, ◌∙◌, range_with_len, text_of, printed_by}
use Rattle.run_laws.proofs.Told.{sections-whole}
use Rattle.run_laws.proofs.rules.a_report_tells_its_run.Goals as goal

pub returns : goal.returns
returns c =
    λ b other texts more words turns x y logs others states ends counts rises one two same.
    let none = c.no_section_has_a_journal_line.ensures in
    c.a_report_tells_its_journal.ensures (map (text_of (printed_by b texts) one.journal) (range_with_len 0 (length texts)))
    (map (text_of (printed_by other more) two.journal) (range_with_len 0 (length more))) one.journal two.journal
    (sections-whole none b texts one.journal (range_with_len 0 (length texts)))
    (sections-whole none other more two.journal (range_with_len 0 (length more))) one.is_run.in_range two.is_run.in_range
    (sym one.is_told ∙ same ∙ two.is_told)
