use Rattle.bus_journal.proofs.Cited.{◌≡◌, ◌++◌, ℕ, List, true, false, sym, ap, ◌∙◌, entry_line, entry_by}
use Rattle.std.proofs.Common.{Some, None}
use Rattle.bus_journal.proofs.Whole.{guess_of-line}
use Rattle.bus_journal.proofs.read.read_line.Goals as goal

pub returns-in_default-clause-found : goal.returns-in_default-clause-found
returns-in_default-clause-found c = λ e is same. guess_of-line e c.args.line.now None c.in_default.ensures.read is same

pub returns-then-has_parts-clause-found : goal.returns-then-has_parts-clause-found
returns-then-has_parts-clause-found c = λ e is same.
    guess_of-line e c.args.line.now (Some (entry_by c.in-Some.head c.guess_entry.new.bytes)) c.in-Some.ensures.read is same

pub returns-else-has_parts-clause-found : goal.returns-else-has_parts-clause-found
returns-else-has_parts-clause-found c = λ e is same.
    let guessed = guess_of-line e c.args.line.now (Some (entry_by c.in-Some.head c.guess_entry.new.bytes)) c.in-Some.ensures.read is same in
    let at : entry_by c.in-Some.head c.guess_entry.new.bytes ≡ e = cc in
    let shown : c.as_slice-2.result.now ++ c.as_slice-3.result.now ≡ c.args.line.now =
    ap (λ (xs : List ℕ). xs ++ c.as_slice-3.result.now) c.as_slice-2.ensures.value
    ∙ ap (λ (xs : List ℕ). c.make_again.new.front.items ++ xs) c.as_slice-3.ensures.value
    ∙ c.make_again.ensures.text
    ∙ ap (λ (xs : List ℕ). entry_line (entry_by c.in-Some.head xs)) c.as_slice.ensures.value
    ∙ ap entry_line at ∙ same in
    let f : false ≡ true = sym c.if-has_parts.false ∙ c.has_parts.ensures.no shown in cc
