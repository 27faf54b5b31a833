-- A report's bytes tell its journal: the line above it is the first of its kind, and below it stands a line for each
-- entry. Over the lines before it, and over the entries.
use Rattle.bus_journal.proofs.Cited.{◌≡◌, ℕ, List, ◌+◌, true, false, [], ◌∷◌, ◌++◌, ◌==◌, get_or, append_assoc, refl, sym, ap, ◌∙◌, codes}
use Rattle.bus_journal.proofs.Cited.{decimal, All, flat_map, list_any, or_parts, flat_map-append, All-nil, All-head, All-tail, entry_line}
use Rattle.bus_journal.proofs.Cited.{ended_line, IsEntry, IsLine, Entry}
use Rattle.std.proofs.lemmas.List.Elements.{All-cons, All-append}
use Rattle.bus_spec.specs.Report.{sections}
use Rattle.bus_journal.specs.Reports.{line_ended, IsSectionLine, HasNoJournalLine, ReportsAreDistinct}
use Rattle.bus_journal.proofs.LineFeeds.{line-append, decimal-line, entry-line}
use Rattle.bus_journal.proofs.Whole.{lines_are_distinct}
use Rattle.i2c_base.specs.declared.entry.Entry.TheVariants as entry

feed_in : (c : ℕ) (a : List ℕ) → c ≡ 10 → IsLine (c ∷ a) → true ≡ false
feed_in c a is line = let h : (c == 10) ≡ false = (or_parts (c == 10) (list_any (λ n. n == 10) a) line).0 in rw is at h

line-tail : (c : ℕ) (a : List ℕ) → IsLine (c ∷ a) → IsLine a
line-tail c a line = (or_parts (c == 10) (list_any (λ n. n == 10) a) line).1

-- texts that begin with a line each begin with the same one
pub first_lines : (a b x y : List ℕ) → IsLine a → IsLine b → a ++ 10 ∷ x ≡ b ++ 10 ∷ y → (a ≡ b) × (x ≡ y)
first_lines [] [] x y is_a is_b same = (refl, cc)
first_lines [] (d ∷ b) x y is_a is_b same = let e : d ≡ 10 = cc in let no = feed_in d b e is_b in absurd cc
first_lines (c ∷ a) [] x y is_a is_b same = let e : c ≡ 10 = cc in let no = feed_in c a e is_a in absurd cc
first_lines (c ∷ a) (d ∷ b) x y is_a is_b same =
    let here : c ≡ d = cc in
    let behind : a ++ 10 ∷ x ≡ b ++ 10 ∷ y = cc in
    let rest = first_lines a b x y (line-tail c a is_a) (line-tail d b is_b) behind in
    let front : a ≡ b = rest.0 in
    (cc, rest.1)

-- a line, those behind it, and a text
pub lines-text : (l : List ℕ) (ls : List (List ℕ)) (text : List ℕ) → flat_map line_ended (l ∷ ls) ++ text ≡ l ++ 10
    ∷ (flat_map line_ended ls ++ text)
lines-text l ls text = simp append_assoc

pub entries-text : (e : Entry) (es : List Entry) (text : List ℕ)
    → flat_map ended_line (e ∷ es) ++ text ≡ entry_line e ++ 10 ∷ (flat_map ended_line es ++ text)
entries-text e es text = simp append_assoc

-- what stands below the line `journal`
pub below_journal : (ls ms : List (List ℕ)) (x y : List ℕ) → All IsSectionLine ls → All IsSectionLine ms
    → flat_map line_ended ls ++ (codes "journal\n" ++ x) ≡ flat_map line_ended ms ++ (codes "journal\n" ++ y) → x ≡ y
below_journal [] [] x y all_l all_m same = (first_lines (codes "journal") (codes "journal") x y refl refl same).1
below_journal [] (m ∷ ms) x y all_l all_m same =
    let here = All-head IsSectionLine m ms all_m in
    let line = first_lines (codes "journal") m x (flat_map line_ended ms ++ (codes "journal\n" ++ y)) refl here.one (same
    ∙ lines-text m ms (codes "journal\n" ++ y)) in
    absurd (here.other (sym line.0))
below_journal (l ∷ ls) [] x y all_l all_m same =
    let here = All-head IsSectionLine l ls all_l in
    let line = first_lines l (codes "journal") (flat_map line_ended ls ++ (codes "journal\n" ++ x)) y here.one refl
    (sym (lines-text l ls (codes "journal\n" ++ x)) ∙ same) in
    absurd (here.other line.0)
below_journal (l ∷ ls) (m ∷ ms) x y all_l all_m same =
    let before = codes "journal\n" ++ x in
    let behind = codes "journal\n" ++ y in
    let line =
    first_lines l m (flat_map line_ended ls ++ before) (flat_map line_ended ms ++ behind) (All-head IsSectionLine l ls all_l).one
    (All-head IsSectionLine m ms all_m).one
    (sym (lines-text l ls before) ∙ (same ∙ lines-text m ms behind)) in
    below_journal ls ms x y (All-tail IsSectionLine l ls all_l) (All-tail IsSectionLine m ms all_m) line.1

-- the heading of a section, which is not the line above the journal

heading-other : (c : ℕ) → ¬ (codes "caller " ++ decimal c ≡ codes "journal")
heading-other c same = let first : true ≡ false = ap (λ (xs : List ℕ). get_or xs 0 0 == 99) same in cc

pub heading-line : (c : ℕ) → IsSectionLine (codes "caller " ++ decimal c)
heading-line c = record { one = line-append (codes "caller ") (decimal c) refl (decimal-line c); other = heading-other c }

pub section-text : (c : ℕ) (lines more : List (List ℕ))
    → flat_map line_ended ((codes "caller " ++ decimal c) ∷ (lines ++ more)) ≡
    (codes "caller " ++ (decimal c ++ (10 ∷ flat_map line_ended lines))) ++ flat_map line_ended more
section-text c lines more = simp (append_assoc, flat_map-append)

pub sections-lines : (c : ℕ) (texts : List (List ℕ)) → All HasNoJournalLine texts → HasNoJournalLine (sections c texts)
sections-lines c [] all = record { lines = []; text_is = refl; others = All-nil IsSectionLine }
sections-lines c (text ∷ texts) all =
    let here = All-head HasNoJournalLine text texts all in
    let rest = sections-lines (c + 1) texts (All-tail HasNoJournalLine text texts all) in
    record {
      lines = (codes "caller " ++ decimal c) ∷ (here.lines ++ rest.lines);
      text_is =
          ap (λ (xs : List ℕ). (codes "caller " ++ (decimal c ++ (10 ∷ xs))) ++ sections (c + 1) texts) here.text_is
          ∙ (ap (λ (xs : List ℕ). (codes "caller " ++ (decimal c ++ (10 ∷ flat_map line_ended here.lines))) ++ xs) rest.text_is
          ∙ sym (section-text c here.lines rest.lines));
      others = All-cons IsSectionLine (codes "caller " ++ decimal c) (here.lines ++ rest.lines) (heading-line c)
          (All-append IsSectionLine here.lines rest.lines here.others rest.others);
    }

-- the line that ends a report is no entry's
not_the_end : (e : Entry) → ¬ (entry_line e ≡ codes "end")
not_the_end (entry.Take caller l) same = let first : true ≡ false = ap (λ (xs : List ℕ). get_or xs 0 0 == 116) same in cc
not_the_end (entry.Free caller l) same = let first : true ≡ false = ap (λ (xs : List ℕ). get_or xs 0 0 == 102) same in cc
not_the_end (entry.Message caller bus p part parts addr reading bytes h e) same = let first : true ≡ false = ap
    (λ (xs : List ℕ). get_or xs 0 0 == 109) same in cc
not_the_end (entry.Line caller mux level failed) same = let first : true ≡ false = ap (λ (xs : List ℕ). get_or xs 0 0 == 108) same in cc
not_the_end (entry.Settle caller r c) same = let first : true ≡ false = ap (λ (xs : List ℕ). get_or xs 0 0 == 115) same in cc

entries_are_distinct : (es fs : List Entry) → All IsEntry es → All IsEntry fs
    → flat_map ended_line es ++ codes "end\n" ≡ flat_map ended_line fs ++ codes "end\n" → es ≡ fs
entries_are_distinct [] [] all_e all_f same = refl
entries_are_distinct [] (f ∷ fs) all_e all_f same =
    let line = first_lines (codes "end") (entry_line f) [] (flat_map ended_line fs ++ codes "end\n") refl (entry-line f) (same
    ∙ entries-text f fs (codes "end\n")) in
    absurd (not_the_end f (sym line.0))
entries_are_distinct (e ∷ es) [] all_e all_f same =
    let line = first_lines (entry_line e) (codes "end") (flat_map ended_line es ++ codes "end\n") [] (entry-line e) refl
    (sym (entries-text e es (codes "end\n")) ∙ same) in
    absurd (not_the_end e line.0)
entries_are_distinct (e ∷ es) (f ∷ fs) all_e all_f same =
    let line =
    first_lines (entry_line e) (entry_line f) (flat_map ended_line es ++ codes "end\n") (flat_map ended_line fs ++ codes "end\n")
    (entry-line e) (entry-line f)
    (sym (entries-text e es (codes "end\n")) ∙ (same ∙ entries-text f fs (codes "end\n"))) in
    let here = lines_are_distinct e f (All-head IsEntry e es all_e) (All-head IsEntry f fs all_f) line.0 in
    let rest = entries_are_distinct es fs (All-tail IsEntry e es all_e) (All-tail IsEntry f fs all_f) line.1 in
    cc

pub reports_are_distinct : ReportsAreDistinct
reports_are_distinct texts others es fs all_t all_o all_e all_f same =
    let t = sections-lines 0 texts all_t in
    let o = sections-lines 0 others all_o in
    let below = λ (xs : List Entry). flat_map ended_line xs ++ codes "end\n" in
    let at : flat_map line_ended t.lines ++ (codes "journal\n" ++ below es) ≡ flat_map line_ended o.lines
    ++ (codes "journal\n" ++ below fs) =
    rw (← t.text_is, ← o.text_is) same in
    entries_are_distinct es fs all_e all_f (below_journal t.lines o.lines (below es) (below fs) t.others o.others at)
