-- The lines of entries: where those of some stand in front of those of others, the entries do. The induction goes over the entries.
use Rattle.journal_check.proofs.Cited.{◌≡◌, ℕ, suc, ◌+◌, ◌<◌, ◌≤◌, Bool, true, false, cond, List, [], ◌∷◌, ◌++◌, length, length-append}
use Rattle.journal_check.proofs.Cited.{append_assoc, All, drop, refl, sym, ◌∙◌, ap, arith, flat_map, flat_map-append, All-head, All-tail}
use Rattle.journal_check.proofs.Cited.{entry_line, ended_line, IsEntry, entry-line, entries-text, eqb-true, caller_of, entry_of, IsLine}
use Rattle.journal_check.proofs.Cited.{first_step, entry-read, Entry}
use Rattle.std.proofs.Common.{◌==◌, ◌&&◌}
use Rattle.bus_journal.proofs.ReportLemmas.{first_lines}
use Rattle.bus_spec.specs.Legal.{is_stepping}
use Rattle.bus_spec.specs.Schedule.{is_settle}
use Rattle.bus_journal.proofs.FrontLemmas.{drop_line}
use Rattle.bus_journal.proofs.Whole.{lines_are_distinct}

pub entry-lines : (e : Entry) (es : List Entry) → flat_map ended_line (e ∷ es) ≡ entry_line e ++ 10 ∷ flat_map ended_line es
entry-lines e es = simp append_assoc

-- these entries stand in front of those
pub record StandsIn (front all : List Entry) (more : List ℕ) : Type 0 where
  pub rest : List Entry
  pub parts : all ≡ front ++ rest
  pub lines : more ≡ flat_map ended_line rest
  pub in_range : All IsEntry rest

none_text : (e : Entry) (es : List Entry) (more : List ℕ) → [] ≡ flat_map ended_line (e ∷ es) ++ more → ⊥
none_text e es more same =
    let counted : length (flat_map ended_line (e ∷ es) ++ more) ≡ length (entry_line e) + length (10 ∷ (flat_map ended_line es ++ more)) =
    ap (λ (xs : List ℕ). length xs) (entries-text e es more) ∙ length-append (entry_line e) (10 ∷ (flat_map ended_line es ++ more)) in
    let none : 0 ≡ length (flat_map ended_line (e ∷ es) ++ more) = ap (λ (xs : List ℕ). length xs) same in
    omega (arith, counted, none)

pub stands-in : (front all : List Entry) (more : List ℕ) → All IsEntry front → All IsEntry all
    → flat_map ended_line all ≡ flat_map ended_line front ++ more → StandsIn front all more
stands-in [] all more in_front in_all same = record { rest = all; parts = refl; lines = sym same; in_range = in_all }
stands-in (t ∷ ts) [] more in_front in_all same = absurd (none_text t ts more same)
stands-in (t ∷ ts) (u ∷ us) more in_front in_all same =
    let lines = first_lines (entry_line u) (entry_line t) (flat_map ended_line us) (flat_map ended_line ts ++ more) (entry-line u)
    (entry-line t)
    (sym (entry-lines u us) ∙ same ∙ entries-text t ts more) in
    let first : u ≡ t = lines_are_distinct u t (All-head IsEntry u us in_all) (All-head IsEntry t ts in_front) lines.0 in
    let behind = stands-in ts us more (All-tail IsEntry t ts in_front) (All-tail IsEntry u us in_all) lines.1 in
    record {
      rest = behind.rest;
      parts = ap (λ (e : Entry). e ∷ us) first ∙ ap (λ (es : List Entry). t ∷ es) behind.parts;
      lines = behind.lines;
      in_range = behind.in_range;
    }

-- a text of lines that isn't empty begins with one
pub some-entry : (es : List Entry) → 0 < length (flat_map ended_line es) → (e : Entry) × (rest : List Entry) × (es ≡ e ∷ rest)
some-entry [] some = absurd (omega (arith, some))
some-entry (e ∷ es) some = (e, es, refl)

pub lines-append : (xs ys : List Entry) → flat_map ended_line (xs ++ ys) ≡ flat_map ended_line xs ++ flat_map ended_line ys
lines-append xs ys = flat_map-append ended_line xs ys

-- a text has at least as many bytes as entries
pub fewer-entries : (es : List Entry) → length es ≤ length (flat_map ended_line es)
fewer-entries [] = omega arith
fewer-entries (e ∷ es) =
    let counted : length (flat_map ended_line (e ∷ es)) ≡ length (entry_line e) + length (10 ∷ flat_map ended_line es) =
    ap (λ (xs : List ℕ). length xs) (entry-lines e es) ∙ length-append (entry_line e) (10 ∷ flat_map ended_line es) in
    let more = fewer-entries es in
    omega (arith, counted, more)

-- THE FIRST STEP, by the lines of its entries
pub second-line : (e : Entry) (es : List Entry) (text : List ℕ) (count : ℕ) → text ≡ flat_map ended_line (e ∷ es)
    → count ≡ length (entry_line e) + 1
    → drop count text ≡ flat_map ended_line es
second-line e es text count lines is =
    ap (λ (k : ℕ). drop k text) is ∙ ap (drop (length (entry_line e) + 1)) (lines ∙ entry-lines e es)
    ∙ ap (λ (k : ℕ). drop k (entry_line e ++ 10 ∷ flat_map ended_line es)) (let f : length (entry_line e) + 1 ≡ suc
    (length (entry_line e)) = omega arith in f)
    ∙ drop_line (entry_line e) (flat_map ended_line es)

pub one-step : (e : Entry) (es : List Entry) (rest : List ℕ) → rest ≡ flat_map ended_line es → (length rest == 0) ≡ true
    → 1 ≡ first_step (e ∷ es)
one-step e [] rest is none = refl
one-step e (s ∷ es) rest is none =
    let zero : length rest ≡ 0 = eqb-true (length rest) 0 none in
    let counted : length rest ≡ length (entry_line s) + length (10 ∷ flat_map ended_line es) =
    ap (λ (xs : List ℕ). length xs) (is ∙ entry-lines s es)
    ∙ length-append (entry_line s) (10 ∷ flat_map ended_line es) in
    absurd (omega (arith, zero, counted))

abbrev pub joined : Entry → Entry → Bool
joined e s = is_stepping e && (is_settle s && (caller_of e == caller_of s))

-- two entries in a row, by whether the second belongs to the first
pub step-by : (e : Entry) (es : List Entry) (rest : List ℕ) → All IsEntry (e ∷ es) → rest ≡ flat_map ended_line es
    → (length rest == 0) ≡ false
    → (line second : List ℕ) → line ≡ entry_line e
    → ((l more : List ℕ) → IsLine l → rest ≡ l ++ 10 ∷ more → second ≡ l)
    → first_step (e ∷ es) ≡ cond (joined (entry_of line) (entry_of second)) 2 1
step-by e [] rest all is some line second line_is reads = absurd (let f : true ≡ false = sym (ap (λ (xs : List ℕ). length xs == 0) is)
    ∙ some in cc)
step-by e (s ∷ es) rest all is some line second line_is reads =
    let next : second ≡ entry_line s = reads (entry_line s) (flat_map ended_line es) (entry-line s) (is ∙ entry-lines s es) in
    let first_is : entry_of line ≡ e = ap entry_of line_is ∙ entry-read e (All-head IsEntry e (s ∷ es) all) in
    let second_is : entry_of second ≡ s = ap entry_of next ∙ entry-read s (All-head IsEntry s es (All-tail IsEntry e (s ∷ es) all)) in
    sym (ap (λ (x : Entry). cond (joined x (entry_of second)) 2 1) first_is ∙ ap (λ (x : Entry). cond (joined e x) 2 1) second_is)
