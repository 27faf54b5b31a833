-- The lines of a text, and how far a reader has come in them without an offence. The inductions go over the bytes of a line.
use Rattle.journal_check.proofs.Cited.{◌≡◌, ◌⊎◌, ℕ, zero, suc, ◌+◌, ◌-◌, ◌<◌, ◌≤◌, Bool, true, false, cond, List, [], ◌∷◌, ◌++◌, length}
use Rattle.journal_check.proofs.Cited.{length-append, append_assoc, append-nil, All, drop, take, Some, None, refl, sym, ◌∙◌, ap, subst}
use Rattle.journal_check.proofs.Cited.{arith, inl, inr, ◌==◌, codes, MatchBool, flat_map, list_any, bytes_eq, or_parts, eqb-true}
use Rattle.journal_check.proofs.Cited.{IsFirstByte, is_byte, flat_map-append, All-nil, All-cons, front_rest, take-append-le, take_all}
use Rattle.journal_check.proofs.Cited.{Entry, entry_line, ended_line, IsEntry, IsLine, line_ended, IsSectionLine, entries_of}
use Rattle.journal_check.proofs.Cited.{entries_of-lines, Line, lines_of, last_line, Stage, Sections, Entries, Over, FirstOffence}
use Rattle.journal_check.proofs.Cited.{IsEntryLine, AreGapsOf, RootGaps, BoardView, AreLines, entries-text}
use Rattle.std.proofs.Common.{min}
use Rattle.std.specs.Prelude.{slice_index}
use Rattle.std.proofs.lemmas.Bool.{or_from, false_from_ne_true}
use Rattle.std.proofs.lemmas.List.Elements.{All-append}
use Rattle.std.proofs.lemmas.List.{length-take}
use Rattle.journal_check.specs.Forms.{lines_from, HeadingAt, EndAt, HasAdded}
use Rattle.journal_check.proofs.LineLemmas.{lines-append}

-- ONE LINE MORE
lines-cut : (front line more : List ℕ) → IsLine line → lines_from front (line ++ 10 ∷ more)
    ≡ (record { text = front ++ line; ended = true }) ∷ lines_of more
lines-cut front [] more is = ap (λ (xs : List ℕ). (let l : Line = record { text = xs; ended = true } in l) ∷ lines_of more)
    (sym (append-nil front))
lines-cut front (c ∷ line) more is =
    let parts = or_parts (c == 10) (list_any (λ x. x == 10) line) is in
    ap (λ (t : Bool). cond t ((record { text = front; ended = true }) ∷ lines_from [] (line ++ 10 ∷ more))
    (lines_from (front ++ c ∷ []) (line ++ 10 ∷ more))) parts.0
    ∙ lines-cut (front ++ c ∷ []) line more parts.1
    ∙ ap (λ (xs : List ℕ). (let l : Line = record { text = xs; ended = true } in l) ∷ lines_of more) (append_assoc front (c ∷ []) line)

pub first-cut : (line more : List ℕ) → IsLine line → lines_of (line ++ 10 ∷ more) ≡ (record { text = line; ended = true }) ∷ lines_of more
first-cut line more is = lines-cut [] line more is

lines-last : (front text : List ℕ) → IsLine text → lines_from front text ≡ last_line (front ++ text)
lines-last front [] is = ap last_line (sym (append-nil front))
lines-last front (c ∷ text) is =
    let parts = or_parts (c == 10) (list_any (λ x. x == 10) text) is in
    ap (λ (t : Bool). cond t ((record { text = front; ended = true }) ∷ lines_from [] text) (lines_from (front ++ c ∷ []) text)) parts.0
    ∙ lines-last (front ++ c ∷ []) text parts.1 ∙ ap last_line (append_assoc front (c ∷ []) text)

pub last-cut : (text : List ℕ) → IsLine text → lines_of text ≡ last_line text
last-cut text is = lines-last [] text is

-- a text without a line feed is an offence, as is no text
unended : (stage : Stage) (n : ℕ) (text : List ℕ) → (stage ≡ Over → ⊥) → FirstOffence stage n (last_line text) n
unended Sections n [] over = refl
unended Entries n [] over = refl
unended Over n [] over = absurd (over refl)
unended Sections n (c ∷ text) over = refl
unended Entries n (c ∷ text) over = refl
unended Over n (c ∷ text) over = absurd (over refl)

pub no-line : (stage : Stage) (n : ℕ) (text : List ℕ) → (stage ≡ Over → ⊥) → IsLine text → FirstOffence stage n (lines_of text) n
no-line stage n text over is = subst (λ (ls : List Line). FirstOffence stage n ls n) (sym (last-cut text is)) (unended stage n text over)

-- BEFORE THE HEADING
pub record IsReading (text rest : List ℕ) (number : ℕ) : Type 0 where
  pub lines : List (List ℕ)
  pub parts : text ≡ flat_map line_ended lines ++ rest
  pub others : All IsSectionLine lines
  pub few : number + length rest ≤ 1 + length text
  pub goes : (f : ℕ) → FirstOffence Sections number (lines_of rest) f → FirstOffence Sections 1 (lines_of text) f

pub counted_line : (line more : List ℕ) → length (line ++ 10 ∷ more) ≡ length line + (1 + length more)
counted_line line more = (let e : length (line ++ 10 ∷ more) ≡ length line + length (10 ∷ more) = length-append line (10 ∷ more) in
    omega (arith, e))

module _ (text rest line : List ℕ) (number : ℕ) (reads : IsReading text rest number) (is : IsLine line)
    (cut : rest ≡ line ++ 10 ∷ drop (length line + 1) rest) where
  abbrev more : List ℕ
  more = drop (length line + 1) rest

  cut_lines : lines_of rest ≡ (record { text = line; ended = true }) ∷ lines_of more
  cut_lines = ap lines_of cut ∙ first-cut line more is

  pub shorter : length (drop (length line + 1) rest) < length rest
  shorter = (let e : length rest ≡ length line + (1 + length more) = ap (λ (xs : List ℕ). length xs) cut ∙ counted_line line more in
      omega (arith, e))

  pub reads-other : bytes_eq line (codes "journal") ≡ false → (line ≡ codes "journal" → ⊥) → IsReading text (drop (length line + 1) rest)
      (number + 1)
  reads-other other apart =
      record {
        lines = reads.lines ++ line ∷ [];
        parts = reads.parts ∙ ap (λ (xs : List ℕ). flat_map line_ended reads.lines ++ xs) cut
            ∙ sym (ap (λ (xs : List ℕ). xs ++ more) (flat_map-append line_ended reads.lines (line ∷ []))
            ∙ append_assoc (flat_map line_ended reads.lines) (flat_map line_ended (line ∷ [])) more
            ∙ ap (λ (xs : List ℕ). flat_map line_ended reads.lines ++ xs) one);
        others = All-append IsSectionLine reads.lines (line ∷ []) reads.others (All-cons IsSectionLine line []
            (record { one = is; other = apart }) (All-nil IsSectionLine));
        few = (let low = shorter in let before = reads.few in omega (arith, low, before));
        goes = λ f first. reads.goes f (subst (λ (ls : List Line). FirstOffence Sections number ls f) (sym cut_lines)
            (subst (λ (t : Bool). MatchBool t (FirstOffence Entries (number + 1) (lines_of more) f)
            (FirstOffence Sections (number + 1) (lines_of more) f)) (sym other) first));
      }
    where
      one : flat_map line_ended (line ∷ []) ++ more ≡ line ++ 10 ∷ more
      one = simp append_assoc

  pub heading-at : bytes_eq line (codes "journal") ≡ true → line ≡ codes "journal" → (at : ℕ)
      → at ≡ length text - length (drop (length line + 1) rest)
      → HeadingAt text at (number + 1)
  heading-at same heading at is_at =
      let front : List ℕ = flat_map line_ended reads.lines in
      let whole : text ≡ (flat_map line_ended reads.lines ++ codes "journal\n") ++ more =
      reads.parts ∙ ap (λ (xs : List ℕ). flat_map line_ended reads.lines ++ xs) (cut ∙ ap (λ (xs : List ℕ). xs ++ 10 ∷ more) heading)
      ∙ sym (append_assoc (flat_map line_ended reads.lines) (codes "journal\n") more) in
      let counted : length text ≡ length (flat_map line_ended reads.lines ++ codes "journal\n") + length more =
      ap (λ (xs : List ℕ). length xs) whole ∙ length-append (flat_map line_ended reads.lines ++ codes "journal\n") more in
      let place : at ≡ length (flat_map line_ended reads.lines ++ codes "journal\n") = omega (arith, is_at, counted) in
      let behind : drop at text ≡ more = ap (λ (k : ℕ). drop k text) place
      ∙ front_rest text (flat_map line_ended reads.lines ++ codes "journal\n") more whole in
      record {
        sections = flat_map line_ended reads.lines;
        parts = whole ∙ append_assoc (flat_map line_ended reads.lines) (codes "journal\n") more
            ∙ ap (λ (xs : List ℕ). flat_map line_ended reads.lines ++ (codes "journal\n" ++ xs)) (sym behind);
        others = record { lines = reads.lines; text_is = refl; others = reads.others };
        within = omega (arith, place, counted);
        few = (let low = shorter in let before = reads.few in omega (arith, low, before));
        goes = λ f first. reads.goes f (subst (λ (ls : List Line). FirstOffence Sections number ls f) (sym cut_lines)
            (subst (λ (t : Bool). MatchBool t (FirstOffence Entries (number + 1) (lines_of more) f)
            (FirstOffence Sections (number + 1) (lines_of more) f)) (sym same)
            (subst (λ (xs : List ℕ). FirstOffence Entries (number + 1) (lines_of xs) f) behind first)));
      }

-- IN THE JOURNAL: so far these are the lines of entries, and the gaps are what they tell
pub record IsTelling (b : BoardView) (text rest : List ℕ) (first number : ℕ) (gaps : List RootGaps) : Type 0 where
  pub es : List Entry
  pub in_range : All IsEntry es
  pub parts : text ≡ flat_map ended_line es ++ rest
  pub few : number + length rest ≤ first + length text
  pub goes : (f : ℕ) → FirstOffence Entries number (lines_of rest) f → FirstOffence Entries first (lines_of text) f
  pub told : AreGapsOf b es gaps

-- something after the line `end` is an offence
over_last : (n : ℕ) (xs : List ℕ) (d : ℕ) → FirstOffence Over n (last_line (xs ++ d ∷ [])) n
over_last n [] d = refl
over_last n (x ∷ xs) d = refl

over_on : (n : ℕ) (text xs : List ℕ) (d : ℕ) → FirstOffence Over n (lines_from (xs ++ d ∷ []) text) n
over_on n [] xs d = over_last n xs d
over_on n (e ∷ text) xs d = split (over_on n text (xs ++ d ∷ []) e) (e == 10)
  where
    split : (offends : FirstOffence Over n (lines_from ((xs ++ d ∷ []) ++ e ∷ []) text) n) → (t : Bool)
        → FirstOffence Over n (cond t ((record { text = xs ++ d ∷ []; ended = true }) ∷ lines_from [] text)
        (lines_from ((xs ++ d ∷ []) ++ e ∷ []) text)) n
    split offends true = refl
    split offends false = offends

over_some : (c : ℕ) (text : List ℕ) (n : ℕ) → FirstOffence Over n (lines_from [] (c ∷ text)) n
over_some c text n = split (c == 10)
  where
    split : (t : Bool) → FirstOffence Over n (cond t ((record { text = []; ended = true }) ∷ lines_from [] text)
        (lines_from (c ∷ []) text)) n
    split true = refl
    split false = over_on n text [] c

over_more : (text : List ℕ) (n : ℕ) → (length text == 0) ≡ false → FirstOffence Over n (lines_of text) n
over_more [] n some = absurd (let f : true ≡ false = some in cc)
over_more (c ∷ text) n some = over_some c text n

no_text : (text : List ℕ) → (length text == 0) ≡ true → text ≡ []
no_text [] none = refl
no_text (c ∷ text) none = absurd (let zero : length (c ∷ text) ≡ 0 = eqb-true (length (c ∷ text)) 0 none in omega (arith, zero))

module _ (b : BoardView) (text rest line : List ℕ) (first number : ℕ) (gaps : List RootGaps)
    (tells : IsTelling b text rest first number gaps) (is : IsLine line)
    (cut : rest ≡ line ++ 10 ∷ drop (length line + 1) rest) where
  abbrev next : List ℕ
  next = drop (length line + 1) rest

  next_lines : lines_of rest ≡ (record { text = line; ended = true }) ∷ lines_of next
  next_lines = ap lines_of cut ∙ first-cut line next is

  pub next-shorter : length (drop (length line + 1) rest) < length rest
  next-shorter = (let e : length rest ≡ length line + (1 + length next) = ap (λ (xs : List ℕ). length xs) cut ∙ counted_line line next in
      omega (arith, e))

  abbrev AtLine : Bool → ℕ → Type 0
  AtLine t f = MatchBool t (FirstOffence Over (number + 1) (lines_of next) f)
      ((IsEntryLine line × FirstOffence Entries (number + 1) (lines_of next) f) ⊎ ((IsEntryLine line → ⊥) × (f ≡ number)))

  at_line : (t : Bool) (f : ℕ) → bytes_eq line (codes "end") ≡ t → AtLine t f → FirstOffence Entries first (lines_of text) f
  at_line t f test offence =
      tells.goes f (subst (λ (ls : List Line). FirstOffence Entries number ls f) (sym next_lines)
      (subst (λ (x : Bool). AtLine x f) (sym test) offence))

  pub not-an-entry : bytes_eq line (codes "end") ≡ false → (IsEntryLine line → ⊥) → FirstOffence Entries first (lines_of text) number
  not-an-entry test none = at_line false number test (inr (none, refl))

  pub behind-end : bytes_eq line (codes "end") ≡ true → (length (drop (length line + 1) rest) == 0) ≡ false
      → FirstOffence Entries first (lines_of text) (number + 1)
  behind-end test some = at_line true (number + 1) test (over_more next (number + 1) some)

  pub tells-more : (new : List RootGaps) → bytes_eq line (codes "end") ≡ false → HasAdded b line gaps new
      → IsTelling b text (drop (length line + 1) rest) first (number + 1) new
  tells-more new test added =
      record {
        es = tells.es ++ added.entry ∷ [];
        in_range = All-append IsEntry tells.es (added.entry ∷ []) tells.in_range (All-cons IsEntry added.entry [] added.in_range
            (All-nil IsEntry));
        parts = tells.parts ∙ ap (λ (xs : List ℕ). flat_map ended_line tells.es ++ xs) (cut
            ∙ ap (λ (xs : List ℕ). xs ++ 10 ∷ next) (sym added.line_is) ∙ sym one)
            ∙ sym (append_assoc (flat_map ended_line tells.es) (flat_map ended_line (added.entry ∷ [])) next)
            ∙ ap (λ (xs : List ℕ). xs ++ next) (sym (lines-append tells.es (added.entry ∷ [])));
        few = (let low = next-shorter in let before = tells.few in omega (arith, low, before));
        goes = λ f offence. at_line false f test (inl ((added.entry, added.in_range, added.line_is), offence));
        told = added.more tells.es tells.told;
      }
    where
      one : flat_map ended_line (added.entry ∷ []) ++ next ≡ entry_line added.entry ++ 10 ∷ next
      one = entries-text added.entry [] next

  pub end-at : line ≡ codes "end" → (length (drop (length line + 1) rest) == 0) ≡ true → (at : ℕ) → at ≡ length text - length rest
      → EndAt text at (entries_of (take at text)) × AreGapsOf b (entries_of (take at text)) gaps
  end-at ends none at is_at =
      let all : text ≡ flat_map ended_line tells.es ++ codes "end\n" =
      tells.parts ∙ ap (λ (xs : List ℕ). flat_map ended_line tells.es ++ xs)
      (cut ∙ ap (λ (xs : List ℕ). line ++ 10 ∷ xs) (no_text next none) ∙ ap (λ (xs : List ℕ). xs ++ 10 ∷ []) ends) in
      let left : length text ≡ length (flat_map ended_line tells.es) + length rest =
      ap (λ (xs : List ℕ). length xs) tells.parts ∙ length-append (flat_map ended_line tells.es) rest in
      let place : at ≡ length (flat_map ended_line tells.es) = omega (arith, is_at, left) in
      let front : take at text ≡ flat_map ended_line tells.es =
      ap (λ (k : ℕ). take k text) place ∙ ap (take (length (flat_map ended_line tells.es))) all
      ∙ take-append-le (length (flat_map ended_line tells.es)) (flat_map ended_line tells.es) (codes "end\n") (omega arith)
      ∙ take_all (length (flat_map ended_line tells.es)) (flat_map ended_line tells.es) (omega arith) in
      let same : entries_of (take at text) ≡ tells.es = ap entries_of front ∙ entries_of-lines tells.es tells.in_range in (
        record {
          within = omega (arith, place, left);
          parts = all ∙ ap (λ (xs : List ℕ). xs ++ codes "end\n") (sym front);
          entries = subst (λ (xs : List Entry). AreLines (take at text) xs) (sym same)
              (record { lines = front; in_range = tells.in_range });
        },
        subst (λ (xs : List Entry). AreGapsOf b xs gaps) (sym same) tells.told,
      )

-- THE FIRST LINE FEED
parted : (text : List ℕ) (k : ℕ) → k < length text → ((i : ℕ) → i < k → (slice_index text i == 10) ≡ true → ⊥)
    → (slice_index text k == 10) ≡ true
    → IsLine (take k text) × (text ≡ take k text ++ 10 ∷ drop (suc k) text)
parted [] k low before at = absurd (omega (arith, low))
parted (c ∷ text) zero low before at = (refl, ap (λ (x : ℕ). x ∷ text) (eqb-true c 10 at))
parted (c ∷ text) (suc k) low before at =
    let more = parted text k (omega (arith, low)) (λ i less. before (suc i) (omega (arith, less))) at in (
      or_from (c == 10) (list_any (λ x. x == 10) (take k text)) (false_from_ne_true (c == 10) (before 0 (omega arith))) more.0,
      ap (λ (xs : List ℕ). c ∷ xs) more.1,
    )

pub line-found : (text : List ℕ) (k : ℕ) → IsFirstByte (is_byte 10) text (Some k)
    → IsLine (take k text) × (text ≡ take k text ++ 10 ∷ drop (length (take k text) + 1) text)
line-found text k first =
    let low : k < length text = first.0.high in
    let at = parted text k low (λ i less. first.0.before i (omega arith) less) first.1 in
    let all : length (take k text) ≡ min k (length text) = length-take k text in
    (at.0, at.1 ∙ ap (λ (n : ℕ). take k text ++ 10 ∷ drop n text) (let e : suc k ≡ length (take k text) + 1 = omega (arith, all, low) in e))

pub none-found : (text : List ℕ) → IsFirstByte (is_byte 10) text None → IsLine text
none-found [] none = refl
none-found (c ∷ text) none =
    or_from (c == 10) (list_any (λ x. x == 10) text) (false_from_ne_true (c == 10) (none 0 (omega arith) (omega arith)))
    (none-found text (λ i low high. none (suc i) (omega arith) (omega (arith, high))))
