-- A text has one answer: a fault, or that it is verified. The inductions go over lines.
use Rattle.journal_check.proofs.Cited.{◌≡◌, ◌⊎◌, ℕ, zero, suc, ◌+◌, Bool, true, false, List, [], ◌∷◌, ◌++◌, length, length-append}
use Rattle.journal_check.proofs.Cited.{append_assoc, append-nil, All, drop, take, map, reverse, Some, refl, sym, ◌∙◌, ap, subst, arith, inl}
use Rattle.journal_check.proofs.Cited.{inr, codes, slice_get, MatchBool, flat_map, range_with_len, bytes_eq, bytes_eq-Decides, All-nil}
use Rattle.journal_check.proofs.Cited.{All-cons, All-head, All-tail, reverse-append, take-append-le, take_all, Entry, IsLegal, IsComplete}
use Rattle.journal_check.proofs.Cited.{entry_line, ended_line, IsEntry, IsLine, line_ended, IsSectionLine, entries_of, entry-line}
use Rattle.journal_check.proofs.Cited.{entries_of-lines, IsFirstWrong, IsFirstLeft, Line, Stage, Sections, Entries, Over, FirstOffence}
use Rattle.journal_check.proofs.Cited.{IsEntryLine, lines_of, AreLines, FirstOther, entries-text}
use Rattle.std.proofs.lemmas.Bool.{cases_order}
use Rattle.std.proofs.lemmas.List.{take-append-drop}
use Rattle.bus_spec.specs.Report.{text_of}
use Rattle.bus_laws.proofs.Laws.{settled-told}
use Rattle.journal_laws.specs.Layers.{BelongsTo}
use Rattle.bus_journal.specs.Reports.{HasNoJournalLine}
use Rattle.check_laws.specs.Wrong.{up_to}
use Rattle.journal_check.specs.Faults.{CanBeChecked, Checked, IsFaultIn, IsLegalIn, IsRead, IsVerified, sections_told}
use Rattle.journal_check.specs.Forms.{HasForm}
use Rattle.journal_check.specs.declared.fault.CheckFault.{CheckFault}
use Rattle.journal_check.specs.declared.fault.CheckFault.TheVariants as fault
use Rattle.journal_check.proofs.FormLemmas.{first-cut}
use Rattle.journal_check.proofs.ReportLemmas.{not-the-end}
use Rattle.bus_journal.proofs.ReportLemmas.{below_journal, sections-lines, lines-text}

-- at a line of the journal that isn't `end`
abbrev AtEntry : ℕ → Line → List Line → ℕ → Type 0
AtEntry n l ls f = (IsEntryLine l.text × FirstOffence Entries (n + 1) ls f) ⊎ ((IsEntryLine l.text → ⊥) × (f ≡ n))

-- two offences at a line that may be whole, and another one than those of entries
by-line : {A B C D : Type 0} (t u : Bool) (f g n : ℕ) → (A → C → f ≡ g) → (B → D → f ≡ g) → MatchBool t (MatchBool u A B) (f ≡ n)
    → MatchBool t (MatchBool u C D) (g ≡ n) → f ≡ g
by-line true true f g n first second x y = first x y
by-line true false f g n first second x y = second x y
by-line false u f g n first second x y = x ∙ sym y

by-entry : (n : ℕ) (l : Line) (ls : List Line) (f g : ℕ) → (FirstOffence Entries (n + 1) ls f → FirstOffence Entries (n + 1) ls g → f ≡ g)
    → AtEntry n l ls f → AtEntry n l ls g → f ≡ g
by-entry n l ls f g behind (inl x) (inl y) = behind x.1 y.1
by-entry n l ls f g behind (inl x) (inr y) = absurd (y.0 x.0)
by-entry n l ls f g behind (inr x) (inl y) = absurd (x.0 y.0)
by-entry n l ls f g behind (inr x) (inr y) = x.1 ∙ sym y.1

-- ONE FIRST OFFENCE
one-offence : (stage : Stage) (n : ℕ) (ls : List Line) (f g : ℕ) → FirstOffence stage n ls f → FirstOffence stage n ls g → f ≡ g
one-offence Sections n [] f g a b = a ∙ sym b
one-offence Entries n [] f g a b = a ∙ sym b
one-offence Over n [] f g a b = absurd a
one-offence Sections n (l ∷ ls) f g a b =
    by-line l.ended (bytes_eq l.text (codes "journal")) f g n (one-offence Entries (n + 1) ls f g) (one-offence Sections (n + 1) ls f g) a b
one-offence Entries n (l ∷ ls) f g a b =
    by-line l.ended (bytes_eq l.text (codes "end")) f g n (one-offence Over (n + 1) ls f g)
    (by-entry n l ls f g (one-offence Entries (n + 1) ls f g)) a b
one-offence Over n (l ∷ ls) f g a b = a ∙ sym b

-- A TEXT WITH THE FORM has none
not_equal : (xs ys : List ℕ) → (xs ≡ ys → ⊥) → bytes_eq xs ys ≡ false
not_equal xs ys apart = split (bytes_eq xs ys) refl
  where
    split : (t : Bool) → bytes_eq xs ys ≡ t → t ≡ false
    split true is = absurd (apart ((bytes_eq-Decides xs ys).0 is))
    split false is = refl

line_cut : (stage : Stage) (n f : ℕ) (line more : List ℕ) → IsLine line → FirstOffence stage n (lines_of (line ++ 10 ∷ more)) f
    → FirstOffence stage n ((record { text = line; ended = true }) ∷ lines_of more) f
line_cut stage n f line more is offence = subst (λ (ls : List Line). FirstOffence stage n ls f) (first-cut line more is) offence

section_passed : (n f : ℕ) (line more : List ℕ) → IsSectionLine line → FirstOffence Sections n (lines_of (line ++ 10 ∷ more)) f
    → FirstOffence Sections (n + 1) (lines_of more) f
section_passed n f line more is offence =
    subst (λ (t : Bool). MatchBool t (FirstOffence Entries (n + 1) (lines_of more) f) (FirstOffence Sections (n + 1) (lines_of more) f))
    (not_equal line (codes "journal") is.other) (line_cut Sections n f line more is.one offence)

sections_passed : (ls : List (List ℕ)) (n f : ℕ) (rest : List ℕ) → All IsSectionLine ls
    → FirstOffence Sections n (lines_of (flat_map line_ended ls ++ rest)) f → (m : ℕ) × FirstOffence Sections m (lines_of rest) f
sections_passed [] n f rest all offence = (n, offence)
sections_passed (l ∷ ls) n f rest all offence =
    sections_passed ls (n + 1) f rest (All-tail IsSectionLine l ls all)
    (section_passed n f l (flat_map line_ended ls ++ rest) (All-head IsSectionLine l ls all)
    (subst (λ (xs : List ℕ). FirstOffence Sections n (lines_of xs) f) (lines-text l ls rest) offence))

heading_passed : (n f : ℕ) (rest : List ℕ) → FirstOffence Sections n (lines_of (codes "journal\n" ++ rest)) f
    → FirstOffence Entries (n + 1) (lines_of rest) f
heading_passed n f rest offence =
    subst (λ (t : Bool). MatchBool t (FirstOffence Entries (n + 1) (lines_of rest) f) (FirstOffence Sections (n + 1) (lines_of rest) f))
    ((bytes_eq-Decides (codes "journal") (codes "journal")).1 refl) (line_cut Sections n f (codes "journal") rest refl offence)

entry_passed : (n f : ℕ) (e : Entry) (more : List ℕ) → IsEntry e → FirstOffence Entries n (lines_of (entry_line e ++ 10 ∷ more)) f
    → FirstOffence Entries (n + 1) (lines_of more) f
entry_passed n f e more is offence =
    split (subst (λ (t : Bool). MatchBool t (FirstOffence Over (n + 1) (lines_of more) f) (AtEntry n
    (record { text = entry_line e; ended = true }) (lines_of more) f))
    (not_equal (entry_line e) (codes "end") (not-the-end e)) (line_cut Entries n f (entry_line e) more (entry-line e) offence))
  where
    split : AtEntry n (record { text = entry_line e; ended = true }) (lines_of more) f → FirstOffence Entries (n + 1) (lines_of more) f
    split (inl x) = x.1
    split (inr x) = absurd (x.0 (e, is, refl))

entries_passed : (es : List Entry) (n f : ℕ) (rest : List ℕ) → All IsEntry es
    → FirstOffence Entries n (lines_of (flat_map ended_line es ++ rest)) f → (m : ℕ) × FirstOffence Entries m (lines_of rest) f
entries_passed [] n f rest all offence = (n, offence)
entries_passed (e ∷ es) n f rest all offence =
    entries_passed es (n + 1) f rest (All-tail IsEntry e es all)
    (entry_passed n f e (flat_map ended_line es ++ rest) (All-head IsEntry e es all)
    (subst (λ (xs : List ℕ). FirstOffence Entries n (lines_of xs) f) (entries-text e es rest) offence))

end_passed : (n f : ℕ) → FirstOffence Entries n (lines_of (codes "end\n")) f → ⊥
end_passed n f offence =
    let over : FirstOffence Over (n + 1) (lines_of []) f =
    subst (λ (t : Bool). MatchBool t (FirstOffence Over (n + 1) (lines_of []) f)
    ((IsEntryLine (codes "end") × FirstOffence Entries (n + 1) (lines_of []) f) ⊎ ((IsEntryLine (codes "end") → ⊥) × (f ≡ n))))
    ((bytes_eq-Decides (codes "end") (codes "end")).1 refl) (line_cut Entries n f (codes "end") [] refl offence) in
    over

no-offence : (text front lines : List ℕ) (f : ℕ) → HasForm text front lines → FirstOffence Sections 1 (lines_of text) f → ⊥
no-offence text front lines f form offence =
    let parts : text ≡ flat_map line_ended form.others.lines ++ (codes "journal\n" ++ (flat_map ended_line
    (entries_of lines) ++ codes "end\n")) =
    form.parts ∙ ap (λ (xs : List ℕ). xs ++ (codes "journal\n" ++ (lines ++ codes "end\n"))) form.others.text_is
    ∙ ap (λ (xs : List ℕ). flat_map line_ended form.others.lines ++ (codes "journal\n" ++ (xs ++ codes "end\n"))) form.entries.lines in
    let behind = sections_passed form.others.lines 1 f (codes "journal\n" ++ (flat_map ended_line (entries_of lines) ++ codes "end\n"))
    form.others.others
    (subst (λ (xs : List ℕ). FirstOffence Sections 1 (lines_of xs) f) parts offence) in
    let last = entries_passed (entries_of lines) (behind.0 + 1) f (codes "end\n") form.entries.in_range
    (heading_passed behind.0 f (flat_map ended_line (entries_of lines) ++ codes "end\n") behind.1) in
    end_passed last.0 f last.1

-- ITS PARTS ARE ONE
same_front : (xs ys zs : List ℕ) → xs ++ zs ≡ ys ++ zs → xs ≡ ys
same_front xs ys zs same =
    let counted : length xs + length zs ≡ length ys + length zs =
    sym (length-append xs zs) ∙ ap (λ (ls : List ℕ). length ls) same ∙ length-append ys zs in
    let count : length xs ≡ length ys = omega (arith, counted) in
    sym (take-append-le (length xs) xs zs (omega arith) ∙ take_all (length xs) xs (omega arith))
    ∙ ap (take (length xs)) same ∙ take-append-le (length xs) ys zs (omega (arith, count)) ∙ take_all (length xs) ys (omega (arith, count))

module _ (text : List ℕ) (p q : IsRead text) where
  abbrev below : IsRead text → List ℕ
  below r = r.lines ++ codes "end\n"

  parts_same : p.front ++ (codes "journal\n" ++ below p) ≡ q.front ++ (codes "journal\n" ++ below q)
  parts_same = sym p.form.parts ∙ q.form.parts

  below_same : below p ≡ below q
  below_same =
      below_journal p.form.others.lines q.form.others.lines (below p) (below q) p.form.others.others q.form.others.others
      (ap (λ (xs : List ℕ). xs ++ (codes "journal\n" ++ below p)) (sym p.form.others.text_is) ∙ parts_same
      ∙ ap (λ (xs : List ℕ). xs ++ (codes "journal\n" ++ below q)) q.form.others.text_is)

  pub lines-same : p.lines ≡ q.lines
  lines-same = same_front p.lines q.lines (codes "end\n") below_same

  pub front-same : p.front ≡ q.front
  front-same =
      same_front p.front q.front (codes "journal\n" ++ below q)
      (ap (λ (xs : List ℕ). p.front ++ (codes "journal\n" ++ xs)) (sym below_same) ∙ parts_same)

  pub entries-same : entries_of p.lines ≡ entries_of q.lines
  entries-same = ap entries_of lines-same

-- ONE FIRST LINE THAT DIFFERS
one-other : (n : ℕ) (xs ys : List Line) (f g : ℕ) → FirstOther n xs ys f → FirstOther n xs ys g → f ≡ g
one-other n [] [] f g a b = absurd a
one-other n (x ∷ xs) [] f g a b = a ∙ sym b
one-other n [] (y ∷ ys) f g a b = a ∙ sym b
one-other n (x ∷ xs) (y ∷ ys) f g (inl a) (inl b) = one-other (n + 1) xs ys f g a.1 b.1
one-other n (x ∷ xs) (y ∷ ys) f g (inl a) (inr b) = absurd (b.0 a.0)
one-other n (x ∷ xs) (y ∷ ys) f g (inr a) (inl b) = absurd (a.0 b.0)
one-other n (x ∷ xs) (y ∷ ys) f g (inr a) (inr b) = a.1 ∙ sym b.1

no-other : (n : ℕ) (xs : List Line) (f : ℕ) → FirstOther n xs xs f → ⊥
no-other n [] f other = other
no-other n (x ∷ xs) f (inl a) = no-other (n + 1) xs f a.1
no-other n (x ∷ xs) f (inr a) = a.0 refl

at-drop : (xs : List Entry) (k : ℕ) (y : Entry) (ys : List Entry) → drop k xs ≡ y ∷ ys → slice_get xs k ≡ Some y
at-drop [] zero y ys is = absurd (let f : [] ≡ y ∷ ys = is in cc)
at-drop [] (suc k) y ys is = absurd (let f : [] ≡ y ∷ ys = is in cc)
at-drop (z ∷ zs) zero y ys is = (let f : z ∷ zs ≡ y ∷ ys = is in let e : z ≡ y = cc in ap (λ (w : Entry). Some w) e)
at-drop (z ∷ zs) (suc k) y ys is = at-drop zs k y ys is

module _ (x : Checked) (can : CanBeChecked x)
    (prefix : (later : List Entry) (next : Entry) (past : List Entry) → IsLegal x.board x.callers x.asks (later ++ next ∷ past)
    → (BelongsTo next past → ⊥) → IsLegal x.board x.callers x.asks past) where
  -- ONE FIRST WRONG ENTRY, and none in a legal journal
  one-wrong : (es : List Entry) (i j : ℕ) → IsFirstWrong x.board x.callers x.asks es i → IsFirstWrong x.board x.callers x.asks es j → i ≡ j
  one-wrong es i j a b =
      elim (cases_order i j) [
        | inl same ↦ same
        | inr (inl less) ↦ absurd (a.wrong (b.before i less a.ends))
        | inr (inr more) ↦ absurd (b.wrong (a.before j more b.ends))
      ]

  none-wrong : (es : List Entry) (i : ℕ) → IsLegalIn x es → IsFirstWrong x.board x.callers x.asks es i → ⊥
  none-wrong es i legal first = first.wrong (split (drop (i + 1) es) (sym (take-append-drop (i + 1) es)) refl)
    where
      behind : (next : Entry) (rest : List Entry) → es ≡ take (i + 1) es ++ next ∷ rest → reverse es ≡ reverse rest ++ next ∷ up_to es i
      behind next rest parts =
          ap (λ (xs : List Entry). reverse xs) parts ∙ reverse-append (take (i + 1) es) (next ∷ rest)
          ∙ ap (λ (xs : List Entry). xs ++ up_to es i) (reverse-append (next ∷ []) rest)
          ∙ append_assoc (reverse rest) (next ∷ []) (up_to es i)

      split : (rest : List Entry) → es ≡ take (i + 1) es ++ rest → drop (i + 1) es ≡ rest → IsLegal x.board x.callers x.asks (up_to es i)
      split [] parts is = subst (λ (xs : List Entry). IsLegalIn x xs) (parts ∙ append-nil (take (i + 1) es)) legal
      split (next ∷ rest) parts is =
          prefix (reverse rest) next (up_to es i)
          (subst (λ (past : List Entry). IsLegal x.board x.callers x.asks past) (behind next rest parts) legal)
          (first.ends.behind next (at-drop es (i + 1) next rest is))

  -- ONE LEAST CALLER, and none in a complete journal
  one-left : (es : List Entry) (c d : ℕ) → IsFirstLeft x.board x.callers x.asks es c → IsFirstLeft x.board x.callers x.asks es d → c ≡ d
  one-left es c d a b =
      elim (cases_order c d) [
        | inl same ↦ same
        | inr (inl less) ↦ absurd (a.not_ended (b.before c less))
        | inr (inr more) ↦ absurd (b.not_ended (a.before d more))
      ]

  none-left : (es : List Entry) (c : ℕ) → IsComplete x.board x.callers x.asks (reverse es) → IsFirstLeft x.board x.callers x.asks es c → ⊥
  none-left es c complete first =
      first.not_ended (
        complete.walked c,
        ap (x.asks c) (settled-told x.board x.asks (reverse es) c) ∙ complete.asked c first.low,
      )

  -- A VERIFIED TEXT in its parts
  record IsGood (text : List ℕ) (n : ℕ) : Type 0 where
    read : IsRead text
    legal : IsLegalIn x (entries_of read.lines)
    complete : IsComplete x.board x.callers x.asks (reverse (entries_of read.lines))
    printed : read.front ≡ sections_told x (entries_of read.lines)
    counted : length (entries_of read.lines) ≡ n

  all_whole : (es : List Entry) (cs : List ℕ) → All HasNoJournalLine (map (text_of x.printed es) cs)
  all_whole es [] = All-nil HasNoJournalLine
  all_whole es (c ∷ cs) = All-cons HasNoJournalLine (text_of x.printed es c) (map (text_of x.printed es) cs) (can.whole c _)
      (all_whole es cs)

  good : (text : List ℕ) (n : ℕ) → IsVerified x text n → IsGood text n
  good text n v =
      let lines : List ℕ = flat_map ended_line v.journal in
      let same : entries_of lines ≡ v.journal = entries_of-lines v.journal v.in_range in
      let texts : List (List ℕ) = map (text_of x.printed v.journal) (range_with_len 0 x.callers) in
      record {
        read = record {
          front = sections_told x v.journal;
          lines = lines;
          form = record {
            parts = v.report;
            others = sections-lines 0 texts (all_whole v.journal (range_with_len 0 x.callers));
            entries = subst (λ (es : List Entry). AreLines lines es) (sym same) (record { lines = refl; in_range = v.in_range });
          };
        };
        legal = subst (λ (es : List Entry). IsLegalIn x es) (sym same) v.legal;
        complete = subst (λ (es : List Entry). IsComplete x.board x.callers x.asks (reverse es)) (sym same) v.complete;
        printed = ap (sections_told x) (sym same);
        counted = ap (λ (es : List Entry). length es) same ∙ v.counted;
      }

  pub one-count : (text : List ℕ) (n m : ℕ) → IsVerified x text n → IsVerified x text m → n ≡ m
  one-count text n m v w =
      let p = good text n v in
      let q = good text m w in
      sym p.counted ∙ ap (λ (es : List Entry). length es) (entries-same text p.read q.read) ∙ q.counted

  -- what is said of the entries of one reading is said of those of another
  over : (text : List ℕ) (p q : IsRead text) (P : List Entry → Type 0) → P (entries_of p.lines) → P (entries_of q.lines)
  over text p q P holds = subst P (entries-same text p q) holds

  pub no-fault : (text : List ℕ) (n : ℕ) (f : CheckFault) → IsVerified x text n → IsFaultIn x text f → ⊥
  no-fault text n (fault.Form k) v at = (let p = good text n v in no-offence text p.read.front p.read.lines k p.read.form at)
  no-fault text n (fault.Entry i) v at =
      let p = good text n v in
      none-wrong (entries_of at.read.lines) i (over text p.read at.read (λ es. IsLegalIn x es) p.legal) at.first
  no-fault text n (fault.Open c) v at =
      let p = good text n v in
      none-left (entries_of at.read.lines) c (over text p.read at.read (λ es. IsComplete x.board x.callers x.asks (reverse es)) p.complete)
      at.first
  no-fault text n (fault.Text k) v at =
      let p = good text n v in
      let same : at.read.front ≡ sections_told x (entries_of at.read.lines) =
      front-same text at.read p.read ∙ p.printed ∙ ap (sections_told x) (entries-same text p.read at.read) in
      no-other 1 (lines_of at.read.front) k
      (subst (λ (xs : List ℕ). FirstOther 1 (lines_of at.read.front) (lines_of xs) k) (sym same) at.first)
  no-fault text n fault.Memory v at = at

  -- ONE FAULT
  pub one-fault : (text : List ℕ) (f g : CheckFault) → IsFaultIn x text f → IsFaultIn x text g → f ≡ g
  one-fault text (fault.Form k) (fault.Form l) a b = ap (λ n. fault.Form n) (one-offence Sections 1 (lines_of text) k l a b)
  one-fault text (fault.Form k) (fault.Entry i) a b = absurd (no-offence text b.read.front b.read.lines k b.read.form a)
  one-fault text (fault.Form k) (fault.Open c) a b = absurd (no-offence text b.read.front b.read.lines k b.read.form a)
  one-fault text (fault.Form k) (fault.Text l) a b = absurd (no-offence text b.read.front b.read.lines k b.read.form a)
  one-fault text (fault.Entry i) (fault.Form l) a b = absurd (no-offence text a.read.front a.read.lines l a.read.form b)
  one-fault text (fault.Entry i) (fault.Entry j) a b =
      ap (λ n. fault.Entry n) (one-wrong (entries_of b.read.lines) i j
      (over text a.read b.read (λ es. IsFirstWrong x.board x.callers x.asks es i) a.first) b.first)
  one-fault text (fault.Entry i) (fault.Open c) a b =
      absurd (none-wrong (entries_of a.read.lines) i (over text b.read a.read (λ es. IsLegalIn x es) b.legal) a.first)
  one-fault text (fault.Entry i) (fault.Text l) a b =
      absurd (none-wrong (entries_of a.read.lines) i (over text b.read a.read (λ es. IsLegalIn x es) b.legal) a.first)
  one-fault text (fault.Open c) (fault.Form l) a b = absurd (no-offence text a.read.front a.read.lines l a.read.form b)
  one-fault text (fault.Open c) (fault.Entry i) a b =
      absurd (none-wrong (entries_of b.read.lines) i (over text a.read b.read (λ es. IsLegalIn x es) a.legal) b.first)
  one-fault text (fault.Open c) (fault.Open d) a b =
      ap (λ n. fault.Open n) (one-left (entries_of b.read.lines) c d
      (over text a.read b.read (λ es. IsFirstLeft x.board x.callers x.asks es c) a.first) b.first)
  one-fault text (fault.Open c) (fault.Text l) a b =
      absurd (none-left (entries_of a.read.lines) c (over text b.read a.read (λ es. IsComplete x.board x.callers x.asks
      (reverse es)) b.complete) a.first)
  one-fault text (fault.Text k) (fault.Form l) a b = absurd (no-offence text a.read.front a.read.lines l a.read.form b)
  one-fault text (fault.Text k) (fault.Entry i) a b =
      absurd (none-wrong (entries_of b.read.lines) i (over text a.read b.read (λ es. IsLegalIn x es) a.legal) b.first)
  one-fault text (fault.Text k) (fault.Open d) a b =
      absurd (none-left (entries_of b.read.lines) d (over text a.read b.read (λ es. IsComplete x.board x.callers x.asks
      (reverse es)) a.complete) b.first)
  one-fault text (fault.Text k) (fault.Text l) a b =
      let es : List Entry = entries_of b.read.lines in
      ap (λ n. fault.Text n) (one-other 1 (lines_of b.read.front) (lines_of (sections_told x es)) k l
      (subst (λ (xs : List ℕ). FirstOther 1 (lines_of xs) (lines_of (sections_told x es)) k) (front-same text a.read b.read)
      (over text a.read b.read (λ fs. FirstOther 1 (lines_of a.read.front) (lines_of (sections_told x fs)) k) a.first)) b.first)
  one-fault text fault.Memory g a b = absurd a
  one-fault text f fault.Memory a b = absurd b
