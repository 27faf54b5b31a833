-- Two texts line by line. The inductions go over the bytes of a line.
use Rattle.journal_check.proofs.Cited.{◌≡◌, ◌⊎◌, ℕ, ◌+◌, ◌<◌, ◌≤◌, Bool, true, false, List, [], ◌∷◌, ◌++◌, length, length-append}
use Rattle.journal_check.proofs.Cited.{append_assoc, append-nil, drop, take, refl, sym, ◌∙◌, ap, subst, arith, inl, inr, ◌==◌, codes}
use Rattle.journal_check.proofs.Cited.{decimal, flat_map, list_any, or_parts, eqb-true, take-append-le, take_all, IsLine, line_ended, Line}
use Rattle.journal_check.proofs.Cited.{lines_of, last_line, FirstOther, GoesOn, GoesOtherwise}
use Rattle.std.proofs.Common.{◌||◌}
use Rattle.std.specs.Prelude.{IfOk, IfErr, Result, Ok, Err}
use Rattle.std.proofs.lemmas.Fmt.{decimal_digit}
use Rattle.journal_check.specs.Texts.{last_byte, IsWhole}
use Rattle.journal_check.proofs.FormLemmas.{first-cut, last-cut, counted_line}

-- WHOLE LINES
last_behind : (b : ℕ) (line more : List ℕ) → last_byte b (line ++ 10 ∷ more) ≡ last_byte 10 more
last_behind b [] more = refl
last_behind b (c ∷ line) more = last_behind c line more

no_feed : (b : ℕ) (text : List ℕ) → (b == 10) ≡ false → IsLine text → last_byte b text ≡ 10 → ⊥
no_feed b [] other is ends = (let e : (b == 10) ≡ (10 == 10) = ap (λ (x : ℕ). x == 10) ends in let f : false ≡ true = sym other ∙ e in cc)
no_feed b (c ∷ text) other is ends =
    let parts = or_parts (c == 10) (list_any (λ x. x == 10) text) is in no_feed c text parts.0 parts.1 ends

pub none-left : (text : List ℕ) → IsLine text → IsWhole text → text ≡ []
none-left [] is whole = refl
none-left (c ∷ text) is whole =
    let parts = or_parts (c == 10) (list_any (λ x. x == 10) text) is in absurd (no_feed c text parts.0 parts.1 whole)

pub whole-lines : (lines : List (List ℕ)) → IsWhole (flat_map line_ended lines)
whole-lines [] = refl
whole-lines (line ∷ lines) =
    ap (λ (xs : List ℕ). last_byte 10 xs) (append_assoc line (10 ∷ []) (flat_map line_ended lines))
    ∙ last_behind 10 line (flat_map line_ended lines) ∙ whole-lines lines

-- SO FAR THEY ARE ALIKE: these lines are due still, and here is what is left of both
pub record IsBeside (due old : List ℕ) (before : ℕ) (rest more : List ℕ) (number : ℕ) : Type 0 where
  pub front : List ℕ
  pub old_is : old ≡ front ++ rest
  pub due_is : due ≡ front ++ more
  pub whole : IsWhole more
  pub few : number + length rest ≤ before + length old
  pub goes : (later : List ℕ) (f : ℕ) → FirstOther number (lines_of rest) (lines_of (more ++ later)) f
      → FirstOther before (lines_of old) (lines_of (due ++ later)) f

-- a text of other lines
first_other : (line text : List ℕ) (ls : List Line) (n : ℕ) → IsLine line → ((more : List ℕ) → text ≡ (line ++ 10 ∷ []) ++ more → ⊥)
    → ((k : List ℕ) × IsLine k × ((r : List ℕ) × (text ≡ k ++ 10 ∷ r))) ⊎ IsLine text
    → FirstOther n (lines_of text) ((record { text = line; ended = true }) ∷ ls) n
first_other line text ls n is other (inl (k, one, (r, cut))) =
    subst (λ (xs : List Line). FirstOther n xs ((record { text = line; ended = true }) ∷ ls) n) (sym (ap lines_of cut ∙ first-cut k r one))
    (inr (
      (λ same. other r (cut ∙ ap (λ (xs : List ℕ). xs ++ 10 ∷ r) (ap (λ (l : Line). l.text) same)
          ∙ sym (append_assoc line (10 ∷ []) r))),
      refl,
    ))
first_other line text ls n is other (inr one) =
    subst (λ (xs : List Line). FirstOther n xs ((record { text = line; ended = true }) ∷ ls) n) (sym (last-cut text one)) (unended text)
  where
    unended : (xs : List ℕ) → FirstOther n (last_line xs) ((record { text = line; ended = true }) ∷ ls) n
    unended [] = refl
    unended (c ∷ xs) = inr ((λ same. (let e : false ≡ true = ap (λ (l : Line). l.ended) same in cc)), refl)

-- a text has a line feed, or none
line_or_none : (text : List ℕ) → ((k : List ℕ) × IsLine k × ((r : List ℕ) × (text ≡ k ++ 10 ∷ r))) ⊎ IsLine text
line_or_none [] = inr refl
line_or_none (c ∷ text) = split (c == 10) refl (line_or_none text)
  where
    split : (t : Bool) → (c == 10) ≡ t → (((k : List ℕ) × IsLine k × ((r : List ℕ) × (text ≡ k ++ 10 ∷ r))) ⊎ IsLine text)
        → ((k : List ℕ) × IsLine k × ((r : List ℕ) × ((c ∷ text) ≡ k ++ 10 ∷ r))) ⊎ IsLine (c ∷ text)
    split true is rest = inl ([], refl, (text, ap (λ (x : ℕ). x ∷ text) (eqb-true c 10 is)))
    split false is (inl (k, one, (r, cut))) =
        inl (c ∷ k, ap (λ (t : Bool). t || list_any (λ x. x == 10) k) is ∙ one, (r, ap (λ (xs : List ℕ). c ∷ xs) cut))
    split false is (inr one) = inr (ap (λ (t : Bool). t || list_any (λ x. x == 10) text) is ∙ one)

module _ (due old : List ℕ) (before : ℕ) (rest more line : List ℕ) (number : ℕ) (beside : IsBeside due old before rest more number)
    (is : IsLine line)
    (cut : more ≡ line ++ 10 ∷ drop (length line + 1) more) where
  abbrev next : List ℕ
  next = drop (length line + 1) more

  due_lines : (later : List ℕ) → lines_of (more ++ later) ≡ (record { text = line; ended = true }) ∷ lines_of (next ++ later)
  due_lines later =
      ap lines_of (ap (λ (xs : List ℕ). xs ++ later) cut ∙ append_assoc line (10 ∷ next) later) ∙ first-cut line (next ++ later) is

  pub due-shorter : length (drop (length line + 1) more) < length more
  due-shorter = (let e : length more ≡ length line + (1 + length next) = ap (λ (xs : List ℕ). length xs) cut ∙ counted_line line next in
      omega (arith, e))

  pub due-within : length line + 1 ≤ length more
  due-within = (let e : length more ≡ length line + (1 + length next) = ap (λ (xs : List ℕ). length xs) cut ∙ counted_line line next in
      omega (arith, e))

  -- the next line is another
  pub differs-here : ((after : List ℕ) → rest ≡ (line ++ 10 ∷ []) ++ after → ⊥) → GoesOtherwise due old before number
  differs-here other = λ later. beside.goes later number
      (subst (λ (xs : List Line). FirstOther number (lines_of rest) xs number) (sym (due_lines later))
      (first_other line rest (lines_of (next ++ later)) number is other (line_or_none rest)))

  -- it is the same
  pub beside-next : (after : List ℕ) → rest ≡ (line ++ 10 ∷ []) ++ after → IsBeside due old before after (drop (length line + 1) more)
      (number + 1)
  beside-next after same =
      let here : rest ≡ line ++ 10 ∷ after = same ∙ append_assoc line (10 ∷ []) after in
      record {
        front = beside.front ++ (line ++ 10 ∷ []);
        old_is = beside.old_is ∙ ap (λ (xs : List ℕ). beside.front ++ xs) same ∙ sym (append_assoc beside.front (line ++ 10 ∷ []) after);
        due_is = beside.due_is ∙ ap (λ (xs : List ℕ). beside.front ++ xs) (cut ∙ sym (append_assoc line (10 ∷ []) next))
            ∙ sym (append_assoc beside.front (line ++ 10 ∷ []) next);
        whole = sym (ap (λ (xs : List ℕ). last_byte 10 xs) cut ∙ last_behind 10 line next) ∙ beside.whole;
        few = (let e : length rest ≡ length line + (1 + length after) = ap (λ (xs : List ℕ). length xs) here ∙ counted_line line after in
            let low = beside.few in omega (arith, e, low));
        goes = λ later f other. beside.goes later f
            (subst (λ (xs : List Line). FirstOther number xs (lines_of (more ++ later)) f) (sym
            (ap lines_of here ∙ first-cut line after is))
            (subst (λ (xs : List Line). FirstOther number ((record { text = line; ended = true }) ∷ lines_of after) xs f)
            (sym (due_lines later))
            (inl (refl, other))));
      }

  front_taken : take (length line + 1) more ≡ line ++ 10 ∷ []
  front_taken =
      let counted : length (line ++ 10 ∷ []) ≡ length line + 1 = length-append line (10 ∷ []) in
      ap (take (length line + 1)) (cut ∙ sym (append_assoc line (10 ∷ []) next))
      ∙ take-append-le (length line + 1) (line ++ 10 ∷ []) next (omega (arith, counted))
      ∙ take_all (length line + 1) (line ++ 10 ∷ []) (omega (arith, counted))

  pub other-here : ((after : List ℕ) → rest ≡ take (length line + 1) more ++ after → ⊥) → GoesOtherwise due old before number
  other-here other = differs-here (λ after same. other after (same ∙ ap (λ (xs : List ℕ). xs ++ after) (sym front_taken)))

  pub same-here : rest ≡ take (length line + 1) more ++ drop (length (take (length line + 1) more)) rest
      → IsBeside due old before (drop (length line + 1) rest) (drop (length line + 1) more) (number + 1)
  same-here same =
      let counted : length (take (length line + 1) more) ≡ length line + 1 =
      ap (λ (xs : List ℕ). length xs) front_taken ∙ length-append line (10 ∷ []) in
      beside-next (drop (length line + 1) rest)
      (same ∙ ap (λ (xs : List ℕ). xs ++ drop (length (take (length line + 1) more)) rest) front_taken
      ∙ ap (λ (k : ℕ). (line ++ 10 ∷ []) ++ drop k rest) counted)

pub goes-on : (due old : List ℕ) (before : ℕ) (rest more : List ℕ) (number : ℕ) → IsBeside due old before rest more number → IsLine more
    → GoesOn due old before rest number
goes-on due old before rest more number beside is =
    let none : more ≡ [] = none-left more is beside.whole in
    let all : due ≡ beside.front = beside.due_is ∙ ap (λ (xs : List ℕ). beside.front ++ xs) none ∙ append-nil beside.front in
    record {
      parts = beside.old_is ∙ ap (λ (xs : List ℕ). xs ++ rest) (sym all);
      few = beside.few;
      goes = λ later f other. beside.goes later f (subst (λ (xs : List ℕ). FirstOther number (lines_of rest) (lines_of (xs ++ later)) f)
          (sym none) other);
    }

-- A SECTION, its heading first
module _ (first second old : List ℕ) (n : ℕ) where
  pub goes-on-then : (mid : List ℕ) (m : ℕ) (new : List ℕ) (k : ℕ) → GoesOn first old n mid m → GoesOn second mid m new k
      → GoesOn (first ++ second) old n new k
  goes-on-then mid m new k one two =
      record {
        parts = one.parts ∙ ap (λ (xs : List ℕ). first ++ xs) two.parts ∙ sym (append_assoc first second new);
        few = (let a = one.few in let b = two.few in omega (arith, a, b));
        goes = λ later f other.
            subst (λ (xs : List ℕ). FirstOther n (lines_of old) (lines_of xs) f) (sym (append_assoc first second later))
            (one.goes (second ++ later) f (two.goes later f other));
      }

  pub otherwise-first : (f : ℕ) → GoesOtherwise first old n f → GoesOtherwise (first ++ second) old n f
  otherwise-first f one later =
      subst (λ (xs : List ℕ). FirstOther n (lines_of old) (lines_of xs) f) (sym (append_assoc first second later)) (one (second ++ later))

  pub otherwise-then : (mid : List ℕ) (m f : ℕ) → GoesOn first old n mid m → GoesOtherwise second mid m f
      → GoesOtherwise (first ++ second) old n f
  otherwise-then mid m f one two later =
      subst (λ (xs : List ℕ). FirstOther n (lines_of old) (lines_of xs) f) (sym (append_assoc first second later))
      (one.goes (second ++ later) f (two later))

-- what follows from what holds of an outcome
pub ok-under : {X E : Type 0} (r : Result X E) (P Q : X → Type 0) → ((x : X) → P x → Q x) → IfOk r P → IfOk r Q
ok-under (Ok x) P Q f h = f x h
ok-under (Err e) P Q f h = tt

pub err-under : {X E : Type 0} (r : Result X E) (P Q : E → Type 0) → ((e : E) → P e → Q e) → IfErr r P → IfErr r Q
err-under (Ok x) P Q f h = tt
err-under (Err e) P Q f h = f e h

abbrev pub under : ℕ → List ℕ → List ℕ
under caller text = codes "caller " ++ (decimal caller ++ (10 ∷ text))

-- the heading of a caller whose number has one digit
pub heading-is : (caller : ℕ) (text : List ℕ) → caller < 10 → (99 ∷ 97 ∷ 108 ∷ 108 ∷ 101 ∷ 114 ∷ 32 ∷ (48 + caller) ∷ 10 ∷ []) ++ text
    ≡ under caller text
heading-is caller text low =
    ap (λ (ds : List ℕ). codes "caller " ++ (ds ++ (10 ∷ text))) (sym (decimal_digit caller low))

-- LINES TOO MANY
pub too-many : (text : List ℕ) (n : ℕ) → (length text == 0) ≡ false → FirstOther n (lines_of text) (lines_of []) n
too-many text n some = split text some (line_or_none text)
  where
    split : (xs : List ℕ) → (length xs == 0) ≡ false → ((k : List ℕ) × IsLine k × ((r : List ℕ) × (xs ≡ k ++ 10 ∷ r))) ⊎ IsLine xs
        → FirstOther n (lines_of xs) (lines_of []) n
    split [] none any = absurd (let f : true ≡ false = none in cc)
    split (c ∷ xs) there (inl (k, one, (r, cut))) =
        subst (λ (ls : List Line). FirstOther n ls (lines_of []) n) (sym (ap lines_of cut ∙ first-cut k r one)) refl
    split (c ∷ xs) there (inr one) = subst (λ (ls : List Line). FirstOther n ls (lines_of []) n) (sym (last-cut (c ∷ xs) one)) refl
