-- A text of whole lines is the lines in it, and one more at its end is one more of them.
use Rattle.tools.proofs.Cited.{◌≡◌, ℕ, true, false, List, [], ◌∷◌, ◌++◌, cond, refl, sym, ap, ◌∙◌, append_assoc, append-nil, ◌==◌, flat_map}
use Rattle.tools.proofs.Cited.{list_any, or_parts, All-nil, All-cons, All-head, All-tail, All-append, IsLine, line_ended, onto_first}
use Rattle.std.specs.List.{All}
use Rattle.std.proofs.lemmas.Bool.{or_from}
use Rattle.std.proofs.lemmas.Grind.{flat_map-append}
use Rattle.tools.specs.Says.{whole_lines}

-- a line with its end comes first
ended_first : (line rest : List ℕ) → IsLine line → whole_lines (line ++ 10 ∷ rest) ≡ line ∷ whole_lines rest
ended_first [] rest is = refl
ended_first (b ∷ bs) rest is =
    let p = or_parts (b == 10) (list_any (λ c. c == 10) bs) is in
    ap (λ t. cond t ([] ∷ whole_lines (bs ++ 10 ∷ rest)) (onto_first b (whole_lines (bs ++ 10 ∷ rest)))) p.0
    ∙ ap (onto_first b) (ended_first bs rest p.1)

all_lines : (ls : List (List ℕ)) → All IsLine ls → whole_lines (flat_map line_ended ls) ≡ ls
all_lines [] h = refl
all_lines (l ∷ ls) h =
    ap whole_lines (append_assoc l (10 ∷ []) (flat_map line_ended ls)) ∙ ended_first l (flat_map line_ended ls) (All-head IsLine l ls h)
    ∙ ap (λ xs. l ∷ xs) (all_lines ls (All-tail IsLine l ls h))

-- whatever the text, no line feed stands in its lines
pub onto_lines : (b : ℕ) (ls : List (List ℕ)) → (b == 10) ≡ false → All IsLine ls → All IsLine (onto_first b ls)
onto_lines b [] e h = All-cons IsLine (b ∷ []) [] (or_from _ _ e refl) (All-nil IsLine)
onto_lines b (l ∷ ls) e h = All-cons IsLine (b ∷ l) ls (or_from _ _ e (All-head IsLine l ls h)) (All-tail IsLine l ls h)

are_lines : (text : List ℕ) → All IsLine (whole_lines text)
are_lines [] = All-nil IsLine
are_lines (b ∷ bs) =
    (elim (b == 10) as (λ t. (b == 10) ≡ t → All IsLine (cond t ([] ∷ whole_lines bs) (onto_first b (whole_lines bs)))) [
      | true ↦ λ is. All-cons IsLine [] (whole_lines bs) refl (are_lines bs)
      | false ↦ λ is. onto_lines b (whole_lines bs) is (are_lines bs)
    ]) refl

-- a line more after a text of whole lines
text_more : (text line : List ℕ) → flat_map line_ended (whole_lines text) ≡ text
    → flat_map line_ended (whole_lines text ++ line ∷ []) ≡ (text ++ line) ++ 10 ∷ []
text_more text line whole =
    flat_map-append line_ended (whole_lines text) (line ∷ []) ∙ ap (λ t. t ++ flat_map line_ended (line ∷ [])) whole
    ∙ ap (λ t. text ++ t) (append-nil (line_ended line)) ∙ sym (append_assoc text line (10 ∷ []))

pub lines_more : (text line : List ℕ) → flat_map line_ended (whole_lines text) ≡ text → IsLine line
    → whole_lines ((text ++ line) ++ 10 ∷ []) ≡ whole_lines text ++ line ∷ []
lines_more text line whole is =
    ap whole_lines (sym (text_more text line whole))
    ∙ all_lines (whole_lines text ++ line ∷ [])
    (All-append IsLine (whole_lines text) (line ∷ []) (are_lines text) (All-cons IsLine line [] is (All-nil IsLine)))

pub whole_more : (text line : List ℕ) → flat_map line_ended (whole_lines text) ≡ text → IsLine line
    → flat_map line_ended (whole_lines ((text ++ line) ++ 10 ∷ [])) ≡ (text ++ line) ++ 10 ∷ []
whole_more text line whole is = ap (flat_map line_ended) (lines_more text line whole is) ∙ text_more text line whole
