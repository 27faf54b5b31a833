-- A text that is taken in pieces.
use Rattle.i2c_top.proofs.Cited.{◌≡◌, ℕ, ◌+◌, ◌≤◌, List, [], ◌∷◌, ◌++◌, flat_map, refl, take, drop, get_or, codes, Option, Some, None}
use Rattle.i2c_top.proofs.Cited.{length, append-nil, ◌<◌, arith, append_assoc, sym, ap, ◌∙◌, option_map_or, take_more, drop_more}
use Rattle.i2c_top.proofs.Cited.{ended_line, JournalView, HasFront, lines_of}
use Rattle.std.proofs.Common.{length-append}
use Rattle.std.proofs.Math.Seq.{take-add, take-append-add}
use Rattle.std.specs.Option.{option_to_list}
use Rattle.std.proofs.lemmas.Grind.{flat_map-append}
use Rattle.std.proofs.lemmas.List.{take-append-le, take-append-drop}

-- one piece more of what is left
pub pieces_more : (before mid after text rest : List ℕ) (n m : ℕ)
    → rest ≡ drop n text → mid ≡ before ++ take n text → after ≡ mid ++ take m rest → after ≡ before ++ take (n + m) text
pieces_more before mid after text rest n m r h k =
    k ∙ ap (λ x. x ++ take m rest) h ∙ append_assoc before (take n text) (take m rest)
    ∙ ap (λ x. before ++ (take n text ++ take m x)) r ∙ ap (λ x. before ++ x) (sym (take-add n m text))

-- a front of what stands behind a piece that is out
pub front_behind : (before mid after text piece rest : List ℕ) → text ≡ piece ++ rest → mid ≡ before ++ piece → HasFront mid rest after
    → HasFront before text after
front_behind before mid after text piece rest is whole front =
    let n = front.0 in
    let within : length piece + n ≤ length text =
    let l = ap length is ∙ length-append piece rest in let m = front.1 in omega (arith, l, m) in (
      length piece + n,
      within,
      front.2 ∙ (ap (λ (xs : List ℕ). xs ++ take n rest) whole
          ∙ (append_assoc before piece (take n rest)
          ∙ ap (λ (xs : List ℕ). before ++ xs) (sym (take-append-add piece rest n) ∙ ap (take (length piece + n)) (sym is)))),
    )

-- the lines of the last journal after those of the others
whole : (journals rest : List JournalView) (last : Option JournalView) → journals ≡ rest ++ option_to_list last
    → lines_of rest ++ option_map_or (λ (j : JournalView). flat_map ended_line j.entries) last [] ≡ lines_of journals
whole journals rest None parted = append-nil (lines_of rest) ∙ sym (ap lines_of (parted ∙ append-nil rest))
whole journals rest (Some j) parted =
    ap (λ (ls : List ℕ). lines_of rest ++ ls) (sym (append-nil (flat_map ended_line j.entries)))
    ∙ sym (flat_map-append (λ (k : JournalView). flat_map ended_line k.entries) rest (j ∷ [])) ∙ ap lines_of (sym parted)

-- the lines of journals are those of all their entries
reported_lines : (journals : List JournalView) → flat_map ended_line (flat_map (λ (j : JournalView). j.entries) journals)
    ≡ lines_of journals
reported_lines [] = refl
reported_lines (j ∷ js) =
    flat_map-append ended_line j.entries (flat_map (λ (k : JournalView). k.entries) js)
    ∙ ap (λ (ls : List ℕ). flat_map ended_line j.entries ++ ls) (reported_lines js)

-- one journal more
pub lines_more : (journals : List JournalView) (i : ℕ) (d : JournalView) → i < length journals
    → lines_of (take (i + 1) journals) ≡ lines_of (take i journals) ++ flat_map ended_line (get_or journals i d).entries
lines_more journals i d low =
    ap lines_of (take_more journals i d low)
    ∙ flat_map-append (λ (j : JournalView). flat_map ended_line j.entries) (take i journals) (get_or journals i d ∷ [])
    ∙ ap (λ (ls : List ℕ). lines_of (take i journals) ++ ls) (append-nil (flat_map ended_line (get_or journals i d).entries))

-- a front of what stands at a place in a text, of which all before it is out
pub front_within : (before mid after text first piece rest : List ℕ) → text ≡ first ++ (piece ++ rest) → mid ≡ before ++ first
    → HasFront mid piece after → HasFront before text after
front_within before mid after text first piece rest is whole front =
    let n = front.0 in
    let m = front.1 in
    let within : n ≤ length (piece ++ rest) = (let l = length-append piece rest in omega (arith, l, m)) in
    let same : take n (piece ++ rest) ≡ take n piece = take-append-le n piece rest m in
    front_behind before mid after text first (piece ++ rest) is whole (n, within, front.2 ∙ ap (λ (xs : List ℕ). mid ++ xs) (sym same))

-- the lines of journals from a place on
pub lines_split : (journals : List JournalView) (i : ℕ) (d : JournalView) → i < length journals
    → lines_of journals ≡ lines_of (take i journals) ++ (flat_map ended_line (get_or journals i d).entries ++ lines_of
    (drop (i + 1) journals))
lines_split journals i d low =
    ap lines_of (sym (take-append-drop i journals))
    ∙ flat_map-append (λ (j : JournalView). flat_map ended_line j.entries) (take i journals) (drop i journals)
    ∙ ap (λ (js : List JournalView). lines_of (take i journals) ++ lines_of js) (drop_more journals i d low)

-- the pieces of a report, whose last journal stands with the line that ends it
pub reported : (sections front back : List ℕ) (journals rest : List JournalView) (last : Option JournalView)
    → front ≡ sections ++ codes "journal\n" → journals ≡ rest ++ option_to_list last
    → back ≡ option_map_or (λ (j : JournalView). flat_map ended_line j.entries) last [] ++ codes "end\n"
    → front ++ (lines_of rest ++ back) ≡ sections ++ (codes "journal\n"
    ++ (flat_map ended_line (flat_map (λ (j : JournalView). j.entries) journals) ++ codes "end\n"))
reported sections front back journals rest last first parted behind =
    ap (λ (xs : List ℕ). xs ++ (lines_of rest ++ back)) first ∙ append_assoc sections (codes "journal\n") (lines_of rest ++ back)
    ∙ ap (λ (xs : List ℕ). sections ++ (codes "journal\n" ++ xs)) (ap (λ (xs : List ℕ). lines_of rest ++ xs) behind
    ∙ sym (append_assoc (lines_of rest) (option_map_or (λ (j : JournalView). flat_map ended_line j.entries) last []) (codes "end\n"))
    ∙ ap (λ (xs : List ℕ). xs ++ codes "end\n") (whole journals rest last parted ∙ sym (reported_lines journals)))
