-- The section of a script is whole lines, of which none is `journal`.
use Rattle.caller_core.proofs.Cited.{◌≡◌, ℕ, ◌+◌, true, false, cond, List, [], ◌∷◌, ◌++◌, get_or, codes, Some, None, Result, Ok, Err, refl}
use Rattle.caller_core.proofs.Cited.{sym, ap, subst, ◌∙◌, append_assoc, arith, All, ◌==◌, flat_map-append, flat_map, fold, list_any}
use Rattle.caller_core.proofs.Cited.{All-nil, All-cons, All-head, All-tail, All-append, All-drop, BoardView, Reply, block_limit, IsLine}
use Rattle.caller_core.proofs.Cited.{IsSectionLine, line-append, line_read, words_of, joined_words, lines_of, Cmd, place_after, is_over}
use Rattle.caller_core.proofs.Cited.{HandlesView, Answered, Progress, command_talk, quiet, quiet_front, turn_to, over_with, replied_to}
use Rattle.caller_core.proofs.Cited.{replied, progress, Place, command_of, at_most, lines_read, behind_commands, behind_line_read}
use Rattle.caller_core.proofs.Cited.{commands_or_none, commands_of, command_text, handles_behind, CommandView, ScriptView}
use Rattle.std.specs.Prelude.{◌&&◌, map, take}
use Rattle.std.proofs.lemmas.Bool.{or_from, or_parts}
use Rattle.std.proofs.lemmas.List.Elements.{All-map, All-take}
use Rattle.bus_journal.specs.Reports.{line_ended, HasNoJournalLine}
use Rattle.tools.specs.Words.{begins_with_word, onto_first}
use Rattle.tools.specs.Splits.{is_blank, begins_feed, behind_space}
use Rattle.caller_core.specs.Scripts.{script_read}
use Rattle.caller_core.specs.Sections.{SectionsHaveNoJournalLine}
use Rattle.caller_core.proofs.CommandLines.{HasSectionLines, answers}
use Rattle.tools.proofs.SaysLemmas.{onto_lines}

-- ---- no line feed stands in a line, its words, and what is printed of them

record IsOnto (b : ℕ) (bs : List ℕ) : Type 0 where
  first : (b == 10) ≡ false
  rest : IsLine bs

first_and_rest : (b : ℕ) (bs : List ℕ) → IsLine (b ∷ bs) → IsOnto b bs
first_and_rest b bs h = let p = or_parts (b == 10) (list_any (λ c. c == 10) bs) h in record { first = p.0; rest = p.1 }

lines_are_lines : (text : List ℕ) → All IsLine (lines_of text)
lines_are_lines [] = All-nil IsLine
lines_are_lines (b ∷ bs) =
    let more : All IsLine (lines_of bs) = lines_are_lines bs in
    (elim (b == 10) as (λ t. (b == 10) ≡ t
    → All IsLine (cond t ([] ∷ lines_of bs) (cond ((b == 13) && begins_feed bs) (lines_of bs) (onto_first b (lines_of bs))))) [
      | true ↦ λ is. All-cons IsLine [] (lines_of bs) refl more
      | false ↦ λ is. elim ((b == 13) && begins_feed bs) as
          (λ t. All IsLine (cond t (lines_of bs) (onto_first b (lines_of bs)))) [ true ↦ more | false ↦ onto_lines b (lines_of bs) is more ]
    ]) refl

words_are_lines : (line : List ℕ) → IsLine line → All IsLine (words_of line)
words_are_lines [] h = All-nil IsLine
words_are_lines (b ∷ bs) h =
    let p : IsOnto b bs = first_and_rest b bs h in
    let more : All IsLine (words_of bs) = words_are_lines bs p.rest in
    elim (is_blank b) as (λ t. All IsLine
    (cond t (words_of bs) (cond (begins_with_word is_blank bs) (onto_first b (words_of bs)) ((b ∷ []) ∷ words_of bs)))) [
      | true ↦ more
      | false ↦ elim (begins_with_word is_blank bs) as (λ t. All IsLine (cond t (onto_first b (words_of bs)) ((b ∷ []) ∷ words_of bs))) [
        | true ↦ onto_lines b (words_of bs) p.first more
        | false ↦ All-cons IsLine (b ∷ []) (words_of bs) (or_from _ _ p.first refl) more
      ]
    ]

spaced_line : (ws : List (List ℕ)) → All IsLine ws → IsLine (flat_map behind_space ws)
spaced_line [] h = refl
spaced_line (w ∷ ws) h = line-append (behind_space w) (flat_map behind_space ws) (All-head IsLine w ws h)
    (spaced_line ws (All-tail IsLine w ws h))

joined_line : (ws : List (List ℕ)) → All IsLine ws → IsLine (joined_words ws)
joined_line [] h = refl
joined_line (w ∷ ws) h = line-append w (flat_map behind_space ws) (All-head IsLine w ws h) (spaced_line ws (All-tail IsLine w ws h))

-- ---- the commands of a script

-- its words are a line, and what it prints is lines of a section
record HasLines (c : CommandView) : Type 0 where
  words : IsLine c.echo
  answer : HasSectionLines c.run

behind_one : (b : BoardView) (v : HandlesView) (line : List ℕ) (c : Cmd) (more : Result (List CommandView) Place) (cs : List CommandView)
    → IsLine line
    → ((ds : List CommandView) → more ≡ Ok ds → All HasLines ds)
    → behind_commands (command_of b v line c ∷ []) more ≡ Ok cs → All HasLines cs
behind_one b v line c (Err p) cs is h e = absurd cc
behind_one b v line c (Ok ds) cs is h e =
    let same : command_of b v line c ∷ ds ≡ cs = cc in
    let words : IsLine (joined_words (words_of line)) = joined_line (words_of line) (words_are_lines line is) in
    let has : HasLines (command_of b v line c) = record { words = words; answer = answers b v c } in
    subst (All HasLines) same (All-cons HasLines (command_of b v line c) ds has (h ds refl))

read_lines : (b : BoardView) (number count : ℕ) (ls : List (List ℕ)) (v : HandlesView) (cs : List CommandView) → All IsLine ls
    → lines_read b number count ls v ≡ Ok cs → All HasLines cs
read_lines b number count [] v cs lines e = let same : [] ≡ cs = cc in subst (All HasLines) same (All-nil HasLines)
read_lines b number count (l ∷ ls) v cs lines e =
    let more : All IsLine ls = All-tail IsLine l ls lines in
    (elim (at_most count (line_read (block_limit b) l)) as
    (λ r. behind_line_read b v number l r (lines_read b (number + 1) count ls v) (lines_read b (number + 1) (count + 1) ls) ≡ Ok cs
    → All HasLines cs) [
      | Err word ↦ λ k. absurd cc
      | Ok o ↦ (elim o as (λ x. behind_line_read b v number l (Ok x) (lines_read b (number + 1) count ls v)
          (lines_read b (number + 1) (count + 1) ls) ≡ Ok cs → All HasLines cs) [
            | None ↦ λ k. read_lines b (number + 1) count ls v cs more k
            | Some c ↦ λ k. behind_one b v l c (lines_read b (number + 1) (count + 1) ls (handles_behind b v c)) cs
                (All-head IsLine l ls lines)
                (λ ds h. read_lines b (number + 1) (count + 1) ls (handles_behind b v c) ds more h) k
          ])
    ]) e

have_lines : (r : Result (List CommandView) Place) → ((cs : List CommandView) → r ≡ Ok cs → All HasLines cs)
    → All HasLines (commands_or_none r)
have_lines (Ok cs) h = h cs refl
have_lines (Err p) h = All-nil HasLines

commands_have_lines : (s : ScriptView) → All HasLines (commands_of s)
commands_have_lines s = have_lines (script_read s)
    (λ cs h. read_lines s.board 1 0 (lines_of s.text) [] cs (lines_are_lines s.text) h)

-- ---- those that are over

abbrev OverHasLines : Answered → Type 0
OverHasLines a = HasLines a.command

record HaveLines (p : Progress) : Type 0 where
  over : All OverHasLines p.over
  left : All HasLines p.left

turned : (over : List Answered) (cs : List CommandView) → All OverHasLines over → All HasLines cs → HaveLines (turn_to over cs)
turned over cs done all =
    let front : List CommandView = take (quiet_front cs) cs in
    record {
      over = All-append OverHasLines over (map quiet front) done
          (All-map OverHasLines quiet front (All-take HasLines (quiet_front cs) cs all));
      left = All-drop HasLines (quiet_front cs) cs all;
    }

keeps : (p : Progress) (left : List CommandView) (r : Reply) → HaveLines p → All HasLines left → HaveLines (replied_to p left r)
keeps p [] r h all = h
keeps p (c ∷ cs) r h all =
    elim (is_over (command_talk c) (place_after (command_talk c) (p.own ++ r ∷ []))) as
    (λ b. HaveLines (cond b (turn_to (over_with p c (p.own ++ r ∷ [])) cs) (record p { own = p.own ++ r ∷ [] }))) [
      | true ↦
          let a : Answered = record { command = c; replies = p.own ++ r ∷ [] } in
          turned (p.over ++ a ∷ []) cs
          (All-append OverHasLines p.over (a ∷ []) h.over
          (All-cons OverHasLines a [] (All-head HasLines c cs all) (All-nil OverHasLines)))
          (All-tail HasLines c cs all)
      | false ↦ record { over = h.over; left = h.left }
    ]

goes_on : (p : Progress) (rs : List Reply) → HaveLines p → HaveLines (fold replied p rs)
goes_on p [] h = h
goes_on p (r ∷ rs) h = goes_on (replied p r) rs (keeps p p.left r h h.left)

-- ---- a command with its answer is whole lines

abbrev words_line : Answered → List ℕ
words_line a = codes "> " ++ a.command.echo

abbrev answer_of : Answered → List (List ℕ)
answer_of a = (command_talk a.command).lines a.replies

command_lines : (a : Answered) (rest : List ℕ) → command_text a ++ rest ≡ line_ended (words_line a)
    ++ (flat_map line_ended (answer_of a) ++ rest)
command_lines a rest =
    let echo : List ℕ = a.command.echo in
    let answer : List ℕ = flat_map line_ended (answer_of a) in
    ap (λ x. codes "> " ++ x) (append_assoc echo (10 ∷ answer) rest ∙ sym (append_assoc echo (10 ∷ []) (answer ++ rest)))

words_other : (a : Answered) → words_line a ≡ codes "journal" → ⊥
words_other a e = let h : 62 ≡ 106 = ap (λ xs. get_or xs 0 0) e in omega (arith, h)

section_lines : (done : List Answered) → All OverHasLines done → HasNoJournalLine (flat_map command_text done)
section_lines [] h = record { lines = []; text_is = refl; others = All-nil IsSectionLine }
section_lines (a ∷ done) h =
    let more : HasNoJournalLine (flat_map command_text done) = section_lines done (All-tail OverHasLines a done h) in
    let has : HasLines a.command = All-head OverHasLines a done h in
    let answer : List (List ℕ) = answer_of a in
    record {
      lines = words_line a ∷ (answer ++ more.lines);
      text_is =
          command_lines a (flat_map command_text done)
          ∙ ap (λ x. line_ended (words_line a) ++ (flat_map line_ended answer ++ x)) more.text_is
          ∙ ap (λ x. line_ended (words_line a) ++ x) (sym (flat_map-append line_ended answer more.lines));
      others =
          All-cons IsSectionLine (words_line a) (answer ++ more.lines)
          (record { one = line-append (codes "> ") a.command.echo refl has.words; other = words_other a })
          (All-append IsSectionLine answer more.lines (has.answer a.replies) more.others);
    }

pub no_journal_line : SectionsHaveNoJournalLine
no_journal_line script replies =
    section_lines (progress (commands_of script) replies).over
    (goes_on (turn_to [] (commands_of script)) replies
    (turned [] (commands_of script) (All-nil OverHasLines) (commands_have_lines script))).over
