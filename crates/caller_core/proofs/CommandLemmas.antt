-- The commands that a script has are few, and each is in range. The induction goes over the script's lines.
use Rattle.caller_core.proofs.Cited.{◌≡◌, ℕ, ◌+◌, ◌<◌, ◌≤◌, true, false, cond, List, [], ◌∷◌, length, Option, Some, None, Result, Ok, Err}
use Rattle.caller_core.proofs.Cited.{refl, subst, arith, All, All-nil, All-cons, BoardView, block_limit, line_read, words_of, lines_of}
use Rattle.caller_core.proofs.Cited.{IsInRange, Cmd, HandlesView, handles_behind, CommandView, ScriptView, Place, command_of, at_most}
use Rattle.caller_core.proofs.Cited.{lines_read, behind_commands, behind_line_read, commands_or_none, text_read, commands_of}
use Rattle.std.specs.Prelude.{nat_le}
use Rattle.std.proofs.lemmas.Bool.Decides.{nat_tests}
use Rattle.tools.specs.Lines.{is_command, some_command}
use Rattle.tools.specs.LineSets.{Word, follow_words}
use Rattle.tools.specs.Commands.{script_lines}
use Rattle.tools.proofs.LineLemmas.{reads_lines, means_in_range}
use Rattle.caller_core.proofs.CommandLines.{AsksWithin, HasSectionLines, asks, answers, near_behind}
use Rattle.caller_core.proofs.HandleLemmas.{AreNear, none_near}

-- a command that a line of the grammar means, over some board: its transfers are within the limits, and its lines are those of a
-- section
pub record IsSpoken (c : CommandView) : Type 0 where
  pub asks : AsksWithin c.run
  pub lines : HasSectionLines c.run

spoken : (b : BoardView) (v : HandlesView) (limit : ℕ) (line : List ℕ) (c : Cmd) → IsInRange limit c → AreNear v
    → IsSpoken (command_of b v line c)
spoken b v limit line c range near = record { asks = asks b v limit c range near; lines = answers b v c }

-- a line is read only as what a line of the grammar means
some_in_range : (limit : ℕ) (c : Cmd) (r : Result Cmd ℕ) → ((d : Cmd) → r ≡ Ok d → IsInRange limit d) → some_command r ≡ Ok (Some c)
    → IsInRange limit c
some_in_range limit c (Err k) h e = absurd cc
some_in_range limit c (Ok d) h e = let same : d ≡ c = cc in subst (IsInRange limit) same (h d refl)

line_in_range : (limit : ℕ) (line : List ℕ) (c : Cmd) → line_read limit line ≡ Ok (Some c) → IsInRange limit c
line_in_range limit line c =
    let ws : List Word = words_of line in
    elim (is_command ws) as (λ b. cond b (some_command (follow_words (script_lines limit) 0 ws)) (Ok None) ≡ Ok (Some c)
    → IsInRange limit c) [
      | false ↦ λ e. absurd cc
      | true ↦ λ e. some_in_range limit c (follow_words (script_lines limit) 0 ws)
          (λ d h. means_in_range limit ws d ((reads_lines limit ws d).0 h)) e
    ]

-- the commands that are read behind so many others
pub record AreRead (count : ℕ) (cs : List CommandView) : Type 0 where
  pub fits : All IsSpoken cs
  pub most : count ≤ 1000 → count + length cs ≤ 1000

-- a command after so many others
record IsNext (limit count : ℕ) (c : Cmd) : Type 0 where
  fits : IsInRange limit c
  room : count < 1000

next_of : (limit count : ℕ) (c : Cmd) (r : Result (Option Cmd) ℕ) → ((d : Cmd) → r ≡ Ok (Some d) → IsInRange limit d)
    → at_most count r ≡ Ok (Some c) → IsNext limit count c
next_of limit count c (Ok None) h e = absurd cc
next_of limit count c (Ok (Some d)) h e =
    let past : Result (Option Cmd) ℕ = Err 0 in
    (elim (nat_le 1000 count) as (λ b. nat_le 1000 count ≡ b → cond b past (Ok (Some d)) ≡ Ok (Some c)
    → IsNext limit count c) [
      | true ↦ λ full k. absurd cc
      | false ↦ λ full k. let same : d ≡ c = cc in record {
        fits = subst (IsInRange limit) same (h d refl);
        room =
            grind (arith, nat_tests);
      }
    ]) refl e
next_of limit count c (Err word) h e =
    let past : Result (Option Cmd) ℕ = Err 0 in
    (elim (nat_le 1000 count) as (λ b. cond b past (Err word) ≡ Ok (Some c)
    → IsNext limit count c) [ true ↦ λ k. absurd cc | false ↦ λ k. absurd cc ]) e

-- a command that is read behind others has fewer than the most before it
pub read_room : (count limit : ℕ) (line : List ℕ) (c : Cmd) → at_most count (line_read limit line) ≡ Ok (Some c) → count < 1000
read_room count limit line c e = (next_of limit count c (line_read limit line) (line_in_range limit line) e).room

-- .. and is in range
pub read_in_range : (count limit : ℕ) (line : List ℕ) (c : Cmd) → at_most count (line_read limit line) ≡ Ok (Some c)
    → IsInRange limit c
read_in_range count limit line c e = (next_of limit count c (line_read limit line) (line_in_range limit line) e).fits

behind_one : (b : BoardView) (v : HandlesView) (limit count : ℕ) (line : List ℕ) (c : Cmd) (more : Result (List CommandView) Place)
    (cs : List CommandView) → AreNear v → IsNext limit count c
    → ((ds : List CommandView) → more ≡ Ok ds → AreRead (count + 1) ds) → behind_commands (command_of b v line c ∷ []) more ≡ Ok cs
    → AreRead count cs
behind_one b v limit count line c (Err p) cs near n h e = absurd cc
behind_one b v limit count line c (Ok ds) cs near n h e =
    let rest : AreRead (count + 1) ds = h ds refl in
    let same : command_of b v line c ∷ ds ≡ cs = cc in
    let all : All IsSpoken (command_of b v line c ∷ ds) =
    All-cons IsSpoken (command_of b v line c) ds (spoken b v limit line c n.fits near) rest.fits in
    subst (λ (xs : List CommandView). AreRead count xs) same
    (record { fits = all; most = λ m. let k : count + 1 + length ds ≤ 1000 = rest.most (omega (arith, n.room)) in omega arith })

lines_are_read : (b : BoardView) (number count : ℕ) (ls : List (List ℕ)) (v : HandlesView) (cs : List CommandView) → AreNear v
    → lines_read b number count ls v ≡ Ok cs → AreRead count cs
lines_are_read b number count [] v cs near e =
    let same : [] ≡ cs = cc in subst (λ (xs : List CommandView). AreRead count xs) same
    (record { fits = All-nil IsSpoken; most = λ m. omega arith })
lines_are_read b number count (l ∷ ls) v cs near e =
    (elim (at_most count (line_read (block_limit b) l)) as (λ r. at_most count (line_read (block_limit b) l) ≡ r
    → behind_line_read b v number l r (lines_read b (number + 1) count ls v) (lines_read b (number + 1) (count + 1) ls) ≡ Ok cs
    → AreRead count cs) [
      | Err word ↦ λ h k. absurd cc
      | Ok o ↦ (elim o as (λ x. at_most count (line_read (block_limit b) l) ≡ Ok x
          → behind_line_read b v number l (Ok x) (lines_read b (number + 1) count ls v) (lines_read b (number + 1) (count + 1) ls) ≡ Ok cs
          → AreRead count cs) [
            | None ↦ λ h k. lines_are_read b (number + 1) count ls v cs near k
            | Some c ↦ λ h k.
                let next : IsNext (block_limit b) count c =
                next_of (block_limit b) count c (line_read (block_limit b) l) (line_in_range (block_limit b) l) h in
                behind_one b v (block_limit b) count l c (lines_read b (number + 1) (count + 1) ls (handles_behind b v c)) cs near next
                (λ ds. lines_are_read b (number + 1) (count + 1) ls (handles_behind b v c) ds
                (near_behind b v (block_limit b) c next.fits near)) k
          ])
    ]) refl e

script_is_read : (r : Result (List CommandView) Place) → ((cs : List CommandView) → r ≡ Ok cs → AreRead 0 cs)
    → AreRead 0 (commands_or_none r)
script_is_read (Ok cs) h = h cs refl
script_is_read (Err p) h = record { fits = All-nil IsSpoken; most = λ m. omega arith }

pub text_is_read : (b : BoardView) (text : List ℕ) → AreRead 0 (commands_or_none (text_read b text))
text_is_read b text = script_is_read (text_read b text) (λ cs. lines_are_read b 1 0 (lines_of text) [] cs none_near)

pub commands_are_read : (s : ScriptView) → AreRead 0 (commands_of s)
commands_are_read s = text_is_read s.board s.text

pub text_most : (b : BoardView) (text : List ℕ) → length (commands_or_none (text_read b text)) ≤ 1000
text_most b text = let h : 0 + length (commands_or_none (text_read b text)) ≤ 1000 = (text_is_read b text).most (omega arith) in
    omega arith

pub commands_most : (s : ScriptView) → length (commands_of s) ≤ 1000
commands_most s = text_most s.board s.text
