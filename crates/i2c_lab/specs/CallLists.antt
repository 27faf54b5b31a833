-- A list of calls that fail: words between white space, each `ROOT:CALL`, the number of a root and that of a call on its port, in decimal.
use Rattle.std.specs.Prelude.{◌≡◌, ℕ, ◌+◌, ◌-◌, ◌^◌, ◌==◌, nat_le, nat_lt, List, [], ◌∷◌, length, take, drop, Option, Some, None, Result, Ok, Err, option_and_then, if◌then◌else◌}
use Rattle.std.specs.List.{position}
use Rattle.i2c_base.specs.Board.{BoardView}
use Rattle.i2c_top.specs.Numbers.{number_named}
use Rattle.i2c_top.specs.Schedules.{entries_of}
use Rattle.i2c_top.specs.declared.status.Status.{Status}
use Rattle.i2c_top.specs.declared.status.Status.TheVariants as status

-- a list has at most so many words
abbrev pub MOST_WORDS : ℕ
MOST_WORDS = 1000000

-- a call of a root, where there is such a root
abbrev pub call_on : ℕ → Option ℕ → Option ℕ → Option (ℕ × ℕ)
call_on roots (Some root) (Some call) = if nat_lt root roots then Some (root, call) else None
call_on roots _ _ = None

-- .. by the numbers before and after a colon, both at most 2^32 - 1
abbrev pub call_around : ℕ → List ℕ → List ℕ → Option (ℕ × ℕ)
call_around roots root call = call_on roots (number_named 0 (2 ^ 32 - 1) root) (number_named 0 (2 ^ 32 - 1) call)

-- the call that a word names, on a board with so many roots: its first colon parts the two numbers
abbrev pub call_named : ℕ → List ℕ → Option (ℕ × ℕ)
call_named roots word = option_and_then (λ at. call_around roots (take at word) (drop (at + 1) word)) (position (λ b. b == 58) word)

-- the word with this number, from 0, names this call; one word too many names none
abbrev pub call_at : ℕ → ℕ → List ℕ → Option (ℕ × ℕ)
call_at roots index word = if nat_le MOST_WORDS index then None else call_named roots word

-- a call before those that are read after it, or the number of the word that names none
abbrev pub call_then : ℕ → Option (ℕ × ℕ) → Result (List (ℕ × ℕ)) ℕ → Result (List (ℕ × ℕ)) ℕ
call_then index None more = Err index
call_then index (Some call) (Ok calls) = Ok (call ∷ calls)
call_then index (Some call) (Err later) = Err later

-- the calls that these words name, of which the first has this number
abbrev pub calls_from : ℕ → ℕ → List (List ℕ) → Result (List (ℕ × ℕ)) ℕ
calls_from roots index [] = Ok []
calls_from roots index (word ∷ words) = call_then index (call_at roots index word) (calls_from roots (index + 1) words)

-- the calls that a text lists, on a board with so many roots; or the number of its first word that names none
abbrev pub call_list : ℕ → List ℕ → Result (List (ℕ × ℕ)) ℕ
call_list roots text = calls_from roots 0 (entries_of text)

-- over a board a text lists these calls
abbrev pub ListsCalls : BoardView → List ℕ → List (ℕ × ℕ) → Type 0
ListsCalls b text calls = call_list (length b.roots) text ≡ Ok calls

-- this refusal tells the word that names no call
pub record IsBadWord (read : Result (List (ℕ × ℕ)) ℕ) (s : Status) : Type 0 where
  pub word : ℕ
  pub same : s ≡ status.Faults word
  pub fails : read ≡ Err word

abbrev pub IsListFault : BoardView → List ℕ → Status → Type 0
IsListFault b text s = IsBadWord (call_list (length b.roots) text) s
