-- Words read from left to right, by their places.
use Rattle.std.specs.Prelude.{⊤, ◌≡◌, ℕ, Bool, false, List, [], map, slice_get, slice_index_or, length, nat_le, Option, Some, None, Result, Ok, Err, MatchResult, if◌then◌else◌}
use Rattle.std.specs.Str.{bytes_eq}
use denote.Ref.{Bor}
use Rattle.tools.specs.LineSets.{Word, or_refused}
use Rattle.tools.specs.declared.fault.LineFault.{LineFault}
use Rattle.tools.specs.declared.fault.LineFault.TheVariants as line_fault

-- what is read, and then what is read behind it
infixl 10 ◌>>=◌
abbrev pub ◌>>=◌ : {A B : Type 0} → Result A ℕ → (A → Result B ℕ) → Result B ℕ
(Ok x) >>= f = f x
(Err k) >>= f = Err k

-- a fault is the refused word's place, or being out of memory
abbrev pub FaultIs : {A : Type 0} → Result A ℕ → LineFault → Type 0
FaultIs r (line_fault.Word k) = r ≡ Err k
FaultIs r line_fault.Memory = ⊤

-- what is read is given, or a fault
abbrev pub Gives : {A : Type 0} → Result A ℕ → Result A LineFault → Type 0
Gives r result = MatchResult result (λ a. r ≡ Ok a) (FaultIs r)

-- the words as lists
abbrev pub texts : List (Bor Word) → List Word
texts ws = map (λ w. w.now) ws

-- the word at a place, which is empty where there is none
abbrev pub word_at : List Word → ℕ → Word
word_at ws i = slice_index_or ws i []

abbrev pub of_word : {B : Type 0} → (Word → Option B) → Option Word → Option B
of_word of None = None
of_word of (Some w) = of w

-- the word at i, of a class
abbrev pub one_at : {B : Type 0} → (Word → Option B) → List Word → ℕ → Result B ℕ
one_at of ws i = or_refused (of_word of (slice_get ws i)) i

-- whether that very word stands at i
abbrev pub is_some_text : Word → Option Word → Bool
is_some_text text None = false
is_some_text text (Some w) = bytes_eq w text

abbrev pub is_at : Word → List Word → ℕ → Bool
is_at text ws i = is_some_text text (slice_get ws i)

-- no word stands at i
abbrev pub is_past : List Word → ℕ → Bool
is_past ws i = nat_le (length ws) i

abbrev pub over_at : {A : Type 0} → A → List Word → ℕ → Result A ℕ
over_at a ws i = if is_past ws i then Ok a else Err i
