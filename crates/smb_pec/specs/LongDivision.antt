-- The packet error code as the remainder of a long division of bits, where taking off is xor (SMBus 3.2, section 6.4).
use Rattle.std.specs.Prelude.{◌≡◌, ℕ, ◌+◌, ◌*◌, ◌<◌, List, [], ◌∷◌, ◌++◌, map, fold, nat_lt, bit_xor, if◌then◌else◌}
use Rattle.std.specs.Int.{bit_at}

-- x^8 + x^2 + x + 1
abbrev pub DIVISOR : ℕ
DIVISOR = 0x107

-- the next bit comes down after the remainder, and the divisor is taken off where that has nine bits
abbrev pub bit_down : ℕ → ℕ → ℕ
bit_down r bit = if nat_lt (2 * r + bit) 256 then 2 * r + bit else bit_xor (2 * r + bit) DIVISOR

-- the eight bits of a byte come down, the highest first
abbrev pub byte_down : ℕ → ℕ → ℕ
byte_down r byte = fold bit_down r (map (bit_at byte) (7 ∷ 6 ∷ 5 ∷ 4 ∷ 3 ∷ 2 ∷ 1 ∷ 0 ∷ []))

-- what is left of the bytes
abbrev pub remainder : List ℕ → ℕ
remainder bytes = fold byte_down 0 bytes

-- that of the bytes and eight zero bits
abbrev pub pec : List ℕ → ℕ
pec bytes = remainder (bytes ++ 0 ∷ [])

-- from the code of some bytes to that of one byte more: the byte is added to it, and eight zero bits come down
abbrev pub pec_with : ℕ → ℕ → ℕ
pec_with code byte = byte_down (bit_xor code byte) 0

-- so a code can run along with the bytes
abbrev pub CodeRunsAlong : Type 0
CodeRunsAlong = (bytes : List ℕ) (byte : ℕ) → byte < 256 → pec (bytes ++ byte ∷ []) ≡ pec_with (pec bytes) byte

-- and stays a byte
abbrev pub CodeIsByte : Type 0
CodeIsByte = (code byte : ℕ) → code < 256 → byte < 256 → pec_with code byte < 256
