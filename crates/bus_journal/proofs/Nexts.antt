-- What the next sign of a text tells of the number, or of the bytes, at its front.
use Rattle.bus_journal.proofs.Cited.{◌≡◌, ℕ, List, ◌+◌, ◌-◌, ◌*◌, ◌<◌, ◌≤◌, ◌%◌, true, false, [], ◌∷◌, ◌++◌, length, take, drop, arith}
use Rattle.bus_journal.proofs.Cited.{append_assoc, refl, append-nil, take_all, byte_at, is_digit, is_hex, hex_value}
use Rattle.std.proofs.lemmas.List.{take-append-le}
use Rattle.bus_journal.specs.Guess.{number_from, behind_number, bytes_of, behind_bytes}

pub number_next : (n : ℕ) (text : List ℕ) → is_digit (byte_at 0 text) ≡ true
    → number_from n text ≡ number_from ((10 * n + (byte_at 0 text - 48)) % 65536) (drop 1 text)
unfolding number_from
number_next n [] is = cc
number_next n (c ∷ text) is = rw is

pub number_end : (n : ℕ) (text : List ℕ) → is_digit (byte_at 0 text) ≡ false → number_from n text ≡ n
unfolding number_from
number_end n [] is = refl
number_end n (c ∷ text) is = rw is

pub behind_number_next : (text : List ℕ) → is_digit (byte_at 0 text) ≡ true → behind_number text ≡ behind_number (drop 1 text)
unfolding behind_number
behind_number_next [] is = cc
behind_number_next (c ∷ text) is = rw is

pub behind_number_end : (text : List ℕ) → is_digit (byte_at 0 text) ≡ false → behind_number text ≡ text
unfolding behind_number
behind_number_end [] is = refl
behind_number_end (c ∷ text) is = rw is

pub digit_is_first : (text : List ℕ) → is_digit (byte_at 0 text) ≡ true → length (drop 1 text) < length text
digit_is_first [] is = cc
digit_is_first (c ∷ text) is = omega arith

pub bytes_next : (text : List ℕ) → is_hex (byte_at 1 text) ≡ true → is_hex (byte_at 2 text) ≡ true
    → bytes_of text ≡ (16 * hex_value (byte_at 1 text) + hex_value (byte_at 2 text)) ∷ bytes_of (drop 3 text)
unfolding bytes_of
bytes_next [] high low = cc
bytes_next (a ∷ []) high low = cc
bytes_next (a ∷ b ∷ []) high low = cc
bytes_next (a ∷ b ∷ c ∷ text) high low = rw (high, low)

pub bytes_end : (text : List ℕ) → is_hex (byte_at 1 text) ≡ false → bytes_of text ≡ []
unfolding bytes_of
bytes_end [] high = refl
bytes_end (a ∷ []) high = refl
bytes_end (a ∷ b ∷ []) high = refl
bytes_end (a ∷ b ∷ c ∷ text) high = rw high

pub bytes_end_low : (text : List ℕ) → is_hex (byte_at 1 text) ≡ true → is_hex (byte_at 2 text) ≡ false → bytes_of text ≡ []
unfolding bytes_of
bytes_end_low [] high low = refl
bytes_end_low (a ∷ []) high low = refl
bytes_end_low (a ∷ b ∷ []) high low = refl
bytes_end_low (a ∷ b ∷ c ∷ text) high low = rw (high, low)

pub behind_bytes_next : (text : List ℕ) → is_hex (byte_at 1 text) ≡ true → is_hex (byte_at 2 text) ≡ true
    → behind_bytes text ≡ behind_bytes (drop 3 text)
unfolding behind_bytes
behind_bytes_next [] high low = cc
behind_bytes_next (a ∷ []) high low = cc
behind_bytes_next (a ∷ b ∷ []) high low = cc
behind_bytes_next (a ∷ b ∷ c ∷ text) high low = rw (high, low)

pub behind_bytes_end : (text : List ℕ) → is_hex (byte_at 1 text) ≡ false → behind_bytes text ≡ text
unfolding behind_bytes
behind_bytes_end [] high = refl
behind_bytes_end (a ∷ []) high = refl
behind_bytes_end (a ∷ b ∷ []) high = refl
behind_bytes_end (a ∷ b ∷ c ∷ text) high = rw high

pub behind_bytes_end_low : (text : List ℕ) → is_hex (byte_at 1 text) ≡ true → is_hex (byte_at 2 text) ≡ false → behind_bytes text ≡ text
unfolding behind_bytes
behind_bytes_end_low [] high low = refl
behind_bytes_end_low (a ∷ []) high low = refl
behind_bytes_end_low (a ∷ b ∷ []) high low = refl
behind_bytes_end_low (a ∷ b ∷ c ∷ text) high low = rw (high, low)

pub hex_is_third : (text : List ℕ) → is_hex (byte_at 2 text) ≡ true → length (drop 3 text) < length text
hex_is_third [] low = cc
hex_is_third (a ∷ []) low = cc
hex_is_third (a ∷ b ∷ []) low = cc
hex_is_third (a ∷ b ∷ c ∷ text) low = omega arith

-- of a run that is gathered up to a number of bytes
pub take_one_more : (most byte : ℕ) (bytes all more : List ℕ) → all ≡ byte ∷ more
    → take most ((bytes ++ byte ∷ []) ++ more) ≡ take most (bytes ++ all)
take_one_more most byte bytes all more is = rw (append_assoc, is)

pub take_when_full : (most : ℕ) (bytes all more : List ℕ) → length bytes ≤ most → most ≤ length bytes
    → take most (bytes ++ more) ≡ take most (bytes ++ all)
take_when_full most bytes all more fits full = rw (take-append-le most bytes more full, take-append-le most bytes all full)

pub take_at_end : (most : ℕ) (bytes all : List ℕ) → all ≡ [] → length bytes ≤ most → bytes ≡ take most (bytes ++ all)
take_at_end most bytes all ends fits = rw (ends, append-nil, take_all most bytes fits)
