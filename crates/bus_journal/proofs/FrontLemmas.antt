-- The bytes at the front of a text, one after the other, and its first line.
use Rattle.bus_journal.proofs.Cited.{◌≡◌, ℕ, zero, suc, ◌+◌, ◌<◌, ◌≤◌, ◌==◌, Bool, true, false, List, [], ◌∷◌, ◌++◌, length, take, drop}
use Rattle.bus_journal.proofs.Cited.{refl, sym, ◌∙◌, ap, arith, list_any, length-append, byte_at, is_hex, bytes_of, IsLine, IsFirstByte}
use Rattle.bus_journal.proofs.Cited.{is_byte}
use Rattle.std.proofs.Common.{◌⊎◌, inl, inr, ◌&&◌, ◌||◌, min, Option, Some, None}
use Rattle.std.proofs.lemmas.List.{length-take}
use Rattle.std.proofs.lemmas.Bool.{cases_lt, and_parts}
use Rattle.bus_journal.proofs.Nexts.{bytes_next, bytes_end, bytes_end_low, hex_is_third}
use Rattle.bus_journal.specs.Fronts.{begins_with_byte}
use Rattle.i2c_base.specs.Limits.{MOST_BYTES}

-- neither of two tests, and both
parts : (a b : Bool) → a || b ≡ false → (a ≡ false) × (b ≡ false)
parts false false is = (refl, refl)
parts false true is = cc
parts true b is = cc

pub one_byte_more : (text : List ℕ) → begins_with_byte text ≡ true
    → (length (bytes_of text) ≡ length (bytes_of (drop 3 text)) + 1) × (length (drop 3 text) < length text)
one_byte_more text is =
    let h = and_parts (is_hex (byte_at 1 text)) (is_hex (byte_at 2 text)) is in
    (omega (arith, ap length (bytes_next text h.0 h.1)), hex_is_third text h.1)

pub no_byte_more : (text : List ℕ) → begins_with_byte text ≡ false → length (bytes_of text) ≡ 0
no_byte_more text is = ap length (none (is_hex (byte_at 1 text)) refl (is_hex (byte_at 2 text)) refl is)
  where
    none : (a : Bool) → is_hex (byte_at 1 text) ≡ a → (b : Bool) → is_hex (byte_at 2 text) ≡ b → a && b ≡ false → bytes_of text ≡ []
    none false high b low is = bytes_end text high
    none true high false low is = bytes_end_low text high low
    none true high true low is = cc

pub taken : (bytes : List ℕ) → length (take MOST_BYTES bytes) ≡ min MOST_BYTES (length bytes)
taken bytes = length-take MOST_BYTES bytes

-- the sign after a line
sign_behind : (line more : List ℕ) → byte_at (length line) (line ++ (10 ∷ more)) ≡ 10
sign_behind [] more = refl
sign_behind (c ∷ cs) more = sign_behind cs more

-- no sign of a line is a line feed
no_feed : (line more : List ℕ) (k : ℕ) → IsLine line → k < length line → (byte_at k (line ++ (10 ∷ more)) == 10) ≡ false
no_feed [] more k is low = absurd (omega (arith, low))
no_feed (c ∷ cs) more zero is low = (parts (c == 10) (list_any (λ x. x == 10) cs) is).0
no_feed (c ∷ cs) more (suc k) is low = no_feed cs more k (parts (c == 10) (list_any (λ x. x == 10) cs) is).1 (omega (arith, low))

pub take_line : (line more : List ℕ) → take (length line) (line ++ (10 ∷ more)) ≡ line
take_line [] more = refl
take_line (c ∷ cs) more = ap (λ xs. c ∷ xs) (take_line cs more)

pub drop_line : (line more : List ℕ) → drop (suc (length line)) (line ++ (10 ∷ more)) ≡ more
drop_line [] more = refl
drop_line (c ∷ cs) more = drop_line cs more

-- the first line feed stands behind the first line
pub feed_found : (line more : List ℕ) (found : Option ℕ) → IsLine line → IsFirstByte (is_byte 10) (line ++ (10 ∷ more)) found
    → found ≡ Some (length line)
feed_found line more None is none =
    absurd (none (length line) (omega arith) (omega (arith, length-append line (10 ∷ more))) (ap (λ c. c == 10) (sign_behind line more)))
feed_found line more (Some k) is first = by (cases_lt k (length line))
  where
    by : (k < length line) ⊎ (length line ≤ k) → Some k ≡ Some (length line)
    by (inl low) = absurd (let h : false ≡ true = sym (no_feed line more k is low) ∙ first.1 in cc)
    by (inr high) = by_order (cases_lt (length line) k) high
      where
        by_order : (length line < k) ⊎ (k ≤ length line) → length line ≤ k → Some k ≡ Some (length line)
        by_order (inl past) at = absurd (first.0.before (length line) (omega arith) past (ap (λ c. c == 10) (sign_behind line more)))
        by_order (inr at_most) at = ap (λ n. Some n) (omega (arith, at, at_most))
