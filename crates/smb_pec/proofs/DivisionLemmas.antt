-- Over the long division: the bits that come down are added to what zero bits in their place leave.
use Rattle.std.proofs.Common.{◌≡◌, ℕ, ◌+◌, ◌*◌, ◌/◌, ◌%◌, ◌<◌, ◌^◌, Bool, true, false, [], ◌∷◌, ◌++◌, cond, nat_lt, bit_xor, arith, sym, ap}
use Rattle.std.proofs.Common.{◌∙◌}
use Rattle.std.proofs.lemmas.Nat.{xor_comm, xor_shr, xor_block}
use Rattle.std.proofs.lemmas.Bool.Decides.{nat_tests}
use Rattle.std.proofs.lemmas.List.Sums.{fold-append}
use Rattle.std.specs.Int.Bits.{xor_assoc, xor_zero_l, xor_zero_r}
use Rattle.smb_pec.specs.LongDivision.{DIVISOR, bit_down, byte_down, remainder, CodeRunsAlong}

-- doubling, and a bit after it
doubled : (x y bit : ℕ) → bit < 2 → 2 * bit_xor x y + bit ≡ bit_xor (2 * x) (2 * y + bit)
doubled x y bit small =
    let apart : bit_xor (x * 2 ^ 1 + 0) (y * 2 ^ 1 + bit) ≡ bit_xor x y * 2 ^ 1 + bit_xor 0 bit = xor_block 1 x y 0 bit
    (omega arith) small in
    let left : x * 2 ^ 1 + 0 ≡ 2 * x = omega arith in
    let right : y * 2 ^ 1 + bit ≡ 2 * y + bit = omega arith in
    let over : 2 * bit_xor x y + bit ≡ bit_xor x y * 2 ^ 1 + bit = omega arith in
    over ∙ (ap (λ n. bit_xor x y * 2 ^ 1 + n) (sym (xor_zero_l bit))
    ∙ (sym apart ∙ (ap (λ n. bit_xor n (y * 2 ^ 1 + bit)) left ∙ ap (λ n. bit_xor (2 * x) n) right)))

-- the highest bit of eight is that of x alone
top_is : (x y : ℕ) → y < 128 → bit_xor x y / 128 ≡ x / 128
top_is x y small =
    let none : y / 2 ^ 7 ≡ 0 = omega arith in
    xor_shr x y 7 ∙ (ap (λ n. bit_xor (x / 2 ^ 7) n) none ∙ xor_zero_r (x / 128))

swapped : (a b c : ℕ) → bit_xor (bit_xor a b) c ≡ bit_xor (bit_xor a c) b
swapped a b c = xor_assoc a b c ∙ (ap (λ n. bit_xor a n) (xor_comm b c) ∙ sym (xor_assoc a c b))

-- one bit
bit_down-added : (x y bit : ℕ) → y < 128 → bit < 2 → bit_down (bit_xor x y) bit ≡ bit_xor (bit_down x 0) (2 * y + bit)
bit_down-added x y bit low small =
    let top = top_is x y low in
    let none : 2 * x + 0 ≡ 2 * x = omega arith in
    go (nat_lt (2 * bit_xor x y + bit) 256) (nat_lt (2 * x + 0) 256) (2 * bit_xor x y + bit) (2 * x + 0) (2 * y + bit)
    (grind (arith, nat_tests))
    (doubled x y bit small ∙ ap (λ n. bit_xor n (2 * y + bit)) (sym none))
  where
    go : (s t : Bool) (m n k : ℕ) → s ≡ t → m ≡ bit_xor n k → cond s m (bit_xor m DIVISOR) ≡ bit_xor (cond t n (bit_xor n DIVISOR)) k
    go true true m n k e h = h
    go false false m n k e h = ap (λ j. bit_xor j DIVISOR) h ∙ swapped n k DIVISOR
    go true false m n k e h = grind arith
    go false true m n k e h = grind arith

-- the same where the bits that came before are added already
next : (r x high bit more : ℕ) → r ≡ bit_xor x high → high < 128 → bit < 2 → 2 * high + bit ≡ more
    → bit_down r bit ≡ bit_xor (bit_down x 0) more
next r x high bit more e low small sum =
    ap (λ n. bit_down n bit) e ∙ (bit_down-added x high bit low small ∙ ap (λ n. bit_xor (bit_down x 0) n) sum)

-- eight of them
byte_down-added : (r b : ℕ) → b < 256 → byte_down r b ≡ bit_xor (byte_down r 0) b
byte_down-added r b small =
    let s7 = next r r 0 (b / 128 % 2) (b / 128) (sym (xor_zero_r r)) (omega arith) (omega arith) (omega arith) in
    let s6 = next _ _ (b / 128) (b / 64 % 2) (b / 64) s7 (omega arith) (omega arith) (omega arith) in
    let s5 = next _ _ (b / 64) (b / 32 % 2) (b / 32) s6 (omega arith) (omega arith) (omega arith) in
    let s4 = next _ _ (b / 32) (b / 16 % 2) (b / 16) s5 (omega arith) (omega arith) (omega arith) in
    let s3 = next _ _ (b / 16) (b / 8 % 2) (b / 8) s4 (omega arith) (omega arith) (omega arith) in
    let s2 = next _ _ (b / 8) (b / 4 % 2) (b / 4) s3 (omega arith) (omega arith) (omega arith) in
    let s1 = next _ _ (b / 4) (b / 2 % 2) (b / 2) s2 (omega arith) (omega arith) (omega arith) in
    next _ _ (b / 2) (b / 1 % 2) b s1 (omega arith) (omega arith) (omega arith)

-- one byte more
pub pec_more : CodeRunsAlong
pec_more bytes b small =
    fold-append byte_down 0 (bytes ++ b ∷ []) (0 ∷ [])
    ∙ ap (λ r. byte_down r 0)
    (fold-append byte_down 0 bytes (b ∷ [])
    ∙ (byte_down-added (remainder bytes) b small
    ∙ ap (λ r. bit_xor r b) (sym (fold-append byte_down 0 bytes (0 ∷ [])))))
