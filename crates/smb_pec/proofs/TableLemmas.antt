-- The table has what eight zero bits make of each remainder, and so a byte is one look into it.
use Rattle.std.proofs.Common.{◌≡◌, ℕ, zero, suc, ◌+◌, ◌<◌, true, nat_lt, List, [], ◌∷◌, length, take, map, get_or, bit_xor, refl, sym}
use Rattle.std.proofs.Common.{subst, ap, ◌∙◌, arith}
use Rattle.std.proofs.lemmas.Bool.Decides.{nat_tests}
use Rattle.std.proofs.lemmas.List.{take_more}
use Rattle.std.proofs.lemmas.List.FromFn.{get_or-map-range_with_len}
use Rattle.std.proofs.lemmas.Nat.{xor_of_8}
use Rattle.std.specs.List.{list_all, range_with_len}
use Rattle.smb_pec.specs.LongDivision.{byte_down, pec, pec_with, CodeIsByte}
use Rattle.smb_pec.specs.declared.error_code.TheConstants.{TABLE}
use Rattle.smb_pec.proofs.DivisionLemmas.{pec_more}
use Rattle.std.proofs.lemmas.Bool.{and_parts}

-- computed for all 256 of them
table_is : TABLE ≡ map (λ r. byte_down r 0) (range_with_len 0 256)
table_is = refl

table_at : (r : ℕ) → r < 256 → get_or TABLE r 0 ≡ byte_down r 0
table_at r small = ap (λ t. get_or t r 0) table_is ∙ get_or-map-range_with_len (λ n. byte_down n 0) 0 256 r r 0 small (omega arith)

pub table_with : (code byte place : ℕ) → code < 256 → byte < 256 → place ≡ bit_xor code byte → get_or TABLE place 0 ≡ pec_with code byte
table_with code byte place small fits here = ap (λ n. get_or TABLE n 0) here ∙ table_at (bit_xor code byte) (xor_of_8 code byte small fits)

small_at : (entries : List ℕ) (i : ℕ) → list_all (λ n. nat_lt n 256) entries ≡ true → get_or entries i 0 < 256
small_at [] i all = omega arith
small_at (n ∷ ns) zero all = let small = (and_parts (nat_lt n 256) (list_all (λ n. nat_lt n 256) ns) all).0 in grind (arith, nat_tests)
small_at (n ∷ ns) (suc i) all = small_at ns i (and_parts (nat_lt n 256) (list_all (λ n. nat_lt n 256) ns) all).1

pub code_is_byte : CodeIsByte
code_is_byte code byte small fits =
    subst (λ n. n < 256) (table_with code byte (bit_xor code byte) small fits refl) (small_at TABLE (bit_xor code byte) refl)

-- the code of the bytes before a byte, with it
pub code_more : (bytes : List ℕ) (i code : ℕ) → i < length bytes → get_or bytes i 0 < 256
    → code ≡ pec (take i bytes)
    → pec_with code (get_or bytes i 0) ≡ pec (take (i + 1) bytes)
code_more bytes i code within byte before =
    let byte_is = get_or bytes i 0 in
    ap (λ n. pec_with n byte_is) before
    ∙ (sym (pec_more (take i bytes) byte_is byte) ∙ ap pec (sym (take_more bytes i 0 within)))
