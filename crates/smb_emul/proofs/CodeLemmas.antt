-- An error code runs along with the bytes, and stays that of all of them.
use Rattle.std.proofs.Common.{◌≡◌, ℕ, ◌+◌, ◌*◌, ◌<◌, refl, List, [], ◌∷◌, ◌++◌, length, take, get_or, sym, ap, ◌∙◌, append_assoc}
use Rattle.std.proofs.lemmas.List.{take_more}
use Rattle.smb_pec.specs.LongDivision.{pec, pec_with}
use Rattle.smb_pec.proofs.DivisionLemmas.{pec_more}
use Rattle.smb_emul.specs.Codes.{RunsOn}

-- one byte more
pub RunsOn-more : (old : ℕ) (bytes : List ℕ) (i code : ℕ) → i < length bytes → get_or bytes i 0 < 256
    → RunsOn old (take i bytes) code → RunsOn old (take (i + 1) bytes) (pec_with code (get_or bytes i 0))
RunsOn-more old bytes i code within small runs =
    λ before is.
    let byte = get_or bytes i 0 in
    ap (λ n. pec_with n byte) (runs before is)
    ∙ (sym (pec_more (before ++ take i bytes) byte small)
    ∙ ap pec (append_assoc before (take i bytes) (byte ∷ []) ∙ ap (λ xs. before ++ xs) (sym (take_more bytes i 0 within))))

-- a write: its address byte, and its bytes in two pieces
pub pec-write : (addr : ℕ) (head block : List ℕ) (place : ℕ) (seen : List ℕ) (first second third : ℕ)
    → place ≡ addr → seen ≡ head
    → RunsOn 0 (2 * place ∷ []) first → RunsOn first seen second → RunsOn second block third
    → third ≡ pec (2 * addr ∷ (head ++ block))
pec-write addr head block place seen first second third at same begins goes ends =
    ends (2 * place ∷ seen) (goes (2 * place ∷ []) (begins [] refl))
    ∙ (ap (λ n. pec (2 * n ∷ (seen ++ block))) at ∙ ap (λ xs. pec (2 * addr ∷ (xs ++ block))) same)

-- a read behind a write
pub pec-read : (addr : ℕ) (before held : List ℕ) (place code first second : ℕ)
    → place ≡ addr → code ≡ pec before
    → RunsOn code ((2 * place + 1) ∷ []) first → RunsOn first held second
    → second ≡ pec (before ++ (2 * addr + 1) ∷ held)
pec-read addr before held place code first second at is begins ends =
    ends (before ++ (2 * place + 1) ∷ []) (begins before is)
    ∙ (ap pec (append_assoc before ((2 * place + 1) ∷ []) held) ∙ ap (λ n. pec (before ++ (2 * n + 1) ∷ held)) at)
