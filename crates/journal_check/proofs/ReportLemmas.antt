-- The line `journal` of a report is the first of its kind, and the line `end` is no entry's. The inductions go over the lines above.
use Rattle.journal_check.proofs.Cited.{◌≡◌, ℕ, ◌+◌, List, true, false, ◌++◌, get_or, ap, codes, decimal, Entry, entry_line}
use Rattle.std.proofs.Common.{◌==◌}
use Rattle.i2c_base.specs.declared.entry.Entry.TheVariants as entry

-- sections of whole lines without a line `journal` are such themselves
heading-other : (c : ℕ) → codes "caller " ++ decimal c ≡ codes "journal" → ⊥
heading-other c same = absurd (let first : true ≡ false = ap (λ (xs : List ℕ). get_or xs 0 0 == 99) same in cc)

-- the line that ends a report is no entry's
pub not-the-end : (e : Entry) → entry_line e ≡ codes "end" → ⊥
not-the-end (entry.Take caller l) same = absurd (let first : true ≡ false = ap (λ (xs : List ℕ). get_or xs 0 0 == 116) same in cc)
not-the-end (entry.Free caller l) same = absurd (let first : true ≡ false = ap (λ (xs : List ℕ). get_or xs 0 0 == 102) same in cc)
not-the-end (entry.Message caller bus p part parts addr reading bytes h e) same =
    absurd (let first : true ≡ false = ap (λ (xs : List ℕ). get_or xs 0 0 == 109) same in cc)
not-the-end (entry.Line caller mux level failed) same = absurd (let first : true ≡ false = ap
    (λ (xs : List ℕ). get_or xs 0 0 == 108) same in cc)
not-the-end (entry.Settle caller r c) same = absurd (let first : true ≡ false = ap (λ (xs : List ℕ). get_or xs 0 0 == 115) same in cc)
