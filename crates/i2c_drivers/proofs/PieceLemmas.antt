-- The pieces of reads and writes: those of a write are its bytes. The induction goes over the pieces.
use Rattle.std.proofs.Common.{◌≡◌, ℕ, zero, suc, ◌+◌, ◌-◌, ◌*◌, ◌/◌, ◌<◌, ◌≤◌, min, max, ◌++◌, length, take, sym, ap, ◌∙◌, add-one, arith}
use Rattle.std.proofs.Math.Seq.{take-add}
use Rattle.std.proofs.lemmas.List.{take_all}
use Rattle.i2c_base.specs.declared.board.Size.{Size}
use Rattle.i2c_base.specs.declared.board.Size.TheVariants.{C02, C32, C256}
use Rattle.i2c_spec.specs.Targets.EepromDevice.{page_of_eeprom}
use Rattle.tools.specs.Tables.{parts}
use Rattle.i2c_drivers.specs.At24.{write_begin, write_bytes, write_end, write_pieces}
use Rattle.i2c_drivers.specs.Laws.{PiecesAreTheRead, PiecesAreTheWrite, PiecesHaveBytes, PiecesKeepToPages}
use Rattle.i2c_drivers.specs.Pages.{IsPageWrite, PageWriteView}

pub read_follows : PiecesAreTheRead
read_follows r piece within = omega (arith, within)

-- ---- where a piece begins and ends, for each size of page

abbrev begin_at : Size → (o n p : ℕ) → ℕ
begin_at s o n p = max o (page_of_eeprom s * (o / page_of_eeprom s + p))

abbrev end_at : Size → (o n p : ℕ) → ℕ
end_at s o n p = min (o + n) (page_of_eeprom s * (o / page_of_eeprom s + p + 1))

abbrev pieces_of : Size → (o n : ℕ) → ℕ
pieces_of s o n = (o + n - 1) / page_of_eeprom s - o / page_of_eeprom s + 1

starts : (s : Size) (o n : ℕ) → begin_at s o n 0 - o ≡ 0
starts C02 o n = omega arith
starts C32 o n = omega arith
starts C256 o n = omega arith

some_bytes : (s : Size) (o n p : ℕ) → 1 ≤ n → p < pieces_of s o n → begin_at s o n p < end_at s o n p
some_bytes C02 o n p some within = omega (arith, some, within)
some_bytes C32 o n p some within = omega (arith, some, within)
some_bytes C256 o n p some within = omega (arith, some, within)

one_page : (s : Size) (o n p : ℕ) → 1 ≤ n → p < pieces_of s o n
    → (end_at s o n p - 1) / page_of_eeprom s ≡ begin_at s o n p / page_of_eeprom s
one_page C02 o n p some within = omega (arith, some, within)
one_page C32 o n p some within = omega (arith, some, within)
one_page C256 o n p some within = omega (arith, some, within)

-- after a piece stands the next one, or the end
goes_on : (s : Size) (o n p : ℕ) → 1 ≤ n → p < pieces_of s o n
    → min n (begin_at s o n (p + 1) - o) ≡ min n (begin_at s o n p - o) + (end_at s o n p - begin_at s o n p)
goes_on C02 o n p some within = omega (arith, some, within)
goes_on C32 o n p some within = omega (arith, some, within)
goes_on C256 o n p some within = omega (arith, some, within)

within_bytes : (s : Size) (o n p : ℕ) → 1 ≤ n → p < pieces_of s o n → begin_at s o n p - o ≤ n
within_bytes C02 o n p some within = omega (arith, some, within)
within_bytes C32 o n p some within = omega (arith, some, within)
within_bytes C256 o n p some within = omega (arith, some, within)

ends : (s : Size) (o n : ℕ) → 1 ≤ n → n ≤ begin_at s o n (pieces_of s o n) - o
ends C02 o n some = omega (arith, some)
ends C32 o n some = omega (arith, some)
ends C256 o n some = omega (arith, some)

pub has_bytes : PiecesHaveBytes
has_bytes w is piece within = some_bytes w.of.size w.offset (length w.bytes) piece is.some within

pub keeps_to_page : PiecesKeepToPages
keeps_to_page w is piece within = one_page w.of.size w.offset (length w.bytes) piece is.some within

-- ---- the bytes of the first pieces

module _ (w : PageWriteView) (is : IsPageWrite w) where
  abbrev n : ℕ
  n = length w.bytes

  front : (k : ℕ) → k ≤ write_pieces w → parts (write_bytes w) k ≡ take (min n (write_begin w k - w.offset)) w.bytes
  unfolding parts
  front zero within = let none : min n (write_begin w 0 - w.offset) ≡ 0 = omega (arith, starts w.of.size w.offset n) in
      ap (λ j. take j w.bytes) (sym none)
  front (suc k) within =
      let less : k < write_pieces w = omega (arith, within) in
      let at : ℕ = write_begin w k - w.offset in
      let own : ℕ = write_end w k - write_begin w k in
      let here : min n at ≡ at = omega (arith, within_bytes w.of.size w.offset n k is.some less) in
      let next : min n (write_begin w (suc k) - w.offset) ≡ min n at + own =
      ap (λ j. min n (write_begin w j - w.offset)) (sym (add-one k)) ∙ goes_on w.of.size w.offset n k is.some less in
      ap (λ t. t ++ write_bytes w k) (front k (omega (arith, less)) ∙ ap (λ j. take j w.bytes) here)
      ∙ sym (take-add at own w.bytes) ∙ ap (λ j. take (j + own) w.bytes) (sym here) ∙ ap (λ j. take j w.bytes) (sym next)

  all : parts (write_bytes w) (write_pieces w) ≡ w.bytes
  all =
      let whole : min n (write_begin w (write_pieces w) - w.offset) ≡ n = omega (arith, ends w.of.size w.offset n is.some) in
      front (write_pieces w) (omega arith) ∙ ap (λ j. take j w.bytes) whole ∙ take_all n w.bytes (omega arith)

pub writes_all : PiecesAreTheWrite
writes_all w is = all w is
