-- What the reads of some messages give is within what those messages stand for. The induction goes over the messages.
use Rattle.std.proofs.Common.{◌≡◌, ◌≤◌, ◌+◌, ◌-◌, ℕ, Bool, true, false, List, [], ◌∷◌, length, refl, ap, arith}
use Rattle.std.specs.Prelude.{drop, sum_by, MatchBool, if◌then◌else◌}
use Rattle.std.specs.List.{All}
use Rattle.std.proofs.lemmas.List.{length-drop}
use Rattle.std.proofs.lemmas.List.Elements.{All-head, All-tail}
use Rattle.std.proofs.lemmas.List.Sums.{sum_by-cons}
use Rattle.i2c_base.specs.declared.transfer.Msg.{Msg}
use Rattle.i2c_base.specs.Fitting.{count_of, FitsReads}
use Rattle.i2c_base.specs.Transfer.{IsMessage, is_read, is_counted, size_of, COUNTED_SIZE}

pub reads-size : (ms : List Msg) (bytes : List ℕ) → All IsMessage ms → FitsReads ms bytes → length bytes ≤ sum_by size_of ms
reads-size [] bytes each fits = (let none : length bytes ≡ 0 = ap length fits in omega (arith, none))
reads-size (m ∷ ms) bytes each fits =
    by (is_read m) (is_counted m) refl (λ is. ((All-head IsMessage m ms each).1 is).2) fits
    (λ ys f. reads-size ms ys (All-tail IsMessage m ms each) f)
  where
    by : (r c : Bool) → is_counted m ≡ c → (c ≡ true → m.len ≤ 2)
        → MatchBool r (MatchBool c (((1 ≤ count_of bytes) × (count_of bytes ≤ 255) × (m.len + count_of bytes ≤ length bytes))
        × FitsReads ms (drop (m.len + count_of bytes) bytes)) ((m.len ≤ length bytes) × FitsReads ms (drop m.len bytes)))
        (FitsReads ms bytes)
        → ((ys : List ℕ) → FitsReads ms ys → length ys ≤ sum_by size_of ms) → length bytes ≤ sum_by size_of (m ∷ ms)
    by true true is short h more =
        let size : size_of m ≡ COUNTED_SIZE = ap (λ (c : Bool). if c then COUNTED_SIZE else m.len) is in
        let low : m.len ≤ 2 = short refl in
        let many : count_of bytes ≤ 255 = h.0.1 in
        let rest : length (drop (m.len + count_of bytes) bytes) ≤ sum_by size_of ms = more (drop (m.len + count_of bytes) bytes) h.1 in
        let left : length (drop (m.len + count_of bytes) bytes) ≡ length bytes - (m.len + count_of bytes) = length-drop
        (m.len + count_of bytes) bytes in
        omega (arith, size, low, many, rest, left, sum_by-cons size_of m ms)
    by true false is short h more =
        let size : size_of m ≡ m.len = ap (λ (c : Bool). if c then COUNTED_SIZE else m.len) is in
        let rest : length (drop m.len bytes) ≤ sum_by size_of ms = more (drop m.len bytes) h.1 in
        let left : length (drop m.len bytes) ≡ length bytes - m.len = length-drop m.len bytes in
        omega (arith, size, rest, left, sum_by-cons size_of m ms)
    by false c is short h more =
        let rest : length bytes ≤ sum_by size_of ms = more bytes h in
        omega (arith, rest, sum_by-cons size_of m ms)
