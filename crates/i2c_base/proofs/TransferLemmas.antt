-- The bytes that a transfer writes are within the sum of its sizes. The induction goes over the messages.
use Rattle.std.proofs.Common.{◌≡◌, ℕ, ◌≤◌, Bool, true, false, cond, refl, List, [], ◌∷◌, arith}
use Rattle.std.specs.Prelude.{All, sum_by}
use Rattle.std.proofs.lemmas.List.Sums.{sum_by-cons}
use Rattle.std.proofs.lemmas.List.Elements.{All-head, All-tail}
use Rattle.i2c_base.specs.declared.transfer.Msg.{Msg}
use Rattle.i2c_base.specs.Transfer.{is_read, is_counted, size_of, written_of, COUNTED_SIZE, IsMessage}

-- what a message writes is within its size: a counted message reads
written_within : (r c : Bool) (len : ℕ) → (c ≡ true → r ≡ true) → cond r 0 len ≤ cond c COUNTED_SIZE len
written_within true true len f = omega arith
written_within true false len f = omega arith
written_within false false len f = omega arith
written_within false true len f = absurd (let e : false ≡ true = f refl in cc)

pub written_size : (ms : List Msg) → All IsMessage ms → sum_by written_of ms ≤ sum_by size_of ms
written_size [] all = omega arith
written_size (m ∷ ms) all =
    let here = All-head IsMessage m ms all in
    let first = written_within (is_read m) (is_counted m) m.len (λ c. (here.1 c).0) in
    let rest = written_size ms (All-tail IsMessage m ms all) in
    omega (arith, sum_by-cons written_of m ms, sum_by-cons size_of m ms)
