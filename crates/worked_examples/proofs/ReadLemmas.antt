-- How often SCL rose on ports of which one was read.
use Rattle.std.proofs.Common.{◌≡◌, ℕ, ◌+◌, ◌<◌, ◌≤◌, List, [], length, get_or, set, ap, ◌∙◌, arith}
use Rattle.std.specs.Prelude.{All, sum_by}
use Rattle.std.proofs.lemmas.List.Elements.{All-get_or, All-weaker}
use Rattle.std.proofs.lemmas.List.Sums.{sum_by-le, sum_by-set}
use Rattle.wire_spec.specs.Bus.{Seen, edges_in}
use Rattle.i2c_bits.specs.PortViews.{BitPortView}
use Rattle.i2c_physics.specs.BitRigs.{edges_of}
use Rattle.worked_examples.specs.Reads.{read_seen}

-- nothing was seen on its wires
abbrev pub IsStill : BitPortView → Type 0
IsStill p = p.seen ≡ []

none_rose : (ps : List BitPortView) → All IsStill ps → sum_by (λ (p : BitPortView). edges_in p.seen) ps ≡ 0
none_rose ps still =
    let none : All (λ (p : BitPortView). edges_in p.seen ≤ 0) ps =
    All-weaker IsStill (λ (p : BitPortView). edges_in p.seen ≤ 0) (λ p is. let e = ap edges_in is in omega (arith, e)) ps still in
    omega (arith, sum_by-le (λ (p : BitPortView). edges_in p.seen) 0 ps none)

-- SCL rises nine times for each address and for each byte, and once before the repeated start and before the stop
pub read_edges : (addr register byte : ℕ) (old new : Seen) → new ≡ read_seen addr register byte old → edges_in new ≡ edges_in old + 38
read_edges addr register byte old new is = ap edges_in is ∙ omega arith

-- where it rose so often on the first of them alone, it rose so often on all
pub edges_of_one : (ps : List BitPortView) (old new : BitPortView) (n : ℕ) → 0 < length ps → All IsStill ps → n < 256
    → old ≡ get_or ps 0 old
    → edges_in new.seen ≡ edges_in old.seen + n → edges_of (set ps 0 new) ≡ n
edges_of_one ps old new n some still small first rose =
    let was = ap edges_in (All-get_or IsStill ps 0 old some still) in
    let same = ap (λ (p : BitPortView). edges_in p.seen) first in
    omega (arith, none_rose ps still, sum_by-set (λ (p : BitPortView). edges_in p.seen) ps 0 new old some, was, same, rose, small)
