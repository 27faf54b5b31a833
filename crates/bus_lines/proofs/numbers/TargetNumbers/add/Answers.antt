use Rattle.bus_lines.proofs.Cited.{◌≡◌, ◌<◌, false, List, [], ◌∷◌, ◌++◌, ℕ, sym, ap, ◌∙◌, subst, vec_capacity, length, arith, is_among}
use Rattle.bus_lines.proofs.Cited.{AreNumbers, NumbersView}
use Rattle.std.proofs.Common.{vec_len}
use Rattle.bus_lines.proofs.NumbersLemmas.{one_more, room_more}
use Rattle.bus_lines.proofs.numbers.TargetNumbers.add.Goals as goal
use Rattle.bus_lines.proofs.numbers.TargetNumbers.add.Goals.{Then-not-is_among}

-- the number isn't among them yet, and is that of a target
out : (c : Then-not-is_among) → is_among c.self.inside.numbers.items c.args.number ≡ false
out c = ap (λ ms. is_among ms c.args.number) (sym c.as_slice.ensures.value) ∙ sym c.is_among.ensures ∙ c.if-not-is_among.true

low : (c : Then-not-is_among) → c.args.number < vec_capacity c.self.inside.numbers
low c = subst (λ (v : NumbersView). c.args.number < v.room) (sym c.self.view_is) c.requires

pub push_reserved-requires : goal.push_reserved-requires
push_reserved-requires c =
    let ns = c.self.inside.numbers.items in
    let g = (goal.at.push_reserved-requires c).Then-not-is_among in
    let fits = room_more (vec_capacity c.self.inside.numbers) ns c.args.number c.self.invariant.0 (out g) (low g) in
    let len : length ns ≡ vec_len c.self.inside.numbers = ap length (sym c.as_slice.ensures.value) ∙ c.as_slice.ensures.len in
    omega (arith, fits, len)

pub invariant_of-self : goal.invariant_of-self
invariant_of-self c =
    let ns = c.self.inside.numbers.items in
    let g = (goal.at.invariant_of-self c).Then-not-is_among in
    let more = one_more (vec_capacity c.self.inside.numbers) ns c.args.number c.self.invariant.0 (out g) (low g) in (
      subst (λ (ms : List ℕ). AreNumbers (vec_capacity c.push_reserved.new.self) ms) (sym c.push_reserved.ensures.items)
          (subst (λ (r : ℕ). AreNumbers r (ns ++ c.args.number ∷ [])) (sym c.push_reserved.ensures.capacity) more),
      rw c.push_reserved.ensures.capacity c.self.invariant.1,
    )
