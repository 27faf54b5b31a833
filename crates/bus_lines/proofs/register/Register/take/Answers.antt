use Rattle.bus_lines.proofs.Cited.{ℕ, ◌+◌, ◌-◌, ◌^◌, ◌<◌, subst, sym, arith, RegisterView}
use Rattle.std.proofs.Common.{◌*◌}
use Rattle.tgt_bits.proofs.BitLemmas.{next_fits}
use Rattle.bus_lines.proofs.register.Register.take.Goals as goal

pub invariant_of-self : goal.invariant_of-self
invariant_of-self c =
    let old = c.self.inside in
    let some : 0 < old.left = subst (λ (r : RegisterView). 0 < r.left) (sym c.self.view_is) c.requires in
    let fits = next_fits old.value old.left c.args.level some c.self.invariant.0 c.self.invariant.1 in
    (omega arith, subst (λ (d : ℕ). 2 * old.value + d < 2 ^ (8 - (old.left - 1))) (sym c.from.ensures) fits)
