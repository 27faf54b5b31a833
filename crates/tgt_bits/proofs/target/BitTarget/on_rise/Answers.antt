use Rattle.std.proofs.Common.{ℕ, ◌+◌, ◌-◌, ◌*◌, ◌^◌, ◌<◌, subst, sym, arith}
use Rattle.tgt_bits.specs.Targets.{IsMode}
use Rattle.tgt_bits.proofs.BitLemmas.{next_fits}
use Rattle.tgt_bits.proofs.target.BitTarget.on_rise.Goals as goal

pub invariant_of-self : goal.invariant_of-self
invariant_of-self g c =
    let m = subst IsMode c.in-In.is c.self.invariant in
    let few = m.1 in
    let fits = next_fits c.in-In.value c.in-In.left c.args.level m.0 m.1 m.2 in
    (omega arith, omega arith, subst (λ (d : ℕ). 2 * c.in-In.value + d < 2 ^ (8 - (c.in-In.left - 1))) (sym c.from.ensures) fits)
