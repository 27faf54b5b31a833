use Rattle.bus_lines.proofs.Cited.{◌≡◌, ◌-◌, ◌^◌, ◌<◌, ℕ, subst, sym, arith, nat_tests}
use Rattle.bus_lines.proofs.TargetsLemmas.{seen_alone}
use Rattle.bus_lines.proofs.message.spread.Goals as goal

pub spread_each-requires-clause-mode : goal.spread_each-requires-clause-mode
spread_each-requires-clause-mode c =
    let some : 0 < c.args.address.now.left = grind (arith, nat_tests, c.if-is_coming.true, c.is_coming.ensures) in (
      subst (λ (left : ℕ). 0 < left) (sym c.left.ensures.value) some,
      c.left.ensures.few,
      subst (λ (left : ℕ). c.value.result < 2 ^ (8 - left)) (sym c.left.ensures.value) c.value.ensures.fits,
    )

pub returns-else-is_coming-clause-bits : goal.returns-else-is_coming-clause-bits
returns-else-is_coming-clause-bits c =
    let none : c.args.address.now.left ≡ 0 = grind (arith, nat_tests, c.if-is_coming.false, c.is_coming.ensures) in
    sym (seen_alone c.args.address.now.left c.args.address.now.value c.args.bits.now.items none)
