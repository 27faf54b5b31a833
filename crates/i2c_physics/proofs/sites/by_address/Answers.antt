use Rattle.i2c_physics.proofs.Cited.{◌≡◌, length, map, ap, ◌∙◌, arith, range_with_len, numbers_below}
use Rattle.i2c_physics.proofs.sites.by_address.Goals as goal

pub loop-number-init : goal.loop-number-init
loop-number-init c = c.in_ok-at.ensures

pub returns : goal.returns
returns c =
    let places = c.args.places.now in
    let all : c.loop-number.number ≡ length places = omega (arith, c.loop-number-test.false, c.loop-number.auto.number-end) in
    c.loop-number.invariant ∙ ap (λ n. map (numbers_below places n) (range_with_len 0 128)) all
