use Rattle.i2c_physics.proofs.Cited.{◌≡◌, map, range_with_len, numbers_below}
use Rattle.i2c_physics.proofs.sites.by_address.Given as goal

abbrev pub invariant-loop-number : goal.invariant-loop-number
invariant-loop-number l =
    map (λ numbers. numbers.items) l.at.items ≡ map (numbers_below l.places l.number) (range_with_len 0 128)
