use Rattle.bus_groups.proofs.Cited.{◌≡◌, ◌∷◌, [], ◌++◌, length, sym, ◌∙◌, ap, arith, length-range_with_len}
use Rattle.bus_groups.proofs.HomeLemmas.{range-more}
use Rattle.bus_groups.proofs.homes.own_homes.Goals as goal

pub push-requires : goal.push-requires
push-requires c =
    let len : length c.loop-root.homes.items ≡ c.loop-root.root = ap length c.loop-root.invariant
    ∙ length-range_with_len 0 c.loop-root.root in
    let test = c.loop-root-test.true in
    let few = c.requires in
    (omega arith, omega (arith, len, test, few))

pub loop-root-preserved : goal.loop-root-preserved
loop-root-preserved c = c.push.ensures.items ∙ ap (λ xs. xs ++ c.loop-root.root ∷ []) c.loop-root.invariant
    ∙ sym (range-more c.loop-root.root)
