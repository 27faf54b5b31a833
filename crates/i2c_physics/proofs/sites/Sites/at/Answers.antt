use Rattle.i2c_physics.proofs.Cited.{◌<◌, length, get_or, ap, ◌∙◌, arith, numbers_at}
use Rattle.i2c_physics.proofs.SiteLemmas.{length-at, listed-at}
use Rattle.i2c_physics.proofs.sites.Sites.at.Goals as goal

pub returns-clause-value : goal.returns-clause-value
returns-clause-value c =
    let s = c.self.inside in
    let v = c.index.result.now in
    let low : c.args.addr < 128 = omega (arith, c.get.ensures.range.1) in
    let at = c.index.ensures ∙ ap (λ i. get_or s.at.items i v) (c.from.ensures ∙ c.get.ensures.value) in
    c.as_slice.ensures.value ∙ listed-at (λ numbers. numbers.items) s.places.items s.at.items c.self.invariant c.args.addr low v at
    ∙ ap (λ places. numbers_at places c.args.addr) c.self.view_is

pub returns-clause-few : goal.returns-clause-few
returns-clause-few c =
    let count = ap length (returns-clause-value c) in
    omega (arith, count, length-at c.args.self.now c.args.addr, ap length c.self.view_is, c.self.invariant.few)
