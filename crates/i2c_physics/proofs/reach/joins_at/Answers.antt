use Rattle.i2c_physics.proofs.Cited.{false, sym, ◌∙◌, ap, option_map_or, joins, joins_at}
use Rattle.i2c_physics.proofs.StepLemmas.{at-place}
use Rattle.i2c_physics.proofs.reach.joins_at.Goals as goal

pub returns-in-Some : goal.returns-in-Some
returns-in-Some c =
    c.joins.ensures ∙ sym (ap (λ o. option_map_or (λ p. joins c.args.chips.now p.now) o false) c.in-Some.is)
    ∙ at-place (joins c.args.chips.now) c.args.places.now c.from.result c.get.result c.get.ensures.lookup
    ∙ ap (λ k. joins_at c.args.chips.now c.args.places.now k) c.from.ensures

pub returns-in-None : goal.returns-in-None
returns-in-None c =
    sym (ap (λ o. option_map_or (λ p. joins c.args.chips.now p.now) o false) c.in-None.is)
    ∙ at-place (joins c.args.chips.now) c.args.places.now c.from.result c.get.result c.get.ensures.lookup
    ∙ ap (λ k. joins_at c.args.chips.now c.args.places.now k) c.from.ensures
