use Rattle.i2c_physics.proofs.Cited.{false, sym, ◌∙◌, ap, option_map_or, PlaceView}
use Rattle.i2c_physics.proofs.StepLemmas.{at-place}
use Rattle.i2c_physics.proofs.sites.is_wired.Goals as goal

pub returns-in-Some : goal.returns-in-Some
returns-in-Some c =
    c.is_wired.ensures ∙ sym (ap (λ o. option_map_or (λ p. p.now.wired) o false) c.in-Some.is)
    ∙ at-place (λ (p : PlaceView). p.wired) c.args.places.now c.args.number c.get.result c.get.ensures.lookup

pub returns-in-None : goal.returns-in-None
returns-in-None c =
    sym (ap (λ o. option_map_or (λ p. p.now.wired) o false) c.in-None.is)
    ∙ at-place (λ (p : PlaceView). p.wired) c.args.places.now c.args.number c.get.result c.get.ensures.lookup
