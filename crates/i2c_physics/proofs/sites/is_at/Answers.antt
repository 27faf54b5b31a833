use Rattle.i2c_physics.proofs.Cited.{false, sym, ◌∙◌, ap, option_map_or, has_address, PlaceView, has_at}
use Rattle.i2c_physics.proofs.StepLemmas.{at-place}
use Rattle.i2c_physics.proofs.sites.is_at.Goals as goal

pub returns-in-Some : goal.returns-in-Some
returns-in-Some c =
    c.is_at.ensures ∙ sym (ap (λ o. option_map_or (λ p. has_address c.args.address p.now.addr) o false) c.in-Some.is)
    ∙ at-place (λ (p : PlaceView). has_address c.args.address p.addr) c.args.places.now c.from.result c.get.result c.get.ensures.lookup
    ∙ ap (λ k. has_at c.args.address c.args.places.now k) c.from.ensures

pub returns-in-None : goal.returns-in-None
returns-in-None c =
    sym (ap (λ o. option_map_or (λ p. has_address c.args.address p.now.addr) o false) c.in-None.is)
    ∙ at-place (λ (p : PlaceView). has_address c.args.address p.addr) c.args.places.now c.from.result c.get.result c.get.ensures.lookup
    ∙ ap (λ k. has_at c.args.address c.args.places.now k) c.from.ensures
