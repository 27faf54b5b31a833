use Rattle.i2c_physics.proofs.Cited.{◌≡◌, ◌<◌, Some, None, get_or, ap, sym, ◌∙◌, arith}
use Rattle.i2c_physics.proofs.SiteLemmas.{listed-here, listed-nowhere}
use Rattle.i2c_physics.proofs.sites.list_number.Goals as goal

pub returns-in_ok-push : goal.returns-in_ok-push
returns-in_ok-push c =
    let places = c.args.places.now in
    let place = c.index-places-from.result in
    let at = c.from-in-Some.ensures ∙ c.get.ensures.value in
    let some : place.addr ≡ Some c.from-in-Some.result = sym c.addr.ensures ∙ c.in-Some.is ∙ ap Some (sym at) in
    let within : c.from-in-Some.result < 128 = omega (arith, at, c.get.ensures.range.1) in
    listed-here places c.args.number place c.requires.there (c.index-places-from.is ∙ ap (λ k. get_or places k place) c.from.ensures)
    (λ numbers. numbers.items) c.args.at.now.items c.requires.listed c.from-in-Some.result some within c.index_mut.result.now
    c.push.new.self c.index_mut.ensures.value c.in_ok-push.ensures.items

pub returns-in_default : goal.returns-in_default
returns-in_default c =
    let places = c.args.places.now in
    let place = c.index-places-from.result in
    let none : place.addr ≡ None = sym c.addr.ensures ∙ c.in_default.is in
    c.requires.listed
    ∙ listed-nowhere places c.args.number place c.requires.there
    (c.index-places-from.is ∙ ap (λ k. get_or places k place) c.from.ensures) none
