use Rattle.i2c_physics.proofs.Cited.{length, ap, ◌∙◌, filter, range_with_len, joins_at, has_at}
use Rattle.i2c_physics.proofs.NumberLemmas.{filter_both}
use Rattle.i2c_physics.proofs.reach.Reach.call.Goals as goal

pub returns-clause-told : goal.returns-clause-told
returns-clause-told c =
    let chips = c.args.chips.now in
    let places = c.args.sites.now in
    c.joined.ensures ∙ ap (λ ps. filter (joins_at chips ps) c.at.result.now) c.as_slice-places.ensures
    ∙ ap (filter (joins_at chips places)) c.at.ensures.value
    ∙ filter_both (has_at c.args.addr places) (joins_at chips places) (range_with_len 0 (length places))
