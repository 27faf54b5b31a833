use Rattle.bus_lines.proofs.Cited.{drop, ap, ◌∙◌, arith, is_wired, is_own, ApartView}
use Rattle.std.proofs.lemmas.List.{length-drop, take_all}
use Rattle.bus_lines.proofs.ApartLemmas.{wired_own}
use Rattle.bus_lines.proofs.apart.Apart.is_own.Goals as goal

pub returns : goal.returns
returns c =
    let s = c.self.inside in
    let ps = c.deref.result.now in
    let long = length-drop s.muxes ps in
    c.is_wired.ensures
    ∙ ap (λ qs. is_wired qs c.args.number) (take_all _ (drop s.muxes ps) (omega (arith, long)))
    ∙ wired_own s.board.value s.root s.muxes c.args.number ps c.self.invariant.count (c.deref.ensures.value ∙ c.self.invariant.places)
    ∙ ap (λ (a : ApartView). is_own a.rooted.board a.rooted.root c.args.number) c.self.view_is
