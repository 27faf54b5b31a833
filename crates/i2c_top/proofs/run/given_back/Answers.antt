use Rattle.i2c_top.proofs.Cited.{◌≡◌, List, length, map, sym, ◌∙◌, ap, subst, length-map, PortCall, World, AreWorldsOf, devices_of}
use Rattle.i2c_top.proofs.Cited.{AreCounted, map_map}
use Rattle.i2c_top.proofs.CoreLemmas.{ports-counted}
use Rattle.i2c_top.proofs.run.given_back.Goals as goal

pub returns-clause-given : goal.returns-clause-given
returns-clause-given g c =
    λ tells tell.
    let b = g.R.Rig.board_of c.args.rig.now in
    let row = g.R.P.Port in
    let logs : List (List PortCall) = map (λ p. row.log p.1) c.args.ports.items in
    let alone = c.alone.ensures.ports in
    let given : map row.world c.alone.result.items ≡ map (λ p. row.world p.1) c.args.ports.items =
    ap (map row.world) alone ∙ map_map row.world (λ p. p.1) c.args.ports.items in
    let logged : map row.log c.alone.result.items ≡ logs = ap (map row.log) alone ∙ map_map row.log (λ p. p.1) c.args.ports.items in
    let states = g.R.Rig.states c.unplug.new.self in
    let kept = g.R.Rig.logs c.unplug.new.self in
    record {
      devices = subst (λ (ws : List World). AreWorldsOf b ws → states ≡ devices_of b ws) given (c.unplug.ensures.states tells tell);
      logged = λ are. subst (λ (ws : List World). AreWorldsOf b ws → kept ≡ map row.log c.alone.result.items) given
          (c.unplug.ensures.logs tells tell) are ∙ logged;
      counted = λ count.
          subst (AreCounted b logs) (sym (c.unplug.ensures.counts tells))
          (subst (λ (ls : List (List PortCall)). AreCounted b ls (map row.faults c.alone.result.items)) logged
          (ports-counted row b c.alone.result.items tell
          (sym (length-map c.alone.result.items row.log) ∙ ap (λ (ls : List (List PortCall)). length ls) logged ∙ count)
          c.alone.ensures.accounts));
    }

pub returns-clause-returned : goal.returns-clause-returned
returns-clause-returned g c tells =
    c.unplug.ensures.returned tells ∙ ap (map g.R.P.Port.setup) c.alone.ensures.ports
    ∙ map_map g.R.P.Port.setup (λ p. p.1) c.args.ports.items
