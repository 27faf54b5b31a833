use Rattle.i2c_top.proofs.Cited.{ℕ, List, map, ap, ◌∙◌, sym, subst, Entry, Follows}
use Rattle.i2c_top.proofs.CoreLemmas.{as-one}
use Rattle.i2c_top.proofs.callers.finished.Goals as goal

pub returns-clause-left : goal.returns-clause-left
returns-clause-left g c =
    as-one g.P.Port g.C.Caller c.args.board.now c.args.callers.items c.args.ports.items c.in_ok-parts.parts c.of_one.result
    c.in_ok-parts.ensures.left c.of_one.ensures

pub returns-clause-follows : goal.returns-clause-follows
returns-clause-follows g c tells =
    subst (λ (es : List Entry). Follows c.args.words.now es) (sym c.of_one.ensures.entries) (c.in_ok-parts.ensures.follows tells)

pub returns-clause-setups : goal.returns-clause-setups
returns-clause-setups g c =
    ap (λ (ps : _). map (λ (p : ℕ × g.row.P.Denot). g.P.Port.setup p.1) ps.items) c.of_one.ensures.ports ∙ c.in_ok-parts.ensures.setups
