use Rattle.bus_core.proofs.Cited.{ℕ, List, ap, ◌∙◌, logs_of}
use Rattle.bus_core.proofs.Told.{opened-with, uncalled-told}
use Rattle.bus_core.proofs.bus.BusCore.open.Goals as goal

pub returns-clause-opening : goal.returns-clause-opening
returns-clause-opening g c = opened-with g.P.Port g.C.Caller c.args.board.now c.args.ports.items c.args.callers.items c.args.limit
    c.in_ok-open.field-0 c.in_ok-open.ensures.opened

pub returns-clause-logs : goal.returns-clause-logs
returns-clause-logs g c tell =
    ap (λ (ps : List (ℕ × _)). logs_of g.P.Port.log ps) c.in_ok-open.ensures.opened.ports_are
    ∙ uncalled-told g.P.Port.log c.args.ports.items (λ k x at. (c.requires.worlds tell k x at).1)
