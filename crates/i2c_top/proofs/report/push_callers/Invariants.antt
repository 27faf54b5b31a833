use Rattle.i2c_top.proofs.Cited.{◌≡◌, ◌++◌, drop, map, sections}
use Rattle.i2c_top.proofs.report.push_callers.Given as goal

abbrev pub invariant-loop-place : goal.invariant-loop-place
invariant-loop-place g l =
    l.out.items ++ sections l.place (map (λ s. g.C.Printer.printed (g.C.Caller.script s.caller) (g.C.Caller.taken s.caller))
    (drop l.place l.callers))
    ≡ l.fn.out.items ++ sections 0 (map (λ s. g.C.Printer.printed (g.C.Caller.script s.caller) (g.C.Caller.taken s.caller)) l.callers)
