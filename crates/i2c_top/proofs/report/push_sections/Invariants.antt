use Rattle.i2c_top.proofs.Cited.{◌≡◌, ◌++◌, drop, map, sections}
use Rattle.i2c_top.proofs.report.push_sections.Given as goal

abbrev pub invariant-loop-caller : goal.invariant-loop-caller
invariant-loop-caller l =
    l.out.items ++ sections l.caller (map (λ v. v.items) (drop l.caller l.texts)) ≡ l.fn.out.items ++ sections 0
    (map (λ v. v.items) l.texts)
