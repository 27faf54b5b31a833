use Rattle.i2c_top.proofs.Cited.{ℕ, ◌++◌, List, codes, map, ◌∙◌, ap, sections}
use Rattle.i2c_top.proofs.Pieces.{reported}
use Rattle.i2c_top.proofs.report.report_of_callers.Goals as goal

pub returns : goal.returns
returns g c =
    let texts : List (List ℕ) = map (λ s. g.C.Printer.printed (g.C.Caller.script s.caller) (g.C.Caller.taken s.caller))
    c.args.callers.now in
    c.new.ensures ∙ reported (sections 0 texts) c.push_bytes.new.out.items c.in_ok-back.back.items c.args.journals.items
    c.pop.new.self.items c.pop.result
    (c.in_ok-push_bytes.ensures ∙ ap (λ (xs : List ℕ). xs ++ codes "journal\n") (c.in_ok-push_callers.ensures
    ∙ ap (λ (xs : List ℕ). xs ++ sections 0 texts) c.new-front.ensures.items))
    c.pop.ensures.items c.in_ok-back.ensures
