use Rattle.journal_check.proofs.Cited.{◌≡◌, ◌++◌, [], ◌∷◌, length, sym, ◌∙◌, ap, PortView, entries_of}
use Rattle.journal_check.proofs.PortLemmas.{gaps-here, opened-all, opened-count, opened-here, opened-next}
use Rattle.journal_check.proofs.told_port.told_ports.Goals as goal

pub open-requires : goal.open-requires
open-requires g c =
    let b = c.args.board.now in
    let came = c.loop-root.yielded in
    let at = c.loop-root.invariant in
    let number : c.len.result ≡ length came =
    c.len.ensures ∙ c.loop-root.ports.ok.0 ∙ opened-count b c.args.gaps.items came _ _ c.loop-root.ports.items at in
    c.into_gaps.ensures
    ∙ gaps-here b (entries_of c.args.lines.now) (length came) c.in-Some.root
    (c.requires.told.told (length came) c.in-Some.root
    (opened-here b c.args.gaps.items came _ _ c.loop-root.ports.items at _ c.in-Some.root c.in-Some.ensures.steps.0))
    ∙ sym (c.requires.named (length came)) ∙ ap g.N.Telling.gaps (sym number)

pub loop-root-preserved : goal.loop-root-preserved
loop-root-preserved g c =
    let b = c.args.board.now in
    let came = c.loop-root.yielded in
    let at = c.loop-root.invariant in
    let number : c.len.result ≡ length came =
    c.len.ensures ∙ c.loop-root.ports.ok.0 ∙ opened-count b c.args.gaps.items came _ _ c.loop-root.ports.items at in
    opened-next b c.args.gaps.items came _ _ c.loop-root.ports.items at _ c.in-Some.root c.len.result _ c.push.new.self.items
    c.in-Some.ensures.steps.0 c.in-Some.ensures.steps.1 number
    (c.in_ok-push.ensures.items ∙ ap (λ (p : PortView). c.loop-root.ports.items ++ (c.len.result, p) ∷ []) c.in_ok-port.ensures)

pub returns : goal.returns
returns g c =
    opened-all c.args.board.now c.args.gaps.items c.loop-root.yielded _ _ c.loop-root.ports.items c.loop-root.invariant
    c.in-None.ensures.steps.0 c.requires.told.count
